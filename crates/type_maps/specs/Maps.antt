-- Type maps (MPI 3.1, 4.1.1): which element of a basic type stands at which byte, in which order.
use Rattle.std.specs.Prelude.{ℕ, zero, suc, ℤ, pos, ◌+ℤ◌, List, [], ◌∷◌, ◌++◌, map}
use Rattle.std.specs.List.{flat_map}
use Rattle.type_maps.specs.declared.basic.Basic.{Basic}
use Rattle.type_maps.specs.declared.places.Places.{Places}

-- an element of a basic type, and the byte at which it begins, counted from the buffer's address
pub record Element : Type 0 where
  pub basic : Basic
  pub at : ℤ

-- a type map: its elements in their order, and the markers of its lower and of its upper bound (4.1.7)
pub record Map : Type 0 where
  pub elements : List Element
  pub lower_marks : List ℤ
  pub upper_marks : List ℤ

abbrev pub no_elements : Map
no_elements = record { elements = []; lower_marks = []; upper_marks = [] }

-- one element of a basic type, at 0
abbrev pub one_of : Basic → List Element
one_of b = record { basic = b; at = pos 0 } ∷ []

-- the map of a basic type
abbrev pub map_of_basic : Basic → Map
map_of_basic b = record { elements = one_of b; lower_marks = []; upper_marks = [] }

-- numbers of bytes, moved on
abbrev pub moved_numbers : ℤ → List ℤ → List ℤ
moved_numbers by xs = map (λ x. by +ℤ x) xs

-- elements, moved on
abbrev pub moved : ℤ → List Element → List Element
moved by es = map (λ (e : Element). record { basic = e.basic; at = by +ℤ e.at }) es

-- so many places, the first at a byte, each further one a stride behind the one before it
abbrev pub places : ℤ → ℕ → ℤ → List ℤ
places at zero stride = []
places at (suc n) stride = at ∷ places (at +ℤ stride) n stride

abbrev pub places_of : Places → List ℤ
places_of p = places p.at p.count p.stride

-- a copy of the elements at each place, in the order of the places
abbrev pub copied_elements : List ℤ → List Element → List Element
copied_elements at es = flat_map (λ place. moved place es) at

abbrev pub copied_numbers : List ℤ → List ℤ → List ℤ
copied_numbers at xs = flat_map (λ place. moved_numbers place xs) at

-- a copy of a map at each place: all that it has is copied, its markers too
abbrev pub copied : List ℤ → Map → Map
copied at m = record {
  elements = copied_elements at m.elements;
  lower_marks = copied_numbers at m.lower_marks;
  upper_marks = copied_numbers at m.upper_marks;
}

-- one map, and behind it another one
abbrev pub joined : Map → Map → Map
joined m n = record {
  elements = m.elements ++ n.elements;
  lower_marks = m.lower_marks ++ n.lower_marks;
  upper_marks = m.upper_marks ++ n.upper_marks;
}

abbrev pub joined_all : List Map → Map
joined_all [] = no_elements
joined_all (m ∷ ms) = joined m (joined_all ms)

-- bytes one behind the other
abbrev pub row : ℤ → ℕ → List ℤ
row at length = places at length (pos 1)

-- the bytes of the data, in the order of the elements: the order in which they go into a message (4.1.11)
abbrev pub bytes_of : List Element → List ℤ
bytes_of es = flat_map (λ (e : Element). row e.at e.basic.size) es

-- the type signature: the basic types in their order (4.1.1)
abbrev pub signature : Map → List ℕ
signature m = map (λ (e : Element). e.basic.code) m.elements
