-- Committed types: entries that spell a map's elements without an entry for each copy.
use Rattle.std.specs.Prelude.{◌≡◌, ℕ, ◌*◌, ◌≤◌, ℤ, pos, List, [], ◌∷◌, length, take, drop}
use Rattle.std.specs.List.{flat_map}
use Rattle.type_maps.specs.declared.places.Places.{Places}
use Rattle.type_maps.specs.declared.entry.Body.{Body}
use Rattle.type_maps.specs.declared.entry.Entry.{Entry}
use Rattle.type_maps.specs.declared.entry.Entry.TheVariants.{Elements, Copies}
use Rattle.type_maps.specs.Maps.{Element, Map, one_of, places, places_of, copied_elements, copied_numbers, row}
use Rattle.type_maps.specs.Maps.{bytes_of}
use Rattle.type_maps.specs.Summaries.{size_of}

-- the elements of items, in order
abbrev pub all_of : {X : Type 0} → List (List X) → List X
all_of xss = flat_map (λ xs. xs) xss

abbrev pub places_in : Entry → Places
places_in (Elements b p) = p
places_in (Copies body p) = p

-- the same entry at other places
abbrev pub with_places : Places → Entry → Entry
with_places r (Elements b p) = Elements b r
with_places r (Copies body p) = Copies body r

-- what an entry places, and which items are left behind it, where these are the items of the entries behind it
abbrev pub placed_by : Entry → List (List Element) → List Element
placed_by (Elements b p) next = one_of b
placed_by (Copies body p) next = all_of (take body.items next)

abbrev pub behind : {X : Type 0} → Entry → List X → List X
behind (Elements b p) next = next
behind (Copies body p) next = drop body.items next

-- the items of entries, each with its elements in order
abbrev pub spelled : List Entry → List (List Element)
spelled [] = []
spelled (e ∷ es) = copied_elements (places_of (places_in e)) (placed_by e (spelled es)) ∷ behind e (spelled es)

-- that a body is what the next items are
pub record IsBody (body : Body) (next : List (List Element)) : Type 0 where
  pub within : body.items ≤ length next
  pub length_is : body.length ≡ size_of (all_of (take body.items next))
  pub elements_is : body.elements ≡ length (all_of (take body.items next))

abbrev pub IsRight : Entry → List (List Element) → Type 0
IsRight (Elements b p) next = Unit {0}
IsRight (Copies body p) next = IsBody body next

-- each entry is right about the items behind it
abbrev pub IsClosed : List Entry → Type 0
IsClosed [] = Unit {0}
IsClosed (e ∷ es) = IsRight e (spelled es) × IsClosed es

-- the entries spell these elements, as so many items
pub record Spells (entries : List Entry) (items : ℕ) (elements : List Element) : Type 0 where
  pub closed : IsClosed entries
  pub items_is : length (spelled entries) ≡ items
  pub elements_is : all_of (spelled entries) ≡ elements

-- the entries spell these elements, and the body says how many items, bytes and elements they are
pub record IsWhole (body : Body) (entries : List Entry) (elements : List Element) : Type 0 where
  pub spells : Spells entries body.items elements
  pub length_is : body.length ≡ size_of elements
  pub elements_is : body.elements ≡ length elements

-- the bytes that are copied, item by item: at each place the bytes of one element, or those of the body
abbrev pub bytes_placed : Entry → List (List ℤ) → List ℤ
bytes_placed (Elements b p) next = row (pos 0) b.size
bytes_placed (Copies body p) next = all_of (take body.items next)

abbrev pub bytes_spelled : List Entry → List (List ℤ)
bytes_spelled [] = []
bytes_spelled (e ∷ es) =
    copied_numbers (places_of (places_in e)) (bytes_placed e (bytes_spelled es)) ∷ behind e (bytes_spelled es)

-- what committing owes (4.1.9): the bytes that are copied are those of the map, in its order
abbrev pub IsCommittedTo : Map → List Entry → Type 0
IsCommittedTo m entries = all_of (bytes_spelled entries) ≡ bytes_of m.elements

-- Entries that spell a map's elements have its bytes, and elements that touch are one row of bytes
pub record EntriesHaveBytes : Type 0 where
  pub committed : (m : Map) (entries : List Entry) (items : ℕ) → Spells entries items m.elements → IsCommittedTo m
      entries
  pub one_row : (at : ℤ) (count size : ℕ) →
      copied_numbers (places at count (pos size)) (row (pos 0) size) ≡ row at (count * size)
