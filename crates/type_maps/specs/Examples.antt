-- The examples of the standard (MPI 3.1, 4.1.2 to 4.1.8): what the definitions give for them.
use Rattle.std.specs.Prelude.{◌≡◌, ℤ, pos, negsuc, List, [], ◌∷◌, map}
use Rattle.type_maps.specs.declared.basic.Basic.{Basic}
use Rattle.type_maps.specs.Maps.{Element, Map, map_of_basic}
use Rattle.type_maps.specs.Summaries.{lower, upper, extent, true_extent}
use Rattle.type_maps.specs.Constructors.{contiguous, vector, indexed, struct_of}
use Rattle.type_maps.specs.Constructors.{resized, subarray_c, subarray_fortran, part_of_dimension}

abbrev pub double : Basic
double = record { code = 1; size = 8; alignment = 8 }

abbrev pub character : Basic
character = record { code = 2; size = 1; alignment = 1 }

abbrev pub integer : Basic
integer = record { code = 3; size = 4; alignment = 4 }

abbrev pub float : Basic
float = record { code = 4; size = 4; alignment = 4 }

-- the bytes at which a map's elements begin
abbrev pub displacements : Map → List ℤ
displacements m = map (λ (e : Element). e.at) m.elements

-- {(double, 0), (char, 8)}, the old type of most examples of 4.1.2: its extent is 16, since it is padded
abbrev pub double_char : Map
double_char = record {
  elements = record { basic = double; at = pos 0 } ∷ record { basic = character; at = pos 8 } ∷ [];
  lower_marks = [];
  upper_marks = [];
}

-- 4.1.2, the first constructors
pub record CopiesStand : Type 0 where
  pub extent_is : extent double_char ≡ pos 16
  pub contiguous_is : displacements (contiguous 3 double_char) ≡ pos 0 ∷ pos 8 ∷ pos 16 ∷ pos 24 ∷ pos 32 ∷ pos 40 ∷ []
  pub contiguous_extent : extent (contiguous 3 double_char) ≡ pos 48
  pub vector_is : displacements (vector 2 3 (pos 4) double_char) ≡
      pos 0 ∷ pos 8 ∷ pos 16 ∷ pos 24 ∷ pos 32 ∷ pos 40 ∷ pos 64 ∷ pos 72 ∷ pos 80 ∷ pos 88 ∷ pos 96 ∷ pos 104 ∷ []
  pub backwards_is : displacements (vector 3 1 (negsuc 1) double_char) ≡
      pos 0 ∷ pos 8 ∷ negsuc 31 ∷ negsuc 23 ∷ negsuc 63 ∷ negsuc 55 ∷ []

-- 4.1.2, indexed and struct
pub record BlocksStand : Type 0 where
  pub indexed_is : displacements (indexed (record { length = 3; at = pos 4 } ∷ record { length = 1; at = pos 0 } ∷ [])
      double_char) ≡
      pos 64 ∷ pos 72 ∷ pos 80 ∷ pos 88 ∷ pos 96 ∷ pos 104 ∷ pos 0 ∷ pos 8 ∷ []
  pub struct_is : displacements (struct_of
      ((record { length = 2; at = pos 0 }, map_of_basic float) ∷
      (record { length = 1; at = pos 16 }, double_char) ∷
      (record { length = 3; at = pos 26 }, map_of_basic character) ∷ [])) ≡
      pos 0 ∷ pos 4 ∷ pos 16 ∷ pos 24 ∷ pos 26 ∷ pos 27 ∷ pos 28 ∷ []

-- 4.1.7: {(lb, -3), (int, 0), (ub, 6)} twice is {(lb, -3), (int, 0), (ub, 6), (lb, 6), (int, 9), (ub, 15)}
pub record MarksStand : Type 0 where
  pub one_is : extent (resized (negsuc 2) (pos 9) (map_of_basic integer)) ≡ pos 9
  pub two_are : contiguous 2 (resized (negsuc 2) (pos 9) (map_of_basic integer)) ≡ record {
    elements = record { basic = integer; at = pos 0 } ∷ record { basic = integer; at = pos 9 } ∷ [];
    lower_marks = negsuc 2 ∷ pos 6 ∷ [];
    upper_marks = pos 6 ∷ pos 15 ∷ [];
  }
  pub lower_is : lower (contiguous 2 (resized (negsuc 2) (pos 9) (map_of_basic integer))) ≡ negsuc 2
  pub upper_is : upper (contiguous 2 (resized (negsuc 2) (pos 9) (map_of_basic integer))) ≡ pos 15
  pub true_is : true_extent (contiguous 2 (resized (negsuc 2) (pos 9) (map_of_basic integer))) ≡ pos 13

-- 4.1.3: rows 1 and 2 and columns 2 to 4 of 4 x 6 integers, in C's order; and of a Fortran array the same bytes
pub record ArraysStand : Type 0 where
  pub part_is : displacements (subarray_c
      (record { size = 4; subsize = 2; start = 1 } ∷ record { size = 6; subsize = 3; start = 2 } ∷ [])
      (map_of_basic integer)) ≡ pos 32 ∷ pos 36 ∷ pos 40 ∷ pos 56 ∷ pos 60 ∷ pos 64 ∷ []
  pub part_extent : extent (subarray_c
      (record { size = 4; subsize = 2; start = 1 } ∷ record { size = 6; subsize = 3; start = 2 } ∷ [])
      (map_of_basic integer)) ≡ pos 96
  pub fortran_is : displacements (subarray_fortran
      (record { size = 6; subsize = 3; start = 2 } ∷ record { size = 4; subsize = 2; start = 1 } ∷ [])
      (map_of_basic integer)) ≡ pos 32 ∷ pos 36 ∷ pos 40 ∷ pos 56 ∷ pos 60 ∷ pos 64 ∷ []
  -- 4.1.4: eleven indices in blocks of two over three processes; the last one has the indices 4, 5 and 10
  pub own_is : displacements (part_of_dimension (record { size = 11; block = 2; processes = 3; process = 2 })
      (map_of_basic character)) ≡ pos 4 ∷ pos 5 ∷ pos 10 ∷ []

pub record ExamplesStand : Type 0 where
  pub copies : CopiesStand
  pub blocks : BlocksStand
  pub marks : MarksStand
  pub arrays : ArraysStand
