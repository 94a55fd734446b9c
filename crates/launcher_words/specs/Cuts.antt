-- Texts that are cut at a byte: the first part, and what stands behind the first cut.
use Rattle.std.specs.Prelude.{◌≡◌, ℕ, ◌+◌, ◌<◌, ◌==◌, Bool, List, [], length, take, drop, Option, Some, None}
use Rattle.std.specs.Prelude.{◌∷◌, ◌++◌, All, false}
use Rattle.std.specs.List.{slice_split}
use Rattle.std.specs.Option.{option_copied}
use Rattle.launcher_words.specs.declared.cut.Cut.{Cut}

-- a text is cut at each such byte
abbrev pub is_byte : (end byte : ℕ) → Bool
is_byte end byte = byte == end

-- what stands before this place, or all where there is none
abbrev pub part_before : Option ℕ → List ℕ → List ℕ
part_before None text = text
part_before (Some place) text = take place text

-- what stands behind the byte at this place
abbrev pub rest_behind : Option ℕ → List ℕ → Option (List ℕ)
rest_behind None text = None
rest_behind (Some place) text = Some (drop (place + 1) text)

-- the text is cut at this place, or nowhere
abbrev pub IsCut : Option ℕ → List ℕ → Cut → Type 0
IsCut place text cut = (cut.part.now ≡ part_before place text) × (option_copied cut.rest ≡ rest_behind place text)

-- the parts of what is left of a text
abbrev pub parts_left : (ℕ → Bool) → Option (List ℕ) → List (List ℕ)
parts_left is_cut None = []
parts_left is_cut (Some text) = slice_split is_cut text

-- what is left is shorter than the text
abbrev pub IsShorter : Option (List ℕ) → List ℕ → Type 0
IsShorter None text = Unit {0}
IsShorter (Some left) text = length left < length text

-- the text's first part, and what is left behind it
pub record IsFirst (is_cut : ℕ → Bool) (text : List ℕ) (cut : Cut) : Type 0 where
  pub parts : slice_split is_cut text ≡ cut.part.now ∷ parts_left is_cut (option_copied cut.rest)
  pub shorter : IsShorter (option_copied cut.rest) text

-- no such byte stands in the text
abbrev pub IsWithout : (end : ℕ) → List ℕ → Type 0
IsWithout end text = All (λ byte. is_byte end byte ≡ false) text

-- the text is this front, the first such byte, and this behind it
pub record IsPair (end : ℕ) (text front behind : List ℕ) : Type 0 where
  pub spelled : text ≡ front ++ end ∷ behind
  pub first : IsWithout end front

-- no such byte stands anywhere in the text
abbrev pub IsUncut : (end : ℕ) → List ℕ → Type 0
IsUncut end text = (front behind : List ℕ) → IsPair end text front behind → ⊥
