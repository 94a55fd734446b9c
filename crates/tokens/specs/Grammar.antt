-- The grammar of words: which of them are numbers, names and basic types.
use Rattle.std.specs.Prelude.{◌≡◌, ◌≢◌, ◌⊎◌, ℕ, ◌≤◌, true, false, nat_le, List, [], ◌∷◌, length, slice_index, codes}
use Rattle.std.specs.Prelude.{if◌then◌else◌}
use Rattle.std.specs.List.{AllByRecursion}
use Rattle.std.specs.Str.{all_ascii_digits}
use Rattle.std.specs.Str.Parse.{digits_value}
use Rattle.vocabulary.specs.BasicTypes.{is_float}
use Rattle.vocabulary.specs.declared.basic_type.BasicType.{BasicType}
use Rattle.vocabulary.specs.declared.basic_type.BasicType.TheVariants.{Int8, Int16, Int32, Int64, Uint8, Uint16, Uint32}
use Rattle.vocabulary.specs.declared.basic_type.BasicType.TheVariants.{Uint64, Byte, Float32, Float64}

-- a word is a list of bytes
abbrev pub Word : Type 0
Word = List ℕ

-- ---- numbers

-- the lesser of two numbers
abbrev pub least : ℕ → ℕ → ℕ
least n most = if nat_le n most then n else most

-- decimal digits, at least one, without leading zeros, of this value
pub record IsNumeral (word : Word) (n : ℕ) : Type 0 where
  pub some : word ≢ []
  pub digits : all_ascii_digits word ≡ true
  pub plain : slice_index word 0 ≡ 48 → length word ≡ 1
  pub value : digits_value 10 word ≡ n

-- a number, or the greatest one that is held where it is greater
abbrev pub IsCapped : ℕ → Word → ℕ → Type 0
IsCapped most word n = (m : ℕ) × IsNumeral word m × (n ≡ least m most)

-- a number of any length; one that 64 bits don't hold stands as the greatest that they hold
abbrev pub IsLarge : Word → ℕ → Type 0
IsLarge word n = IsCapped 18446744073709551615 word n

-- each word stands for the item at its place
abbrev pub StandFor : {A : Type 0} → (Word → A → Type 0) → List Word → List A → Type 0
StandFor Is [] [] = Unit {0}
StandFor Is [] (x ∷ xs) = ⊥
StandFor Is (w ∷ ws) [] = ⊥
StandFor Is (w ∷ ws) (x ∷ xs) = Is w x × StandFor Is ws xs

-- ---- names and words of the language

abbrev pub IsLetter : ℕ → Type 0
IsLetter byte = (97 ≤ byte) × (byte ≤ 122)

abbrev pub IsDigit : ℕ → Type 0
IsDigit byte = (48 ≤ byte) × (byte ≤ 57)

-- the word of a basic type
abbrev pub type_word : BasicType → Word
type_word Int8 = codes "int8"
type_word Int16 = codes "int16"
type_word Int32 = codes "int32"
type_word Int64 = codes "int64"
type_word Uint8 = codes "uint8"
type_word Uint16 = codes "uint16"
type_word Uint32 = codes "uint32"
type_word Uint64 = codes "uint64"
type_word Byte = codes "byte"
type_word Float32 = codes "float32"
type_word Float64 = codes "float64"

-- a letter and then at most 15 letters or digits, and none of the language's own words; the words of floats are names,
-- too
pub record IsName (word : Word) : Type 0 where
  pub some : word ≢ []
  pub short : length word ≤ 16
  pub first : IsLetter (slice_index word 0)
  pub each : AllByRecursion (λ byte. IsLetter byte ⊎ IsDigit byte) word
  pub not_world : word ≢ codes "world"
  pub not_self : word ≢ codes "self"
  pub not_null : word ≢ codes "null"
  pub no_type : (basic : BasicType) → is_float basic ≡ false → word ≢ type_word basic

abbrev pub NamesIt : Word → Word → Type 0
NamesIt word name = (word ≡ name) × IsName name
