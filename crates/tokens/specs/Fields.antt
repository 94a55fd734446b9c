-- Reading the words of a line from left to right, whatever the line says.
use Rattle.std.specs.Prelude.{ℕ, List, [], ◌∷◌, ◌++◌, Option, Some, None, if◌then◌else◌}
use Rattle.tokens.specs.Grammar.{Word}
use Rattle.tokens.specs.Numbers.{number_or}
use Rattle.tokens.specs.Words.{is_name}
use Rattle.tokens.specs.Results.{◌>>=◌}

-- a word in front, and the words behind it
unfoldable pub first : List Word → Option (Word × List Word)
first [] = None
first (word ∷ words) = Some (word, words)

-- nothing stands here
unfoldable pub end_of_line : List Word → Option (Unit {0})
end_of_line [] = Some tt
end_of_line (word ∷ words) = None

unfoldable pub name_of : Word → Option Word
name_of word = if is_name word then Some word else None

-- a rank, or the greatest number of 16 bits where it is greater
unfoldable pub rank_of : Word → Option ℕ
rank_of word = number_or 65535 word

-- a number, or the greatest one of 64 bits where it is greater
unfoldable pub large_of : Word → Option ℕ
large_of word = number_or 18446744073709551615 word

-- what each of the words gives, one after the other
unfoldable pub each : {A : Type 0} → (Word → Option (List A)) → List Word → Option (List A)
each read [] = Some []
each read (word ∷ words) = read word >>= λ front. each read words >>= λ rest. Some (front ++ rest)

-- one item for a word
abbrev pub one : {A : Type 0} → (Word → Option A) → Word → Option (List A)
one read word = read word >>= λ item. Some (item ∷ [])
