-- Lines of text, and what is read of them.
use Rattle.std.specs.Prelude.{ℕ, ◌+◌, ◌-◌, ◌==◌, Bool, true, not, nat_le, ◌&&◌, List, [], ◌∷◌, ◌++◌, length, take}
use Rattle.std.specs.Prelude.{filter, slice_index, Option, Some, None, Result, Ok, Err, if◌then◌else◌}
use Rattle.std.specs.List.{slice_split, list_all}
use Rattle.tokens.specs.Grammar.{Word}
use Rattle.tokens.specs.Results.{◌>>=◌}

-- a line ends at byte 10
abbrev pub is_line_end : ℕ → Bool
is_line_end byte = byte == 10

-- words stand apart by spaces
abbrev pub is_blank : ℕ → Bool
is_blank byte = byte == 32

-- whether there is anything in a list
abbrev pub is_nonempty : {A : Type 0} → List A → Bool
is_nonempty items = not (length items == 0)

-- space to `~`
abbrev pub is_text_byte : ℕ → Bool
is_text_byte byte = nat_le 32 byte && nat_le byte 126

-- a text without the end of its last line, if that has one
unfoldable pub without_end : List ℕ → List ℕ
without_end text = if slice_index text (length text - 1) == 10 then take (length text - 1) text else text

-- the lines of a text, which end at byte 10; the last may lack its end, and a text of no bytes has no line
unfoldable pub lines_of : List ℕ → List (List ℕ)
lines_of text = if length text == 0 then [] else slice_split is_line_end (without_end text)

-- the words of a line
unfoldable pub tokens_of : List ℕ → List Word
tokens_of line = filter is_nonempty (slice_split is_blank line)

-- no words, or a comment
unfoldable pub is_skipped : List Word → Bool
is_skipped [] = true
is_skipped (word ∷ words) = slice_index word 0 == 35

-- the words of a line of text, if it isn't skipped
unfoldable pub said_in : List ℕ → Option (Option (List Word))
said_in line =
    if list_all is_text_byte line
    then (if is_skipped (tokens_of line) then Some None else Some (Some (tokens_of line)))
    else None

-- what is read of the words of a line, if it has any
abbrev pub item_in : {A : Type 0} → (List Word → Option A) → Option (List Word) → Option (Option A)
item_in read None = Some None
item_in read (Some words) = read words >>= λ item. Some (Some item)

-- what is read of a line, if it isn't skipped
unfoldable pub line_of : {A : Type 0} → (List Word → Option A) → List ℕ → Option (Option A)
line_of read line = said_in line >>= λ said. item_in read said

-- what a line of this number gives, or its number where it is faulty
abbrev pub numbered : {A : Type 0} → ℕ → Option (Option A) → Result (List A) ℕ
numbered number None = Err number
numbered number (Some None) = Ok []
numbered number (Some (Some item)) = Ok (item ∷ [])

-- these before those that are read
abbrev pub with_front : {A : Type 0} → List A → Result (List A) ℕ → Result (List A) ℕ
with_front front (Ok rest) = Ok (front ++ rest)
with_front front (Err number) = Err number

-- a line, and those behind it
abbrev pub and_then : {A : Type 0} → Result (List A) ℕ → Result (List A) ℕ → Result (List A) ℕ
and_then (Ok front) rest = with_front front rest
and_then (Err number) rest = Err number

-- what is read of the lines from this number on, or the number of the first faulty one
unfoldable pub lines_from : {A : Type 0} → (ℕ → List Word → Option A) → ℕ → List (List ℕ) → Result (List A) ℕ
lines_from read number [] = Ok []
lines_from read number (line ∷ lines) =
    and_then (numbered number (line_of (read number) line)) (lines_from read (number + 1) lines)
