-- The configuration file's form: one set a line.
use Rattle.std.specs.Prelude.{ℕ, ◌-◌, Bool, true, false, not, ◌&&◌, ◌||◌, ◌==◌, List, [], ◌∷◌, ◌++◌, length, take, map}
use Rattle.std.specs.Prelude.{filter, slice_index, Option, Some, None, Result, Err, if◌then◌else◌}
use Rattle.std.specs.List.{slice_split}
use Rattle.launch_plan.specs.declared.refusal.LaunchRefusal.{LaunchRefusal}
use Rattle.launch_plan.specs.declared.refusal.LaunchRefusal.TheVariants as refusals
use Rattle.launch_plan.specs.declared.process_set.ProcessSet.{ProcessSet}
use Rattle.launch_keeper.specs.Words.{Word}
use Rattle.launch_plan.specs.Sets.{each_set}

-- a line ends at byte 10
abbrev pub is_line_end : ℕ → Bool
is_line_end byte = byte == 10

-- words stand apart by spaces and tabs
abbrev pub is_blank : ℕ → Bool
is_blank byte = byte == 32 || byte == 9

-- whether there is anything in a list
abbrev pub is_nonempty : {A : Type 0} → List A → Bool
is_nonempty items = not (length items == 0)

-- the words of a line
unfoldable pub words_of : List ℕ → List Word
words_of line = filter is_nonempty (slice_split is_blank line)

-- a line whose first byte is `#` is a comment
abbrev pub is_comment : List ℕ → Bool
is_comment line = slice_index line 0 == 35

-- a line whose last byte is `\` goes on in the next
abbrev pub goes_on : List ℕ → Bool
goes_on line = slice_index line (length line - 1) == 92

-- the line with a space in place of the `\` at its end
abbrev pub with_space : List ℕ → List ℕ
with_space line = take (length line - 1) line ++ 32 ∷ []

-- this text before the first of the lines
abbrev pub before_first_line : List ℕ → List (List ℕ) → List (List ℕ)
before_first_line text [] = text ∷ []
before_first_line text (line ∷ lines) = (text ++ line) ∷ lines

-- The lines without comments, each joined with those that it goes on in; begun: the line before the
-- first of these goes on in it, so that it is no comment.
unfoldable pub joined_lines : Bool → List (List ℕ) → List (List ℕ)
joined_lines begun [] = if begun then [] ∷ [] else []
joined_lines begun (line ∷ lines) =
    if not begun && is_comment line then joined_lines false lines
    else (if goes_on line then before_first_line (with_space line) (joined_lines true lines)
    else line ∷ joined_lines false lines)

-- the words of each line that has words
abbrev pub lines_of : List ℕ → List (List Word)
lines_of bytes = filter is_nonempty (map words_of (joined_lines false (slice_split is_line_end bytes)))

-- these words before those of the first of the lines
abbrev pub onto : List Word → List (List Word) → List (List Word)
onto words [] = words ∷ []
onto words (line ∷ lines) = (words ++ line) ∷ lines

-- the lines of words that these lines of the file still give, where words is
-- what the present line has so far
abbrev pub pending : Bool → List Word → List (List ℕ) → List (List Word)
pending begun words lines = filter is_nonempty (onto words (map words_of (joined_lines begun lines)))

-- the sets of a file with these lines of words
abbrev pub sets_of_lines : List (List Word) → Result (List ProcessSet) LaunchRefusal
sets_of_lines [] = Err refusals.NoSet
sets_of_lines (line ∷ lines) = each_set (line ∷ lines)

-- the sets of a configuration file, if it can be read
abbrev pub sets_of_file : Option (List ℕ) → Result (List ProcessSet) LaunchRefusal
sets_of_file None = Err refusals.UnreadableFile
sets_of_file (Some bytes) = sets_of_lines (lines_of bytes)
