-- How the lines of all ranks stand on one stream. At its end may stand the line of a rank that has no end yet.
use Rattle.std.specs.Prelude.{ℕ, ◌-◌, Bool, true, false, not, ◌==◌, List, [], ◌∷◌, ◌++◌, length, slice_index_or, Option, Some, None, if◌then◌else◌}
use Rattle.launch_keeper.specs.JoinedOutput.{mark_of}

-- these bytes, with the mark in front of each line that begins with one of them
abbrev pub lined : List ℕ → Bool → List ℕ → List ℕ
lined mark begins [] = []
lined mark begins (byte ∷ bytes) = (if begins then mark else []) ++ byte ∷ lined mark (byte == 10) bytes

-- whether the last of these bytes ends a line
abbrev pub is_ended : List ℕ → Bool
is_ended bytes = slice_index_or bytes (length bytes - 1) 0 == 10

-- whether what a rank writes begins a line of its own: else its own line stands unfinished at the stream's end
abbrev pub begins_line : Option ℕ → ℕ → Bool
begins_line None rank = true
begins_line (Some other) rank = not (other == rank)

-- the unfinished line of another rank gets an end
abbrev pub cut_by : Option ℕ → ℕ → List ℕ
cut_by None rank = []
cut_by (Some other) rank = if other == rank then [] else 10 ∷ []

-- What is written where a rank writes these bytes, behind the unfinished line of that rank or another. Without marks the
-- bytes as they are; with marks each line begins with the mark of its rank, a line that another one cut in two as well.
abbrev pub text_on : Option ℕ → ℕ → Bool → List ℕ → List ℕ
text_on unfinished rank false bytes = bytes
text_on unfinished rank true bytes =
    if length bytes == 0 then []
    else cut_by unfinished rank ++ lined (mark_of rank) (begins_line unfinished rank) bytes

-- whose line is unfinished at the stream's end then
abbrev pub unfinished_by : Option ℕ → ℕ → List ℕ → Option ℕ
unfinished_by before rank bytes =
    if length bytes == 0 then before else (if is_ended bytes then None else Some rank)

-- whether the line of this rank stands unfinished at the stream's end
abbrev pub is_unfinished : Option ℕ → ℕ → Bool
is_unfinished None rank = false
is_unfinished (Some other) rank = other == rank
