-- Reading a file of events: its start, and what stands behind it.
use Rattle.std.specs.Prelude.{◌≡◌, ℕ, ◌+◌, ◌≤◌, List, [], ◌∷◌, length, drop, Option, Some, None, Result, Ok, Err}
use Rattle.tokens.specs.declared.fault.ParseError.{ParseError}
use Rattle.tokens.specs.Lines.{line_of, lines_from}
use Rattle.tokens.specs.Results.{LineFails}
use Rattle.event_files.specs.declared.file.EventLine.{EventLine}
use Rattle.event_files.specs.declared.file.EventFile.{EventFile}
use Rattle.event_files.specs.LineWords.{size_of, line_read}

-- a file of so many ranks and the lines that are read behind `world N`
abbrev pub with_size : ℕ → Result (List EventLine) ℕ → Result EventFile ℕ
with_size size (Ok lines) = Ok (record { size = size; lines = lines })
with_size size (Err number) = Err number

-- what a line of this number gives, where none before it was `world N`: what the lines behind it give, or those behind
-- it as lines that ask for something
abbrev pub started : ℕ → Option (Option ℕ) → Result EventFile ℕ → Result (List EventLine) ℕ → Result EventFile ℕ
started number None later behind = Err number
started number (Some None) later behind = later
started number (Some (Some size)) later behind = with_size size behind

-- what is read of the lines from this number on, or the number of the first faulty one
unfoldable pub file_from : ℕ → List (List ℕ) → Result EventFile ℕ
file_from number [] = Err number
file_from number (line ∷ lines) =
    started number (line_of size_of line) (file_from (number + 1) lines) (lines_from line_read (number + 1) lines)

-- how many ranks a file asks for, and how many lines end with the one that does
abbrev pub StartGives : List (List ℕ) → Result (ℕ × ℕ) ParseError → Type 0
StartGives lines (Ok start) =
    (start.1 ≤ length lines) ×
    (file_from 1 lines ≡ with_size start.0 (lines_from line_read (start.1 + 1) (drop start.1 lines)))
StartGives lines (Err e) = LineFails e (file_from 1 lines)
