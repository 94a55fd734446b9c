-- What a file of events says: `world N`, and behind it the lines that ask for something, each with its number.
use Rattle.std.specs.Prelude.{◌≡◌, ◌⊎◌, ℕ, ◌+◌, List, [], ◌∷◌, Result, Ok, Err}
use Rattle.tokens.specs.declared.fault.ParseError.{ParseError}
use Rattle.tokens.specs.declared.fault.ParseError.TheVariants as errors
use Rattle.tokens.specs.Grammar.{Word}
use Rattle.tokens.specs.Lines.{lines_of}
use Rattle.tokens.specs.Texts.{LineSays, LinesSay, IsFaulty, IsFirstFault}
use Rattle.event_files.specs.declared.file.EventLine.{EventLine}
use Rattle.event_files.specs.declared.file.EventFile.{EventFile}
use Rattle.event_files.specs.Grammar.{SpellsStatement, IsWorld}

-- the words of the line of this number say this line
abbrev pub Says : ℕ → List Word → EventLine → Type 0
Says number words line = SpellsStatement words line.statement × (line.number ≡ number)

-- the words of a line, whatever its number, say how many ranks the world has
abbrev pub SaysSize : ℕ → List Word → ℕ → Type 0
SaysSize number words size = IsWorld words size

-- the lines from this number on say this: some that are skipped, then `world N`, then those that ask for something
abbrev pub FileSays : ℕ → List (List ℕ) → EventFile → Type 0
FileSays number [] file = ⊥
FileSays number (line ∷ lines) file =
    (LineSays SaysSize number line [] × FileSays (number + 1) lines file)
    ⊎ (LineSays SaysSize number line (file.size ∷ []) × LinesSay Says (number + 1) lines file.lines)

-- The first faulty line, from this number on: one that is neither skipped nor `world N` before there was such a line;
-- one behind it that asks for nothing in the language; or the line after the last, where no line is `world N`.
abbrev pub IsFirstFaultOfFile : ℕ → List (List ℕ) → ℕ → Type 0
IsFirstFaultOfFile number [] faulty = faulty ≡ number
IsFirstFaultOfFile number (line ∷ lines) faulty =
    ((faulty ≡ number) × IsFaulty SaysSize number line)
    ⊎ ((LineSays SaysSize number line [] × IsFirstFaultOfFile (number + 1) lines faulty)
    ⊎ ((size : ℕ) × LineSays SaysSize number line (size ∷ []) × IsFirstFault Says (number + 1) lines faulty))

-- What reading a file answers: what it says, or its first faulty line, or want of memory.
abbrev pub Answers : List ℕ → Result EventFile ParseError → Type 0
Answers text (Ok file) = FileSays 1 (lines_of text) file
Answers text (Err (errors.Line number)) = IsFirstFaultOfFile 1 (lines_of text) number
Answers text (Err errors.OutOfMemory) = Unit {0}

-- a text that says something is answered by it, unless memory runs out
abbrev pub IsAnsweredBy : EventFile → Result EventFile ParseError → Type 0
IsAnsweredBy said (Ok file) = said ≡ file
IsAnsweredBy said (Err (errors.Line number)) = ⊥
IsAnsweredBy said (Err errors.OutOfMemory) = Unit {0}
