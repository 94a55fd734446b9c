-- What a script says: its lines that aren't skipped, each with its number.
use Rattle.std.specs.Prelude.{◌≡◌, ℕ, List, Result, Ok, Err}
use Rattle.tokens.specs.declared.fault.ParseError.{ParseError}
use Rattle.tokens.specs.declared.fault.ParseError.TheVariants as errors
use Rattle.tokens.specs.Grammar.{Word}
use Rattle.tokens.specs.Lines.{lines_of}
use Rattle.tokens.specs.Texts.{LinesSay, IsFirstFault}
use Rattle.script_files.specs.declared.script.ScriptLine.{ScriptLine}
use Rattle.script_files.specs.declared.script.Script.{Script}
use Rattle.script_files.specs.Grammar.{SpellsItem}

-- the words of the line of this number say this line
abbrev pub Says : ℕ → List Word → ScriptLine → Type 0
Says number words line = SpellsItem words line.item × (line.number ≡ number)

-- What reading a script answers: what it says, or its first faulty line, or want of memory.
abbrev pub Answers : List ℕ → Result Script ParseError → Type 0
Answers text (Ok script) = LinesSay Says 1 (lines_of text) script
Answers text (Err (errors.Line number)) = IsFirstFault Says 1 (lines_of text) number
Answers text (Err errors.OutOfMemory) = Unit {0}

-- a text that says something is answered by it, unless memory runs out
abbrev pub IsAnsweredBy : List ScriptLine → Result Script ParseError → Type 0
IsAnsweredBy said (Ok script) = said ≡ script
IsAnsweredBy said (Err (errors.Line number)) = ⊥
IsAnsweredBy said (Err errors.OutOfMemory) = Unit {0}
