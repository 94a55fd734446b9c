-- What is told of a faulty line, and of one at which a rank gave up.
use Rattle.std.specs.Prelude.{ℕ, ◌++◌, List, [], codes}
use Rattle.std.specs.Fmt.{decimal}
use Rattle.shown_words.specs.WordTexts.{shown}
use Rattle.line_diagnostics.specs.declared.fault.LineFault.{LineFault}
use Rattle.line_diagnostics.specs.declared.fault.LineFault.TheVariants as faults

-- why a line is faulty, in words
abbrev pub reason : LineFault → List ℕ
reason faults.NotAscii = codes "a byte that isn't ASCII"
reason faults.NotPrintable = codes "a byte that isn't printable ASCII"
reason faults.NoStatement = codes "no such statement"
reason faults.OutsideType = codes "a value outside its type"
reason faults.UnfitWords = codes "words that don't fit the statement"
reason (faults.Unset name) = codes "the name " ++ name ++ codes " isn't set"
reason (faults.Lent name) = codes "the buffer " ++ name ++ codes " is lent to a receive"

-- `SPEAKER: REASON: LINE`
abbrev pub explanation : List ℕ → LineFault → List ℕ → List ℕ
explanation speaker fault line = ((speaker ++ codes ": " ++ reason fault) ++ codes ": ") ++ shown line

-- `SPEAKER gave up after MS ms`
abbrev pub gave_up : List ℕ → ℕ → List ℕ
gave_up speaker patience = speaker ++ (codes " gave up after " ++ decimal patience ++ codes " ms") ++ codes ""

-- `SPEAKER gave up after MS ms at line L: LINE`
abbrev pub gave_up_at : List ℕ → (patience number : ℕ) → List ℕ → List ℕ
gave_up_at speaker patience number line = gave_up speaker patience ++
    (codes " at line " ++ decimal number ++ codes ": ") ++ shown line

-- behind the last line
abbrev pub gave_up_behind : List ℕ → ℕ → List ℕ
gave_up_behind speaker patience =
    gave_up speaker patience ++ codes " behind the end of its script: " ++ codes "what it sent is not all acknowledged"
