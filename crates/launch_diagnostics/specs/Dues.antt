-- What may stand at a place of the launcher's words: what the words in front of it lack.
use Rattle.std.specs.Prelude.{ℕ, ◌-◌, ◌==◌, List, [], ◌++◌, take, slice_get, unwrap_or, codes, Option, Some, None}
use Rattle.std.specs.Prelude.{if◌then◌else◌}
use Rattle.std.specs.Str.{bytes_eq}
use Rattle.std.specs.Fmt.{decimal}
use Rattle.launch_plan.specs.declared.refusal.LaunchRefusal.{LaunchRefusal}
use Rattle.launch_plan.specs.declared.refusal.LaunchRefusal.TheVariants as refusals
use Rattle.launch_keeper.specs.Words.{Word}
use Rattle.launch_diagnostics.specs.declared.due.Due.{Due}
use Rattle.launch_diagnostics.specs.declared.due.Due.TheVariants as dues
use Rattle.launch_diagnostics.specs.Places.{refusal_of}

-- a set behind this word: own options stand before the first set only
abbrev pub set_due : Option Word → Due
set_due None = dues.OptionOrSet
set_due (Some word) = if bytes_eq word (codes ":") then dues.Set else dues.OptionOrSet

-- the value behind this option
abbrev pub value_due : Word → Due
value_due option =
    if bytes_eq option (codes "-configfile") then dues.File
    else (if bytes_eq option (codes "-n") then dues.Number 1 1024
    else (if bytes_eq option (codes "-job") then dues.Number 0 18446744073709551615
    else (if bytes_eq option (codes "-baseport") then dues.Number 1 65535
    else (if bytes_eq option (codes "-restart") then dues.Number 0 65535
    else dues.Number 1 3600000))))

-- what words lack that are refused so, where this word is the last of them
abbrev pub lacking : LaunchRefusal → Option Word → Due
lacking refusals.NoSet before = set_due before
lacking refusals.WrongValue before = value_due (unwrap_or before [])
lacking refusals.NoProgram before = dues.Program
lacking refusals.OutOfMemory before = dues.Nothing
lacking refusals.WrongOption before = dues.Nothing
lacking refusals.NoCount before = dues.Nothing
lacking refusals.OverLimit before = dues.Nothing
lacking refusals.LeftOut before = dues.Nothing
lacking refusals.UnreadableFile before = dues.Nothing

-- the same; words that no rule refuses lack nothing
abbrev pub due_by : Option LaunchRefusal → Option Word → Due
due_by None before = dues.Nothing
due_by (Some refused) before = lacking refused before

-- the word in front of this place, if there is one
abbrev pub word_before : List Word → ℕ → Option Word
word_before words place = if place == 0 then None else slice_get words (place - 1)

-- what the words in front of this place lack
abbrev pub due_at : List Word → Option (List ℕ) → ℕ → Due
due_at words config place = due_by (refusal_of (take place words) config) (word_before words place)

-- what is due, as it is told
abbrev pub due_text : Due → List ℕ
due_text dues.OptionOrSet =
    codes "a set (-n N PROGRAM ..) or an option not yet given (-job, -baseport, -restart, -patience, -configfile)"
due_text dues.Set = codes "a set (-n N PROGRAM ..)"
due_text (dues.Number least greatest) = codes "a number from " ++ decimal least ++ codes " to " ++ decimal greatest
due_text dues.File = codes "the name of a file with one set (-n N PROGRAM ..) a line"
due_text dues.Program = codes "a program"
due_text dues.Nothing = codes "no word"
