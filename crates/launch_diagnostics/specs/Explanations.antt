-- What is told of refused words behind the refusal's number, byte by byte.
use Rattle.std.specs.Prelude.{◌≡◌, ℕ, Bool, true, false, ◌||◌, List, ◌++◌, slice_get, codes, Option, Some, None}
use Rattle.std.specs.Prelude.{if◌then◌else◌}
use Rattle.std.specs.Str.{bytes_eq}
use Rattle.launch_plan.specs.declared.refusal.LaunchRefusal.{LaunchRefusal}
use Rattle.launch_plan.specs.declared.refusal.LaunchRefusal.TheVariants as refusals
use Rattle.launch_keeper.specs.Words.{Word}
use Rattle.shown_words.specs.WordTexts.{shown}
use Rattle.launch_diagnostics.specs.declared.fault.LaunchFault.{LaunchFault}
use Rattle.launch_diagnostics.specs.declared.due.Due.{Due}
use Rattle.launch_diagnostics.specs.declared.explanation.Explanation.{Explanation}
use Rattle.launch_diagnostics.specs.declared.explanation.Explanation.TheVariants as explanations
use Rattle.launch_diagnostics.specs.Places.{IsFault}
use Rattle.launch_diagnostics.specs.Dues.{word_before, due_at, due_text}

-- the word asks how the launcher is used
abbrev pub is_help : Word → Bool
is_help word = bytes_eq word (codes "--help") || bytes_eq word (codes "-h") || bytes_eq word (codes "--version")

-- the page of usage
unfoldable pub page : List ℕ
page =
    codes "usage: mpiexec [OPTION VALUE ..] -n N PROGRAM [ARGUMENT ..] [: -n N PROGRAM ..] ..\n" ++
    codes "       mpiexec [OPTION VALUE ..] -configfile FILE\n" ++
    codes "Starts N processes of each PROGRAM as the ranks of a job on this machine, and\n" ++
    codes "prints what they wrote, by rising rank, once they have ended.\n" ++
    codes "  -n N             so many processes, 1 to 1024\n" ++
    codes "  -configfile FILE the sets stand in a file, one a line\n" ++
    codes "  -job J           the job's number; without it 1\n" ++
    codes "  -baseport P      rank r's port is P + r; without it P is 47000\n" ++
    codes "  -restart K       each rank may be started again so often; without it 0\n" ++
    codes "  -patience MS     so many milliseconds a rank waits before it gives up\n" ++
    codes "  -abort           in front of all words: a rank that fails for good ends the others\n" ++
    codes "Jobs that run at one time need numbers and ports of their own. More stands in\n" ++
    codes "docs/LAUNCHING.md."

-- too many ranks, or ports that are too high
abbrev pub limits_text : List ℕ
limits_text = codes "mpiexec: more than 1024 ranks, or a port above 65535"

-- a file that can't be read
abbrev pub unreadable_text : Word → List ℕ
unreadable_text word = codes "mpiexec: '" ++ shown word ++ codes "' can't be read"

-- the end of a line on a word at fault: what may stand in its place
abbrev pub may_stand : Due → List ℕ
may_stand due = codes "': " ++ due_text due ++ codes " may stand here"

-- the end of a line on an option that is left out: what may stand in its place
abbrev pub is_left_out : Due → List ℕ
is_left_out due = codes "': " ++ due_text due ++ codes " may stand here; this option is left out"

-- the end of a line on a word that is missing behind another
abbrev pub is_missing : Due → List ℕ
is_missing due = codes "' " ++ due_text due ++ codes " is missing"

-- a word at fault, and what may stand in its place
abbrev pub wrong_text : Word → Due → List ℕ
wrong_text word due = codes "mpiexec: '" ++ shown word ++ may_stand due

-- an option that is left out, and what may stand in its place
abbrev pub left_out_text : Word → Due → List ℕ
left_out_text word due = codes "mpiexec: '" ++ shown word ++ is_left_out due

-- what is missing behind the last word, if there is one
abbrev pub missing_text : Option Word → Due → List ℕ
missing_text None due = codes "mpiexec: " ++ due_text due ++ codes " is missing"
missing_text (Some word) due = codes "mpiexec: behind '" ++ shown word ++ is_missing due

-- what is told, apart from where it lies in memory
abbrev pub explanation_text : Explanation → List ℕ
explanation_text explanations.Usage = page
explanation_text explanations.OverLimit = limits_text
explanation_text (explanations.Unreadable word) = unreadable_text word.now
explanation_text (explanations.LeftOut word due) = left_out_text word.now due
explanation_text (explanations.Wrong word due) = wrong_text word.now due
explanation_text (explanations.Missing word due) = missing_text (Some word.now) due
explanation_text (explanations.Nothing due) = missing_text None due

-- what is told of a word at fault
abbrev pub word_text : LaunchRefusal → Word → Due → List ℕ
word_text refusals.UnreadableFile word due = unreadable_text word
word_text refusals.LeftOut word due = left_out_text word due
word_text refusals.WrongOption word due = if is_help word then page else wrong_text word due
word_text refusals.OutOfMemory word due = wrong_text word due
word_text refusals.NoSet word due = wrong_text word due
word_text refusals.WrongValue word due = wrong_text word due
word_text refusals.NoCount word due = wrong_text word due
word_text refusals.NoProgram word due = wrong_text word due
word_text refusals.OverLimit word due = wrong_text word due

-- what is told of a word at this place, or of one that is missing behind the last one
abbrev pub text_by : Option Word → Option Word → LaunchRefusal → Due → List ℕ
text_by None before refused due = missing_text before due
text_by (Some word) before refused due = word_text refused word due

-- whether the limits are exceeded, which is the fault of no word
abbrev pub is_over : LaunchRefusal → Bool
is_over refusals.OverLimit = true
is_over refusals.OutOfMemory = false
is_over refusals.NoSet = false
is_over refusals.WrongOption = false
is_over refusals.WrongValue = false
is_over refusals.NoCount = false
is_over refusals.NoProgram = false
is_over refusals.LeftOut = false
is_over refusals.UnreadableFile = false

-- what is told of words with a fault at this place
abbrev pub text_at : LaunchRefusal → List Word → ℕ → Due → List ℕ
text_at refused words place due =
    if is_over refused then limits_text else text_by (slice_get words place) (word_before words place) refused due

-- The text tells the fault of these words, and what may stand at its place.
pub record Explains (words : List Word) (config : Option (List ℕ)) (text : List ℕ) : Type 0 where
  pub fault : LaunchFault
  pub is : IsFault words config fault
  pub told : text ≡ text_at fault.refused words fault.place (due_at words config fault.place)
