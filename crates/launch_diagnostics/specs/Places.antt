-- Where words are at fault: at the word from which on the refusal is the same, whatever of the words stands behind.
use Rattle.std.specs.Prelude.{◌≡◌, ◌≢◌, ◌⊎◌, ℕ, ◌-◌, ◌≤◌, List, length, take, Option, Some, None, Result, Ok, Err}
use Rattle.launch_plan.specs.declared.refusal.LaunchRefusal.{LaunchRefusal}
use Rattle.launch_plan.specs.declared.refusal.LaunchRefusal.TheVariants as refusals
use Rattle.launch_keeper.specs.Words.{Word}
use Rattle.launch_plan.specs.Launches.{Launch}
use Rattle.launch_plan.specs.Plans.{launch_of}
use Rattle.launch_plan.specs.Grammar.{ReachesFile}
use Rattle.launch_diagnostics.specs.declared.fault.LaunchFault.{LaunchFault}

-- the refusal where it is a rule's, and not want of memory
abbrev pub rule_of : LaunchRefusal → Option LaunchRefusal
rule_of refusals.OutOfMemory = None
rule_of refusals.NoSet = Some refusals.NoSet
rule_of refusals.WrongOption = Some refusals.WrongOption
rule_of refusals.WrongValue = Some refusals.WrongValue
rule_of refusals.NoCount = Some refusals.NoCount
rule_of refusals.NoProgram = Some refusals.NoProgram
rule_of refusals.OverLimit = Some refusals.OverLimit
rule_of refusals.LeftOut = Some refusals.LeftOut
rule_of refusals.UnreadableFile = Some refusals.UnreadableFile

-- the rule that what was read breaks
abbrev pub rule_in : Result Launch LaunchRefusal → Option LaunchRefusal
rule_in (Ok launch) = None
rule_in (Err refused) = rule_of refused

-- the rule by which these words are refused
abbrev pub refusal_of : List Word → Option (List ℕ) → Option LaunchRefusal
refusal_of words config = rule_in (launch_of words config)

-- from this one on each front of the words has this refusal
abbrev pub StaysFrom : List Word → Option (List ℕ) → LaunchRefusal → ℕ → Type 0
StaysFrom words config refused settled =
    (count : ℕ) → settled ≤ count → count ≤ length words → refusal_of (take count words) config ≡ Some refused

-- So many words settle this refusal: each front of the words from there on has it, and the one before has not.
pub record IsSettled (words : List Word) (config : Option (List ℕ)) (refused : LaunchRefusal)
    (settled : ℕ) : Type 0 where
  pub within : settled ≤ length words
  pub stays : StaysFrom words config refused settled
  pub first : (settled ≡ 0) ⊎ (refusal_of (take (settled - 1) words) config ≢ Some refused)

-- Where no file is named, a set, a value or a program that is missing is so behind the words that settle the refusal,
-- or what stands there is at fault; any other fault is that of the last of them.
abbrev pub place_by : LaunchRefusal → ℕ → ℕ
place_by refusals.NoSet settled = settled
place_by refusals.WrongValue settled = settled
place_by refusals.NoProgram settled = settled
place_by refusals.OutOfMemory settled = settled - 1
place_by refusals.WrongOption settled = settled - 1
place_by refusals.NoCount settled = settled - 1
place_by refusals.OverLimit settled = settled - 1
place_by refusals.LeftOut settled = settled - 1
place_by refusals.UnreadableFile settled = settled - 1

-- Where the words that settle the refusal name a configuration file, its faults are those of its name.
pub record IsPlaced (words : List Word) (refused : LaunchRefusal) (settled place : ℕ) : Type 0 where
  pub named : (name : Word) → ReachesFile (take settled words) name → place ≡ settled - 1
  pub unnamed : ((name : Word) → ReachesFile (take settled words) name → ⊥) → place ≡ place_by refused settled

-- where these words are at fault
pub record IsFault (words : List Word) (config : Option (List ℕ)) (fault : LaunchFault) : Type 0 where
  pub refused : refusal_of words config ≡ Some fault.refused
  pub settled : IsSettled words config fault.refused fault.settled
  pub placed : IsPlaced words fault.refused fault.settled fault.place
