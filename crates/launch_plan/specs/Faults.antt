-- That a fault is the first one from the left: no word behind it matters.
use Rattle.std.specs.Prelude.{◌≡◌, List, ◌++◌, Option, ℕ, Err}
use Rattle.launch_plan.specs.declared.refusal.LaunchRefusal.{LaunchRefusal}
use Rattle.launch_plan.specs.declared.refusal.LaunchRefusal.TheVariants as refusals
use Rattle.launch_keeper.specs.Words.{Word}
use Rattle.launch_plan.specs.Plans.{launch_of}

-- these faults are of a word that stands there, and not of one that is missing
abbrev pub IsOfAWord : LaunchRefusal → Type 0
IsOfAWord refusals.WrongOption = Unit {0}
IsOfAWord refusals.NoCount = Unit {0}
IsOfAWord refusals.LeftOut = Unit {0}
IsOfAWord refusals.UnreadableFile = Unit {0}
IsOfAWord refusals.OutOfMemory = ⊥
IsOfAWord refusals.NoSet = ⊥
IsOfAWord refusals.WrongValue = ⊥
IsOfAWord refusals.NoProgram = ⊥
IsOfAWord refusals.OverLimit = ⊥

-- Such a fault of the words in front is the fault of the words, whatever stands behind.
abbrev pub FaultsStay : Type 0
FaultsStay =
    (front rest : List Word) (config : Option (List ℕ)) (fault : LaunchRefusal) → IsOfAWord fault →
    launch_of front config ≡ Err fault → launch_of (front ++ rest) config ≡ Err fault
