-- What the calls that make a group answer.
use Rattle.std.specs.Prelude.{◌≡◌, ℕ, ◌<◌, List, Result, Ok, Err, All, Bool, not, if◌then◌else◌}
use Rattle.groups.specs.Groups.{HasNoRepeats, ArePositions, is_member}
use Rattle.groups.specs.declared.refusal.GroupRefusal.{GroupRefusal}
use Rattle.groups.specs.declared.refusal.GroupRefusal.TheVariants.{NoSuchPosition, Repeated, OutOfMemory}

-- the ranks are the group's where none is repeated
abbrev pub MakesGroup : List ℕ → Result (List ℕ) GroupRefusal → Type 0
MakesGroup ranks (Ok group) = HasNoRepeats ranks × (group ≡ ranks)
MakesGroup ranks (Err NoSuchPosition) = ⊥
MakesGroup ranks (Err Repeated) = ¬ HasNoRepeats ranks
MakesGroup ranks (Err OutOfMemory) = HasNoRepeats ranks

-- the group is the wanted one where each position is there, and none repeated. One that isn't there
-- comes first
abbrev pub SelectsGroup : List ℕ → List ℕ → List ℕ → Result (List ℕ) GroupRefusal → Type 0
SelectsGroup group positions wanted (Ok made) =
    ArePositions group positions × HasNoRepeats positions × (made ≡ wanted)
SelectsGroup group positions wanted (Err NoSuchPosition) = ¬ ArePositions group positions
SelectsGroup group positions wanted (Err Repeated) =
    ArePositions group positions × (¬ HasNoRepeats positions)
SelectsGroup group positions wanted (Err OutOfMemory) =
    ArePositions group positions × HasNoRepeats positions

-- the first thing that is wrong with positions in a group of this many members
abbrev pub IsFirstFault : ℕ → List ℕ → GroupRefusal → Type 0
IsFirstFault len positions NoSuchPosition = ¬ All (λ position. position < len) positions
IsFirstFault len positions Repeated =
    All (λ position. position < len) positions × (¬ HasNoRepeats positions)
IsFirstFault len positions OutOfMemory = ⊥

-- a rank is among the ranks, or isn't, as is wanted
abbrev pub passes : List ℕ → Bool → ℕ → Bool
passes ranks wanted rank = if wanted then is_member ranks rank else not (is_member ranks rank)
