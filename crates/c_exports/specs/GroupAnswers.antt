-- What C is told of groups that are made of others (MPI 3.1, 6.3).
use Rattle.std.specs.Prelude.{◌≡◌, ◌==◌, ◌<◌, ◌≤◌, ◌++◌, ℕ, List, drop, length, Result, Ok, Err, if◌then◌else◌}
use Rattle.groups.specs.Groups.{ArePositions, HasNoRepeats, difference_of, intersection_of, members_at}
use Rattle.groups.specs.Groups.{members_elsewhere, union_of}
use Rattle.groups.specs.declared.refusal.GroupRefusal.{GroupRefusal}
use Rattle.groups.specs.declared.refusal.GroupRefusal.TheVariants.{NoSuchPosition, OutOfMemory, Repeated}

-- the group of two that is asked for: 1 the union, 2 the intersection, else the difference
abbrev pub made_of_two : ℕ → List ℕ → List ℕ → List ℕ
made_of_two kind first second =
    if kind == 1 then union_of first second
    else (if kind == 2 then intersection_of first second else difference_of first second)

-- the group of one that is asked for: 1 the members at these places, else all but them
abbrev pub made_of_places : ℕ → List ℕ → List ℕ → List ℕ
made_of_places kind group places =
    if kind == 1 then members_at group places else members_elsewhere group places

-- it is this one, if both are groups
abbrev pub MakesOfTwo : ℕ → List ℕ → List ℕ → Result (List ℕ) GroupRefusal → Type 0
MakesOfTwo kind first second (Ok made) =
    HasNoRepeats first × HasNoRepeats second × (made ≡ made_of_two kind first second)
MakesOfTwo kind first second (Err NoSuchPosition) = ⊥
MakesOfTwo kind first second (Err Repeated) = ¬ (HasNoRepeats first × HasNoRepeats second)
MakesOfTwo kind first second (Err OutOfMemory) = Unit {0}

-- it is this one, if the first is a group, and the places are its own, and none is named twice
abbrev pub MakesOfPlaces : ℕ → List ℕ → List ℕ → Result (List ℕ) GroupRefusal → Type 0
MakesOfPlaces kind group places (Ok made) =
    HasNoRepeats group × ArePositions group places × HasNoRepeats places × (made ≡ made_of_places kind group places)
MakesOfPlaces kind group places (Err NoSuchPosition) = ¬ ArePositions group places
MakesOfPlaces kind group places (Err Repeated) = ¬ (HasNoRepeats group × HasNoRepeats places)
MakesOfPlaces kind group places (Err OutOfMemory) = Unit {0}

-- the number of a refusal
abbrev pub refusal_number : GroupRefusal → ℕ
refusal_number NoSuchPosition = 5
refusal_number Repeated = 8
refusal_number OutOfMemory = 14

-- the members stand over the first numbers, and how many they are is told; where they have no room (94) nothing changes
pub record Hands (made old new : List ℕ) (before count number : ℕ) : Type 0 where
  pub fits : length made ≤ length old →
      (number ≡ 0) × (new ≡ made ++ drop (length made) old) × (count ≡ length made)
  pub small : length old < length made → (number ≡ 94) × (new ≡ old) × (count ≡ before)

-- what was made is handed out; a refusal has its number, and nothing changes
abbrev pub HandsOut : Result (List ℕ) GroupRefusal → (old new : List ℕ) → (before count number : ℕ) → Type 0
HandsOut (Ok made) old new before count number = Hands made old new before count number
HandsOut (Err why) old new before count number = (number ≡ refusal_number why) × (new ≡ old) × (count ≡ before)
