-- Who has entered a collective: a member has once it has taken a step of its plan.
use Rattle.std.specs.Prelude.{◌≡◌, ◌<◌, ℕ, Bool, true, false, ◌||◌, List, [], ◌∷◌, if◌then◌else◌, ◌==◌}
use Rattle.collective_plans.specs.declared.plan.Step.{Step}
use Rattle.collective_plans.specs.Slots.{Memory}
use Rattle.collective_plans.specs.Networks.{Folding}
use Rattle.collective_plans.specs.Ahead.{Comes, Next, Turn, after_turns, opening_ahead}
use Rattle.collective_plans.specs.PlanLaws.{among}

abbrev pub has_entered : (member : ℕ) → List Turn → Bool
has_entered r [] = false
has_entered r (Next x ∷ turns) = (r == x) || has_entered r turns
has_entered r (Comes x place ∷ turns) = has_entered r turns

-- What a member has doesn't hang on what another one hands in that hasn't entered
abbrev pub NothingOfTheAbsent : Type 0
NothingOfTheAbsent =
    (f : Folding) (plans : ℕ → List Step) (given given' : ℕ → Memory) (turns : List Turn) (absent : ℕ) →
    ((x : ℕ) → (x == absent) ≡ false → given x ≡ given' x) → has_entered absent turns ≡ false →
    (r : ℕ) → (r == absent) ≡ false →
    (after_turns f (opening_ahead plans given) turns).at r ≡ (after_turns f (opening_ahead plans given') turns).at r

-- How far a member is doesn't hang on data, nor on the operation
abbrev pub GoesWithoutData : Type 0
GoesWithoutData =
    (f g : Folding) (plans : ℕ → List Step) (given given' : ℕ → Memory) (turns : List Turn) (r : ℕ) →
    (((after_turns f (opening_ahead plans given) turns).at r).steps ≡
    ((after_turns g (opening_ahead plans given') turns).at r).steps) ×
    (((after_turns f (opening_ahead plans given) turns).at r).begun ≡
    ((after_turns g (opening_ahead plans given') turns).at r).begun)

-- In whatever order n members go on and blocks come: once member r has no step of its plan left, and all has come to
-- it, each other one has entered (5.3)
abbrev pub WaitsForAll : (n : ℕ) → (plan : ℕ → List Step) → Type 0
WaitsForAll n plan =
    (f : Folding) (given : ℕ → Memory) (turns : List Turn) (r s : ℕ) → r < n → s < n → (s == r) ≡ false →
    ((after_turns f (opening_ahead (among n plan) given) turns).at r).steps ≡ [] →
    ((after_turns f (opening_ahead (among n plan) given) turns).at r).begun ≡ [] →
    has_entered s turns ≡ true
