-- A run goes on by one event.
use Rattle.std.proofs.Common.{◌≡◌, List, [], ◌∷◌, ◌++◌, Result, refl, subst, sym}
use Rattle.world.specs.declared.event.Event.{Event}
use Rattle.world.specs.declared.event.Failed.{Failed}
use Rattle.world.specs.declared.event.Stepped.{Stepped}
use Rattle.world.specs.Headline.{IsRunOfMachine}
use Rattle.world.specs.WorldState.{WorldState}
use Rattle.world.specs.Steps.{StepGives, RunGives}

-- no event, and no answer
pub run_none : (a : WorldState) (ys : List (Result Stepped Failed)) → ys ≡ [] → IsRunOfMachine a → RunGives a [] ys a
run_none a ys none here = subst (λ (zs : List (Result Stepped Failed)). RunGives a [] zs a) (sym none) (refl, here)

-- one event more, and its answer
run_push : (a : WorldState) (vs : List Event) (ys : List (Result Stepped Failed)) (b : WorldState) (v : Event)
    (y : Result Stepped Failed) (c : WorldState) →
    RunGives a vs ys b → StepGives b v y c → IsRunOfMachine c → RunGives a (vs ++ v ∷ []) (ys ++ y ∷ []) c
run_push a [] [] b v y c (is, here) step after =
    (here, (c, subst (λ (x : WorldState). StepGives x v y c) is step, (refl, after)))
run_push a [] (z ∷ zs) b v y c run step after = absurd run
run_push a (w ∷ vs) [] b v y c run step after = absurd run
run_push a (w ∷ vs) (z ∷ zs) b v y c (here, (mid, first, rest)) step after =
    (here, (mid, first, run_push mid vs zs b v y c rest step after))

-- the same, where the answer was pushed behind the others
pub run_pushed : (a : WorldState) (vs : List Event) (ys zs : List (Result Stepped Failed)) (b : WorldState) (v : Event)
    (y : Result Stepped Failed) (c : WorldState) →
    RunGives a vs ys b → StepGives b v y c → IsRunOfMachine c → zs ≡ ys ++ y ∷ [] → RunGives a (vs ++ v ∷ []) zs c
run_pushed a vs ys zs b v y c run step after is =
    subst (λ (xs : List (Result Stepped Failed)). RunGives a (vs ++ v ∷ []) xs c) (sym is)
    (run_push a vs ys b v y c run step after)
