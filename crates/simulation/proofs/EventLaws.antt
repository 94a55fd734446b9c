-- The parts that events which are no calls make.
use Rattle.std.proofs.Common.{◌≡◌, ℕ, List, [], ◌∷◌, ◌++◌, Option, Some, None, Result, Ok, Err, refl, sym, ap, subst, ◌∙◌}
use Rattle.std.proofs.lemmas.List.{append-nil}
use Rattle.simulation.specs.Courses.{Ranks, EventGives, IsOnlyAt, RestartGives, Scene, scene}
use Rattle.simulation.specs.Parts.{Part, joined, no_part, step_part}
use Rattle.simulation.specs.StepLines.{refused_lines, stepped_lines}
use Rattle.simulation.specs.Output.{Prints}
use Rattle.simulation.specs.RankAnswers.{entry_in, fresh}
use Rattle.simulation.specs.Turns.{CompletedRuns, EventRuns, RestartRuns, Runs}
use Rattle.simulation.specs.declared.ranks.RankNames.{RankNames}
use Rattle.world.specs.Headline.{IsRunOfMachine}
use Rattle.world.specs.Steps.{StepGives}
use Rattle.world.specs.WorldState.{WorldState}
use Rattle.world.specs.declared.event.Event.{Event}
use Rattle.world.specs.declared.event.Event.TheVariants as events
use Rattle.world.specs.declared.event.Failed.{Failed}
use Rattle.world.specs.declared.event.Stepped.{Stepped}
use Rattle.simulation.proofs.PrintLaws.{prints_more}

-- an event that is taken, and what follows
pub event_taken : (size : ℕ) (w mid v : WorldState) (old new : Ranks) (event : Event) (added : Stepped)
    (x y z : Option (List ℕ)) → StepGives w event (Ok added) mid → IsRunOfMachine mid →
    Prints x y (stepped_lines mid added) →
    CompletedRuns (entry_in mid added) (scene size mid old) y z (scene size v new) →
    EventRuns event (scene size w old) x z (scene size v new)
event_taken size w mid v old new event added x y z gives seen prints r = record {
  part = joined (step_part event (Ok added) (stepped_lines mid added)) r.part;
  gives = record {
    answer = Ok added;
    world = mid;
    stepped = gives;
    seen = seen;
    further = r.part;
    behind = r.gives;
    both = refl;
  };
  prints = prints_more x y z (stepped_lines mid added) r.part.printed prints r.prints;
}

-- an event that is refused
pub event_refused : (size : ℕ) (w v : WorldState) (ranks : Ranks) (event : Event) (failed : Failed)
    (x y : Option (List ℕ)) → StepGives w event (Err failed) v → IsRunOfMachine v →
    Prints x y (refused_lines v failed) → EventRuns event (scene size w ranks) x y (scene size v ranks)
event_refused size w v ranks event failed x y gives seen prints = record {
  part = joined (step_part event (Err failed) (refused_lines v failed)) no_part;
  gives = record {
    answer = Err failed;
    world = v;
    stepped = gives;
    seen = seen;
    further = no_part;
    behind = (refl, refl);
    both = refl;
  };
  prints = subst (λ (lines : List (List ℕ)). Prints x y lines) (sym (append-nil (refused_lines v failed))) prints;
}

-- a rank that is started anew
pub restart_taken : (size : ℕ) (w v : WorldState) (old new : Ranks) (rank : ℕ) (added : Stepped)
    (x y : Option (List ℕ)) → StepGives w (events.Restart rank) (Ok added) v → IsRunOfMachine v →
    Prints x y (stepped_lines v added) → IsOnlyAt size old rank (fresh size rank) new →
    RestartRuns rank (scene size w old) x y (scene size v new)
restart_taken size w v old new rank added x y gives seen prints only = record {
  part = step_part (events.Restart rank) (Ok added) (stepped_lines v added);
  gives = record {
    answer = Ok added;
    stepped = gives;
    seen = seen;
    does = refl;
    ranks = only;
    size = refl;
  };
  prints = prints;
}

-- a restart that is refused
pub restart_refused : (size : ℕ) (w v : WorldState) (ranks : Ranks) (rank : ℕ) (failed : Failed)
    (x y : Option (List ℕ)) → StepGives w (events.Restart rank) (Err failed) v → IsRunOfMachine v →
    Prints x y (refused_lines v failed) → RestartRuns rank (scene size w ranks) x y (scene size v ranks)
restart_refused size w v ranks rank failed x y gives seen prints = record {
  part = step_part (events.Restart rank) (Err failed) (refused_lines v failed);
  gives = record {
    answer = Err failed;
    stepped = gives;
    seen = seen;
    does = refl;
    ranks = refl;
    size = refl;
  };
  prints = prints;
}
