use Rattle.std.proofs.Common.{subst, arith}
use Rattle.std.proofs.lemmas.Grind.{common_steps}
use Rattle.world.specs.WorldState.{WorldState}
use Rattle.world.specs.Headline.{IsRunOfMachine}
use Rattle.world.proofs.EventByEvent.{goes_on_none, goes_on_pushed}
use Rattle.world.proofs.Headlines.{is_run_of_machine}
use Rattle.world.proofs.Runs.{run_none, run_pushed}
use Rattle.world.proofs.world.World.run_into.Goals as goal

pub loop-event-init : goal.loop-event-init
loop-event-init c = (
  run_none _ _ (grind (arith, common_steps))
      (subst (λ (w : WorldState). IsRunOfMachine w) c.self.view_is (is_run_of_machine _ c.self.invariant)),
  goes_on_none _ _ (grind (arith, common_steps)),
  grind (arith, common_steps),
)

pub unwrap-requires : goal.unwrap-requires
unwrap-requires c = c.push.ensures.succeeds (grind (arith, common_steps))

pub loop-event-preserved : goal.loop-event-preserved
loop-event-preserved c = (
  run_pushed _ _ _ _ _ _ _ _ c.loop-event.invariant.0 c.step-answer.ensures.exact c.step-answer.ensures.headline
      (grind (arith, common_steps)),
  goes_on_pushed _ _ _ _ _ _ _ _ c.loop-event.invariant.1 c.step-answer.ensures.exact
      c.step-answer.ensures.event_by_event (grind (arith, common_steps)),
  grind (arith, common_steps),
)
