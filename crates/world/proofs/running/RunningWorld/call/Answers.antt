use Rattle.std.proofs.Common.{subst}
use Rattle.world.proofs.RunningPasts.{call_goes_on, goes_on_by_call, past_is_placed, past_is_world, past_of_call}
use Rattle.world.specs.RunningSteps.{CallGoesOn, GoesOnByCall, RunningState}
use Rattle.world.proofs.running.RunningWorld.call.Goals as goal

pub call_on-requires-clause-world : goal.call_on-requires-clause-world
call_on-requires-clause-world c = past_is_world _ c.self.invariant

pub call_on-requires-clause-placed : goal.call_on-requires-clause-placed
call_on-requires-clause-placed c = past_is_placed _ c.self.invariant

pub returns-clause-past : goal.returns-clause-past
returns-clause-past c =
    subst (λ (s : RunningState). CallGoesOn s c.args.rank c.args.call c.call_on.result
    (record { engines = c.call_on.new.engines.items; waiting = c.call_on.new.waiting.items })) c.self.view_is
    (call_goes_on _ _ _ _ _ c.call_on.ensures.exact c.call_on.ensures.world)

pub returns-clause-event_by_event : goal.returns-clause-event_by_event
returns-clause-event_by_event c =
    subst (λ (s : RunningState). GoesOnByCall s c.args.call c.call_on.result
    (record { engines = c.call_on.new.engines.items; waiting = c.call_on.new.waiting.items })) c.self.view_is
    (goes_on_by_call _ _ _ _ _ c.call_on.ensures.exact c.call_on.ensures.world)

pub invariant_of-self : goal.invariant_of-self
invariant_of-self c =
    past_of_call _ _ _ _ _ c.call_on.ensures.exact c.call_on.ensures.world c.self.invariant
