use Rattle.std.proofs.Common.{subst}
use Rattle.world.proofs.RunningPasts.{goes_on_by_next, next_goes_on, past_is_placed, past_is_world, past_of_next}
use Rattle.world.specs.RunningSteps.{GoesOnByNext, NextGoesOn, RunningState}
use Rattle.world.proofs.running.RunningWorld.deliver_next.Goals as goal

pub next_comes-requires-clause-world : goal.next_comes-requires-clause-world
next_comes-requires-clause-world c = past_is_world _ c.self.invariant

pub next_comes-requires-clause-placed : goal.next_comes-requires-clause-placed
next_comes-requires-clause-placed c = past_is_placed _ c.self.invariant

pub returns-clause-past : goal.returns-clause-past
returns-clause-past c =
    subst (λ (s : RunningState). NextGoesOn s c.next_comes.result
    (record { engines = c.next_comes.new.engines.items; waiting = c.next_comes.new.waiting.items })) c.self.view_is
    (next_goes_on _ _ _ c.next_comes.ensures.exact c.next_comes.ensures.world)

pub returns-clause-event_by_event : goal.returns-clause-event_by_event
returns-clause-event_by_event c =
    subst (λ (s : RunningState). GoesOnByNext s c.next_comes.result
    (record { engines = c.next_comes.new.engines.items; waiting = c.next_comes.new.waiting.items })) c.self.view_is
    (goes_on_by_next _ _ _ c.next_comes.ensures.exact c.next_comes.ensures.world)

pub invariant_of-self : goal.invariant_of-self
invariant_of-self c = past_of_next _ _ _ c.next_comes.ensures.exact c.next_comes.ensures.world c.self.invariant
