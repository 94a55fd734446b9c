-- Two answers of an event that was taken or refused, by the world that it leaves.
use Rattle.std.proofs.Common.{subst}
use Rattle.std.specs.Prelude.{vec_capacity}
use Rattle.world.proofs.EventByEvent.{step_goes_on}
use Rattle.world.specs.EventByEvent.{GoesOn}
use Rattle.world.specs.WorldState.{WorldState}
use Rattle.world.proofs.Headlines.{is_run_of_machine}
use Rattle.world.proofs.world.World.step.Goals as goal

pub returns-clause-headline : goal.returns-clause-headline
returns-clause-headline c = is_run_of_machine _ c.advance.ensures.sound

pub returns-clause-event_by_event : goal.returns-clause-event_by_event
returns-clause-event_by_event c =
    subst (λ (w : WorldState). GoesOn w c.args.event c.advance.result
    (record {
      engines = c.advance.new.engines.items;
      datagrams = c.advance.new.datagrams.items;
      history =
          c.advance.new.history.items;
      datagram_room = vec_capacity c.advance.new.datagrams;
      entry_room =
          vec_capacity c.advance.new.history;
    }))
    c.self.view_is (step_goes_on _ _ _ _ c.advance.ensures.exact c.advance.ensures.sound)
