use Rattle.world.proofs.EventByEvent.{goes_all_the_way}
use Rattle.world.proofs.Headlines.{is_run_of_machine, sessions_are_true}
use Rattle.world.proofs.SessionOrder.{sessions_are_in_order}
use Rattle.world.proofs.world.World.run.Goals as goal

pub returns-then-is_err-clause-headline : goal.returns-then-is_err-clause-headline
returns-then-is_err-clause-headline c = rw (← c.self.view_is) (is_run_of_machine _ c.self.invariant)

pub returns-then-is_err-clause-law : goal.returns-then-is_err-clause-law
returns-then-is_err-clause-law c = rw (← c.self.view_is) (sessions_are_true _ c.self.invariant)

pub returns-then-is_err-clause-sessions : goal.returns-then-is_err-clause-sessions
returns-then-is_err-clause-sessions c = rw (← c.self.view_is) (sessions_are_in_order _ _ _ c.self.invariant)

pub returns-clause-headline : goal.returns-clause-headline
returns-clause-headline c = rw (← c.self-2.view_is) (is_run_of_machine _ c.self-2.invariant)

pub returns-clause-law : goal.returns-clause-law
returns-clause-law c = rw (← c.self-2.view_is) (sessions_are_true _ c.self-2.invariant)

pub returns-clause-sessions : goal.returns-clause-sessions
returns-clause-sessions c = rw (← c.self-2.view_is) (sessions_are_in_order _ _ _ c.self-2.invariant)

pub returns-clause-event_by_event : goal.returns-clause-event_by_event
returns-clause-event_by_event c = goes_all_the_way _ _ _ _ c.run_into.ensures.event_by_event
