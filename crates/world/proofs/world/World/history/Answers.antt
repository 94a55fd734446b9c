use Rattle.world.proofs.EventByEvent.{has_some_run, shares_onwards}
use Rattle.world.proofs.Headlines.{is_run_of_machine, sessions_are_true}
use Rattle.world.proofs.SessionOrder.{sessions_are_in_order}
use Rattle.world.proofs.world.World.history.Goals as goal

pub returns-clause-headline : goal.returns-clause-headline
returns-clause-headline c = rw (← c.self.view_is) (is_run_of_machine _ c.self.invariant)

pub returns-clause-sessions : goal.returns-clause-sessions
returns-clause-sessions c = rw (← c.self.view_is) (sessions_are_in_order _ _ _ c.self.invariant)

pub returns-clause-law : goal.returns-clause-law
returns-clause-law c = rw (← c.self.view_is) (sessions_are_true _ c.self.invariant)

pub returns-clause-run : goal.returns-clause-run
returns-clause-run c = rw (← c.self.view_is) (has_some_run _ c.self.invariant)

pub returns-clause-groups : goal.returns-clause-groups
returns-clause-groups c = shares_onwards _
