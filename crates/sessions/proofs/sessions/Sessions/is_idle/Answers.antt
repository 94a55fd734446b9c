use Rattle.sessions.proofs.Busy.{idle_iff}
use Rattle.sessions.proofs.sessions.Sessions.is_idle.Goals as goal

pub returns : goal.returns
returns c = rw (← c.self.view_is) (idle_iff _ _ c.self.invariant.counts)
