use Rattle.unasked_sends.proofs.Bounded.{bounded}
use Rattle.unasked_sends.proofs.laws.what_waits_stays_within_the_bound.Goals as goal

pub returns : goal.returns
returns c = bounded
