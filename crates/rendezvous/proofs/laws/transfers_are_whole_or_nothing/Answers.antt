use Rattle.rendezvous.proofs.CourseLaws.{whole_or_nothing}
use Rattle.rendezvous.proofs.laws.transfers_are_whole_or_nothing.Goals as goal

pub returns : goal.returns
returns c = whole_or_nothing
