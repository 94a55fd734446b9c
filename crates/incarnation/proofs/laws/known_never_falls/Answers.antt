use Rattle.incarnation.proofs.KnowledgeLaws.{known_never_falls}
use Rattle.incarnation.proofs.laws.known_never_falls.Goals as goal

pub returns : goal.returns
returns c = known_never_falls
