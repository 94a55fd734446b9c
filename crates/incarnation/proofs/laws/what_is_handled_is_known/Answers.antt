use Rattle.incarnation.proofs.KnowledgeLaws.{what_is_handled_is_known}
use Rattle.incarnation.proofs.laws.what_is_handled_is_known.Goals as goal

pub returns : goal.returns
returns c = what_is_handled_is_known
