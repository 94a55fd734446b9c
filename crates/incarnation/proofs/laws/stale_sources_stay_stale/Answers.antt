use Rattle.incarnation.proofs.KnowledgeLaws.{stale_sources_stay_stale}
use Rattle.incarnation.proofs.laws.stale_sources_stay_stale.Goals as goal

pub returns : goal.returns
returns c = stale_sources_stay_stale
