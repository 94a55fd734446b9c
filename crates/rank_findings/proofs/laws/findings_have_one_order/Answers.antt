use Rattle.rank_findings.proofs.Orders.{goes_along}
use Rattle.rank_findings.proofs.laws.findings_have_one_order.Goals as goal

pub returns-clause-along : goal.returns-clause-along
returns-clause-along c = goes_along
