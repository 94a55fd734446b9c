use Rattle.proof_late_posting.proofs.Rows.{rows_keep_the_rules}
use Rattle.proof_late_posting.proofs.laws.late_rows_keep_the_rules.Goals as goal

pub returns : goal.returns
returns c = rows_keep_the_rules
