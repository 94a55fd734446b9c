use Rattle.proof_interpreter.proofs.Refusals.{refused_statements_change_nothing}
use Rattle.proof_interpreter.proofs.laws.refused_statements_change_nothing.Goals as goal

pub returns : goal.returns
returns c = refused_statements_change_nothing
