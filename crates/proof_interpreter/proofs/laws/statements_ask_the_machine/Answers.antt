use Rattle.proof_interpreter.proofs.StatementCalls.{statements_ask}
use Rattle.proof_interpreter.proofs.laws.statements_ask_the_machine.Goals as goal

pub returns : goal.returns
returns c = statements_ask
