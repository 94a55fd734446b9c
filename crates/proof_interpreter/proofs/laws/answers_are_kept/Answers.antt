use Rattle.proof_interpreter.proofs.Answers.{answers_are_kept}
use Rattle.proof_interpreter.proofs.laws.answers_are_kept.Goals as goal

pub returns : goal.returns
returns c = answers_are_kept
