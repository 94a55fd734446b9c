use Rattle.proof_floats.proofs.ReadBack.{texts_read_back}
use Rattle.proof_floats.proofs.law.texts_read_back.Goals as goal

pub returns : goal.returns
returns c = texts_read_back
