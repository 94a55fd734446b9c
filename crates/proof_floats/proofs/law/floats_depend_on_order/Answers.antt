use Rattle.proof_floats.proofs.Orders.{told_apart}
use Rattle.proof_floats.proofs.law.floats_depend_on_order.Goals as goal

pub returns : goal.returns
returns c = told_apart
