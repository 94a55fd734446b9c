use Rattle.std.proofs.Common.{rules}
use Rattle.vocabulary.proofs.operation.Operation.is_defined_on.Goals as goal

pub returns-in-Max : goal.returns-in-Max
returns-in-Max c = search rules
