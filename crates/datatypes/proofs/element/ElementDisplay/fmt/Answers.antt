use Rattle.std.proofs.Common.{rules}
use Rattle.datatypes.proofs.element.ElementDisplay.fmt.Goals as goal

pub returns-else-is_signed-clause-writes : goal.returns-else-is_signed-clause-writes
returns-else-is_signed-clause-writes c = search rules
