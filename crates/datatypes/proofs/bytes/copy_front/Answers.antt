use Rattle.std.proofs.Common.{rules}
use Rattle.datatypes.proofs.bytes.copy_front.Goals as goal

pub returns : goal.returns
returns c = search rules
