use Rattle.std.proofs.Common.{rules}
use Rattle.datatypes.specs.Transfers.{send_fault}
use Rattle.datatypes.proofs.buffer.Buffer.send_fault.Goals as goal

pub returns-else-is_too_long : goal.returns-else-is_too_long
unfolding send_fault
returns-else-is_too_long c = search rules
