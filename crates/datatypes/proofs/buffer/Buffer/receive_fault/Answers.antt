use Rattle.std.proofs.Common.{rules}
use Rattle.datatypes.specs.Transfers.{send_fault, receive_fault}
use Rattle.datatypes.proofs.buffer.Buffer.receive_fault.Goals as goal

pub returns-else-has_repeats : goal.returns-else-has_repeats
unfolding send_fault receive_fault
returns-else-has_repeats c = search rules
