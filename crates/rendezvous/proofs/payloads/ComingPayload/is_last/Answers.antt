-- FOR SPEED ALONE: each goal here is proved without this file, too; with it a wrong body is refused soon.
use Rattle.std.proofs.Common.{arith, rules}
use Rattle.std.proofs.lemmas.Grind.{common_steps}
use Rattle.rendezvous.proofs.payloads.ComingPayload.is_last.Goals as goal

pub len-requires : goal.len-requires
len-requires c = search rules

pub overflow_sub-result : goal.overflow_sub-result
overflow_sub-result c = search rules

pub returns : goal.returns
returns c = grind (arith, common_steps)
