-- Answered, since the search for what takes out a payload takes long.
use Rattle.std.proofs.Common.{arith}
use Rattle.std.proofs.lemmas.Grind.{common_steps}
use Rattle.rendezvous.proofs.payload_lists.take_whole.Goals as goal

pub new-requires : goal.new-requires
new-requires c = grind (arith, common_steps)

pub returns-clause-rest : goal.returns-clause-rest
returns-clause-rest c = grind (arith, common_steps)
