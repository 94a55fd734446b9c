-- PROOF, and for speed: the goals answered by `search rules` are proved without this file, too.
use Rattle.std.proofs.Common.{rules, arith}
use Rattle.std.proofs.lemmas.Grind.{common_steps}
use Rattle.rendezvous.proofs.Steps.{remove_set}
use Rattle.rendezvous.proofs.payload_lists.take_piece.Goals as goal

pub as_slice-requires : goal.as_slice-requires
as_slice-requires c = search rules

pub place_from-requires : goal.place_from-requires
place_from-requires c = search rules

pub push_piece-requires-clause-there : goal.push_piece-requires-clause-there
push_piece-requires-clause-there c = search rules

pub remove-requires : goal.remove-requires
remove-requires c = search rules

pub drop-remove-requires : goal.drop-remove-requires
drop-remove-requires c = search rules

pub returns-then-push_piece-clause-bound : goal.returns-then-push_piece-clause-bound
returns-then-push_piece-clause-bound c = search rules

pub returns-then-push_piece-clause-capacity : goal.returns-then-push_piece-clause-capacity
returns-then-push_piece-clause-capacity c = search rules

pub returns-else-push_piece-clause-rest : goal.returns-else-push_piece-clause-rest
returns-else-push_piece-clause-rest c = search rules

pub returns-else-push_piece-clause-bound : goal.returns-else-push_piece-clause-bound
returns-else-push_piece-clause-bound c = search rules

pub returns-else-push_piece-clause-capacity : goal.returns-else-push_piece-clause-capacity
returns-else-push_piece-clause-capacity c = search rules

pub returns-in_default-clause-rest : goal.returns-in_default-clause-rest
returns-in_default-clause-rest c = search rules

pub returns-in_default-clause-bound : goal.returns-in_default-clause-bound
returns-in_default-clause-bound c = search rules

pub returns-in_default-clause-capacity : goal.returns-in_default-clause-capacity
returns-in_default-clause-capacity c = search rules

pub returns-then-push_piece-clause-rest : goal.returns-then-push_piece-clause-rest
returns-then-push_piece-clause-rest c = grind (arith, common_steps, remove_set)
