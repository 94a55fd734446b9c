-- PROOF, and for speed: the goals answered by `search rules` are proved without this file, too.
use Rattle.std.proofs.Common.{rules}
use Rattle.point_to_point.proofs.TakenMessages.{kept_on_start}
use Rattle.point_to_point.proofs.rank.Core.receive_nothing.Goals as goal

pub null_status-requires : goal.null_status-requires
null_status-requires c = search rules

pub start-requires-clause-room : goal.start-requires-clause-room
start-requires-clause-room c = search rules

pub start-requires-clause-serial : goal.start-requires-clause-serial
start-requires-clause-serial c = search rules

pub drop-into-requires : goal.drop-into-requires
drop-into-requires c = search rules

pub invariant_of-self : goal.invariant_of-self
invariant_of-self c = kept_on_start _ _ _ _ c.self.invariant _ _ _ tt c.start.ensures.entry

pub returns-clause-exact : goal.returns-clause-exact
returns-clause-exact c = search rules

pub returns-clause-placed : goal.returns-clause-placed
returns-clause-placed c = search rules
