-- FOR SPEED ALONE: each goal here is proved without this file, too; with it a wrong body is refused soon.
use Rattle.std.proofs.Common.{rules}
use Rattle.datagram.proofs.drafts.Drafts.spell_short.Goals as goal

pub clear-requires : goal.clear-requires
clear-requires c κs = search rules

pub write-requires-clause-body : goal.write-requires-clause-body
write-requires-clause-body c = search rules

pub write-requires-clause-sequence : goal.write-requires-clause-sequence
write-requires-clause-sequence c = search rules

pub branch-write-requires : goal.branch-write-requires
branch-write-requires c κs = search rules

pub from_residual-requires : goal.from_residual-requires
from_residual-requires c κs = search rules

pub returns-in_err-write-clause-ok : goal.returns-in_err-write-clause-ok
returns-in_err-write-clause-ok c = search rules

pub returns-in_err-write-clause-memory : goal.returns-in_err-write-clause-memory
returns-in_err-write-clause-memory c = search rules

pub deref-requires : goal.deref-requires
deref-requires c κs = search rules

pub from_slice-requires : goal.from_slice-requires
from_slice-requires c = search rules

pub returns-clause-ok : goal.returns-clause-ok
returns-clause-ok c = search rules

pub returns-clause-memory : goal.returns-clause-memory
returns-clause-memory c = search rules
