-- FOR SPEED ALONE: each goal here is proved without this file, too; with it a wrong body is refused soon.
use Rattle.std.proofs.Common.{rules}
use Rattle.payload.proofs.reading.allreduce_in.Goals as goal

pub operation_in-requires : goal.operation_in-requires
operation_in-requires c = search rules

pub branch-operation-requires : goal.branch-operation-requires
branch-operation-requires c = search rules

pub from_residual-requires : goal.from_residual-requires
from_residual-requires c = search rules

pub elements_in-requires : goal.elements_in-requires
elements_in-requires c = search rules

pub branch-elements-requires : goal.branch-elements-requires
branch-elements-requires c = search rules

pub from_residual-requires-in_err-elements : goal.from_residual-requires-in_err-elements
from_residual-requires-in_err-elements c = search rules
