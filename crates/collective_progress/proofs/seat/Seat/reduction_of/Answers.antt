-- FOR SPEED ALONE: each goal here is proved without this file, too; with it a wrong body is refused soon.
use Rattle.std.proofs.Common.{rules}
use Rattle.collective_progress.proofs.seat.Seat.reduction_of.Goals as goal

pub basic-requires : goal.basic-requires
basic-requires c = search rules

pub new-requires : goal.new-requires
new-requires c = search rules

pub returns-in_default : goal.returns-in_default
returns-in_default c = search rules

pub fold_blocks-requires : goal.fold_blocks-requires
fold_blocks-requires c = search rules

pub returns-in-Ok-fold_blocks : goal.returns-in-Ok-fold_blocks
returns-in-Ok-fold_blocks c = search rules

pub returns-in-Err : goal.returns-in-Err
returns-in-Err c = search rules
