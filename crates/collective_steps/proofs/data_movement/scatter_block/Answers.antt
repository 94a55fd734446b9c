-- FOR SPEED ALONE: each goal here is proved without this file, too; with it a wrong body is refused soon.
use Rattle.std.proofs.Common.{rules}
use Rattle.collective_steps.proofs.data_movement.scatter_block.Goals as goal

pub blocks_to_others-requires : goal.blocks_to_others-requires
blocks_to_others-requires c = search rules

pub returns-in_default-clause-ok : goal.returns-in_default-clause-ok
returns-in_default-clause-ok c = search rules

pub returns-in_default-clause-err : goal.returns-in_default-clause-err
returns-in_default-clause-err c = search rules

pub block_at-requires : goal.block_at-requires
block_at-requires c = search rules

pub drop-messages-requires : goal.drop-messages-requires
drop-messages-requires c = search rules

pub returns-in-Ok-block_at-clause-ok : goal.returns-in-Ok-block_at-clause-ok
returns-in-Ok-block_at-clause-ok c = search rules

pub returns-in-Ok-block_at-clause-err : goal.returns-in-Ok-block_at-clause-err
returns-in-Ok-block_at-clause-err c = search rules

pub returns-in-Err-clause-ok : goal.returns-in-Err-clause-ok
returns-in-Err-clause-ok c = search rules

pub returns-in-Err-clause-err : goal.returns-in-Err-clause-err
returns-in-Err-clause-err c = search rules
