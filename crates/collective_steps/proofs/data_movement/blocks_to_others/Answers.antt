-- One more member is told its block.
use Rattle.std.proofs.Common.{arith}
use Rattle.std.proofs.lemmas.Grind.{common_steps}
use Rattle.collective_steps.proofs.ScatterLaws.{block_fits, blocks_more}
use Rattle.collective_steps.proofs.data_movement.blocks_to_others.Goals as goal

pub tell_block-requires-clause-there : goal.tell_block-requires-clause-there
tell_block-requires-clause-there c = grind (arith, common_steps)

pub tell_block-requires-clause-fits : goal.tell_block-requires-clause-fits
tell_block-requires-clause-fits c =
    let total = c.args.blocks.now.total in
    grind (arith, common_steps, block_fits)

pub loop-place-preserved : goal.loop-place-preserved
loop-place-preserved c = grind (arith, common_steps, blocks_more)
