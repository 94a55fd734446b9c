use Rattle.type_maps.proofs.TypeLaws.{all_blocks, block_built, block_refused}
use Rattle.std.proofs.Common.{take}
use Rattle.type_maps.specs.Constructors.{blocks_with}
use Rattle.type_maps.specs.Types.{after_blocks}
use Rattle.type_maps.proofs.indexed.add_blocks.Goals as goal

pub returns-in-Err : goal.returns-in-Err
returns-in-Err c = λ m n b t. block_refused m n c.args.blocks.now c.loop-block.block-index _ c.in-Err.refusal
    c.loop-block-test.true
    (c.in-Err.ensures (after_blocks m (blocks_with (take c.loop-block.block-index c.args.blocks.now) n)) n
    (c.loop-block.invariant m n b t) t)

pub loop-block-preserved : goal.loop-block-preserved
loop-block-preserved c = λ m n b t. block_built m n c.args.blocks.now c.loop-block.block-index _ c.add_block.new.made
    c.loop-block-test.true
    (c.in-Ok.ensures (after_blocks m (blocks_with (take c.loop-block.block-index c.args.blocks.now) n)) n
    (c.loop-block.invariant m n b t) t)

pub returns : goal.returns
returns c = λ m n b t. all_blocks m n c.args.blocks.now c.loop-block.block-index c.loop-block.made
    c.loop-block-test.false
    (c.loop-block.invariant m n b t)
