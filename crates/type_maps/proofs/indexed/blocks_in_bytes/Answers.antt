use Rattle.std.proofs.Common.{rules, w64}
use mir.Val.{SFits}
use Rattle.type_maps.proofs.TypeLaws.{word_place_fits}
use Rattle.type_maps.proofs.indexed.blocks_in_bytes.Goals as goal

pub returns-in-Err : goal.returns-in-Err
returns-in-Err c = λ f.
    let g : SFits w64 c.args.extent = search rules in
    c.in-Err.ensures.1 (word_place_fits c.args.extent c.args.blocks.now c.loop-block.block-index _
    c.loop-block-test.true g f)
