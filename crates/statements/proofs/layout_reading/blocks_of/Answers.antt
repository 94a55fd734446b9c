use Rattle.std.proofs.Common.{[], ◌∷◌}
use Rattle.std.proofs.lemmas.Result.{err_from_is_err_and}
use Rattle.statements.specs.LineWords.{block_of, one_block}
use Rattle.tokens.proofs.EachLaws.{each_goes_on, each_ends, each_is_done, one_fails, one_is}
use Rattle.statements.proofs.layout_reading.blocks_of.Goals as goal

pub returns-in_err-block : goal.returns-in_err-block
returns-in_err-block c =
    let p = err_from_is_err_and c.from_residual.result c.from_residual.ensures.1 in
    rw (p.1, p.2)
    (each_ends one_block c.in_err-block.field-0.0 c.loop-word.blocks c.args.words.now c.loop-word.word-index
    c.word-item.result c.loop-word-test.true c.word-item.is
    (one_fails block_of c.in_err-block.field-0.0 c.as_bytes.result.now c.word-item.result c.as_bytes.ensures
    c.in_err-block.ensures)
    c.loop-word.invariant)

pub loop-word-preserved : goal.loop-word-preserved
loop-word-preserved c =
    rw c.in_ok-push.ensures
    (each_goes_on one_block c.loop-word.blocks (c.in_ok-block.block ∷ []) c.args.words.now c.loop-word.word-index
    c.word-item.result c.loop-word-test.true c.word-item.is
    (one_is block_of c.in_ok-block.block c.as_bytes.result.now c.word-item.result c.as_bytes.ensures
    c.in_ok-block.ensures)
    c.loop-word.invariant)

pub returns : goal.returns
returns c =
    each_is_done one_block c.loop-word.blocks c.args.words.now c.loop-word.word-index c.loop-word-test.false
    c.loop-word.invariant
