use Rattle.std.proofs.Common.{replicate}
use Rattle.std.proofs.lemmas.Result.{err_from_is_err_and}
use Rattle.statements.specs.LineWords.{elements_of}
use Rattle.statements.proofs.ElementSteps.{elements_fail, elements_are, buffer_fails, buffer_is}
use Rattle.tokens.proofs.EachLaws.{each_goes_on, each_ends, each_is_done}
use Rattle.statements.proofs.values.buffer_with.Goals as goal

pub returns-in_err-count : goal.returns-in_err-count
returns-in_err-count c =
    let p = err_from_is_err_and c.from_residual.result c.from_residual.ensures.1 in
    rw (p.1, p.2) (buffer_fails c.args.basic c.in_err-count.field-0.0 c.args.words.now
    (each_ends (elements_of c.args.basic) c.in_err-count.field-0.0 c.loop-word.buffer.values c.args.words.now
    c.loop-word.word-index c.word-item.result c.loop-word-test.true c.word-item.is
    (elements_fail c.args.basic c.in_err-count.field-0.0 c.as_bytes.result.now c.word-item.result c.as_bytes.ensures
    c.in_err-count.ensures.exact)
    c.loop-word.invariant.1))

pub loop-word-preserved : goal.loop-word-preserved
loop-word-preserved c =
    rw c.in_ok-push_copies.ensures.ok (
      c.loop-word.invariant.0,
      each_goes_on (elements_of c.args.basic) c.loop-word.buffer.values
          (replicate c.in_ok-count.count c.in_ok-count.number) c.args.words.now c.loop-word.word-index
          c.word-item.result c.loop-word-test.true c.word-item.is
          (elements_are c.args.basic c.in_ok-count.count c.in_ok-count.number c.as_bytes.result.now c.word-item.result
          c.as_bytes.ensures c.in_ok-count.ensures.exact)
          c.loop-word.invariant.1,
    )

pub returns : goal.returns
returns c =
    buffer_is c.args.basic c.loop-word.buffer c.args.words.now c.loop-word.invariant.0
    (each_is_done (elements_of c.args.basic) c.loop-word.buffer.values c.args.words.now c.loop-word.word-index
    c.loop-word-test.false c.loop-word.invariant.1)
