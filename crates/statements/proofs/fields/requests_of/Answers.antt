use Rattle.std.proofs.Common.{[], ◌∷◌}
use Rattle.std.proofs.lemmas.Result.{err_from_is_err_and}
use Rattle.statements.specs.LineWords.{requested_of, one_request}
use Rattle.tokens.proofs.EachLaws.{each_goes_on, each_ends, each_is_done, one_fails, one_is}
use Rattle.statements.proofs.fields.requests_of.Goals as goal

pub returns-in_err-request : goal.returns-in_err-request
returns-in_err-request c =
    let p = err_from_is_err_and c.from_residual.result c.from_residual.ensures.1 in
    rw (p.1, p.2)
    (each_ends one_request c.in_err-request.field-0.0 c.loop-word.requests c.args.words.now c.loop-word.word-index
    c.word-item.result c.loop-word-test.true c.word-item.is
    (one_fails requested_of c.in_err-request.field-0.0 c.as_bytes.result.now c.word-item.result c.as_bytes.ensures
    c.in_err-request.ensures)
    c.loop-word.invariant)

pub loop-word-preserved : goal.loop-word-preserved
loop-word-preserved c =
    rw c.in_ok-push.ensures
    (each_goes_on one_request c.loop-word.requests (c.in_ok-request.request ∷
    []) c.args.words.now c.loop-word.word-index c.word-item.result c.loop-word-test.true c.word-item.is
    (one_is requested_of c.in_ok-request.request c.as_bytes.result.now c.word-item.result c.as_bytes.ensures
    c.in_ok-request.ensures)
    c.loop-word.invariant)

pub returns : goal.returns
returns c =
    each_is_done one_request c.loop-word.requests c.args.words.now c.loop-word.word-index c.loop-word-test.false
    c.loop-word.invariant
