use Rattle.std.proofs.Common.{[], ◌∷◌}
use Rattle.std.proofs.lemmas.Result.{err_from_is_err_and}
use Rattle.script_files.specs.LineWords.{member_of, one_member}
use Rattle.tokens.proofs.EachLaws.{each_goes_on, each_ends, each_is_done, one_fails, one_is}
use Rattle.script_files.proofs.fields.members_of.Goals as goal

pub returns-in_err-member : goal.returns-in_err-member
returns-in_err-member c =
    let p = err_from_is_err_and c.from_residual.result c.from_residual.ensures.1 in
    rw (p.1, p.2)
    (each_ends one_member c.in_err-member.field-0.0 c.loop-word.members c.args.words.now c.loop-word.word-index
    c.word-item.result c.loop-word-test.true c.word-item.is
    (one_fails member_of c.in_err-member.field-0.0 c.as_bytes.result.now c.word-item.result c.as_bytes.ensures
    c.in_err-member.ensures)
    c.loop-word.invariant)

pub loop-word-preserved : goal.loop-word-preserved
loop-word-preserved c =
    rw c.in_ok-push.ensures
    (each_goes_on one_member c.loop-word.members (c.in_ok-member.member ∷
    []) c.args.words.now c.loop-word.word-index c.word-item.result c.loop-word-test.true c.word-item.is
    (one_is member_of c.in_ok-member.member c.as_bytes.result.now c.word-item.result c.as_bytes.ensures
    c.in_ok-member.ensures)
    c.loop-word.invariant)

pub returns : goal.returns
returns c =
    each_is_done one_member c.loop-word.members c.args.words.now c.loop-word.word-index c.loop-word-test.false
    c.loop-word.invariant
