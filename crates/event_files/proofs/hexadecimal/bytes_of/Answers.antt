use Rattle.std.proofs.Common.{◌+◌, ◌*◌, ◌/◌, ◌<◌, ◌≡◌, ◌≤◌, length, arith}
use Rattle.std.proofs.lemmas.Result.{err_from_is_err_and}
use Rattle.event_files.proofs.HexLaws.{odd, first_ends, second_ends, pair_goes_on, pairs_done}
use Rattle.event_files.proofs.hexadecimal.bytes_of.Goals as goal

pub returns-then-word-ne0 : goal.returns-then-word-ne0
returns-then-word-ne0 c =
    let k = length c.args.word.now / 2 in
    let is : length c.args.word.now ≡ k + k + 1 = omega (arith, c.if-word-ne0.true) in
    odd c.args.word.now k is

pub returns-in_err-high : goal.returns-in_err-high
returns-in_err-high c =
    let p = err_from_is_err_and c.from_residual.result c.from_residual.ensures.1 in
    let lt : 2 * c.loop-place.place + 1 < length c.args.word.now = omega (arith, c.loop-place-test.true) in
    rw (p.1, p.2)
    (first_ends c.in_err-high.field-0.0 c.loop-place.bytes.items c.args.word.now c.loop-place.place lt
    c.in_err-high.ensures.value c.loop-place.invariant)

pub returns-in_err-low : goal.returns-in_err-low
returns-in_err-low c =
    let p = err_from_is_err_and c.from_residual-in_err-low.result c.from_residual-in_err-low.ensures.1 in
    let lt : 2 * c.loop-place.place + 1 < length c.args.word.now = omega (arith, c.loop-place-test.true) in
    rw (p.1, p.2)
    (second_ends c.in_err-low.field-0.0 c.loop-place.bytes.items c.args.word.now c.loop-place.place lt
    c.in_err-low.ensures.value c.loop-place.invariant)

pub loop-place-preserved : goal.loop-place-preserved
loop-place-preserved c =
    let lt : 2 * c.loop-place.place + 1 < length c.args.word.now = omega (arith, c.loop-place-test.true) in
    rw c.in_ok-push.ensures.items
    (pair_goes_on c.loop-place.bytes.items c.in_ok-high.high c.in_ok-low.low c.args.word.now c.loop-place.place lt
    c.in_ok-high.ensures.value c.in_ok-low.ensures.value c.loop-place.invariant)

pub returns : goal.returns
returns c =
    let le : length c.args.word.now ≤ 2 * c.loop-place.place = omega (arith, c.loop-place-test.false, c.if-word-ne0.false) in
    rw c.in_ok-from_vec.ensures
    (pairs_done c.loop-place.bytes.items c.args.word.now c.loop-place.place le c.loop-place.invariant)
