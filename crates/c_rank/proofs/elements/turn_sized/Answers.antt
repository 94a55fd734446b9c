use Rattle.std.proofs.Common.{◌≡◌, ◌/◌, length, arith}
use Rattle.c_rank.proofs.ByteOrderLaws.{turned_all, turned_step}
use Rattle.c_rank.proofs.elements.turn_sized.Goals as goal

pub loop-place-preserved : goal.loop-place-preserved
loop-place-preserved c =
    let a = c.args in
    let l = c.loop-place in (
      turned_step a.size l.place a.from.now a.into.now l.into c.turn_one.new.into l.invariant.0 c.turn_one.ensures,
      omega (arith, c.turn_one.auto.into, l.invariant.1),
    )

pub returns-clause-all : goal.returns-clause-all
returns-clause-all c = λ no_rest same.
    let a = c.args in
    let l = c.loop-place in
    let end : l.place ≡ length a.from.now / a.size = omega arith in
    turned_all a.size l.place a.from.now a.into.now l.into no_rest same end l.invariant.0
