-- The first factors are tried one behind the other.
use Rattle.std.proofs.Common.{arith, refl, sym, ap, length, ◌∙◌}
use Rattle.cartesian_grids.proofs.BalanceProofs.{all_tried, found_here, put_back, tried_first, tried_next}
use Rattle.cartesian_grids.proofs.balance.+search.Goals as goal

pub loop-first-init : goal.loop-first-init
loop-first-init t c =
    let e = c.next_factor-first.ensures in (
      refl,
      omega (arith, e.within),
      e.within.1,
      e.found,
      tried_first c.args.number c.args.most c.next_factor-first.result c.wanted-times.result c.requires.some e.passed,
    )

pub returns-then-search-clause-found : goal.returns-then-search-clause-found
returns-then-search-clause-found t c = λ _.
    let i = c.loop-first.invariant in
    found_here c.args.sizes.now c.loop-first.sizes c.args.number c.args.most c.loop-first.first c.wanted-times.result c.search-in-loop-first.new.sizes
    c.if-sizes-eq0.false c.if-sizes-ne0.false i.0 c.search-in-loop-first.auto.sizes c.requires.some (i.3 c.loop-first-test.true)
    c.loop-first-test.true c.wanted-times.ensures.count i.4 (c.if-search.ensures.found refl)

pub loop-first-preserved : goal.loop-first-preserved
loop-first-preserved t c =
    let i = c.loop-first.invariant in
    let e = c.next_factor-first-in-loop-first.ensures in
    let n = c.if-search.ensures.none refl in (
      put_back c.loop-first.sizes c.search-in-loop-first.new.sizes (λ h. c.if-sizes-eq0.false (sym (ap length i.0) ∙ h)) n.0 ∙ i.0,
      omega (arith, e.within),
      e.within.1,
      e.found,
      tried_next c.args.sizes.now c.loop-first.sizes c.args.number c.args.most c.loop-first.first c.next_factor-first-in-loop-first.result c.wanted-times.result
          c.if-sizes-eq0.false c.if-sizes-ne0.false i.0 c.requires.some c.wanted-times.ensures.count i.4 n.1 e.passed,
    )

pub returns-clause-none : goal.returns-clause-none
returns-clause-none t c = λ _.
    let i = c.loop-first.invariant in (
      i.0,
      all_tried c.args.sizes.now c.args.number c.args.most c.loop-first.first c.wanted-times.result c.if-sizes-eq0.false c.if-sizes-ne0.false c.wanted-times.ensures.count
          c.loop-first-test.false i.4,
    )
