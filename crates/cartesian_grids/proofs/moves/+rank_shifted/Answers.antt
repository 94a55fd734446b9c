-- A move in the first dimension, and one in the others.
use Rattle.std.proofs.Common.{arith, rules, false, get_or}
use Rattle.cartesian_grids.proofs.GridProofs.{first_and_rest, move_here, next_in, rest}
use Rattle.cartesian_grids.proofs.moves.+rank_shifted.Goals as goal

pub returns-then-direction-eq0-clause-rank : goal.returns-then-direction-eq0-clause-rank
returns-then-direction-eq0-clause-rank t c =
    move_here c.args.sizes.now c.args.rings.now (get_or c.args.sizes.now 0 0) (rest c.args.sizes.now)
    (get_or c.args.rings.now 0 false) (rest c.args.rings.now) c.args.rank c.places-stride.result c.in_ok-to.to c.args.direction _ c.args.displacement
    (first_and_rest c.args.sizes.now 0 c.in-len1-up.len_at_least)
    (first_and_rest c.args.rings.now false c.in-len1-up-rings.len_at_least)
    c.requires.sized c.places-stride.ensures.count c.if-direction-eq0.true (search rules) (c.in_ok-to.ensures.to)

pub overflow_add-result-2 : goal.overflow_add-result-2
overflow_add-result-2 t c =
    let l =
    next_in c.args.sizes.now (get_or c.args.sizes.now 0 0) (rest c.args.sizes.now) c.args.rank c.places-stride.result c.in_ok-to-2.to
    (first_and_rest c.args.sizes.now 0 c.in-len1-up.len_at_least) c.places-stride.ensures.count c.requires.rank c.in_ok-to-2.ensures.below in
    omega (arith, l, c.requires.few)

pub returns-clause-below : goal.returns-clause-below
returns-clause-below t c =
    next_in c.args.sizes.now (get_or c.args.sizes.now 0 0) (rest c.args.sizes.now) c.args.rank c.places-stride.result c.in_ok-to-2.to
    (first_and_rest c.args.sizes.now 0 c.in-len1-up.len_at_least) c.places-stride.ensures.count c.requires.rank c.in_ok-to-2.ensures.below
