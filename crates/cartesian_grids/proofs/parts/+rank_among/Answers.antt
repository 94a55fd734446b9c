-- A rank in a part, where the first dimension is of it.
use Rattle.std.proofs.Common.{arith, false, get_or}
use Rattle.cartesian_grids.proofs.GridProofs.{chosen_few, first_and_rest, place_in, rest}
use Rattle.cartesian_grids.proofs.parts.+rank_among.Goals as goal

pub returns-then-keep-is_kept-clause-below : goal.returns-then-keep-is_kept-clause-below
returns-then-keep-is_kept-clause-below t c =
    place_in c.args.is_kept c.args.keeps.now c.args.sizes.now (get_or c.args.keeps.now 0 false) (rest c.args.keeps.now) (get_or c.args.sizes.now 0 0) (rest c.args.sizes.now)
    c.args.rank c.places-stride.result c.places_among.result c.rank_among-below.result
    (first_and_rest c.args.keeps.now false c.in-len1-up.len_at_least) (first_and_rest c.args.sizes.now 0 c.in-len1-up-sizes.len_at_least)
    c.if-keep-is_kept.true c.places-stride.ensures.some c.places-stride.ensures.count c.requires.rank c.places_among.ensures.count c.rank_among-below.ensures.below

pub overflow_add-result : goal.overflow_add-result
overflow_add-result t c =
    let l =
    place_in c.args.is_kept c.args.keeps.now c.args.sizes.now (get_or c.args.keeps.now 0 false) (rest c.args.keeps.now) (get_or c.args.sizes.now 0 0) (rest c.args.sizes.now)
    c.args.rank c.places-stride.result c.places_among.result c.rank_among-below.result
    (first_and_rest c.args.keeps.now false c.in-len1-up.len_at_least) (first_and_rest c.args.sizes.now 0 c.in-len1-up-sizes.len_at_least)
    c.if-keep-is_kept.true c.places-stride.ensures.some c.places-stride.ensures.count c.requires.rank c.places_among.ensures.count c.rank_among-below.ensures.below in
    let m = chosen_few c.args.is_kept c.args.keeps.now c.args.sizes.now c.requires.sized in
    omega (arith, l, m, c.requires.few)
