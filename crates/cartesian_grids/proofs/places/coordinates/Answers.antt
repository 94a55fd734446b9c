-- All coordinates are written.
use Rattle.std.proofs.Common.{arith, sym, ◌∙◌}
use Rattle.std.proofs.lemmas.List.{ext_get_or}
use Rattle.cartesian_grids.specs.Grids.{coordinates}
use Rattle.cartesian_grids.proofs.GridProofs.{length-coordinates}
use Rattle.cartesian_grids.proofs.places.coordinates.Goals as goal

pub returns : goal.returns
returns c =
    let e = c.loop-dimension.auto in
    ext_get_or 0 c.loop-dimension.into (coordinates c.args.sizes.now c.args.rank)
    (c.loop-dimension.auto.into ∙ c.requires.room ∙ sym (length-coordinates c.args.sizes.now c.args.rank))
    (λ i h. c.loop-dimension.invariant i (omega (arith, h, c.loop-dimension-test.false, c.loop-dimension.auto.into)))
