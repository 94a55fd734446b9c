use Rattle.std.proofs.Common.{◌≡◌, arith, refl, rules}
use Rattle.std.proofs.lemmas.Grind.{common_steps}
use Rattle.std.proofs.lemmas.Option.{slice_get-get_or}
use Rattle.run_drawings.specs.Pictures.{Nowhere, There}
use Rattle.run_drawings.proofs.PictureLaws.{on_ok}
use Rattle.run_drawings.proofs.picture.add_arrival.Goals as goal

pub returns-then-number-len : goal.returns-then-number-len
returns-then-number-len c =
    let old = slice_get-get_or c.args.arrows.now.items c.args.number c.index_mut.result.now in
    on_ok c.push_arrival.result
    (λ come. There c.index_mut.result.now c.push_arrival.new.arrow (grind (arith, common_steps, old)) come refl)
    c.push_arrival.ensures

pub returns-else-number-len : goal.returns-else-number-len
returns-else-number-len c = Nowhere (grind (arith, common_steps)) refl
