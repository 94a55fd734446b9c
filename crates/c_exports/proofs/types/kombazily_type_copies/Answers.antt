use Rattle.std.proofs.Common.{rules, subst, w64}
use Rattle.std.proofs.Math.IntN.{ℤ, pos}
use Rattle.std.proofs.lemmas.Int.{to_z-of_z}
use mir.Val.{SFits}
use Rattle.type_maps.specs.Maps.{copied_numbers, places}
use Rattle.type_runs.specs.Runs.{Is}
use Rattle.c_exports.proofs.types.kombazily_type_copies.Goals as goal

pub returns : goal.returns
returns c = λ bodies bytes a nz named size.
    let f : SFits w64 c.args.stride = search rules in
    subst (λ (z : ℤ). Is bodies c.copies_in_a_row.result (copied_numbers (places (pos 0) c.args.count z) bytes))
    (to_z-of_z w64 c.args.stride f) (c.copies_in_a_row.ensures bodies bytes a nz named size)
