use Rattle.std.proofs.Common.{rules, ℕ, sym, subst, w64, to_z, of_z}
use Rattle.std.proofs.Math.IntN.{ℤ, ◌*ℤ◌}
use Rattle.std.proofs.lemmas.Int.{to_z-of_z}
use mir.Val.{SFits}
use Rattle.std.specs.Prelude.{length}
use Rattle.type_maps.specs.Constructors.{block}
use Rattle.type_maps.specs.Maps.{joined}
use Rattle.type_runs.specs.Making.{AddTells, Asked, BlockFits}
use Rattle.type_runs.proofs.MakingLaws.{told}
use Rattle.c_exports.proofs.types.kombazily_type_block.Goals as goal

pub returns : goal.returns
returns c = λ bodies m n a within b e.
    let fa : SFits w64 c.args.at = search rules in
    let fu : SFits w64 c.args.unit = search rules in
    let old : Asked = record { numbers = c.args.numbers.now; row = c.args.row.now; used = c.args.used.now } in
    let new : Asked = record { numbers = c.add_block.new.made; row = c.add_block.new.into; used = c.add_block.new.used }
    in
    subst (λ (z : ℤ). AddTells bodies (BlockFits m n z c.args.unit c.args.count)
    (joined m (block (z *ℤ c.args.unit) c.args.count n)) n (length c.args.runs.now) old new c.number.result)
    (to_z-of_z w64 c.args.at fa)
    (subst (λ (u : ℤ). AddTells bodies (BlockFits m n (to_z w64 (of_z w64 c.args.at)) u c.args.count)
    (joined m (block (to_z w64 (of_z w64 c.args.at) *ℤ u) c.args.count n)) n (length c.args.runs.now) old new
    c.number.result) (to_z-of_z w64 c.args.unit fu)
    (subst (λ (k : ℕ). AddTells bodies
    (BlockFits m n (to_z w64 (of_z w64 c.args.at)) (to_z w64 (of_z w64 c.args.unit)) c.args.count)
    (joined m (block (to_z w64 (of_z w64 c.args.at) *ℤ to_z w64 (of_z w64 c.args.unit)) c.args.count n)) n
    (length c.args.runs.now) old new k) (sym c.number.ensures)
    (told bodies _ _ n _ _ _ c.add_block.result (c.add_block.ensures bodies m n a within b e))))
