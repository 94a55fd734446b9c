use Rattle.std.proofs.Common.{rules, ℕ, sym, subst, w64, to_z, of_z}
use Rattle.std.proofs.Math.IntN.{ℤ, ◌*ℤ◌}
use Rattle.std.proofs.lemmas.Int.{to_z-of_z}
use mir.Val.{SFits}
use Rattle.std.specs.Prelude.{length}
use Rattle.type_maps.specs.Maps.{copied, joined, places}
use Rattle.type_runs.specs.Making.{AddTells, Asked, RowsFit}
use Rattle.type_runs.proofs.MakingLaws.{told}
use Rattle.c_exports.proofs.types.kombazily_type_rows.Goals as goal

pub returns : goal.returns
returns c = λ bodies m n a within b.
    let fa : SFits w64 c.args.at = search rules in
    let fs : SFits w64 c.args.stride = search rules in
    let fu : SFits w64 c.args.unit = search rules in
    let old : Asked = record { numbers = c.args.numbers.now; row = c.args.row.now; used = c.args.used.now } in
    let new : Asked = record { numbers = c.add_rows.new.made; row = c.add_rows.new.into; used = c.add_rows.new.used } in
    subst (λ (z : ℤ). AddTells bodies (RowsFit m n z c.args.count c.args.stride c.args.unit)
    (joined m (copied (places (z *ℤ c.args.unit) c.args.count (c.args.stride *ℤ c.args.unit)) n)) n
    (length c.args.runs.now) old new c.number.result) (to_z-of_z w64 c.args.at fa)
    (subst (λ (s : ℤ). AddTells bodies (RowsFit m n (to_z w64 (of_z w64 c.args.at)) c.args.count s c.args.unit)
    (joined m (copied (places (to_z w64 (of_z w64 c.args.at) *ℤ c.args.unit) c.args.count (s *ℤ c.args.unit)) n)) n
    (length c.args.runs.now) old new c.number.result) (to_z-of_z w64 c.args.stride fs)
    (subst (λ (u : ℤ). AddTells bodies
    (RowsFit m n (to_z w64 (of_z w64 c.args.at)) c.args.count (to_z w64 (of_z w64 c.args.stride)) u)
    (joined m (copied (places (to_z w64 (of_z w64 c.args.at) *ℤ u) c.args.count
    (to_z w64 (of_z w64 c.args.stride) *ℤ u)) n)) n (length c.args.runs.now) old new c.number.result)
    (to_z-of_z w64 c.args.unit fu)
    (subst (λ (k : ℕ). AddTells bodies
    (RowsFit m n (to_z w64 (of_z w64 c.args.at)) c.args.count (to_z w64 (of_z w64 c.args.stride))
    (to_z w64 (of_z w64 c.args.unit)))
    (joined m (copied (places (to_z w64 (of_z w64 c.args.at) *ℤ to_z w64 (of_z w64 c.args.unit)) c.args.count
    (to_z w64 (of_z w64 c.args.stride) *ℤ to_z w64 (of_z w64 c.args.unit))) n)) n (length c.args.runs.now) old new k) (sym c.number.ensures)
    (told bodies _ _ n _ _ _ c.add_rows.result (c.add_rows.ensures bodies m n a within b)))))
