use Rattle.std.proofs.Common.{rules, ◌≡◌, refl, w64, to_z, of_z}
use Rattle.std.proofs.Math.IntN.{◌+ℤ◌}
use Rattle.std.proofs.lemmas.Int.{to_z-of_z}
use mir.Val.{SFits}
use Rattle.type_runs.proofs.RunLaws.{moved_run}
use Rattle.type_runs.proofs.records.RunRecord.moved.Goals as goal

pub returns : goal.returns
returns c = λ bodies bytes is.
    let g : SFits w64 c.args.self.now.at = search rules in
    let h : SFits w64 c.args.self.now.stride = search rules in
    let at : to_z w64 (of_z w64 (to_z w64 (of_z w64 c.args.by) +ℤ to_z w64 (of_z w64 c.args.self.now.at))) ≡
    c.args.by +ℤ c.args.self.now.at = search rules in
    moved_run bodies c.args.by c.args.self.now _ bytes at refl refl (to_z-of_z w64 c.args.self.now.stride h) refl is
