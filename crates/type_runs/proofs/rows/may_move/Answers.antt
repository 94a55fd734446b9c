use Rattle.std.proofs.Common.{rules, List, subst, w64, to_z, of_z}
use Rattle.std.proofs.Math.IntN.{ℤ}
use Rattle.std.proofs.lemmas.Int.{to_z-of_z}
use Rattle.std.proofs.lemmas.List.{take_all}
use mir.Val.{SFits}
use Rattle.type_runs.specs.declared.records.RunRecord.{RunRecord}
use Rattle.type_runs.specs.Runs.{MayMove}
use Rattle.type_runs.proofs.RunLaws.{may_move_more}
use Rattle.type_runs.proofs.rows.may_move.Goals as goal

pub loop-run-preserved : goal.loop-run-preserved
loop-run-preserved c = may_move_more (to_z w64 (of_z w64 c.args.by)) c.args.runs.now c.loop-run.run-index _
    c.loop-run-test.true c.loop-run.invariant (c.stays.ensures c.if-stays.false)

pub returns : goal.returns
returns c = λ is.
    let g : SFits w64 c.args.by = search rules in
    subst (λ (z : ℤ). MayMove z c.args.runs.now) (to_z-of_z w64 c.args.by g)
    (subst (λ (xs : List RunRecord). MayMove (to_z w64 (of_z w64 c.args.by)) xs)
    (take_all c.loop-run.run-index c.args.runs.now c.loop-run-test.false) c.loop-run.invariant)
