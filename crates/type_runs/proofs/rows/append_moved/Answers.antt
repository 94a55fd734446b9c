use Rattle.std.proofs.Common.{rules, w64, to_z, of_z, ◌++◌, ◌≤◌, ◌+◌, List, take, refl, sym}
use Rattle.std.proofs.Common.{◌∙◌, subst, arith}
use Rattle.std.proofs.Math.IntN.{ℤ}
use Rattle.std.proofs.lemmas.Int.{to_z-of_z}
use Rattle.std.proofs.lemmas.List.{take_all}
use mir.Val.{SFits}
use Rattle.type_maps.specs.Maps.{moved_numbers}
use Rattle.type_runs.specs.declared.records.RunRecord.{RunRecord}
use Rattle.type_runs.specs.Runs.{Are, MayMove}
use Rattle.type_runs.proofs.RunLaws.{may_move_at, none_moved, one_more_moved}
use Rattle.type_runs.proofs.rows.append_moved.Goals as goal

pub loop-run-init : goal.loop-run-init
loop-run-init c =
    let few : c.args.used ≤ c.args.used + 0 = omega arith in
    (refl, few, λ bodies bytes more a b. none_moved bodies (take c.args.used c.args.into.now) _ bytes more a b)

pub loop-run-preserved : goal.loop-run-preserved
loop-run-preserved c =
    let few : c.append-count.result ≤ c.args.used + (c.loop-run.run-index + 1) =
    omega (arith, c.append-count.ensures.most, c.loop-run.invariant.1) in (
      c.append-count.ensures.length ∙ c.loop-run.invariant.0,
      few,
      λ bodies bytes more a b. one_more_moved bodies (take c.args.used c.args.into.now) c.args.runs.now
          (take c.loop-run.count c.loop-run.into) (take c.append-count.result c.append-count.new.into)
          c.loop-run.run-index _ c.moved-moved.result _ bytes more c.loop-run-test.true
          (λ x y. c.loop-run.invariant.2 bodies x y) (λ x. c.moved-moved.ensures bodies x)
          (λ x y. c.append-count.ensures.runs bodies x y) a b,
    )

pub moved-moved-requires : goal.moved-moved-requires
moved-moved-requires c =
    let g : SFits w64 c.args.by = search rules in
    may_move_at (to_z w64 (of_z w64 c.args.by)) c.args.runs.now c.loop-run.run-index _ c.loop-run-test.true
    (subst (λ (z : ℤ). MayMove z c.args.runs.now) (sym (to_z-of_z w64 c.args.by g)) c.requires.places)

pub returns-clause-runs : goal.returns-clause-runs
returns-clause-runs c = λ bodies bytes more a b.
    let g : SFits w64 c.args.by = search rules in
    subst (λ (z : ℤ). Are bodies (take c.loop-run.count c.loop-run.into) (bytes ++ moved_numbers z more))
    (to_z-of_z w64 c.args.by g)
    (c.loop-run.invariant.2 bodies bytes more a (subst (λ (xs : List RunRecord). Are bodies xs more)
    (sym (take_all c.loop-run.run-index c.args.runs.now c.loop-run-test.false)) b))
