use Rattle.std.proofs.Common.{◌≡◌, ℕ, List, subst, arith}
use Rattle.std.specs.Prelude.{slice_get, Some}
use Rattle.outgoing_datagrams.specs.Runs.{RunGoesOn}
use Rattle.outgoing_datagrams.proofs.RunSteps.{TakesFirst, at_place, run_step}
use Rattle.outgoing_datagrams.proofs.run.put_run.Goals as goal

pub loop-place-preserved : goal.loop-place-preserved
loop-place-preserved c =
    let l = c.loop-place in
    let d = c.index-list-place.result in
    let at : slice_get c.args.list.now l.place ≡ Some d =
    at_place c.args.list.now l.place d (omega (arith, c.min-place-end.ensures)) c.index-list-place.is
    in
    let goes : RunGoesOn l.run d.0 d.1 l.into c.put.new.self c.put.new.into =
    subst (λ (t : List ℕ). RunGoesOn l.run d.0 t l.into c.put.new.self c.put.new.into) c.as_slice.ensures c.put.ensures.goes
    in
    let takes : TakesFirst d.0 d.1 l.into l.run c.put.new.self =
    subst (λ (t : List ℕ). TakesFirst d.0 t l.into l.run c.put.new.self) c.as_slice.ensures c.put.ensures.first
    in
    run_step c.args.list.now l.place l.run c.put.new.self d c.args.into.now l.into c.put.new.into at
    (omega (arith, c.put.auto.into)) l.invariant goes takes
