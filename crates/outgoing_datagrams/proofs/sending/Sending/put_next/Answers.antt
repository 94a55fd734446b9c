use Rattle.std.proofs.Common.{ℕ, List, drop, ap, subst, ◌∙◌}
use Rattle.port_transport.specs.Wires.{Parcel}
use Rattle.outgoing_datagrams.specs.HandedDatagrams.{SendingState}
use Rattle.outgoing_datagrams.specs.Runs.{IsRun}
use Rattle.outgoing_datagrams.proofs.HandedSteps.{take_rest}
use Rattle.outgoing_datagrams.proofs.sending.Sending.put_next.Goals as goal

pub returns-clause-run : goal.returns-clause-run
returns-clause-run c =
    subst (λ (m : ℕ). IsRun m c.args.self.now.waiting c.put_run-run.result c.args.into.now c.put_run-run.new.into)
    c.max.ensures
    (subst (λ (l : List Parcel). IsRun c.max.result l c.put_run-run.result c.args.into.now c.put_run-run.new.into)
    (take_rest c.deref.result.now c.self.inside.next
    ∙ ap (λ (l : List Parcel). drop c.self.inside.next l) c.deref.ensures.value
    ∙ ap (λ (s : SendingState). s.waiting) c.self.view_is) c.put_run-run.ensures)
