use Rattle.std.proofs.Common.{List, drop, ap, ◌∙◌}
use Rattle.port_transport.specs.Wires.{Parcel}
use Rattle.outgoing_datagrams.specs.HandedDatagrams.{SendingState}
use Rattle.outgoing_datagrams.proofs.HandedSteps.{first_waits, next_of}
use Rattle.outgoing_datagrams.proofs.sending.Sending.next_acknowledgement.Goals as goal

pub returns-clause-next : goal.returns-clause-next
returns-clause-next c =
    next_of c.deref.result.now c.args.self.now.waiting c.self.inside.next c.acknowledgement_at.result
    (ap (λ (l : List Parcel). drop c.self.inside.next l) c.deref.ensures.value
    ∙ ap (λ (s : SendingState). s.waiting) c.self.view_is)
    c.acknowledgement_at.ensures.next

pub returns-clause-none : goal.returns-clause-none
returns-clause-none c =
    let same = ap (λ (l : List Parcel). drop c.self.inside.next l) c.deref.ensures.value
    ∙ ap (λ (s : SendingState). s.waiting) c.self.view_is in
    λ none p rest is. c.acknowledgement_at.ensures.none none p
    (first_waits c.deref.result.now rest c.self.inside.next p (same ∙ is))
