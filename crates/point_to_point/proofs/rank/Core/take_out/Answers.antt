-- The message that is taken out is answerable as it was among those that wait.
use Rattle.std.proofs.Common.{Option, ap, sym, subst, ◌∙◌, rules}
use Rattle.std.specs.Prelude.{IfSome}
use Rattle.match_queues.proofs.Steps.{found_stands}
use Rattle.match_queues.specs.State.{message_for, place_for}
use Rattle.match_queues.specs.declared.envelope.Message.{Message}
use Rattle.point_to_point.specs.CoreState.{Held, IsAnswerable}
use Rattle.point_to_point.specs.Messages.{probed_by}
use Rattle.point_to_point.proofs.CoreLaws.{kept_on_take}
use Rattle.point_to_point.proofs.ReceiveLaws.{found_is_answerable}
use Rattle.point_to_point.proofs.TakenMessages.{kept_on_start}
use Rattle.point_to_point.proofs.rank.Core.take_out.Goals as goal

pub invariant_of-self : goal.invariant_of-self
invariant_of-self c =
    let r = probed_by c.args.routed.route.named c.args.routed.probe.tag c.args.routed.route.context in
    let at = sym c.in-Some.is ∙ c.requires.found ∙ sym (ap (λ (h : Held). place_for r h.places) c.self.view_is) in
    kept_on_start _ _ _ _ (rw (c.take-message.ensures.state r at) (kept_on_take _ _ _ _ r c.self.invariant)) _ _ _
    (subst (λ (o : Option Message). IfSome o (λ (m : Message). IsAnswerable c.self.inside.place.size m m.body))
    (sym (c.take-message.ensures.found r at))
    (found_is_answerable c.self.inside.place.size c.self.inside.queues.state.unexpected
    (message_for r c.self.inside.queues.state.unexpected) c.self.invariant.answerable))
    c.start-request.ensures.entry

pub take-message-requires-clause-stands : goal.take-message-requires-clause-stands
take-message-requires-clause-stands c =
    let r = probed_by c.args.routed.route.named c.args.routed.probe.tag c.args.routed.route.context in
    found_stands r c.self.inside.queues.places c.in-Some.place
    (sym c.in-Some.is ∙ c.requires.found ∙ sym (ap (λ (h : Held). place_for r h.places) c.self.view_is))

pub unreachable-requires : goal.unreachable-requires
unreachable-requires c = search (rules, c.probed_at.ensures.none c.in_default.is)
