-- The place is that of the message which such a probe finds.
use Rattle.std.proofs.Common.{◌≡◌, ap, ◌∙◌, rules}
use Rattle.match_queues.specs.State.{place_for}
use Rattle.match_queues.specs.declared.envelope.PostedReceive.{PostedReceive}
use Rattle.point_to_point.specs.Calls.{sought_at}
use Rattle.point_to_point.specs.CoreState.{Held}
use Rattle.point_to_point.specs.Messages.{probed_by}
use Rattle.point_to_point.proofs.rank.Core.place_of_probed.Goals as goal

pub returns-in-Any : goal.returns-in-Any
returns-in-Any c =
    let named = c.args.routed.now.route.named in
    let r = probed_by named c.args.routed.now.probe.tag c.args.routed.now.route.context in
    let sought : place_for r c.args.self.now.places ≡ sought_at named r c.args.self.now.places = search rules in
    c.place_for.ensures ∙ ap (λ (p : PostedReceive). place_for p c.self.inside.queues.places) c.probed_by-posted.ensures
    ∙ ap (λ (h : Held). place_for r h.places) c.self.view_is ∙ sought
