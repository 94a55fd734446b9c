-- The place is that of the message which such a receive would take.
use Rattle.std.proofs.Common.{◌≡◌, ap, ◌∙◌, rules}
use Rattle.match_queues.specs.State.{place_for}
use Rattle.match_queues.specs.declared.envelope.PostedReceive.{PostedReceive}
use Rattle.point_to_point_calls.specs.ReceiveMatches.{posted_by}
use Rattle.point_to_point.specs.Calls.{sought_at}
use Rattle.point_to_point.specs.CoreState.{Held}
use Rattle.point_to_point.proofs.rank.Core.place_of_message.Goals as goal

pub returns-in-Any : goal.returns-in-Any
returns-in-Any c =
    let r = posted_by 0 c.args.routed.now in
    let sought : place_for r c.args.self.now.places ≡ sought_at c.args.routed.now.route.named r c.args.self.now.places =
    search rules in
    c.place_for.ensures ∙ ap (λ (p : PostedReceive). place_for p c.self.inside.queues.places) c.posted_by.ensures
    ∙ ap (λ (h : Held). place_for r h.places) c.self.view_is ∙ sought
