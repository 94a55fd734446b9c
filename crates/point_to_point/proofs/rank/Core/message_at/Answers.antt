-- The message that was found is the one that the receive would take.
use Rattle.std.proofs.Common.{ap, sym, ◌∙◌}
use Rattle.match_queues.specs.State.{place_for}
use Rattle.point_to_point_calls.specs.ReceiveMatches.{posted_by}
use Rattle.point_to_point.specs.CoreState.{Held}
use Rattle.point_to_point.specs.Receives.{found_by}
use Rattle.point_to_point.proofs.rank.Core.message_at.Goals as goal

pub returns : goal.returns
returns c =
    c.message_at.ensures.exact (posted_by 0 c.args.routed.now)
    (c.requires ∙ sym (ap (λ (h : Held). place_for (posted_by 0 c.args.routed.now) h.places) c.self.view_is))
    ∙ ap (λ (h : Held). found_by h.state c.args.routed.now) c.self.view_is
