-- The message that was found is the one that a probe finds.
use Rattle.std.proofs.Common.{ap, sym, ◌∙◌}
use Rattle.match_queues.specs.State.{place_for}
use Rattle.point_to_point.specs.CoreState.{Held}
use Rattle.point_to_point.specs.Messages.{found_for, probed_by}
use Rattle.point_to_point.proofs.rank.Core.probed_at.Goals as goal

pub returns-clause-none : goal.returns-clause-none
returns-clause-none c = c.message_at.ensures.none

pub returns-clause-exact : goal.returns-clause-exact
returns-clause-exact c =
    let p = c.args.routed.now in
    c.message_at.ensures.exact (probed_by p.route.named p.probe.tag p.route.context)
    (c.requires ∙ sym (ap (λ (h : Held). place_for (probed_by p.route.named p.probe.tag p.route.context) h.places)
    c.self.view_is))
    ∙ ap (λ (h : Held). found_for h.state p.route.named p.probe.tag p.route.context) c.self.view_is
