-- The frames can go, and are few.
use Rattle.std.proofs.Common.{subst}
use Rattle.point_to_point.specs.CoreState.{Held, IsKept}
use Rattle.point_to_point_calls.specs.FrameNews.{news_text}
use Rattle.point_to_point.proofs.Replies.{frames_are_few, frames_go}
use Rattle.point_to_point.proofs.rank.Core.frames_for.Goals as goal

pub returns-clause-go : goal.returns-clause-go
returns-clause-go c =
    frames_go c.args.self.now.state (news_text c.args.news)
    (subst (λ (h : Held). IsKept h.state.place h.state.queues h.state.transfers h.state.slots) c.self.view_is
    c.self.invariant) c.requires.allowed

pub returns-clause-few : goal.returns-clause-few
returns-clause-few c =
    frames_are_few c.args.self.now.state (news_text c.args.news)
    (subst (λ (h : Held). IsKept h.state.place h.state.queues h.state.transfers h.state.slots) c.self.view_is
    c.self.invariant)
