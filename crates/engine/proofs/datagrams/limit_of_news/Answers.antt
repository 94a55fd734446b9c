-- The limit of the frames that the core calls for depends on how many they are.
use Rattle.std.proofs.Common.{length, sym, ap, ◌∙◌}
use Rattle.point_to_point_calls.specs.FrameNews.{NewsText}
use Rattle.point_to_point.specs.Arrivals.{news_frames}
use Rattle.sessions.specs.HeardBytes.{heard_text}
use Rattle.engine.specs.Datagrams.{replies}
use Rattle.engine_calls.specs.Refusals.{fault_of_sessions}
use Rattle.engine.proofs.Replies.{replies_are_for}
use Rattle.engine.proofs.datagrams.limit_of_news.Goals as goal

pub returns-in-Some : goal.returns-in-Some
returns-in-Some c =
    let core = c.args.core.now.state in
    let h = heard_text c.args.heard in
    let count = c.frame_count-count.ensures ∙ ap (λ (n : NewsText). length (news_frames core n)) c.news_of.ensures in
    rw c.of_sessions.ensures
    (ap fault_of_sessions
    (sym c.in-Some.is ∙
    c.limit_of_replies.ensures (replies core h) (replies_are_for core h c.frame_count-count.result count)))

pub returns-in-None : goal.returns-in-None
returns-in-None c =
    let core = c.args.core.now.state in
    let h = heard_text c.args.heard in
    let count = c.frame_count-count.ensures ∙ ap (λ (n : NewsText). length (news_frames core n)) c.news_of.ensures in
    ap fault_of_sessions
    (sym c.in-None.is ∙
    c.limit_of_replies.ensures (replies core h) (replies_are_for core h c.frame_count-count.result count))
