-- The sessions send what the core calls for.
use Rattle.std.proofs.Common.{List, Some, ap, subst, ◌∙◌}
use Rattle.std.specs.List.{AllByRecursion}
use Rattle.datagram.specs.Spellings.{OutgoingText}
use Rattle.point_to_point_calls.specs.FrameNews.{CanGo, NewsText}
use Rattle.point_to_point.specs.Arrivals.{news_frames}
use Rattle.sessions.specs.Events.{after_event, event_limit}
use Rattle.sessions.specs.HeardBytes.{heard_text}
use Rattle.engine.proofs.Replies.{outgoing_can_go, outgoing_says}
use Rattle.engine.proofs.datagrams.carry_out.Goals as goal

pub carry_out_judged-requires-clause-frames : goal.carry_out_judged-requires-clause-frames
carry_out_judged-requires-clause-frames c =
    let core = c.args.core.now.state in
    let h = heard_text c.args.heard in
    outgoing_can_go core c.args.sessions.now.place h c.deref.result.now
    (outgoing_says core h c.deref.result.now c.in_ok-frames.frames.items
    c.deref.ensures.value
    (c.in_ok-frames.ensures.exact ∙ ap (news_frames core) c.news_of.ensures))
    c.requires.place
    (subst (λ (n : NewsText). AllByRecursion (CanGo core.place.size) (news_frames core n)) c.news_of.ensures
    c.frames_for.ensures.go)

pub returns-in-Ok-clause-ok : goal.returns-in-Ok-clause-ok
returns-in-Ok-clause-ok c =
    let core = c.args.core.now.state in
    let h = heard_text c.args.heard in
    c.in-Ok.ensures.ok
    ∙ ap (λ (fs : List OutgoingText). after_event c.args.sessions.now (Some h) fs)
    (outgoing_says core h c.deref.result.now c.in_ok-frames.frames.items
    c.deref.ensures.value
    (c.in_ok-frames.ensures.exact ∙ ap (news_frames core) c.news_of.ensures))

pub carry_out_judged-requires-clause-limit : goal.carry_out_judged-requires-clause-limit
carry_out_judged-requires-clause-limit c =
    let core = c.args.core.now.state in
    let h = heard_text c.args.heard in
    let says = outgoing_says core h c.deref.result.now c.in_ok-frames.frames.items
    c.deref.ensures.value
    (c.in_ok-frames.ensures.exact ∙ ap (news_frames core) c.news_of.ensures) in
    ap (λ (fs : List OutgoingText). event_limit c.args.sessions.now (Some h) fs) says ∙ c.requires.limit
