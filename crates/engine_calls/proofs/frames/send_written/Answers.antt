-- Messages that were written out are sent in the order of the ranks.
use Rattle.std.proofs.Common.{All, List, map, sym, ap, subst, ◌∙◌}
use Rattle.datagram.specs.Spellings.{OutgoingText}
use Rattle.sessions.specs.Events.{CanSend, after_event, event_limit, sendings}
use Rattle.sessions.specs.HeardBytes.{heard_option}
use Rattle.engine_calls.specs.Steps.{written}
use Rattle.engine_calls.proofs.StepFrames.{all_by_rank, frames_are, sessions_stop}
use Rattle.engine_calls.proofs.frames.send_written.Goals as goal

pub carry_out-requires-clause-frames : goal.carry_out-requires-clause-frames
carry_out-requires-clause-frames c =
    let are = frames_are c.args.sessions.now.place c.place-place.result (map written c.args.messages.now) c.in_ok-frames.frames.items c.deref.result.now
    c.place-place.ensures.place c.in_ok-frames.ensures.ok c.deref.ensures.value in
    subst (λ (fs : List OutgoingText). All (CanSend c.args.sessions.now.place) fs) (sym are)
    (all_by_rank c.args.sessions.now.place c.args.sessions.now.place.size (map written c.args.messages.now)
    c.requires.go)

pub returns-in-Ok-clause-limit : goal.returns-in-Ok-clause-limit
returns-in-Ok-clause-limit c =
    let are = frames_are c.args.sessions.now.place c.place-place.result (map written c.args.messages.now) c.in_ok-frames.frames.items c.deref.result.now
    c.place-place.ensures.place c.in_ok-frames.ensures.ok c.deref.ensures.value in
    ap (λ (fs : List OutgoingText). event_limit c.args.sessions.now (heard_option c.args.heard) fs) (sym are) ∙
    c.in-Ok.ensures.exact.0

pub returns-in-Ok-clause-sent : goal.returns-in-Ok-clause-sent
returns-in-Ok-clause-sent c =
    let are = frames_are c.args.sessions.now.place c.place-place.result (map written c.args.messages.now) c.in_ok-frames.frames.items c.deref.result.now
    c.place-place.ensures.place c.in_ok-frames.ensures.ok c.deref.ensures.value in
    c.in-Ok.ensures.exact.1 ∙
    ap (λ (fs : List OutgoingText). after_event c.args.sessions.now (heard_option c.args.heard) fs)
    are

pub returns-clause-why : goal.returns-clause-why
returns-clause-why c =
    let are = frames_are c.args.sessions.now.place c.place-place.result (map written c.args.messages.now) c.in_ok-frames.frames.items c.deref.result.now
    c.place-place.ensures.place c.in_ok-frames.ensures.ok c.deref.ensures.value in
    rw c.of_sessions.ensures
    (sessions_stop c.args.sessions.now (heard_option c.args.heard) _ (sendings c.deref.result.now) c.in-Err.refused are
    c.in-Err.ensures.exact.1)
