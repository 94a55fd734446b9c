-- What is heard is taken in, then what follows it, and then the blocked call is answered.
use Rattle.std.proofs.Common.{◌≡◌, ◌+◌, ◌≤◌, ◌∙◌, length, sym, ap, subst, arith, Some}
use Rattle.datagram.specs.Spellings.{frame_text}
use Rattle.sessions.specs.HeardBytes.{HeardText, heard_text, word_text}
use Rattle.sessions.specs.Windows.{room}
use Rattle.sessions.proofs.Windows.{few_within}
use Rattle.engine_calls.specs.EngineState.{EngineState}
use Rattle.engine.specs.Datagrams.{FollowedBy, notice_in, says_nothing}
use Rattle.engine.proofs.DatagramLaws.{known_carried, taken_unless, unheard_leaves}
use Rattle.engine.proofs.TurnLaws.{acknowledged_first, follows_handed, follows_none, heard_carried}
use Rattle.engine.proofs.engine.Engine.take_in.Goals.{in-Hands, in_default}
use Rattle.engine.proofs.engine.Engine.take_in.Goals as goal

pub returns-in_err-take_heard-clause-few : goal.returns-in_err-take_heard-clause-few
returns-in_err-take_heard-clause-few c =
    let old : EngineState = c.args.self.now in
    let h : HeardText = heard_text c.args.heard in
    omega (
      arith,
      ap (λ (e : EngineState). length e.sessions.out)
          (unheard_leaves (notice_in h.lesson old.payloads h.source.rank h.word) old c.take_heard.new.self h _
          c.in_err-take_heard.ensures.exact),
    )

pub take_following-requires-clause-at : goal.take_following-requires-clause-at
take_following-requires-clause-at c =
    let h : HeardText = heard_text c.args.heard in
    omega (
      arith,
      acknowledged_first c.args.self.now c.take_heard.new.self h (frame_text c.in-Hands.field-0)
          (ap word_text c.in-Hands.is) c.in_ok-take_heard.ensures.exact,
      c.emitted_count-at.ensures,
      ap (λ (e : EngineState). length e.sessions.out) c.self.view_is,
    )

pub returns-clause-taken : goal.returns-clause-taken
returns-clause-taken c =
    let old : EngineState = c.args.self.now in
    let first : EngineState = c.take_heard.new.self in
    let h : HeardText = heard_text c.args.heard in
    let at : c.emitted_count-at.result ≡ length old.sessions.out = c.emitted_count-at.ensures ∙ ap (λ (e : EngineState). length e.sessions.out) c.self.view_is in
    let follows : FollowedBy h.word (length old.sessions.out) h.source first c.match-heard.self = elim c.match-heard.branch [
      | in-Hands w ↦ subst (λ (e : EngineState). FollowedBy h.word (length old.sessions.out) h.source first e)
          (sym w.self-is)
          (follows_handed h.word (frame_text w.in-Hands.field-0) c.emitted_count-at.result (length old.sessions.out)
          h.source
          first w.take_following.new.self
          (ap word_text w.in-Hands.is) at w.take_following.ensures.exact)
      | in_default w ↦ subst (λ (e : EngineState). FollowedBy h.word (length old.sessions.out) h.source first e)
          (sym w.self-is)
          (follows_none c.args.heard.word (length old.sessions.out) h.source first w.in_default.not-Hands)
    ] in
    taken_unless (says_nothing h.lesson h.word) old h c.wake.new.self (sym c.says_nothing.ensures ∙
    c.if-says_nothing.false) (record {
      first = first;
      last = c.match-heard.self;
      takes = c.in_ok-take_heard.ensures.exact;
      follows = follows;
      new_is = c.wake.ensures.exact;
    })

pub returns-clause-known : goal.returns-clause-known
returns-clause-known c =
    let old : EngineState = c.args.self.now in
    let first : EngineState = c.take_heard.new.self in
    let h : HeardText = heard_text c.args.heard in
    let here : c.match-heard.self.sessions.known ≡ first.sessions.known = elim c.match-heard.branch [
      | in-Hands w ↦ ap (λ (e : EngineState). e.sessions.known) w.self-is ∙ w.take_following.ensures.known
      | in_default w ↦ ap (λ (e : EngineState). e.sessions.known) w.self-is
    ] in
    ap (λ (e : EngineState). e.sessions.known) c.wake.ensures.exact ∙ here
    ∙ known_carried old.sessions first.sessions h (heard_carried old first h c.in_ok-take_heard.ensures.exact)

pub returns-clause-few : goal.returns-clause-few
returns-clause-few c =
    let old : EngineState = c.args.self.now in
    let first : EngineState = c.take_heard.new.self in
    let last : EngineState = c.match-heard.self in
    let h : HeardText = heard_text c.args.heard in
    let here : length last.sessions.out + room last.sessions.peers ≤ length first.sessions.out + room first.sessions.peers = elim c.match-heard.branch [
      | in-Hands w ↦ omega (
        arith,
        w.take_following.ensures.within,
        ap (λ (e : EngineState). length e.sessions.out) w.self-is,
        ap (λ (e : EngineState). room e.sessions.peers) w.self-is,
      )
      | in_default w ↦ omega (
        arith,
        ap (λ (e : EngineState). length e.sessions.out) w.self-is,
        ap (λ (e : EngineState). room e.sessions.peers) w.self-is,
      )
    ] in
    let each : length old.sessions.peers ≡ old.sessions.place.size =
    subst (λ (e : EngineState). length e.sessions.peers ≡ e.sessions.place.size) c.self.view_is
    c.place-place.ensures.peers in
    omega (
      arith,
      here,
      ap (λ (e : EngineState). length e.sessions.out) c.wake.ensures.exact,
      few_within (Some h) old.sessions first.sessions old.sessions.place.size each (omega (arith, c.requires.there))
          c.in_ok-take_heard.ensures.within,
    )
