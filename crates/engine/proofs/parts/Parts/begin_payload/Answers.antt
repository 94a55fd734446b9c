-- What is announced under the number that is due is counted, once the lesson is learnt.
use Rattle.std.proofs.Common.{◌≡◌, List, arith, sym, ap, subst, ◌∙◌, true}
use Rattle.datagram.specs.Spellings.{request_text}
use Rattle.point_to_point.specs.Arrivals.{after_news}
use Rattle.point_to_point.specs.CoreState.{CoreState, with_numbers}
use Rattle.rendezvous.specs.PayloadState as payloads
use Rattle.rendezvous.specs.PayloadState.{after_begin}
use Rattle.rendezvous.specs.Payloads.{Coming}
use Rattle.rendezvous.specs.State.{is_next, with_announced}
use Rattle.rendezvous.specs.declared.transfers.Numbers.{Numbers}
use Rattle.sessions.specs.HeardBytes.{heard_text}
use Rattle.engine.proofs.MessageLaws.{announced_next, left_payloads, news_numbers}
use Rattle.engine.specs.Datagrams.{coming_by, lesson_alone, lesson_in, numbers_met, payloads_met}
use Rattle.engine.proofs.parts.Parts.begin_payload.Goals as goal

pub begin_payload-requires-clause-next : goal.begin_payload-requires-clause-next
begin_payload-requires-clause-next c =
    let h = heard_text c.args.heard in
    let t = request_text c.args.request in
    let old = c.args.self.now in
    let numbers : c.take_news.new.self.state.transfers.numbers ≡ numbers_met old.core.state h =
    ap (λ (x : CoreState). x.transfers.numbers) c.take_news.ensures.exact
    ∙ news_numbers c.prepare_news.new.self.state h
    ∙ ap (λ (x : CoreState). numbers_met x h) c.prepare_news.ensures.kept in
    subst
    (λ (k : Coming). is_next c.take_news.new.self.state.transfers.numbers k.source k.transfer ≡ true)
    (sym c.requires.coming)
    (subst (λ (n : List Numbers). is_next n h.source.rank t.transfer ≡ true) (sym numbers)
    (announced_next old.core.state old.sessions h t c.requires.allowed))

pub begin_payload-requires-clause-room : goal.begin_payload-requires-clause-room
begin_payload-requires-clause-room c =
    let same = ap (λ (q : payloads.Held). q.more_coming) c.prepare_news.ensures.payloads in
    omega (arith, c.requires.room, same, c.take_news.ensures.coming)

pub returns-clause-exact : goal.returns-clause-exact
returns-clause-exact c =
    let h = heard_text c.args.heard in
    let old = c.args.self.now in
    let d = c.take_news.new.self.state in
    let news : d ≡ after_news old.core.state (lesson_alone h) =
    c.take_news.ensures.exact ∙ ap (λ (x : CoreState). after_news x (lesson_alone h)) c.prepare_news.ensures.kept in (
      c.begin_payload.ensures.exact
          ∙ ap (λ (k : Coming). with_numbers d (with_announced d.transfers.numbers k.source)) c.requires.coming
          ∙ ap (λ (x : CoreState). with_numbers x (with_announced x.transfers.numbers h.source.rank)) news
          ∙ ap (λ (n : List Numbers). with_numbers (after_news old.core.state (lesson_alone h))
          (with_announced n h.source.rank)) (news_numbers old.core.state h),
      c.begin_payload.ensures.payloads
          ∙ ap (λ (k : Coming). after_begin c.take_news.new.self.payloads.state k) c.requires.coming
          ∙ ap (λ (q : payloads.State). after_begin q (coming_by old.core.state.place.message_limit h (request_text c.args.request)))
          (c.take_news.ensures.payloads
          ∙ left_payloads h c.prepare_news.new.self.payloads.state
          ∙ ap (λ (q : payloads.Held). payloads_met q.state (lesson_in h)) c.prepare_news.ensures.payloads),
      c.in_ok-send_answer.ensures.ok,
    )
