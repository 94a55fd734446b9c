-- The others are told, or it is stopped.
use Rattle.std.proofs.Common.{List, Some, sym, ap, subst, arith, ◌∙◌}
use Rattle.std.proofs.lemmas.Result.{err_from_is_err_and}
use Rattle.point_to_point_calls.specs.declared.refusal.Refusal.{Refusal}
use Rattle.point_to_point.specs.CoreState as cores
use Rattle.point_to_point.specs.CoreState.{CoreState}
use Rattle.rendezvous.specs.PayloadState as payloads
use Rattle.rendezvous.specs.declared.transfers.Numbers.{Numbers}
use Rattle.sessions.specs.HeardBytes.{heard_text}
use Rattle.engine.proofs.MessageLaws.{can_still, heard_numbers, left_payloads, memory_stops, still_left, told}
use Rattle.engine.specs.Datagrams.{lesson_alone, numbers_met}
use Rattle.engine_calls.specs.Frames.{numbers_heard, step_limit}
use Rattle.engine_calls.specs.Steps.{StepStops}
use Rattle.engine.proofs.parts.Parts.carry_out_notices.Goals as goal

pub take_news-requires-clause-can : goal.take_news-requires-clause-can
take_news-requires-clause-can c =
    can_still c.prepare_news.new.self c.send_step.new.core _ (lesson_alone (heard_text c.args.heard))
    c.in_ok-prepared.prepared c.send_step.ensures.kept c.in_ok-prepared.ensures.can

pub announce_payloads-requires-clause-room : goal.announce_payloads-requires-clause-room
announce_payloads-requires-clause-room c =
    omega (arith, c.in_ok-announced.ensures.room, c.take_news.ensures.announced)

pub announce_payloads-requires-clause-left : goal.announce_payloads-requires-clause-left
announce_payloads-requires-clause-left c =
    still_left c.prepare_news.new.self.state c.send_step.new.core.state c.take_news.new.self.state
    (heard_text c.args.heard) c.in_ok-announced.announced.items
    (ap (λ (x : cores.Held). x.state) c.send_step.ensures.kept) c.take_news.ensures.exact
    c.in_ok-announced.ensures.left

pub returns-in_err-prepared-clause-exact : goal.returns-in_err-prepared-clause-exact
returns-in_err-prepared-clause-exact c =
    let p = err_from_is_err_and c.from_residual.result c.from_residual.ensures.1 in
    rw p.1 (memory_stops _ p.0 (p.2 ∙ c.in_err-prepared.ensures.err))

pub returns-in_err-announced-clause-exact : goal.returns-in_err-announced-clause-exact
returns-in_err-announced-clause-exact c =
    let p = err_from_is_err_and c.from_residual-in_err-announced.result c.from_residual-in_err-announced.ensures.1 in
    let h = heard_text c.args.heard in
    let ms = c.args.messages.now in
    rw p.1
    (subst (λ (e : Refusal). StepStops
    (step_limit c.args.self.now.sessions (numbers_met c.args.self.now.core.state h) (Some h) ms) e) (sym p.2)
    (subst
    (λ (n : List Numbers). StepStops (step_limit c.args.self.now.sessions n (Some h) ms) c.in_err-announced.field-0.0)
    (heard_numbers c.prepare_news.new.self.state h
    ∙ ap (λ (x : CoreState). numbers_met x h) c.prepare_news.ensures.kept)
    c.in_err-announced.ensures.why))

pub returns-clause-exact : goal.returns-clause-exact
returns-clause-exact c =
    let h = heard_text c.args.heard in
    told c.args.self.now.core.state c.args.self.now.core.payloads.state c.args.self.now.sessions h
    c.args.messages.now
    c.send_step.new.core.state c.take_news.new.self.state c.announce_payloads.new.self.state
    (numbers_heard c.prepare_news.new.self.state.transfers.numbers (Some h))
    c.in_ok-announced.announced.items c.send_step.new.core.payloads.state c.take_news.new.self.payloads.state
    c.announce_payloads.new.self.payloads.state c.send_step.new.sessions
    (record {
      kept = ap (λ (x : cores.Held). x.state) c.send_step.ensures.kept ∙ c.prepare_news.ensures.kept;
      taken = c.take_news.ensures.exact;
      begun = c.announce_payloads.ensures.exact;
      numbers = heard_numbers c.prepare_news.new.self.state h
          ∙ ap (λ (x : cores.Held). numbers_met x.state h) (sym c.send_step.ensures.kept);
      next = c.in_ok-announced.ensures.counted;
      whole = c.in_ok-announced.ensures.whole;
      goes = c.in_ok-announced.ensures.goes;
      sent = c.in_ok-announced.ensures.sent;
      announced = c.in_ok-announced.ensures.announced;
      same = ap (λ (x : cores.Held). x.payloads.state) c.send_step.ensures.kept
          ∙ ap (λ (q : payloads.Held). q.state) c.prepare_news.ensures.payloads;
      left = c.take_news.ensures.payloads ∙ left_payloads h c.send_step.new.core.payloads.state;
      added = c.announce_payloads.ensures.payloads;
    })
