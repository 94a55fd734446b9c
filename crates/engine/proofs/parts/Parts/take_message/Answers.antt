-- A message is taken in once the others are told, or refused.
use Rattle.std.proofs.Common.{List, Option, ap, subst, sym, ◌≡◌, ◌∙◌}
use Rattle.collective_messages.specs.declared.message.CollectiveMessage.{CollectiveMessage}
use Rattle.collective_steps.specs.declared.step.Ending.{Ending}
use Rattle.communicators.specs.Members as members
use Rattle.context_agreement.specs.Communicators.{Held}
use Rattle.incarnation.specs.declared.place.Place.{Place}
use Rattle.payload.specs.Spellings.{payload_text}
use Rattle.std.specs.Prelude.{Some}
use Rattle.point_to_point_calls.specs.declared.refusal.Refusal.{Refusal}
use Rattle.sessions.specs.HeardBytes.{heard_text}
use Rattle.engine.proofs.DatagramLaws.{same_engine, same_groups}
use Rattle.engine.proofs.MessageLaws.{noticed, stopped, unready}
use Rattle.engine.specs.Datagrams.{IsTold, WhyUnnoticed, numbers_met, received}
use Rattle.engine.specs.JobPayloads.{payload_in}
use Rattle.engine.specs.Parts.{engine_with, state_of}
use Rattle.engine.specs.declared.parts.Parts.{Parts}
use Rattle.engine_calls.specs.Asks.{groups_of}
use Rattle.engine_calls.specs.Frames.{step_limit}
use Rattle.engine_calls.specs.Steps.{StepStops}
use Rattle.engine.proofs.parts.Parts.take_message.Goals as goal

pub returns-in-Err-carry_out_notices-clause-unchanged : goal.returns-in-Err-carry_out_notices-clause-unchanged
returns-in-Err-carry_out_notices-clause-unchanged c =
    c.in-Err-carry_out_notices.ensures.unchanged
    ∙ same_groups (state_of c.args.self.now) (groups_of c.prepare_message.new.self) c.prepare_message.ensures.kept.0
    c.prepare_message.ensures.kept.1

pub returns-in-Err-clause-exact : goal.returns-in-Err-clause-exact
returns-in-Err-clause-exact c =
    let h = heard_text c.args.heard in
    let old = c.args.self.now in
    let p = payload_text c.in_ok-payload.payload in
    let new : Parts = record old { communicators = c.prepare_message.new.self } in
    λ (before : Option Ending). (
      subst (λ (e : Refusal). WhyUnnoticed (engine_with old before) h (received c.args.message) e)
          (sym c.of_collectives.ensures)
          (unready (engine_with old before) h (received c.args.message) c.lesson_in-lesson.result p c.in-Err.refused
          c.lesson_in-lesson.ensures
          (subst (λ (at : Place). payload_in at.size c.args.message.bytes.now ≡ Some p) c.place.ensures.place
          c.in_ok-payload.ensures.ok)
          c.in-Err.ensures.err),
      same_engine old new
          (same_groups (state_of old) (groups_of c.prepare_message.new.self) c.prepare_message.ensures.kept.0
          c.prepare_message.ensures.kept.1)
          before,
    )

pub returns-in-Err-carry_out_notices-clause-exact : goal.returns-in-Err-carry_out_notices-clause-exact
returns-in-Err-carry_out_notices-clause-exact c =
    let h = heard_text c.args.heard in
    let old = c.args.self.now in
    λ (before : Option Ending). (
      stopped (engine_with old before) h (received c.args.message)
          c.lesson_in-lesson.result (payload_text c.in_ok-payload.payload) c.in-Ok.ready
          c.in-Err-carry_out_notices.refused
          c.lesson_in-lesson.ensures
          (subst (λ (p : Place). payload_in p.size c.args.message.bytes.now ≡ Some (payload_text c.in_ok-payload.payload))
          c.place.ensures.place c.in_ok-payload.ensures.ok)
          c.in-Ok.ensures.ready
          (subst (λ (ms : List CollectiveMessage). StepStops
          (step_limit old.sessions (numbers_met old.core.state h) (Some h) ms) c.in-Err-carry_out_notices.refused)
          c.messages.ensures c.in-Err-carry_out_notices.ensures.exact),
      same_engine old c.carry_out_notices.new.self (returns-in-Err-carry_out_notices-clause-unchanged c) before,
    )

pub returns-in-Ok-carry_out_notices-clause-exact : goal.returns-in-Ok-carry_out_notices-clause-exact
returns-in-Ok-carry_out_notices-clause-exact c =
    let h = heard_text c.args.heard in
    let old = c.args.self.now in
    let told = c.carry_out_notices.new.self in
    let same : told.communicators ≡ c.prepare_message.new.self = c.carry_out_notices.ensures.communicators in
    λ (before : Option Ending).
    noticed (engine_with old before) h (received c.args.message)
    c.lesson_in-lesson.result (payload_text c.in_ok-payload.payload) c.in-Ok.ready
    told.communicators.collective.state c.learn-replaced.new.communicators.collective.state
    c.on_message-left.new.self.collective.state
    told.communicators.contexts.state c.learn-replaced.new.communicators.contexts.state
    c.on_message-left.new.self.contexts.state
    c.learn-replaced.result c.on_message-left.result c.ending_or.result told.core.state told.core.payloads.state
    told.sessions
    c.lesson_in-lesson.ensures
    (subst (λ (p : Place). payload_in p.size c.args.message.bytes.now ≡ Some (payload_text c.in_ok-payload.payload))
    c.place.ensures.place c.in_ok-payload.ensures.ok)
    c.in-Ok.ensures.ready
    (subst
    (λ (ms : List CollectiveMessage). IsTold old.core.state old.core.payloads.state old.sessions h ms told.core.state
    told.core.payloads.state told.sessions)
    c.messages.ensures c.in-Ok-carry_out_notices.ensures.exact)
    (record {
      kept = ap (λ (g : members.Held). g.collective.state) same ∙ c.prepare_message.ensures.kept.0;
      held = ap (λ (g : members.Held). g.contexts.state) same ∙ c.prepare_message.ensures.kept.1;
      learnt = c.learn-replaced.ensures.collective;
      same = ap (λ (g : Held). g.state) c.learn-replaced.ensures.contexts;
      replaces = c.learn-replaced.ensures.ending;
      taken = c.on_message-left.ensures.collective;
      got = c.on_message-left.ensures.contexts;
      leaves = c.on_message-left.ensures.ending;
      ends = c.ending_or.ensures;
    })
