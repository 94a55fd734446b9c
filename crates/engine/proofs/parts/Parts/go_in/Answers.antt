-- An entry that was made ready, and whose frames were sent, has entered.
use Rattle.std.proofs.Common.{arith, ◌≡◌, ℕ, List, None, Some, refl, sym, ap, subst, ◌∙◌, inr}
use Rattle.collective_messages.specs.declared.entry.Inside.{Inside}
use Rattle.collective_messages.specs.declared.message.CollectiveMessage.{CollectiveMessage}
use Rattle.collective_messages.specs.declared.entry.Entry.{Entry}
use Rattle.collectives.specs.Calls.{entered, inside_of}
use Rattle.collectives.specs.State.{State, after_step}
use Rattle.collective_steps.specs.Steps.{IsPreparedEntry, Prepared, contexts_after, ending_of}
use Rattle.context_agreement.specs.Communicators.{ContextsState}
use Rattle.sessions.specs.Events.{after_event}
use Rattle.rendezvous.specs.Payloads.{Announced}
use Rattle.rendezvous.specs.PayloadNumbers.{AreLeft, counted}
use Rattle.rendezvous.specs.PayloadState.{after_announcing}
use Rattle.point_to_point.specs.CoreState as cores
use Rattle.point_to_point.specs.CoreState.{CoreState, with_numbers}
use Rattle.rendezvous.specs.declared.transfers.Numbers.{Numbers}
use Rattle.engine.specs.CollectiveEntries.{WhyNot}
use Rattle.engine.specs.Parts.{PartsState, state_of}
use Rattle.engine_calls.specs.Steps.{StepStops}
use Rattle.point_to_point_calls.specs.declared.refusal.Refusal.{Refusal}
use Rattle.point_to_point_calls.specs.declared.refusal.Refusal.TheVariants as refusals
use Rattle.sessions.specs.SessionsState.{SessionsState}
use Rattle.engine_calls.specs.Frames.{AreWhole, step_limit, step_numbers, step_payloads, step_sendings}
use Rattle.sessions.proofs.Windows.{most_within}
use Rattle.engine.proofs.parts.Parts.go_in.Goals as goal

pub returns-in-Ok-send_step-clause-exact : goal.returns-in-Ok-send_step-clause-exact
returns-in-Ok-send_step-clause-exact c =
    let step = c.in-Ok.ready.step in
    let kept = c.prepare_entry.ensures.kept in
    let old = c.args.self.now in
    let ns = old.core.state.transfers.numbers in
    let same : c.send_step.new.core.state ≡ old.core.state =
    ap (λ (x : cores.Held). x.state) c.send_step.ensures.kept in
    record {
      step = step;
      enters = (
        c.in-Ok.ensures.step,
        c.enter.ensures.ending ∙ ap (λ (k : ContextsState). ending_of k step.outcome) kept.1,
        c.enter.ensures.collective
            ∙ ap (λ (s : State). after_step (entered s c.in-Ok.ready.inside) step.outcome) kept.0
            ∙ ap (λ (i : Inside). after_step (entered old.communicators.collective.state i) step.outcome)
            c.in-Ok.ensures.inside,
        c.enter.ensures.contexts ∙ ap (λ (k : ContextsState). contexts_after k step.drawn step.outcome) kept.1,
      );
      whole = subst AreWhole c.messages.ensures c.in-Ok-send_step.ensures.whole;
      goes = subst (λ (ms : List CollectiveMessage). step_limit old.sessions ns None ms ≡ None) c.messages.ensures
          c.in-Ok-send_step.ensures.goes;
      counted = c.announce_payloads.ensures.exact
          ∙ ap (λ (x : CoreState). with_numbers x
          (counted x.transfers.numbers c.in-Ok-send_step.announced.items)) same
          ∙ ap (λ (n : List Numbers). with_numbers old.core.state n)
          (subst (λ (ms : List CollectiveMessage).
          counted ns c.in-Ok-send_step.announced.items ≡ step_numbers old.sessions.place.message_limit ns ms)
          c.messages.ensures c.in-Ok-send_step.ensures.counted);
      kept = c.announce_payloads.ensures.payloads
          ∙ ap (λ (x : cores.Held). after_announcing x.payloads.state c.in-Ok-send_step.announced.items)
          c.send_step.ensures.kept
          ∙ ap (λ (l : List Announced). after_announcing old.core.payloads.state l)
          (subst (λ (ms : List CollectiveMessage).
          c.in-Ok-send_step.announced.items ≡ step_payloads old.sessions.place.message_limit ns ms)
          c.messages.ensures c.in-Ok-send_step.ensures.announced);
      sent = subst
          (λ (ms : List CollectiveMessage). c.send_step.new.sessions ≡
          after_event old.sessions None (step_sendings old.sessions.place ns ms))
          c.messages.ensures c.in-Ok-send_step.ensures.sent;
    }

pub announce_payloads-requires-clause-left : goal.announce_payloads-requires-clause-left
announce_payloads-requires-clause-left c =
    subst (λ (n : List Numbers). AreLeft n c.in-Ok-send_step.announced.items)
    (sym (ap (λ (x : cores.Held). x.state.transfers.numbers) c.send_step.ensures.kept))
    c.in-Ok-send_step.ensures.left

-- why what a rank would do of itself can't be sent, as its entry says it
why_not : (s : PartsState) (ns : List Numbers) (place : ℕ) (x : Entry) (step : Prepared) (ms : List CollectiveMessage)
    (e : Refusal) →
    IsPreparedEntry s.groups.collective.own (inside_of s.groups.collective s.groups.contexts place x) s.groups.contexts
    s.groups.collective.kept step → ns ≡ s.core.transfers.numbers → ms ≡ step.messages →
    StepStops (step_limit s.sessions ns None ms) e → WhyNot s place x e
why_not s ns place x step ms refusals.Count is same these stops = absurd stops
why_not s ns place x step ms refusals.WrongType is same these stops = absurd stops
why_not s ns place x step ms refusals.Tag is same these stops = absurd stops
why_not s ns place x step ms refusals.Communicator is same these stops = absurd stops
why_not s ns place x step ms refusals.Rank is same these stops = absurd stops
why_not s ns place x step ms refusals.Request is same these stops = absurd stops
why_not s ns place x step ms refusals.Root is same these stops = absurd stops
why_not s ns place x step ms refusals.Operation is same these stops = absurd stops
why_not s ns place x step ms refusals.Replaced is same these stops = absurd stops
why_not s ns place x step ms refusals.Limit is same these stops =
    record {
      step = step;
      prepared = is;
      limit = inr (subst (λ (n : List Numbers). step_limit s.sessions n None step.messages ≡ Some refusals.Limit) same
          (subst (λ (l : List CollectiveMessage). step_limit s.sessions ns None l ≡ Some refusals.Limit) these stops));
    }
why_not s ns place x step ms refusals.OutOfMemory is same these stops = tt
why_not s ns place x step ms refusals.Short is same these stops = absurd stops
why_not s ns place x step ms refusals.Magic is same these stops = absurd stops
why_not s ns place x step ms refusals.Version is same these stops = absurd stops
why_not s ns place x step ms refusals.Kind is same these stops = absurd stops
why_not s ns place x step ms refusals.Length is same these stops = absurd stops
why_not s ns place x step ms refusals.ForeignJob is same these stops = absurd stops
why_not s ns place x step ms refusals.NotForMe is same these stops = absurd stops
why_not s ns place x step ms refusals.StaleSource is same these stops = absurd stops
why_not s ns place x step ms refusals.StaleTarget is same these stops = absurd stops
why_not s ns place x step ms refusals.BadFrame is same these stops = absurd stops
why_not s ns place x step ms refusals.OutOfWindow is same these stops = absurd stops
why_not s ns place x step ms refusals.ClockBack is same these stops = absurd stops

pub returns-in-Err-send_step-clause-exact : goal.returns-in-Err-send_step-clause-exact
returns-in-Err-send_step-clause-exact c =
    why_not (state_of c.args.self.now) c.args.self.now.core.state.transfers.numbers c.args.place c.args.entry
    c.in-Ok.ready.step c.messages.result.now c.in-Err-send_step.refused
    c.in-Ok.ensures.step refl c.messages.ensures c.in-Err-send_step.ensures.why

pub returns-in-Ok-send_step-clause-few : goal.returns-in-Ok-send_step-clause-few
returns-in-Ok-send_step-clause-few c =
    let s : SessionsState = c.args.self.now.sessions in
    omega (
      arith,
      most_within None s c.send_step.new.sessions s.place.size c.place-place.ensures.peers
          c.in-Ok-send_step.ensures.within,
    )
