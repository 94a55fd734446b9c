-- The last piece of a payload: its message is taken in beside the others, or it is put back.
use Rattle.std.proofs.Common.{◌≡◌, Bool, true, false, Result, Ok, Err, Option, Some, None, sym, ap, subst, ◌∙◌}
use Rattle.std.specs.Prelude.{if◌then◌else◌}
use Rattle.collective_steps.specs.declared.step.Ending.{Ending}
use Rattle.rendezvous.specs.Payloads.{Taken, Whole}
use Rattle.rendezvous.specs.PayloadState as payloads
use Rattle.rendezvous.specs.PayloadState.{after_announcing, after_data, after_return, is_due, whole_with}
use Rattle.datagram.specs.Spellings.{DataText}
use Rattle.point_to_point.specs.CoreState as cores
use Rattle.point_to_point_calls.specs.declared.refusal.Refusal.{Refusal}
use Rattle.sessions.specs.HeardBytes.{HeardText}
use Rattle.vocabulary.specs.declared.endpoint.Endpoint.{Endpoint}
use Rattle.engine.proofs.DatagramLaws.{for_any}
use Rattle.engine.specs.Datagrams.{IsNoticed, PieceGives, PieceGivesBy, WhyNotTaken, WhyUnnoticed, lesson_in}
use Rattle.engine.specs.Datagrams.{numbers_met, payloads_met}
use Rattle.engine.specs.Parts.{LastPieceGives, MessageGives, PartsGive, engine_with}
use Rattle.engine.specs.declared.parts.Parts.{Parts}
use Rattle.engine_calls.specs.EngineState.{EngineState, or_before}
use Rattle.engine_calls.specs.Frames.{step_payloads}

-- with no lesson there is nobody who teaches
no_lesson : (h : HeardText) → h.lesson ≡ false → lesson_in h ≡ None
no_lesson h on = ap (λ (b : Bool). if b then Some h.source else None) on

-- what a message gives says nothing of the payloads that stood there before; without a lesson the others all stay
noticed_beside : (e : EngineState) (q : payloads.State) (h : HeardText) (w : Whole) (new : EngineState) →
    h.lesson ≡ false → IsNoticed (record e { payloads = q }) (payloads_met q (lesson_in h)) h w new →
    IsNoticed e q h w new
noticed_beside e q h w new on is = record {
  payload = is.payload;
  read = is.read;
  ready = is.ready;
  is_ready = is.is_ready;
  whole = is.whole;
  goes = is.goes;
  core = is.core;
  collective = is.collective;
  contexts = is.contexts;
  ended = is.ended;
  payloads = is.payloads
      ∙ ap (λ (l : Option Endpoint). after_announcing (payloads_met q l)
      (step_payloads e.sessions.place.message_limit (numbers_met e.core h) is.ready.step.messages)) (no_lesson h on);
  sessions = is.sessions;
}

-- the same engine, with this in its core
abbrev pub with_core : cores.Held → EngineState → EngineState
with_core c e = record e { core = c.state; payloads = c.payloads.state }

-- ---- its message

-- it is taken in
pub message_taken : (h : HeardText) (t : Taken) (w : Whole) (old new : Parts) (ending : Option Ending) →
    w ≡ t.whole → PartsGive (MessageGives h w) old (Ok ending) new →
    PartsGive (LastPieceGives h t) old (Ok ending) new
message_taken h t w old new ending is gives = λ before.
    subst (λ (v : Whole). IsNoticed (engine_with old before) (payloads_met old.core.payloads.state (lesson_in h)) h v
    (engine_with new (or_before ending before))) is (gives before)

-- or it is refused, and the payload is put back
pub message_back : (h : HeardText) (t : Taken) (w : Whole) (old new : Parts) (e : Refusal) (c : cores.Held) →
    w ≡ t.whole → PartsGive (MessageGives h w) old (Err e) new →
    c ≡ record new.core { payloads = c.payloads } →
    c.payloads.state ≡ after_return new.core.payloads.state t →
    (before : Option Ending) →
    LastPieceGives h t (engine_with old before) (Err e) (with_core c (engine_with new before))
message_back h t w old new e c is gives others back before = (
  subst (λ (v : Whole). WhyUnnoticed (engine_with old before) h v e) is (gives before).0,
  ap (λ (d : cores.Held). with_core d (engine_with new before)) others
      ∙ ap (λ (q : payloads.State). record (engine_with new before) { payloads = q }) back
      ∙ ap (λ (x : EngineState). record x { payloads = after_return x.payloads t }) (gives before).1,
)

-- ---- the piece

-- with the last piece the message is taken in, and its payload comes no more; or it is refused, as the message is
pub last_given : (h : HeardText) (d : DataText) (t : Taken) (old : Parts) (c : cores.Held) (new : Parts)
    (r : Result (Option Ending) Refusal) →
    is_due old.core.payloads.state h.source.rank d.transfer d.offset d.bytes ≡ true →
    Some t.whole ≡ whole_with old.core.payloads.state h.source.rank d.transfer d.bytes →
    (others : c ≡ record old.core { payloads = c.payloads }) →
    c.payloads.state ≡ after_data old.core.payloads.state h.source.rank d.transfer d.bytes →
    after_return c.payloads.state t ≡ old.core.payloads.state → h.lesson ≡ false →
    PartsGive (LastPieceGives h t)
    (record old { core = c; placed = ap (λ (x : cores.Held). x.state.place) others ∙ old.placed }) r new →
    PartsGive (λ e x f. PieceGives e h d x f) old r new
last_given h d t old c new (Ok ending) due whole others grown back on gives = λ before.
    let e : EngineState = engine_with old before in
    let f : EngineState = engine_with new (or_before ending before) in
    let taken = subst (λ (x : cores.Held). LastPieceGives h t (with_core x e) (Ok tt) f) others (gives before) in
    subst
    (λ (b : Bool). PieceGivesBy b (whole_with old.core.payloads.state h.source.rank d.transfer d.bytes) e h d (Ok tt)
    f)
    (sym due)
    (subst (λ (o : Option Whole). PieceGivesBy true o e h d (Ok tt) f) whole
    (subst (λ (z : payloads.State). IsNoticed e z h t.whole f) grown
    (noticed_beside e c.payloads.state h t.whole f on taken)))
last_given h d t old c new (Err why) due whole others grown back on gives = λ before.
    let e : EngineState = engine_with old before in
    let f : EngineState = engine_with new before in
    let refused = subst (λ (x : cores.Held). LastPieceGives h t (with_core x e) (Err why) f) others (gives before) in
    subst
    (λ (b : Bool). PieceGivesBy b (whole_with old.core.payloads.state h.source.rank d.transfer d.bytes) e h d
    (Err why) f)
    (sym due) (
      subst (λ (o : Option Whole). WhyNotTaken o e h why) whole (for_any e c.payloads.state h t.whole why refused.0),
      refused.1 ∙ ap (λ (q : payloads.State). record e { payloads = q }) back,
    )

-- another piece stands behind those that came before
pub next_given : (h : HeardText) (d : DataText) (old : Parts) (c : cores.Held) (new : Parts)
    (r : Result (Unit {0}) Refusal) →
    is_due old.core.payloads.state h.source.rank d.transfer d.offset d.bytes ≡ true →
    None ≡ whole_with old.core.payloads.state h.source.rank d.transfer d.bytes → c ≡ old.core →
    ((before : Option Ending) →
    PieceGivesBy true None (with_core c (engine_with old before)) h d r (engine_with new before)) →
    (before : Option Ending) → PieceGives (engine_with old before) h d r (engine_with new before)
next_given h d old c new r due none same gives before =
    let e : EngineState = engine_with old before in
    let f : EngineState = engine_with new before in
    subst
    (λ (b : Bool). PieceGivesBy b (whole_with old.core.payloads.state h.source.rank d.transfer d.bytes) e h d r f)
    (sym due)
    (subst (λ (o : Option Whole). PieceGivesBy true o e h d r f) none
    (subst (λ (x : cores.Held). PieceGivesBy true None (with_core x e) h d r f) same (gives before)))
