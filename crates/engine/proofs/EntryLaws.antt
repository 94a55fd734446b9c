-- What entering a collective gives.
use Rattle.std.proofs.Common.{◌≡◌, ℕ, Option, Some, None, refl, sym, ap, subst, ◌∙◌, inl, inr}
use Rattle.collective_messages.specs.declared.entry.Entry.{Entry}
use Rattle.collective_steps.specs.declared.step.Ending.{Ending}
use Rattle.point_to_point_calls.specs.declared.refusal.Refusal.{Refusal}
use Rattle.point_to_point_calls.specs.declared.refusal.Refusal.TheVariants as refusals
use Rattle.engine_calls.specs.Calls.{EnteringGives, IsEntered, IsRefused, LacksRoom, WhyRefused, reply_on_entry}
use Rattle.engine_calls.specs.EngineState.{EngineState}
use Rattle.engine.specs.CollectiveEntries.{Goes, WhyNot}
use Rattle.engine.specs.Parts.{PartsState, engine_in}
use Rattle.engine_calls.specs.Faults.{fault_of}
use Rattle.engine_calls.specs.declared.call.Call.{Call}
use Rattle.engine_calls.specs.declared.call.Call.TheVariants as calls
use Rattle.engine_calls.specs.declared.reply.Reply.{Reply}
use Rattle.engine_calls.specs.declared.reply.Reply.TheVariants as replies

-- a rule or limit refuses a call
pub refused_by : (e : EngineState) (call : Call) (why : Refusal) → fault_of e call ≡ Some why →
    IsRefused e call why call e
refused_by e call why fault = record {
  handed = refl;
  unchanged = refl;
  reason = subst (λ (f : Option Refusal). WhyRefused f e call why) (sym fault) refl;
}

-- where there is none, want of room does
pub refused_for : (e new : EngineState) (call : Call) (why : Refusal) → fault_of e call ≡ None → new ≡ e →
    LacksRoom e call why → IsRefused e call why call new
refused_for e new call why free same lacks = record {
  handed = refl;
  unchanged = same;
  reason = subst (λ (f : Option Refusal). WhyRefused f e call why) (sym free) lacks;
}

-- why a rank doesn't enter
pub lacks_room : (s : PartsState) (o : Option Ending) (place : ℕ) (x : Entry) (why : Refusal) → WhyNot s place x why →
    LacksRoom (engine_in s o) (calls.Enter (Some place) x) why
lacks_room s o place x refusals.OutOfMemory not = inl refl
lacks_room s o place x refusals.Limit not = inr (refl, (not.step, not.prepared, not.limit))
lacks_room s o place x refusals.Count not = absurd not
lacks_room s o place x refusals.WrongType not = absurd not
lacks_room s o place x refusals.Tag not = absurd not
lacks_room s o place x refusals.Communicator not = absurd not
lacks_room s o place x refusals.Rank not = absurd not
lacks_room s o place x refusals.Request not = absurd not
lacks_room s o place x refusals.Root not = absurd not
lacks_room s o place x refusals.Operation not = absurd not
lacks_room s o place x refusals.Replaced not = absurd not
lacks_room s o place x refusals.Short not = absurd not
lacks_room s o place x refusals.Magic not = absurd not
lacks_room s o place x refusals.Version not = absurd not
lacks_room s o place x refusals.Kind not = absurd not
lacks_room s o place x refusals.Length not = absurd not
lacks_room s o place x refusals.ForeignJob not = absurd not
lacks_room s o place x refusals.NotForMe not = absurd not
lacks_room s o place x refusals.StaleSource not = absurd not
lacks_room s o place x refusals.StaleTarget not = absurd not
lacks_room s o place x refusals.BadFrame not = absurd not
lacks_room s o place x refusals.OutOfWindow not = absurd not
lacks_room s o place x refusals.ClockBack not = absurd not

is_entered : (s t : PartsState) (o : Option Ending) (place : ℕ) (x : Entry) (ending : Option Ending) →
    fault_of (engine_in s o) (calls.Enter (Some place) x) ≡ None → Goes s place x ending t →
    IsEntered (engine_in s o) (Some place) x (reply_on_entry ending) (engine_in t o)
is_entered s t o place x ending free goes = record {
  allowed = free;
  place = place;
  named = refl;
  ending = ending;
  step = goes.step;
  enters = goes.enters;
  replied = refl;
  whole = goes.whole;
  goes = goes.goes;
  sessions = goes.sent;
  core = goes.counted;
  payloads = goes.kept;
  ended = refl;
}

-- a rank enters
pub entered : (s t : PartsState) (o : Option Ending) (place : ℕ) (x : Entry) (ending : Option Ending) →
    fault_of (engine_in s o) (calls.Enter (Some place) x) ≡ None → Goes s place x ending t →
    EnteringGives (engine_in s o) (Some place) x (reply_on_entry ending) (engine_in t o)
entered s t o place x None free goes = is_entered s t o place x None free goes
entered s t o place x (Some it) free goes = is_entered s t o place x (Some it) free goes

-- the same, told of the engine
pub entered_at : (s t : PartsState) (o : Option Ending) (now : EngineState) (comm : Option ℕ) (place : ℕ) (x : Entry)
    (ending : Option Ending) (r reply : Reply) → engine_in s o ≡ now → comm ≡ Some place → reply ≡ r →
    r ≡ reply_on_entry ending → fault_of now (calls.Enter comm x) ≡ None → Goes s place x ending t →
    EnteringGives now comm x reply (engine_in t o)
entered_at s t o now comm place x ending r reply same named back is free goes =
    let e : EngineState = engine_in s o in
    let new : EngineState = engine_in t o in
    subst (λ (m : EngineState). fault_of m (calls.Enter comm x) ≡ None → EnteringGives m comm x reply new) same
    (subst (λ (c : Option ℕ). fault_of e (calls.Enter c x) ≡ None → EnteringGives e c x reply new) (sym named)
    (λ allowed.
    subst (λ (a : Reply). EnteringGives e (Some place) x a new) (sym (back ∙ is))
    (entered s t o place x ending allowed goes))) free

-- or it is refused, and what was handed in comes back
pub stays_out : (s t : PartsState) (o : Option Ending) (now : EngineState) (comm : Option ℕ) (place : ℕ) (x y : Entry)
    (why : Refusal) (reply : Reply) → engine_in s o ≡ now → comm ≡ Some place →
    reply ≡ replies.Refused why (calls.Enter (Some place) y) → y ≡ x → fault_of now (calls.Enter comm x) ≡ None →
    WhyNot s place x why → t ≡ s → EnteringGives now comm x reply (engine_in t o)
stays_out s t o now comm place x y why reply same named back handed free not stays =
    subst (λ (a : Reply). EnteringGives now comm x a (engine_in t o))
    (sym (back ∙ ap (λ (z : Entry). replies.Refused why (calls.Enter (Some place) z)) handed ∙
    ap (λ (c : Option ℕ). replies.Refused why (calls.Enter c x)) (sym named)))
    (refused_for now (engine_in t o) (calls.Enter comm x) why free
    (ap (λ (m : PartsState). engine_in m o) stays ∙ same)
    (subst (λ (c : Option ℕ). LacksRoom now (calls.Enter c x) why) (sym named)
    (subst (λ (e : EngineState). LacksRoom e (calls.Enter (Some place) x) why) same (lacks_room s o place x why not))))
