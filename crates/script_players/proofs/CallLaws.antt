-- A call at a rank that is there: what is answered, and what its runner is told.
use Rattle.std.proofs.Common.{◌≡◌, ℕ, ◌<◌, Bool, true, false, List, [], ◌∷◌, ◌++◌, length, Option, Some, None, Result}
use Rattle.std.proofs.Common.{Ok, Err, if◌then◌else◌, get_or, slice_get, refl, sym, ap, ap₂, ◌∙◌, subst, arith}
use Rattle.std.proofs.lemmas.Bool.{lt-leb}
use Rattle.std.specs.Prelude.{OnOk}
use Rattle.std.proofs.lemmas.Option.{get_or_from_slice_get, none-some, same_Some}
use Rattle.engine_calls.specs.declared.call.Call.{Call}
use Rattle.engine_calls.specs.declared.reply.Reply.{Reply}
use Rattle.engine_calls.specs.declared.reply.Reply.TheVariants as replies
use Rattle.point_to_point_calls.specs.Refusals.{number_of_refusal}
use Rattle.point_to_point_calls.specs.declared.refusal.Refusal as lower
use Rattle.point_to_point_calls.specs.declared.refusal.Refusal.TheVariants as lowers
use Rattle.script_players.specs.Players.{AreAlike, CallGoes, IsHandedBack, number_in, refused_so, state_by}
use Rattle.event_loop.specs.declared.loop_state.RunnerState.{RunnerState}
use Rattle.event_loop.specs.declared.loop_state.RunnerState.TheVariants.{Ready}
use Rattle.script_runner.specs.ScriptSteps.{ScriptState}
use Rattle.vocabulary.specs.MessageLimits.{least}
use Rattle.vocabulary.specs.declared.message_limit.MessageLimit.{MessageLimit}
use Rattle.world.specs.Faults.{event_fault, first_fault}
use Rattle.world.specs.Steps.{ByTheEngine, ByTheWorld, ForRoom, IsRefusedBy, IsWhy, Went, entry_of}
use Rattle.world.specs.WorldState.{WorldState}
use Rattle.world.specs.declared.event.HistoryEntry.{HistoryEntry}
use Rattle.world.specs.declared.event.Event.{Event}
use Rattle.world.specs.declared.event.Event.TheVariants as events
use Rattle.world.specs.declared.event.Failed.{Failed}
use Rattle.world.specs.declared.event.Stepped.{Stepped}
use Rattle.world.specs.declared.refusal.WorldRefusal as world_refusal
use Rattle.world.specs.declared.refusal.WorldRefusal.TheVariants as refusals

abbrev rank_fault : Bool → Option world_refusal.WorldRefusal
rank_fault b = first_fault (if b then Some refusals.NoSuchRank else None) None

no_world_fault : (n : ℕ) (limit : MessageLimit) (ds : List (ℕ × List ℕ)) (r : ℕ) (call : Call) → r < n →
    event_fault n limit ds (events.Call r call) ≡ None
no_world_fault n limit ds r call h = ap rank_fault (lt-leb n r h)

-- it is its engine that refuses it
pub engine_refuses : (w : WorldState) (r : ℕ) (call : Call) (refused : world_refusal.WorldRefusal)
    (out : List (ℕ × List ℕ)) → r < length w.engines → IsWhy w (events.Call r call) refused out →
    (why : lower.Refusal) × (refused ≡ refusals.Engine why)
engine_refuses w r call refused out h (ByTheWorld fault o) =
    absurd (none-some refused (sym (no_world_fault (length w.engines) least w.datagrams r call h) ∙ fault))
engine_refuses w r call refused out h (ForRoom a b c e o) = (lowers.OutOfMemory, e)
engine_refuses w r call refused out h (ByTheEngine e a is o ran) = (e.refused, is)

-- and its runner is told
pub call_refused : (w v : WorldState) (r : ℕ) (call : Call) (failed : Failed) (before after : List ℕ)
    (old new : RunnerState Call) → r < length w.engines → IsRefusedBy w (events.Call r call) failed v →
    IsHandedBack failed new before after →
    (s : ScriptState) (lines : List (List ℕ)) →
    CallGoes w r call (Err failed) (record { runner = s; state = old; lines = lines; refused = before }) v
    (record { runner = s; state = new; lines = lines; refused = after })
call_refused w v r call failed before after old new h g back s lines =
    let e = engine_refuses w r call failed.refused g.out h g.why in
    let b = back e.0 r call e.1 g.back in (
      replies.Refused e.0 call,
      g,
      subst (λ (x : world_refusal.WorldRefusal). refused_so x call (replies.Refused e.0 call)) (sym e.1) refl,
      ap (λ (x : RunnerState Call). record { runner = s; state = x; lines = lines; refused = after }) b.0
          ∙ ap (λ (x : List ℕ). record {
            runner = s;
            state = Ready (Some (replies.Refused e.0 call));
            lines =
                lines;
            refused = x;
          }) (b.1 ∙ ap (λ (x : world_refusal.WorldRefusal). before ++ number_in x) (sym e.1)),
    )

-- IT IS TAKEN

last_at : (h : List HistoryEntry) (e : HistoryEntry) → slice_get (h ++ e ∷ []) (length h) ≡ Some e
last_at [] e = refl
last_at (x ∷ h) e = last_at h e

longer : (h : List HistoryEntry) (e : HistoryEntry) → length h < length (h ++ e ∷ [])
longer [] e = omega arith
longer (x ∷ h) e = let l : length h < length (h ++ e ∷ []) = longer h e in omega (arith, l)

-- what was added stands where the answer says
pub entry_there : (w v : WorldState) (event : Event) (added : Stepped) (g : Went w event added v) →
    slice_get v.history added.place ≡ Some (entry_of event g.gave)
entry_there w v event added g = ap₂ slice_get g.history (ap (λ (a : Stepped). a.place) g.answered) ∙
    last_at w.history (entry_of event g.gave)

pub place_below : (w v : WorldState) (event : Event) (added : Stepped) → Went w event added v →
    added.place < length v.history
place_below w v event added g =
    let at : added.place ≡ length w.history = ap (λ (a : Stepped). a.place) g.answered in
    let long : length v.history ≡ length (w.history ++ entry_of event g.gave ∷ []) = ap length g.history in
    let more : length w.history < length (w.history ++ entry_of event g.gave ∷ []) = longer w.history (entry_of event g.gave) in
    omega (arith, at, long, more)

-- and the rank stands as that says
pub call_taken : (w v : WorldState) (r : ℕ) (call : Call) (added : Stepped) (g : Went w (events.Call r call) added v)
    (entry : HistoryEntry) (history : List HistoryEntry) → history ≡ v.history →
    entry ≡ get_or history added.place entry →
    (told : Option Reply) → AreAlike entry.reply told → (old new : RunnerState Call) (refused : List ℕ) →
    (entry.event ≡ events.Call r call → new ≡ state_by call told entry.completion) →
    (s : ScriptState) (lines : List (List ℕ)) →
    CallGoes w r call (Ok added) (record { runner = s; state = old; lines = lines; refused = refused }) v
    (record { runner = s; state = new; lines = lines; refused = refused })
call_taken w v r call added g entry history same is told alike old new refused stands s lines = (
  g,
  told,
  subst (λ (y : HistoryEntry). AreAlike y.reply told) e alike,
  ap (λ (x : RunnerState Call). record { runner = s; state = x; lines = lines; refused = refused })
      (stands (ap (λ (y : HistoryEntry). y.event) e) ∙ ap (λ (y : HistoryEntry). state_by call told y.completion) e),
)
  where
    e : entry ≡ entry_of (events.Call r call) g.gave
    e = is ∙ (ap (λ (h : List HistoryEntry). get_or h added.place entry) same ∙
        get_or_from_slice_get v.history added.place (entry_of (events.Call r call) g.gave) entry
        (entry_there w v (events.Call r call) added g))

-- where a call succeeds, so much more is so
pub on_ok : {A B : Type 0} (r : Result A B) (P Q : Type 0) → (P → Q) → OnOk r P → OnOk r Q
on_ok (Ok x) P Q f h = f h
on_ok (Err e) P Q f h = tt
