-- What a world asks of an engine before it makes room: the rule or limit by which it refuses a call or a restart.
use Rattle.std.proofs.Common.{◌≡◌, ℕ, ◌⊎◌, inl, inr, List, [], Option, Some, None, refl, sym, ap, subst, ◌∙◌}
use Rattle.std.specs.Prelude.{Err, slice_get}
use Rattle.std.proofs.lemmas.Option.{same_Some}
use Rattle.engine_calls.specs.Calls.{CallGives, IsRefused, LacksRoom, WhyRefused}
use Rattle.engine_calls.specs.EngineState.{EngineState}
use Rattle.engine_calls.specs.Faults.{fault_of}
use Rattle.engine_calls.specs.declared.call.Call.{Call}
use Rattle.engine_calls.specs.declared.call.Call.TheVariants as calls
use Rattle.engine_calls.specs.declared.reply.Reply.TheVariants as replies
use Rattle.point_to_point_calls.specs.Refusals.{IsRefusal}
use Rattle.point_to_point_calls.specs.declared.refusal.Refusal as lower
use Rattle.point_to_point_calls.specs.declared.refusal.Refusal.TheVariants as lowers
use Rattle.world.specs.Faults.{first_fault, target_of}
use Rattle.world.specs.Steps.{ByTheEngine, ByTheWorld, CallRuns, EventRuns, ForRoom, IsCallRefusedBy, IsEntryLimited}
use Rattle.world.specs.Steps.{IsFaultOrMemory, IsFirstFault, IsWhy, RanAt, Rejection, asked_fault, engine_fault}
use Rattle.world.specs.Steps.{fault_among, fault_by, fault_in, of_engine}
use Rattle.world.specs.WorldState.{WorldState}
use Rattle.world.specs.declared.event.Event.{Event}
use Rattle.world.specs.declared.event.Event.TheVariants as events
use Rattle.world.specs.declared.refusal.WorldRefusal.{WorldRefusal}
use Rattle.world.specs.declared.refusal.WorldRefusal.TheVariants.{Engine}
use Rattle.world.proofs.Ranks.{set_same}

-- the engine of the rank that an event comes to has nothing against it, where what was asked for is none
pub none_asked : (engines es : List EngineState) (datagrams ds : List (ℕ × List ℕ)) (event : Event) (rank : ℕ)
    (found : Option lower.Refusal) → es ≡ engines → ds ≡ datagrams →
    target_of ds event ≡ Some rank → found ≡ fault_by (slice_get es rank) event → found ≡ None →
    fault_among engines (target_of datagrams event) event ≡ None
none_asked engines es datagrams ds event rank found engines_are datagrams_are target is none =
    ap (λ (d : List (ℕ × List ℕ)). fault_among engines (target_of d event) event) (sym datagrams_are) ∙
    ap (λ (t : Option ℕ). fault_among engines t event) target
    ∙ ap (λ (e : List EngineState). fault_by (slice_get e rank) event) (sym engines_are) ∙ sym is ∙ none

-- a refused call is what the engine gives, whatever the call
refusal_given : (e new : EngineState) (call back : Call) (why : lower.Refusal) → IsRefused e call why back new →
    CallGives e call (replies.Refused why back) new
refusal_given e new (calls.Isend s) back why is = is
refusal_given e new (calls.Irecv v) back why is = is
refusal_given e new (calls.Wait q) back why is = is
refusal_given e new (calls.Test q) back why is = is
refusal_given e new (calls.Waitany qs) back why is = is
refusal_given e new (calls.Waitall qs) back why is = is
refusal_given e new (calls.Cancel q) back why is = is
refusal_given e new (calls.Iprobe p) back why is = is
refusal_given e new (calls.Improbe p) back why is = is
refusal_given e new (calls.Mrecv q into) back why is = is
refusal_given e new (calls.Enter comm x) back why is = is
refusal_given e new (calls.Ask comm q) back why is = is

-- and the other way
given_refusal : (e new : EngineState) (call back : Call) (why : lower.Refusal) →
    CallGives e call (replies.Refused why back) new → IsRefused e call why back new
given_refusal e new (calls.Isend s) back why is = is
given_refusal e new (calls.Irecv v) back why is = is
given_refusal e new (calls.Wait q) back why is = is
given_refusal e new (calls.Test q) back why is = is
given_refusal e new (calls.Waitany qs) back why is = is
given_refusal e new (calls.Waitall qs) back why is = is
given_refusal e new (calls.Cancel q) back why is = is
given_refusal e new (calls.Iprobe p) back why is = is
given_refusal e new (calls.Improbe p) back why is = is
given_refusal e new (calls.Mrecv q into) back why is = is
given_refusal e new (calls.Enter comm x) back why is = is
given_refusal e new (calls.Ask comm q) back why is = is

-- an engine refuses an event by the fault that it was asked for, and stays as it was
refuses_so : (datagrams : List (ℕ × List ℕ)) (event : Event) (e : EngineState) (why : lower.Refusal) →
    asked_fault e event ≡ Some why →
    EventRuns datagrams event e (Err (record { refused = why; out = [] })) e
refuses_so datagrams (events.Call rank call) e why is = (
  refl,
  refl,
  (
    call,
    refusal_given e e call call why
        (record {
          handed = refl;
          unchanged = refl;
          reason =
              subst (λ (o : Option lower.Refusal). WhyRefused o e call why) (sym is) refl;
        }),
  ),
)
refuses_so datagrams (events.Deliver number) e why is = absurd cc
refuses_so datagrams (events.Stray rank bytes) e why is = absurd cc
refuses_so datagrams (events.Tick rank now) e why is = absurd cc
refuses_so datagrams (events.Restart rank) e why is =
    (refl, refl, subst (λ (o : Option lower.Refusal). IsRefusal o why) (sym is) refl)

-- so does the engine of the rank that the event comes to
refused_at : (old : WorldState) (event : Event) (rank : ℕ) (e : EngineState) (why : lower.Refusal) →
    target_of old.datagrams event ≡ Some rank → slice_get old.engines rank ≡ Some e →
    asked_fault e event ≡ Some why →
    RanAt old.datagrams event old.engines (Err (record { refused = why; out = [] })) old.engines
refused_at old event rank e why target there is =
    record {
      rank = rank;
      target = target;
      engine = e;
      there = there;
      next = e;
      ran = refuses_so old.datagrams event e why is;
      others = sym (set_same old.engines rank e there);
    }

-- and so the event is refused
by_the_engine : (old : WorldState) (event : Event) (rank : ℕ) (why : lower.Refusal) (refused : WorldRefusal) →
    fault_in old event ≡ None → target_of old.datagrams event ≡ Some rank →
    fault_by (slice_get old.engines rank) event ≡ Some why → refused ≡ Engine why → IsWhy old event refused []
by_the_engine old event rank why refused allowed target is refused_is = go (slice_get old.engines rank) refl is
  where
    go : (o : Option EngineState) → slice_get old.engines rank ≡ o → fault_by o event ≡ Some why →
        IsWhy old event refused []
    go None there h = absurd cc
    go (Some e) there h =
        ByTheEngine (record { refused = why; out = [] }) allowed refused_is refl
        (refused_at old event rank e why target there h)

-- the same by what was asked for
pub asked_and_refused : (old : WorldState) (es : List EngineState) (ds : List (ℕ × List ℕ)) (event : Event) (rank : ℕ)
    (found : Option lower.Refusal) (why : lower.Refusal) (refused : WorldRefusal) →
    fault_in old event ≡ None → es ≡ old.engines → ds ≡ old.datagrams → target_of ds event ≡ Some rank →
    found ≡ fault_by (slice_get es rank) event → found ≡ Some why → refused ≡ Engine why →
    IsWhy old event refused []
asked_and_refused old es ds event rank found why refused allowed engines_are datagrams_are target is some refused_is =
    by_the_engine old event rank why refused allowed
    (ap (λ (d : List (ℕ × List ℕ)). target_of d event) (sym datagrams_are) ∙ target)
    (ap (λ (e : List EngineState). fault_by (slice_get e rank) event) (sym engines_are) ∙ sym is ∙ some) refused_is

-- ---- what a call and a restart are refused by

-- by the first of two faults, or else for want of memory
first_of_two : (a : Option WorldRefusal) (found : Option lower.Refusal) (why : lower.Refusal) (refused : WorldRefusal) →
    a ≡ None → refused ≡ Engine why → IsRefusal found why →
    IsFaultOrMemory (first_fault a (of_engine found)) refused
first_of_two None None why refused none is why_is = is ∙ ap Engine why_is
first_of_two None (Some fault) why refused none is why_is = is ∙ ap Engine why_is
first_of_two (Some fault) found why refused none is why_is = absurd cc

-- by a rule of the world
first_is : (a b : Option WorldRefusal) (refused : WorldRefusal) → a ≡ Some refused →
    IsFaultOrMemory (first_fault a b) refused
first_is a b refused is = subst (λ (o : Option WorldRefusal). IsFaultOrMemory (first_fault o b) refused) (sym is) refl

-- for want of memory
none_is : (a : Option WorldRefusal) (found : Option lower.Refusal) (refused : WorldRefusal) → a ≡ None → found ≡ None →
    refused ≡ Engine lowers.OutOfMemory →
    IsFaultOrMemory (first_fault a (of_engine found)) refused
none_is None None refused none free is = is
none_is None (Some fault) refused none free is = absurd cc
none_is (Some fault) found refused none free is = absurd cc

-- the fault of the engine that an event came to
fault_there : (old : WorldState) (event : Event) (rank : ℕ) (e : EngineState) → target_of old.datagrams event ≡
    Some rank → slice_get old.engines rank ≡ Some e →
    engine_fault old event ≡ asked_fault e event
fault_there old event rank e target there =
    ap (λ (t : Option ℕ). fault_among old.engines t event) target ∙
    ap (λ (o : Option EngineState). fault_by o event) there

-- why an engine refused a call
call_refused : (e new : EngineState) (call : Call) (refusal : Rejection) → CallRuns e call (Err refusal) new →
    WhyRefused (fault_of e call) e call refusal.refused
call_refused e new call refusal (unchanged, silent, (back, gives)) =
    (given_refusal e e call back refusal.refused gives).reason

-- what a call lacks room for: memory, or a collective what its rank then does of itself
lacking : (e : EngineState) (call : Call) (why : lower.Refusal) → LacksRoom e call why →
    (why ≡ lowers.OutOfMemory) ⊎ ((why ≡ lowers.Limit) × IsEntryLimited e call)
lacking e (calls.Isend s) why is = inl is.0
lacking e (calls.Irecv v) why is = inl is.0
lacking e (calls.Wait q) why is = absurd is
lacking e (calls.Test q) why is = absurd is
lacking e (calls.Waitany qs) why is = absurd is
lacking e (calls.Waitall qs) why is = inl is
lacking e (calls.Cancel q) why is = absurd is
lacking e (calls.Iprobe p) why is = absurd is
lacking e (calls.Improbe p) why is = inl is.0
lacking e (calls.Mrecv q into) why is = inl is.0
lacking e (calls.Enter comm x) why is = is
lacking e (calls.Ask comm q) why is = inl is.0

-- so it is as the world's refusal
lacking_at : (engines : List EngineState) (rank : ℕ) (e : EngineState) (call : Call) (why : lower.Refusal)
    (refused : WorldRefusal) → slice_get engines rank ≡ Some e → refused ≡ Engine why →
    (why ≡ lowers.OutOfMemory) ⊎ ((why ≡ lowers.Limit) × IsEntryLimited e call) →
    IsCallRefusedBy None engines rank call refused
lacking_at engines rank e call why refused there is (inl memory) = inl (is ∙ ap Engine memory)
lacking_at engines rank e call why refused there is (inr (limit, limited)) =
    inr (is ∙ ap Engine limit, record { engine = e; there = there; limited = limited })

-- by the first of two faults, or else for want of room
call_by_first : (engines : List EngineState) (rank : ℕ) (e : EngineState) (call : Call) (a : Option WorldRefusal)
    (found : Option lower.Refusal) (why : lower.Refusal) (refused : WorldRefusal) →
    a ≡ None → refused ≡ Engine why → slice_get engines rank ≡ Some e → WhyRefused found e call why →
    IsCallRefusedBy (first_fault a (of_engine found)) engines rank call refused
call_by_first engines rank e call None None why refused none is there lacks =
    lacking_at engines rank e call why refused there is (lacking e call why lacks)
call_by_first engines rank e call None (Some fault) why refused none is there why_is = is ∙ ap Engine why_is
call_by_first engines rank e call (Some fault) found why refused none is there why_is = absurd cc

-- by a rule of the world
call_by_world : (engines : List EngineState) (rank : ℕ) (call : Call) (a b : Option WorldRefusal)
    (refused : WorldRefusal) → a ≡ Some refused → IsCallRefusedBy (first_fault a b) engines rank call refused
call_by_world engines rank call a b refused is =
    subst (λ (o : Option WorldRefusal). IsCallRefusedBy (first_fault o b) engines rank call refused) (sym is) refl

-- for want of memory
call_for_memory : (engines : List EngineState) (rank : ℕ) (call : Call) (a : Option WorldRefusal)
    (found : Option lower.Refusal) (refused : WorldRefusal) → a ≡ None → found ≡ None →
    refused ≡ Engine lowers.OutOfMemory → IsCallRefusedBy (first_fault a (of_engine found)) engines rank call refused
call_for_memory engines rank call None None refused none free is = inl is
call_for_memory engines rank call None (Some fault) refused none free is = absurd cc
call_for_memory engines rank call (Some fault) found refused none free is = absurd cc

-- a call that the engine of its rank refused
call_by_engine : (old : WorldState) (rank : ℕ) (call : Call) (refusal : Rejection) (refused : WorldRefusal) →
    fault_in old (events.Call rank call) ≡ None → refused ≡ Engine refusal.refused →
    RanAt old.datagrams (events.Call rank call) old.engines (Err refusal) old.engines →
    IsFirstFault old (events.Call rank call) refused
call_by_engine old rank call refusal refused none is ran =
    let there : slice_get old.engines rank ≡ Some ran.engine = subst (λ (r : ℕ). slice_get old.engines r ≡ Some ran.engine) (sym (same_Some rank ran.rank ran.target)) ran.there in
    call_by_first old.engines rank ran.engine call (fault_in old (events.Call rank call))
    (engine_fault old (events.Call rank call)) refusal.refused refused none is there
    (subst (λ (o : Option lower.Refusal). WhyRefused o ran.engine call refusal.refused)
    (sym (fault_there old (events.Call rank call) ran.rank ran.engine ran.target ran.there))
    (call_refused ran.engine ran.next call refusal ran.ran))

-- whatever refuses a call or a restart is the first fault
pub first_fault_refuses : (old : WorldState) (event : Event) (refused : WorldRefusal) (out : List (ℕ × List ℕ)) →
    IsWhy old event refused out → IsFirstFault old event refused
first_fault_refuses old (events.Deliver number) refused out is = tt
first_fault_refuses old (events.Stray rank bytes) refused out is = tt
first_fault_refuses old (events.Tick rank now) refused out is = tt
first_fault_refuses old (events.Call rank call) refused out (ByTheWorld fault silent) =
    call_by_world old.engines rank call (fault_in old (events.Call rank call))
    (of_engine (engine_fault old (events.Call rank call))) refused fault
first_fault_refuses old (events.Call rank call) refused out (ForRoom none free needs is silent) =
    call_for_memory old.engines rank call (fault_in old (events.Call rank call))
    (engine_fault old (events.Call rank call)) refused none free is
first_fault_refuses old (events.Call rank call) refused out (ByTheEngine e none is gives ran) =
    call_by_engine old rank call e refused none is ran
first_fault_refuses old (events.Restart rank) refused out (ByTheWorld fault silent) =
    first_is (fault_in old (events.Restart rank)) (of_engine (engine_fault old (events.Restart rank))) refused fault
first_fault_refuses old (events.Restart rank) refused out (ForRoom none free needs is silent) =
    none_is (fault_in old (events.Restart rank)) (engine_fault old (events.Restart rank)) refused none free is
first_fault_refuses old (events.Restart rank) refused out (ByTheEngine e none is gives ran) =
    first_of_two (fault_in old (events.Restart rank)) (engine_fault old (events.Restart rank)) e.refused refused none is
    (subst (λ (o : Option lower.Refusal). IsRefusal o e.refused)
    (sym (fault_there old (events.Restart rank) ran.rank ran.engine ran.target ran.there)) ran.ran.2)
