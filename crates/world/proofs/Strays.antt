-- Why an engine of a world would refuse the bytes that the world refuses as stray ones.
use Rattle.std.proofs.Common.{◌≡◌, ℕ, ◌<◌, Bool, true, false, List, length, Some, None, Result, refl, sym, ap, subst}
use Rattle.std.proofs.Common.{◌∙◌, arith, Option}
use Rattle.std.specs.Prelude.{Ok, Err, ◌==◌, ◌&&◌, nat_le, slice_get, if◌then◌else◌}
use Rattle.std.proofs.lemmas.Option.{same_Some, slice_get_within}
use Rattle.std.proofs.lemmas.Bool.{le-leb, leb-true, lt-leb}
use Rattle.std.proofs.lemmas.Grind.{common_steps}
use Rattle.vocabulary.specs.declared.message_limit.MessageLimit.{MessageLimit}
use Rattle.proof_network_bridge.specs.WorldViews.{limit_in}
use Rattle.datagram.specs.declared.datagram.Header.{Header}
use Rattle.datagram.specs.declared.refusal.DatagramRefusal as reading
use Rattle.datagram.specs.declared.refusal.DatagramRefusal.TheVariants as readings
use Rattle.datagram.proofs.Grammar.{within_parts}
use Rattle.datagram.specs.ByteMeanings.{
  body_of,
  content_of,
  datagram_of,
  datagram_up_to,
  datagram_within,
  header_of,
  kind_of,
  number_at,
}
use Rattle.datagram.specs.Spellings.{DatagramText}
use Rattle.datagram.proofs.Fields.{bind_ok, guard_ok, ok_is}
use Rattle.incarnation.specs.declared.judgement.Judgement.{Judgement}
use Rattle.incarnation.specs.declared.refusal.IncarnationRefusal as judging
use Rattle.incarnation.specs.declared.refusal.IncarnationRefusal.TheVariants as judgings
use Rattle.incarnation.specs.Judgements.{judgement}
use Rattle.incarnation.specs.Knowledge.{Knowledge}
use Rattle.sessions.specs.HeardBytes.{heard_by, heard_in, heard_of, plainly}
use Rattle.sessions.specs.Refusals as sessions_refusals
use Rattle.sessions.specs.SessionsState.{SessionsState, knowledge}
use Rattle.sessions.specs.declared.refusal.SessionRefusal as sessions
use Rattle.sessions.specs.declared.refusal.SessionRefusal.TheVariants as sessions_refused
use Rattle.engine_calls.specs.Refusals.{of_sessions}
use Rattle.engine.specs.Datagrams.{HearingGives}
use Rattle.engine_calls.specs.EngineState.{EngineState}
use Rattle.point_to_point_calls.specs.Refusals.{of_datagram}
use Rattle.point_to_point_calls.specs.declared.refusal.Refusal as lower
use Rattle.point_to_point_calls.specs.declared.refusal.Refusal.TheVariants as lowers
use Rattle.world.specs.declared.refusal.WorldRefusal.{WorldRefusal}
use Rattle.world.specs.declared.refusal.WorldRefusal.TheVariants.{CarriesJob, Engine, NoSuchRank}
use Rattle.world.specs.Faults.{event_fault, first_fault, target_fault}
use Rattle.world.specs.Steps.{ByTheEngine, ByTheWorld, ForRoom, IsAsAtTheEngine, IsWhy}
use Rattle.world.specs.Strays.{EngineRefuses, carries_job, fault_of_text, stray_fault}
use Rattle.world.specs.WorldState.{ArePlaced, WorldState}
use Rattle.world.specs.declared.event.Event.{Event}
use Rattle.world.specs.declared.event.Event.TheVariants as events

-- a datagram has a whole header, and its job is what bytes 16 to 23 spell
header_read : (bytes : List ℕ) (d : DatagramText) → datagram_of bytes ≡ Ok d → (nat_le 24 (length bytes) ≡ true) ×
    (d.header.job ≡ number_at 16 8 bytes)
unfolding datagram_up_to header_of kind_of
header_read bytes d is =
    let k = bind_ok (kind_of bytes) _ d is in
    let long = guard_ok (nat_le 32 (length bytes)) readings.Short _ k.0 k.1 in
    let b = bind_ok (body_of 61440 k.0 bytes) _ d k.2 in
    let c = bind_ok (content_of k.0 (number_at 24 8 bytes) b.0) _ d b.2 in
    let most = leb-true _ _ long.0 in
    (le-leb _ _ (omega (arith, most)), sym (ap (λ (x : DatagramText). x.header.job) (ok_is _ d c.2)))

-- another job is the first thing that judging looks at
foreign : (k : Knowledge) (h : Header) → (h.job == k.place.job) ≡ false → judgement k h ≡ Err judgings.ForeignJob
unfolding judgement
foreign k h other = grind (arith, common_steps, other)

-- the second test fails where the first one holds
second_fails : (a b : Bool) → (a && b) ≡ false → a ≡ true → b ≡ false
second_fails true b fails holds = fails
second_fails false b fails holds = absurd cc

-- what is refused with no reset leaves an engine as it was
refused_plainly : (e new : EngineState) (why : sessions.SessionRefusal) (is : WorldRefusal)
    (result : Result (Unit {0}) lower.Refusal) → is ≡ Engine (of_sessions why) →
    HearingGives (plainly why) e result new → (new ≡ e) × ((x : lower.Refusal) × (result ≡ Err x) × (is ≡ Engine x))
refused_plainly e new why is result same gives = (
  gives.2 ∙ ap (λ (s : SessionsState). record e { sessions = s }) gives.3.1,
  (of_sessions gives.0, gives.1, same ∙ ap (λ (x : sessions.SessionRefusal). Engine (of_sessions x)) (sym gives.3.0)),
)

-- bytes that are no datagram are refused alike
same_unread : (e : reading.DatagramRefusal) → of_datagram e ≡ of_sessions (sessions_refusals.of_datagram e)
same_unread readings.OutOfMemory = refl
same_unread readings.Short = refl
same_unread readings.Magic = refl
same_unread readings.Version = refl
same_unread readings.Kind = refl
same_unread readings.Length = refl
same_unread readings.BadFrame = refl

-- bytes that don't carry the world's job number are refused by an engine of that job, as the world refuses them
pub stray_refused : (e : EngineState) (bytes : List ℕ) → e.sessions.place.job ≡ 1 → carries_job bytes ≡ false →
    EngineRefuses e bytes (stray_fault e.sessions.place.message_limit bytes)
unfolding heard_of
stray_refused e bytes job other result new gives =
    subst (λ (why : WorldRefusal). (new ≡ e) × ((x : lower.Refusal) × (result ≡ Err x) × (why ≡ Engine x)))
    (sym fault_is) (go (datagram_within limit bytes) refl gives)
  where
    limit : MessageLimit
    limit = e.sessions.place.message_limit

    fault_is : stray_fault limit bytes ≡ fault_of_text (datagram_within limit bytes)
    fault_is = ap (λ (b : Bool). if b then CarriesJob else fault_of_text (datagram_within limit bytes)) other

    go : (t : Result DatagramText reading.DatagramRefusal) → datagram_within limit bytes ≡ t →
        HearingGives (heard_in e.sessions t bytes) e result new →
        (new ≡ e) × ((x : lower.Refusal) × (result ≡ Err x) × (fault_of_text t ≡ Engine x))
    go (Err x) is g =
        refused_plainly e new (sessions_refusals.of_datagram x) (Engine (of_datagram x)) result
        (ap Engine (same_unread x)) g
    go (Ok d) is g =
        let read = header_read bytes d (within_parts limit bytes d is).0 in
        let unlike : (number_at 16 8 bytes == 1) ≡ false = second_fails _ _ other read.0 in
        let apart : (d.header.job == e.sessions.place.job) ≡ false = ap (λ (j : ℕ). d.header.job == j) job ∙ (ap (λ (j : ℕ). j == 1) read.1 ∙ unlike) in
        refused_plainly e new sessions_refused.ForeignJob (Engine lowers.ForeignJob) result refl
        (subst (λ (j : Result Judgement judging.IncarnationRefusal). HearingGives (heard_by j e.sessions d bytes) e
        result new) (foreign (knowledge e.sessions) d.header apart) g)

-- the fault of stray bytes at a rank that is there
stray_fault_there : (size : ℕ) (limit : MessageLimit) (d : List (ℕ × List ℕ)) (rank : ℕ) (bytes : List ℕ) →
    rank < size →
    event_fault size limit d (events.Stray rank bytes) ≡ Some (stray_fault limit bytes)
stray_fault_there size limit d rank bytes inside =
    ap (λ (b : Bool). first_fault (if b then Some NoSuchRank else None) (Some (stray_fault limit bytes)))
    (lt-leb size rank inside)

-- what is answered stray bytes at a rank that is there
stray_alike : (old : WorldState) (r : ℕ) (bytes : List ℕ) (why : WorldRefusal) (out : List (ℕ × List ℕ))
    (e : EngineState) → ArePlaced old.engines → IsWhy old (events.Stray r bytes) why out →
    slice_get old.engines r ≡ Some e → carries_job bytes ≡ false → EngineRefuses e bytes why
stray_alike old r bytes why out e placed is there other = go is
  where
    fault_is : event_fault (length old.engines) (limit_in old.engines) old.datagrams (events.Stray r bytes) ≡
        Some (stray_fault (limit_in old.engines) bytes)
    fault_is = stray_fault_there (length old.engines) (limit_in old.engines) old.datagrams r bytes
        (slice_get_within old.engines r e there)

    go : IsWhy old (events.Stray r bytes) why out → EngineRefuses e bytes why
    go (ByTheWorld fault silent) =
        subst (λ (x : WorldRefusal). EngineRefuses e bytes x)
        (same_Some (stray_fault (limit_in old.engines) bytes) why (sym fault_is ∙ fault))
        (subst (λ (l : MessageLimit). EngineRefuses e bytes (stray_fault l bytes)) (placed r e there).limit_is
        (stray_refused e bytes (placed r e there).job other))
    go (ForRoom none allowed needs room silent) =
        let clash : Some (stray_fault (limit_in old.engines) bytes) ≡ None = sym fault_is ∙ none in absurd cc
    go (ByTheEngine refusal none refused gives ran) =
        let clash : Some (stray_fault (limit_in old.engines) bytes) ≡ None = sym fault_is ∙ none in absurd cc

-- whatever is answered stray bytes is what the engine of their rank would answer
pub alike_at_engine : (old : WorldState) (event : Event) (why : WorldRefusal) (out : List (ℕ × List ℕ)) →
    ArePlaced old.engines → IsWhy old event why out →
    IsAsAtTheEngine old.engines event why
alike_at_engine old (events.Call r call) why out placed is = tt
alike_at_engine old (events.Deliver number) why out placed is = tt
alike_at_engine old (events.Tick r now) why out placed is = tt
alike_at_engine old (events.Restart r) why out placed is = tt
alike_at_engine old (events.Stray r bytes) why out placed is =
    λ e there other. stray_alike old r bytes why out e placed is there other

-- stray bytes always break a rule
pub stray_breaks : (size : ℕ) (limit : MessageLimit) (d : List (ℕ × List ℕ)) (r : ℕ) (bytes : List ℕ) →
    event_fault size limit d (events.Stray r bytes) ≡ None → ⊥
stray_breaks size limit d r bytes none = go (target_fault size (Some r)) none
  where
    go : (o : Option WorldRefusal) → first_fault o (Some (stray_fault limit bytes)) ≡ None → ⊥
    go None h = absurd cc
    go (Some fault) h = absurd cc
