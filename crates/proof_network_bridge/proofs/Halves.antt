-- What is true of the sessions of a world's engines.
use Rattle.std.proofs.Common.{◌≡◌, ℕ, zero, suc, List, [], ◌∷◌, ◌++◌, Option, Some, None, refl, sym, ap, subst, ◌∙◌}
use Rattle.std.proofs.Common.{arith, inl, inr}
use Rattle.std.specs.Prelude.{option_map, slice_get, slice_set}
use Rattle.std.proofs.lemmas.List.{map-set}
use Rattle.std.proofs.lemmas.Option.{same_Some, slice_get-map}
use Rattle.datagram.specs.Spellings.{OutgoingText}
use Rattle.point_to_point_calls.specs.declared.refusal.Refusal.{Refusal}
use Rattle.sessions.specs.declared.refusal.SessionRefusal as lower
use Rattle.sessions.specs.Events.{TurnedAway, after_send, after_sends}
use Rattle.sessions.specs.SessionsState.{SessionsState}
use Rattle.engine_calls.specs.EngineState.{EngineState, emptied}
use Rattle.engine_calls.specs.Refusals.{fault_of_sessions, first_fault}
use Rattle.vocabulary.specs.declared.endpoint.Endpoint.{Endpoint}
use Rattle.proof_link_truth.specs.Events.{LeavesTrue}
use Rattle.link_truth.specs.Links.{Links}
use Rattle.link_truth.specs.Truth.{AreTrue}
use Rattle.observation.specs.Sessions.{sessions_in}

-- ---- the sessions of engines

-- those of the engine at a rank stand there
pub sessions_there : (engines : List EngineState) (r : ℕ) (e : EngineState) → slice_get engines r ≡ Some e →
    slice_get (sessions_in engines) r ≡ Some e.sessions
sessions_there engines r e there =
    slice_get-map (λ (x : EngineState). x.sessions) engines r ∙
    ap (λ (o : Option EngineState). option_map (λ (x : EngineState). x.sessions) o) there

-- an engine with these sessions
pub record IsOf (engines : List EngineState) (r : ℕ) (s : SessionsState) : Type 0 where
  pub engine : EngineState
  pub there : slice_get engines r ≡ Some engine
  pub sessions_are : engine.sessions ≡ s

-- sessions that stand at a rank are those of an engine there
pub engine_there : (engines : List EngineState) (r : ℕ) (s : SessionsState) → slice_get (sessions_in engines) r ≡
    Some s → IsOf engines r s
engine_there [] r s is = absurd (grind arith)
engine_there (e ∷ es) zero s is = record { engine = e; there = refl; sessions_are = same_Some e.sessions s is }
engine_there (e ∷ es) (suc r) s is =
    let o : IsOf es r s = engine_there es r s is in
    record { engine = o.engine; there = o.there; sessions_are = o.sessions_are }

-- the sessions once one engine is another
pub sessions_set : (engines : List EngineState) (r : ℕ) (e : EngineState) → sessions_in (slice_set engines r e) ≡
    slice_set (sessions_in engines) r e.sessions
sessions_set engines r e = map-set (λ (x : EngineState). x.sessions) engines r e

-- what is true once the sessions of an engine did something is true of the engines
pub leaves_engines : (n r : ℕ) (engines : List EngineState) (datagrams : List (ℕ × List ℕ)) (mid : EngineState)
    (links : Links) (current : ℕ → ℕ)
    → LeavesTrue n (sessions_in engines) datagrams r mid.sessions links current
    → AreTrue n (sessions_in (slice_set engines r (emptied mid))) (datagrams ++ mid.sessions.out) links current
leaves_engines n r engines datagrams mid links current truth =
    subst (λ (ss : List SessionsState). AreTrue n ss (datagrams ++ mid.sessions.out) links current)
    (sym (sessions_set engines r (emptied mid))) truth

-- ---- faults

-- where neither of two is, the first is not
pub neither_fault : (a b : Option Refusal) → first_fault a b ≡ None → (a ≡ None) × (b ≡ None)
neither_fault None b h = (refl, h)
neither_fault (Some e) b h = absurd cc

-- where the engine meets none, the sessions meet none
pub no_limit : (o : Option lower.SessionRefusal) → fault_of_sessions o ≡ None → o ≡ None
no_limit None h = refl
no_limit (Some e) h = absurd cc

-- ---- what stays

-- what sessions know, and where they stand,
pub record Keeps (old new : SessionsState) : Type 0 where
  pub place : new.place ≡ old.place
  pub known : new.known ≡ old.known

-- stays where they send several
pub sends_keep : (s : SessionsState) (fs : List OutgoingText) → Keeps s (after_sends s fs)
sends_keep s [] = record { place = refl; known = refl }
sends_keep s (f ∷ fs) =
    let rest : Keeps (after_send s f) (after_sends s (f ∷ fs)) = sends_keep (after_send s f) fs in
    record { place = rest.place; known = rest.known }

-- and where they turn something away
pub away_keeps : (old new : SessionsState) (to : Option Endpoint) (e why : lower.SessionRefusal) →
    TurnedAway to e old why new → Keeps old new
away_keeps old new None e why gives =
    record { place = ap (λ (s : SessionsState). s.place) gives.1; known = ap (λ (s : SessionsState). s.known) gives.1 }
away_keeps old new (Some x) e why (inl gives) =
    record { place = ap (λ (s : SessionsState). s.place) gives.1; known = ap (λ (s : SessionsState). s.known) gives.1 }
away_keeps old new (Some x) e why (inr gives) =
    record { place = ap (λ (s : SessionsState). s.place) gives.1; known = ap (λ (s : SessionsState). s.known) gives.1 }
