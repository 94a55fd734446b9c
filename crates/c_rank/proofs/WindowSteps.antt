-- Windows, datagram by datagram and rank by rank; and a rank that has none.
use Rattle.std.proofs.Common.{◌≡◌, ℕ, suc, ◌+◌, ◌<◌, List, [], ◌∷◌, ◌++◌, length, take, refl, sym, ap, ◌∙◌, arith}
use Rattle.std.proofs.Common.{inl, inr}
use Rattle.std.specs.Prelude.{slice_get, slice_index_or, Option, None}
use Rattle.std.proofs.lemmas.List.{take_more}
use mathlib.Core.Bool.{false≢true}
use Rattle.congestion_windows.specs.Flights.{WindowsState, after_offer, asks_in}
use Rattle.engine_calls.specs.EngineState.{EngineState}
use Rattle.port_transport.specs.Wires.{Parcel}
use Rattle.c_rank.specs.Clocks.{going}
use Rattle.c_rank.specs.OutgoingDatagrams.{DefersNothing, MayAsk, Releases}
use Rattle.c_rank.specs.State.{RankState}
use Rattle.c_rank.specs.Windows.{admitted, asks, offered, offered_all, with_ask, with_asks}

offered_one : (w : WindowsState) (out : List Parcel) (p : Parcel) →
    offered_all w (out ++ p ∷ []) ≡ after_offer (offered_all w out) p.1
offered_one w [] p = refl
offered_one w (q ∷ out) p = offered_one (after_offer w q.1) out p

-- one datagram more was offered
pub offered_more : (w : WindowsState) (out : List Parcel) (i : ℕ) (p : Parcel) → i < length out →
    p ≡ slice_index_or out i p → offered_all w (take (i + 1) out) ≡ after_offer (offered_all w (take i out)) p.1
offered_more w out i p within is =
    let last : List Parcel → List Parcel = λ vs. take i out ++ vs in
    let front : take (i + 1) out ≡ take i out ++ p ∷ [] =
    take_more out i p within ∙ ap (λ (v : Parcel). last (v ∷ [])) (sym is) in
    ap (λ (l : List Parcel). offered_all w l) front
    ∙ offered_one w (take i out) p

-- one rank more was asked for
pub asks_more : (e : EngineState) (w : WindowsState) (i : ℕ) →
    with_asks e w (i + 1) ≡ with_ask (with_asks e w i) i (asks_in (slice_get w.flights i))
asks_more e w i =
    let next : i + 1 ≡ suc i = omega arith in
    ap (λ (n : ℕ). with_asks e w n) next

-- without windows there is nothing to ask for
none_asks : (r : RankState) → r.windows ≡ None → MayAsk r → ⊥
none_asks r none may = false≢true (sym (ap asks none) ∙ may.0)

none_released : (r mid : RankState) → r.windows ≡ None → Releases r mid → mid ≡ r
none_released r mid none (inl p) = p.1
none_released r mid none (inr p) = absurd (none_asks r none p.0)

pub defers_nothing : DefersNothing
defers_nothing r none = (
  ap (λ (w : Option WindowsState). r.sending.waiting ++ admitted w (going r.trips r.engine.sessions.out)) none,
  ap (λ (w : Option WindowsState). offered w (going r.trips r.engine.sessions.out)) none,
  λ mid p. none_released r mid none p,
)
