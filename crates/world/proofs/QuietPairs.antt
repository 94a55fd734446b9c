-- Of which pairs of engines the quiet clause speaks.
use Rattle.std.proofs.Common.{◌≡◌, ◌≢◌, ℕ, ◌<◌, Bool, true, false, List, Some, refl, sym, ap, subst, ◌∙◌, get_or, arith}
use Rattle.std.specs.Prelude.{◌↔◌, IsTrue, All, slice_get, slice_index, ◌==◌, nat_lt, if◌then◌else◌}
use Rattle.std.proofs.lemmas.Option.{get_or_from_slice_get, slice_get-get_or, slice_get_within}
use Rattle.std.proofs.lemmas.Bool.{eqb-false, lt-ltb, ne_eqb}
use Rattle.engine_calls.specs.EngineState.{EngineState}
use Rattle.sessions.specs.Peers.{IsIdlePeer, peer_at}
use Rattle.incarnation.specs.declared.place.Place.{Place}
use Rattle.incarnation.specs.Judgements.{is_other}
use Rattle.sessions.specs.SessionsState.{SessionsState}
use Rattle.link_truth.specs.Quiet.{AreQuiet, IsQuietTowards}
use Rattle.observation.specs.Sessions.{sessions_in}
use Rattle.proof_network_bridge.proofs.Halves.{IsOf, engine_there, sessions_there}
use Rattle.world.specs.Quiet.{AreQuietIfOthers, IsQuietIfOther}
use Rattle.world.specs.WorldState.{ArePlaced}

-- what is true of each element is true of the one at a place
pub all_at : {A : Type 0} (P : A → Type 0) (xs : List A) (k : ℕ) (x : A) → All P xs → slice_get xs k ≡ Some x → P x
all_at P xs k x all is = subst P (get_or_from_slice_get xs k x x is) (all k x (slice_get_within xs k x is))

other_from : (p : Place) (x : ℕ) → (x == p.endpoint.rank) ≡ false → x < p.size → is_other p x ≡ true
other_from p x apart within = ap (λ (b : Bool). if b then false else nat_lt x p.size) apart ∙ lt-ltb x p.size within

apart_from : (p : Place) (x : ℕ) → is_other p x ≡ true → (x == p.endpoint.rank) ≡ false
apart_from p x other = go (x == p.endpoint.rank) refl other
  where
    go : (b : Bool) → (x == p.endpoint.rank) ≡ b → (if b then false else nat_lt x p.size) ≡ true →
        (x == p.endpoint.rank) ≡ false
    go true is other' = absurd cc
    go false is other' = is

-- two different ranks take each other for others
other_than : (engines : List EngineState) (r x : ℕ) (e d : EngineState) → ArePlaced engines →
    slice_get engines r ≡ Some e → slice_get engines x ≡ Some d → x ≢ r →
    is_other e.sessions.place d.sessions.place.endpoint.rank ≡ true
other_than engines r x e d placed there other apart =
    let here = placed r e there in
    let away = placed x d other in
    other_from e.sessions.place d.sessions.place.endpoint.rank
    (ne_eqb d.sessions.place.endpoint.rank e.sessions.place.endpoint.rank
    (λ same. apart (sym away.rank ∙ same ∙ here.rank)))
    (omega (arith, away.rank, here.size, slice_get_within engines x d other))

-- what is asked of each pair of engines is so of the sessions of each pair
towards_is : (engines : List EngineState) (r x : ℕ) (e d : EngineState) → ArePlaced engines → AreQuietIfOthers engines →
    slice_get engines r ≡ Some e → slice_get engines x ≡ Some d → x ≢ r → IsQuietTowards r x e.sessions d.sessions
towards_is engines r x e d placed all there other differ knows known =
    let towards : IsQuietIfOther e d = all_at (IsQuietIfOther e) engines x d (all_at (λ (g : EngineState). All (IsQuietIfOther g) engines) engines r e all there) other in
    subst (λ (y : ℕ). IsIdlePeer (peer_at e.sessions.peers y)) (placed x d other).rank
    (towards (other_than engines r x e d placed there other differ)
    (other_than engines x r d e placed other there (λ same. differ (sym same)))
    (ap (slice_index e.sessions.known) (placed x d other).rank ∙ knows)
    (ap (slice_index d.sessions.known) (placed r e there).rank ∙ known))

quiet_from : (engines : List EngineState) → ArePlaced engines → AreQuietIfOthers engines →
    AreQuiet (sessions_in engines)
quiet_from engines placed all r x s t there other apart =
    let e : IsOf engines r s = engine_there engines r s there in
    let d : IsOf engines x t = engine_there engines x t other in
    subst (λ (o : SessionsState). IsQuietTowards r x o t) e.sessions_are
    (subst (λ (o : SessionsState). IsQuietTowards r x e.engine.sessions o) d.sessions_are
    (towards_is engines r x e.engine d.engine placed all e.there d.there (eqb-false x r apart)))

towards_from : (engines : List EngineState) → ArePlaced engines → AreQuiet (sessions_in engines) →
    AreQuietIfOthers engines
towards_from engines placed quiet r g in_r x g' in_x is_other_one is_other_two knows known =
    let e : EngineState = get_or engines r g in
    let d : EngineState = get_or engines x g' in
    let there : slice_get engines r ≡ Some e = slice_get-get_or engines r g in_r in
    let other : slice_get engines x ≡ Some d = slice_get-get_or engines x g' in_x in
    let here = placed r e there in
    let away = placed x d other in
    let apart = apart_from e.sessions.place d.sessions.place.endpoint.rank is_other_one in
    subst (λ (y : ℕ). IsIdlePeer (peer_at e.sessions.peers y)) (sym away.rank)
    (quiet r x e.sessions d.sessions (sessions_there engines r e there) (sessions_there engines x d other)
    (ne_eqb x r
    (λ same. eqb-false d.sessions.place.endpoint.rank e.sessions.place.endpoint.rank apart
    (away.rank ∙ same ∙ sym here.rank)))
    (ap (slice_index e.sessions.known) (sym away.rank) ∙ knows) (ap (slice_index d.sessions.known) (sym here.rank) ∙
    known))

-- to ask each engine of each other one is to ask what the quiet clause says
pub quiet_iff : (answer : Bool) (engines : List EngineState) → ArePlaced engines →
    (IsTrue answer ↔ AreQuietIfOthers engines) → (IsTrue answer ↔ AreQuiet (sessions_in engines))
quiet_iff answer engines placed iff =
    (λ t. quiet_from engines placed (iff.0 t), λ s. iff.1 (towards_from engines placed s))
