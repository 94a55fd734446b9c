-- Data that are due: what collects them at a rank, which request of the core takes them, and what they are.
use Rattle.std.proofs.Common.{◌≡◌, ◌≢◌, ℕ, zero, suc, ◌*◌, ◌/◌, ◌^◌, ◌<◌, ◌==◌, ◌&&◌, ◌||◌, Bool, true, false, List, []}
use Rattle.std.proofs.Common.{◌∷◌, ◌++◌, length, nat_lt, Option, Some, None, if◌then◌else◌, slice_get, slice_index}
use Rattle.std.proofs.Common.{option_map, refl, sym, ap, ◌∙◌, arith, ◌⊎◌, inl, inr}
use Rattle.std.proofs.Math.Nat.{mul-div_cancel}
use Rattle.std.proofs.lemmas.Bool.{and_parts, cases_eq, eq-eqb, eqb-true, ne_eqb}
use Rattle.std.proofs.lemmas.Option.{same_Some}
use Rattle.vocabulary.specs.Endpoints.{is_former}
use Rattle.vocabulary.specs.declared.endpoint.Endpoint.{Endpoint}
use Rattle.datatypes.specs.Contents.{AreWithin}
use Rattle.rendezvous.specs.Collections.{Collecting, is_from, is_next_data}
use Rattle.rendezvous.specs.State.{collection_at, collection_for, is_due, is_taken}
use Rattle.perfect_queues.specs.Outcomes as machine
use Rattle.perfect_queues.specs.Receives.{names}
use Rattle.proof_pure_network.specs.Core.{Core}
use Rattle.proof_pure_network.specs.Engine as network
use Rattle.proof_pure_network.specs.Jobs as jobs
use Rattle.proof_pure_network.specs.Jobs.{Job, Closed, Offering, Over, Waiting, collecting, ended, is_collecting}
use Rattle.proof_pure_network.specs.Jobs.{Probed, Unmatched}
use Rattle.proof_engine_steps.specs.Steps.{CollectsOnce}
use Rattle.proof_engine_steps.proofs.ListsApart.{HasIt, Passes, of_map, position_passes}

-- ---- THE RANK

-- a collection goes on with data from this place on
pub record IsDueFor (cs : List Collecting) (source transfer offset : ℕ) : Type 0 where
  pub place : ℕ
  pub collection : Collecting
  pub found : collection_for source transfer cs ≡ Some place
  pub there : slice_get cs place ≡ Some collection
  pub source_is : collection.source ≡ source
  pub transfer_is : collection.transfer ≡ transfer
  pub offset_is : offset ≡ length collection.bytes

-- the second of three tests
middle : (a b c : Bool) → (a && b && c) ≡ true → b ≡ true
middle true true c h = refl
middle true false c h = absurd (grind arith)
middle false true c h = refl
middle false false c h = absurd (grind arith)

-- only with such a one data are due
pub collection_there : (cs : List Collecting) (source transfer offset : ℕ) (piece : List ℕ) →
    is_due cs source transfer offset piece ≡ true → IsDueFor cs source transfer offset
collection_there cs source transfer offset piece due = go (collection_for source transfer cs) refl due
  where
    at : (i : ℕ) → collection_for source transfer cs ≡ Some i → Passes (is_from source transfer) cs i →
        is_taken (slice_get cs i) offset piece ≡ true → IsDueFor cs source transfer offset
    at i e p h =
        let c : Collecting = p.element in
        let t : is_next_data c offset piece ≡ true = sym (ap (λ (o : Option Collecting). is_taken o offset piece) p.there) ∙ h in
        let f = and_parts (c.source == source) (c.transfer == transfer) p.passes in
        record {
          place = i;
          collection = c;
          found = e;
          there = p.there;
          source_is = eqb-true c.source source f.0;
          transfer_is = eqb-true c.transfer transfer f.1;
          offset_is = eqb-true offset (length c.bytes) (middle _ (offset == length c.bytes) _ t);
        }

    go : (o : Option ℕ) → collection_for source transfer cs ≡ o → is_taken (collection_at cs o) offset piece ≡ true →
        IsDueFor cs source transfer offset
    go None e h = absurd (grind arith)
    go (Some i) e h = at i e (position_passes (is_from source transfer) cs i e) h

-- ---- THE CORE

-- the first
abbrev some_at : Job → Option (ℕ × Job)
some_at x = Some (zero, x)

-- the request that collects, where no other does
pub collecting_there : (s : Endpoint) (k : ℕ) (js : List Job) (i : ℕ) (x : Job) → slice_get js i ≡ Some x →
    is_collecting s k x ≡ true →
    ((j : ℕ) (y : Job) → slice_get js j ≡ Some y → is_collecting s k y ≡ true → i ≡ j) → collecting s k js ≡ Some (i, x)
collecting_there s k [] i x h c one = absurd (grind arith)
collecting_there s k (y ∷ ys) zero x h c one =
    let same : y ≡ x = same_Some y x h in
    ap (λ (b : Bool). if b then Some (zero, y) else option_map (λ (t : ℕ × Job). (suc t.0, t.1)) (collecting s k ys))
    (ap (is_collecting s k) same ∙ c) ∙ ap (λ (z : Job). some_at z) same
collecting_there s k (y ∷ ys) (suc i) x h c one =
    ap (λ (b : Bool). if b then Some (zero, y) else option_map (λ (t : ℕ × Job). (suc t.0, t.1)) (collecting s k ys))
    (first (is_collecting s k y) refl)
    ∙ ap (λ (o : Option (ℕ × Job)). option_map (λ (t : ℕ × Job). (suc t.0, t.1)) o)
    (collecting_there s k ys i x h c later)
  where
    first : (b : Bool) → is_collecting s k y ≡ b → is_collecting s k y ≡ false
    first true e = absurd (grind (arith, one zero y refl e))
    first false e = e

    later : (j : ℕ) (z : Job) → slice_get ys j ≡ Some z → is_collecting s k z ≡ true → i ≡ j
    later j z g d = let e : suc i ≡ suc j = one (suc j) z g d in omega arith

-- a lesson only ends requests
ended_collecting : (r i : ℕ) (s : Endpoint) (k : ℕ) (j : Job) → is_collecting s k (ended r i j) ≡ true →
    is_collecting s k j ≡ true
ended_collecting r i s k (Waiting p) h = go (names p.source r) h
  where
    go : (b : Bool) → is_collecting s k (if b then Over (machine.Replaced (Some p.into.buffer)) else Waiting p) ≡ true →
        is_collecting s k (Waiting p) ≡ true
    go true e = absurd (grind arith)
    go false e = e
ended_collecting r i s k (jobs.Collecting p g got) h = go (names p.source r || is_former r i g.sender) h
  where
    go : (b : Bool) →
        is_collecting s k (if b then Over (machine.Replaced (Some p.into.buffer)) else jobs.Collecting p g got) ≡ true →
        is_collecting s k (jobs.Collecting p g got) ≡ true
    go true e = absurd (grind arith)
    go false e = e
ended_collecting r i s k (Offering d basic values) h = go (d.rank == r) h
  where
    go : (b : Bool) → is_collecting s k (if b then Over (machine.Replaced None) else Offering d basic values) ≡ true →
        is_collecting s k (Offering d basic values) ≡ true
    go true e = absurd (grind arith)
    go false e = e
ended_collecting r i s k (Over x) h = h
ended_collecting r i s k Closed h = h
ended_collecting r i s k (Unmatched d) h = go (d.rank == r) h
  where
    go : (b : Bool) → is_collecting s k (if b then Over (machine.Replaced None) else Unmatched d) ≡ true →
        is_collecting s k (Unmatched d) ≡ true
    go true e = absurd (grind arith)
    go false e = e
ended_collecting r i s k (Probed g x) h = h

-- so no two collect one transfer after it either
pub once_met : (core : Core) (w : Endpoint) → CollectsOnce core → CollectsOnce (network.met core w)
once_met core w once = go (nat_lt (core.known w.rank) w.incarnation)
  where
    r : ℕ
    r = w.rank

    i : ℕ
    i = w.incarnation

    learned : CollectsOnce (network.learned core r i)
    learned s k m n x y hx cx hy cy =
        let a : HasIt (ended r i) core.jobs m x = of_map (ended r i) core.jobs m x hx in
        let b : HasIt (ended r i) core.jobs n y = of_map (ended r i) core.jobs n y hy in
        once s k m n a.element b.element a.there
        (ended_collecting r i s k a.element (ap (is_collecting s k) a.has ∙ cx)) b.there
        (ended_collecting r i s k b.element (ap (is_collecting s k) b.has ∙ cy))

    go : (b : Bool) → CollectsOnce (if b then network.learned core r i else core)
    go true = learned
    go false = once

-- ---- WHAT THEY ARE

-- elements that have their width go on with elements that have it
pub within_append : (size : ℕ) (xs ys : List ℕ) → AreWithin size xs → AreWithin size ys → AreWithin size (xs ++ ys)
within_append size [] ys a b = b
within_append size (x ∷ xs) ys a b = go (within_append size xs ys (λ j. a (suc j)) b)
  where
    go : AreWithin size (xs ++ ys) → (place : ℕ) → slice_index (x ∷ (xs ++ ys)) place < 256 ^ size
    go rest zero = a zero
    go rest (suc i) = rest i

-- as many elements where there are as many bytes
pub same_count : (size n m : ℕ) → 0 < size → n * size ≡ m * size → n ≡ m
same_count size n m h e = sym (mul-div_cancel n h) ∙ (ap (λ (k : ℕ). k / size) e ∙ mul-div_cancel m h)

-- so all bytes are there where all elements are
pub whole_same : (size n m : ℕ) → 0 < size → (n * size == m * size) ≡ (n == m)
whole_same size n m h = go (cases_eq n m)
  where
    go : (n ≡ m) ⊎ (n ≢ m) → (n * size == m * size) ≡ (n == m)
    go (inl e) = eq-eqb (n * size) (m * size) (ap (λ (k : ℕ). k * size) e) ∙ sym (eq-eqb n m e)
    go (inr d) = ne_eqb (n * size) (m * size) (λ e. d (same_count size n m h e)) ∙ sym (ne_eqb n m d)
