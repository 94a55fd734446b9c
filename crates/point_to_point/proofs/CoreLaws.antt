-- What a core keeps when messages come and go.
use Rattle.std.proofs.Common.{◌<◌, ◌≤◌, ◌*◌, ℕ, zero, suc, Bool, true, false, cond, List, [], ◌∷◌, ◌++◌, length, take}
use Rattle.std.proofs.Common.{drop, Option, Some, None, ◌∙◌, ◌+◌}
use Rattle.std.specs.Prelude.{filter, remove, slice_index_or}
use Rattle.std.specs.List.{AllByRecursion}
use Rattle.std.proofs.lemmas.List.{length-set}
use Rattle.vocabulary.specs.BasicTypes.{size_of}
use Rattle.vocabulary.specs.Limits.{greatest_limit}
use Rattle.datatypes.specs.Contents.{Contents}
use Rattle.incarnation.specs.declared.place.Place.{Place}
use Rattle.match_queues.specs.declared.envelope.Message.{Message}
use Rattle.match_queues.specs.declared.envelope.PostedReceive.{PostedReceive}
use Rattle.match_queues.specs.State.{State, after_arrival, after_cancel, after_drop, after_post, after_take, arrived_at}
use Rattle.match_queues.specs.State.{cancelled_at, message_for, posted_at, posted_for, receive_for, taken_at}
use Rattle.rendezvous.specs.declared.offer.Offer.{Offer}
use Rattle.rendezvous.specs.Offers.{offer_for, without_offer}
use Rattle.rendezvous.specs.Collections.{Collecting}
use Rattle.rendezvous.specs.State as transfers
use Rattle.requests.specs.declared.table.TableEntry.{TableEntry}
use Rattle.point_to_point.specs.CoreState.{IsAnswerable, IsKept, IsOfferFor}

-- WHAT HOLDS OF ALL

both : {A : Type 0} (P : A → Type 0) (xs ys : List A) → AllByRecursion P xs → AllByRecursion P ys →
    AllByRecursion P (xs ++ ys)
both P [] ys front back = back
both P (x ∷ xs) ys front back = (front.0, both P xs ys front.1 back)

pub one_more : {A : Type 0} (P : A → Type 0) (xs : List A) (y : A) → AllByRecursion P xs → P y →
    AllByRecursion P (xs ++ y ∷ [])
one_more P xs y all last = both P xs (y ∷ []) all (last, tt)

first_stay : {A : Type 0} (P : A → Type 0) (i : ℕ) (xs : List A) → AllByRecursion P xs → AllByRecursion P (take i xs)
first_stay P zero xs all = tt
first_stay P (suc i) [] all = tt
first_stay P (suc i) (x ∷ xs) all = (all.0, first_stay P i xs all.1)

last_stay : {A : Type 0} (P : A → Type 0) (i : ℕ) (xs : List A) → AllByRecursion P xs → AllByRecursion P (drop i xs)
last_stay P zero xs all = all
last_stay P (suc i) [] all = tt
last_stay P (suc i) (x ∷ xs) all = last_stay P i xs all.1

pub one_less : {A : Type 0} (P : A → Type 0) (xs : List A) (i : ℕ) → AllByRecursion P xs →
    AllByRecursion P (remove xs i)
one_less P xs i all = both P (take i xs) (drop (suc i) xs) (first_stay P i xs all) (last_stay P (suc i) xs all)

stays_if : {A : Type 0} (P : A → Type 0) (t : Bool) (x : A) (ys : List A) → P x → AllByRecursion P ys →
    AllByRecursion P (cond t (x ∷ ys) ys)
stays_if P true x ys here rest = (here, rest)
stays_if P false x ys here rest = rest

some_stay : {A : Type 0} (P : A → Type 0) (p : A → Bool) (xs : List A) → AllByRecursion P xs →
    AllByRecursion P (filter p xs)
some_stay P p [] all = tt
some_stay P p (x ∷ xs) all = stays_if P (p x) x (filter p xs) all.0 (some_stay P p xs all.1)

-- EVENTS

arrived : (p : Place) (q : State) (t : transfers.State) (slots : List (Option TableEntry)) (m : Message)
    (o : Option ℕ) → IsKept p q t slots → IsAnswerable p.size m m.body → IsKept p (arrived_at o q m) t slots
arrived p q t slots m None kept answerable = record {
  width = kept.width;
  answerable = one_more (λ (n : Message). IsAnswerable p.size n n.body) q.unexpected m kept.answerable answerable;
  offers = kept.offers;
  taken = kept.taken;
}
arrived p q t slots m (Some i) kept answerable =
    record { width = kept.width; answerable = kept.answerable; offers = kept.offers; taken = kept.taken }

-- a message comes
pub kept_on_arrival : (p : Place) (q : State) (t : transfers.State) (slots : List (Option TableEntry)) (m : Message) →
    IsKept p q t slots → IsAnswerable p.size m m.body → IsKept p (after_arrival q m) t slots
kept_on_arrival p q t slots m kept answerable = arrived p q t slots m (receive_for m q.posted) kept answerable

posted : (p : Place) (q : State) (t : transfers.State) (slots : List (Option TableEntry)) (r : PostedReceive)
    (o : Option ℕ) → IsKept p q t slots → IsKept p (posted_at o q r) t slots
posted p q t slots r None kept =
    record { width = kept.width; answerable = kept.answerable; offers = kept.offers; taken = kept.taken }
posted p q t slots r (Some i) kept = record {
  width = kept.width;
  answerable = one_less (λ (n : Message). IsAnswerable p.size n n.body) q.unexpected i kept.answerable;
  offers = kept.offers;
  taken = kept.taken;
}

-- a receive is posted
pub kept_on_post : (p : Place) (q : State) (t : transfers.State) (slots : List (Option TableEntry))
    (r : PostedReceive) → IsKept p q t slots → IsKept p (after_post q r) t slots
kept_on_post p q t slots r kept = posted p q t slots r (message_for r q.unexpected) kept

without_taken : (p : Place) (q : State) (t : transfers.State) (slots : List (Option TableEntry)) (o : Option ℕ) →
    IsKept p q t slots → IsKept p (taken_at o q) t slots
without_taken p q t slots None kept = kept
without_taken p q t slots (Some i) kept = record {
  width = kept.width;
  answerable = one_less (λ (n : Message). IsAnswerable p.size n n.body) q.unexpected i kept.answerable;
  offers = kept.offers;
  taken = kept.taken;
}

-- a message is taken out of matching
pub kept_on_take : (p : Place) (q : State) (t : transfers.State) (slots : List (Option TableEntry))
    (r : PostedReceive) → IsKept p q t slots → IsKept p (after_take q r) t slots
kept_on_take p q t slots r kept = without_taken p q t slots (message_for r q.unexpected) kept

cancelled : (p : Place) (q : State) (t : transfers.State) (slots : List (Option TableEntry)) (o : Option ℕ) →
    IsKept p q t slots → IsKept p (cancelled_at o q) t slots
cancelled p q t slots None kept = kept
cancelled p q t slots (Some i) kept =
    record { width = kept.width; answerable = kept.answerable; offers = kept.offers; taken = kept.taken }

-- a receive is posted no more
pub kept_on_withdrawal : (p : Place) (q : State) (t : transfers.State) (slots : List (Option TableEntry))
    (request : ℕ) → IsKept p q t slots → IsKept p (after_cancel q request) t slots
kept_on_withdrawal p q t slots request kept = cancelled p q t slots (posted_for request q.posted) kept

-- a transfer to a rank of the job begins, within the limit of a message
pub kept_on_begin : (p : Place) (q : State) (t : transfers.State) (slots : List (Option TableEntry)) (rank request : ℕ)
    (elements : Contents) → IsKept p q t slots →
    rank < p.size → length elements.values * size_of elements.basic ≤ greatest_limit →
    IsKept p q (transfers.after_begin t rank request elements) slots
kept_on_begin p q t slots rank request elements kept there limit =
    let n = slice_index_or t.numbers rank transfers.fresh in
    record {
      width = length-set t.numbers rank (record n { begun = n.begun + 1 }) ∙ kept.width;
      answerable = kept.answerable;
      offers = one_more (IsOfferFor p.size) t.offers _ kept.offers (record { there = there; limit = limit });
      taken = kept.taken;
    }

-- a message begins to be collected
pub kept_on_collection : (p : Place) (q : State) (t : transfers.State) (slots : List (Option TableEntry))
    (c : Collecting) → IsKept p q t slots → IsKept p q (transfers.after_collect t c) slots
kept_on_collection p q t slots c kept =
    record { width = kept.width; answerable = kept.answerable; offers = kept.offers; taken = kept.taken }

-- data come for a message that is collected
pub kept_on_data : (p : Place) (q : State) (t : transfers.State) (slots : List (Option TableEntry)) (rank transfer : ℕ)
    (piece : List ℕ) → IsKept p q t slots → IsKept p q (transfers.after_data t rank transfer piece) slots
kept_on_data p q t slots rank transfer piece kept =
    record { width = kept.width; answerable = kept.answerable; offers = kept.offers; taken = kept.taken }

-- a transfer from a rank is announced
pub kept_on_rts : (p : Place) (q : State) (t : transfers.State) (slots : List (Option TableEntry)) (rank : ℕ) →
    IsKept p q t slots → IsKept p q (transfers.after_rts t rank) slots
kept_on_rts p q t slots rank kept =
    let n = slice_index_or t.numbers rank transfers.fresh in
    record {
      width = length-set t.numbers rank (record n { announced = n.announced + 1 }) ∙ kept.width;
      answerable = kept.answerable;
      offers = kept.offers;
      taken = kept.taken;
    }

without : (size : ℕ) (os : List Offer) (o : Option ℕ) → AllByRecursion (IsOfferFor size) os →
    AllByRecursion (IsOfferFor size) (without_offer os o)
without size os None all = all
without size os (Some i) all = one_less (IsOfferFor size) os i all

-- an offer is answered
pub kept_on_cts : (p : Place) (q : State) (t : transfers.State) (slots : List (Option TableEntry)) (rank transfer : ℕ) →
    IsKept p q t slots → IsKept p q (transfers.after_cts t rank transfer) slots
kept_on_cts p q t slots rank transfer kept = record {
  width = kept.width;
  answerable = kept.answerable;
  offers = without p.size t.offers (offer_for rank transfer t.offers) kept.offers;
  taken = kept.taken;
}

-- a rank was started anew
pub kept_on_drop : (p : Place) (q : State) (t : transfers.State) (slots : List (Option TableEntry))
    (rank incarnation : ℕ) → IsKept p q t slots →
    IsKept p (after_drop q rank incarnation) (transfers.after_drop t rank) slots
kept_on_drop p q t slots rank incarnation kept = record {
  width = length-set t.numbers rank transfers.fresh ∙ kept.width;
  answerable = some_stay (λ (n : Message). IsAnswerable p.size n n.body) _ q.unexpected kept.answerable;
  offers = some_stay (IsOfferFor p.size) _ t.offers kept.offers;
  taken = kept.taken;
}
