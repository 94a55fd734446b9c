-- What is left of a rank's transfers and requests once it was started anew.
use Rattle.std.proofs.Common.{◌≡◌, ℕ, ◌+◌, ◌<◌, ◌≤◌, Bool, true, false, not, cond, List, [], ◌∷◌, length, Some, None}
use Rattle.std.proofs.Common.{Option, refl, sym, ap, ◌∙◌, arith, subst, inl, inr}
use Rattle.std.specs.Prelude.{position, filter, slice_get, slice_set, is_some, ◌&&◌, ◌||◌, ◌==◌, nat_lt}
use Rattle.std.specs.List.{list_any, position_from}
use Rattle.std.proofs.lemmas.Bool.{cases_lt, cases_eq, eq-eqb, ne_eqb, lt-ltb, le-ltb}
use Rattle.std.proofs.lemmas.Iterator.Adapters.{position_from-zero}
use Rattle.std.proofs.lemmas.List.{length-set, get_or-set_same, get_or-set_other, get_or_past}
use Rattle.std.proofs.lemmas.Option.{slice_get-get_or, slice_get_past}
use Rattle.vocabulary.specs.declared.basic_type.BasicType.{BasicType}
use Rattle.rendezvous.specs.declared.offer.Offer.{Offer}
use Rattle.rendezvous.specs.declared.transfers.Numbers.{Numbers}
use Rattle.rendezvous.specs.Collections.{Collecting, is_from}
use Rattle.rendezvous.specs.Offers.{is_to, offer_at}
use Rattle.rendezvous.specs.State.{State, fresh, is_next, is_due_number, is_due, is_taken, collection_at, offered}
use Rattle.rendezvous.specs.State.{after_drop}
use Rattle.requests.specs.declared.table.TableEntry.{TableEntry}
use Rattle.requests.specs.declared.table.RequestProgress.{RequestProgress}
use Rattle.requests.specs.declared.table.RequestProgress.TheVariants as progresses
use Rattle.requests.specs.Table.{after_replace, after_replaces, slot_at, slot_replaced, replaced_entry}
use Rattle.requests.specs.Table.{replaced_progress, wants_by, wants_so}

-- NOTHING IS FOUND AMONG WHAT IS LEFT

pub left_part : (a b : Bool) → a && b ≡ true → a ≡ true
left_part true b e = refl
left_part false b e = e

-- one element more, that is dropped or doesn't pass
one_more : {A : Type 0} (q : A → Bool) (t u : Bool) (x : A) (ys : List A) (i : ℕ) → q x ≡ u → (u ≡ true → t ≡ true) →
    ((j : ℕ) → position_from q j ys ≡ None) → position_from q i (cond (not t) (x ∷ ys) ys) ≡ None
one_more q true u x ys i at implied rest = rest i
one_more q false true x ys i at implied rest = absurd (grind (arith, implied refl))
one_more q false false x ys i at implied rest = ap (λ (b : Bool). cond b (Some i) (position_from q (i + 1) ys)) at ∙
    rest (i + 1)

-- nothing that is left passes a test that only what was dropped passes
none_from : {A : Type 0} (p q : A → Bool) → ((x : A) → q x ≡ true → p x ≡ true) → (xs : List A) (i : ℕ) →
    position_from q i (filter (λ x. not (p x)) xs) ≡ None
none_from p q implied [] i = refl
none_from p q implied (x ∷ xs) i =
    one_more q (p x) (q x) x (filter (λ y. not (p y)) xs) i refl (implied x) (none_from p q implied xs)

none_passes : {A : Type 0} (p q : A → Bool) → ((x : A) → q x ≡ true → p x ≡ true) → (xs : List A) →
    position q (filter (λ x. not (p x)) xs) ≡ None
none_passes p q implied xs = position_from-zero q (filter (λ x. not (p x)) xs) ∙ none_from p q implied xs 0

-- no transfer is offered to the rank
pub nothing_offered : (s : State) (rank transfer : ℕ) → offered (after_drop s rank) rank transfer ≡ None
nothing_offered s rank transfer =
    ap (offer_at (after_drop s rank).offers)
    (none_passes (λ (o : Offer). o.target == rank) (is_to rank transfer)
    (λ (o : Offer) passes. left_part (o.target == rank) (o.transfer == transfer) passes) s.offers)

pub none_offered : (s : State) (rank transfer : ℕ) → is_some (offered (after_drop s rank) rank transfer) ≡ false
none_offered s rank transfer = ap is_some (nothing_offered s rank transfer)

-- no data of the rank are due
pub none_due : (s : State) (rank transfer offset : ℕ) (bytes : List ℕ) →
    is_due (after_drop s rank).collections rank transfer offset bytes ≡ false
none_due s rank transfer offset bytes =
    ap (λ (place : Option ℕ). is_taken (collection_at (after_drop s rank).collections place) offset bytes)
    (none_passes (λ (c : Collecting). c.source == rank) (is_from rank transfer)
    (λ (c : Collecting) passes. left_part (c.source == rank) (c.transfer == transfer) passes) s.collections)

-- ITS NEXT ANNOUNCEMENT IS THE FIRST

fresh_at : (t : Bool) (ns : List Numbers) (rank transfer : ℕ) → slice_get (slice_set ns rank fresh) rank ≡
    cond t (Some fresh) None →
    is_next (slice_set ns rank fresh) rank transfer ≡ (t && (0 == transfer))
fresh_at true ns rank transfer at = ap (λ (n : Option Numbers). is_due_number n transfer) at
fresh_at false ns rank transfer at = ap (λ (n : Option Numbers). is_due_number n transfer) at

pub first_is_next : (ns : List Numbers) (size rank transfer : ℕ) → length ns ≡ size →
    is_next (slice_set ns rank fresh) rank transfer ≡ (nat_lt rank size && (0 == transfer))
first_is_next ns size rank transfer width =
    elim (cases_lt rank size) [
      | inl lt ↦
          let inside : rank < length ns = omega (arith, lt, width) in
          let long : rank < length (slice_set ns rank fresh) = omega (arith, inside, length-set ns rank fresh) in
          fresh_at true ns rank transfer
          (slice_get-get_or (slice_set ns rank fresh) rank fresh long ∙
          ap (λ (n : Numbers). Some n) (get_or-set_same ns rank fresh fresh inside))
          ∙ ap (λ (t : Bool). t && (0 == transfer)) (sym (lt-ltb rank size lt))
      | inr le ↦
          let past : length (slice_set ns rank fresh) ≤ rank = omega (arith, le, width, length-set ns rank fresh) in
          fresh_at false ns rank transfer (slice_get_past (slice_set ns rank fresh) rank past)
          ∙ ap (λ (t : Bool). t && (0 == transfer)) (sym (le-ltb rank size le))
    ]

-- NO REQUEST THAT ENDED WANTS DATA

ended_wants_nothing : (p : RequestProgress) (basic : BasicType) (count : ℕ) →
    wants_so (replaced_progress p) basic count ≡ false
ended_wants_nothing (progresses.Receiving r) basic count = refl
ended_wants_nothing (progresses.Collecting w) basic count = refl
ended_wants_nothing progresses.Offering basic count = refl
ended_wants_nothing (progresses.TakenOut t) basic count = refl
ended_wants_nothing (progresses.Finished o) basic count = refl

-- the request under a key that has ended
same_ended : (slots : List (Option TableEntry)) (key : ℕ) (basic : BasicType) (count : ℕ) (slot : Option TableEntry) →
    slot_at slots key ≡ slot →
    wants_by (slot_at (slot_replaced slot slots key) key) basic count ≡ false
same_ended slots key basic count None is = ap (λ (t : Option TableEntry). wants_by t basic count) is
same_ended slots key basic count (Some e) is =
    elim (cases_lt key (length slots)) [
      | inl lt ↦
          ap (λ (t : Option TableEntry). wants_by t basic count)
          (get_or-set_same slots key (Some (replaced_entry e)) None lt)
          ∙ ended_wants_nothing e.progress basic count
      | inr le ↦ absurd (some_is_none e (sym is ∙ get_or_past slots key None le))
    ]
  where
    some_is_none : (x : TableEntry) → ◌≡◌ {A = Option TableEntry} (Some x) None → ⊥
    some_is_none x h = absurd cc

-- any other one
other_ended : (slots : List (Option TableEntry)) (ended key : ℕ) (basic : BasicType) (count : ℕ)
    (slot : Option TableEntry) → (key ≡ ended → ⊥) →
    wants_by (slot_at (slot_replaced slot slots ended) key) basic count ≡ wants_by (slot_at slots key) basic count
other_ended slots ended key basic count None apart = refl
other_ended slots ended key basic count (Some e) apart =
    ap (λ (t : Option TableEntry). wants_by t basic count)
    (get_or-set_other slots ended key (Some (replaced_entry e)) None apart)

-- what a request wants once the one under a key has ended
one_ended : (slots : List (Option TableEntry)) (ended key : ℕ) (basic : BasicType) (count : ℕ) →
    wants_by (slot_at (after_replace slots ended) key) basic count ≡
    (not (ended == key) && wants_by (slot_at slots key) basic count)
one_ended slots ended key basic count =
    elim (cases_eq ended key) [
      | inl same ↦
          subst (λ (k : ℕ). wants_by (slot_at (after_replace slots ended) k) basic count ≡ false) same
          (same_ended slots ended basic count (slot_at slots ended) refl)
          ∙ sym (ap (λ (b : Bool). not b && wants_by (slot_at slots key) basic count) (eq-eqb ended key same))
      | inr apart ↦
          other_ended slots ended key basic count (slot_at slots ended) (λ (same : key ≡ ended). apart (sym same))
          ∙ sym (ap (λ (b : Bool). not b && wants_by (slot_at slots key) basic count) (ne_eqb ended key apart))
    ]

neither : (a b w : Bool) → (not b && (not a && w)) ≡ (not (a || b) && w)
neither true true w = refl
neither true false w = refl
neither false true w = refl
neither false false w = refl

-- what a request wants once those under some keys have ended
pub wants_after : (slots : List (Option TableEntry)) (keys : List ℕ) (key : ℕ) (basic : BasicType) (count : ℕ) →
    wants_by (slot_at (after_replaces slots keys) key) basic count
    ≡ (not (list_any (λ k. k == key) keys) && wants_by (slot_at slots key) basic count)
wants_after slots [] key basic count = refl
wants_after slots (k ∷ keys) key basic count =
    wants_after (after_replace slots k) keys key basic count
    ∙ ap (λ (b : Bool). not (list_any (λ j. j == key) keys) && b) (one_ended slots k key basic count)
    ∙ neither (k == key) (list_any (λ j. j == key) keys) (wants_by (slot_at slots key) basic count)

-- a request under one of the keys wants nothing
pub ended_wants_none : (slots : List (Option TableEntry)) (keys : List ℕ) (key : ℕ) (basic : BasicType) (count : ℕ) →
    list_any (λ k. k == key) keys ≡ true → wants_by (slot_at (after_replaces slots keys) key) basic count ≡ false
ended_wants_none slots keys key basic count among =
    wants_after slots keys key basic count ∙ ap (λ (b : Bool). not b && wants_by (slot_at slots key) basic count) among

-- any other one wants what it wanted
pub left_wants : (slots : List (Option TableEntry)) (keys : List ℕ) (key : ℕ) (basic : BasicType) (count : ℕ) →
    list_any (λ k. k == key) keys ≡ false → wants_by (slot_at (after_replaces slots keys) key) basic count ≡
    wants_by (slot_at slots key) basic count
left_wants slots keys key basic count apart =
    wants_after slots keys key basic count ∙ ap (λ (b : Bool). not b && wants_by (slot_at slots key) basic count) apart
