-- An offer is handed out once: no two offers to a rank have one number.
use Rattle.std.proofs.Common.{◌≡◌, ◌≢◌, ℕ, ◌+◌, ◌<◌, Bool, true, false, not, cond, List, [], ◌∷◌, ◌++◌, length, set}
use Rattle.std.proofs.Common.{get_or, filter, Some, None, refl, sym, ap, ◌∙◌, arith, subst, inl, inr}
use Rattle.std.specs.Prelude.{◌==◌, position}
use Rattle.std.proofs.lemmas.Bool.{eqb-true, eqb-false, ne_eqb, and_parts, and_left, and_right, cases_eq, cases_lt}
use Rattle.std.proofs.lemmas.Bool.{both_ways}
use Rattle.std.proofs.lemmas.List.{get_or-set_same, get_or-set_other}
use Rattle.std.proofs.lemmas.Option.{slice_get_past}
use Rattle.datatypes.specs.Contents.{Contents}
use Rattle.rendezvous.specs.declared.transfers.Numbers.{Numbers}
use Rattle.rendezvous.specs.declared.offer.Offer.{Offer}
use Rattle.rendezvous.specs.Offers.{is_to, offer_for, offer_at, without_offer}
use Rattle.rendezvous.specs.State.{State, fresh, has_none_to, has_none_from, is_full_to, is_full_from, is_due, next_to}
use Rattle.rendezvous.specs.State.{with_begun, with_announced, after_begin, after_payload, after_rts, after_data, offered}
use Rattle.rendezvous.specs.State.{after_cts}
use Rattle.rendezvous.specs.Events.{Event, Begins, BeginsPayload, Announces, Collects, Answers, Brings, Drops, after, opening}
use Rattle.rendezvous.specs.OfferLaws.{AreAnsweredOnce, after_all, is_drop_of, GoesOn}
use Rattle.rendezvous.proofs.Firsts.{NonePass, first_or_none}

-- ELEMENTS THAT PASS NO TEST

pub none_appended : {A : Type 0} (p : A → Bool) (xs ys : List A) → NonePass p xs → NonePass p ys → NonePass p (xs ++ ys)
none_appended p [] ys h k = k
none_appended p (x ∷ xs) ys h k = (h.0, none_appended p xs ys h.1 k)

pub none_front : {A : Type 0} (p : A → Bool) (xs ys : List A) → NonePass p (xs ++ ys) → NonePass p xs
none_front p [] ys h = tt
none_front p (x ∷ xs) ys h = (h.0, none_front p xs ys h.1)

pub none_back : {A : Type 0} (p : A → Bool) (xs ys : List A) → NonePass p (xs ++ ys) → NonePass p ys
none_back p [] ys h = h
none_back p (x ∷ xs) ys h = none_back p xs ys h.1

none_filtered : {A : Type 0} (p q : A → Bool) (xs : List A) → NonePass p xs → NonePass p (filter q xs)
none_filtered {A = A} p q [] h = tt
none_filtered {A = A} p q (x ∷ xs) h = by_test (q x) x (filter q xs) h.0 (none_filtered p q xs h.1)
  where
    by_test : (b : Bool) (y : A) (ys : List A) → p y ≡ false → NonePass p ys → NonePass p (cond b (y ∷ ys) ys)
    by_test true y ys e k = (e, k)
    by_test false y ys e k = k

-- where none passes there is no place
pub no_place : {A : Type 0} (p : A → Bool) (xs : List A) → NonePass p xs → position p xs ≡ None
no_place p xs h =
    elim (first_or_none p xs) [
      | inl k ↦ k.0
      | inr k ↦ absurd
          (both_ways (p k.1) (none_back p k.2.front (k.1 ∷ k.2.back) (subst (NonePass p) k.2.parts h)).0 k.2.passes)
    ]

-- WHAT HOLDS OF OFFERS

-- no two are the transfer to one rank under one number
abbrev pub AreDistinct : List Offer → Type 0
AreDistinct [] = Unit {0}
AreDistinct (o ∷ os) = NonePass (is_to o.target o.transfer) os × AreDistinct os

-- each has a number that was given in the session
abbrev pub AreBegun : List Numbers → List Offer → Type 0
AreBegun ns [] = Unit {0}
AreBegun ns (o ∷ os) = (o.transfer < next_to ns o.target) × AreBegun ns os

pub record Holds (s : State) : Type 0 where
  pub distinct : AreDistinct s.offers
  pub begun : AreBegun s.numbers s.offers

-- the numbers of a rank that can begin a transfer, or announce one, are there
pub known_to : (ns : List Numbers) (rank : ℕ) → is_full_to ns rank ≡ false → rank < length ns
known_to ns rank h =
    elim (cases_lt rank (length ns)) [
      | inl lt ↦ lt
      | inr le ↦ absurd (both_ways (is_full_to ns rank) h (ap has_none_to (slice_get_past ns rank le)))
    ]

pub known_from : (ns : List Numbers) (rank : ℕ) → is_full_from ns rank ≡ false → rank < length ns
known_from ns rank h =
    elim (cases_lt rank (length ns)) [
      | inl lt ↦ lt
      | inr le ↦ absurd (both_ways (is_full_from ns rank) h (ap has_none_from (slice_get_past ns rank le)))
    ]

pub next_same : (ns : List Numbers) (rank target : ℕ) (n : Numbers) → target ≢ rank → next_to (set ns rank n) target ≡
    next_to ns target
next_same ns rank target n ne = ap (λ (m : Numbers). m.begun) (get_or-set_other ns rank target n fresh ne)

pub next_here : (ns : List Numbers) (rank : ℕ) (n : Numbers) → rank < length ns → next_to (set ns rank n) rank ≡ n.begun
next_here ns rank n lt = ap (λ (m : Numbers). m.begun) (get_or-set_same ns rank n fresh lt)

-- a number that was given stays so once one more transfer has begun
still_begun : (ns : List Numbers) (rank target transfer : ℕ) → rank < length ns → transfer < next_to ns target →
    transfer < next_to (with_begun ns rank) target
still_begun ns rank target transfer lt h =
    let n : Numbers = record (get_or ns rank fresh) { begun = (get_or ns rank fresh).begun + 1 } in
    elim (cases_eq target rank) [
      | inl e ↦
          let there : next_to (set ns rank n) rank ≡ next_to ns rank + 1 = next_here ns rank n lt in
          let low : transfer < next_to ns rank = subst (λ (r : ℕ). transfer < next_to ns r) e h in
          let high : transfer < next_to (set ns rank n) rank = omega (arith, there, low) in
          subst (λ (r : ℕ). transfer < next_to (set ns rank n) r) (sym e) high
      | inr ne ↦ subst (λ (m : ℕ). transfer < m) (sym (next_same ns rank target n ne)) h
    ]

all_still_begun : (ns : List Numbers) (rank : ℕ) (os : List Offer) → rank < length ns → AreBegun ns os →
    AreBegun (with_begun ns rank) os
all_still_begun ns rank [] lt h = tt
all_still_begun ns rank (o ∷ os) lt h =
    (still_begun ns rank o.target o.transfer lt h.0, all_still_begun ns rank os lt h.1)

announced_same : (ns : List Numbers) (rank target : ℕ) → rank < length ns → next_to (with_announced ns rank) target ≡
    next_to ns target
announced_same ns rank target lt =
    let n : Numbers = record (get_or ns rank fresh) { announced = (get_or ns rank fresh).announced + 1 } in
    elim (cases_eq target rank) [
      | inl e ↦ subst (λ (r : ℕ). next_to (set ns rank n) r ≡ next_to ns r) (sym e) (next_here ns rank n lt)
      | inr ne ↦ next_same ns rank target n ne
    ]

all_announced : (ns : List Numbers) (rank : ℕ) (os : List Offer) → rank < length ns → AreBegun ns os →
    AreBegun (with_announced ns rank) os
all_announced ns rank [] lt h = tt
all_announced ns rank (o ∷ os) lt h =
    (subst (λ (m : ℕ). o.transfer < m) (sym (announced_same ns rank o.target lt)) h.0, all_announced ns rank os lt h.1)

begun_appended : (ns : List Numbers) (os : List Offer) (o : Offer) → AreBegun ns os → o.transfer < next_to ns o.target →
    AreBegun ns (os ++ o ∷ [])
begun_appended ns [] o h lt = (lt, tt)
begun_appended ns (p ∷ ps) o h lt = (h.0, begun_appended ns ps o h.1 lt)

-- a new offer has another number than those before it
differs : (ns : List Numbers) (old new : Offer) → old.transfer < next_to ns old.target →
    new.transfer ≡ next_to ns new.target → is_to old.target old.transfer new ≡ false
differs ns old new lt is =
    elim (cases_eq new.target old.target) [
      | inl e ↦
          let low : old.transfer < next_to ns new.target = subst (λ (r : ℕ). old.transfer < next_to ns r) (sym e) lt in
          let ne : new.transfer ≡ old.transfer → ⊥ = λ (same : new.transfer ≡ old.transfer). omega (arith, low, is, same) in
          and_right _ _ (ne_eqb new.transfer old.transfer ne)
      | inr ne ↦ and_left _ _ (ne_eqb new.target old.target ne)
    ]

distinct_appended : (ns : List Numbers) (os : List Offer) (o : Offer) → AreDistinct os → AreBegun ns os →
    o.transfer ≡ next_to ns o.target → AreDistinct (os ++ o ∷ [])
distinct_appended ns [] o d h is = (tt, tt)
distinct_appended ns (p ∷ ps) o d h is = (
  none_appended (is_to p.target p.transfer) ps (o ∷ []) d.0 (differs ns p o h.0 is, tt),
  distinct_appended ns ps o d.1 h.1 is,
)

distinct_without : (front back : List Offer) (o : Offer) → AreDistinct (front ++ o ∷ back) → AreDistinct (front ++ back)
distinct_without [] back o d = d.1
distinct_without (p ∷ ps) back o d =
    let test = is_to p.target p.transfer in (
      none_appended test ps back (none_front test ps (o ∷ back) d.0) (none_back test ps (o ∷ back) d.0).1,
      distinct_without ps back o d.1,
    )

begun_without : (ns : List Numbers) (front back : List Offer) (o : Offer) → AreBegun ns (front ++ o ∷ back) →
    AreBegun ns (front ++ back)
begun_without ns [] back o h = h.1
begun_without ns (p ∷ ps) back o h = (h.0, begun_without ns ps back o h.1)

none_behind : (front back : List Offer) (o : Offer) → AreDistinct (front ++ o ∷ back) →
    NonePass (is_to o.target o.transfer) back
none_behind [] back o d = d.0
none_behind (p ∷ ps) back o d = none_behind ps back o d.1

distinct_filtered : (q : Offer → Bool) (os : List Offer) → AreDistinct os → AreDistinct (filter q os)
distinct_filtered q [] d = tt
distinct_filtered q (o ∷ os) d =
    by_test (q o) (filter q os) (none_filtered (is_to o.target o.transfer) q os d.0) (distinct_filtered q os d.1)
  where
    by_test : (b : Bool) (ys : List Offer) → NonePass (is_to o.target o.transfer) ys → AreDistinct ys →
        AreDistinct (cond b (o ∷ ys) ys)
    by_test true ys n k = (n, k)
    by_test false ys n k = k

begun_elsewhere : (ns : List Numbers) (rank : ℕ) (os : List Offer) → AreBegun ns os →
    AreBegun (set ns rank fresh) (filter (λ o. not (o.target == rank)) os)
begun_elsewhere ns rank [] h = tt
begun_elsewhere ns rank (o ∷ os) h =
    by_test (o.target == rank) refl (filter (λ (x : Offer). not (x.target == rank)) os) (begun_elsewhere ns rank os h.1)
  where
    by_test : (b : Bool) → (o.target == rank) ≡ b → (ys : List Offer) → AreBegun (set ns rank fresh) ys →
        AreBegun (set ns rank fresh) (cond (not b) (o ∷ ys) ys)
    by_test true e ys k = k
    by_test false e ys k =
        let ne : o.target ≢ rank = eqb-false o.target rank e in
        (subst (λ (m : ℕ). o.transfer < m) (sym (next_same ns rank o.target fresh ne)) h.0, k)

-- WHAT EACH EVENT LEAVES

begins : (b : Bool) (s : State) (rank request : ℕ) (elements : Contents) → is_full_to s.numbers rank ≡ b → Holds s →
    Holds (cond b s (after_begin s rank request elements))
begins true s rank request elements e h = h
begins false s rank request elements e h =
    let lt = known_to s.numbers rank e in
    let n : Numbers = record (get_or s.numbers rank fresh) { begun = (get_or s.numbers rank fresh).begun + 1 } in
    let o : Offer = record { target = rank; transfer = next_to s.numbers rank; request = request; elements = elements } in
    let there : next_to (with_begun s.numbers rank) rank ≡ next_to s.numbers rank + 1 = next_here s.numbers rank n lt in
    let own : next_to s.numbers rank < next_to (with_begun s.numbers rank) rank = omega (arith, there) in
    record {
      distinct = distinct_appended s.numbers s.offers o h.distinct h.begun refl;
      begun = begun_appended (with_begun s.numbers rank) s.offers o (all_still_begun s.numbers rank s.offers lt h.begun)
          own;
    }

payload_begins : (b : Bool) (s : State) (rank : ℕ) → is_full_to s.numbers rank ≡ b → Holds s →
    Holds (cond b s (after_payload s rank))
payload_begins true s rank e h = h
payload_begins false s rank e h = record {
  distinct = h.distinct;
  begun = all_still_begun s.numbers rank s.offers (known_to s.numbers rank e) h.begun;
}

announces : (b : Bool) (s : State) (rank : ℕ) → is_full_from s.numbers rank ≡ b → Holds s →
    Holds (cond b s (after_rts s rank))
announces true s rank e h = h
announces false s rank e h =
    record {
      distinct = h.distinct;
      begun =
          all_announced s.numbers rank s.offers (known_from s.numbers rank e) h.begun;
    }

brings : (b : Bool) (s : State) (source transfer : ℕ) (piece : List ℕ) → Holds s →
    Holds (cond b (after_data s source transfer piece) s)
brings true s source transfer piece h = record { distinct = h.distinct; begun = h.begun }
brings false s source transfer piece h = h

answers : (s : State) (rank transfer : ℕ) → Holds s → Holds (after_cts s rank transfer)
answers s rank transfer h =
    elim (first_or_none (is_to rank transfer) s.offers) [
      | inl k ↦
          subst (λ (os : List Offer). Holds (record s { offers = os })) (sym (ap (without_offer s.offers) k.0))
          (record { distinct = h.distinct; begun = h.begun })
      | inr k ↦
          let left : without_offer s.offers (offer_for rank transfer s.offers) ≡ k.2.front ++ k.2.back = ap (without_offer s.offers) k.2.place ∙ k.2.removed in
          subst (λ (os : List Offer). Holds (record s { offers = os })) (sym left) (record {
            distinct = distinct_without k.2.front k.2.back k.1 (subst AreDistinct k.2.parts h.distinct);
            begun = begun_without s.numbers k.2.front k.2.back k.1 (subst (AreBegun s.numbers) k.2.parts h.begun);
          })
    ]

holds_after : (s : State) (e : Event) → Holds s → Holds (after s e)
holds_after s (Begins rank request elements) h = begins (is_full_to s.numbers rank) s rank request elements refl h
holds_after s (BeginsPayload rank) h = payload_begins (is_full_to s.numbers rank) s rank refl h
holds_after s (Announces rank) h = announces (is_full_from s.numbers rank) s rank refl h
holds_after s (Collects limit source transfer request basic count) h = record { distinct = h.distinct; begun = h.begun }
holds_after s (Answers rank transfer) h = answers s rank transfer h
holds_after s (Brings source transfer offset piece) h =
    brings (is_due s.collections source transfer offset piece) s source transfer piece h
holds_after s (Drops rank) h = record {
  distinct = distinct_filtered (λ o. not (o.target == rank)) s.offers h.distinct;
  begun = begun_elsewhere s.numbers rank s.offers h.begun;
}

pub holds_always : (events : List Event) (s : State) → Holds s → Holds (after_all s events)
holds_always [] s h = h
holds_always (e ∷ es) s h = holds_always es (after s e) (holds_after s e h)

-- a second answer finds none
second_answer : (s : State) (rank transfer : ℕ) → Holds s → offered (after_cts s rank transfer) rank transfer ≡ None
second_answer s rank transfer h =
    elim (first_or_none (is_to rank transfer) s.offers) [
      | inl k ↦
          let left : without_offer s.offers (offer_for rank transfer s.offers) ≡ s.offers = ap (without_offer s.offers) k.0 in
          ap (λ (os : List Offer). offer_at os (offer_for rank transfer os)) left ∙ ap (offer_at s.offers) k.0
      | inr k ↦
          let left : without_offer s.offers (offer_for rank transfer s.offers) ≡ k.2.front ++ k.2.back = ap (without_offer s.offers) k.2.place ∙ k.2.removed in
          let is = and_parts _ _ k.2.passes in
          let to : k.1.target ≡ rank = eqb-true _ _ is.0 in
          let number : k.1.transfer ≡ transfer = eqb-true _ _ is.1 in
          let behind : NonePass (is_to k.1.target k.1.transfer) k.2.back = none_behind k.2.front k.2.back k.1 (subst AreDistinct k.2.parts h.distinct) in
          let others : NonePass (is_to rank transfer) k.2.back =
          subst (λ (n : ℕ). NonePass (is_to rank n) k.2.back) number
          (subst (λ (r : ℕ). NonePass (is_to r k.1.transfer) k.2.back) to behind)
          in
          let none = no_place (is_to rank transfer) (k.2.front ++ k.2.back) (none_appended (is_to rank transfer) k.2.front k.2.back k.2.before others) in
          ap (λ (os : List Offer). offer_at os (offer_for rank transfer os)) left ∙
          ap (offer_at (k.2.front ++ k.2.back)) none
    ]

-- AND SO DOES ANY LATER ONE IN THE SESSION

-- a number that was given, and whose offer is gone
record IsGone (rank transfer : ℕ) (s : State) : Type 0 where
  number : transfer < next_to s.numbers rank
  none : NonePass (is_to rank transfer) s.offers

begun_at : (ns : List Numbers) (front back : List Offer) (o : Offer) → AreBegun ns (front ++ o ∷ back) →
    o.transfer < next_to ns o.target
begun_at ns [] back o h = h.0
begun_at ns (p ∷ ps) back o h = begun_at ns ps back o h.1

gone_answered : (s : State) (rank transfer : ℕ) (o : Offer) → Holds s → offered s rank transfer ≡ Some o →
    IsGone rank transfer (after_cts s rank transfer)
gone_answered s rank transfer o h there =
    elim (first_or_none (is_to rank transfer) s.offers) [
      | inl k ↦
          let none : offered s rank transfer ≡ None = ap (offer_at s.offers) k.0 in
          let never : None ≡ Some o = sym none ∙ there in
          cc
      | inr k ↦
          let left : without_offer s.offers (offer_for rank transfer s.offers) ≡ k.2.front ++ k.2.back = ap (without_offer s.offers) k.2.place ∙ k.2.removed in
          let is = and_parts _ _ k.2.passes in
          let to : k.1.target ≡ rank = eqb-true _ _ is.0 in
          let number : k.1.transfer ≡ transfer = eqb-true _ _ is.1 in
          let behind : NonePass (is_to k.1.target k.1.transfer) k.2.back = none_behind k.2.front k.2.back k.1 (subst AreDistinct k.2.parts h.distinct) in
          let others : NonePass (is_to rank transfer) k.2.back =
          subst (λ (n : ℕ). NonePass (is_to rank n) k.2.back) number
          (subst (λ (r : ℕ). NonePass (is_to r k.1.transfer) k.2.back) to behind)
          in
          let given : k.1.transfer < next_to s.numbers k.1.target = begun_at s.numbers k.2.front k.2.back k.1 (subst (AreBegun s.numbers) k.2.parts h.begun) in
          let low : k.1.transfer < next_to s.numbers rank = subst (λ (r : ℕ). k.1.transfer < next_to s.numbers r) to given in
          record {
            number = subst (λ (n : ℕ). n < next_to s.numbers rank) number low;
            none = subst (NonePass (is_to rank transfer)) (sym left)
                (none_appended (is_to rank transfer) k.2.front k.2.back k.2.before others);
          }
    ]

gone_begins : (b : Bool) (s : State) (rank transfer r request : ℕ) (elements : Contents) → is_full_to s.numbers r ≡ b →
    IsGone rank transfer s → IsGone rank transfer (cond b s (after_begin s r request elements))
gone_begins true s rank transfer r request elements e h = h
gone_begins false s rank transfer r request elements e h =
    let o : Offer = record { target = r; transfer = next_to s.numbers r; request = request; elements = elements } in
    let other : is_to rank transfer o ≡ false = elim (cases_eq r rank) [
      | inl same ↦
          let low : transfer < next_to s.numbers r = subst (λ (n : ℕ). transfer < next_to s.numbers n) (sym same) h.number in
          let ne : next_to s.numbers r ≡ transfer → ⊥ = λ (is : next_to s.numbers r ≡ transfer). omega (arith, low, is) in
          and_right _ _ (ne_eqb (next_to s.numbers r) transfer ne)
      | inr ne ↦ and_left _ _ (ne_eqb r rank ne)
    ] in
    record {
      number = still_begun s.numbers r rank transfer (known_to s.numbers r e) h.number;
      none = none_appended (is_to rank transfer) s.offers (o ∷ []) h.none (other, tt);
    }

gone_payload_begins : (b : Bool) (s : State) (rank transfer r : ℕ) → is_full_to s.numbers r ≡ b →
    IsGone rank transfer s → IsGone rank transfer (cond b s (after_payload s r))
gone_payload_begins true s rank transfer r e h = h
gone_payload_begins false s rank transfer r e h =
    record { number = still_begun s.numbers r rank transfer (known_to s.numbers r e) h.number; none = h.none }

gone_announces : (b : Bool) (s : State) (rank transfer r : ℕ) → is_full_from s.numbers r ≡ b → IsGone rank transfer s →
    IsGone rank transfer (cond b s (after_rts s r))
gone_announces true s rank transfer r e h = h
gone_announces false s rank transfer r e h = record {
  number = subst (λ (n : ℕ). transfer < n) (sym (announced_same s.numbers r rank (known_from s.numbers r e))) h.number;
  none = h.none;
}

gone_brings : (b : Bool) (s : State) (rank transfer source number : ℕ) (piece : List ℕ) → IsGone rank transfer s →
    IsGone rank transfer (cond b (after_data s source number piece) s)
gone_brings true s rank transfer source number piece h = record { number = h.number; none = h.none }
gone_brings false s rank transfer source number piece h = h

gone_answers : (s : State) (rank transfer r number : ℕ) → IsGone rank transfer s →
    IsGone rank transfer (after_cts s r number)
gone_answers s rank transfer r number h =
    let test = is_to rank transfer in
    elim (first_or_none (is_to r number) s.offers) [
      | inl k ↦ record {
        number = h.number;
        none =
            subst (NonePass test) (sym (ap (without_offer s.offers) k.0)) h.none;
      }
      | inr k ↦
          let left : without_offer s.offers (offer_for r number s.offers) ≡ k.2.front ++ k.2.back = ap (without_offer s.offers) k.2.place ∙ k.2.removed in
          let all : NonePass test (k.2.front ++ k.1 ∷ k.2.back) = subst (NonePass test) k.2.parts h.none in
          let both = none_appended test k.2.front k.2.back (none_front test k.2.front (k.1 ∷ k.2.back) all) (none_back test k.2.front (k.1 ∷ k.2.back) all).1 in
          record { number = h.number; none = subst (NonePass test) (sym left) both }
    ]

gone_after : (s : State) (e : Event) (rank transfer : ℕ) → is_drop_of rank e ≡ false → IsGone rank transfer s →
    IsGone rank transfer (after s e)
gone_after s (Begins r request elements) rank transfer goes h =
    gone_begins (is_full_to s.numbers r) s rank transfer r request elements refl h
gone_after s (BeginsPayload r) rank transfer goes h =
    gone_payload_begins (is_full_to s.numbers r) s rank transfer r refl h
gone_after s (Announces r) rank transfer goes h = gone_announces (is_full_from s.numbers r) s rank transfer r refl h
gone_after s (Collects limit source number request basic count) rank transfer goes h =
    record { number = h.number; none = h.none }
gone_after s (Answers r number) rank transfer goes h = gone_answers s rank transfer r number h
gone_after s (Brings source number offset piece) rank transfer goes h =
    gone_brings (is_due s.collections source number offset piece) s rank transfer source number piece h
gone_after s (Drops r) rank transfer goes h =
    let ne : rank ≢ r = λ (e : rank ≡ r). eqb-false r rank goes (sym e) in
    record {
      number = subst (λ (n : ℕ). transfer < n) (sym (next_same s.numbers r rank fresh ne)) h.number;
      none = none_filtered (is_to rank transfer) (λ o. not (o.target == r)) s.offers h.none;
    }

gone_always : (later : List Event) (s : State) (rank transfer : ℕ) → GoesOn rank later → IsGone rank transfer s →
    IsGone rank transfer (after_all s later)
gone_always [] s rank transfer goes h = h
gone_always (e ∷ es) s rank transfer goes h =
    gone_always es (after s e) rank transfer goes.1 (gone_after s e rank transfer goes.0 h)

later_answer : (s : State) (rank transfer : ℕ) → IsGone rank transfer s → offered s rank transfer ≡ None
later_answer s rank transfer h = ap (offer_at s.offers) (no_place (is_to rank transfer) s.offers h.none)

pub answered_once : (ranks : ℕ) (events : List Event) → AreAnsweredOnce (after_all (opening ranks) events)
answered_once ranks events =
    let s = after_all (opening ranks) events in
    let h : Holds s = holds_always events (opening ranks) (record { distinct = tt; begun = tt }) in
    record {
      second = λ rank transfer. second_answer s rank transfer h;
      later = λ rank transfer o events goes there.
          later_answer (after_all (after_cts s rank transfer) events) rank transfer
          (gone_always events (after_cts s rank transfer) rank transfer goes
          (gone_answered s rank transfer o h there));
    }
