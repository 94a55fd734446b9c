-- What began is offered under its number until it is answered or its session ends.
use Rattle.std.proofs.Common.{◌≡◌, ℕ, ◌<◌, Bool, true, false, not, cond, List, [], ◌∷◌, ◌++◌, filter, Option, Some}
use Rattle.std.proofs.Common.{None, refl, sym, ap, ◌∙◌, arith, subst, inl, inr}
use Rattle.std.specs.Prelude.{◌==◌, ◌&&◌, position}
use Rattle.std.proofs.lemmas.Bool.{eqb-true, eq-eqb, ne_eqb, and_parts, and_left, and_right, cases_eq, both_ways}
use Rattle.datatypes.specs.Contents.{Contents}
use Rattle.rendezvous.specs.declared.transfers.Numbers.{Numbers}
use Rattle.rendezvous.specs.declared.offer.Offer.{Offer}
use Rattle.rendezvous.specs.Offers.{is_to, offer_for, offer_at, without_offer}
use Rattle.rendezvous.specs.State.{State, is_full_to, is_full_from, is_due, next_to, after_begin, after_payload}
use Rattle.rendezvous.specs.State.{after_rts, after_data, offered, after_cts}
use Rattle.rendezvous.specs.Events.{Event, Begins, BeginsPayload, Announces, Collects, Answers, Brings, Drops, after, opening}
use Rattle.rendezvous.specs.OfferLaws.{after_all}
use Rattle.rendezvous.specs.TransferCounts.{is_end_of, StaysOpen, AreFound}
use Rattle.rendezvous.proofs.Firsts.{NonePass, first_or_none}
use Rattle.rendezvous.proofs.OfferLaws.{AreBegun, Holds, holds_always}

-- THE FIRST THAT PASSES A TEST

abbrev first : {A : Type 0} → (A → Bool) → List A → Option A
first p [] = None
first p (x ∷ xs) = cond (p x) (Some x) (first p xs)

first_of_none : {A : Type 0} (p : A → Bool) (xs : List A) → NonePass p xs → first p xs ≡ None
first_of_none p [] h = refl
first_of_none p (x ∷ xs) h = ap (λ b. cond b (Some x) (first p xs)) h.0 ∙ first_of_none p xs h.1

first_behind : {A : Type 0} (p : A → Bool) (xs ys : List A) → NonePass p xs → first p (xs ++ ys) ≡ first p ys
first_behind p [] ys h = refl
first_behind p (x ∷ xs) ys h = ap (λ b. cond b (Some x) (first p (xs ++ ys))) h.0 ∙ first_behind p xs ys h.1

first_in_front : {A : Type 0} (p : A → Bool) (xs ys : List A) (y : A) → first p xs ≡ Some y →
    first p (xs ++ ys) ≡ Some y
first_in_front {A = A} p [] ys y h = cc
first_in_front {A = A} p (x ∷ xs) ys y h =
    by (p x) (first p xs) (first p (xs ++ ys)) (λ k. first_in_front p xs ys y k) h
  where
    by : (b : Bool) (short long : Option A) → (short ≡ Some y → long ≡ Some y) → cond b (Some x) short ≡ Some y →
        cond b (Some x) long ≡ Some y
    by true short long more is = is
    by false short long more is = more is

first_without : {A : Type 0} (p : A → Bool) (front back : List A) (x : A) → p x ≡ false →
    first p (front ++ x ∷ back) ≡ first p (front ++ back)
first_without p [] back x e = ap (λ b. cond b (Some x) (first p back)) e
first_without p (y ∷ ys) back x e = ap (λ o. cond (p y) (Some y) o) (first_without p ys back x e)

first_filtered : {A : Type 0} (p q : A → Bool) → ((x : A) → q x ≡ false → p x ≡ false) →
    (xs : List A) → first p (filter q xs) ≡ first p xs
first_filtered {A = A} p q only [] = refl
first_filtered {A = A} p q only (x ∷ xs) = by (q x) refl (first_filtered p q only xs)
  where
    by : (b : Bool) → q x ≡ b → first p (filter q xs) ≡ first p xs → first p (cond b (x ∷ filter q xs) (filter q xs)) ≡
        cond (p x) (Some x) (first p xs)
    by true e rest = ap (λ o. cond (p x) (Some x) o) rest
    by false e rest = rest ∙ sym (ap (λ b. cond b (Some x) (first p xs)) (only x e))

-- what is found at the place of the first is the first
found_first : (p : Offer → Bool) (os : List Offer) → offer_at os (position p os) ≡ first p os
found_first p os =
    elim (first_or_none p os) [
      | inl k ↦ ap (offer_at os) k.0 ∙ sym (first_of_none p os k.1)
      | inr k ↦
          let here : first p (k.2.front ++ k.1 ∷ k.2.back) ≡ Some k.1 =
          first_behind p k.2.front (k.1 ∷ k.2.back) k.2.before ∙
          ap (λ b. cond b (Some k.1) (first p k.2.back)) k.2.passes
          in
          ap (offer_at os) k.2.place ∙ k.2.there ∙ sym (ap (first p) k.2.parts ∙ here)
    ]

-- the first offer of a transfer
abbrev the_offer : State → (rank transfer : ℕ) → Option Offer
the_offer s rank transfer = first (is_to rank transfer) s.offers

-- RIGHT AFTER IT BEGAN

-- no offer has the number of the next transfer
none_is_next : (ns : List Numbers) (rank : ℕ) (os : List Offer) → AreBegun ns os →
    NonePass (is_to rank (next_to ns rank)) os
none_is_next ns rank [] h = tt
none_is_next ns rank (o ∷ os) h =
    let other : is_to rank (next_to ns rank) o ≡ false = elim (cases_eq o.target rank) [
      | inl e ↦
          let low : o.transfer < next_to ns rank = subst (λ (r : ℕ). o.transfer < next_to ns r) e h.0 in
          let ne : o.transfer ≡ next_to ns rank → ⊥ = λ (is : o.transfer ≡ next_to ns rank). omega (arith, low, is) in
          and_right _ _ (ne_eqb o.transfer (next_to ns rank) ne)
      | inr ne ↦ and_left _ _ (ne_eqb o.target rank ne)
    ] in
    (other, none_is_next ns rank os h.1)

is_to_itself : (o : Offer) → is_to o.target o.transfer o ≡ true
is_to_itself o = ap (λ b. b && (o.transfer == o.transfer)) (eq-eqb o.target o.target refl) ∙
    eq-eqb o.transfer o.transfer refl

begun_is_first : (full : Bool) (s : State) (rank request : ℕ) (elements : Contents) → full ≡ false → Holds s →
    the_offer (cond full s (after_begin s rank request elements)) rank (next_to s.numbers rank) ≡
    Some (record { target = rank; transfer = next_to s.numbers rank; request = request; elements = elements })
begun_is_first true s rank request elements e h = absurd (both_ways true e refl)
begun_is_first false s rank request elements e h =
    let o : Offer = record { target = rank; transfer = next_to s.numbers rank; request = request; elements = elements } in
    let test = is_to rank (next_to s.numbers rank) in
    first_behind test s.offers (o ∷ []) (none_is_next s.numbers rank s.offers h.begun) ∙
    ap (λ b. cond b (Some o) None) (is_to_itself o)

begun_is_found : (s : State) (rank request : ℕ) (elements : Contents) → Holds s → is_full_to s.numbers rank ≡ false →
    offered (after s (Begins rank request elements)) rank (next_to s.numbers rank) ≡
    Some (record { target = rank; transfer = next_to s.numbers rank; request = request; elements = elements })
begun_is_found s rank request elements h left =
    found_first (is_to rank (next_to s.numbers rank)) (after s (Begins rank request elements)).offers
    ∙ begun_is_first (is_full_to s.numbers rank) s rank request elements left h

-- AND UNTIL IT ENDS

begins : (full : Bool) (s : State) (rank transfer r request : ℕ) (elements : Contents) (o : Offer) →
    the_offer s rank transfer ≡ Some o → the_offer (cond full s (after_begin s r request elements)) rank transfer ≡
    Some o
begins true s rank transfer r request elements o h = h
begins false s rank transfer r request elements o h =
    first_in_front (is_to rank transfer) s.offers
    ((record { target = r; transfer = next_to s.numbers r; request = request; elements = elements }) ∷ []) o h

payload_begins : (full : Bool) (s : State) (rank transfer r : ℕ) →
    the_offer (cond full s (after_payload s r)) rank transfer ≡ the_offer s rank transfer
payload_begins true s rank transfer r = refl
payload_begins false s rank transfer r = refl

announces : (full : Bool) (s : State) (rank transfer r : ℕ) → the_offer (cond full s (after_rts s r)) rank transfer ≡
    the_offer s rank transfer
announces true s rank transfer r = refl
announces false s rank transfer r = refl

brings : (taken : Bool) (s : State) (rank transfer source number : ℕ) (piece : List ℕ) →
    the_offer (cond taken (after_data s source number piece) s) rank transfer ≡ the_offer s rank transfer
brings true s rank transfer source number piece = refl
brings false s rank transfer source number piece = refl

-- what is another transfer isn't this one
is_another : (o : Offer) (rank transfer r number : ℕ) → ((r == rank) && (number == transfer)) ≡ false →
    is_to r number o ≡ true → is_to rank transfer o ≡ false
is_another o rank transfer r number differ is =
    let parts = and_parts _ _ is in
    let to : o.target ≡ r = eqb-true _ _ parts.0 in
    let under : o.transfer ≡ number = eqb-true _ _ parts.1 in
    ap (λ t. (t == rank) && (o.transfer == transfer)) to ∙ ap (λ n. (r == rank) && (n == transfer)) under ∙ differ

answers : (s : State) (rank transfer r number : ℕ) → ((r == rank) && (number == transfer)) ≡ false →
    the_offer (after_cts s r number) rank transfer ≡ the_offer s rank transfer
answers s rank transfer r number differ =
    elim (first_or_none (is_to r number) s.offers) [
      | inl k ↦ ap (λ place. first (is_to rank transfer) (without_offer s.offers place)) k.0
      | inr k ↦
          let left : without_offer s.offers (offer_for r number s.offers) ≡ k.2.front ++ k.2.back = ap (without_offer s.offers) k.2.place ∙ k.2.removed in
          ap (first (is_to rank transfer)) left
          ∙ sym (first_without (is_to rank transfer) k.2.front k.2.back k.1
          (is_another k.1 rank transfer r number differ k.2.passes))
          ∙ sym (ap (first (is_to rank transfer)) k.2.parts)
    ]

-- what is dropped with a rank isn't offered to another one
is_elsewhere : (rank transfer r : ℕ) → (r == rank) ≡ false → (o : Offer) → not (o.target == r) ≡ false →
    is_to rank transfer o ≡ false
is_elsewhere rank transfer r differ o dropped =
    let to : o.target ≡ r = eqb-true _ _ (is_it (o.target == r) dropped) in
    and_left _ _ (ap (λ t. t == rank) to ∙ differ)
  where
    is_it : (b : Bool) → not b ≡ false → b ≡ true
    is_it true e = refl
    is_it false e = sym e

stays : (s : State) (e : Event) (rank transfer : ℕ) (o : Offer) → is_end_of rank transfer e ≡ false →
    the_offer s rank transfer ≡ Some o → the_offer (after s e) rank transfer ≡ Some o
stays s (Begins r request elements) rank transfer o goes h =
    begins (is_full_to s.numbers r) s rank transfer r request elements o h
stays s (BeginsPayload r) rank transfer o goes h = payload_begins (is_full_to s.numbers r) s rank transfer r ∙ h
stays s (Announces r) rank transfer o goes h = announces (is_full_from s.numbers r) s rank transfer r ∙ h
stays s (Collects limit source number request basic count) rank transfer o goes h = h
stays s (Answers r number) rank transfer o goes h = answers s rank transfer r number goes ∙ h
stays s (Brings source number offset piece) rank transfer o goes h =
    brings (is_due s.collections source number offset piece) s rank transfer source number piece ∙ h
stays s (Drops r) rank transfer o goes h =
    first_filtered (is_to rank transfer) (λ x. not (x.target == r)) (is_elsewhere rank transfer r goes) s.offers ∙ h

stays_always : (events : List Event) (s : State) (rank transfer : ℕ) (o : Offer) → StaysOpen rank transfer events →
    the_offer s rank transfer ≡ Some o → the_offer (after_all s events) rank transfer ≡ Some o
stays_always [] s rank transfer o goes h = h
stays_always (e ∷ es) s rank transfer o goes h =
    stays_always es (after s e) rank transfer o goes.1 (stays s e rank transfer o goes.0 h)

pub found : (ranks : ℕ) (events : List Event) → AreFound (after_all (opening ranks) events)
found ranks events =
    let s = after_all (opening ranks) events in
    let h : Holds s = holds_always events (opening ranks) (record { distinct = tt; begun = tt }) in
    record {
      begun = λ rank request elements left. begun_is_found s rank request elements h left;
      later = λ rank transfer o later goes there.
          found_first (is_to rank transfer) (after_all s later).offers
          ∙ stays_always later s rank transfer o goes (sym (found_first (is_to rank transfer) s.offers) ∙ there);
    }
