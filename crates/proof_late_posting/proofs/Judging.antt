-- A call that the engine takes is one that the machine takes of the program.
use Rattle.std.proofs.Common.{◌≡◌, ℕ, Bool, true, false, not, ◌||◌, ◌==◌, List, [], ◌∷◌, map, Option, Some, None, ◌⊎◌}
use Rattle.std.proofs.Common.{inl, inr, slice_get, refl, sym, ap, ◌∙◌, subst}
use Rattle.std.specs.Prelude.{nat_le, option_map}
use Rattle.std.specs.List.{list_any}
use Rattle.std.proofs.lemmas.Bool.{both_ways, cases_eq, eq-eqb, eqb-true, ne_eqb, or_from, or_parts}
use Rattle.perfect_queues.specs.Calls.{Call, Cancel, Improbe, Iprobe, Irecv, Isend, Mrecv, Test, Wait}
use Rattle.perfect_queues.specs.Completions.{AllOf, AnyOf, Awaited, One, serials}
use Rattle.perfect_queues.specs.Refusals.{Missing, Standing, awaited_serials, fault_by, first_fault}
use Rattle.perfect_queues.specs.Refusals.{is_message, is_missing, is_one_missing, is_receive, is_request_wrong}
use Rattle.perfect_queues.specs.Refusals.{is_twice}
use Rattle.perfect_queues.specs.Refusals.{is_communicator_wrong, is_count_wrong, is_rank_wrong, is_source_beyond}
use Rattle.perfect_queues.specs.Refusals.{is_tag_wrong}
use Rattle.perfect_queues.specs.Refusals.{is_type_wrong, standing}
use Rattle.perfect_queues.specs.Requests.{Finished, Gone, Matched, Posted, Request, Sending, TakenOut}
use Rattle.proof_late_posting.proofs.Completing.{serials_by}
use Rattle.proof_late_posting.specs.Places.{Places, awaited_by, call_by}
use Rattle.perfect_queues.specs.Receives.{Probe, is_from}
use Rattle.proof_late_posting.specs.Ties.{AreTied, Row, StandsFor, named_probe}
use Rattle.vocabulary.specs.declared.envelope.Source.{Source}
use Rattle.vocabulary.specs.declared.envelope.Source.TheVariants.{Any, Null, Rank}
use Rattle.vocabulary.specs.declared.message_limit.MessageLimit.{MessageLimit}

-- the tests of a call's fault behind that of its requests
abbrev pub others_of : (n : ℕ) (limit : MessageLimit) → Call → List (Bool × ℕ)
others_of n limit c =
    (is_communicator_wrong c, 4) ∷
    (is_type_wrong c, 2) ∷
    (is_count_wrong limit c, 1) ∷
    (is_tag_wrong c, 3) ∷
    (is_rank_wrong n c, 5) ∷
    (false, 7) ∷ (false, 9) ∷ (false, 11) ∷ []

pub first_none : (b : Bool) (x : ℕ) (rest : List (Bool × ℕ)) → first_fault ((b, x) ∷ rest) ≡ None → b ≡ false
first_none false x rest h = refl
first_none true x rest h = absurd cc

again : (b c : Bool) (x : ℕ) (rest : List (Bool × ℕ)) → (b ≡ false → c ≡ false) →
    first_fault ((b, x) ∷ rest) ≡ None → first_fault ((c, x) ∷ rest) ≡ None
again false c x rest also h = subst (λ v. first_fault ((v, x) ∷ rest) ≡ None) (sym (also refl)) h
again true c x rest also h = absurd cc

both : (b p q : Bool) → (p ≡ false → q ≡ false) → (b || p) ≡ false → (b || q) ≡ false
both b p q also h = let parts = or_parts b p h in or_from b q parts.0 (also parts.1)

six : (b6 b4 b2 b1 b3 b c : Bool) → (b ≡ false → c ≡ false) →
    first_fault
    ((b6, 6) ∷ (b4, 4) ∷ (b2, 2) ∷ (b1, 1) ∷ (b3, 3) ∷ (b, 5) ∷ (false, 7) ∷ (false, 9) ∷ (false, 11) ∷ []) ≡ None →
    first_fault
    ((b6, 6) ∷ (b4, 4) ∷ (b2, 2) ∷ (b1, 1) ∷ (b3, 3) ∷ (c, 5) ∷ (false, 7) ∷ (false, 9) ∷ (false, 11) ∷ []) ≡ None
six true b4 b2 b1 b3 b c also h = absurd cc
six false true b2 b1 b3 b c also h = absurd cc
six false false true b1 b3 b c also h = absurd cc
six false false false true b3 b c also h = absurd cc
six false false false false true b c also h = absurd cc
six false false false false false b c also h = again b c 5 ((false, 7) ∷ (false, 9) ∷ (false, 11) ∷ []) also h

rank_there : (n r : ℕ) (s : Source) → is_from s r ≡ true → is_source_beyond n (Rank r) ≡ false →
    is_source_beyond n s ≡ false
rank_there n r Any from h = refl
rank_there n r (Rank x) from h = subst (λ v. nat_le n v ≡ false) (sym (eqb-true x r from)) h
rank_there n r Null from h = refl

-- a probe is taken where one is that names a source which it might have
pub probe_taken : (n : ℕ) (limit : MessageLimit) (held : Bool) (f : ℕ → Standing) (q : Probe) (r : ℕ) →
    is_from q.source r ≡ true → fault_by n limit held f (Iprobe (named_probe q r)) ≡ None →
    fault_by n limit held f (Iprobe q) ≡ None
probe_taken n limit held f q r from h =
    six (held || false) (is_communicator_wrong (Iprobe q)) false false (is_tag_wrong (Iprobe q))
    (is_source_beyond n (Rank r)) (is_source_beyond n q.source) (rank_there n r q.source from) h

pub search_taken : (n : ℕ) (limit : MessageLimit) (held : Bool) (f : ℕ → Standing) (q : Probe) (r : ℕ) →
    is_from q.source r ≡ true → fault_by n limit held f (Improbe (named_probe q r)) ≡ None →
    fault_by n limit held f (Improbe q) ≡ None
search_taken n limit held f q r from h =
    six (held || false) (is_communicator_wrong (Improbe q)) false false (is_tag_wrong (Improbe q))
    (is_source_beyond n (Rank r)) (is_source_beyond n q.source) (rank_there n r q.source from) h

unary : (b x : Bool) → (b || (x || false)) ≡ false → (b || ((x || false) || (false || false))) ≡ false
unary true x h = absurd cc
unary false true h = absurd cc
unary false false h = refl

-- a wait for one request is taken where a test of it is
pub wait_taken : (n : ℕ) (limit : MessageLimit) (held : Bool) (f : ℕ → Standing) (k : ℕ) →
    fault_by n limit held f (Test (Some k)) ≡ None → fault_by n limit held f (Wait (One (Some k))) ≡ None
wait_taken n limit held f k h =
    again (held || (is_missing (f k) || false)) (held || ((is_missing (f k) || false) || (false || false))) 6
    (others_of n limit (Test (Some k))) (unary held (is_missing (f k))) h

-- a request that is missing for the engine, or stands alike
abbrev pub Agrees : (g : ℕ → ℕ) → (own known : ℕ → Standing) → Type 0
Agrees g own known = (k : ℕ) → (known k ≡ Missing) ⊎ (own (g k) ≡ known k)

module _ (g : ℕ → ℕ) (apart : (j k : ℕ) → g j ≡ g k → j ≡ k) (own known : ℕ → Standing) (agree : Agrees g own known)
  where
    -- a test that doesn't hold of what is missing stays as it was
    at_one : (P : Standing → Bool) → (k : ℕ) → (P Missing ≡ false → ⊥) → P (known k) ≡ false → P (own (g k)) ≡ false
    at_one P k missing h =
        elim (agree k) [
          | inl e ↦ absurd (missing (ap P (sym e) ∙ h))
          | inr e ↦ ap P e ∙ h
        ]

    there : (ks : List ℕ) → is_one_missing known ks ≡ false → is_one_missing own (map g ks) ≡ false
    there [] h = refl
    there (k ∷ ks) h =
        let parts = or_parts (is_missing (known k)) (is_one_missing known ks) h in
        or_from (is_missing (own (g k))) (is_one_missing own (map g ks))
        (at_one is_missing k (λ e. both_ways true e refl) parts.0)
        (there ks parts.1)

    same_test : (y x : ℕ) → (g y == g x) ≡ (y == x)
    same_test y x =
        elim (cases_eq y x) [
          | inl e ↦ eq-eqb (g y) (g x) (ap g e) ∙ sym (eq-eqb y x e)
          | inr ne ↦ ne_eqb (g y) (g x) (λ e. ne (apart y x e)) ∙ sym (ne_eqb y x ne)
        ]

    same_any : (x : ℕ) (ys : List ℕ) → list_any (λ y. y == g x) (map g ys) ≡ list_any (λ y. y == x) ys
    same_any x [] = refl
    same_any x (y ∷ ys) =
        ap (λ b. b || list_any (λ z. z == g x) (map g ys)) (same_test y x)
        ∙ ap (λ b. (y == x) || b) (same_any x ys)

    same_twice : (ks : List ℕ) → is_twice (map g ks) ≡ is_twice ks
    same_twice [] = refl
    same_twice (k ∷ ks) =
        ap (λ b. b || is_twice (map g ks)) (same_any k ks)
        ∙ ap (λ b. list_any (λ y. y == k) ks || b) (same_twice ks)

    one : (r : Option ℕ) → serials (option_map g r ∷ []) ≡ map g (serials (r ∷ []))
    one None = refl
    one (Some k) = refl

    awaited : (a : Awaited) → awaited_serials (awaited_by g a) ≡ map g (awaited_serials a)
    awaited (One r) = one r
    awaited (AnyOf rs) = serials_by g rs
    awaited (AllOf rs) = serials_by g rs

    wait_same : (ks : List ℕ) → (is_one_missing known ks || is_twice ks) ≡ false →
        (is_one_missing own (map g ks) || is_twice (map g ks)) ≡ false
    wait_same ks h =
        let parts = or_parts (is_one_missing known ks) (is_twice ks) h in
        or_from (is_one_missing own (map g ks)) (is_twice (map g ks)) (there ks parts.0) (same_twice ks ∙ parts.1)

    pub requests_same : (c : Call) → is_request_wrong known c ≡ false → is_request_wrong own (call_by g c) ≡ false
    requests_same (Isend mode c to tag b) h = refl
    requests_same (Irecv p) h = refl
    requests_same (Wait a) h =
        subst
        (λ ks. (is_one_missing own ks || is_twice ks) ≡ false)
        (sym (awaited a))
        (wait_same (awaited_serials a) h)
    requests_same (Test r) h =
        subst (λ ks. is_one_missing own ks ≡ false) (sym (one r)) (there (serials (r ∷ [])) h)
    requests_same (Cancel None) h = h
    requests_same (Cancel (Some k)) h = at_one (λ s. not (is_receive s)) k (λ e. both_ways true e refl) h
    requests_same (Iprobe q) h = refl
    requests_same (Improbe q) h = refl
    requests_same (Mrecv None into) h = refl
    requests_same (Mrecv (Some k) into) h = at_one (λ s. not (is_message s)) k (λ e. both_ways true e refl) h

    pub fault_same : (c : Call) (n : ℕ) (limit : MessageLimit) (held : Bool) →
        fault_by n limit held known c ≡ None → fault_by n limit held own (call_by g c) ≡ None
    fault_same (Isend mode c to tag b) n limit held h = h
    fault_same (Irecv p) n limit held h = h
    fault_same (Wait a) n limit held h =
        again (held || is_request_wrong known (Wait a)) (held || is_request_wrong own (call_by g (Wait a))) 6
        (others_of n limit (Wait a))
        (both held (is_request_wrong known (Wait a)) (is_request_wrong own (call_by g (Wait a)))
        (requests_same (Wait a))) h
    fault_same (Test r) n limit held h =
        again (held || is_request_wrong known (Test r)) (held || is_request_wrong own (call_by g (Test r))) 6
        (others_of n limit (Test r))
        (both held (is_request_wrong known (Test r)) (is_request_wrong own (call_by g (Test r)))
        (requests_same (Test r))) h
    fault_same (Cancel r) n limit held h =
        again (held || is_request_wrong known (Cancel r)) (held || is_request_wrong own (call_by g (Cancel r))) 6
        (others_of n limit (Cancel r))
        (both held (is_request_wrong known (Cancel r)) (is_request_wrong own (call_by g (Cancel r)))
        (requests_same (Cancel r))) h
    fault_same (Iprobe q) n limit held h = h
    fault_same (Improbe q) n limit held h = h
    fault_same (Mrecv k into) n limit held h =
        again (held || is_request_wrong known (Mrecv k into))
        (held || is_request_wrong own (call_by g (Mrecv k into))) 6
        (others_of n limit (Mrecv k into))
        (both held (is_request_wrong known (Mrecv k into)) (is_request_wrong own (call_by g (Mrecv k into)))
        (requests_same (Mrecv k into))) h

pub standing_same : (places : Places) (r s : Request) → StandsFor places s r → standing (Some s) ≡ standing (Some r)
standing_same places (Posted p) s h = ap (λ v. standing (Some v)) h
standing_same places (Matched p m) s h = ap (λ v. standing (Some v)) h.2
standing_same places (Sending d) s h = ap (λ v. standing (Some v)) h
standing_same places (Finished o) s h = ap (λ v. standing (Some v)) h
standing_same places Gone s h = ap (λ v. standing (Some v)) h
standing_same places (TakenOut g m) s h = ap (λ v. standing (Some v)) h

pub standings_agree : (places : Places) (place : ℕ → ℕ) (row : Row) (own known : List Request) →
    AreTied places place row own known →
    Agrees place (λ k. standing (slice_get own k)) (λ k. standing (slice_get known k))
standings_agree places place row own known t k = go (slice_get known k) refl
  where
    go : (o : Option Request) → slice_get known k ≡ o →
        (standing (slice_get known k) ≡ Missing)
        ⊎ (standing (slice_get own (place k)) ≡ standing (slice_get known k))
    go None h = inl (ap standing h)
    go (Some r) h =
        let its = t.stands k r h in
        inr (ap standing its.1 ∙ standing_same places r its.0 its.2 ∙ ap standing (sym h))
