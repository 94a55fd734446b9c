-- Requests of a program and of its engine stay tied.
use Rattle.std.proofs.Common.{◌≡◌, ◌≢◌, ℕ, suc, ◌<◌, List, [], ◌∷◌, ◌++◌, length, Option, Some, None, ◌⊎◌, inl, inr}
use Rattle.std.proofs.Common.{slice_get, sym, ap, ◌∙◌, subst, arith}
use Rattle.std.proofs.lemmas.Bool.{cases_eq}
use Rattle.std.proofs.lemmas.Option.{none-some, same_Some}
use Rattle.perfect_queues.proofs.ListLemmas.{get_last}
use Rattle.perfect_queues.specs.Messages.{Message}
use Rattle.perfect_queues.specs.Receives.{Receive}
use Rattle.perfect_queues.specs.Requests.{Finished, Gone, Matched, Posted, Request, Sending, TakenOut, changed}
use Rattle.proof_late_posting.proofs.Lists.{IsSet, get_before, get_more, get_within, is_changed}
use Rattle.proof_late_posting.proofs.Lists.{length_more, read_set, within}
use Rattle.proof_late_posting.specs.Places.{Places, message_by}
use Rattle.vocabulary.specs.declared.envelope.Source.TheVariants.{Null}
use Rattle.proof_late_posting.specs.Ties.{AreInOrder, AreTied, IsKept, NoneMeets, Row, StandsFor}

pub posted_back : (places : Places) (r : Request) (q : Receive) → StandsFor places (Posted q) r → r ≡ Posted q
posted_back places (Posted p) q h = sym h
posted_back places (Matched p m) q h = let e : Posted q ≡ Matched h.0 h.1 = h.2 in absurd cc
posted_back places (Sending d) q h = absurd cc
posted_back places (Finished o) q h = absurd cc
posted_back places Gone q h = absurd cc
posted_back places (TakenOut g m) q h = absurd cc

pub taken_back : (places : Places) (r : Request) (g : Option (List ℕ)) (n : Message) →
    StandsFor places (TakenOut g (Some n)) r →
    (m : Message) × (r ≡ TakenOut g (Some m)) × (n ≡ message_by (places m.sender) m)
taken_back places (Posted p) g n h = absurd cc
taken_back places (Matched p m) g n h = let e : TakenOut g (Some n) ≡ Matched h.0 h.1 = h.2 in absurd cc
taken_back places (Sending d) g n h = absurd cc
taken_back places (Finished o) g n h = absurd cc
taken_back places Gone g n h = absurd cc
taken_back places (TakenOut f None) g n h = absurd cc
taken_back places (TakenOut f (Some m)) g n h =
    let e : g ≡ f = cc in
    let i : n ≡ message_by (places m.sender) m = cc in (m, ap (λ x. TakenOut x (Some m)) (sym e), i)

pub isnt_kept : (row : Row) (i j : ℕ) (p : Receive) → IsKept row i p → slice_get row j ≡ Some None → i ≢ j
isnt_kept row i j p h k e =
    none-some p (sym (same_Some (Some p) None (sym (subst (λ z. slice_get row z ≡ Some (Some p)) e h) ∙ k)))

-- what stands for a request stays so where its engine's request is another one
module _ (places : Places) (place : ℕ → ℕ) (apart : (j k : ℕ) → place j ≡ place k → j ≡ k) where
  order_stays : (row : Row) (own new known later : List Request) → AreTied places place row own known →
      ((k : ℕ) (p : Receive) → slice_get later k ≡ Some (Posted p) → slice_get known k ≡ Some (Posted p)) →
      ((j : ℕ) (q : Receive) → slice_get new j ≡ Some (Posted q) → slice_get own j ≡ Some (Posted q)) →
      ((k : ℕ) (q : Receive) → slice_get known k ≡ Some (Posted q) → slice_get new (place k) ≡ Some (Posted q) →
      slice_get later k ≡ Some (Posted q)) →
      AreInOrder place new later
  order_stays row own new known later t fewer_known fewer_own stay k p h j q less g =
      elim (t.order k p (fewer_known k p h) j q less (fewer_own j q g)) [
        | inl a ↦
            inl (
              a.0,
              a.1,
              a.2,
              stay a.0 q a.3 (subst (λ z. slice_get new z ≡ Some (Posted q)) (sym a.2) g),
            )
        | inr b ↦ inr b
      ]

  -- each request of the program's is a receive that is kept back, or known
  pub own_cases : (row : Row) (own known : List Request) → AreTied places place row own known → (j : ℕ) (s : Request) →
      slice_get own j ≡ Some s →
      ((q : Receive) × (IsKept row j q) × (s ≡ Posted q))
      ⊎ ((i : ℕ) × (r : Request) × (place i ≡ j) × (slice_get known i ≡ Some r) × StandsFor places s r)
  own_cases row own known t j s h =
      let less : j < length row = subst (λ n. j < n) t.same_length (within own j s h) in
      let there = get_within row j less in
      go there.0 there.1
    where
      go : (o : Option Receive) → slice_get row j ≡ Some o →
          ((q : Receive) × (IsKept row j q) × (s ≡ Posted q))
          ⊎ ((i : ℕ) × (r : Request) × (place i ≡ j) × (slice_get known i ≡ Some r) × StandsFor places s r)
      go (Some q) e = inl (q, e, same_Some s (Posted q) (sym h ∙ t.kept j q e))
      go None e =
          let k = t.others j e in
          let its = t.stands k.0 k.1 k.3 in
          let same : its.0 ≡ s =
          same_Some its.0 s (sym its.1 ∙ subst (λ z. slice_get own z ≡ Some s) (sym k.2) h)
          in inr (k.0, k.1, k.2, k.3, subst (λ z. StandsFor places z k.1) same its.2)

  -- a receive of the program's that waits is kept back, or waits for its engine, too
  pub waiting_cases : (row : Row) (own known : List Request) → AreTied places place row own known →
      (j : ℕ) (q : Receive) → slice_get own j ≡ Some (Posted q) →
      (IsKept row j q) ⊎ ((i : ℕ) × (place i ≡ j) × (slice_get known i ≡ Some (Posted q)))
  waiting_cases row own known t j q h =
      elim (own_cases row own known t j (Posted q) h) [
        | inl a ↦ inl (subst (λ z. IsKept row j z) (let e : Posted q ≡ Posted a.0 = a.2 in cc) a.1)
        | inr b ↦ inr (b.0, b.2, b.3 ∙ ap (λ z. Some z) (posted_back places b.1 q b.4))
      ]

  -- BOTH CHANGE

  pub tied_set : (row : Row) (own new known later : List Request) (k : ℕ) (r y x : Request) →
      AreTied places place row own known → slice_get known k ≡ Some r → IsSet own (place k) y new →
      IsSet known k x later → StandsFor places y x → ((p : Receive) → x ≡ Posted p → r ≡ Posted p) →
      AreTied places place row new later
  tied_set row own new known later k r y x t is os ks alike only =
      record {
        same_length = os.same_length ∙ t.same_length;
        stands = stands;
        is_known = is_known;
        kept = λ i p h. os.others i (isnt_kept row i (place k) p h (t.is_known k r is)) ∙ t.kept i p h;
        of_ranks = t.of_ranks;
        others = others;
        order = order_stays row own new known later t fewer_known fewer_own stay;
      }
    where
      back : (q : Receive) → y ≡ Posted q → x ≡ Posted q
      back q e = posted_back places x q (subst (λ z. StandsFor places z x) e alike)

      stands : (j : ℕ) (z : Request) → slice_get later j ≡ Some z →
          (s : Request) × (slice_get new (place j) ≡ Some s) × StandsFor places s z
      stands j z h =
          elim (read_set known later k x ks j z h) [
            | inl a ↦ (
              y,
              subst (λ i. slice_get new (place i) ≡ Some y) (sym a.0) os.here,
              subst (λ v. StandsFor places y v) a.1 alike,
            )
            | inr b ↦
                let old = t.stands j z b.1 in
                (old.0, os.others (place j) (λ e. b.0 (apart j k e)) ∙ old.1, old.2)
          ]

      is_known : (j : ℕ) (z : Request) → slice_get later j ≡ Some z → slice_get row (place j) ≡ Some None
      is_known j z h =
          elim (read_set known later k x ks j z h) [
            | inl a ↦ subst (λ i. slice_get row (place i) ≡ Some None) (sym a.0) (t.is_known k r is)
            | inr b ↦ t.is_known j z b.1
          ]

      others : (i : ℕ) → slice_get row i ≡ Some None →
          (j : ℕ) × (z : Request) × (place j ≡ i) × (slice_get later j ≡ Some z)
      others i h =
          let old = t.others i h in
          elim (cases_eq old.0 k) [
            | inl e ↦ (old.0, x, old.2, subst (λ v. slice_get later v ≡ Some x) (sym e) ks.here)
            | inr ne ↦ (old.0, old.1, old.2, ks.others old.0 ne ∙ old.3)
          ]

      fewer_known : (j : ℕ) (p : Receive) → slice_get later j ≡ Some (Posted p) → slice_get known j ≡ Some (Posted p)
      fewer_known j p h =
          elim (read_set known later k x ks j (Posted p) h) [
            | inl a ↦
                subst (λ z. slice_get known z ≡ Some (Posted p)) (sym a.0) (is ∙ ap (λ z. Some z) (only p a.1))
            | inr b ↦ b.1
          ]

      fewer_own : (j : ℕ) (q : Receive) → slice_get new j ≡ Some (Posted q) → slice_get own j ≡ Some (Posted q)
      fewer_own j q h =
          elim (read_set own new (place k) y os j (Posted q) h) [
            | inl a ↦
                let its = t.stands k (Posted q) (is ∙ ap (λ z. Some z) (only q (back q a.1))) in
                subst
                (λ z. slice_get own z ≡ Some (Posted q))
                (sym a.0)
                (its.1 ∙ ap (λ z. Some z) its.2)
            | inr b ↦ b.1
          ]

      stay : (j : ℕ) (q : Receive) → slice_get known j ≡ Some (Posted q) →
          slice_get new (place j) ≡ Some (Posted q) → slice_get later j ≡ Some (Posted q)
      stay j q h g =
          elim (read_set own new (place k) y os (place j) (Posted q) g) [
            | inl a ↦
                subst
                (λ z. slice_get later z ≡ Some (Posted q))
                (sym (apart j k a.0))
                (ks.here ∙ ap (λ z. Some z) (back q a.1))
            | inr b ↦ ks.others j (λ e. b.0 (ap place e)) ∙ h
          ]

  -- ONE MORE OF BOTH

  pub tied_more : (row : Row) (own known : List Request) (y x : Request) → AreTied places place row own known →
      place (length known) ≡ length row → StandsFor places y x →
      ((p : Receive) → x ≡ Posted p → NoneMeets row (length row) p) →
      AreTied places place (row ++ None ∷ []) (own ++ y ∷ []) (known ++ x ∷ [])
  tied_more row own known y x t number alike meets =
      record {
        same_length = length_more own y ∙ ap suc t.same_length ∙ sym (length_more row None);
        stands = stands;
        is_known = is_known;
        kept = kept;
        of_ranks = λ i p h.
            elim (get_before row None (Some p) i h) [
              | inl a ↦ t.of_ranks i p a
              | inr b ↦ absurd (none-some p b.1)
            ];
        others = others;
        order = order;
      }
    where
      stands : (j : ℕ) (z : Request) → slice_get (known ++ x ∷ []) j ≡ Some z →
          (s : Request) × (slice_get (own ++ y ∷ []) (place j) ≡ Some s) × StandsFor places s z
      stands j z h =
          elim (get_before known x z j h) [
            | inl a ↦ let old = t.stands j z a in (old.0, get_more own y old.0 (place j) old.1, old.2)
            | inr b ↦ (
              y,
              subst
                  (λ v. slice_get (own ++ y ∷ []) v ≡ Some y)
                  (t.same_length ∙ sym number ∙ ap place (sym b.0))
                  (get_last own y),
              subst (λ v. StandsFor places y v) b.1 alike,
            )
          ]

      is_known : (j : ℕ) (z : Request) → slice_get (known ++ x ∷ []) j ≡ Some z →
          slice_get (row ++ None ∷ []) (place j) ≡ Some None
      is_known j z h =
          elim (get_before known x z j h) [
            | inl a ↦ get_more row None None (place j) (t.is_known j z a)
            | inr b ↦
                subst
                (λ v. slice_get (row ++ None ∷ []) v ≡ Some None)
                (sym number ∙ ap place (sym b.0))
                (get_last row None)
          ]

      kept : (i : ℕ) (p : Receive) → IsKept (row ++ None ∷ []) i p → slice_get (own ++ y ∷ []) i ≡ Some (Posted p)
      kept i p h =
          elim (get_before row None (Some p) i h) [
            | inl a ↦ get_more own y (Posted p) i (t.kept i p a)
            | inr b ↦ absurd (none-some p b.1)
          ]

      others : (i : ℕ) → slice_get (row ++ None ∷ []) i ≡ Some None →
          (j : ℕ) × (z : Request) × (place j ≡ i) × (slice_get (known ++ x ∷ []) j ≡ Some z)
      others i h =
          elim (get_before row None None i h) [
            | inl a ↦
                let old = t.others i a in (old.0, old.1, old.2, get_more known x old.1 old.0 old.3)
            | inr b ↦ (length known, x, number ∙ sym b.0, get_last known x)
          ]

      order : AreInOrder place (own ++ y ∷ []) (known ++ x ∷ [])
      order k p h j q less g =
          elim (get_before known x (Posted p) k h) [
            | inl a ↦
                elim (get_before own y (Posted q) j g) [
                  | inl c ↦
                      elim (t.order k p a j q less c) [
                        | inl d ↦ inl (d.0, d.1, d.2, get_more known x (Posted q) d.0 d.3)
                        | inr d ↦ inr d
                      ]
                  | inr c ↦
                      let its = t.stands k (Posted p) a in
                      let inside : place k < length own = within own (place k) its.0 its.1 in
                      let e : j ≡ length own = c.0 in
                      absurd (omega arith)
                ]
            | inr b ↦
                let e : place k ≡ length row = ap place b.0 ∙ number in
                elim (get_before own y (Posted q) j g) [
                  | inl c ↦
                      elim (waiting_cases row own known t j q c) [
                        | inl d ↦ inr (meets p b.1 j q (subst (λ v. j < v) e less) d)
                        | inr d ↦
                            inl (
                              d.0,
                              subst (λ v. d.0 < v) (sym b.0) (within known d.0 (Posted q) d.2),
                              d.1,
                              get_more known x (Posted q) d.0 d.2,
                            )
                      ]
                  | inr c ↦
                      let f : j ≡ length own = c.0 in
                      let l : length own ≡ length row = t.same_length in
                      absurd (omega arith)
                ]
          ]

  -- ONE MORE THAT IS KEPT BACK

  pub tied_kept : (row : Row) (own known : List Request) (p : Receive) → p.source ≢ Null →
      AreTied places place row own known →
      AreTied places place (row ++ Some p ∷ []) (own ++ Posted p ∷ []) known
  tied_kept row own known p real t =
      record {
        same_length = length_more own (Posted p) ∙ ap suc t.same_length ∙ sym (length_more row (Some p));
        stands = λ k r h.
            let old = t.stands k r h in (old.0, get_more own (Posted p) old.0 (place k) old.1, old.2);
        is_known = λ k r h. get_more row (Some p) None (place k) (t.is_known k r h);
        kept = kept;
        of_ranks = λ i q h.
            elim (get_before row (Some p) (Some q) i h) [
              | inl a ↦ t.of_ranks i q a
              | inr b ↦ subst (λ (v : Receive). v.source ≢ Null) (same_Some p q b.1) real
            ];
        others = others;
        order = order;
      }
    where
      kept : (i : ℕ) (q : Receive) → IsKept (row ++ Some p ∷ []) i q →
          slice_get (own ++ Posted p ∷ []) i ≡ Some (Posted q)
      kept i q h =
          elim (get_before row (Some p) (Some q) i h) [
            | inl a ↦ get_more own (Posted p) (Posted q) i (t.kept i q a)
            | inr b ↦
                subst
                (λ v. slice_get (own ++ Posted p ∷ []) v ≡ Some (Posted q))
                (t.same_length ∙ sym b.0)
                (get_last own (Posted p) ∙ ap (λ v. Some (Posted v)) (same_Some p q b.1))
          ]

      others : (i : ℕ) → slice_get (row ++ Some p ∷ []) i ≡ Some None →
          (j : ℕ) × (z : Request) × (place j ≡ i) × (slice_get known j ≡ Some z)
      others i h =
          elim (get_before row (Some p) None i h) [
            | inl a ↦ t.others i a
            | inr b ↦ absurd (none-some p (sym b.1))
          ]

      order : AreInOrder place (own ++ Posted p ∷ []) known
      order k o h j q less g =
          elim (get_before own (Posted p) (Posted q) j g) [
            | inl c ↦ t.order k o h j q less c
            | inr c ↦
                let its = t.stands k (Posted o) h in
                let inside : place k < length own = within own (place k) its.0 its.1 in
                let e : j ≡ length own = c.0 in
                absurd (omega arith)
          ]

  -- THE ENGINE IS TOLD OF ONE

  pub tied_told : (row rest : Row) (own new known : List Request) (i : ℕ) (p : Receive) (y x : Request) →
      AreTied places place row own known → IsKept row i p → place (length known) ≡ i → IsSet own i y new →
      IsSet row i None rest → StandsFor places y x →
      ((o : Receive) → x ≡ Posted o → (o ≡ p) × NoneMeets row i o) →
      AreTied places place rest new (known ++ x ∷ [])
  tied_told row rest own new known i p y x t is number os rs alike meets =
      record {
        same_length = os.same_length ∙ t.same_length ∙ sym rs.same_length;
        stands = stands;
        is_known = is_known;
        kept = kept;
        of_ranks = λ j q h.
            elim (read_set row rest i None rs j (Some q) h) [
              | inl a ↦ absurd (none-some q a.1)
              | inr b ↦ t.of_ranks j q b.1
            ];
        others = others;
        order = order;
      }
    where
      moved : (j : ℕ) → j ≡ length known → i ≡ place j
      moved j e = sym number ∙ ap place (sym e)

      elsewhere : (j : ℕ) (z : Request) → slice_get known j ≡ Some z → place j ≢ i
      elsewhere j z h e = isnt_kept row i (place j) p is (t.is_known j z h) (sym e)

      stands : (j : ℕ) (z : Request) → slice_get (known ++ x ∷ []) j ≡ Some z →
          (s : Request) × (slice_get new (place j) ≡ Some s) × StandsFor places s z
      stands j z h =
          elim (get_before known x z j h) [
            | inl a ↦
                let old = t.stands j z a in (old.0, os.others (place j) (elsewhere j z a) ∙ old.1, old.2)
            | inr b ↦ (
              y,
              subst (λ v. slice_get new v ≡ Some y) (moved j b.0) os.here,
              subst (λ v. StandsFor places y v) b.1 alike,
            )
          ]

      is_known : (j : ℕ) (z : Request) → slice_get (known ++ x ∷ []) j ≡ Some z →
          slice_get rest (place j) ≡ Some None
      is_known j z h =
          elim (get_before known x z j h) [
            | inl a ↦ rs.others (place j) (elsewhere j z a) ∙ t.is_known j z a
            | inr b ↦ subst (λ v. slice_get rest v ≡ Some None) (moved j b.0) rs.here
          ]

      kept : (j : ℕ) (q : Receive) → IsKept rest j q → slice_get new j ≡ Some (Posted q)
      kept j q h =
          elim (read_set row rest i None rs j (Some q) h) [
            | inl a ↦ absurd (none-some q a.1)
            | inr b ↦ os.others j b.0 ∙ t.kept j q b.1
          ]

      others : (j : ℕ) → slice_get rest j ≡ Some None →
          (k : ℕ) × (z : Request) × (place k ≡ j) × (slice_get (known ++ x ∷ []) k ≡ Some z)
      others j h =
          elim (read_set row rest i None rs j None h) [
            | inl a ↦ (length known, x, number ∙ sym a.0, get_last known x)
            | inr b ↦
                let old = t.others j b.1 in (old.0, old.1, old.2, get_more known x old.1 old.0 old.3)
          ]

      before : (j : ℕ) (q : Receive) → slice_get new j ≡ Some (Posted q) → slice_get own j ≡ Some (Posted q)
      before j q g =
          elim (read_set own new i y os j (Posted q) g) [
            | inl a ↦
                let back = posted_back places x q (subst (λ v. StandsFor places v x) a.1 alike) in
                let same = (meets q back).0 in
                subst
                (λ v. slice_get own v ≡ Some (Posted q))
                (sym a.0)
                (t.kept i p is ∙ ap (λ v. Some (Posted v)) (sym same))
            | inr b ↦ b.1
          ]

      order : AreInOrder place new (known ++ x ∷ [])
      order k o h j q less g =
          elim (get_before known x (Posted o) k h) [
            | inl a ↦
                elim (t.order k o a j q less (before j q g)) [
                  | inl d ↦ inl (d.0, d.1, d.2, get_more known x (Posted q) d.0 d.3)
                  | inr d ↦ inr d
                ]
            | inr b ↦
                elim (waiting_cases row own known t j q (before j q g)) [
                  | inl d ↦
                      inr ((meets o b.1).1 j q (subst (λ v. j < v) (sym (moved k b.0)) less) d)
                  | inr d ↦
                      inl (
                        d.0,
                        subst (λ v. d.0 < v) (sym b.0) (within known d.0 (Posted q) d.2),
                        d.1,
                        get_more known x (Posted q) d.0 d.2,
                      )
                ]
          ]

  -- A CHANGE OF ONE BY A FUNCTION

  pub tied_changed : (f : Request → Request) → ((s r : Request) → StandsFor places s r → StandsFor places (f s) (f r)) →
      ((r : Request) (p : Receive) → f r ≡ Posted p → r ≡ Posted p) → (row : Row) (own known : List Request)
      (k : ℕ) (r : Request) → AreTied places place row own known → slice_get known k ≡ Some r →
      AreTied places place row (changed f own (place k)) (changed f known k)
  tied_changed f alike only row own known k r t is =
      let its = t.stands k r is in
      tied_set row own (changed f own (place k)) known (changed f known k) k r (f its.0) (f r) t is
      (is_changed f own (place k) its.0 its.1)
      (is_changed f known k r is)
      (alike its.0 r its.2)
      (only r)
