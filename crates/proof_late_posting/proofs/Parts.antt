-- An endpoint of the program and that of its engine stay tied: by calls, messages, steps and settling.
use Rattle.std.proofs.Common.{◌≡◌, ◌≢◌, ℕ, Bool, true, false, not, ◌&&◌, ◌||◌, ◌==◌, List, [], ◌∷◌, ◌++◌}
use Rattle.std.proofs.Common.{length, map, Option, Some, None, inl, inr, if◌then◌else◌, slice_get, refl}
use Rattle.std.proofs.Common.{sym, ap, ap₂, ◌∙◌, subst}
use Rattle.std.specs.Prelude.{option_and_then, option_map}
use Rattle.std.specs.List.{AllByRecursion}
use Rattle.std.proofs.lemmas.Bool.{and_from, and_parts, and_right, eq-eqb, or_parts}
use Rattle.std.proofs.lemmas.List.{map-append}
use Rattle.std.proofs.lemmas.Option.{none-some}
use Rattle.perfect_queues.proofs.EndpointLemmas.{same_eq}
use Rattle.perfect_queues.specs.Buffers.{Handed, data_of}
use Rattle.perfect_queues.specs.Calls.{Call, Cancel, Improbe, Iprobe, Irecv, Isend, Mrecv, Test, Wait, after_answer}
use Rattle.perfect_queues.specs.Calls.{after_call, after_settling, after_test}
use Rattle.perfect_queues.specs.Calls.{is_eager, probe_begun, ready_answer, receive_request, receiver, search_begun}
use Rattle.perfect_queues.specs.Calls.{send_request}
use Rattle.perfect_queues.specs.Completions.{Answer, One, Unanswered, answer_to, completion, outcome_at, outcome_of}
use Rattle.perfect_queues.specs.Messages.{Message}
use Rattle.perfect_queues.specs.Outcomes.{Sent}
use Rattle.perfect_queues.specs.Receives.{Probe, Receive, accepts, has_tag, is_from}
use Rattle.perfect_queues.specs.Refusals.{fault, fault_by, is_held, is_message, is_missing, is_receive, standing}
use Rattle.perfect_queues.specs.Requests.{Finished, Gone, Matched, Posted, Request, Sending, TakenOut, all_changed}
use Rattle.perfect_queues.specs.Requests.{cancelled_request, changed, received_into, used_up}
use Rattle.perfect_queues.specs.State.{Local, with_message, with_queue}
use Rattle.proof_late_posting.proofs.Completing.{completion_by, ready_by, used_by}
use Rattle.proof_late_posting.proofs.Judging.{fault_same, first_none, others_of, standings_agree}
use Rattle.proof_late_posting.proofs.Lists.{changed_nothing}
use Rattle.proof_late_posting.proofs.Tied.{own_cases, tied_changed, tied_more}
use Rattle.proof_late_posting.specs.Explored.{CallCounts, CallFits, row_after_call}
use Rattle.proof_late_posting.specs.Places.{Places, call_by, message_by, unanswered_by}
use Rattle.proof_late_posting.specs.Ties.{AreTied, IsTied, NoneMeets, Row, StandsFor, named}
use Rattle.vocabulary.specs.Endpoints.{is_same}
use Rattle.vocabulary.specs.declared.basic_type.BasicType.{BasicType}
use Rattle.vocabulary.specs.declared.endpoint.Endpoint.{Endpoint}
use Rattle.vocabulary.specs.declared.envelope.Source.{Source}
use Rattle.vocabulary.specs.declared.envelope.Source.TheVariants.{Any, Null, Rank}
use Rattle.vocabulary.specs.declared.message_limit.MessageLimit.{MessageLimit}
use Rattle.vocabulary.specs.declared.mode.Mode.{Mode}

-- QUEUES

abbrev Queue : Type 0
Queue = Endpoint → ℕ → List Message

pub queue_with : (places : Places) (own known : Queue) →
    ((s : Endpoint) (c : ℕ) → own s c ≡ map (message_by (places s)) (known s c)) →
    (e : Endpoint) (d : ℕ) (ns ms : List Message) → ns ≡ map (message_by (places e)) ms → (s : Endpoint) (c : ℕ) →
    with_queue own e d ns s c ≡ map (message_by (places s)) (with_queue known e d ms s c)
queue_with places own known same e d ns ms here s c = go (is_same s e && (c == d)) refl
  where
    go : (t : Bool) → (is_same s e && (c == d)) ≡ t →
        (if t then ns else own s c) ≡ map (message_by (places s)) (if t then ms else known s c)
    go true h =
        let is : s ≡ e = same_eq s e (and_parts (is_same s e) (c == d) h).0 in
        subst (λ x. ns ≡ map (message_by (places x)) ms) (sym is) here
    go false h = same s c

pub filed_with : (known : Queue) → ((s : Endpoint) (c : ℕ) → AllByRecursion (λ m. m.sender ≡ s) (known s c)) →
    (e : Endpoint) (d : ℕ) (ms : List Message) → AllByRecursion (λ m. m.sender ≡ e) ms → (s : Endpoint) (c : ℕ) →
    AllByRecursion (λ m. m.sender ≡ s) (with_queue known e d ms s c)
filed_with known filed e d ms here s c = go (is_same s e && (c == d)) refl
  where
    go : (t : Bool) → (is_same s e && (c == d)) ≡ t → AllByRecursion (λ m. m.sender ≡ s) (if t then ms else known s c)
    go true h =
        let is : s ≡ e = same_eq s e (and_parts (is_same s e) (c == d) h).0 in
        subst (λ x. AllByRecursion (λ m. m.sender ≡ x) ms) (sym is) here
    go false h = filed s c

filed_more : (ms : List Message) (m : Message) (s : Endpoint) → AllByRecursion (λ n. n.sender ≡ s) ms → m.sender ≡ s →
    AllByRecursion (λ n. n.sender ≡ s) (ms ++ m ∷ [])
filed_more [] m s all is = (is, tt)
filed_more (n ∷ ns) m s all is = (all.0, filed_more ns m s all.1 is)

filed_cut : (earlier later : List Message) (m : Message) (s : Endpoint) →
    AllByRecursion (λ n. n.sender ≡ s) (earlier ++ m ∷ later) → AllByRecursion (λ n. n.sender ≡ s) (earlier ++ later)
filed_cut [] later m s all = all.1
filed_cut (n ∷ ns) later m s all = (all.0, filed_cut ns later m s all.1)

pub filed_first : (earlier later : List Message) (s : Endpoint) →
    AllByRecursion (λ n. n.sender ≡ s) (earlier ++ later) → AllByRecursion (λ n. n.sender ≡ s) earlier
filed_first [] later s all = tt
filed_first (n ∷ ns) later s all = (all.0, filed_first ns later s all.1)

-- a message was taken from its queue
pub filed_without : (known : Queue) → ((s : Endpoint) (c : ℕ) → AllByRecursion (λ m. m.sender ≡ s) (known s c)) →
    (earlier : List Message) (m : Message) (later : List Message) →
    known m.sender m.context ≡ earlier ++ m ∷ later → (s : Endpoint) (c : ℕ) →
    AllByRecursion (λ n. n.sender ≡ s) (with_queue known m.sender m.context (earlier ++ later) s c)
filed_without known filed earlier m later stands =
    filed_with known filed m.sender m.context (earlier ++ later)
    (filed_cut earlier later m m.sender
    (subst (λ ms. AllByRecursion (λ n. n.sender ≡ m.sender) ms) stands (filed m.sender m.context)))

-- a message comes to both
pub tied_message : (places : Places) (x : Endpoint) (row : Row) (own known : Local) → IsTied places x row own known →
    (m : Message) →
    IsTied places x row (with_message own (message_by (places m.sender) m)) (with_message known m)
tied_message places x row own known t m =
    record {
      requests = t.requests;
      blocked = t.blocked;
      learnt = t.learnt;
      queue =
          queue_with places own.queue known.queue t.queue m.sender m.context
          (own.queue m.sender m.context ++ message_by (places m.sender) m ∷ [])
          (known.queue m.sender m.context ++ m ∷ [])
          (ap (λ ms. ms ++ message_by (places m.sender) m ∷ []) (t.queue m.sender m.context)
          ∙ sym (map-append (message_by (places m.sender)) (known.queue m.sender m.context) (m ∷ [])));
      limit = t.limit;
      filed =
          filed_with known.queue t.filed m.sender m.context (known.queue m.sender m.context ++ m ∷ [])
          (filed_more (known.queue m.sender m.context) m m.sender (t.filed m.sender m.context) refl);
    }

-- NAMES OF SOURCES

pub named_accepts : (p : Receive) (m : Message) → accepts (named p m.sender.rank) m ≡ true →
    is_from p.source m.sender.rank ≡ true →
    accepts p m ≡ true
named_accepts p m h from =
    let outer =
    and_parts (p.context == m.context) ((m.sender.rank == m.sender.rank) && has_tag p.tag m.tag) h in
    let inner = and_parts (m.sender.rank == m.sender.rank) (has_tag p.tag m.tag) outer.1 in
    and_from (p.context == m.context) (is_from p.source m.sender.rank && has_tag p.tag m.tag) outer.0
    (and_from (is_from p.source m.sender.rank) (has_tag p.tag m.tag) from inner.1)

any_source : (c x y t : Bool) → x ≡ true → (c && (x && t)) ≡ false → (c && (y && t)) ≡ false
any_source false x y t is h = refl
any_source true false y t is h = absurd cc
any_source true true y t is h = and_right y t h

named_refuses : (p : Receive) (r : ℕ) (b : Message) → b.sender.rank ≡ r → accepts (named p r) b ≡ false →
    accepts p b ≡ false
named_refuses p r b is h =
    any_source (p.context == b.context) (r == b.sender.rank) (is_from p.source b.sender.rank) (has_tag p.tag b.tag)
    (eq-eqb r b.sender.rank (sym is)) h

none_of : (g : ℕ → ℕ) (p : Receive) (s : Endpoint) (ms : List Message) →
    AllByRecursion (λ b. accepts (named p s.rank) b ≡ false) ms → AllByRecursion (λ n. n.sender ≡ s) ms →
    AllByRecursion (λ b. accepts p b ≡ false) (map (message_by g) ms)
none_of g p s [] none filed = tt
none_of g p s (m ∷ ms) none filed = (
  named_refuses p s.rank m (ap (λ (x : Endpoint). x.rank) filed.0) none.0,
  none_of g p s ms none.1 filed.1,
)

-- what accepts no earlier message with the sender's rank named accepts none with its own source
pub none_earlier : (g : ℕ → ℕ) (p : Receive) (m : Message) (all earlier later : List Message) →
    AllByRecursion (λ b. accepts (named p m.sender.rank) b ≡ false) earlier → all ≡ earlier ++ m ∷ later →
    AllByRecursion (λ n. n.sender ≡ m.sender) all →
    AllByRecursion (λ b. accepts p b ≡ false) (map (message_by g) earlier)
none_earlier g p m all earlier later none stands filed =
    none_of g p m.sender earlier none
    (filed_first earlier (m ∷ later) m.sender
    (subst (λ ms. AllByRecursion (λ n. n.sender ≡ m.sender) ms) stands filed))

-- REQUESTS THAT CHANGE

pub used_stands : (places : Places) (s r : Request) → StandsFor places s r → StandsFor places (used_up s) (used_up r)
used_stands places s (Posted p) h = ap used_up h
used_stands places s (Matched q m) h = (h.0, h.1, ap used_up h.2, h.3)
used_stands places s (Sending d) h = ap used_up h
used_stands places s (Finished o) h = ap used_up h
used_stands places s Gone h = ap used_up h
used_stands places s (TakenOut g m) h = ap used_up h

used_posted : (r : Request) (p : Receive) → used_up r ≡ Posted p → r ≡ Posted p
used_posted (Posted q) p h = h
used_posted (Matched q m) p h = absurd cc
used_posted (Sending d) p h = absurd cc
used_posted (Finished o) p h = absurd cc
used_posted Gone p h = absurd cc
used_posted (TakenOut g m) p h = absurd cc

cancelled_stands : (places : Places) (s r : Request) → StandsFor places s r →
    StandsFor places (cancelled_request s) (cancelled_request r)
cancelled_stands places s (Posted p) h = ap cancelled_request h
cancelled_stands places s (Matched q m) h = (h.0, h.1, ap cancelled_request h.2, h.3)
cancelled_stands places s (Sending d) h = ap cancelled_request h
cancelled_stands places s (Finished o) h = ap cancelled_request h
cancelled_stands places s Gone h = ap cancelled_request h
cancelled_stands places s (TakenOut g m) h = ap cancelled_request h

cancelled_posted : (r : Request) (p : Receive) → cancelled_request r ≡ Posted p → r ≡ Posted p
cancelled_posted (Posted q) p h = absurd cc
cancelled_posted (Matched q m) p h = absurd cc
cancelled_posted (Sending d) p h = absurd cc
cancelled_posted (Finished o) p h = absurd cc
cancelled_posted Gone p h = absurd cc
cancelled_posted (TakenOut g m) p h = absurd cc

received_stands : (places : Places) (into : Handed) (s r : Request) → StandsFor places s r →
    StandsFor places (received_into into s) (received_into into r)
received_stands places into s (Posted p) h = ap (received_into into) h
received_stands places into s (Matched q m) h = (h.0, h.1, ap (received_into into) h.2, h.3)
received_stands places into s (Sending d) h = ap (received_into into) h
received_stands places into s (Finished o) h = ap (received_into into) h
received_stands places into s Gone h = ap (received_into into) h
received_stands places into s (TakenOut g None) h = ap (received_into into) h
received_stands places into s (TakenOut g (Some m)) h = (_, _, ap (received_into into) h, refl)

received_posted : (into : Handed) (r : Request) (p : Receive) → received_into into r ≡ Posted p → r ≡ Posted p
received_posted into (Posted q) p h = h
received_posted into (Matched q m) p h = absurd cc
received_posted into (Sending d) p h = absurd cc
received_posted into (Finished o) p h = absurd cc
received_posted into Gone p h = absurd cc
received_posted into (TakenOut g None) p h = absurd cc
received_posted into (TakenOut g (Some m)) p h = absurd cc

-- what a send starts, and what a receive starts
sent_stands : (places : Places) (limit : MessageLimit) (mode : Mode) (e : Endpoint) (known : ℕ → ℕ) (to : Source)
    (tag : Option ℕ) (basic : BasicType) (values : List ℕ) →
    StandsFor places (send_request limit mode e known to tag basic values)
    (send_request limit mode e known to tag basic values)
    × ((p : Receive) → send_request limit mode e known to tag basic values ≡ Posted p → ⊥)
sent_stands places limit mode e known (Rank to) (Some tag) basic values =
    go (is_eager limit mode e (receiver known to) basic values)
  where
    go : (b : Bool) →
        StandsFor places (if b then Finished Sent else Sending (receiver known to))
        (if b then Finished Sent else Sending (receiver known to))
        × ((p : Receive) → (if b then Finished Sent else Sending (receiver known to)) ≡ Posted p → ⊥)
    go true = (refl, λ p h. cc)
    go false = (refl, λ p h. cc)
sent_stands places limit mode e known (Rank to) None basic values = (refl, λ p h. cc)
sent_stands places limit mode e known Any tag basic values = (refl, λ p h. cc)
sent_stands places limit mode e known Null tag basic values = (refl, λ p h. cc)

received_alike : (places : Places) (s : Source) (p : Receive) →
    StandsFor places (receive_request s p) (receive_request s p)
    × ((o : Receive) → receive_request s p ≡ Posted o → p ≡ o)
received_alike places Any p = (refl, λ o h. cc)
received_alike places (Rank r) p = (refl, λ o h. cc)
received_alike places Null p = (refl, λ o h. absurd cc)

pub is_posted : (s : Source) (p : Receive) → s ≢ Null → receive_request s p ≡ Posted p
is_posted Any p ne = refl
is_posted (Rank r) p ne = refl
is_posted Null p ne = absurd (ne refl)

probe_same : (g : ℕ → ℕ) (s : Source) (q : Probe) → Some (probe_begun s q) ≡
    option_map (unanswered_by g) (Some (probe_begun s q))
probe_same g Any q = refl
probe_same g (Rank r) q = refl
probe_same g Null q = refl

search_same : (g : ℕ → ℕ) (s : Source) (q : Probe) → Some (search_begun s q) ≡
    option_map (unanswered_by g) (Some (search_begun s q))
search_same g Any q = refl
search_same g (Rank r) q = refl
search_same g Null q = refl

-- no call is blocked where one is taken
pub held_none : (o : Option Unanswered) → is_held o ≡ false → o ≡ None
held_none None h = refl
held_none (Some a) h = absurd cc

pub test_free : (n : ℕ) (l : Local) (k : ℕ) → fault n l (Test (Some k)) ≡ None → l.blocked ≡ None
test_free n l k h =
    held_none l.blocked
    (or_parts (is_held l.blocked) (is_missing (standing (slice_get l.requests k)) || false)
    (first_none (is_held l.blocked || (is_missing (standing (slice_get l.requests k)) || false)) 6
    (others_of n l.message_limit (Test (Some k))) h)).0

pub is_free : (n : ℕ) (l : Local) (p : Receive) → fault n l (Irecv p) ≡ None → l.blocked ≡ None
is_free n l p h =
    held_none l.blocked
    (or_parts (is_held l.blocked) false
    (first_none (is_held l.blocked || false) 6 (others_of n l.message_limit (Irecv p)) h)).0

module _ (places : Places) (e : Endpoint) (apart : (j k : ℕ) → places e j ≡ places e k → j ≡ k) where
  pub outcomes : (row : Row) (own known : List Request) → AreTied places (places e) row own known → (k : ℕ) →
      outcome_at own (places e k) ≡ outcome_at known k
  outcomes row own known t k = go (slice_get known k) refl
    where
      one : (r s : Request) → StandsFor places s r → outcome_of (Some s) ≡ outcome_of (Some r)
      one (Posted p) s h = ap (λ v. outcome_of (Some v)) h
      one (Matched q m) s h = ap (λ v. outcome_of (Some v)) h.2
      one (Sending d) s h = ap (λ v. outcome_of (Some v)) h
      one (Finished o) s h = ap (λ v. outcome_of (Some v)) h
      one Gone s h = ap (λ v. outcome_of (Some v)) h
      one (TakenOut g m) s h = ap (λ v. outcome_of (Some v)) h

      missing : slice_get known k ≡ None → (o : Option Request) → slice_get own (places e k) ≡ o → outcome_of o ≡ None
      missing h None g = refl
      missing h (Some s) g =
          elim (own_cases places (places e) apart row own known t (places e k) s g) [
            | inl a ↦ ap (λ v. outcome_of (Some v)) a.2
            | inr b ↦
                absurd
                (none-some b.1 (sym h ∙ subst (λ v. slice_get known v ≡ Some b.1) (apart b.0 k b.2) b.3))
          ]

      go : (o : Option Request) → slice_get known k ≡ o → outcome_at own (places e k) ≡ outcome_at known k
      go None h = missing h (slice_get own (places e k)) refl ∙ ap outcome_of (sym h)
      go (Some r) h =
          let its = t.stands k r h in
          ap outcome_of its.1 ∙ one r its.0 its.2 ∙ ap outcome_of (sym h)

  -- requests are used up

  pub tied_used : (ks : List ℕ) (row : Row) (own known : List Request) → AreTied places (places e) row own known →
      AreTied places (places e) row (all_changed used_up own (map (places e) ks)) (all_changed used_up known ks)
  tied_used [] row own known t = t
  tied_used (k ∷ ks) row own known t =
      tied_used ks row (changed used_up own (places e k)) (changed used_up known k) (go (slice_get known k) refl)
    where
      still : slice_get known k ≡ None → (s : Request) → slice_get own (places e k) ≡ Some s → used_up s ≡ s
      still h s g =
          elim (own_cases places (places e) apart row own known t (places e k) s g) [
            | inl a ↦ ap used_up a.2 ∙ sym a.2
            | inr b ↦
                absurd
                (none-some b.1 (sym h ∙ subst (λ v. slice_get known v ≡ Some b.1) (apart b.0 k b.2) b.3))
          ]

      go : (o : Option Request) → slice_get known k ≡ o →
          AreTied places (places e) row (changed used_up own (places e k)) (changed used_up known k)
      go None h =
          subst
          (λ v. AreTied places (places e) row v (changed used_up known k))
          (sym (changed_nothing used_up own (places e k) (still h)))
          (subst
          (λ v. AreTied places (places e) row own v)
          (sym (changed_nothing used_up known k (λ x g. absurd (none-some x (sym h ∙ g)))))
          t)
      go (Some r) h =
          tied_changed places (places e) apart used_up (used_stands places) used_posted row own known k r t h

  -- CALLS

  free_of : (row : Row) (own known : Local) → IsTied places e row own known → known.blocked ≡ None → own.blocked ≡ None
  free_of row own known t h = t.blocked ∙ ap (option_map (unanswered_by (places e))) h

  -- the machine takes the program's call
  pub fault_none : (row : Row) (own known : Local) → IsTied places e row own known → (n : ℕ) (c : Call) →
      fault n known c ≡ None → fault n own (call_by (places e) c) ≡ None
  fault_none row own known t n c h =
      subst
      (λ limit. fault_by n limit (is_held own.blocked) (λ k. standing (slice_get own.requests k)) (call_by (places e) c)
      ≡ None)
      (sym t.limit)
      (subst
      (λ b. fault_by n known.message_limit b (λ k. standing (slice_get own.requests k)) (call_by (places e) c) ≡ None)
      (held known.blocked ∙ ap is_held (sym t.blocked))
      (fault_same (places e) apart (λ k. standing (slice_get own.requests k))
      (λ k. standing (slice_get known.requests k))
      (standings_agree places (places e) row own.requests known.requests t.requests)
      c n known.message_limit (is_held known.blocked) h))
    where
      held : (b : Option Unanswered) → is_held b ≡ is_held (option_map (unanswered_by (places e)) b)
      held None = refl
      held (Some a) = refl

  tied_test : (row : Row) (own known : Local) → IsTied places e row own known → (o : Option (Answer × List ℕ)) →
      IsTied places e row (after_test own (option_map (used_by (places e)) o)) (after_test known o)
  tied_test row own known t None = t
  tied_test row own known t (Some (a, ks)) =
      record {
        requests = tied_used ks row own.requests known.requests t.requests;
        blocked = t.blocked;
        learnt = t.learnt;
        queue = t.queue;
        limit = t.limit;
        filed = t.filed;
      }

  pub call_tied : (n : ℕ) (c : Call) (row : Row) (own known : Local) → IsTied places e row own known →
      fault n known c ≡ None → CallFits row (Some c) → CallCounts places e known row (Some c) →
      IsTied places e (row_after_call row (Some c)) (after_call e own (call_by (places e) c)) (after_call e known c)
  call_tied n (Isend mode c to tag b) row own known t h fits count =
      let its = sent_stands places known.message_limit mode e known.known to tag b.buffer.basic (data_of b) in
      let same :
      send_request own.message_limit mode e own.known to tag b.buffer.basic (data_of b)
      ≡ send_request known.message_limit mode e known.known to tag b.buffer.basic (data_of b) =
      ap₂ (λ limit f. send_request limit mode e f to tag b.buffer.basic (data_of b)) t.limit t.learnt in
      record {
        requests =
            tied_more places (places e) apart row own.requests known.requests
            (send_request own.message_limit mode e own.known to tag b.buffer.basic (data_of b))
            (send_request known.message_limit mode e known.known to tag b.buffer.basic (data_of b))
            t.requests count
            (subst
            (λ v. StandsFor places v
            (send_request known.message_limit mode e known.known to tag b.buffer.basic (data_of b)))
            (sym same)
            its.0)
            (λ p g. absurd (its.1 p g));
        blocked = t.blocked;
        learnt = t.learnt;
        queue = t.queue;
        limit = t.limit;
        filed = t.filed;
      }
  call_tied n (Irecv p) row own known t h fits count =
      let its = received_alike places p.source p in
      record {
        requests =
            tied_more places (places e) apart row own.requests known.requests (receive_request p.source p)
            (receive_request p.source p) t.requests count its.0
            (λ o g. subst (λ v. NoneMeets row (length row) v) (its.1 o g) fits);
        blocked = t.blocked;
        learnt = t.learnt;
        queue = t.queue;
        limit = t.limit;
        filed = t.filed;
      }
  call_tied n (Wait a) row own known t h fits count =
      record {
        requests = t.requests;
        blocked = refl;
        learnt = t.learnt;
        queue = t.queue;
        limit = t.limit;
        filed = t.filed;
      }
  call_tied n (Test r) row own known t h fits count =
      subst
      (λ v. IsTied places e row (after_test own v)
      (after_test known (completion (outcome_at known.requests) (One r))))
      (sym (completion_by (places e) (outcome_at own.requests) (outcome_at known.requests)
      (outcomes row own.requests known.requests t.requests) (One r)))
      (tied_test row own known t (completion (outcome_at known.requests) (One r)))
  call_tied n (Cancel None) row own known t h fits count = t
  call_tied n (Cancel (Some k)) row own known t h fits count =
      let its = found (slice_get known.requests k)
      (or_parts (is_held known.blocked) (not (is_receive (standing (slice_get known.requests k))))
      (first_none (is_held known.blocked || not (is_receive (standing (slice_get known.requests k)))) 6
      (others_of n known.message_limit (Cancel (Some k))) h)).1 in
      record {
        requests =
            tied_changed places (places e) apart cancelled_request (cancelled_stands places) cancelled_posted row
            own.requests known.requests k its.0 t.requests its.1;
        blocked = t.blocked;
        learnt = t.learnt;
        queue = t.queue;
        limit = t.limit;
        filed = t.filed;
      }
    where
      found : (o : Option Request) → not (is_receive (standing o)) ≡ false → (r : Request) × (o ≡ Some r)
      found None g = absurd cc
      found (Some r) g = (r, refl)
  call_tied n (Iprobe q) row own known t h fits count =
      record {
        requests = t.requests;
        blocked = probe_same (places e) q.source q;
        learnt = t.learnt;
        queue = t.queue;
        limit = t.limit;
        filed = t.filed;
      }
  call_tied n (Improbe q) row own known t h fits count =
      record {
        requests = t.requests;
        blocked = search_same (places e) q.source q;
        learnt = t.learnt;
        queue = t.queue;
        limit = t.limit;
        filed = t.filed;
      }
  call_tied n (Mrecv None into) row own known t h fits count = t
  call_tied n (Mrecv (Some k) into) row own known t h fits count =
      let its = found (slice_get known.requests k)
      (or_parts (is_held known.blocked) (not (is_message (standing (slice_get known.requests k))))
      (first_none (is_held known.blocked || not (is_message (standing (slice_get known.requests k)))) 6
      (others_of n known.message_limit (Mrecv (Some k) into)) h)).1 in
      record {
        requests =
            tied_changed places (places e) apart (received_into into) (received_stands places into)
            (received_posted into) row own.requests known.requests k its.0 t.requests its.1;
        blocked = refl;
        learnt = t.learnt;
        queue = t.queue;
        limit = t.limit;
        filed = t.filed;
      }
    where
      found : (o : Option Request) → not (is_message (standing o)) ≡ false → (r : Request) × (o ≡ Some r)
      found None g = absurd cc
      found (Some r) g = (r, refl)

  -- SETTLING

  pub ready_same : (row : Row) (own known : Local) → IsTied places e row own known →
      ready_answer own ≡ option_map (used_by (places e)) (ready_answer known)
  ready_same row own known t =
      ap (option_and_then (answer_to (outcome_at own.requests))) t.blocked
      ∙ ready_by (places e) (outcome_at own.requests) (outcome_at known.requests)
      (outcomes row own.requests known.requests t.requests) known.blocked

  tied_answer : (row : Row) (own known : Local) → IsTied places e row own known → (o : Option (Answer × List ℕ)) →
      IsTied places e row (after_answer own (option_map (used_by (places e)) o)) (after_answer known o)
  tied_answer row own known t None = t
  tied_answer row own known t (Some (a, ks)) =
      record {
        requests = tied_used ks row own.requests known.requests t.requests;
        blocked = refl;
        learnt = t.learnt;
        queue = t.queue;
        limit = t.limit;
        filed = t.filed;
      }

  pub tied_settled : (row : Row) (own known : Local) → IsTied places e row own known →
      IsTied places e row (after_settling own) (after_settling known)
  tied_settled row own known t =
      subst
      (λ v. IsTied places e row (after_answer own v) (after_settling known))
      (sym (ready_same row own known t))
      (tied_answer row own known t (ready_answer known))
