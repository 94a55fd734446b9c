-- What rank 1's part may be while it has one receive from rank 0, and what steps make of it.
use Rattle.std.proofs.Common.{◌≡◌, ℕ, zero, suc, Bool, true, false, ◌&&◌, List, [], ◌∷◌, ◌++◌, Option, Some, None, ◌==◌}
use Rattle.std.proofs.Common.{if◌then◌else◌, slice_get, slice_set, refl, sym, ap, ap₂, subst, ◌∙◌}
use Rattle.std.specs.List.{AllByRecursion}
use Rattle.std.proofs.lemmas.Bool.{and_parts, eqb-true}
use Rattle.perfect_queues.specs.Completions.{Looks, Searches, Unanswered}
use Rattle.perfect_queues.specs.Example.{rank_0}
use Rattle.perfect_queues.specs.Messages.{Message}
use Rattle.perfect_queues.specs.Outcomes.{Outcome, outcome}
use Rattle.perfect_queues.specs.Receives.{Receive, accepts}
use Rattle.perfect_queues.specs.Requests.{Request, Posted, Matched, Sending, Finished, Gone, TakenOut}
use Rattle.perfect_queues.specs.State.{Local, with_queue}
use Rattle.perfect_queues.specs.Steps.{Allowed, Match, Finish, FinishSend, Learn, See, Step, TakeOut}
use Rattle.perfect_queues.proofs.EndpointLemmas.{same_eq}
use Rattle.perfect_queues.proofs.HistoryRuns.{IsKept}
use Rattle.vocabulary.specs.Endpoints.{is_same}
use Rattle.vocabulary.specs.declared.endpoint.Endpoint.{Endpoint}

-- a part with these requests, blocked so, to which just these messages of rank 0 are pending
pub record Holds (b : Option Unanswered) (rs : List Request) (ms : List Message) (l : Local) : Type 0 where
  pub requests : l.requests ≡ rs
  pub blocked : l.blocked ≡ b
  pub here : l.queue rank_0 0 ≡ ms
  pub elsewhere : (s : Endpoint) (c : ℕ) → (is_same s rank_0 && (c == 0)) ≡ false → l.queue s c ≡ []

-- no step changes this request, where these messages are pending
abbrev pub IsStill : List Message → Request → Type 0
IsStill ms (Posted p) = ms ≡ []
IsStill ms (Matched p m) = ⊥
IsStill ms (Sending d) = ⊥
IsStill ms (Finished o) = Unit {0}
IsStill ms Gone = Unit {0}
IsStill ms (TakenOut g m) = Unit {0}

-- a call that isn't answered is no probe that may find something
abbrev pub IsNoProbe : Option Unanswered → Type 0
IsNoProbe (Some (Looks q)) = ⊥
IsNoProbe (Some (Searches q)) = ⊥
IsNoProbe _ = Unit {0}

pub nothing_stands : (earlier : List Message) (m : Message) (later : List Message) → [] ≡ earlier ++ m ∷ later → ⊥
nothing_stands [] m later q = let h : [] ≡ m ∷ later = q in absurd (cc)
nothing_stands (x ∷ xs) m later q = let h : [] ≡ x ∷ (xs ++ m ∷ later) = q in absurd (cc)

-- where no request can change, no step is taken
pub still_kept : (b : Option Unanswered) (rs : List Request) (ms : List Message) → IsNoProbe b →
    ((k : ℕ) (q : Request) → slice_get rs k ≡ Some q → IsStill ms q) →
    IsKept (Holds b rs ms)
still_kept b rs ms idle still l (Match k p earlier m later) h a n =
    let none : ms ≡ [] = still k (Posted p) (subst (λ (qs : List Request). slice_get qs k ≡ Some (Posted p)) h.requests a.pending) in
    absurd (nothing_stands earlier m later (sym (empty none (is_same m.sender rank_0 && (m.context == 0)) refl) ∙
    a.stands))
  where
    empty : ms ≡ [] → (t : Bool) → (is_same m.sender rank_0 && (m.context == 0)) ≡ t → l.queue m.sender m.context ≡ []
    empty none true e =
        let p = and_parts (is_same m.sender rank_0) (m.context == 0) e in
        ap₂ (λ (x : Endpoint) (c : ℕ). l.queue x c) (same_eq m.sender rank_0 p.0) (eqb-true m.context 0 p.1) ∙
        (h.here ∙ none)
    empty none false e = h.elsewhere m.sender m.context e
still_kept b rs ms idle still l (Finish k p m) h a n =
    absurd (still k (Matched p m) (subst (λ (qs : List Request). slice_get qs k ≡ Some (Matched p m)) h.requests a))
still_kept b rs ms idle still l (FinishSend k d) h a n =
    absurd (still k (Sending d) (subst (λ (qs : List Request). slice_get qs k ≡ Some (Sending d)) h.requests a))
still_kept b rs ms idle still l (Learn r i) h a n = absurd n
still_kept b rs ms idle still l (See q earlier m later) h a n = absurd (subst IsNoProbe (sym h.blocked ∙ a.0) idle)
still_kept b rs ms idle still l (TakeOut q earlier m later) h a n = absurd (subst IsNoProbe (sym h.blocked ∙ a.0) idle)

-- a list of one request has no other one
only_one : (x y : Request) → (x ≡ y → ⊥) → (k : ℕ) → slice_get (x ∷ []) k ≡ Some y → ⊥
only_one x y differs zero h = let e : Some x ≡ Some y = h in differs (cc)
only_one x y differs (suc k) h = let e : None ≡ Some y = h in absurd (cc)

-- what h says of the requests
one_is : (b : Option Unanswered) (q : Request) (ms : List Message) (l : Local) → Holds b (q ∷ []) ms l →
    (k : ℕ) (y : Request) → slice_get l.requests k ≡ Some y →
    slice_get (q ∷ []) k ≡ Some y
one_is b q ms l h k y a = subst (λ (qs : List Request). slice_get qs k ≡ Some y) h.requests a

-- One receive, for which a message of rank 0 is there before all others: it waits, or was matched with it, or is
-- finished
pub data Receiving (p : Receive) (m : Message) (rest : List Message) (b : Option Unanswered) (l : Local) : Type 0 where
  IsPosted : Holds b (Posted p ∷ []) (m ∷ rest) l → Receiving p m rest b l
  HasIt : Holds b (Matched p m ∷ []) rest l → Receiving p m rest b l
  HasEnded : Holds b (Finished (outcome p m) ∷ []) rest l → Receiving p m rest b l

-- a step that a probe takes
abbrev pub IsOfAProbe : Step → Type 0
IsOfAProbe (See q earlier m later) = Unit {0}
IsOfAProbe (TakeOut q earlier m later) = Unit {0}
IsOfAProbe _ = ⊥

pub stays : (p : Receive) (m : Message) (rest : List Message) (b : Option Unanswered) (l : Local) →
    Receiving p m rest b l → l.blocked ≡ b
stays p m rest b l (IsPosted h) = h.blocked
stays p m rest b l (HasIt h) = h.blocked
stays p m rest b l (HasEnded h) = h.blocked

only_posted : (k : ℕ) (p q : Receive) → slice_get (Posted p ∷ []) k ≡ Some (Posted q) → (k ≡ 0) × (q ≡ p)
only_posted zero p q h = let e : Some (Posted p) ≡ Some (Posted q) = h in (refl, cc)
only_posted (suc k) p q h = let e : None ≡ Some (Posted q) = h in absurd (cc)

only_matched : (k : ℕ) (p q : Receive) (m x : Message) → slice_get (Matched p m ∷ []) k ≡ Some (Matched q x) →
    (k ≡ 0) × (q ≡ p) × (x ≡ m)
only_matched zero p q m x h = let e : Some (Matched p m) ≡ Some (Matched q x) = h in (refl, cc, cc)
only_matched (suc k) p q m x h = let e : None ≡ Some (Matched q x) = h in absurd (cc)

-- the first message of the queue is accepted, so it is the one that is matched
pub first_matched : (p : Receive) (m x : Message) (rest earlier later : List Message) →
    m ∷ rest ≡ earlier ++ x ∷ later →
    AllByRecursion (λ y. accepts p y ≡ false) earlier → accepts p m ≡ true → (x ≡ m) × (earlier ++ later ≡ rest)
first_matched p m x rest [] later q none takes = let h : m ∷ rest ≡ x ∷ later = q in (cc, cc)
first_matched p m x rest (y ∷ ys) later q none takes =
    let h : m ∷ rest ≡ y ∷ (ys ++ x ∷ later) = q in
    let f : accepts p y ≡ false = none.0 in
    absurd (cc)

pub receiving_kept_by : (p : Receive) (m : Message) (rest : List Message) (b : Option Unanswered) → m.sender ≡ rank_0 →
    m.context ≡ 0 → accepts p m ≡ true →
    ((l : Local) (x : Step) → IsOfAProbe x → Receiving p m rest b l → Allowed l x → ⊥) → IsKept (Receiving p m rest b)
receiving_kept_by p m rest b from world takes idle l (Match k q earlier x later) (IsPosted h) a n =
    HasIt (record { requests = requests; blocked = h.blocked; here = here; elsewhere = elsewhere })
  where
    only : (k ≡ 0) × (q ≡ p)
    only = only_posted k p q (subst (λ (qs : List Request). slice_get qs k ≡ Some (Posted q)) h.requests a.pending)

    its_queue : (t : Bool) → (is_same x.sender rank_0 && (x.context == 0)) ≡ t → l.queue x.sender x.context ≡ m ∷ rest
    its_queue true e =
        let u = and_parts (is_same x.sender rank_0) (x.context == 0) e in
        ap₂ (λ (y : Endpoint) (c : ℕ). l.queue y c) (same_eq x.sender rank_0 u.0) (eqb-true x.context 0 u.1) ∙ h.here
    its_queue false e = absurd (nothing_stands earlier x later (sym (h.elsewhere x.sender x.context e) ∙ a.stands))

    first : (x ≡ m) × (earlier ++ later ≡ rest)
    first =
        first_matched p m x rest earlier later (sym (its_queue (is_same x.sender rank_0 && (x.context == 0)) refl) ∙
        a.stands)
        (subst (λ (r : Receive). AllByRecursion (λ y. accepts r y ≡ false) earlier) only.1 a.no_earlier_message) takes

    requests : slice_set l.requests k (Matched q x) ≡ Matched p m ∷ []
    requests =
        ap₂ (λ (qs : List Request) (r : Request). slice_set qs k r) h.requests (ap₂ Matched only.1 first.0)
        ∙ ap (λ (j : ℕ). slice_set (Posted p ∷ []) j (Matched p m)) only.0

    sender : x.sender ≡ rank_0
    sender = ap (λ (y : Message). y.sender) first.0 ∙ from

    context : x.context ≡ 0
    context = ap (λ (y : Message). y.context) first.0 ∙ world

    here : with_queue l.queue x.sender x.context (earlier ++ later) rank_0 0 ≡ rest
    here =
        ap₂ (λ (y : Endpoint) (c : ℕ). with_queue l.queue y c (earlier ++ later) rank_0 0) sender context ∙ first.1

    elsewhere : (s : Endpoint) (c : ℕ) → (is_same s rank_0 && (c == 0)) ≡ false →
        with_queue l.queue x.sender x.context (earlier ++ later) s c ≡ []
    elsewhere s c e =
        ap₂ (λ (y : Endpoint) (d : ℕ). with_queue l.queue y d (earlier ++ later) s c) sender context
        ∙ (subst (λ (t : Bool). (if t then earlier ++ later else l.queue s c) ≡ l.queue s c) (sym e) refl ∙
        h.elsewhere s c e)
receiving_kept_by p m rest b from world takes idle l (Match k q earlier x later) (HasIt h) a n =
    absurd (only_one (Matched p m) (Posted q) (λ e. absurd (cc)) k
    (one_is b (Matched p m) rest l h k (Posted q) a.pending))
receiving_kept_by p m rest b from world takes idle l (Match k q earlier x later) (HasEnded h) a n =
    absurd (only_one (Finished (outcome p m)) (Posted q) (λ e. absurd (cc)) k
    (one_is b (Finished (outcome p m)) rest l h k (Posted q) a.pending))
receiving_kept_by p m rest b from world takes idle l (Finish k q x) (IsPosted h) a n =
    absurd (only_one (Posted p) (Matched q x) (λ e. absurd (cc)) k
    (one_is b (Posted p) (m ∷ rest) l h k (Matched q x) a))
receiving_kept_by p m rest b from world takes idle l (Finish k q x) (HasIt h) a n =
    let only = only_matched k p q m x (subst (λ (qs : List Request). slice_get qs k ≡ Some (Matched q x)) h.requests a) in
    HasEnded (record {
      requests =
          ap₂ (λ (qs : List Request) (o : Outcome). slice_set qs k (Finished o)) h.requests (ap₂ outcome only.1 only.2)
          ∙ ap (λ (j : ℕ). slice_set (Matched p m ∷ []) j (Finished (outcome p m))) only.0;
      blocked = h.blocked;
      here = h.here;
      elsewhere = h.elsewhere;
    })
receiving_kept_by p m rest b from world takes idle l (Finish k q x) (HasEnded h) a n =
    absurd (only_one (Finished (outcome p m)) (Matched q x) (λ e. absurd (cc)) k
    (one_is b (Finished (outcome p m)) rest l h k (Matched q x) a))
receiving_kept_by p m rest b from world takes idle l (FinishSend k d) (IsPosted h) a n =
    absurd (only_one (Posted p) (Sending d) (λ e. absurd (cc)) k (one_is b (Posted p) (m ∷ rest) l h k (Sending d) a))
receiving_kept_by p m rest b from world takes idle l (FinishSend k d) (HasIt h) a n =
    absurd (only_one (Matched p m) (Sending d) (λ e. absurd (cc)) k (one_is b (Matched p m) rest l h k (Sending d) a))
receiving_kept_by p m rest b from world takes idle l (FinishSend k d) (HasEnded h) a n =
    absurd (only_one (Finished (outcome p m)) (Sending d) (λ e. absurd (cc)) k
    (one_is b (Finished (outcome p m)) rest l h k (Sending d) a))
receiving_kept_by p m rest b from world takes idle l (Learn r i) h a n = absurd n
receiving_kept_by p m rest b from world takes idle l (See q earlier x later) h a n =
    absurd (idle l (See q earlier x later) tt h a)
receiving_kept_by p m rest b from world takes idle l (TakeOut q earlier x later) h a n =
    absurd (idle l (TakeOut q earlier x later) tt h a)

-- where no probe is under way
pub receiving_kept : (p : Receive) (m : Message) (rest : List Message) (b : Option Unanswered) → m.sender ≡ rank_0 →
    m.context ≡ 0 → accepts p m ≡ true →
    IsNoProbe b → IsKept (Receiving p m rest b)
receiving_kept p m rest b from world takes idle = receiving_kept_by p m rest b from world takes none
  where
    none : (l : Local) (x : Step) → IsOfAProbe x → Receiving p m rest b l → Allowed l x → ⊥
    none l (See q earlier y later) t h a = absurd (subst IsNoProbe (sym (stays p m rest b l h) ∙ a.0) idle)
    none l (TakeOut q earlier y later) t h a = absurd (subst IsNoProbe (sym (stays p m rest b l h) ∙ a.0) idle)
    none l (Match k q earlier y later) t h a = t
    none l (Finish k q y) t h a = t
    none l (FinishSend k d) t h a = t
    none l (Learn r i) t h a = t
