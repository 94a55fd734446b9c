-- Counts of messages that came: of those that wait, and of those that were taken out and aren't received.
use Rattle.std.proofs.Common.{◌≡◌, ℕ, zero, suc, ◌+◌, ◌≤◌, Bool, true, false, ◌&&◌, List, [], ◌∷◌, ◌++◌, length, Option}
use Rattle.std.proofs.Common.{Some, None, cond, if◌then◌else◌, ◌==◌, filter, slice_get, slice_set, refl, ap, ◌∙◌, arith}
use Rattle.std.specs.List.{AllByRecursion}
use Rattle.vocabulary.specs.Endpoints.{is_same}
use Rattle.vocabulary.specs.declared.endpoint.Endpoint.{Endpoint}
use Rattle.perfect_queues.specs.Buffers.{Handed}
use Rattle.perfect_queues.specs.Outcomes.{Replaced, outcome}
use Rattle.perfect_queues.specs.Receives.{Probe, Receive, has_room, such_receive}
use Rattle.perfect_queues.specs.Requests.{all_changed, changed}
use Rattle.vocabulary.specs.declared.envelope.Source.{Source}
use Rattle.vocabulary.specs.declared.envelope.Source.TheVariants.{Any, Null, Rank}
use Rattle.proof_pure_network.specs.Core.{Core}
pub use Rattle.proof_pure_network.specs.Claims.{all_of, claims, count, is_own, is_own_body, one, taken_is}
use Rattle.proof_pure_network.specs.WaitingMessages.{Body, Held, Own, Part, Whole, count_of, full, is_part}
use Rattle.proof_pure_network.specs.Jobs.{Closed, Collecting, Job, Offering, Over, Probed, Unmatched, Waiting, closed}
use Rattle.proof_pure_network.specs.Jobs.{dropped, matched_job, matched_part, oldest_posted, with_more}
use Rattle.proof_pure_network.specs.Matches.{arrived_at, found, looked_at, looks, matched_own, own_over, posted_at}
use Rattle.proof_pure_network.specs.Matches.{receive_for, searched_at, searches, taken_at}
use Rattle.proof_pure_network.proofs.Oldest.{First, Oldest, some_found, some_posted}

pub count_append : {A : Type 0} (t : A → Bool) (xs ys : List A) → count t (xs ++ ys) ≡ count t xs + count t ys
count_append t [] ys = omega arith
count_append t (x ∷ xs) ys = omega (arith, count_append t xs ys)

pub count_filter : {A : Type 0} (t u : A → Bool) (xs : List A) → count t (filter u xs) ≤ count t xs
count_filter t u [] = omega arith
count_filter t u (x ∷ xs) = go (u x) (count_filter t u xs)
  where
    go : (b : Bool) → count t (filter u xs) ≤ count t xs →
        count t (cond b (x ∷ filter u xs) (filter u xs)) ≤ one (t x) + count t xs
    go true h = omega (arith, h)
    go false h = omega (arith, h)

pub count_set : {A : Type 0} (t : A → Bool) (xs : List A) (i : ℕ) (x y : A) → slice_get xs i ≡ Some x →
    count t (slice_set xs i y) + one (t x) ≡ count t xs + one (t y)
count_set t [] i x y h = absurd (grind arith)
count_set t (z ∷ xs) zero x y h =
    let e : z ≡ x = grind arith in let f : one (t z) ≡ one (t x) = ap (λ u. one (t u)) e in omega (arith, f)
count_set t (z ∷ xs) (suc i) x y h = omega (arith, count_set t xs i x y h)

pub count_changed : {A : Type 0} (t : A → Bool) (g : A → A) → ((y : A) → one (t (g y)) ≡ one (t y)) →
    (xs : List A) (k : ℕ) → count t (changed g xs k) ≡ count t xs
count_changed t g same [] k = refl
count_changed t g same (x ∷ xs) zero = omega (arith, same x)
count_changed t g same (x ∷ xs) (suc k) = omega (arith, count_changed t g same xs k)

pub count_all_changed : {A : Type 0} (t : A → Bool) (g : A → A) → ((y : A) → one (t (g y)) ≡ one (t y)) →
    (ks : List ℕ) (xs : List A) → count t (all_changed g xs ks) ≡ count t xs
count_all_changed t g same [] xs = refl
count_all_changed t g same (k ∷ ks) xs = count_all_changed t g same ks (changed g xs k) ∙ count_changed t g same xs k

-- whether it is the envelope of transfer k of endpoint s
abbrev pub is_part_from : Endpoint → ℕ → Held → Bool
is_part_from s k h = is_same h.sender s && is_part k h.body

abbrev pub parts : Endpoint → ℕ → Core → ℕ
parts s k core = all_of (is_part_from s k) core

-- a message that names the endpoint's own request is of the endpoint
abbrev pub IsMineBody : Endpoint → Endpoint → Body → Type 0
IsMineBody e s (Whole values) = Unit {0}
IsMineBody e s (Part k n) = Unit {0}
IsMineBody e s (Own k values) = s ≡ e

abbrev pub IsMine : Endpoint → Held → Type 0
IsMine e h = IsMineBody e h.sender h.body

-- What holds of the messages that an endpoint sent itself by synchronous sends: there is one for each such send that
-- waits, and none before it is sent; and no message of its own is announced
pub record OwnCore (e : Endpoint) (core : Core) : Type 0 where
  pub mine : AllByRecursion (IsMine e) core.held
  pub taken : (i : ℕ) (g : Option (List ℕ)) (h : Held) → slice_get core.jobs i ≡ Some (Probed g (Some h)) → IsMine e h
  pub once : (k : ℕ) → claims k core ≤ 1
  pub fresh : (k : ℕ) → length core.jobs ≤ k → claims k core ≡ 0
  pub waits : (k : ℕ) (d : Endpoint) → slice_get core.jobs k ≡ Some (Unmatched d) → claims k core ≡ 1
  pub apart : (k : ℕ) → parts e k core ≡ 0

pub closed_taken : (t : Held → Bool) (y : Job) → one (taken_is t (closed y)) ≡ one (taken_is t y)
closed_taken t (Waiting p) = refl
closed_taken t (Collecting p h got) = refl
closed_taken t (Offering d basic values) = refl
closed_taken t (Over o) = refl
closed_taken t Closed = refl
closed_taken t (Unmatched d) = refl
closed_taken t (Probed g o) = refl

pub dropped_taken : (t : Held → Bool) (y : Job) → one (taken_is t (dropped y)) ≡ one (taken_is t y)
dropped_taken t (Waiting p) = refl
dropped_taken t (Collecting p h got) = refl
dropped_taken t (Offering d basic values) = refl
dropped_taken t (Over o) = refl
dropped_taken t Closed = refl
dropped_taken t (Unmatched d) = refl
dropped_taken t (Probed g o) = refl

own_taken : (t : Held → Bool) (y : Job) → one (taken_is t (matched_own y)) ≡ one (taken_is t y)
own_taken t (Waiting p) = refl
own_taken t (Collecting p h got) = refl
own_taken t (Offering d basic values) = refl
own_taken t (Over o) = refl
own_taken t Closed = refl
own_taken t (Unmatched d) = refl
own_taken t (Probed g o) = refl

pub own_count : (t : Held → Bool) (b : Body) (js : List Job) → count (taken_is t) (own_over b js) ≡
    count (taken_is t) js
own_count t (Whole values) js = refl
own_count t (Part k n) js = refl
own_count t (Own k values) js = count_changed (taken_is t) matched_own (own_taken t) js k

pub more_taken : (t : Held → Bool) (p : Receive) (h : Held) (got : List ℕ) → one (taken_is t (with_more p h got)) ≡ 0
more_taken t p h got = go (length got == count_of h.body)
  where
    go : (b : Bool) → one (taken_is t (if b then Over (outcome p (full h got)) else Collecting p h got)) ≡ 0
    go true = refl
    go false = refl

pub matched_taken : (t : Held → Bool) (p : Receive) (h : Held) (b : Body) → one (taken_is t (matched_job p h b)) ≡ 0
matched_taken t p h (Whole values) = refl
matched_taken t p h (Own k values) = refl
matched_taken t p h (Part k n) = go (has_room p h.basic n)
  where
    go : (b : Bool) → one (taken_is t (matched_part p h n b)) ≡ 0
    go true = more_taken t p h []
    go false = refl

pub arrived_none : (t : Held → Bool) (core : Core) (h : Held) → all_of t (arrived_at core h None).core ≡ all_of t core +
    one (t h)
arrived_none t core h = omega (arith, count_append t core.held (h ∷ []))

pub arrived_some : (t : Held → Bool) (core : Core) (h : Held) (u : ℕ × Receive) → oldest_posted h core.jobs ≡ Some u →
    all_of t (arrived_at core h (Some u)).core ≡ all_of t core
arrived_some t core h u e =
    let o : Oldest h core.jobs u.0 u.1 = some_posted h core.jobs u.0 u.1 e in
    omega (
      arith,
      own_count t h.body (slice_set core.jobs u.0 (matched_job u.1 h h.body)),
      count_set (taken_is t) core.jobs u.0 (Waiting u.1) (matched_job u.1 h h.body) o.stands,
      matched_taken t u.1 h h.body,
    )

pub posted_none : (t : Held → Bool) (core : Core) (p : Receive) → all_of t (posted_at core p None).core ≡ all_of t core
posted_none t core p = omega (arith, count_append (taken_is t) core.jobs (Waiting p ∷ []))

-- those that wait, without the one that was found
found_count : (t : Held → Bool) (core : Core) (p : Receive) (u : List Held × Held × List Held) →
    found p core.held ≡ Some u → count t (u.0 ++ u.2) + one (t u.1) ≡ count t core.held
found_count t core p u e =
    let f : First p core.held u = some_found p core.held u e in
    let c : count t core.held ≡ count t (u.0 ++ u.1 ∷ u.2) = ap (count t) f.parts in
    omega (arith, c, count_append t u.0 (u.1 ∷ u.2), count_append t u.0 u.2)

pub posted_some : (t : Held → Bool) (core : Core) (p : Receive) (u : List Held × Held × List Held) →
    found p core.held ≡ Some u → all_of t (posted_at core p (Some u)).core + one (t u.1) ≡ all_of t core
posted_some t core p u e =
    omega (
      arith,
      found_count t core p u e,
      own_count t u.1.body (core.jobs ++ matched_job p u.1 u.1.body ∷ []),
      count_append (taken_is t) core.jobs (matched_job p u.1 u.1.body ∷ []),
      matched_taken t p u.1 u.1.body,
    )

pub looked_count : (t : Held → Bool) (core : Core) (q : Probe) (src : Source) → all_of t (looks core q src) ≡
    all_of t core
looked_count t core q Null = refl
looked_count t core q Any = go (found (such_receive q) core.held)
  where
    go : (o : Option (List Held × Held × List Held)) → all_of t (looked_at core q o) ≡ all_of t core
    go None = refl
    go (Some u) = refl
looked_count t core q (Rank r) = go (found (such_receive q) core.held)
  where
    go : (o : Option (List Held × Held × List Held)) → all_of t (looked_at core q o) ≡ all_of t core
    go None = refl
    go (Some u) = refl

searched_count : (t : Held → Bool) (core : Core) (q : Probe) →
    all_of t (searched_at core q (found (such_receive q) core.held)) ≡ all_of t core
searched_count t core q = go (found (such_receive q) core.held) refl
  where
    go : (o : Option (List Held × Held × List Held)) → found (such_receive q) core.held ≡ o →
        all_of t (searched_at core q o) ≡ all_of t core
    go None e = refl
    go (Some u) e =
        omega (
          arith,
          found_count t core (such_receive q) u e,
          count_append (taken_is t) core.jobs (Probed q.group (Some u.1) ∷ []),
        )

pub searches_count : (t : Held → Bool) (core : Core) (q : Probe) (src : Source) → all_of t (searches core q src) ≡
    all_of t core
searches_count t core q Null = refl
searches_count t core q Any = searched_count t core q
searches_count t core q (Rank r) = searched_count t core q

pub taken_some : (t : Held → Bool) (core : Core) (k : ℕ) (into : Handed) (g : Option (List ℕ)) (h : Held) →
    slice_get core.jobs k ≡ Some (Probed g (Some h)) →
    all_of t (taken_at core k into (Some (Probed g (Some h)))).core + one (t h) ≡ all_of t core
taken_some t core k into g h e =
    omega (
      arith,
      own_count t h.body (slice_set core.jobs k (matched_job (receive_for g h into) h h.body)),
      count_set (taken_is t) core.jobs k (Probed g (Some h)) (matched_job (receive_for g h into) h h.body) e,
      matched_taken t (receive_for g h into) h h.body,
    )

pub taken_none : (t : Held → Bool) (core : Core) (k : ℕ) (into : Handed) (g : Option (List ℕ)) →
    slice_get core.jobs k ≡ Some (Probed g None) →
    all_of t (taken_at core k into (Some (Probed g None))).core ≡ all_of t core
taken_none t core k into g e =
    omega (arith, count_set (taken_is t) core.jobs k (Probed g None) (Over (Replaced (Some into.buffer))) e)
