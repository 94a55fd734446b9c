-- Requests whose outcomes are answered: their rows are closed, and their slots are free.
use Rattle.std.proofs.Common.{◌≡◌, ◌≢◌, ℕ, zero, suc, List, [], ◌∷◌, ◌++◌, length, Option, Some, None, slice_get}
use Rattle.std.proofs.Common.{slice_set, option_map, option_and_then, refl, sym, ap, ◌∙◌, subst, ◌⊎◌, inl, inr}
use Rattle.std.specs.List.{AllByRecursion}
use Rattle.std.proofs.lemmas.Bool.{cases_eq}
use Rattle.std.proofs.lemmas.Option.{none-some, same_Some}
use Rattle.perfect_queues.specs.Outcomes as ends
use Rattle.perfect_queues.specs.Requests.{all_changed, changed}
use Rattle.match_queues.specs.declared.envelope.PostedReceive as posted
use Rattle.proof_pure_network.specs.Jobs.{Job, Waiting, Collecting, Offering, Over, Closed, closed, Probed, Unmatched}
use Rattle.requests.specs.Completions as rank
use Rattle.requests.specs.Lists.{named}
use Rattle.requests.specs.Table.{progress_at, slot_at}
use Rattle.requests.specs.declared.answer.Answer.{Answer}
use Rattle.requests.specs.declared.answer.Answer.TheVariants as answers
use Rattle.requests.specs.declared.awaited_requests.Awaited.{Awaited}
use Rattle.requests.specs.declared.awaited_requests.Awaited.TheVariants as awaiteds
use Rattle.requests.specs.declared.outcome.Outcome.{Outcome}
use Rattle.requests.specs.declared.outcome.Outcome.TheVariants as outcomes
use Rattle.requests.specs.declared.table.TableEntry.{TableEntry}
use Rattle.requests.specs.declared.table.RequestProgress.{RequestProgress}
use Rattle.requests.specs.declared.table.RequestProgress.TheVariants.{Receiving, Finished}
use Rattle.requests.specs.declared.table.RequestProgress.TheVariants as progresses
use Rattle.requests.specs.declared.table.Request.{Request}
use Rattle.proof_engine_view.specs.Rows.{Holds, IsTable, Row, jobs_of, posted_job, posted_rows}
use Rattle.observation.specs.CoreCalls.{outcome_seen}
use Rattle.proof_engine_steps.proofs.WaitAnswers.{serials_of}
use Rattle.proof_engine_steps.proofs.TableRows.{finished_row}
use Rattle.proof_engine_steps.proofs.NamedRequests.{all_follow}
use Rattle.proof_engine_steps.proofs.Tables.{changed_table, held_at, says_none, set_is_set}

-- ---- the rows

-- a row that is over is closed
abbrev pub closed_row : Row → Row
closed_row r = record { key = r.key; job = closed r.job }

-- the rows once these requests are used up
abbrev pub rows_without : List Row → List Request → List Row
rows_without rows [] = rows
rows_without rows (q ∷ qs) = rows_without (changed closed_row rows q.serial) qs

-- the jobs of rows of which one is closed
closed_jobs : (rows : List Row) (k : ℕ) → jobs_of (changed closed_row rows k) ≡ changed closed (jobs_of rows) k
closed_jobs [] k = refl
closed_jobs (r ∷ rs) zero = refl
closed_jobs (r ∷ rs) (suc k) = ap (λ (js : List Job). r.job ∷ js) (closed_jobs rs k)

-- the jobs of the rows that are left
pub jobs_without : (qs : List Request) (rows : List Row) → jobs_of (rows_without rows qs) ≡
    all_changed closed (jobs_of rows) (serials_of qs)
jobs_without [] rows = refl
jobs_without (q ∷ qs) rows = jobs_without qs (changed closed_row rows q.serial) ∙
    ap (λ (js : List Job). all_changed closed js (serials_of qs)) (closed_jobs rows q.serial)

-- as many rows are left
closed_length : (rows : List Row) (k : ℕ) → length (changed closed_row rows k) ≡ length rows
closed_length [] k = refl
closed_length (r ∷ rs) zero = refl
closed_length (r ∷ rs) (suc k) = ap suc (closed_length rs k)

pub length_without : (qs : List Request) (rows : List Row) → length (rows_without rows qs) ≡ length rows
length_without [] rows = refl
length_without (q ∷ qs) rows = length_without qs (changed closed_row rows q.serial) ∙ closed_length rows q.serial

-- a request that is closed posted nothing
closed_posts : (key : ℕ) (j : Job) → posted_job key (closed j) ≡ posted_job key j
closed_posts key (Waiting p) = refl
closed_posts key (Collecting p h got) = refl
closed_posts key (Offering d basic values) = refl
closed_posts key (Over x) = refl
closed_posts key Closed = refl
closed_posts key (Unmatched d) = refl
closed_posts key (Probed g h) = refl

closed_posted : (rows : List Row) (k : ℕ) → posted_rows (changed closed_row rows k) ≡ posted_rows rows
closed_posted [] k = refl
closed_posted (r ∷ rs) zero = ap (λ (ps : List posted.PostedReceive). ps ++ posted_rows rs) (closed_posts r.key r.job)
closed_posted (r ∷ rs) (suc k) =
    ap (λ (ps : List posted.PostedReceive). posted_job r.key r.job ++ ps) (closed_posted rs k)

-- what is posted stays
pub posted_without : (qs : List Request) (rows : List Row) → posted_rows (rows_without rows qs) ≡ posted_rows rows
posted_without [] rows = refl
posted_without (q ∷ qs) rows = posted_without qs (changed closed_row rows q.serial) ∙ closed_posted rows q.serial

-- ---- one row

-- a row that is over, once it is closed
closed_over : (rows : List Row) (k key : ℕ) (x : ends.Outcome) →
    slice_get rows k ≡ Some (record { key = key; job = Over x }) →
    changed closed_row rows k ≡ slice_set rows k (record { key = key; job = Closed })
closed_over [] k key x h = absurd (none-some (record { key = key; job = Over x }) h)
closed_over (r ∷ rs) zero key x h =
    ap (λ (y : Row). closed_row y ∷ rs) (same_Some r (record { key = key; job = Over x }) h)
closed_over (r ∷ rs) (suc k) key x h = ap (λ (ys : List Row). r ∷ ys) (closed_over rs k key x h)

-- a row that is closed stays
closed_still : (rows : List Row) (k key : ℕ) → slice_get rows k ≡ Some (record { key = key; job = Closed }) →
    changed closed_row rows k ≡ rows
closed_still [] k key h = refl
closed_still (r ∷ rs) zero key h =
    let e : r ≡ record { key = key; job = Closed } = same_Some r (record { key = key; job = Closed }) h in
    ap (λ (y : Row). closed_row y ∷ rs) e ∙ ap (λ (y : Row). y ∷ rs) (sym e)
closed_still (r ∷ rs) (suc k) key h = ap (λ (ys : List Row). r ∷ ys) (closed_still rs k key h)

-- the row at the place that is closed
closed_here : (rows : List Row) (k : ℕ) (r : Row) → slice_get rows k ≡ Some r →
    slice_get (changed closed_row rows k) k ≡ Some (closed_row r)
closed_here [] k r h = absurd (none-some r h)
closed_here (y ∷ rs) zero r h = ap (λ (z : Row). Some (closed_row z)) (same_Some y r h)
closed_here (y ∷ rs) (suc k) r h = closed_here rs k r h

-- and at another one
closed_other : (rows : List Row) (k j : ℕ) → j ≢ k → slice_get (changed closed_row rows k) j ≡ slice_get rows j
closed_other [] k j n = refl
closed_other (r ∷ rs) zero zero n = absurd (n refl)
closed_other (r ∷ rs) zero (suc j) n = refl
closed_other (r ∷ rs) (suc k) zero n = refl
closed_other (r ∷ rs) (suc k) (suc j) n = closed_other rs k j (λ e. n (ap suc e))

-- ---- one slot

-- nothing stands in a slot that is emptied
emptied_here : (table : List (Option TableEntry)) (key : ℕ) → slot_at (slice_set table key None) key ≡ None
emptied_here [] key = refl
emptied_here (s ∷ ss) zero = refl
emptied_here (s ∷ ss) (suc key) = emptied_here ss key

-- where nothing stood, nothing stands
emptied_none : (table : List (Option TableEntry)) (key other : ℕ) → slot_at table other ≡ None →
    slot_at (slice_set table key None) other ≡ None
emptied_none [] key other h = h
emptied_none (s ∷ ss) zero zero h = refl
emptied_none (s ∷ ss) zero (suc other) h = h
emptied_none (s ∷ ss) (suc key) zero h = h
emptied_none (s ∷ ss) (suc key) (suc other) h = emptied_none ss key other h

-- an empty slot stays as it is
emptied_still : (table : List (Option TableEntry)) (key : ℕ) → slot_at table key ≡ None →
    slice_set table key None ≡ table
emptied_still [] key h = refl
emptied_still (s ∷ ss) zero h = ap (λ (x : Option TableEntry). x ∷ ss) (sym h)
emptied_still (s ∷ ss) (suc key) h = ap (λ (xs : List (Option TableEntry)). s ∷ xs) (emptied_still ss key h)

-- ---- requests that are used up

-- the request is over, or was used up
abbrev pub IsSpent : List (Option TableEntry) → List Row → Request → Type 0
IsSpent table rows q =
    ((x : ends.Outcome) × (slice_get rows q.serial ≡ Some (record { key = q.key; job = Over x }))) ⊎
    ((slice_get rows q.serial ≡ Some (record { key = q.key; job = Closed })) × (slot_at table q.key ≡ None))

-- its row is taken out of the table
spent_table : (table : List (Option TableEntry)) (rows : List Row) (q : Request) → IsTable table rows →
    IsSpent table rows q → IsTable (slice_set table q.key None) (changed closed_row rows q.serial)
spent_table table rows q t (inl s) =
    let m : Holds (slot_at table q.key) q.serial (Over s.0) = held_at table rows q.serial q.key (Over s.0) t s.1 (λ e. cc) in
    subst (λ (ys : List Row). IsTable (slice_set table q.key None) ys) (sym (closed_over rows q.serial q.key s.0 s.1))
    (changed_table table (slice_set table q.key None) rows q.serial q.key (Over s.0) Closed None t s.1 (λ e. cc)
    (set_is_set table q.key m.entry None m.there) (says_none q.serial))
spent_table table rows q t (inr s) =
    subst (λ (ys : List Row). IsTable (slice_set table q.key None) ys) (sym (closed_still rows q.serial q.key s.0))
    (subst (λ (ss : List (Option TableEntry)). IsTable ss rows) (sym (emptied_still table q.key s.1)) t)

-- its row, whether it is over or was used up
spent_row : (table : List (Option TableEntry)) (rows : List Row) (q : Request) → IsSpent table rows q →
    (j : Job) × (slice_get rows q.serial ≡ Some (record { key = q.key; job = j }))
spent_row table rows q (inl s) = (Over s.0, s.1)
spent_row table rows q (inr s) = (Closed, s.0)

-- two that are one request have one key
spent_key : (table : List (Option TableEntry)) (rows : List Row) (q p : Request) → IsSpent table rows q →
    IsSpent table rows p → p.serial ≡ q.serial → p.key ≡ q.key
spent_key table rows q p hq hp e =
    let a : (j : Job) × (slice_get rows q.serial ≡ Some (record { key = q.key; job = j })) = spent_row table rows q hq in
    let b : (j : Job) × (slice_get rows p.serial ≡ Some (record { key = p.key; job = j })) = spent_row table rows p hp in
    ap (λ (r : Row). r.key)
    (same_Some (record { key = p.key; job = b.0 }) (record { key = q.key; job = a.0 }) (sym b.1 ∙
    (ap (slice_get rows) e ∙ a.1)))

-- another request is over or used up as it was, and the same one is used up
spent_still : (table : List (Option TableEntry)) (rows : List Row) (q p : Request) → IsSpent table rows q →
    IsSpent table rows p → IsSpent (slice_set table q.key None) (changed closed_row rows q.serial) p
spent_still table rows q p hq hp = go (cases_eq p.serial q.serial) hp
  where
    left : List Row
    left = changed closed_row rows q.serial

    same : (j : Job) → p.serial ≡ q.serial → slice_get rows p.serial ≡ Some (record { key = p.key; job = j }) →
        slice_get left p.serial ≡ Some (record { key = p.key; job = closed j })
    same j e h =
        ap (slice_get left) e ∙
        closed_here rows q.serial (record { key = p.key; job = j }) (ap (slice_get rows) (sym e) ∙ h)

    go : (p.serial ≡ q.serial) ⊎ (p.serial ≢ q.serial) → IsSpent table rows p →
        IsSpent (slice_set table q.key None) left p
    go (inl e) (inl s) =
        inr (
          same (Over s.0) e s.1,
          subst (λ (key : ℕ). slot_at (slice_set table q.key None) key ≡ None)
              (sym (spent_key table rows q p hq hp e)) (emptied_here table q.key),
        )
    go (inl e) (inr s) = inr (same Closed e s.0, emptied_none table q.key p.key s.1)
    go (inr n) (inl s) = inl (s.0, closed_other rows q.serial p.serial n ∙ s.1)
    go (inr n) (inr s) = inr (closed_other rows q.serial p.serial n ∙ s.0, emptied_none table q.key p.key s.1)

-- the table once they all are used up
pub table_without : (qs : List Request) (table : List (Option TableEntry)) (rows : List Row) → IsTable table rows →
    AllByRecursion (IsSpent table rows) qs → IsTable (rank.without table qs) (rows_without rows qs)
table_without [] table rows t h = t
table_without (q ∷ qs) table rows t h =
    table_without qs (slice_set table q.key None) (changed closed_row rows q.serial) (spent_table table rows q t h.0)
    (all_follow (IsSpent table rows) (IsSpent (slice_set table q.key None) (changed closed_row rows q.serial))
    (λ p s. spent_still table rows q p h.0 s) qs h.1)

-- ---- what an answer uses up is finished

-- the request is finished
abbrev IsFinishedAt : (Request → Option Outcome) → Request → Type 0
IsFinishedAt f q = (o : Outcome) × (f q ≡ Some o)

-- all that an answer uses up is
abbrev Uses : (Request → Option Outcome) → Option (Answer × List Request) → Type 0
Uses f None = Unit {0}
Uses f (Some t) = AllByRecursion (IsFinishedAt f) t.1

-- what was found at the lowest index is
abbrev FindsFinished : (Request → Option Outcome) → Option (ℕ × Request × Outcome) → Type 0
FindsFinished f None = Unit {0}
FindsFinished f (Some t) = IsFinishedAt f t.1

-- where there are outcomes of all, all are
abbrev AreFinished : (Request → Option Outcome) → List Request → Option (List Outcome) → Type 0
AreFinished f qs None = Unit {0}
AreFinished f qs (Some os) = AllByRecursion (IsFinishedAt f) qs

one_uses : (f : Request → Option Outcome) (q : Request) (o : Option Outcome) → f q ≡ o →
    Uses f (option_map (λ x. (answers.One x, q ∷ [])) o)
one_uses f q (Some o) e = ((o, e), tt)
one_uses f q None e = tt

finds_finished : (f : Request → Option Outcome) (rs : List (Option Request)) (i : ℕ) →
    FindsFinished f (rank.lowest_finished f i rs)
finds_finished f [] i = tt
finds_finished f (None ∷ rs) i = finds_finished f rs (suc i)
finds_finished f (Some q ∷ rs) i = this (f q) refl (rank.lowest_finished f (suc i) rs) (finds_finished f rs (suc i))
  where
    this : (o : Option Outcome) → f q ≡ o → (later : Option (ℕ × Request × Outcome)) → FindsFinished f later →
        FindsFinished f (rank.this_or_later o i q later)
    this (Some o) e later h = (o, e)
    this None e later h = h

any_uses : (f : Request → Option Outcome) (qs : List Request) (low : Option (ℕ × Request × Outcome)) →
    FindsFinished f low → Uses f (rank.completion_of_any qs low)
any_uses f [] low h = tt
any_uses f (q ∷ qs) (Some t) h = (h, tt)
any_uses f (q ∷ qs) None h = tt

front_finished : (f : Request → Option Outcome) (qs : List Request) (o : Outcome) (os : Option (List Outcome)) →
    AreFinished f qs os → AreFinished f qs (option_map (λ ys. o ∷ ys) os)
front_finished f qs o (Some os) h = h
front_finished f qs o None h = h

next_finished : (f : Request → Option Outcome) (q : Request) (qs : List Request) (o : Outcome)
    (os : Option (List Outcome)) → f q ≡ Some o → AreFinished f qs os →
    AreFinished f (q ∷ qs) (option_map (λ ys. o ∷ ys) os)
next_finished f q qs o (Some os) e h = ((o, e), h)
next_finished f q qs o None e h = tt

are_finished : (f : Request → Option Outcome) (rs : List (Option Request)) →
    AreFinished f (named rs) (rank.all_outcomes f rs)
are_finished f [] = tt
are_finished f (None ∷ rs) = front_finished f (named rs) outcomes.Empty (rank.all_outcomes f rs) (are_finished f rs)
are_finished f (Some q ∷ rs) = this (f q) refl (are_finished f rs)
  where
    this : (o : Option Outcome) → f q ≡ o → AreFinished f (named rs) (rank.all_outcomes f rs) →
        AreFinished f (q ∷ named rs) (option_and_then (λ x. option_map (λ ys. x ∷ ys) (rank.all_outcomes f rs)) o)
    this (Some o) e rest = next_finished f q (named rs) o (rank.all_outcomes f rs) e rest
    this None e rest = tt

every_uses : (f : Request → Option Outcome) (qs : List Request) (os : Option (List Outcome)) → AreFinished f qs os →
    Uses f (option_map (λ xs. (answers.All xs, qs)) os)
every_uses f qs (Some os) h = h
every_uses f qs None h = tt

-- each answer uses up what is finished
completion_uses : (table : List (Option TableEntry)) (a : Awaited) →
    Uses (rank.outcome_at table) (rank.completion table a)
completion_uses table (awaiteds.One None) = tt
completion_uses table (awaiteds.One (Some q)) = one_uses (rank.outcome_at table) q (rank.outcome_at table q) refl
completion_uses table (awaiteds.AnyOf rs) =
    any_uses (rank.outcome_at table) (named rs) (rank.lowest_finished (rank.outcome_at table) 0 rs)
    (finds_finished (rank.outcome_at table) rs 0)
completion_uses table (awaiteds.AllOf rs) =
    every_uses (rank.outcome_at table) (named rs) (rank.all_outcomes (rank.outcome_at table) rs)
    (are_finished (rank.outcome_at table) rs)

-- a request that is finished is over
finished_spent : (table : List (Option TableEntry)) (rows : List Row) → IsTable table rows →
    (q : Request) → IsFinishedAt (rank.outcome_at table) q → IsSpent table rows q
finished_spent table rows t q h = go (progress_at table q.key q.serial) refl h.1
  where
    go : (g : Option RequestProgress) → progress_at table q.key q.serial ≡ g → rank.finished_with g ≡ Some h.0 →
        IsSpent table rows q
    go None e f = absurd (none-some h.0 f)
    go (Some (Receiving r)) e f = absurd (none-some h.0 f)
    go (Some (progresses.Collecting w)) e f = absurd (none-some h.0 f)
    go (Some progresses.Offering) e f = absurd (none-some h.0 f)
    go (Some (progresses.TakenOut taken)) e f = absurd (none-some h.0 f)
    go (Some (Finished o)) e f = inl (outcome_seen o, finished_row table rows q o t e)

-- what an answer uses up is over
pub used_spent : (table : List (Option TableEntry)) (rows : List Row) (a : Awaited) (answer : Answer)
    (used : List Request) → IsTable table rows → rank.completion table a ≡ Some (answer, used) →
    AllByRecursion (IsSpent table rows) used
used_spent table rows a answer used t h =
    all_follow (IsFinishedAt (rank.outcome_at table)) (IsSpent table rows) (finished_spent table rows t) used
    (subst (Uses (rank.outcome_at table)) h (completion_uses table a))
