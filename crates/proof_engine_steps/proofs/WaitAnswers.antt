-- What a rank answers to what its call waits for is what its core in the network answers.
use Rattle.std.proofs.Common.{◌≡◌, ℕ, suc, List, [], ◌∷◌, map, Option, Some, None, slice_get, option_map}
use Rattle.std.proofs.Common.{option_and_then, refl, sym, ap, ◌∙◌, subst}
use Rattle.std.specs.List.{AllByRecursion}
use Rattle.perfect_queues.specs.Completions as machine
use Rattle.perfect_queues.specs.Outcomes as ends
use Rattle.proof_pure_network.specs.Jobs.{Job, Waiting, Collecting, Offering, Over, Closed, job_outcome, over_at}
use Rattle.proof_pure_network.specs.Jobs.{Probed, Unmatched}
use Rattle.requests.specs.Completions as rank
use Rattle.requests.specs.Lists.{named}
use Rattle.requests.specs.Table.{progress_at, slot_at}
use Rattle.requests.specs.declared.answer.Answer.{Answer}
use Rattle.requests.specs.declared.answer.Answer.TheVariants as answers
use Rattle.requests.specs.declared.awaited_requests.Awaited.{Awaited}
use Rattle.requests.specs.declared.awaited_requests.Awaited.TheVariants as awaiteds
use Rattle.requests.specs.declared.outcome.Outcome.{Outcome}
use Rattle.requests.specs.declared.outcome.Outcome.TheVariants as outcomes
use Rattle.requests.specs.declared.table.Posted.{Posted}
use Rattle.requests.specs.declared.table.TableEntry.{TableEntry}
use Rattle.requests.specs.declared.table.RequestProgress.{RequestProgress}
use Rattle.requests.specs.declared.table.Matched.{Matched}
use Rattle.requests.specs.declared.table.TakenOut as taken
use Rattle.requests.specs.declared.table.RequestProgress.TheVariants.{Receiving, Finished}
use Rattle.requests.specs.declared.table.RequestProgress.TheVariants as progresses
use Rattle.requests.specs.declared.table.Request.{Request}
use Rattle.proof_engine_view.specs.Rows.{IsMatched, IsTable, IsTaken, Row, Stands, jobs_of}
use Rattle.observation.specs.CoreCalls.{answer_seen, awaited_seen, outcome_seen, own_serial, requests_by}
use Rattle.proof_engine_view.specs.CoreViews.{IsNamed}
use Rattle.proof_engine_steps.proofs.RowLemmas.{job_at, over_row}
use Rattle.proof_engine_steps.proofs.BlockedAnswers.{
  progress_collecting,
  progress_offering,
  progress_over,
  progress_probed,
}
use Rattle.proof_engine_steps.proofs.BlockedAnswers.{progress_unmatched, progress_waiting}

-- ---- what the machine sees

-- the serials of requests
abbrev pub serials_of : List Request → List ℕ
serials_of qs = map own_serial qs

-- an answer, with the requests that it uses up
abbrev pub completion_seen : Option (Answer × List Request) → Option (machine.Answer × List ℕ)
completion_seen o = option_map (λ (t : Answer × List Request). (answer_seen t.0, serials_of t.1)) o

-- what was found at the lowest index
abbrev lowest_seen : Option (ℕ × Request × Outcome) → Option (ℕ × ℕ × ends.Outcome)
lowest_seen o = option_map (λ (t : ℕ × Request × Outcome). (t.0, own_serial t.1, outcome_seen t.2)) o

-- both functions say the same of a request
abbrev pub SayTheSame : (Request → Option Outcome) → (ℕ → Option ends.Outcome) → Request → Type 0
SayTheSame f g q = g q.serial ≡ option_map outcome_seen (f q)

-- ---- lists

-- the serials of what is named are those of the requests
serials_same : (rs : List (Option Request)) → machine.serials (requests_by own_serial rs) ≡ serials_of (named rs)
serials_same [] = refl
serials_same (None ∷ rs) = serials_same rs
serials_same (Some q ∷ rs) = ap (λ (ks : List ℕ). q.serial ∷ ks) (serials_same rs)

-- this request, or what was found later
this_same : (o : Option Outcome) (i : ℕ) (q : Request) (later : Option (ℕ × Request × Outcome))
    (found : Option (ℕ × ℕ × ends.Outcome)) → found ≡ lowest_seen later →
    machine.this_or_later (option_map outcome_seen o) i q.serial found ≡ lowest_seen (rank.this_or_later o i q later)
this_same (Some o) i q later found h = refl
this_same None i q later found h = h

-- the lowest index that is finished
lowest_same : (f : Request → Option Outcome) (g : ℕ → Option ends.Outcome) (rs : List (Option Request)) (i : ℕ) →
    AllByRecursion (SayTheSame f g) (named rs) →
    machine.lowest_finished g i (requests_by own_serial rs) ≡ lowest_seen (rank.lowest_finished f i rs)
lowest_same f g [] i h = refl
lowest_same f g (None ∷ rs) i h = lowest_same f g rs (suc i) h
lowest_same f g (Some q ∷ rs) i h =
    ap (λ (o : Option ends.Outcome). machine.this_or_later o i q.serial
    (machine.lowest_finished g (suc i) (requests_by own_serial rs))) h.0 ∙
    this_same (f q) i q (rank.lowest_finished f (suc i) rs)
    (machine.lowest_finished g (suc i) (requests_by own_serial rs)) (lowest_same f g rs (suc i) h.1)

-- one more outcome in front, where there are outcomes
front_same : (o : Outcome) (os : Option (List Outcome)) (xs : Option (List ends.Outcome)) →
    xs ≡ option_map (map outcome_seen) os →
    option_map (λ ys. outcome_seen o ∷ ys) xs ≡ option_map (map outcome_seen) (option_map (λ ys. o ∷ ys) os)
front_same o (Some os) xs h = ap (option_map (λ ys. outcome_seen o ∷ ys)) h
front_same o None xs h = ap (option_map (λ ys. outcome_seen o ∷ ys)) h

-- the outcome of a request in front, if it is finished
next_same : (o : Option Outcome) (os : Option (List Outcome)) (xs : Option (List ends.Outcome)) →
    xs ≡ option_map (map outcome_seen) os →
    option_and_then (λ x. option_map (λ ys. x ∷ ys) xs) (option_map outcome_seen o) ≡
    option_map (map outcome_seen) (option_and_then (λ x. option_map (λ ys. x ∷ ys) os) o)
next_same (Some o) os xs h = front_same o os xs h
next_same None os xs h = refl

-- the outcomes of all
all_same : (f : Request → Option Outcome) (g : ℕ → Option ends.Outcome) (rs : List (Option Request)) →
    AllByRecursion (SayTheSame f g) (named rs) →
    machine.all_outcomes g (requests_by own_serial rs) ≡ option_map (map outcome_seen) (rank.all_outcomes f rs)
all_same f g [] h = refl
all_same f g (None ∷ rs) h =
    front_same outcomes.Empty (rank.all_outcomes f rs) (machine.all_outcomes g (requests_by own_serial rs))
    (all_same f g rs h)
all_same f g (Some q ∷ rs) h =
    ap (λ (o : Option ends.Outcome). option_and_then
    (λ x. option_map (λ ys. x ∷ ys) (machine.all_outcomes g (requests_by own_serial rs))) o) h.0 ∙
    next_same (f q) (rank.all_outcomes f rs) (machine.all_outcomes g (requests_by own_serial rs)) (all_same f g rs h.1)

-- ---- answers

-- the answer for one
one_same : (q : Request) (o : Option Outcome) →
    option_map (λ x. (machine.ForOne x, q.serial ∷ [])) (option_map outcome_seen o) ≡
    completion_seen (option_map (λ x. (answers.One x, q ∷ [])) o)
one_same q (Some o) = refl
one_same q None = refl

-- the answer for any of a list
any_same : (qs : List Request) (low : Option (ℕ × Request × Outcome)) →
    machine.completion_of_any (serials_of qs) (lowest_seen low) ≡ completion_seen (rank.completion_of_any qs low)
any_same [] low = refl
any_same (q ∷ qs) (Some t) = refl
any_same (q ∷ qs) None = refl

-- the answer for all of a list
every_same : (qs : List Request) (os : Option (List Outcome)) →
    option_map (λ xs. (machine.ForAll xs, serials_of qs)) (option_map (map outcome_seen) os) ≡
    completion_seen (option_map (λ xs. (answers.All xs, qs)) os)
every_same qs (Some os) = refl
every_same qs None = refl

-- where both say the same of all that is awaited, both answer the same and use up the same
pub completions_same : (table : List (Option TableEntry)) (g : ℕ → Option ends.Outcome) (a : Awaited) →
    AllByRecursion (SayTheSame (rank.outcome_at table) g) (rank.awaited_requests a) →
    machine.completion g (awaited_seen a) ≡ completion_seen (rank.completion table a)
completions_same table g (awaiteds.One None) h = refl
completions_same table g (awaiteds.One (Some q)) h =
    ap (λ (o : Option ends.Outcome). option_map (λ x. (machine.ForOne x, q.serial ∷ [])) o) h.0 ∙
    one_same q (rank.outcome_at table q)
completions_same table g (awaiteds.AnyOf rs) h =
    ap (λ (ks : List ℕ). machine.completion_of_any ks (machine.lowest_finished g 0 (requests_by own_serial rs)))
    (serials_same rs) ∙
    (ap (machine.completion_of_any (serials_of (named rs))) (lowest_same (rank.outcome_at table) g rs 0 h) ∙
    any_same (named rs) (rank.lowest_finished (rank.outcome_at table) 0 rs))
completions_same table g (awaiteds.AllOf rs) h =
    ap (λ (ks : List ℕ). option_map (λ xs. (machine.ForAll xs, ks))
    (machine.all_outcomes g (requests_by own_serial rs))) (serials_same rs) ∙
    (ap (option_map (λ xs. (machine.ForAll xs, serials_of (named rs)))) (all_same (rank.outcome_at table) g rs h) ∙
    every_same (named rs) (rank.all_outcomes (rank.outcome_at table) rs))

-- ---- the table and the rows

-- of a request that is named by an unanswered row, the table and the jobs say the same
pub named_same_outcome : (table : List (Option TableEntry)) (rows : List Row) → IsTable table rows →
    (q : Request) → IsNamed rows q →
    SayTheSame (rank.outcome_at table) (over_at (jobs_of rows)) q
named_same_outcome table rows t q h =
    subst (λ (key : ℕ). SayTheSame (rank.outcome_at table) (over_at (jobs_of rows))
    (record { key = key; serial = q.serial })) h.key_is (by_job h.row.job refl (t.stands q.serial h.row h.there))
  where
    here : (j : Job) → h.row.job ≡ j → slice_get rows q.serial ≡ Some (record { key = h.row.key; job = j })
    here j e = h.there ∙ ap (λ (x : Job). Some (record { key = h.row.key; job = x })) e

    by_job : (j : Job) → h.row.job ≡ j → Stands (slot_at table h.row.key) q.serial h.row.job →
        SayTheSame (rank.outcome_at table) (over_at (jobs_of rows)) (record { key = h.row.key; serial = q.serial })
    by_job (Waiting p) e s =
        let g : (b : Posted) × (progress_at table h.row.key q.serial ≡ Some (Receiving b)) = progress_waiting table rows q.serial h.row.key p t (here (Waiting p) e) in
        ap job_outcome (job_at rows q.serial h.row.key (Waiting p) (here (Waiting p) e)) ∙
        ap (λ (o : Option RequestProgress). option_map outcome_seen (rank.finished_with o)) (sym g.1)
    by_job (Over x) e s =
        let g : (o : Outcome) × (progress_at table h.row.key q.serial ≡ Some (Finished o)) × (x ≡ outcome_seen o) = progress_over table rows q.serial h.row.key x t (here (Over x) e) in
        over_row rows q.serial h.row.key x (here (Over x) e) ∙
        (ap Some g.2 ∙ ap (λ (o : Option RequestProgress). option_map outcome_seen (rank.finished_with o))
        (sym g.1))
    by_job (Collecting p m got) e s =
        let g : (w : Matched) × (progress_at table h.row.key q.serial ≡ Some (progresses.Collecting w)) × IsMatched w p m =
        progress_collecting table rows q.serial h.row.key p m got t (here (Collecting p m got) e) in
        ap job_outcome (job_at rows q.serial h.row.key (Collecting p m got) (here (Collecting p m got) e)) ∙
        ap (λ (o : Option RequestProgress). option_map outcome_seen (rank.finished_with o)) (sym g.1)
    by_job (Offering d basic values) e s =
        ap job_outcome (job_at rows q.serial h.row.key (Offering d basic values) (here (Offering d basic values) e)) ∙
        ap (λ (o : Option RequestProgress). option_map outcome_seen (rank.finished_with o))
        (sym (progress_offering table rows q.serial h.row.key d basic values t (here (Offering d basic values) e)))
    by_job Closed e s = absurd (h.unanswered e)
    by_job (Unmatched d) e s =
        ap job_outcome (job_at rows q.serial h.row.key (Unmatched d) (here (Unmatched d) e)) ∙
        ap (λ (o : Option RequestProgress). option_map outcome_seen (rank.finished_with o))
        (sym (progress_unmatched table rows q.serial h.row.key d t (here (Unmatched d) e)))
    by_job (Probed g m) e s =
        let x : (w : taken.TakenOut) × (progress_at table h.row.key q.serial ≡ Some (progresses.TakenOut w)) × IsTaken w g m = progress_probed table rows q.serial h.row.key g m t (here (Probed g m) e) in
        ap job_outcome (job_at rows q.serial h.row.key (Probed g m) (here (Probed g m) e)) ∙
        ap (λ (o : Option RequestProgress). option_map outcome_seen (rank.finished_with o)) (sym x.1)
