-- The jobs and the posted receives of rows.
use Rattle.std.proofs.Common.{◌≡◌, ℕ, List, [], ◌∷◌, ◌++◌, Option, Some, slice_get, slice_set, option_map, sym, ap, ◌∙◌}
use Rattle.std.proofs.Common.{append_assoc, append-nil}
use Rattle.std.proofs.lemmas.List.{map-append, map-set}
use Rattle.std.proofs.lemmas.Option.{slice_get-map}
use Rattle.perfect_queues.specs.Outcomes.{Outcome}
use Rattle.match_queues.specs.declared.envelope.PostedReceive as posted
use Rattle.proof_pure_network.specs.Jobs.{Job, Over, job_outcome, over_at}
use Rattle.proof_engine_view.specs.Rows.{Row, jobs_of, posted_job, posted_rows}

-- the job of a row
pub job_at : (rows : List Row) (k key : ℕ) (job : Job) → slice_get rows k ≡ Some (record { key = key; job = job }) →
    slice_get (jobs_of rows) k ≡ Some job
job_at rows k key job h = slice_get-map (λ (r : Row). r.job) rows k ∙
    ap (λ (o : Option Row). option_map (λ (r : Row). r.job) o) h

-- the outcome of a row that is over
pub over_row : (rows : List Row) (k key : ℕ) (x : Outcome) →
    slice_get rows k ≡ Some (record { key = key; job = Over x }) → over_at (jobs_of rows) k ≡ Some x
over_row rows k key x h = ap job_outcome (job_at rows k key (Over x) h)

-- the jobs once a row is changed
pub set_jobs : (rows : List Row) (k key : ℕ) (job : Job) →
    jobs_of (slice_set rows k (record { key = key; job = job })) ≡ slice_set (jobs_of rows) k job
set_jobs rows k key job = map-set (λ (r : Row). r.job) rows k (record { key = key; job = job })

-- the jobs with one more row
pub push_jobs : (rows : List Row) (key : ℕ) (job : Job) → jobs_of (rows ++ record { key = key; job = job } ∷ []) ≡
    jobs_of rows ++ job ∷ []
push_jobs rows key job = map-append (λ (r : Row). r.job) rows (record { key = key; job = job } ∷ [])

-- a new request stands behind the others
pub posted_push : (rows : List Row) (key : ℕ) (job : Job) → posted_rows (rows ++ record { key = key; job = job } ∷ []) ≡
    posted_rows rows ++ posted_job key job
posted_push [] key job = append-nil (posted_job key job)
posted_push (r ∷ rs) key job =
    ap (λ (ys : List posted.PostedReceive). posted_job r.key r.job ++ ys) (posted_push rs key job) ∙
    sym (append_assoc (posted_job r.key r.job) (posted_rows rs) (posted_job key job))
