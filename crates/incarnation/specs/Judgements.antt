-- How a datagram is judged by its two endpoints.
use Rattle.std.specs.Prelude.{◌≡◌, ◌≢◌, ℕ, ◌<◌, ◌≤◌, Bool, false, nat_lt, nat_le, ◌==◌, Result, Ok, Err, if◌then◌else◌}
use Rattle.datagram.specs.declared.datagram.Header.{Header}
use Rattle.incarnation.specs.declared.place.Place.{Place}
use Rattle.incarnation.specs.declared.refusal.IncarnationRefusal.{IncarnationRefusal}
use Rattle.incarnation.specs.declared.refusal.IncarnationRefusal.TheVariants.{Limit, OutOfMemory, ForeignJob, NotForMe}
use Rattle.incarnation.specs.declared.refusal.IncarnationRefusal.TheVariants.{StaleSource, StaleTarget}
use Rattle.incarnation.specs.declared.judgement.Judgement.{Judgement}
use Rattle.incarnation.specs.declared.judgement.Judgement.TheVariants.{Current, Learn}
use Rattle.incarnation.specs.Knowledge.{Knowledge, known_at}

-- ---- the rule, in words

-- the header names the rank of this place, at no later incarnation than the present one, and comes
-- from another rank of the job
pub record IsForRank (place : Place) (h : Header) : Type 0 where
  pub target : h.target.rank ≡ place.endpoint.rank
  pub begun : h.target.incarnation ≤ place.endpoint.incarnation
  pub other : h.source.rank ≢ place.endpoint.rank
  pub there : h.source.rank < place.size

-- the header is of this job, and meant for this very endpoint by another rank
pub record IsMeantForMe (place : Place) (h : Header) : Type 0 where
  pub job : h.job ≡ place.job
  pub target : h.target ≡ place.endpoint
  pub other : h.source.rank ≢ place.endpoint.rank
  pub there : h.source.rank < place.size

-- what is answered, and when. A refusal comes only where no earlier one does: the job first, then
-- the ranks and an incarnation that has not begun, then a former source, then a former target.
abbrev pub JudgeGives : Knowledge → Header → Result Judgement IncarnationRefusal → Type 0
JudgeGives k h (Ok Current) =
    IsMeantForMe k.place h × (h.source.incarnation ≡ known_at k h.source.rank)
JudgeGives k h (Ok (Learn incarnation)) =
    IsMeantForMe k.place h
    × (h.source.incarnation ≡ incarnation)
    × (known_at k h.source.rank < incarnation)
JudgeGives k h (Err ForeignJob) = h.job ≢ k.place.job
JudgeGives k h (Err NotForMe) = (h.job ≡ k.place.job) × (IsForRank k.place h → ⊥)
JudgeGives k h (Err StaleSource) =
    (h.job ≡ k.place.job)
    × IsForRank k.place h
    × (h.source.incarnation < known_at k h.source.rank)
JudgeGives k h (Err StaleTarget) =
    (h.job ≡ k.place.job)
    × IsForRank k.place h
    × (known_at k h.source.rank ≤ h.source.incarnation)
    × (h.target.incarnation < k.place.endpoint.incarnation)
JudgeGives k h (Err Limit) = ⊥
JudgeGives k h (Err OutOfMemory) = ⊥

-- ---- the same as a function

-- a refusal, unless the test holds
abbrev pub guard : {A : Type 0} → Bool → IncarnationRefusal → Result A IncarnationRefusal → Result A IncarnationRefusal
guard test refused next = if test then next else Err refused

-- whether the rank is another one of the job
abbrev pub is_other : Place → ℕ → Bool
is_other place rank = if rank == place.endpoint.rank then false else nat_lt rank place.size

-- the first rule that is broken, or else what the source's incarnation says
unfoldable pub judgement : Knowledge → Header → Result Judgement IncarnationRefusal
judgement k h =
    guard (h.job == k.place.job) ForeignJob
    (guard (h.target.rank == k.place.endpoint.rank) NotForMe
    (guard (nat_le h.target.incarnation k.place.endpoint.incarnation) NotForMe
    (guard (is_other k.place h.source.rank) NotForMe
    (guard (nat_le (known_at k h.source.rank) h.source.incarnation) StaleSource
    (guard (nat_le k.place.endpoint.incarnation h.target.incarnation) StaleTarget
    (if nat_lt (known_at k h.source.rank) h.source.incarnation
    then Ok (Learn h.source.incarnation)
    else Ok Current))))))
