-- Which requests end where a rank is learnt at a later incarnation, and under which keys they stand.
use Rattle.std.specs.Prelude.{◌≡◌, ℕ, Bool, true, false, ◌||◌, ◌==◌, List, Option, Some, None, slice_get}
use Rattle.vocabulary.specs.Endpoints.{is_former}
use Rattle.perfect_queues.specs.Receives.{names}
use Rattle.proof_pure_network.specs.Jobs.{Job, Waiting, Collecting, Offering, Over, Closed, Probed, Unmatched}
use Rattle.proof_pure_network.specs.WaitingMessages.{Held}
use Rattle.proof_engine_view.specs.Rows.{Row}
use Rattle.proof_engine_steps.proofs.EndedRows.{IsAmong}

-- whether a message that was taken out is of a former endpoint of rank r
abbrev pub is_of_former : (r i : ℕ) → Option Held → Bool
is_of_former r i None = false
is_of_former r i (Some h) = is_former r i h.sender

-- whether a request ends where rank r is learnt at incarnation i, or is a message that is lost
abbrev pub ends_by : (r i : ℕ) → Job → Bool
ends_by r i (Waiting p) = names p.source r
ends_by r i (Collecting p h got) = names p.source r || is_former r i h.sender
ends_by r i (Offering d basic values) = d.rank == r
ends_by r i (Over x) = false
ends_by r i Closed = false
ends_by r i (Unmatched d) = d.rank == r
ends_by r i (Probed g h) = is_of_former r i h

-- a request under this key ends
pub record IsEnding (rows : List Row) (r i key : ℕ) : Type 0 where
  pub serial : ℕ
  pub job : Job
  pub there : slice_get rows serial ≡ Some (record { key = key; job = job })
  pub ends : ends_by r i job ≡ true

-- these are the keys of the requests that end
pub record AreEnding (rows : List Row) (r i : ℕ) (keys : List ℕ) : Type 0 where
  pub each : (k key : ℕ) (job : Job) → slice_get rows k ≡ Some (record { key = key; job = job }) →
      ends_by r i job ≡ true → IsAmong key keys
  pub only : (key : ℕ) → IsAmong key keys → IsEnding rows r i key
