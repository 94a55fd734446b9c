-- When a rank's core holds what a core of the pure network holds.
use Rattle.std.specs.Prelude.{◌≡◌, ℕ, List, All, length, map, Option, Some, None, slice_get, slice_index}
use Rattle.requests.specs.declared.awaited_requests.Awaited as engine
use Rattle.requests.specs.declared.table.Request.{Request}
use Rattle.requests.specs.Completions.{awaited_requests}
use Rattle.point_to_point.specs.CoreState.{CoreState}
use Rattle.perfect_queues.specs.Completions.{Unanswered, Waits}
use Rattle.proof_pure_network.specs.Core.{Core}
use Rattle.proof_pure_network.specs.Engine.{core_ready}
use Rattle.proof_pure_network.specs.Jobs.{Closed}
use Rattle.proof_engine_view.specs.Rows.{Row, IsTable, held_of, jobs_of, posted_rows}
use Rattle.observation.specs.CoreCalls.{awaited_seen}
use Rattle.proof_engine_view.specs.Transfers.{Announcements}
use Rattle.proof_engine_view.specs.UnderWay.{AreTaken, AreUnderWay}

-- a request that wasn't answered: its row stands under its key
pub record IsNamed (rows : List Row) (q : Request) : Type 0 where
  pub row : Row
  pub there : slice_get rows q.serial ≡ Some row
  pub key_is : row.key ≡ q.key
  pub unanswered : row.job ≡ Closed → ⊥

-- the blocked call waits for requests that weren't answered, and both wait for the same
abbrev pub IsBlocked : List Row → Option engine.Awaited → Option Unanswered → Type 0
IsBlocked rows None b = b ≡ None
IsBlocked rows (Some a) b = (b ≡ Some (Waits (awaited_seen a))) × All (IsNamed rows) (awaited_requests a)

-- The rank holds the requests and messages of the network's core and is blocked on the same, whether or not the blocked
-- call's answer is ready; and both know the ranks alike:
-- `known` is what the rank's sessions know, the incarnation of each rank by its number. `a` is what was announced on
-- the links from and to it, by which large messages have their numbers
pub record IsShown (a : Announcements) (c : CoreState) (known : List ℕ) (core : Core) : Type 0 where
  pub rows : List Row
  pub jobs : core.jobs ≡ jobs_of rows
  pub count : length rows ≡ c.serial
  pub table : IsTable c.slots rows
  pub posted : c.queues.posted ≡ posted_rows rows
  pub held : core.held ≡ map (held_of a.from) c.queues.unexpected
  pub under_way : AreUnderWay a known c.place rows c.transfers c.queues.unexpected
  -- the messages that were taken out
  pub taken : AreTaken a.from known c.place rows c.slots
  pub blocked : IsBlocked rows c.blocked core.blocked
  -- both have the limit of the job
  pub limited : core.message_limit ≡ c.place.message_limit
  -- both know each rank at the same incarnation, and the rank itself at its own
  pub width : length known ≡ c.place.size
  pub known_alike : (r : ℕ) → core.known r ≡ slice_index known r
  pub itself : slice_index known c.place.endpoint.rank ≡ c.place.endpoint.incarnation

-- The core's blocked call has no answer that is ready, if one is blocked: so it is once an event is over
abbrev pub IsSettled : Core → Type 0
IsSettled core = core_ready core ≡ None
