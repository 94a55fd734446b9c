-- The fault that the machine finds with a call of an engine, by what the engine itself holds.
use Rattle.std.specs.Prelude.{◌≡◌, ℕ, ◌<◌, List, [], ◌∷◌, length, Option, Some, None, if◌then◌else◌, ◌==◌, slice_get}
use Rattle.std.specs.Prelude.{slice_index}
use Rattle.communicators.specs.Rules.{known_by}
use Rattle.engine_calls.specs.Calls.{CallGives, IsTaken}
use Rattle.engine_calls.specs.EngineState.{EngineState, member_of, opening}
use Rattle.engine_calls.specs.Faults.{fault_of, is_busy}
use Rattle.engine_calls.specs.declared.call.Call.{Call}
use Rattle.engine_calls.specs.declared.reply.Reply.{Reply}
use Rattle.engine_calls.specs.declared.reply.Reply.TheVariants as replies
use Rattle.incarnation.specs.declared.place.Place.{Place}
use Rattle.perfect_groups.specs.Calls as machine
use Rattle.perfect_groups.specs.Events.{Entry}
use Rattle.perfect_groups.specs.Faults.{fault_by}
use Rattle.perfect_queues.specs.Refusals.{Missing, OfMessage, Receiving, Sends, Standing, standing_of_outcome}
use Rattle.observation.specs.Reasons.{IsReason}
use Rattle.observation.specs.CoreCalls.{outcome_seen}
use Rattle.observation.specs.Faults.{IsFaultless}
use Rattle.proof_network_bridge.specs.WorldViews.{IsFollowed}
use Rattle.observation.specs.EngineCalls.{call_meant, call_seen}
use Rattle.proof_queue_calls.specs.Halves.{AreInWorld}
use Rattle.point_to_point_calls.specs.declared.refusal.Refusal.{Refusal}
use Rattle.requests.specs.Table.{slot_at}
use Rattle.requests.specs.declared.table.TableEntry as table
use Rattle.requests.specs.declared.table.RequestProgress.{RequestProgress}
use Rattle.requests.specs.declared.table.RequestProgress.TheVariants as progresses

-- how far the request with this serial is, if one stands in the table
abbrev pub found : List (Option table.TableEntry) → (serial : ℕ) → Option RequestProgress
found [] serial = None
found (None ∷ slots) serial = found slots serial
found (Some t ∷ slots) serial = if t.serial == serial then Some t.progress else found slots serial

-- what a call may do with it
abbrev pub standing_of : Option RequestProgress → Standing
standing_of None = Missing
standing_of (Some (progresses.Receiving w)) = Receiving
standing_of (Some (progresses.Collecting w)) = Receiving
standing_of (Some progresses.Offering) = Sends
standing_of (Some (progresses.TakenOut t)) = OfMessage
standing_of (Some (progresses.Finished o)) = standing_of_outcome (outcome_seen o)

-- The machine's first fault of a call at the engine's endpoint, by its own part: whether an earlier call of it is
-- blocked, what its table says of each request, the incarnation at which it knows each rank, and the communicators that
-- it holds
abbrev pub own_fault : EngineState → machine.Call → Option ℕ
own_fault e call =
    fault_by e.core.place.message_limit (is_busy e) (λ k. standing_of (found e.core.slots k))
    e.sessions.place.endpoint (known_by e.sessions.known) (member_of e.groups) call

-- What is asked of the engine: its requests have serials of their own, all below the next; its communicators are of
-- ranks of its job; and its parts know where it stands
pub record IsOrderly (e : EngineState) : Type 0 where
  pub below : (key : ℕ) (t : table.TableEntry) → slot_at e.core.slots key ≡ Some t → t.serial < e.core.serial
  pub apart :
      (key other : ℕ) (t u : table.TableEntry) → slot_at e.core.slots key ≡ Some t →
      slot_at e.core.slots other ≡ Some u →
      t.serial ≡ u.serial → key ≡ other
  pub inside : AreInWorld e.core.place.size (member_of e.groups)
  pub placed : e.core.place ≡ e.sessions.place
  pub own : e.groups.collective.own ≡ e.sessions.place.endpoint
  pub width : length e.sessions.known ≡ e.core.place.size
  pub itself : slice_index e.sessions.known e.core.place.endpoint.rank ≡ e.core.place.endpoint.incarnation

-- a call that it refuses has the machine's first fault, by its number; or the machine finds none, and the number is 13
-- or 14
abbrev pub OwnRefusals : Type 0
OwnRefusals =
    (e mid : EngineState) (call back : Call) (why : Refusal) → IsOrderly e →
    CallGives e call (replies.Refused why back) mid →
    IsReason (own_fault e (call_meant e.core call)) why

-- a call that it takes names no request of another engine, and the machine finds no fault with it
abbrev pub OwnTakings : Type 0
OwnTakings =
    (e mid : EngineState) (call : Call) (reply : Reply) → IsOrderly e → IsTaken reply → CallGives e call reply mid →
    IsFaultless (own_fault e (call_seen call)) e.core call

-- so is one that it judges to meet no rule and no limit
abbrev pub OwnJudgements : Type 0
OwnJudgements =
    (e : EngineState) (call : Call) → IsOrderly e → fault_of e call ≡ None →
    IsFaultless (own_fault e (call_seen call)) e.core call

-- each engine of a world that follows the network is orderly
abbrev pub EnginesOfWorldsAreOrderly : Type 0
EnginesOfWorldsAreOrderly =
    (n r : ℕ) (engines : List EngineState) (datagrams : List (ℕ × List ℕ)) (history : List Entry) (e : EngineState) →
    IsFollowed n engines datagrams history → slice_get engines r ≡ Some e → IsOrderly e

-- and so is each new one, at whatever incarnation of its rank
abbrev pub NewEnginesAreOrderly : Type 0
NewEnginesAreOrderly = (p : Place) → p.endpoint.rank < p.size → IsOrderly (opening p)
