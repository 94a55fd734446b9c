-- An engine alone, without a world: why it refuses a call, and that it takes none with a fault, by its own part of the
-- machine.
use Rattle.std.specs.Prelude.{◌≡◌, ℕ, List, Option, Some, None, slice_get}
use Rattle.engine_calls.specs.Calls.{CallGives, IsTaken}
use Rattle.engine_calls.specs.EngineState.{EngineState}
use Rattle.engine_calls.specs.Faults.{fault_of}
use Rattle.engine_calls.specs.declared.call.Call.{Call}
use Rattle.engine_calls.specs.declared.reply.Reply.{Reply}
use Rattle.engine_calls.specs.declared.reply.Reply.TheVariants as replies
use Rattle.perfect_groups.specs.Calls as machine
use Rattle.perfect_groups.specs.Events.{Entry}
use Rattle.perfect_groups.specs.Faults.{fault}
use Rattle.proof_collective_steps.specs.MemberViews as collectives
use Rattle.observation.specs.Reasons.{IsReason}
use Rattle.proof_engine_view.specs.CoreViews.{IsShown}
use Rattle.proof_engine_view.specs.Transfers.{Announcements}
use Rattle.proof_group_network.specs.Notices.{Member}
use Rattle.proof_pure_network.specs.Core.{Core, view}
use Rattle.proof_pure_network.specs.WaitingMessages.{blank}
use Rattle.proof_queue_calls.specs.Halves.{AreInWorld}
use Rattle.point_to_point_calls.specs.declared.refusal.Refusal.{Refusal}
use Rattle.observation.specs.Faults.{IsFaultless}
use Rattle.proof_network_bridge.specs.WorldViews.{IsFollowed}
use Rattle.observation.specs.EngineCalls.{call_meant, call_seen}

-- An engine is a rank: it holds the requests and messages that this core holds, and knows the ranks as the core does;
-- it holds the communicators that this member holds, and is in the same collective; and these are of ranks of its job.
-- `progress_on_announcement` are the numbers of large messages
pub record IsRank (e : EngineState) (core : Core) (m : Member) : Type 0 where
  pub announced : Announcements
  pub queues : IsShown announced e.core e.sessions.known core
  pub groups : collectives.IsShown e.sessions.place.endpoint e.groups.collective e.groups.contexts m None
  pub placed : e.core.place ≡ e.sessions.place
  pub inside : AreInWorld e.core.place.size m.membership
  -- the core has the limit of messages of the job
  pub limit : core.message_limit ≡ e.core.place.message_limit

-- the fault of a call at its endpoint, by its own part of the machine
abbrev pub fault_alone : EngineState → Core → Member → machine.Call → Option ℕ
fault_alone e core m call = fault e.sessions.place.endpoint (view blank core) m.membership call

-- a call that an engine refuses has the machine's first fault, by its number; or the machine finds none, and the number
-- is 13 or 14
abbrev pub EnginesRefuseAsTheMachine : Type 0
EnginesRefuseAsTheMachine =
    (e mid : EngineState) (core : Core) (m : Member) (call back : Call) (why : Refusal) → IsRank e core m →
    CallGives e call (replies.Refused why back) mid → IsReason (fault_alone e core m (call_meant e.core call)) why

-- a call that it takes names no request of another engine, and the machine finds no fault with it
abbrev pub EnginesTakeNoFault : Type 0
EnginesTakeNoFault =
    (e mid : EngineState) (core : Core) (m : Member) (call : Call) (reply : Reply) → IsRank e core m → IsTaken reply →
    CallGives e call reply mid → IsFaultless (fault_alone e core m (call_seen call)) e.core call

-- so is one that it judges to meet no rule and no limit
abbrev pub EnginesJudgeAsTheMachine : Type 0
EnginesJudgeAsTheMachine =
    (e : EngineState) (core : Core) (m : Member) (call : Call) → IsRank e core m → fault_of e call ≡ None →
    IsFaultless (fault_alone e core m (call_seen call)) e.core call

-- an engine is some rank
pub record IsSomeRank (e : EngineState) : Type 0 where
  pub core : Core
  pub member : Member
  pub rank : IsRank e core member

-- each engine of a world that follows the network is one
abbrev pub EnginesAreRanks : Type 0
EnginesAreRanks =
    (n r : ℕ) (engines : List EngineState) (datagrams : List (ℕ × List ℕ)) (history : List Entry) (e : EngineState) →
    IsFollowed n engines datagrams history → slice_get engines r ≡ Some e → IsSomeRank e
