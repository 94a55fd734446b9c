-- A world of engines follows the pure network with communicators and goes on from the happenings that it followed
-- before: by one more at the rank of the event, or by none.
use Rattle.std.specs.Prelude.{◌≡◌, ℕ, ◌<◌, ◌≤◌, List, [], ◌∷◌, ◌++◌, Some, slice_get, slice_set}
use Rattle.engine_calls.specs.Calls.{CallGives, IsTaken}
use Rattle.engine_calls.specs.EngineState.{EngineState, completion_of, emptied, member_of, opening}
use Rattle.engine_calls.specs.declared.call.Call.{Call}
use Rattle.engine_calls.specs.declared.reply.Reply.{Reply}
use Rattle.perfect_groups.specs.Communicators.{Communicator}
use Rattle.perfect_groups.specs.Events as machine
use Rattle.perfect_groups.specs.Soundness.{IsAmong}
use Rattle.proof_group_network.specs.Network.{Happening}
use Rattle.proof_network_runs.specs.Runs.{GoesWith, rank_of}
use Rattle.point_to_point_calls.specs.declared.refusal.Refusal.{Refusal}
use Rattle.vocabulary.specs.Endpoints.{last_incarnation}
use Rattle.vocabulary.specs.declared.message_limit.MessageLimit.{MessageLimit}
use Rattle.proof_network_bridge.specs.EventLaws.{IsSeenOfMachine, RefusesDatagram, TakesDatagram, TakesTick, next_place}
use Rattle.proof_network_bridge.specs.WorldViews.{IsJoined, network_after, opening_engines}
use Rattle.observation.specs.EngineCalls.{told_call, told_completion}

-- these happenings lead to a network of at most 1,024 ranks that is joined to the world, and of which the same is seen
pub record IsFollowedBy (n : ℕ) (limit : MessageLimit) (happenings : List Happening) (engines : List EngineState)
    (datagrams : List (ℕ × List ℕ)) (history : List machine.Entry) : Type 0 where
  pub few : n ≤ 1024
  pub joined : IsJoined n engines datagrams (network_after n limit happenings)
  pub seen : (network_after n limit happenings).history ≡ history

-- A world is followed on from the happenings before
pub data IsFollowedOn (n : ℕ) (limit : MessageLimit) (r : ℕ) (before : List Happening) (engines : List EngineState)
    (datagrams : List (ℕ × List ℕ)) (history : List machine.Entry) : Type 0 where
  -- by none
  Stands :
      IsFollowedBy n limit before engines datagrams history → IsFollowedOn n limit r before engines datagrams history
  -- or by one more, at rank r
  Happened :
      (h : Happening) → rank_of h ≡ r → IsFollowedBy n limit (before ++ h ∷ []) engines datagrams history →
      IsFollowedOn n limit r before engines datagrams history

-- so it is of a world in which the engine at r is the new one, out of which what it gave was taken
abbrev pub LeavesFollowedOn :
    (n : ℕ) (limit : MessageLimit) → (before : List Happening) → List EngineState → List (ℕ × List ℕ) →
    (r : ℕ) → EngineState → List machine.Entry → Type 0
LeavesFollowedOn n limit before engines datagrams r mid history =
    IsFollowedOn n limit r before (slice_set engines r (emptied mid)) (datagrams ++ mid.sessions.out) history

-- engines at their start follow the network with nothing that happened
abbrev pub OpeningFollowsNone : Type 0
OpeningFollowsNone =
    (l : MessageLimit) (n : ℕ) → n ≤ 1024 → IsFollowedBy n l [] (opening_engines l n 0 n) [] []

-- a call that a rank takes is followed on, and what is seen of it is the call, its reply and what it completes
abbrev pub CallsFollowOn : Type 0
CallsFollowOn =
    (n : ℕ) (limit : MessageLimit) (r : ℕ) (before : List Happening) (engines : List EngineState)
    (datagrams : List (ℕ × List ℕ))
    (history : List machine.Entry)
    (old mid : EngineState) (call : Call) (reply : Reply) →
    IsFollowedBy n limit before engines datagrams history → slice_get engines r ≡ Some old → IsTaken reply →
    CallGives old call reply mid →
    LeavesFollowedOn n limit before engines datagrams r mid
    (history ++
    (told_call old.sessions.place.endpoint call (Some reply) ++
    told_completion old.sessions.place.endpoint (completion_of mid)))

-- so is a datagram that it takes in
abbrev pub DatagramsFollowOn : Type 0
DatagramsFollowOn =
    (n : ℕ) (limit : MessageLimit) (r number : ℕ) (bytes : List ℕ) (before : List Happening)
    (engines : List EngineState)
    (datagrams : List (ℕ × List ℕ))
    (history : List machine.Entry) (old mid : EngineState) →
    IsFollowedBy n limit before engines datagrams history → slice_get engines r ≡ Some old →
    slice_get datagrams number ≡ Some (r, bytes) →
    TakesDatagram old bytes mid →
    LeavesFollowedOn n limit before engines datagrams r mid
    (history ++ told_completion old.sessions.place.endpoint (completion_of mid))

-- nothing happens where one is refused
abbrev pub RefusalsStand : Type 0
RefusalsStand =
    (n : ℕ) (limit : MessageLimit) (r number : ℕ) (bytes : List ℕ) (before : List Happening)
    (engines : List EngineState)
    (datagrams : List (ℕ × List ℕ))
    (history : List machine.Entry) (old mid : EngineState) (why : Refusal) →
    IsFollowedBy n limit before engines datagrams history → slice_get engines r ≡ Some old →
    slice_get datagrams number ≡ Some (r, bytes) →
    RefusesDatagram old bytes why mid →
    IsFollowedBy n limit before (slice_set engines r (emptied mid)) (datagrams ++ mid.sessions.out) history

-- nor at a tick
abbrev pub TicksStand : Type 0
TicksStand =
    (n : ℕ) (limit : MessageLimit) (r now : ℕ) (before : List Happening) (engines : List EngineState)
    (datagrams : List (ℕ × List ℕ))
    (history : List machine.Entry)
    (old mid : EngineState) →
    IsFollowedBy n limit before engines datagrams history → slice_get engines r ≡ Some old → TakesTick old now mid →
    IsFollowedBy n limit before (slice_set engines r (emptied mid)) (datagrams ++ mid.sessions.out)
    (history ++ told_completion old.sessions.place.endpoint (completion_of mid))

-- a rank is started anew
abbrev pub RestartsFollowOn : Type 0
RestartsFollowOn =
    (n : ℕ) (limit : MessageLimit) (r : ℕ) (before : List Happening) (engines : List EngineState)
    (datagrams : List (ℕ × List ℕ))
    (history : List machine.Entry)
    (old : EngineState) →
    IsFollowedBy n limit before engines datagrams history → slice_get engines r ≡ Some old →
    old.sessions.place.endpoint.incarnation < last_incarnation →
    IsFollowedOn n limit r before (slice_set engines r (opening (next_place old.sessions.place))) datagrams
    (history ++ machine.Restarted r ∷ [])

-- what is seen of engines is seen of this run
pub record IsSeenBy (n : ℕ) (limit : MessageLimit) (engines : List EngineState) (history : List machine.Entry)
    (events : List machine.Event) : Type 0 where
  pub seen : IsSeenOfMachine n limit engines history
  pub by : seen.events ≡ events

-- each run that goes with what engines follow tells all of them that some run does
abbrev pub FollowingIsEachRun : Type 0
FollowingIsEachRun =
    (n : ℕ) (limit : MessageLimit) (happenings : List Happening) (events : List machine.Event)
    (engines : List EngineState)
    (datagrams : List (ℕ × List ℕ))
    (history : List machine.Entry) →
    IsFollowedBy n limit happenings engines datagrams history → GoesWith n limit happenings events →
    IsSeenBy n limit engines history events

-- one group for each context, of engines that followed one run, each up to some moment of it: of one that is there, and
-- of one that was started anew since
abbrev pub EnginesShareGroups : Type 0
EnginesShareGroups =
    (n : ℕ) (limit : MessageLimit) (earlier later : List Happening) (events more : List machine.Event)
    (engines engines' : List EngineState)
    (datagrams datagrams' : List (ℕ × List ℕ)) (history history' : List machine.Entry) (r x : ℕ) (e d : EngineState)
    (a b : Communicator) →
    IsFollowedBy n limit earlier engines datagrams history → GoesWith n limit earlier events →
    IsFollowedBy n limit later engines' datagrams' history' → GoesWith n limit later (events ++ more) →
    slice_get engines r ≡ Some e → slice_get engines' x ≡ Some d →
    IsAmong a (member_of e.groups).held → IsAmong b (member_of d.groups).held → a.context ≡ b.context → a ≡ b
