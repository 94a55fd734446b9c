-- Runs of the machine of queues and groups whose calls are on world alone, which each rank holds first.
use Rattle.std.specs.Prelude.{◌≡◌, ℕ, List, map, Some, None}
use Rattle.std.specs.List.{AllByRecursion}
use Rattle.perfect_groups.specs.Calls.{ByRequests, Call, Cancel, Improbe, Iprobe, Irecv, Isend, Mrecv, OfRequests, Test}
use Rattle.perfect_groups.specs.Calls.{Wait}
use Rattle.perfect_groups.specs.Events.{Called, Completed, Entry, Event, Restarted}
use Rattle.perfect_groups.specs.Machine.{machine_opening}
use Rattle.perfect_groups.specs.Runs.{IsRun, after_run, seen}
use Rattle.perfect_queues.specs.Calls as queues
use Rattle.perfect_queues.specs.Events as queue_events
use Rattle.perfect_queues.specs.Refusals.{world}
use Rattle.perfect_queues.specs.Runs as queue_runs
use Rattle.perfect_queues.specs.State.{State, opening}
use Rattle.vocabulary.specs.declared.message_limit.MessageLimit.{MessageLimit}

-- a call of queues and requests, on world
abbrev pub call_on_world : queues.Call → Call
call_on_world (queues.Isend mode context to tag from) = Isend mode (Some 0) to tag from
call_on_world (queues.Irecv p) = Irecv (Some 0) p.source p.tag p.into
call_on_world (queues.Wait a) = Wait a
call_on_world (queues.Test r) = Test r
call_on_world (queues.Cancel r) = Cancel r
call_on_world (queues.Iprobe q) = Iprobe (Some 0) q.source q.tag
call_on_world (queues.Improbe q) = Improbe (Some 0) q.source q.tag
call_on_world (queues.Mrecv message into) = Mrecv message into

-- what is seen of queues and requests, on world
abbrev pub entry_on_world : queue_events.Entry → Entry
entry_on_world (queue_events.Called e c r) = Called e (call_on_world c) (OfRequests r)
entry_on_world (queue_events.Completed e a) = Completed e (ByRequests a)
entry_on_world (queue_events.Restarted r) = Restarted r

-- each entry
abbrev pub entries_on_world : List queue_events.Entry → List Entry
entries_on_world entries = map entry_on_world entries

-- whether a call of queues and requests is on world: in its context, and a receive or a probe names ranks by themselves
abbrev pub IsOnWorld : queues.Call → Type 0
IsOnWorld (queues.Isend mode context to tag from) = context ≡ world
IsOnWorld (queues.Irecv p) = (p.context ≡ world) × (p.group ≡ None)
IsOnWorld (queues.Wait a) = Unit {0}
IsOnWorld (queues.Test r) = Unit {0}
IsOnWorld (queues.Cancel r) = Unit {0}
IsOnWorld (queues.Iprobe q) = (q.context ≡ world) × (q.group ≡ None)
IsOnWorld (queues.Improbe q) = (q.context ≡ world) × (q.group ≡ None)
IsOnWorld (queues.Mrecv message into) = Unit {0}

-- whether what is seen is of such a call, where it is of a call
abbrev pub IsEntryOnWorld : queue_events.Entry → Type 0
IsEntryOnWorld (queue_events.Called e c r) = IsOnWorld c
IsEntryOnWorld (queue_events.Completed e a) = Unit {0}
IsEntryOnWorld (queue_events.Restarted r) = Unit {0}

-- a run of the machine of perfect queues among n ranks has this history, and ends in this state
pub record IsRunOfQueues (n : ℕ) (limit : MessageLimit) (history : List queue_events.Entry) (now : State) : Type 0 where
  pub events : List queue_events.Event
  pub run : queue_runs.IsRun n (opening limit) events
  pub tells : queue_runs.seen (opening limit) events ≡ history
  pub ends : queue_runs.after_run (opening limit) events ≡ now

-- While calls are on world alone, the machine of queues and groups allows no history that the machine of perfect queues
-- doesn't allow: its run is one of that machine, which ends in the same queues
abbrev pub RunsOnWorldAreOfQueues : Type 0
RunsOnWorldAreOfQueues =
    (n : ℕ) (limit : MessageLimit) (events : List Event) (history : List queue_events.Entry) →
    IsRun n (machine_opening n limit) events →
    seen (machine_opening n limit) events ≡ entries_on_world history → AllByRecursion IsEntryOnWorld history →
    IsRunOfQueues n limit history (after_run (machine_opening n limit) events).queues
