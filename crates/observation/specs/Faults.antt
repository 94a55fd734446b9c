-- A call's fault in a state of the machine, and that an engine answers a probe with none.
use Rattle.std.specs.Prelude.{◌≡◌, ℕ, List, Option, Some, None, slice_get}
use Rattle.point_to_point.specs.CoreState.{CoreState}
use Rattle.engine_calls.specs.Calls.{CallGives}
use Rattle.engine_calls.specs.EngineState.{EngineState, member_of}
use Rattle.engine_calls.specs.declared.call.Call.{Call}
use Rattle.point_to_point_calls.specs.declared.call.Probe.{Probe}
use Rattle.perfect_groups.specs.Calls.{queue_call}
use Rattle.perfect_groups.specs.Faults.{fault}
use Rattle.perfect_groups.specs.Machine.{Machine}
use Rattle.vocabulary.specs.declared.endpoint.Endpoint.{Endpoint}
use Rattle.observation.specs.EngineCalls.{call_meant, call_seen}
use Rattle.engine_calls.specs.declared.call.Call.TheVariants as calls
use Rattle.engine_calls.specs.declared.reply.Reply.TheVariants as replies
use Rattle.perfect_groups.specs.Calls as machine_calls
use Rattle.perfect_groups.specs.Events as machine
use Rattle.perfect_queues.specs.Calls as queues
use Rattle.perfect_queues.specs.Receives as receives

-- the fault of a call at an endpoint, in a state of the machine
abbrev pub fault_in : Machine → Endpoint → machine_calls.Call → Option ℕ
fault_in s e call = fault e (s.queues.at e) (s.groups.of e) call

-- a call that names no request of another engine, and with which the machine finds no fault
pub record IsFaultless (found : Option ℕ) (c : CoreState) (call : Call) : Type 0 where
  pub own : call_meant c call ≡ call_seen call
  pub none : found ≡ None

-- the engine at an endpoint answers a probe, which is this one in the machine, with none: one that looks, or one that
-- takes out
pub data AnswersNone (engines : List EngineState) (x : Endpoint) (q : receives.Probe) : Type 0 where
  LooksInVain :
      (r : ℕ) (e mid : EngineState) (p : Probe) → slice_get engines r ≡ Some e → e.sessions.place.endpoint ≡ x →
      queue_call (member_of e.groups) (call_seen (calls.Iprobe p)) ≡ Some (queues.Iprobe q) →
      CallGives e (calls.Iprobe p) (replies.Probed None) mid → AnswersNone engines x q
  SearchesInVain :
      (r : ℕ) (e mid : EngineState) (p : Probe) → slice_get engines r ≡ Some e → e.sessions.place.endpoint ≡ x →
      queue_call (member_of e.groups) (call_seen (calls.Improbe p)) ≡ Some (queues.Improbe q) →
      CallGives e (calls.Improbe p) (replies.Matched None) mid → AnswersNone engines x q
