-- What a rank's engine holds: a core, its communicators and collectives, and its sessions.
use Rattle.std.specs.Prelude.{[], Option, Some, None}
use Rattle.rendezvous.specs.PayloadState as payloads
use Rattle.collectives.specs.State as collectives
use Rattle.collective_steps.specs.declared.step.Ending.{Ending}
use Rattle.communicators.specs.Members.{membership_of}
use Rattle.context_agreement.specs.Communicators as contexts
use Rattle.context_agreement.specs.Communicators.{ContextsState}
use Rattle.incarnation.specs.declared.place.Place.{Place}
use Rattle.perfect_groups.specs.Membership.{Membership}
use Rattle.point_to_point.specs.CoreState.{CoreState}
use Rattle.point_to_point.specs.CoreState as cores
use Rattle.requests.specs.declared.answer.Answer.{Answer}
use Rattle.sessions.specs.SessionsState.{SessionsState}
use Rattle.sessions.specs.SessionsState as links
use Rattle.engine_calls.specs.declared.reply.Completion.{Completion}
use Rattle.engine_calls.specs.declared.reply.Completion.TheVariants as completions

-- the communicators that a rank holds, and the collective that it is in
pub record GroupsState : Type 0 where
  pub collective : collectives.State
  pub contexts : ContextsState

-- the engine of one rank; all of its parts stand at one place. The transfers of messages and of collectives have one
-- count: the core's
pub record EngineState : Type 0 where
  -- what it is to the machine's queues: its calls, its requests, and the messages that it has and wants
  pub core : CoreState
  -- what it is to the machine's groups
  pub groups : GroupsState
  -- with what a collective ended that the rank was blocked in, until that is handed out
  pub ended : Option Ending
  -- the payloads of collectives that it announced to others, and those that come to it in pieces
  pub payloads : payloads.State
  -- what it knows of the other ranks, its links with them, the time, and what was emitted
  pub sessions : SessionsState

-- the engine, without the empty places at the end of its table of requests
abbrev pub trimmed : EngineState → EngineState
trimmed e = record e { core = cores.trimmed e.core }

-- what of an engine a call of the core doesn't look at
pub record Rest : Type 0 where
  pub ended : Option Ending
  pub payloads : payloads.State

-- the rank's part of the groups of the machine
abbrev pub member_of : GroupsState → Membership
member_of g = membership_of g.collective g.contexts

-- a rank that was just started holds world and self
abbrev pub opening_groups : Place → GroupsState
opening_groups p = record {
  collective = collectives.opening p.endpoint;
  contexts = contexts.opening p.endpoint.rank p.endpoint.incarnation p.size;
}

-- an engine at its start: it knows every other rank at incarnation 0, and nothing is pending (our own)
abbrev pub opening : Place → EngineState
opening p =
    record {
      core = cores.opening p;
      groups = opening_groups p;
      ended = None;
      payloads = payloads.opening;
      sessions =
          links.opening p;
    }

-- the engine once what it emitted was taken out of it
abbrev pub without_out : EngineState → EngineState
without_out e = record e { sessions = record e.sessions { out = [] } }

-- the engine once the answer of a blocked call was taken out of it
abbrev pub without_completion : EngineState → EngineState
without_completion e = record e { core = record e.core { completion = None }; ended = None }

-- the engine once both were taken out
abbrev pub emptied : EngineState → EngineState
emptied e = without_completion (without_out e)

-- the answer of a blocked call: that of its collective, or that of its requests
abbrev pub completion_by : Option Ending → Option Answer → Option Completion
completion_by (Some o) answer = Some (completions.Collective o)
completion_by None (Some a) = Some (completions.Requests a)
completion_by None None = None

-- the answer that is ready
abbrev pub completion_of : EngineState → Option Completion
completion_of e = completion_by e.ended e.core.completion

-- an ending that is ready, once this is, or what was ready before
abbrev pub or_before : Option Ending → (before : Option Ending) → Option Ending
or_before (Some o) before = Some o
or_before None before = before
