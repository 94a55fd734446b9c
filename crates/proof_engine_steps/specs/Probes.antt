-- What a look at the messages that came is to a rank's core in the pure network, and what is so where a probe finds
-- none.
use Rattle.std.specs.Prelude.{◌≡◌, ℕ, List, [], ◌∷◌, Option, Some, None, option_map}
use Rattle.requests.specs.declared.awaited_requests.Awaited.{Awaited}
use Rattle.point_to_point_calls.specs.CoreCalls as calls
use Rattle.point_to_point_calls.specs.declared.call.RoutedProbe.{RoutedProbe}
use Rattle.point_to_point_calls.specs.declared.refusal.Refusal.{Refusal}
use Rattle.point_to_point_calls.specs.declared.refusal.Refusal.TheVariants as refusals
use Rattle.point_to_point_calls.specs.Refusals.{number_of_refusal}
use Rattle.point_to_point.specs.Calls.{Answers}
use Rattle.point_to_point.specs.CoreState.{CoreState}
use Rattle.point_to_point.specs.Messages.{looked, probe_rule}
use Rattle.vocabulary.specs.declared.envelope.Status.{Status}
use Rattle.perfect_queues.specs.Calls.{Done, Iprobe}
use Rattle.perfect_queues.specs.Completions.{ForProbe}
use Rattle.perfect_queues.specs.Events.{Called, call_and_reply, told}
use Rattle.perfect_queues.specs.Receives.{such_receive}
use Rattle.proof_pure_network.specs.Core.{Core, view}
use Rattle.proof_pure_network.specs.Engine.{called, core_ready, core_settled}
use Rattle.proof_pure_network.specs.WaitingMessages.{blank}
use Rattle.proof_pure_network.specs.Matches.{found}
use Rattle.proof_engine_view.specs.Faults.{queue_fault}
use Rattle.observation.specs.CoreCalls.{probe_seen}
use Rattle.proof_engine_view.specs.CoreViews.{IsShown}
use Rattle.proof_engine_view.specs.Transfers.{Announcements}

-- what the rank tells of a probe, whose source is a rank of the probe's group
abbrev pub told_of : CoreState → RoutedProbe → Option Status
told_of c p = looked c p.route.named p.probe.tag p.route.context p.group

-- the core holds no message that such a receive would take
abbrev pub HoldsNone : Core → RoutedProbe → Type 0
HoldsNone core p = found (such_receive (probe_seen p)) core.held ≡ None

-- A look at the rank's messages is a probe of its core in the network: it is answered at once, and changes nothing
pub record IsLookedAt (old : CoreState) (core : Core) (p : RoutedProbe) : Type 0 where
  pub stays : core_settled (called old.place.endpoint core (Iprobe (probe_seen p))).core ≡ core
  pub tells :
      told old.place.endpoint (call_and_reply (view blank core) (Some (Iprobe (probe_seen p))))
      (core_ready (called old.place.endpoint core (Iprobe (probe_seen p))).core)
      ≡ Called old.place.endpoint (Iprobe (probe_seen p)) (Done (ForProbe (told_of old p))) ∷ []
  -- it finds none only where there is none
  pub finds : told_of old p ≡ None → HoldsNone core p

-- So it is while no call is blocked
abbrev pub LooksAreShown : Type 0
LooksAreShown =
    (a : Announcements) (old : CoreState) (known : List ℕ) (core : Core) (p : RoutedProbe) →
    IsShown a old known core → old.blocked ≡ None → IsLookedAt old core p

-- the first rule that a look breaks: while a call is blocked every one does (6), and else the probe's (3 and 5)
abbrev pub look_fault_at : Option Awaited → CoreState → RoutedProbe → Option Refusal
look_fault_at (Some a) c p = Some refusals.Request
look_fault_at None c p = probe_rule c.place.size p.route.named p.probe.tag

-- by the call that is blocked
abbrev pub look_fault : CoreState → RoutedProbe → Option Refusal
look_fault c p = look_fault_at c.blocked c p

-- It is the machine's fault, where there is one
abbrev pub LooksAreJudged : Type 0
LooksAreJudged =
    (a : Announcements) (old : CoreState) (known : List ℕ) (core : Core) (p : RoutedProbe) → IsShown a old known core →
    queue_fault old.place (view blank core) (Iprobe (probe_seen p)) ≡
    option_map number_of_refusal (look_fault old p)

-- A matching probe answers none only where there is none
abbrev pub SearchesFindAll : Type 0
SearchesFindAll =
    (a : Announcements) (old new : CoreState) (known : List ℕ) (core : Core) (p : RoutedProbe) →
    IsShown a old known core →
    Answers old (calls.Improbe p) (calls.Matched None) new → HoldsNone core p
