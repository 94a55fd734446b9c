-- What an engine's probe asks of its core; and where the engine answers it with none, its core in the pure network
-- holds no message that such a receive would take.
use Rattle.std.proofs.Common.{◌≡◌, Bool, ◌||◌, Option, Some, None, is_some, option_map, refl, sym, ap, subst, ◌∙◌}
use Rattle.std.specs.Prelude.{option_and_then}
use Rattle.std.proofs.lemmas.Option.{same_Some}
use Rattle.communicators.specs.Routes.{RouteText, route_on}
use Rattle.engine_calls.specs.Calls.{CallGives, IsLooked}
use Rattle.engine_calls.specs.EngineState.{EngineState, member_of}
use Rattle.engine_calls.specs.Faults.{broken, free_fault, is_busy}
use Rattle.engine_calls.specs.Routes.{probe_by}
use Rattle.engine_calls.specs.declared.call.Call.TheVariants as calls
use Rattle.point_to_point_calls.specs.declared.call.Probe.{Probe}
use Rattle.engine_calls.specs.declared.reply.Reply.TheVariants as replies
use Rattle.perfect_groups.specs.Calls.{held_at, probe_on, queue_call}
use Rattle.perfect_groups.specs.Communicators.{Communicator}
use Rattle.perfect_groups.specs.Faults.{is_within}
use Rattle.perfect_queues.specs.Calls as queues
use Rattle.perfect_queues.specs.Receives as receives
use Rattle.perfect_queues.specs.Receives.{such_receive}
use Rattle.proof_engine_steps.specs.Probes.{LooksAreShown, SearchesFindAll, told_of as told_of_probe}
use Rattle.observation.specs.CoreCalls.{probe_seen}
use Rattle.proof_engine_view.specs.CoreViews.{IsShown}
use Rattle.proof_engine_view.specs.Transfers.{Announcements}
use Rattle.proof_pure_network.specs.Core.{Core}
use Rattle.proof_pure_network.specs.Matches.{found}
use Rattle.point_to_point_calls.specs.CoreCalls as core_calls
use Rattle.point_to_point_calls.specs.declared.call.RoutedProbe as core_probes
use Rattle.point_to_point_calls.specs.declared.refusal.Refusal.TheVariants as refusals
use Rattle.point_to_point.specs.Calls.{Answers}
use Rattle.point_to_point.specs.Messages.{looked}
use Rattle.requests.specs.declared.awaited_requests.Awaited.{Awaited}
use Rattle.vocabulary.specs.declared.envelope.Status.{Status}
use Rattle.observation.specs.EngineCalls.{call_seen}
use Rattle.proof_network_bridge.proofs.Halves.{neither_fault}

-- nothing is blocked where it isn't busy
pub idle_by : (o : Option Awaited) (within : Bool) → broken (is_some o || within) refusals.Request ≡ None → o ≡ None
idle_by None within h = refl
idle_by (Some a) within h = absurd cc

-- ---- what the core is looked for

-- what an engine tells of a probe its core told of this one, which the probe is in the machine
pub record IsLookedFor (e : EngineState) (p : Probe) (found : Option Status) : Type 0 where
  pub asked : core_probes.RoutedProbe
  pub told : told_of_probe e.core asked ≡ found
  pub named : queue_call (member_of e.groups) (call_seen (calls.Iprobe p)) ≡ Some (queues.Iprobe (probe_seen asked))
  -- no earlier call is blocked
  pub idle : e.core.blocked ≡ None

pub looked_for : (e mid : EngineState) (p : Probe) (found : Option Status) → IsLooked e p found mid →
    IsLookedFor e p found
looked_for e mid p found given = go (held_at (member_of e.groups) p.comm) refl given.found_is
  where
    idle : e.core.blocked ≡ None
    idle = idle_by e.core.blocked (is_within (member_of e.groups).present)
        (neither_fault (broken (is_busy e) refusals.Request) (free_fault e (calls.Iprobe p)) given.allowed).0

    go : (o : Option Communicator) → held_at (member_of e.groups) p.comm ≡ o →
        option_map (λ (r : RouteText). looked e.core r.named p.tag r.context r.group) (option_map (route_on p.source) o)
        ≡ Some found → IsLookedFor e p found
    go None at is = absurd cc
    go (Some c) at is =
        record {
          asked = probe_by p (route_on p.source c);
          told = same_Some (told_of_probe e.core (probe_by p (route_on p.source c))) found is;
          named = ap (option_map (λ (c : Communicator). queues.Iprobe (probe_on c p.source p.tag))) at;
          idle = idle;
        }

-- ---- a probe that is answered with none

-- the probe that the machine looks for
abbrev looked_probe : queues.Call → Option receives.Probe
looked_probe (queues.Iprobe q) = Some q
looked_probe (queues.Improbe q) = Some q
looked_probe _ = None

-- one call of the queues is of one probe
same_probe : (a b : Option queues.Call) (x y : receives.Probe) → a ≡ b → option_and_then looked_probe a ≡ Some x →
    option_and_then looked_probe b ≡ Some y → x ≡ y
same_probe a b x y same is_x is_y = same_Some x y (sym is_x ∙ ap (option_and_then looked_probe) same ∙ is_y)

-- one that looks
pub looks_in_vain : LooksAreShown →
    (a : Announcements) (e mid : EngineState) (core : Core) (p : Probe) (q : receives.Probe) →
    IsShown a e.core e.sessions.known core →
    queue_call (member_of e.groups) (call_seen (calls.Iprobe p)) ≡ Some (queues.Iprobe q) →
    CallGives e (calls.Iprobe p) (replies.Probed None) mid → found (such_receive q) core.held ≡ None
looks_in_vain shows a e mid core p q shown seen gives =
    let l : IsLookedFor e p None = looked_for e mid p None gives in
    subst (λ (x : receives.Probe). found (such_receive x) core.held ≡ None)
    (same_probe (queue_call (member_of e.groups) (call_seen (calls.Iprobe p)))
    (queue_call (member_of e.groups) (call_seen (calls.Iprobe p))) (probe_seen l.asked) q refl
    (ap (option_and_then looked_probe) l.named) (ap (option_and_then looked_probe) seen))
    ((shows a e.core e.sessions.known core l.asked shown l.idle).finds l.told)

-- one that takes a message out
pub searches_in_vain : SearchesFindAll →
    (a : Announcements) (e mid : EngineState) (core : Core) (p : Probe) (q : receives.Probe) →
    IsShown a e.core e.sessions.known core →
    queue_call (member_of e.groups) (call_seen (calls.Improbe p)) ≡ Some (queues.Improbe q) →
    CallGives e (calls.Improbe p) (replies.Matched None) mid → found (such_receive q) core.held ≡ None
searches_in_vain finds a e mid core p q shown seen gives =
    go (held_at (member_of e.groups) p.comm) refl gives.routed seen
  where
    answers : (asked : core_calls.RoutedCall) → asked ≡ gives.asked →
        Answers e.core asked (core_calls.Matched None) mid.core
    answers asked is =
        subst (λ (x : core_calls.RoutedCall). Answers e.core x (core_calls.Matched None) mid.core) (sym is)
        (subst (λ (y : core_calls.CoreReply). Answers e.core gives.asked y mid.core)
        (sym (same_Some (core_calls.Matched None) gives.answer gives.told)) gives.core)

    go : (o : Option Communicator) → held_at (member_of e.groups) p.comm ≡ o →
        option_map (λ (r : RouteText). core_calls.Improbe (probe_by p r)) (option_map (route_on p.source) o) ≡
        Some gives.asked →
        option_map (λ c. queues.Improbe (probe_on c p.source p.tag)) o ≡ Some (queues.Improbe q) →
        found (such_receive q) core.held ≡ None
    go None at routed is = absurd cc
    go (Some c) at routed is =
        subst (λ (x : receives.Probe). found (such_receive x) core.held ≡ None)
        (same_Some (probe_on c p.source p.tag) q (ap (option_and_then looked_probe) is))
        (finds a e.core mid.core e.sessions.known core (probe_by p (route_on p.source c)) shown
        (answers (core_calls.Improbe (probe_by p (route_on p.source c)))
        (same_Some (core_calls.Improbe (probe_by p (route_on p.source c))) gives.asked routed)))
