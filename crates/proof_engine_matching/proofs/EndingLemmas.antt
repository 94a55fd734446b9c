-- A receive ends alike.
use Rattle.std.proofs.Common.{◌≡◌, Bool, true, false, ◌&&◌, nat_le, List, length, refl, sym, subst, if◌then◌else◌}
use Rattle.layouts.specs.Buffers.{is_same_type}
use Rattle.perfect_queues.specs.Buffers.{filled, places_in}
use Rattle.perfect_queues.specs.Outcomes as machine
use Rattle.perfect_queues.specs.Receives.{Receive}
use Rattle.datatypes.specs.Contents.{Contents}
use Rattle.match_queues.specs.declared.envelope.Message.{Message}
use Rattle.match_queues.specs.declared.envelope.OwnSend.{OwnSend}
use Rattle.match_queues.specs.declared.envelope.Body.{Body}
use Rattle.match_queues.specs.declared.envelope.Body.TheVariants.{Own, Whole}
use Rattle.proof_pure_network.specs.WaitingMessages.{full}
use Rattle.requests.specs.Outcomes.{outcome_of}
use Rattle.communicator_members.specs.Statuses.{status_in}
use Rattle.proof_engine_view.specs.Rows.{held_of}
use Rattle.vocabulary.specs.declared.endpoint.Endpoint.{Endpoint}
use Rattle.proof_engine_view.specs.Transfers.{Transfer}
use Rattle.vocabulary.specs.declared.envelope.Status.{Status}
use Rattle.requests.specs.declared.outcome.Failure.TheVariants.{WrongType, Truncated}
use Rattle.requests.specs.declared.outcome.Outcome.TheVariants as outcomes
use Rattle.point_to_point_calls.specs.ReceiveMatches.{status_of}
use Rattle.observation.specs.CoreCalls.{outcome_seen}
use Rattle.proof_engine_matching.specs.Matches.{OutcomesAgree, OwnOutcomesAgree}

-- by whether the types are one and whether the message has room
ends : (same room : Bool) (status : Status) (told buffer : Contents) →
    ◌≡◌ {A = machine.Outcome} (if same && room then machine.Received status told else
    machine.Ended (if same then 10 else 2) status buffer)
    (outcome_seen (if same then
    (if room then outcomes.Received status told else outcomes.Ended Truncated status buffer) else
    outcomes.Ended WrongType status buffer))
ends true true status told buffer = refl
ends true false status told buffer = refl
ends false room status told buffer = refl

-- a message with this body
abbrev with_body : Message → Body → Message
with_body m b = record m { body = b }

-- how a receive ends with a message that is whole
whole_ends : (from : Endpoint → List Transfer) (p : Receive) (m : Message) (c : Contents) →
    machine.outcome p (full (held_of from (with_body m (Whole c))) c.values)
    ≡ outcome_seen (outcome_of p.into (status_in p.group (status_of (with_body m (Whole c)))) c)
whole_ends from p m c =
    ends (is_same_type p.into.buffer.basic c.basic) (nat_le (length c.values) (length (places_in p.into)))
    (status_in p.group (status_of (with_body m (Whole c)))) (filled p.into c.values) p.into.buffer

-- the law of outcomes
pub outcomes_agree : OutcomesAgree
outcomes_agree from p m c is =
    subst (λ (b : Body). machine.outcome p (full (held_of from (with_body m b)) c.values) ≡
    outcome_seen (outcome_of p.into (status_in p.group (status_of (with_body m b))) c)) (sym is)
    (whole_ends from p m c)

-- how it ends with one of the rank's own
own_ends : (from : Endpoint → List Transfer) (p : Receive) (m : Message) (o : OwnSend) →
    machine.outcome p (full (held_of from (with_body m (Own o))) o.elements.values)
    ≡ outcome_seen (outcome_of p.into (status_in p.group (status_of (with_body m (Own o)))) o.elements)
own_ends from p m o =
    ends (is_same_type p.into.buffer.basic o.elements.basic)
    (nat_le (length o.elements.values) (length (places_in p.into)))
    (status_in p.group (status_of (with_body m (Own o)))) (filled p.into o.elements.values) p.into.buffer

-- the law of their outcomes
pub own_outcomes_agree : OwnOutcomesAgree
own_outcomes_agree from p m o is =
    subst (λ (b : Body). machine.outcome p (full (held_of from (with_body m b)) o.elements.values) ≡
    outcome_seen (outcome_of p.into (status_in p.group (status_of (with_body m b))) o.elements)) (sym is)
    (own_ends from p m o)
