-- A world of engines follows the pure network through probes that take nothing out: each is answered at once, and
-- changes nothing.
use Rattle.std.proofs.Common.{◌≡◌, ℕ, ◌<◌, List, [], ◌∷◌, ◌++◌, Option, Some, None, option_map, sym, ap, subst, ◌∙◌}
use Rattle.std.proofs.Common.{append-nil, refl}
use Rattle.collective_steps.specs.declared.step.Ending.{Ending}
use Rattle.engine_calls.specs.EngineState.{EngineState, completion_by, completion_of, member_of}
use Rattle.engine_calls.specs.declared.call.Call.TheVariants as calls
use Rattle.point_to_point_calls.specs.declared.call.Probe.{Probe}
use Rattle.engine_calls.specs.declared.reply.Completion.{Completion}
use Rattle.engine_calls.specs.declared.reply.Reply.TheVariants as replies
use Rattle.incarnation.specs.declared.place.Place.{Place}
use Rattle.perfect_groups.specs.Calls as machine
use Rattle.perfect_groups.specs.Calls.{OfRequests, probe_on, queue_call}
use Rattle.perfect_groups.specs.Communicators.{Communicator}
use Rattle.perfect_groups.specs.Events.{Called, Entry, ready_by, told_of}
use Rattle.perfect_groups.specs.Membership.{Membership}
use Rattle.perfect_queues.specs.Calls as queues
use Rattle.perfect_queues.specs.Completions as completions
use Rattle.perfect_queues.specs.Events as queue_events
use Rattle.perfect_queues.specs.Events.{call_and_reply, told}
use Rattle.perfect_queues.specs.Receives as receives
use Rattle.proof_engine_steps.specs.Probes.{IsLookedAt, LooksAreShown}
use Rattle.observation.specs.CoreCalls.{probe_seen}
use Rattle.proof_group_network.specs.Happenings.{IsAfter, QueueCallsHappen, reply_of}
use Rattle.proof_group_network.specs.Network.{Ask, GroupNetwork, happens}
use Rattle.proof_link_truth.specs.Events.{RestIsTrue}
use Rattle.link_truth.specs.Wire.{in_job, place_of}
use Rattle.proof_pure_network.specs.Core.{Core, view}
use Rattle.proof_pure_network.specs.Engine.{called, core_ready, core_settled}
use Rattle.proof_pure_network.specs.WaitingMessages.{blank}
use Rattle.proof_pure_network.specs.Network.{here}
use Rattle.proof_session_carrying.specs.Announcements.{announcements_in}
use Rattle.proof_session_carrying.specs.MessageLaws.{OthersAreCarried}
use Rattle.vocabulary.specs.declared.endpoint.Endpoint.{Endpoint}
use Rattle.vocabulary.specs.declared.envelope.Status.{Status}
use Rattle.proof_network_bridge.specs.GoingOn.{LeavesFollowedOn}
use Rattle.proof_network_bridge.specs.WorldViews.{IsClean, IsHeldBy, network_after}
use Rattle.observation.specs.Sessions.{sessions_in}
use Rattle.observation.specs.EngineCalls.{call_seen, told_call, told_completion}
use Rattle.proof_network_bridge.proofs.Calls.{LeavesCalled, LooksFollow}
use Rattle.proof_network_bridge.proofs.CoreCalls.{answered_at_once}
use Rattle.proof_network_bridge.proofs.Probes.{IsLookedFor, looked_for}
use Rattle.proof_network_bridge.proofs.RankEvents as followed
use Rattle.proof_network_bridge.proofs.RankEvents.{followed_after}
use Rattle.proof_network_bridge.proofs.Machine.{TakenIsFaultless}
use Rattle.proof_network_bridge.proofs.Members.{held_same, named_same}
use Rattle.proof_network_bridge.proofs.Payloads.{said_same}
use Rattle.proof_network_bridge.proofs.Worlds.{is_at, only_same, place_is}

-- ---- which call of the queues it is

-- it is the same where the same communicators are held
named_there : (a b : Membership) (p : Probe) → a.held ≡ b.held → queue_call a (call_seen (calls.Iprobe p)) ≡
    queue_call b (call_seen (calls.Iprobe p))
named_there a b p held =
    ap (option_map (λ (c : Communicator). queues.Iprobe (probe_on c p.source p.tag))) (named_same a b p.comm held)

-- ---- what is seen of it

-- the reply that the queues' history tells is the machine's
replied : (e : Endpoint) (q : receives.Probe) (c : machine.Call) (found : Option Status)
    (ready : Option (completions.Answer × List ℕ)) →
    told e (Some (queues.Iprobe q, None)) ready ≡
    queue_events.Called e (queues.Iprobe q) (queues.Done (completions.ForProbe found)) ∷ [] →
    told_of e (Some (c, None)) (ready_by None ready) ≡
    Called e c (OfRequests (queues.Done (completions.ForProbe found))) ∷ []
replied e q c found (Some (a, ks)) is =
    let same : a ≡ completions.ForProbe found = cc in
    ap (λ (x : completions.Answer). Called e c (OfRequests (queues.Done x)) ∷ []) same
replied e q c found None is = absurd cc

-- ---- what follows

pub looks_follow : LooksAreShown → RestIsTrue → QueueCallsHappen → OthersAreCarried → TakenIsFaultless → LooksFollow
looks_follow shows rest happen carried taken n r engines datagrams history old mid p found f there given =
    subst (λ (e : EngineState). LeavesCalled n f.limit f.happenings engines datagrams r history old e (calls.Iprobe p)
    (replies.Probed found)) (sym given.unchanged)
    (subst (λ (es : List Entry). LeavesFollowedOn n f.limit f.happenings engines datagrams r old (history ++ es))
    entries_are
    (followed_after n r engines datagrams history _ old (Ask r c) core w.net.link (w.member own) w.notices f.joined.said
    f.joined.texts f.joined.sessions f after
    (carried w (happens n w (Ask r c)) f.joined.said f.joined.texts f.joined.sessions own core
    (w.member own) _ f.joined.between after) (only_same f.joined.sessions own)
    (rest n r (sessions_in engines) datagrams f.joined.texts w.net.current old.sessions f.joined.links
    (is_at n r engines datagrams w old f.joined there))
    (followed.held_at n r engines datagrams w old f.joined there) (said_same f.joined.said)
    (f.joined.payloads r old there) refl old there refl))
  where
    w : GroupNetwork
    w = network_after n f.limit f.happenings

    own : Endpoint
    own = here w.net r

    core : Core
    core = w.net.core own

    c : machine.Call
    c = call_seen (calls.Iprobe p)

    at_own : IsHeldBy w f.joined.sessions r old
    at_own = f.joined.held r old there

    place : (r < n) × (old.sessions.place ≡ in_job old.sessions.place.message_limit (place_of n own))
    place = place_is n r engines datagrams w old f.joined there

    l : IsLookedFor old p found
    l = looked_for old mid p found given

    q : receives.Probe
    q = probe_seen l.asked

    -- its core's place is the endpoint's
    at_place : old.core.place.endpoint ≡ own
    at_place = ap (λ (x : Place). x.endpoint) (at_own.placed ∙ place.1)

    shown : IsLookedAt old.core core l.asked
    shown = shows (announcements_in 0 f.joined.sessions own) old.core old.sessions.known core l.asked
        (at_own.queues 0) l.idle

    stays : core_settled (called own core (queues.Iprobe q)).core ≡ core
    stays = ap (λ (x : Endpoint). core_settled (called x core (queues.Iprobe q)).core) (sym at_place) ∙ shown.stays

    tells : told own (call_and_reply (view blank core) (Some (queues.Iprobe q)))
        (core_ready (called own core (queues.Iprobe q)).core)
        ≡ queue_events.Called own (queues.Iprobe q) (queues.Done (completions.ForProbe found)) ∷ []
    tells =
        subst (λ (x : Endpoint). told x (call_and_reply (view blank core) (Some (queues.Iprobe q)))
        (core_ready (called x core (queues.Iprobe q)).core)
        ≡ queue_events.Called x (queues.Iprobe q) (queues.Done (completions.ForProbe found)) ∷ []) at_place
        (shown.tells ∙
        ap (λ (o : Option Status). queue_events.Called old.core.place.endpoint (queues.Iprobe q)
        (queues.Done (completions.ForProbe o)) ∷ []) l.told)

    queued : queue_call (w.member own).membership c ≡ Some (queues.Iprobe q)
    queued = named_there (w.member own).membership (member_of old.groups) p
        (held_same own old.groups (w.member own) at_own.groups) ∙ l.named

    -- what is seen once it happened
    entries : List Entry
    entries =
        told_of own (Some (c, reply_of w r c)) (ready_by None (core_ready (called own core (queues.Iprobe q)).core))

    after : IsAfter w (happens n w (Ask r c)) own core w.net.link (w.member own) w.notices entries
    after =
        subst (λ (x : Core). IsAfter w (happens n w (Ask r c)) own x w.net.link (w.member own) w.notices entries) stays
        (happen n r w c (queues.Iprobe q) place.0
        (taken n r engines datagrams history old mid (calls.Iprobe p) (replies.Probed found) f there tt given).none
        queued)

    clean : IsClean old
    clean = f.joined.clean r old there

    none : completion_of old ≡ None
    none = ap (λ (o : Option Ending). completion_by o old.core.completion) clean.ended ∙
        ap (completion_by None) clean.completion

    entries_are : entries ≡ told_call old.sessions.place.endpoint (calls.Iprobe p) (Some (replies.Probed found)) ++
        told_completion old.sessions.place.endpoint (completion_of old)
    entries_are =
        ap (λ (o : Option machine.Reply). told_of own (Some (c, o))
        (ready_by None (core_ready (called own core (queues.Iprobe q)).core)))
        (answered_at_once own (view blank core) (w.member own).membership c (queues.Iprobe q) queued)
        ∙ replied own q c found (core_ready (called own core (queues.Iprobe q)).core) tells
        ∙ ap (λ (x : Place). told_call x.endpoint (calls.Iprobe p) (Some (replies.Probed found))) (sym place.1)
        ∙ sym (append-nil (told_call old.sessions.place.endpoint (calls.Iprobe p) (Some (replies.Probed found))))
        ∙ ap (λ (o : Option Completion). told_call old.sessions.place.endpoint (calls.Iprobe p)
        (Some (replies.Probed found)) ++ told_completion old.sessions.place.endpoint o) (sym none)
