-- A world of engines follows the pure network through questions about communicators.
use Rattle.std.proofs.Common.{◌≡◌, ◌<◌, List, ◌++◌, Option, Some, None, option_map, refl, sym, ap, subst, ◌∙◌}
use Rattle.std.proofs.Common.{append-nil}
use Rattle.collective_steps.specs.declared.step.Ending.{Ending}
use Rattle.communicators.specs.Questions.{question_of}
use Rattle.engine_calls.specs.Calls.{fact_said}
use Rattle.engine_calls.specs.EngineState.{EngineState, completion_by, completion_of, member_of}
use Rattle.engine_calls.specs.declared.call.Call.TheVariants as calls
use Rattle.engine_calls.specs.declared.reply.Completion.{Completion}
use Rattle.engine_calls.specs.declared.reply.Reply.TheVariants as replies
use Rattle.incarnation.specs.declared.place.Place.{Place}
use Rattle.perfect_groups.specs.Calls as machine
use Rattle.perfect_groups.specs.Calls.{Inquire, OfFact, fact_of, held_at}
use Rattle.perfect_groups.specs.Communicators.{Communicator}
use Rattle.perfect_groups.specs.Events.{Entry, told_of}
use Rattle.perfect_groups.specs.Membership.{Membership}
use Rattle.proof_group_network.specs.Happenings.{IsAfter, QuestionsHappen, reply_of}
use Rattle.proof_group_network.specs.Network.{Ask, GroupNetwork, happens}
use Rattle.proof_link_truth.specs.Events.{RestIsTrue}
use Rattle.link_truth.specs.Wire.{in_job, place_of}
use Rattle.proof_pure_network.specs.Network.{here}
use Rattle.proof_session_carrying.specs.MessageLaws.{OthersAreCarried}
use Rattle.vocabulary.specs.declared.endpoint.Endpoint.{Endpoint}
use Rattle.proof_network_bridge.specs.GoingOn.{LeavesFollowedOn}
use Rattle.proof_network_bridge.specs.WorldViews.{IsClean, IsHeldBy, network_after}
use Rattle.observation.specs.Sessions.{sessions_in}
use Rattle.observation.specs.EngineCalls.{told_call, told_completion}
use Rattle.proof_network_bridge.proofs.Calls.{LeavesCalled, QuestionsFollow}
use Rattle.proof_network_bridge.proofs.RankEvents as followed
use Rattle.proof_network_bridge.proofs.RankEvents.{followed_after}
use Rattle.proof_network_bridge.proofs.Machine.{TakenIsFaultless}
use Rattle.proof_network_bridge.proofs.Members.{held_same, named_same}
use Rattle.proof_network_bridge.proofs.Payloads.{said_same}
use Rattle.proof_network_bridge.proofs.Worlds.{is_at, only_same, place_is}

-- a question is answered by what is held
fact_same : (e : Endpoint) (a b : Membership) (c : Communicator) (q : machine.Question) → a.held ≡ b.held →
    fact_of e a c q ≡ fact_of e b c q
fact_same e a b c machine.RankIn held = refl
fact_same e a b c machine.SizeOf held = refl
fact_same e a b c machine.GroupIs held = refl
fact_same e a b c (machine.ComparedWith other) held =
    ap (λ (o : Option Communicator). machine.Compares (machine.compared c o)) (named_same a b other held)

-- so is its answer, where there is one
facts_same : (e : Endpoint) (a b : Membership) (o : Option Communicator) (q : machine.Question) → a.held ≡ b.held →
    option_map (λ (c : Communicator). OfFact (fact_of e a c q)) o ≡
    option_map OfFact (option_map (λ (c : Communicator). fact_of e b c q) o)
facts_same e a b None q held = refl
facts_same e a b (Some c) q held = ap (λ (x : machine.Fact). Some (OfFact x)) (fact_same e a b c q held)

pub questions_follow : RestIsTrue → QuestionsHappen → OthersAreCarried → TakenIsFaultless → QuestionsFollow
questions_follow rest happen carried taken n r engines datagrams history old mid comm q fact f there told =
    subst (λ (e : EngineState). LeavesCalled n f.limit f.happenings engines datagrams r history old e (calls.Ask comm q)
    (replies.Fact fact)) (sym told.unchanged)
    (subst (λ (es : List Entry). LeavesFollowedOn n f.limit f.happenings engines datagrams r old (history ++ es))
    entries_are
    (followed_after n r engines datagrams history _ old (Ask r (Inquire comm (question_of q)))
    (w.net.core own) w.net.link (w.member own) w.notices f.joined.said f.joined.texts f.joined.sessions f after
    (carried w (happens n w (Ask r (Inquire comm (question_of q)))) f.joined.said f.joined.texts f.joined.sessions own
    (w.net.core own) (w.member own) _ f.joined.between after) (only_same f.joined.sessions own)
    (rest n r (sessions_in engines) datagrams f.joined.texts w.net.current old.sessions f.joined.links
    (is_at n r engines datagrams w old f.joined there))
    (followed.held_at n r engines datagrams w old f.joined there) (said_same f.joined.said)
    (f.joined.payloads r old there) refl old there refl))
  where
    w : GroupNetwork
    w = network_after n f.limit f.happenings

    own : Endpoint
    own = here w.net r

    at_own : IsHeldBy w f.joined.sessions r old
    at_own = f.joined.held r old there

    place : (r < n) × (old.sessions.place ≡ in_job old.sessions.place.message_limit (place_of n own))
    place = place_is n r engines datagrams w old f.joined there

    same : (w.member own).membership.held ≡ (member_of old.groups).held
    same = held_same own old.groups (w.member own) at_own.groups

    after : IsAfter w (happens n w (Ask r (Inquire comm (question_of q)))) own (w.net.core own) w.net.link
        (w.member own) w.notices
        (told_of own (Some (Inquire comm (question_of q), reply_of w r (Inquire comm (question_of q)))) None)
    after = happen n r w comm (question_of q) place.0
        (taken n r engines datagrams history old mid (calls.Ask comm q) (replies.Fact fact) f there tt told).none

    -- what the network answers is what the engine says
    answers : reply_of w r (Inquire comm (question_of q)) ≡ Some (OfFact (fact_said fact))
    answers =
        facts_same own (w.member own).membership (member_of old.groups) (held_at (w.member own).membership comm)
        (question_of q) same
        ∙ ap (λ (o : Option Communicator). option_map OfFact
        (option_map (λ (c : Communicator). fact_of own (member_of old.groups) c (question_of q)) o))
        (named_same (w.member own).membership (member_of old.groups) comm same)
        ∙ ap (λ (e : Endpoint). option_map OfFact
        (option_map (λ (c : Communicator). fact_of e (member_of old.groups) c (question_of q))
        (held_at (member_of old.groups) comm))) (sym at_own.groups.own)
        ∙ ap (option_map OfFact) told.fact_is

    clean : IsClean old
    clean = f.joined.clean r old there

    none : completion_of old ≡ None
    none = ap (λ (o : Option Ending). completion_by o old.core.completion) clean.ended ∙
        ap (completion_by None) clean.completion

    entries_are : told_of own (Some (Inquire comm (question_of q), reply_of w r (Inquire comm (question_of q)))) None
        ≡ told_call old.sessions.place.endpoint (calls.Ask comm q) (Some (replies.Fact fact)) ++
        told_completion old.sessions.place.endpoint (completion_of old)
    entries_are =
        ap (λ (o : Option machine.Reply). told_of own (Some (Inquire comm (question_of q), o)) None) answers
        ∙ ap (λ (p : Place). told_call p.endpoint (calls.Ask comm q) (Some (replies.Fact fact))) (sym place.1)
        ∙ sym (append-nil (told_call old.sessions.place.endpoint (calls.Ask comm q) (Some (replies.Fact fact))))
        ∙ ap (λ (o : Option Completion). told_call old.sessions.place.endpoint (calls.Ask comm q)
        (Some (replies.Fact fact)) ++ told_completion old.sessions.place.endpoint o) (sym none)
