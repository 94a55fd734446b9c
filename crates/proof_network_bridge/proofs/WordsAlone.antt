-- A word of a collective that brings no notice: it leaves the rank as a word alone does, and what goes out for it
-- announces nothing.
use Rattle.std.proofs.Common.{◌≡◌, ℕ, Bool, true, false, ◌&&◌, List, [], ◌∷◌, ◌++◌, Option, Some, None, if◌then◌else◌}
use Rattle.std.proofs.Common.{refl, sym, ap, subst, ◌∙◌, append-nil}
use Rattle.std.specs.List.{AllByRecursion}
use Rattle.std.proofs.lemmas.Bool.{and_parts}
use Rattle.collective_steps.specs.declared.step.Ending.{Ending}
use Rattle.datagram.specs.Spellings.{FrameText, OutgoingText}
use Rattle.engine.specs.Datagrams.{frame_in, numbers_met}
use Rattle.engine_calls.specs.EngineState.{EngineState, GroupsState}
use Rattle.engine_calls.specs.Refusals.{fault_of_sessions}
use Rattle.perfect_queues.proofs.EndpointLemmas.{same_eq}
use Rattle.proof_collective_steps.specs.MemberViews as collectives
use Rattle.proof_engine_steps.proofs.UnderWay.{others_may_announce}
use Rattle.proof_engine_view.specs.CoreViews.{IsShown}
use Rattle.proof_engine_view.specs.Transfers.{Announcements}
use Rattle.proof_group_network.proofs.MidwaySteps.{words_come}
use Rattle.proof_group_network.proofs.SessionParts.{same_accepted}
use Rattle.proof_group_network.specs.SessionContents.{Carried, Sessions}
use Rattle.proof_group_network.specs.Happenings.{IsAfter, met_core}
use Rattle.proof_group_network.specs.Midway.{unsettled}
use Rattle.proof_group_network.specs.Network.{GroupNetwork}
use Rattle.proof_group_network.specs.NoticesStand.{heard_member}
use Rattle.proof_link_truth.specs.Events.{MaySendAll, all_addressed}
use Rattle.endpoint_links.specs.Links.{LinksOf, accept, accept_all, handed_on}
use Rattle.proof_pure_network.specs.Core.{Core}
use Rattle.proof_pure_network.specs.Network.{here}
use Rattle.proof_session_carrying.proofs.AnnouncementLaws.{announced_append, same_begins}
use Rattle.proof_session_carrying.specs.Announcements.{Announced, all_announced, announced_by, announced_in}
use Rattle.proof_session_carrying.specs.Announcements.{announcements_in, transfers_as}
use Rattle.proof_session_carrying.specs.EventLaws.{AreJoined}
use Rattle.point_to_point.specs.CoreState.{CoreState}
use Rattle.point_to_point.specs.Arrivals as core
use Rattle.rendezvous.specs.State as transfers
use Rattle.sessions.specs.Events as below_events
use Rattle.sessions.specs.Events.{after_event, event_limit, heard_limit, sends_limit}
use Rattle.sessions.specs.HeardBytes.{HeardText}
use Rattle.sessions.specs.SessionsState.{SessionsState}
use Rattle.vocabulary.specs.Endpoints.{is_same}
use Rattle.vocabulary.specs.declared.endpoint.Endpoint.{Endpoint}
use Rattle.proof_network_bridge.specs.Payloads.{ArePayloads}
use Rattle.proof_network_bridge.proofs.Halves.{Keeps, no_limit, sends_keep}
use Rattle.proof_network_bridge.proofs.Midway.{IsHearing, IsOpen, IsStepped, opened, stepped}
use Rattle.proof_network_bridge.proofs.Opens.{taught_nothing}
use Rattle.proof_network_bridge.proofs.Payloads.{said_same}
use Rattle.proof_network_bridge.proofs.Words.{hands_on, second_none, transfers_taught}
use Rattle.proof_network_bridge.proofs.Worlds.{only_handed}

-- ---- the numbers of transfers

-- they are those that the core has once it learnt the lesson
pub numbers_there : (c : CoreState) (h : HeardText) → numbers_met c h ≡
    (core.after_lesson h.lesson c h.source).transfers.numbers
numbers_there c h = ap (λ (t : transfers.State). t.numbers) (sym (transfers_taught h.lesson c h.source))

-- ---- what announces nothing

-- what goes out announces nothing
abbrev pub IsSilent : Endpoint × Carried → Type 0
IsSilent x = (rest : List Announced) → announced_by x.1 rest ≡ rest

-- one that does goes out
one_silent : (sessions : Sessions) (e d : Endpoint) (c : Carried) → announced_by c [] ≡ [] →
    (a b : Endpoint) → all_announced (accept sessions e (d, c)) a b ≡ all_announced sessions a b
one_silent sessions e d c none a b = go (is_same a e && is_same b d) refl
  where
    go : (t : Bool) → (is_same a e && is_same b d) ≡ t →
        announced_in (if t then record (sessions e d) { accepted = (sessions e d).accepted ++ c ∷ [] } else
        sessions a b).accepted ≡ announced_in (sessions a b).accepted
    go false is = refl
    go true is =
        let p = and_parts (is_same a e) (is_same b d) is in
        announced_append (sessions e d).accepted (c ∷ []) ∙
        ap (λ (xs : List Announced). announced_in (sessions e d).accepted ++ xs) none ∙
        append-nil (announced_in (sessions e d).accepted)
        ∙ ap (λ (z : Endpoint). announced_in (sessions z d).accepted) (sym (same_eq a e p.0)) ∙
        ap (λ (z : Endpoint). announced_in (sessions a z).accepted) (sym (same_eq b d p.1))

-- and several
pub all_silent : (sessions : Sessions) (e : Endpoint) (out : List (Endpoint × Carried)) → AllByRecursion IsSilent out →
    (a b : Endpoint) → all_announced (accept_all sessions e out) a b ≡ all_announced sessions a b
all_silent sessions e [] all a b = refl
all_silent sessions e ((d, c) ∷ out) all a b = all_silent (accept sessions e (d, c)) e out all.1 a b ∙
    one_silent sessions e d c (all.0 []) a b

-- where the same was announced, the same is held
shown_still : (serial : ℕ) (old new : Sessions) (own : Endpoint) (c : CoreState) (known : List ℕ) (core : Core) →
    ((a b : Endpoint) → all_announced new a b ≡ all_announced old a b) →
    IsShown (announcements_in serial old own) c known core →
    IsShown (announcements_in serial new own) c known core
shown_still serial old new own c known core same h =
    others_may_announce (announcements_in serial old own) (announcements_in serial new own) c known core h
    (record {
      to = λ d. same_begins (transfers_as serial (all_announced old own d))
          (transfers_as serial (all_announced new own d)) (ap (transfers_as serial) (sym (same own d)));
      from = λ s. same_begins (transfers_as serial (all_announced old s own))
          (transfers_as serial (all_announced new s own)) (ap (transfers_as serial) (sym (same s own)));
    })
    (λ d. ap (transfers_as serial) (same own d))

-- ---- an engine that took the word in

-- Beside its payloads the engine is as a word alone leaves it, but that its core may have counted a transfer; these
-- frames are sent
pub record IsAlone (old mid : EngineState) (h : HeardText) (sendings : List OutgoingText) : Type 0 where
  pub queues : (a : Announcements) (known : List ℕ) (core : Core) → IsShown a (opened old h).core known core →
      IsShown a mid.core known core
  pub place : mid.core.place ≡ (opened old h).core.place
  pub completion : mid.core.completion ≡ (opened old h).core.completion
  pub groups : mid.groups ≡ (opened old h).groups
  pub ended : mid.ended ≡ (opened old h).ended
  pub sessions : mid.sessions ≡ after_event old.sessions (Some h) sendings

-- A word of a collective that brings no notice is followed, where what is sent for it stands for what goes out, and the
-- payloads are then notices of the sessions
pub alone_step : (n r : ℕ) (engines : List EngineState) (u : GroupNetwork) (T : SessionsState → LinksOf FrameText →
    Type 0) (old mid : EngineState) (h : HeardText) (b : FrameText) (sendings : List OutgoingText)
    (out : List (Endpoint × Carried)) →
    (x : IsHearing n r engines u T old h) → frame_in h.word ≡ Some b → IsAlone old mid h sendings →
    MaySendAll n r sendings → fault_of_sessions (event_limit old.sessions (Some h) sendings) ≡ None →
    AllByRecursion IsSilent out →
    ((after : GroupNetwork) →
    IsAfter u after (here u.net r) (met_core u r h.source) u.net.link (heard_member u r h.source) u.notices [] →
    AreJoined after x.opens.said
    (accept_all (handed_on x.texts h.source (here u.net r)) (here u.net r)
    (all_addressed (opened old h).sessions.known sendings))
    (accept_all (handed_on x.opens.sessions h.source (here u.net r)) (here u.net r) out)) →
    ArePayloads u.net.message_limit (accept_all (handed_on x.opens.sessions h.source (here u.net r)) (here u.net r) out)
    x.opens.said
    (here u.net r) (opened old h).sessions.known mid.payloads →
    IsStepped n r engines u h.source T mid
alone_step n r engines u T old mid h b sendings out x is alone may fine silent carried kept =
    stepped n r 0 [] engines u s T e mid (met_core u r s) u.net.link (heard_member u r s) u.notices x.texts o.said
    (accept_all (handed_on x.texts s own) own gone) sessions o comes
    (carried (unsettled u own s 0 []) comes) (only_handed o.sessions s own out) (said_same o.said) leaves
    (taught_nothing u r s sessions mid ((o.held.queues 0).known_alike s.rank ∙ o.known) (record {
      queues = λ serial. shown_still serial o.sessions sessions own mid.core mid.sessions.known
          (u.net.core own) same_announced
          (alone.queues (announcements_in serial o.sessions own) mid.sessions.known (u.net.core own)
          (subst (λ (known : List ℕ). IsShown (announcements_in serial o.sessions own) e.core known (u.net.core own))
          (sym known_is) (o.held.queues serial)));
      groups = subst (λ (g : GroupsState). collectives.IsShown own g.collective g.contexts (u.member own) mid.ended)
          (sym alone.groups)
          (subst (λ (given : Option Ending). collectives.IsShown own e.groups.collective e.groups.contexts
          (u.member own) given) (sym alone.ended) o.held.groups);
      placed = alone.place ∙ o.held.placed ∙ sym (ap (λ (t : SessionsState). t.place) alone.sessions ∙ keeps.place);
    }))
    (alone.completion ∙ o.completion)
    (subst (λ (k : List ℕ). ArePayloads u.net.message_limit sessions o.said own k mid.payloads) (sym known_is) kept)
    (ap (λ (t : SessionsState). t.place) alone.sessions ∙ keeps.place)
  where
    own : Endpoint
    own = here u.net r

    s : Endpoint
    s = h.source

    e : EngineState
    e = opened old h

    o : IsOpen n r engines u.net.current u x.texts s e
    o = x.opens

    sessions : Sessions
    sessions = accept_all (handed_on o.sessions s own) own out

    gone : List (Endpoint × FrameText)
    gone = all_addressed e.sessions.known sendings

    comes : IsAfter u (unsettled u own s 0 []) own (met_core u r s) u.net.link (heard_member u r s) u.notices []
    comes = words_come r u s

    same_announced : (y z : Endpoint) → all_announced sessions y z ≡ all_announced o.sessions y z
    same_announced y z = all_silent (handed_on o.sessions s own) own out silent y z ∙
        ap announced_in (same_accepted o.sessions s own y z)

    keeps : Keeps (below_events.after_heard old.sessions (Some h)) (after_event old.sessions (Some h) sendings)
    keeps = sends_keep (below_events.after_heard old.sessions (Some h)) sendings

    known_is : mid.sessions.known ≡ e.sessions.known
    known_is = ap (λ (t : SessionsState). t.known) alone.sessions ∙ keeps.known

    limit : sends_limit (below_events.after_heard old.sessions (Some h)) sendings ≡ None
    limit = second_none (heard_limit old.sessions (Some h))
        (sends_limit (below_events.after_heard old.sessions (Some h)) sendings)
        (no_limit (event_limit old.sessions (Some h) sendings) fine)

    leaves : T mid.sessions (accept_all (handed_on x.texts s own) own gone)
    leaves = subst (λ (t : SessionsState). T t (accept_all (handed_on x.texts s own) own gone)) (sym alone.sessions)
        (subst (λ (ls : LinksOf FrameText). T (after_event old.sessions (Some h) sendings) (accept_all ls own gone))
        (hands_on x.texts s own h.word b is) (x.leaves sendings may limit))
