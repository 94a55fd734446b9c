-- A delivery is followed: what a datagram says is heard, then come the frames that were held behind it, and at the end
-- of all that the blocked call is answered. To the network it is one word.
use Rattle.std.proofs.Common.{◌≡◌, inl, inr, ℕ, zero, suc, ◌+◌, ◌<◌, ◌≤◌, Bool, true, false, List, [], ◌∷◌, ◌++◌}
use Rattle.std.proofs.Common.{length, Option, Some, None, Result, Ok, Err, refl, sym, ap, subst, ◌∙◌, arith, append-nil}
use Rattle.std.specs.Prelude.{option_map, slice_get, slice_set}
use Rattle.collectives.specs.Calls as collective_calls
use Rattle.collective_steps.specs.declared.step.Ending.{Ending}
use Rattle.datagram.specs.Spellings.{FrameText}
use Rattle.engine.specs.Datagrams.{FollowGives, FollowedBy, HasFollowed, HeardGives, HearingGives, IsTakenIn}
use Rattle.engine.specs.Datagrams.{IsTakenInUnless, TurnGives, acknowledged, lesson_in, says_nothing, turn_from}
use Rattle.engine.specs.Datagrams.{without_next, woken_engine}
use Rattle.engine_calls.specs.EngineState.{EngineState, completion_of, emptied, without_out}
use Rattle.incarnation.specs.declared.place.Place.{Place}
use Rattle.perfect_groups.specs.Events.{Entry, ended_with, ready_by, told_of}
use Rattle.perfect_groups.specs.Membership as membership
use Rattle.proof_collective_steps.proofs.RankSteps.{lessons_of_ranks_follow, settlings_of_ranks_follow}
use Rattle.proof_collective_steps.specs.RankLaws.{lesson_at, lesson_ends}
use Rattle.proof_collective_steps.specs.MemberViews as collectives
use Rattle.observation.specs.Endings.{ending_is}
use Rattle.proof_engine_steps.proofs.Further.{met_known}
use Rattle.proof_engine_steps.specs.Steps.{IsWoken, NewsAreShown, WakesAreShown}
use Rattle.proof_engine_view.specs.CoreViews.{IsShown}
use Rattle.proof_group_network.proofs.LinksOfMessages.{group_meetings_stand}
use Rattle.proof_group_network.proofs.MidwayStands.{midway_stands, words_go_on}
use Rattle.proof_group_network.proofs.MidwaySteps.{events_settle, parts_add_up, words_come, words_settle}
use Rattle.proof_group_network.specs.Happenings.{IsAfter, IsWord}
use Rattle.proof_group_network.specs.Midway.{IsHeardMidway, unsettled}
use Rattle.proof_group_network.specs.Network.{GroupNetwork, Happening, Word, hear_member, member_settled}
use Rattle.proof_group_network.specs.Network.{new_group_network, settle_event}
use Rattle.proof_group_network.specs.Notices.{Member}
use Rattle.proof_group_network.specs.NoticesStand.{heard_member}
use Rattle.proof_link_truth.specs.Deliveries as deliveries
use Rattle.proof_link_truth.specs.Deliveries.{DeliveriesBegin, DiscardsAreTrue, OrderIsFree, TurnIsTrue, TurnsAreTrue}
use Rattle.proof_link_truth.specs.Deliveries.{TurnsTellTheTruth}
use Rattle.proof_link_truth.specs.Events as below
use Rattle.proof_link_truth.specs.Events.{EventsAreTrue, HearingIsTrue, HearsTruth, IsFromDatagram, LeavesTrue}
use Rattle.proof_link_truth.specs.Events.{RestIsTrue}
use Rattle.link_truth.specs.Truth.{AreTrue}
use Rattle.link_truth.specs.Wire.{at}
use Rattle.endpoint_links.specs.Links.{LinksOf}
use Rattle.proof_pure_network.specs.Core.{Core}
use Rattle.proof_pure_network.specs.Engine.{core_ready, core_settled, met}
use Rattle.proof_pure_network.specs.Network.{here}
use Rattle.proof_session_carrying.proofs.MessageSteps.{others_are_carried}
use Rattle.proof_session_carrying.specs.Announcements.{announcements_in}
use Rattle.point_to_point.specs.Completions.{after_wake}
use Rattle.sessions.specs.HeldFrames.{acknowledged_at, without_ready}
use Rattle.sessions.specs.HeardBytes.{
  Acknowledges,
  Follows,
  Hands,
  HeardText,
  Holds,
  Nothing,
  Repeats,
  WordText,
  heard_of,
}
use Rattle.sessions.specs.SessionsState.{SessionsState}
use Rattle.sessions.specs.declared.heard.Unheard.{Unheard}
use Rattle.vocabulary.specs.declared.endpoint.Endpoint.{Endpoint}
use Rattle.vocabulary.specs.declared.message_limit.MessageLimit.{MessageLimit}
use Rattle.proof_network_bridge.specs.GoingOn.{DatagramsFollowOn, Happened, LeavesFollowedOn, Stands}
use Rattle.proof_network_bridge.specs.WorldViews.{IsClean, IsFollowed, IsHeldBy, IsJoined, network_after}
use Rattle.observation.specs.Sessions.{sessions_in}
use Rattle.proof_network_bridge.specs.Payloads.{ArePayloads}
use Rattle.observation.specs.EngineCalls.{told_completion}
use Rattle.proof_network_bridge.proofs.Datagrams.{heard_step}
use Rattle.proof_network_bridge.proofs.RankEvents.{IsHeldUnder, clean_emptied, followed, followed_unanswered, held_by}
use Rattle.proof_network_bridge.proofs.RankEvents.{held_emptied}
use Rattle.proof_network_bridge.proofs.Halves.{leaves_engines, sessions_set}
use Rattle.proof_network_bridge.proofs.HeardWords.{ended_alike, is_word, lesson_same, told_alike}
use Rattle.proof_network_bridge.proofs.KnownMembers.{midway_known}
use Rattle.proof_network_bridge.proofs.Midway.{AreOthers, AreTold, IsHearing, IsMidway, IsOpen, IsReady, IsStepped}
use Rattle.proof_network_bridge.proofs.Midway.{LeavesLinks, opened, others_after, others_joined, set_there}
use Rattle.proof_network_bridge.proofs.Opens.{learns_none, opens_by}
use Rattle.proof_network_bridge.proofs.Payloads.{said_same}
use Rattle.proof_network_bridge.proofs.Worlds.{is_at, none_untold, only_same, place_by, place_is, run_push, set_cases}

-- ---- what links say of an engine

-- of the sessions at r, out of which what they emitted was taken
told_by : (n r : ℕ) (engines : List EngineState) (datagrams : List (ℕ × List ℕ)) (texts : LinksOf FrameText)
    (current : ℕ → ℕ) (old e : EngineState) → slice_get engines r ≡ Some old →
    LeavesTrue n (sessions_in engines) datagrams r e.sessions texts current → AreTold n r current texts e.sessions
told_by n r engines datagrams texts current old e there truth =
    let placed = place_by n r new (datagrams ++ e.sessions.out) texts current (without_out e) links stands in
    record {
      there = placed.0;
      place = placed.1;
      untold = λ d late. none_untold n r new (datagrams ++ e.sessions.out) texts current (without_out e) links stands d
          late;
    }
  where
    new : List EngineState
    new = slice_set engines r (without_out e)

    stands : slice_get new r ≡ Some (without_out e)
    stands = set_there engines r old (without_out e) there

    links : AreTrue n (sessions_in new) (datagrams ++ e.sessions.out) texts current
    links = subst (λ (ss : List SessionsState). AreTrue n ss (datagrams ++ e.sessions.out) texts current)
        (sym (sessions_set engines r (without_out e))) truth

-- ---- in the middle of a word of s

-- with some of its messages and notices, the world is joined to the network in the middle of it; of its links T says
-- what they carry, by what the sessions of r hold
record IsDelivering (n r : ℕ) (engines : List EngineState) (w : GroupNetwork) (s : Endpoint) (T : SessionsState →
    LinksOf FrameText → Type 0) (e : EngineState) : Type 0 where
  frames : ℕ
  notices : List ℕ
  texts : LinksOf FrameText
  truth : T e.sessions texts
  midway : IsMidway n r engines w.net.current (unsettled w (here w.net r) s frames notices) texts e

-- a part more
delivered : (n r frames : ℕ) (notices : List ℕ) (engines : List EngineState) (w : GroupNetwork) (s : Endpoint)
    (T : SessionsState → LinksOf FrameText → Type 0) (mid : EngineState) →
    (unsettled w (here w.net r) s frames notices).net.current ≡ w.net.current →
    IsStepped n r engines (unsettled w (here w.net r) s frames notices) s T mid → IsDelivering n r engines w s T mid
delivered n r frames notices engines w s T mid same x =
    record {
      frames = frames + x.frames;
      notices = notices ++ x.notices;
      texts = x.texts;
      truth = x.truth;
      midway = subst (λ (v : GroupNetwork). IsMidway n r engines w.net.current v x.texts mid)
          (parts_add_up w (here w.net r) s frames x.frames notices x.notices)
          (subst (λ (current : ℕ → ℕ). IsMidway n r engines current
          (unsettled u (at r (current r)) s x.frames x.notices) x.texts mid) same x.midway);
    }
  where
    u : GroupNetwork
    u = unsettled w (here w.net r) s frames notices

-- what is held doesn't hang on what is emitted, nor on what is held for later
same_held : (n r : ℕ) (engines : List EngineState) (w : GroupNetwork) (s : Endpoint) (T S : SessionsState →
    LinksOf FrameText → Type 0) (e : EngineState) (t : SessionsState) → t.known ≡ e.sessions.known →
    t.place ≡ e.sessions.place →
    ((texts : LinksOf FrameText) → T e.sessions texts → S t texts) → IsDelivering n r engines w s T e →
    IsDelivering n r engines w s S (record e { sessions = t })
same_held n r engines w s T S e t known place turns d =
    record {
      frames = d.frames;
      notices = d.notices;
      texts = d.texts;
      truth = turns d.texts d.truth;
      midway = record {
        sessions = m.sessions;
        said = m.said;
        between = m.between;
        others = m.others;
        completion = m.completion;
        held = record {
          queues = λ serial. subst
              (λ (ks : List ℕ). IsShown (announcements_in serial m.sessions own) e.core ks (u.net.core own)) (sym known)
              (m.held.queues serial);
          groups = m.held.groups;
          placed = m.held.placed ∙ sym place;
        };
        limited = ap (λ (p : Place). p.message_limit) place ∙ m.limited;
        payloads = subst (λ (ks : List ℕ). ArePayloads u.net.message_limit m.sessions m.said own ks e.payloads)
            (sym known) m.payloads;
      };
    }
  where
    own : Endpoint
    own = here w.net r

    u : GroupNetwork
    u = unsettled w own s d.frames d.notices

    m : IsMidway n r engines w.net.current u d.texts e
    m = d.midway

-- whatever is heard in the middle of it
hearing : (n : ℕ) (limit : MessageLimit) (r frames : ℕ) (notices : List ℕ) (engines : List EngineState)
    (happenings : List Happening)
    (T : SessionsState → LinksOf FrameText → Type 0) (old : EngineState) (h : HeardText) → n ≤ 1024 →
    IsWord n r (network_after n limit happenings) h.source →
    IsReady n r engines (network_after n limit happenings).net.current
    (unsettled (network_after n limit happenings) (here (network_after n limit happenings).net r) h.source frames
    notices) T old
    h →
    IsHearing n r engines
    (unsettled (network_after n limit happenings) (here (network_after n limit happenings).net r) h.source frames
    notices) T old
    h
hearing n limit r frames notices engines happenings T old h few word ready =
    record {
      few = few;
      stands = midway_stands n limit r frames notices happenings h.source (omega (arith, few)) word;
      knows = midway_known n limit happenings (here w.net r) h.source frames notices;
      texts = there.texts;
      opens = there.opens;
      says = there.says;
      leaves = there.leaves;
    }
  where
    w : GroupNetwork
    w = network_after n limit happenings

    u : GroupNetwork
    u = unsettled w (here w.net r) h.source frames notices

    there : IsReady n r engines u.net.current u T old h
    there = subst (λ (current : ℕ → ℕ). IsReady n r engines current u T old h)
        (sym (words_go_on n r frames notices w h.source word).current) ready

-- ---- the first word

-- before it is heard nothing is in the middle
begins : (n r : ℕ) (engines : List EngineState) (datagrams : List (ℕ × List ℕ)) (w : GroupNetwork) (old : EngineState) →
    (j : IsJoined n engines datagrams w) → slice_get engines r ≡ Some old →
    IsMidway n r engines w.net.current w j.texts old
begins n r engines datagrams w old j there =
    let held : IsHeldBy w j.sessions r old = j.held r old there in
    let clean : IsClean old = j.clean r old there in
    record {
      sessions = j.sessions;
      said = j.said;
      between = j.between;
      others = others_joined n r engines datagrams w j;
      completion = clean.completion;
      held = record {
        queues = held.queues;
        groups = subst
            (λ (given : Option Ending). collectives.IsShown (here w.net r) old.groups.collective old.groups.contexts
            (w.member (here w.net r)) given) (sym clean.ended) held.groups;
        placed = held.placed;
      };
      limited = j.limits r old there;
      payloads = j.payloads r old there;
    }

-- then its lesson is learnt
first_opens : NewsAreShown →
    (n r : ℕ) (engines : List EngineState) (datagrams : List (ℕ × List ℕ)) (history : List Entry) (old : EngineState)
    (h : HeardText) (f : IsFollowed n engines datagrams history) → slice_get engines r ≡ Some old →
    below.IsHeard n r (network_after n f.limit f.happenings).net.current old.sessions.known h.source h.lesson →
    IsWord n r (network_after n f.limit f.happenings) h.source →
    IsOpen n r engines (network_after n f.limit f.happenings).net.current
    (unsettled (network_after n f.limit f.happenings) (here (network_after n f.limit f.happenings).net r) h.source 0 [])
    f.joined.texts h.source (opened old h)
first_opens shows n r engines datagrams history old h f there heard word =
    opens_by shows n r engines w.net.current w (unsettled w own s 0 []) f.joined.texts old h
    (group_meetings_stand n f.limit f.happenings (omega (arith, f.few)))
    (begins n r engines datagrams w old f.joined there)
    (record {
      there = (place_is n r engines datagrams w old f.joined there).0;
      place = (place_is n r engines datagrams w old f.joined there).1;
      untold = λ d late. none_untold n r engines datagrams f.joined.texts w.net.current old f.joined.links there d late;
    })
    heard (words_come r w s) groups
  where
    w : GroupNetwork
    w = network_after n f.limit f.happenings

    own : Endpoint
    own = here w.net r

    s : Endpoint
    s = h.source

    held : IsHeldBy w f.joined.sessions r old
    held = f.joined.held r old there

    clean : IsClean old
    clean = f.joined.clean r old there

    same : lesson_at w r s ≡ lesson_in h
    same = lesson_same n r w f.joined.sessions old s h.lesson held heard

    groups : collectives.IsShown own (opened old h).groups.collective (opened old h).groups.contexts
        (heard_member w r s) (opened old h).ended
    groups =
        subst (λ (given : Option Ending). collectives.IsShown own (opened old h).groups.collective
        (opened old h).groups.contexts (heard_member w r s) given)
        (sym (ended_alike old.groups (lesson_in h) old.ended clean.ended))
        (subst (λ (l : Option Endpoint). collectives.IsShown own
        (collective_calls.after_lesson old.groups.collective old.groups.contexts l) old.groups.contexts
        (heard_member w r s) (lesson_ends old.groups.collective old.groups.contexts l)) same
        (lessons_of_ranks_follow w r s old.groups.collective old.groups.contexts None held.groups))

-- and it is taken in
first_step : NewsAreShown →
    (n r : ℕ) (engines : List EngineState) (datagrams : List (ℕ × List ℕ)) (history : List Entry)
    (old first : EngineState) (h : HeardText) (T : SessionsState → LinksOf FrameText → Type 0)
    (f : IsFollowed n engines datagrams history) →
    slice_get engines r ≡ Some old →
    HearsTruth n r (network_after n f.limit f.happenings).net.current old.sessions f.joined.texts h →
    IsWord n r (network_after n f.limit f.happenings) h.source →
    LeavesLinks n r T old.sessions h f.joined.texts (network_after n f.limit f.happenings).net.current →
    HeardGives old h (Ok tt) first → IsDelivering n r engines (network_after n f.limit f.happenings) h.source T first
first_step shows n r engines datagrams history old first h T f there truth word leaves gives =
    delivered n r 0 [] engines w h.source T first (words_go_on n r 0 [] w h.source word).current
    (heard_step shows n r engines (unsettled w (here w.net r) h.source 0 []) T old first h
    (hearing n f.limit r 0 [] engines f.happenings T old h f.few word (record {
      texts = f.joined.texts;
      opens = first_opens shows n r engines datagrams history old h f there truth.heard word;
      says = truth.word;
      leaves = leaves;
    })) gives)
  where
    w : GroupNetwork
    w = network_after n f.limit f.happenings

-- ---- a frame that follows

-- what links say behind a frame that was handed up, where `place` is that of its acknowledgement
abbrev Following : (n r : ℕ) → List EngineState → List (ℕ × List ℕ) → (place : ℕ) → Endpoint →
    (current : ℕ → ℕ) → SessionsState → LinksOf FrameText → Type 0
Following n r engines datagrams place s current t texts =
    deliveries.IsMidway n (sessions_in engines) datagrams r place s t texts current

-- whoever is known is heard again, and nothing happens
heard_again : (u : GroupNetwork) (own s : Endpoint) → (u.net.core own).known s.rank ≡ s.incarnation →
    IsAfter u u own (met (u.net.core own) s) u.net.link (hear_member (u.net.core own).known s (u.member own)) u.notices
    []
heard_again u own s known = record {
  core_is = sym (met_known (u.net.core own) s known);
  cores = λ x apart. refl;
  messages_are = refl;
  current_is = refl;
  limit_is = refl;
  member_is = sym (learns_none (u.net.core own).known s (u.member own) known);
  members = λ x apart. refl;
  notices_are = refl;
  seen = sym (append-nil u.history);
}

-- the laws of links that a turn rests on
record TurnLaws : Type 0 where
  tell : TurnsTellTheTruth
  turns : TurnsAreTrue
  discards : DiscardsAreTrue

-- it is taken in
turn_step : NewsAreShown → TurnLaws →
    (n : ℕ) (limit : MessageLimit) (r place : ℕ) (engines : List EngineState) (datagrams : List (ℕ × List ℕ))
    (happenings : List Happening)
    (old e first : EngineState) (s : Endpoint) (frame : FrameText) → n ≤ 1024 →
    IsWord n r (network_after n limit happenings) s → slice_get engines r ≡ Some old →
    (d : IsDelivering n r engines (network_after n limit happenings) s
    (Following n r engines datagrams place s (network_after n limit happenings).net.current) e) →
    HearsTruth n r (network_after n limit happenings).net.current e.sessions d.texts
    (record { source = s; lesson = false; word = Follows frame }) →
    turn_from e s ≡ Some (Some (record { source = s; lesson = false; word = Follows frame })) →
    HeardGives e (record { source = s; lesson = false; word = Follows frame }) (Ok tt) first →
    IsDelivering n r engines (network_after n limit happenings) s
    (Following n r engines datagrams place s (network_after n limit happenings).net.current)
    (acknowledged place s first)
turn_step shows laws n limit r place engines datagrams happenings old e first s frame few word there d truth is gives =
    same_held n r engines w s T S first (acknowledged_at place s first.sessions) refl refl (λ texts t. t)
    (delivered n r d.frames d.notices engines w s T first (words_go_on n r d.frames d.notices w s word).current
    (heard_step shows n r engines u T e first h
    (hearing n limit r d.frames d.notices engines happenings T e h few word (record {
      texts = d.texts;
      opens = opens_by shows n r engines w.net.current u u d.texts e h
          (midway_stands n limit r d.frames d.notices happenings s (omega (arith, few)) word).meetings m
          (told_by n r engines datagrams d.texts w.net.current old e there d.truth.leaves) truth.heard
          (heard_again u own s known)
          (subst (λ (y : Member). collectives.IsShown own e.groups.collective e.groups.contexts y e.ended)
          (sym (learns_none (u.net.core own).known s (u.member own) known)) m.held.groups);
      says = truth.word;
      leaves = λ sendings may free. laws.turns n r place (sessions_in engines) datagrams d.texts w.net.current s
          e.sessions h sendings d.truth is may free;
    })) gives))
  where
    w : GroupNetwork
    w = network_after n limit happenings

    own : Endpoint
    own = here w.net r

    h : HeardText
    h = record { source = s; lesson = false; word = Follows frame }

    u : GroupNetwork
    u = unsettled w own s d.frames d.notices

    m : IsMidway n r engines w.net.current u d.texts e
    m = d.midway

    S : SessionsState → LinksOf FrameText → Type 0
    S t texts = Following n r engines datagrams place s w.net.current t texts

    T : SessionsState → LinksOf FrameText → Type 0
    T t texts = Following n r engines datagrams place s w.net.current (acknowledged_at place s t) texts

    known : (u.net.core own).known s.rank ≡ s.incarnation
    known = (m.held.queues 0).known_alike s.rank ∙ d.truth.known

-- or it is taken out
turn_out : TurnLaws →
    (n r place : ℕ) (engines : List EngineState) (datagrams : List (ℕ × List ℕ)) (w : GroupNetwork) (e : EngineState)
    (s : Endpoint) →
    IsDelivering n r engines w s (Following n r engines datagrams place s w.net.current) e →
    IsDelivering n r engines w s (Following n r engines datagrams place s w.net.current) (without_next e s)
turn_out laws n r place engines datagrams w e s d =
    same_held n r engines w s T T e (without_ready e.sessions s.rank) refl refl
    (λ texts t. laws.discards n r place (sessions_in engines) datagrams texts w.net.current s e.sessions t) d
  where
    T : SessionsState → LinksOf FrameText → Type 0
    T t texts = Following n r engines datagrams place s w.net.current t texts

-- so it goes for as many turns as there are
turns_follow : NewsAreShown → TurnLaws →
    (turns n : ℕ) (limit : MessageLimit) (r place : ℕ) (engines : List EngineState) (datagrams : List (ℕ × List ℕ))
    (happenings : List Happening)
    (old e new : EngineState) (s : Endpoint) → n ≤ 1024 →
    IsWord n r (network_after n limit happenings) s → slice_get engines r ≡ Some old →
    IsDelivering n r engines (network_after n limit happenings) s
    (Following n r engines datagrams place s (network_after n limit happenings).net.current) e →
    FollowGives turns place s e new →
    IsDelivering n r engines (network_after n limit happenings) s
    (Following n r engines datagrams place s (network_after n limit happenings).net.current) new
turns_follow shows laws zero n limit r place engines datagrams happenings old e new s few word there d gives =
    subst (λ (x : EngineState). IsDelivering n r engines w s T x) (sym gives) d
  where
    w : GroupNetwork
    w = network_after n limit happenings

    T : SessionsState → LinksOf FrameText → Type 0
    T t texts = Following n r engines datagrams place s w.net.current t texts
turns_follow shows laws (suc turns) n limit r place engines datagrams happenings old e new s few word there d gives =
    go (turn_from e s) refl gives
    (λ x given rest. turns_follow shows laws turns n limit r place engines datagrams happenings old x new s few word
    there
    given rest)
  where
    w : GroupNetwork
    w = network_after n limit happenings

    T : SessionsState → LinksOf FrameText → Type 0
    T t texts = Following n r engines datagrams place s w.net.current t texts

    same : new ≡ e → IsDelivering n r engines w s T new
    same is = subst (λ (x : EngineState). IsDelivering n r engines w s T x) (sym is) d

    out : new ≡ without_next e s → IsDelivering n r engines w s T new
    out is = subst (λ (x : EngineState). IsDelivering n r engines w s T x) (sym is)
        (turn_out laws n r place engines datagrams w e s d)

    taken : (h : HeardText) (first : EngineState) → turn_from e s ≡ Some (Some h) → HeardGives e h (Ok tt) first →
        IsDelivering n r engines w s T (acknowledged place s first)
    taken h first is given =
        let turn : TurnIsTrue n r w.net.current e.sessions d.texts s h = laws.tell n r place (sessions_in engines) datagrams d.texts w.net.current s e.sessions h d.truth is in
        turn_step shows laws n limit r place engines datagrams happenings old e first s turn.frame few word there d
        (subst (λ (x : HeardText). HearsTruth n r w.net.current e.sessions d.texts x) turn.says turn.hears)
        (subst (λ (x : HeardText). turn_from e s ≡ Some (Some x)) turn.says is)
        (subst (λ (x : HeardText). HeardGives e x (Ok tt) first) turn.says given)

    go : (o : Option (Option HeardText)) → turn_from e s ≡ o → TurnGives o place s (FollowGives turns place s) e new →
        ((x : EngineState) → IsDelivering n r engines w s T x → FollowGives turns place s x new →
        IsDelivering n r engines w s T new) → IsDelivering n r engines w s T new
    go None is g next = same g
    go (Some None) is g next = out g
    go (Some (Some h)) is (inl g) next = next (acknowledged place s g.0) (taken h g.0 is g.1) g.2
    go (Some (Some h)) is (inr (inl g)) next = out g.1
    go (Some (Some h)) is (inr (inr g)) next = same g.1

-- ---- the end

-- once the blocked call is answered, the word has happened, and all is seen that it told
ends : WakesAreShown →
    (n r : ℕ) (engines : List EngineState) (datagrams : List (ℕ × List ℕ)) (history : List Entry) (old e : EngineState)
    (s : Endpoint) (f : IsFollowed n engines datagrams history) → slice_get engines r ≡ Some old →
    IsWord n r (network_after n f.limit f.happenings) s →
    IsDelivering n r engines (network_after n f.limit f.happenings) s
    (λ (t : SessionsState) (texts : LinksOf FrameText). LeavesTrue n (sessions_in engines) datagrams r t texts
    (network_after n f.limit f.happenings).net.current) e →
    LeavesFollowedOn n f.limit f.happenings engines datagrams r (woken_engine e)
    (history ++ told_completion old.sessions.place.endpoint (completion_of (woken_engine e)))
ends wakes n r engines datagrams history old e s f there word d =
    Happened (Word s r d.frames d.notices) refl (record {
      few = f.few;
      joined = subst
          (λ (v : GroupNetwork). IsJoined n (slice_set engines r (emptied new)) (datagrams ++ e.sessions.out) v)
          (sym pushed) joined;
      seen = ap (λ (v : GroupNetwork). v.history) pushed ∙ a.seen ∙
          ap (λ (es : List Entry). es ++ entries) (on.seen ∙ f.seen) ∙ ap (λ (es : List Entry). history ++ es) told_is;
    })
  where
    w : GroupNetwork
    w = network_after n f.limit f.happenings

    own : Endpoint
    own = here w.net r

    u : GroupNetwork
    u = unsettled w own s d.frames d.notices

    m : IsMidway n r engines w.net.current u d.texts e
    m = d.midway

    new : EngineState
    new = woken_engine e

    after : GroupNetwork
    after = settle_event u own None

    on : IsHeardMidway n r w u s
    on = words_go_on n r d.frames d.notices w s word

    entries : List Entry
    entries = told_of own None (ready_by (ended_with (u.member own).membership.present) (core_ready (u.net.core own)))

    a : IsAfter u after own (core_settled (u.net.core own)) u.net.link (member_settled (u.member own)) u.notices entries
    a = events_settle u own

    pushed : network_after n f.limit (f.happenings ++ Word s r d.frames d.notices ∷ []) ≡ after
    pushed = run_push n f.happenings (Word s r d.frames d.notices) (new_group_network n f.limit) ∙
        words_settle n r d.frames d.notices w s word

    wakes_at : (serial : ℕ) → IsWoken (announcements_in serial m.sessions own) e.core e.sessions.known (u.net.core own)
    wakes_at serial =
        wakes (announcements_in serial m.sessions own) e.core e.sessions.known (u.net.core own)
        (m.held.queues serial) m.completion

    settled : collectives.IsShown own e.groups.collective e.groups.contexts (member_settled (u.member own)) None ×
        (ended_with (u.member own).membership.present ≡ option_map ending_is e.ended)
    settled = settlings_of_ranks_follow own e.groups.collective e.groups.contexts (u.member own) e.ended m.held.groups

    -- what is told
    told_is : entries ≡ told_completion old.sessions.place.endpoint (completion_of new)
    told_is =
        ap (λ (o : Option membership.Ending). told_of own None (ready_by o (core_ready (u.net.core own)))) settled.1
        ∙ told_alike own e.ended (core_ready (u.net.core own)) (after_wake e.core).completion ((wakes_at 0).tells own)
        ∙ ap (λ (p : Place). told_completion p.endpoint (completion_of new))
        (sym (place_is n r engines datagrams w old f.joined there).1)

    -- what the others hold
    rest : AreOthers r engines w.net.current after m.sessions m.said
    rest = others_after r engines w.net.current u after (core_settled (u.net.core own)) u.net.link
        (member_settled (u.member own)) u.notices entries m.sessions m.sessions m.said m.said m.others a
        (only_same m.sessions own) (said_same m.said)

    -- and what this one holds
    held : IsHeldUnder m.sessions own new (core_settled (u.net.core own)) (member_settled (u.member own))
    held serial = record {
      queues = (wakes_at serial).shown;
      groups = settled.0;
      placed =
          (wakes_at serial).place ∙ m.held.placed;
    }

    at_own : IsHeldUnder m.sessions own (emptied new) (after.net.core own) (after.member own)
    at_own =
        subst (λ (k : Core). IsHeldUnder m.sessions own (emptied new) k (after.member own)) (sym a.core_is)
        (subst (λ (y : Member). IsHeldUnder m.sessions own (emptied new) (core_settled (u.net.core own)) y)
        (sym a.member_is)
        (λ serial. held_emptied (announcements_in serial m.sessions own) own new (core_settled (u.net.core own))
        (member_settled (u.member own)) (held serial)))

    current : after.net.current ≡ w.net.current
    current = on.current

    joined : IsJoined n (slice_set engines r (emptied new)) (datagrams ++ e.sessions.out) after
    joined = record {
      texts = d.texts;
      links = subst
          (λ (c : ℕ → ℕ). AreTrue n (sessions_in (slice_set engines r (emptied new))) (datagrams ++ e.sessions.out)
          d.texts c) (sym current) (leaves_engines n r engines datagrams new d.texts w.net.current d.truth);
      sessions = m.sessions;
      said = m.said;
      between =
          others_are_carried u after m.said d.texts m.sessions own (core_settled (u.net.core own))
          (member_settled (u.member own)) entries m.between a;
      held = λ x g is. held_by after m.sessions x g
          (subst (λ (c : ℕ → ℕ). IsHeldUnder m.sessions (at x (c x)) g (after.net.core (at x (c x)))
          (after.member (at x (c x)))) (sym current)
          (elim (set_cases engines r (emptied new) x g is) [
            | inl p ↦ subst
                (λ (y : ℕ). IsHeldUnder m.sessions (at y (w.net.current y)) g (after.net.core (at y (w.net.current y)))
                (after.member (at y (w.net.current y)))) (sym p.0)
                (subst (λ (z : EngineState). IsHeldUnder m.sessions own z (after.net.core own) (after.member own))
                (sym p.1) at_own)
            | inr p ↦ rest.held x g p.0 p.1
          ]));
      clean = λ x g is. elim (set_cases engines r (emptied new) x g is) [
        | inl p ↦ subst IsClean (sym p.1) (clean_emptied new)
        | inr p ↦ rest.clean x g p.0 p.1
      ];
      payloads = λ x g is.
          subst (λ (c : ℕ → ℕ). ArePayloads after.net.message_limit m.sessions m.said (at x (c x)) g.sessions.known
          g.payloads) (sym current)
          (elim (set_cases engines r (emptied new) x g is) [
            | inl p ↦ subst
                (λ (y : ℕ). ArePayloads after.net.message_limit m.sessions m.said (at y (w.net.current y))
                g.sessions.known g.payloads)
                (sym p.0)
                (subst (λ (z : EngineState). ArePayloads after.net.message_limit m.sessions m.said own z.sessions.known
                z.payloads) (sym p.1)
                (subst (λ (limit : MessageLimit). ArePayloads limit m.sessions m.said own e.sessions.known e.payloads)
                (sym a.limit_is) m.payloads))
            | inr p ↦ rest.payloads x g p.0 p.1
          ]);
      limits = λ x g is. elim (set_cases engines r (emptied new) x g is) [
        | inl p ↦ ap (λ (z : EngineState). z.sessions.place.message_limit) p.1 ∙ m.limited ∙ sym a.limit_is
        | inr p ↦ rest.limits x g p.0 p.1
      ];
      unborn = λ c later. rest.unborn c (subst (λ (k : ℕ → ℕ). k c.rank < c.incarnation) current later);
    }

-- ---- all of it

-- the laws of links that a delivery rests on
pub record LinkLaws : Type 0 where
  pub hears : HearingIsTrue
  pub events : EventsAreTrue
  pub starts : DeliveriesBegin
  pub tell : TurnsTellTheTruth
  pub turns : TurnsAreTrue
  pub discards : DiscardsAreTrue
  pub order : OrderIsFree
  pub rest : RestIsTrue

-- what is heard in a datagram is followed, with all that follows it
taken_in : NewsAreShown → WakesAreShown → LinkLaws →
    (n r : ℕ) (engines : List EngineState) (datagrams : List (ℕ × List ℕ)) (history : List Entry)
    (old mid : EngineState) (h : HeardText) →
    (f : IsFollowed n engines datagrams history) → slice_get engines r ≡ Some old →
    IsFromDatagram datagrams r old.sessions h → IsTakenIn old h mid →
    LeavesFollowedOn n f.limit f.happenings engines datagrams r mid
    (history ++ told_completion old.sessions.place.endpoint (completion_of mid))
taken_in shows wakes laws n r engines datagrams history old mid h f there comes i =
    subst (λ (x : EngineState). LeavesFollowedOn n f.limit f.happenings engines datagrams r x
    (history ++ told_completion old.sessions.place.endpoint (completion_of x))) (sym i.new_is)
    (ends wakes n r engines datagrams history old i.last h.source f there word (go h.word refl i.follows))
  where
    w : GroupNetwork
    w = network_after n f.limit f.happenings

    place : ℕ
    place = length old.sessions.out

    here_is : below.IsAt (sessions_in engines) r old.sessions
    here_is = is_at n r engines datagrams w old f.joined there

    truth : HearsTruth n r w.net.current old.sessions f.joined.texts h
    truth = laws.hears n r (sessions_in engines) datagrams f.joined.texts w.net.current old.sessions h f.joined.links
        here_is comes

    word : IsWord n r w h.source
    word = is_word n r engines datagrams w old h.source h.lesson f.joined there truth.heard

    L : SessionsState → LinksOf FrameText → Type 0
    L t texts = LeavesTrue n (sessions_in engines) datagrams r t texts w.net.current

    -- nothing follows
    alone : i.last ≡ i.first → IsDelivering n r engines w h.source L i.last
    alone is = subst (λ (x : EngineState). IsDelivering n r engines w h.source L x) (sym is)
        (first_step shows n r engines datagrams history old i.first h L f there truth word
        (λ sendings may free. laws.events n r (sessions_in engines) datagrams f.joined.texts w.net.current old.sessions
        (Some h) sendings f.joined.links here_is comes may free) i.takes)

    T : SessionsState → LinksOf FrameText → Type 0
    T t texts = Following n r engines datagrams place h.source w.net.current t texts

    -- what is held may follow
    with_turns : (frame : FrameText) → h.word ≡ Hands frame → HasFollowed 64 place h.source i.first i.last →
        IsDelivering n r engines w h.source L i.last
    with_turns frame is g =
        subst (λ (x : EngineState). IsDelivering n r engines w h.source L x) (sym g.same)
        (same_held n r engines w h.source T L g.last i.last.sessions
        (ap (λ (t : SessionsState). t.known) g.arranged.same) (ap (λ (t : SessionsState). t.place) g.arranged.same)
        (λ texts t. laws.order n r (suc place) (sessions_in engines) datagrams texts w.net.current g.last.sessions
        i.last.sessions t.leaves g.arranged)
        (turns_follow shows (record { tell = laws.tell; turns = laws.turns; discards = laws.discards }) 64 n f.limit r
        place
        engines datagrams f.happenings old i.first g.last h.source f.few word there
        (first_step shows n r engines datagrams history old i.first h T f there truth word
        (λ sendings may free. laws.starts n r (sessions_in engines) datagrams f.joined.texts w.net.current old.sessions
        h frame sendings f.joined.links here_is comes is may free) i.takes)
        g.turns))

    go : (x : WordText) → h.word ≡ x → FollowedBy x place h.source i.first i.last →
        IsDelivering n r engines w h.source L i.last
    go (Acknowledges number held) is g = alone g
    go Repeats is g = alone g
    go (Hands frame) is g = with_turns frame is g
    go (Holds early) is g = alone g
    go (Follows frame) is g = alone g
    go Nothing is g = alone g

-- what says nothing new changes nothing
unchanged : LinkLaws →
    (n r : ℕ) (engines : List EngineState) (datagrams : List (ℕ × List ℕ)) (history : List Entry)
    (old mid : EngineState) →
    (f : IsFollowed n engines datagrams history) → slice_get engines r ≡ Some old → mid ≡ old →
    LeavesFollowedOn n f.limit f.happenings engines datagrams r mid
    (history ++ told_completion old.sessions.place.endpoint (completion_of mid))
unchanged laws n r engines datagrams history old mid f there same =
    let w : GroupNetwork = network_after n f.limit f.happenings in
    subst (λ (x : EngineState). LeavesFollowedOn n f.limit f.happenings engines datagrams r x
    (history ++ told_completion old.sessions.place.endpoint (completion_of x))) (sym same)
    (Stands (followed_unanswered n r engines datagrams history old old f there
    (record { core = refl; groups = refl; ended = refl; payloads = refl; known = refl; place = refl })
    (laws.rest n r (sessions_in engines) datagrams f.joined.texts w.net.current old.sessions f.joined.links
    (is_at n r engines datagrams w old f.joined there))))

-- all that is heard in a datagram is followed
heard_follows : NewsAreShown → WakesAreShown → LinkLaws →
    (n r : ℕ) (engines : List EngineState) (datagrams : List (ℕ × List ℕ)) (history : List Entry)
    (old mid : EngineState) (h : HeardText) (nothing : Bool) →
    (f : IsFollowed n engines datagrams history) → slice_get engines r ≡ Some old →
    IsFromDatagram datagrams r old.sessions h → IsTakenInUnless nothing old h mid →
    LeavesFollowedOn n f.limit f.happenings engines datagrams r mid
    (history ++ told_completion old.sessions.place.endpoint (completion_of mid))
heard_follows shows wakes laws n r engines datagrams history old mid h true f there comes same =
    unchanged laws n r engines datagrams history old mid f there same
heard_follows shows wakes laws n r engines datagrams history old mid h false f there comes taken =
    taken_in shows wakes laws n r engines datagrams history old mid h f there comes taken

pub datagrams_follow : NewsAreShown → WakesAreShown → LinkLaws → DatagramsFollowOn
datagrams_follow shows wakes laws n limit r number bytes before engines datagrams history old mid by there emitted
    gives =
    go (heard_of old.sessions bytes) refl gives
  where
    f : IsFollowed n engines datagrams history
    f = followed n limit before engines datagrams history by

    go : (o : Result HeardText Unheard) → heard_of old.sessions bytes ≡ o → HearingGives o old (Ok tt) mid →
        LeavesFollowedOn n limit before engines datagrams r mid
        (history ++ told_completion old.sessions.place.endpoint (completion_of mid))
    go (Ok h) is g =
        heard_follows shows wakes laws n r engines datagrams history old mid h (says_nothing h.lesson h.word) f there
        (record { number = number; bytes = bytes; there = emitted; hears = is }) g
    go (Err u) is g = absurd (let e = g.1 in cc)
