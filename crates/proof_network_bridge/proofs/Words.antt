-- A word with a frame of messages, or with none, is followed.
use Rattle.std.proofs.Common.{◌≡◌, ℕ, Bool, true, false, List, [], Option, Some, None, refl, sym, ap, subst, ◌∙◌}
use Rattle.std.specs.List.{AllByRecursion}
use Rattle.std.proofs.lemmas.Option.{same_Some}
use Rattle.datagram.specs.Spellings.{FrameText, OutgoingText}
use Rattle.engine.specs.Datagrams.{after_heard, frame_in, heard_fault, hold_fault, news_of, replies}
use Rattle.engine_calls.specs.EngineState.{EngineState}
use Rattle.engine_calls.specs.Refusals.{fault_of_sessions, first_fault}
use Rattle.incarnation.specs.declared.place.Place.{Place}
use Rattle.point_to_point_calls.specs.FrameNews as core_hearing
use Rattle.point_to_point_calls.specs.FrameNews.{transfers_met}
use Rattle.point_to_point.specs.CoreState.{CoreState}
use Rattle.point_to_point.specs.Arrivals as core
use Rattle.point_to_point.specs.Arrivals.{after_any, after_news, called_for, news_fault, news_frames}
use Rattle.rendezvous.specs.State as rendezvous
use Rattle.sessions.specs.declared.refusal.SessionRefusal as below_refused
use Rattle.sessions.specs.Events as below_events
use Rattle.sessions.specs.Events.{after_event, event_limit, first_limit, heard_limit, sends_limit}
use Rattle.sessions.specs.HeardBytes.{Acknowledges, Follows, Hands, HeardText, Holds, Nothing, Repeats, WordText}
use Rattle.sessions.specs.SessionsState.{SessionsState}
use Rattle.vocabulary.specs.declared.endpoint.Endpoint.{Endpoint}
use Rattle.proof_collective_steps.specs.MemberViews as collectives
use Rattle.proof_engine_steps.proofs.UnderWay.{others_may_announce}
use Rattle.proof_engine_steps.specs.Steps.{IsHeard, IsWithinFields, NewsAreShown}
use Rattle.proof_engine_view.proofs.LastingViews.{sent_more}
use Rattle.proof_engine_view.specs.CoreViews.{IsShown}
use Rattle.proof_engine_view.specs.FrameViews as standing
use Rattle.proof_engine_view.specs.FrameViews.{CanLeave, all_gone}
use Rattle.proof_engine_view.specs.Transfers.{Announcements, AnnouncementsGrow, after_out}
use Rattle.proof_group_network.proofs.MidwaySteps.{messages_come, words_come}
use Rattle.proof_group_network.proofs.SessionParts.{message_handed}
use Rattle.proof_group_network.specs.SessionContents.{Sessions, frames_carried}
use Rattle.proof_group_network.specs.Happenings.{IsAfter, met_core}
use Rattle.proof_group_network.specs.Midway.{unsettled}
use Rattle.proof_group_network.specs.Network.{GroupNetwork}
use Rattle.proof_group_network.specs.Notices.{Member}
use Rattle.proof_group_network.specs.NoticesStand.{heard_member}
use Rattle.proof_link_truth.specs.Events as below
use Rattle.proof_link_truth.specs.Events.{IsTrueWord, MaySendAll, all_addressed, links_heeded}
use Rattle.link_truth.specs.Links as lower
use Rattle.link_truth.specs.Wire.{at}
use Rattle.endpoint_links.specs.Links.{LinksOf}
use Rattle.proof_pure_network.specs.Announcements.{MeetingsStand}
use Rattle.proof_pure_network.specs.Core.{Effect}
use Rattle.proof_pure_network.specs.Engine.{came, met}
use Rattle.proof_pure_network.specs.Frames.{Frame}
use Rattle.proof_pure_network.specs.Links.{accept_all, handed_on}
use Rattle.proof_pure_network.specs.Network.{here}
use Rattle.proof_session_carrying.proofs.MessageSteps.{messages_are_carried, others_are_carried}
use Rattle.proof_session_carrying.specs.Announcements.{announcements_in}
use Rattle.proof_session_carrying.specs.MessageLaws.{FramesAreSent}
use Rattle.proof_network_bridge.specs.Payloads.{ArePayloads}
use Rattle.proof_network_bridge.proofs.SessionOutput.{all_same, may_send}
use Rattle.proof_network_bridge.proofs.Halves.{Keeps, neither_fault, no_limit, sends_keep}
use Rattle.proof_network_bridge.proofs.HeardWords.{news}
use Rattle.proof_network_bridge.proofs.Midway.{IsHearing, IsOpen, IsStepped, opened, stepped}
use Rattle.proof_network_bridge.proofs.OfMessages.{IsOfMessages, is_of_messages}
use Rattle.proof_network_bridge.proofs.Opens.{from_known, learns_none, taught_nothing}
use Rattle.proof_network_bridge.proofs.Payloads.{payloads_grow, said_same}
use Rattle.proof_network_bridge.proofs.Worlds.{announced_none, handed_grow_out, handed_to_same, only_handed, only_same}

-- ---- what is handed up

-- a word that hands a frame up, be it a delivered one or one that follows, says that it is the next of its link
pub hands_next : (n : ℕ) (texts : LinksOf FrameText) (s own : Endpoint) (w : WordText) (b : FrameText) →
    frame_in w ≡ Some b → IsTrueWord n texts s own w → below.IsNext texts s own b
hands_next n texts s own (Acknowledges number held) b is says = absurd cc
hands_next n texts s own Repeats b is says = absurd cc
hands_next n texts s own (Hands f) b is says =
    subst (λ (g : FrameText). below.IsNext texts s own g) (same_Some f b is) says
hands_next n texts s own (Holds e) b is says = absurd cc
hands_next n texts s own (Follows f) b is says =
    subst (λ (g : FrameText). below.IsNext texts s own g) (same_Some f b is) says
hands_next n texts s own Nothing b is says = absurd cc

-- and the link hands it up
pub hands_on : (texts : LinksOf FrameText) (s own : Endpoint) (w : WordText) (b : FrameText) → frame_in w ≡ Some b →
    links_heeded texts s own w ≡ lower.handed_on texts s own
hands_on texts s own (Acknowledges number held) b is = absurd cc
hands_on texts s own Repeats b is = absurd cc
hands_on texts s own (Hands f) b is = refl
hands_on texts s own (Holds e) b is = absurd cc
hands_on texts s own (Follows f) b is = refl
hands_on texts s own Nothing b is = absurd cc

-- any other word leaves the links as they are
hands_none : (texts : LinksOf FrameText) (s own : Endpoint) (w : WordText) → frame_in w ≡ None →
    links_heeded texts s own w ≡ texts
hands_none texts s own (Acknowledges number held) is = refl
hands_none texts s own Repeats is = refl
hands_none texts s own (Hands f) is = absurd cc
hands_none texts s own (Holds e) is = refl
hands_none texts s own (Follows f) is = absurd cc
hands_none texts s own Nothing is = refl

-- the transfers of a core that learnt a lesson are those that are met by it
pub transfers_taught : (lesson : Bool) (c : CoreState) (s : Endpoint) →
    (core.after_lesson lesson c s).transfers ≡ transfers_met lesson c.transfers s.rank
transfers_taught true c s = refl
transfers_taught false c s = refl

-- ---- what the core hears

-- under the numbers that sessions give, whatever serials notices have there
abbrev pub HeardUnder : GroupNetwork → Sessions → (own : Endpoint) → EngineState → (s : Endpoint) → FrameText → Frame →
    Type 0
HeardUnder u sessions own e s b y =
    (serial : ℕ) →
    IsHeard (announcements_in serial sessions own) e.core e.sessions.known (u.net.core own) (news s false (Some b))
    (Some y)

-- a frame that may come to the core is heard by it
core_hears : NewsAreShown →
    (n r : ℕ) (engines : List EngineState) (current : ℕ → ℕ) (u : GroupNetwork) (texts : LinksOf FrameText)
    (s : Endpoint) (e : EngineState) (b : FrameText) (y : Frame) → MeetingsStand u.net →
    (o : IsOpen n r engines current u texts s e) →
    ((serial : ℕ) → standing.IsMeant (announcements_in serial o.sessions (at r (current r))) s (Some b) (Some y)) →
    IsWithinFields (Some b) → news_fault e.core (news s false (Some b)) ≡ None →
    HeardUnder u o.sessions (at r (current r)) e s b y
core_hears shows n r engines current u texts s e b y meetings o meant within taken serial =
    shows (announcements_in serial o.sessions own) e.core e.sessions.known (u.net.core own) (news s false (Some b))
    (Some y) (o.held.queues serial) (record {
      other = from_known n r engines current u texts s e (Some b) o;
      meant = meant serial;
      within = within;
      taken = taken;
      once = λ d k i j x z at_i ix at_j iz. meetings.once d own k i j x z at_i ix at_j iz;
      untold = λ d late. announced_none u o.said texts o.sessions o.between serial own d (o.told.untold d late);
    })
  where
    own : Endpoint
    own = at r (current r)

-- what neither of two limits refuses, the second doesn't
pub second_none : (a b : Option below_refused.SessionRefusal) → first_limit a b ≡ None → b ≡ None
second_none None b h = h
second_none (Some e) b h = absurd cc

-- what a word meets that is heard: no rule of the core, and no limit of the sessions
record IsFree (old : EngineState) (h : HeardText) : Type 0 where
  news : news_fault old.core (news_of h) ≡ None
  limit : sends_limit (below_events.after_heard old.sessions (Some h)) (replies old.core h) ≡ None

is_free : (old : EngineState) (h : HeardText) → heard_fault old h ≡ None → IsFree old h
is_free old h fine =
    let held = neither_fault (hold_fault h.word) (first_fault (news_fault old.core (news_of h)) (fault_of_sessions (event_limit old.sessions (Some h) (replies old.core h)))) fine in
    let rest = neither_fault (news_fault old.core (news_of h)) (fault_of_sessions (event_limit old.sessions (Some h) (replies old.core h))) held.1 in
    record {
      news = rest.0;
      limit = second_none (heard_limit old.sessions (Some h))
          (sends_limit (below_events.after_heard old.sessions (Some h)) (replies old.core h))
          (no_limit (event_limit old.sessions (Some h) (replies old.core h)) rest.1);
    }

-- ---- a word with the next frame of its link, for which frames may be sent

with_frame : NewsAreShown →
    (n r : ℕ) (engines : List EngineState) (u : GroupNetwork) (T : SessionsState → LinksOf FrameText → Type 0)
    (old : EngineState) (h : HeardText) (b : FrameText) →
    IsHearing n r engines u T old h → frame_in h.word ≡ Some b → IsFree old h →
    IsStepped n r engines u h.source T (after_heard old h)
with_frame shows n r engines u T old h b x is free =
    stepped n r 1 [] engines u s T e (after_heard old h) effect.core
    (accept_all (handed_on u.net.link s own) own effect.out) (heard_member u r s) u.notices x.texts o.said
    (lower.accept_all (lower.handed_on x.texts s own) own gone) sessions o comes
    (messages_are_carried u (unsettled u own s 1 []) o.said x.texts o.sessions s own effect.core (heard_member u r s)
    [] effect.out gone y o.between meant.there comes stand)
    (only_handed o.sessions s own (frames_carried effect.out)) (said_same o.said) leaves
    (record {
      queues = λ serial. others_may_announce (after_out (a serial) effect.out) (announcements_in serial sessions own)
          (after_heard old h).core (after_heard old h).sessions.known effect.core (queues serial) (grows serial)
          (λ d. handed_to_same serial o.sessions s own effect.out d);
      groups = subst (λ (m : Member). collectives.IsShown own e.groups.collective e.groups.contexts m e.ended)
          (sym (learns_none (u.net.core own).known s (u.member own) known)) o.held.groups;
      placed = ap (λ (c : CoreState). c.place) core_is ∙ (heard 0).place ∙ o.held.placed ∙ sym keeps.place;
    })
    (ap (λ (c : CoreState). c.completion) core_is ∙ (heard 0).completion ∙ o.completion)
    (payloads_grow u.net.message_limit o.sessions sessions o.said o.said own (after_heard old h).sessions.known
    e.payloads
    (only_handed o.sessions s own (frames_carried effect.out)).grow (said_same o.said)
    (subst (λ (known : List ℕ). ArePayloads u.net.message_limit o.sessions o.said own known e.payloads)
    (sym keeps.known) o.payloads))
    keeps.place
  where
    own : Endpoint
    own = here u.net r

    s : Endpoint
    s = h.source

    e : EngineState
    e = opened old h

    o : IsOpen n r engines u.net.current u x.texts s e
    o = x.opens

    a : ℕ → Announcements
    a serial = announcements_in serial o.sessions own

    next : below.IsNext x.texts s own b
    next = hands_next n x.texts s own h.word b is x.says

    -- no rule of the core refuses it
    taken : news_fault e.core (news s false (Some b)) ≡ None
    taken =
        ap (λ (t : rendezvous.State). core_hearing.heard_fault t s.rank (Some b)) (transfers_taught h.lesson old.core s)
        ∙ ap (core_hearing.heard_fault (transfers_met h.lesson old.core.transfers s.rank) s.rank) (sym is) ∙ free.news

    meant : IsOfMessages o.sessions own s b
    meant = is_of_messages u o.said x.texts o.sessions own e o.between x.stands.transfers o.held.queues s b o.known
        next.next taken

    y : Frame
    y = meant.frame

    effect : Effect
    effect = came (met (u.net.core own) s) s y

    sessions : Sessions
    sessions = lower.accept_all (lower.handed_on o.sessions s own) own (frames_carried effect.out)

    heard : HeardUnder u o.sessions own e s b y
    heard = core_hears shows n r engines u.net.current u x.texts s e b y x.stands.meetings o meant.stands
        next.carried.width taken

    -- it learnt the lesson before
    known : (u.net.core own).known s.rank ≡ s.incarnation
    known = (o.held.queues 0).known_alike s.rank ∙ o.known

    comes : IsAfter u (unsettled u own s 1 []) own effect.core (accept_all (handed_on u.net.link s own) own effect.out)
        (heard_member u r s) u.notices []
    comes = messages_come r u s y (message_handed o.sessions u.net.link u.notices s own y o.between.parts meant.there).0

    grows : (serial : ℕ) → AnnouncementsGrow (after_out (a serial) effect.out) (announcements_in serial sessions own)
    grows serial = handed_grow_out serial o.sessions s own effect.out

    fs : List OutgoingText
    fs = news_frames e.core (news s false (Some b))

    gone : List (Endpoint × FrameText)
    gone = all_gone e.sessions.known fs

    stand : FramesAreSent (lower.handed_on o.sessions s own) own gone effect.out
    stand serial = sent_more (after_out (a serial) effect.out) (announcements_in serial sessions own) gone effect.out
        (grows serial) (heard serial).sends

    core_is : (after_heard old h).core ≡ after_news e.core (news s false (Some b))
    core_is = ap (after_any e.core s) is

    sendings_are : replies old.core h ≡ fs
    sendings_are = ap (λ (t : Option FrameText). called_for e.core s t) is

    keeps : Keeps (below_events.after_heard old.sessions (Some h)) (after_heard old h).sessions
    keeps = sends_keep (below_events.after_heard old.sessions (Some h)) (replies old.core h)

    queues : (serial : ℕ) →
        IsShown (after_out (a serial) effect.out) (after_heard old h).core (after_heard old h).sessions.known
        effect.core
    queues serial =
        subst (λ (known : List ℕ). IsShown (after_out (a serial) effect.out) (after_heard old h).core known effect.core)
        (sym keeps.known)
        (subst (λ (c : CoreState). IsShown (after_out (a serial) effect.out) c e.sessions.known effect.core)
        (sym core_is) (heard serial).shown)

    may : MaySendAll n r (replies old.core h)
    may = subst (λ (ts : List OutgoingText). MaySendAll n r ts) (sym sendings_are)
        (may_send n e.sessions.place.message_limit own fs
        (subst (λ (p : Place). AllByRecursion (CanLeave p) fs) (o.held.placed ∙ o.told.place) (heard 0).leaves))

    gone_is : all_addressed e.sessions.known (replies old.core h) ≡ gone
    gone_is = ap (all_addressed e.sessions.known) sendings_are ∙ all_same e.sessions.known fs

    leaves : T (after_heard old h).sessions (lower.accept_all (lower.handed_on x.texts s own) own gone)
    leaves =
        subst (λ (ls : LinksOf FrameText). T (after_heard old h).sessions (lower.accept_all ls own gone))
        (hands_on x.texts s own h.word b is)
        (subst (λ (ts : List (Endpoint × FrameText)). T (after_heard old h).sessions
        (lower.accept_all (links_heeded x.texts s own h.word) own ts)) gone_is
        (x.leaves (replies old.core h) may free.limit))

-- ---- a word without a frame: nothing is sent for it

plainly : (n r : ℕ) (engines : List EngineState) (u : GroupNetwork) (T : SessionsState → LinksOf FrameText → Type 0)
    (old : EngineState) (h : HeardText) →
    IsHearing n r engines u T old h → frame_in h.word ≡ None → IsFree old h →
    IsStepped n r engines u h.source T (after_heard old h)
plainly n r engines u T old h x is free =
    stepped n r 0 [] engines u s T e mid (met_core u r s) u.net.link (heard_member u r s) u.notices x.texts o.said
    x.texts o.sessions o comes
    (others_are_carried u (unsettled u own s 0 []) o.said x.texts o.sessions own (met_core u r s) (heard_member u r s)
    [] o.between comes)
    (only_same o.sessions own) (said_same o.said) leaves
    (taught_nothing u r s o.sessions mid ((o.held.queues 0).known_alike s.rank ∙ o.known) (record {
      queues = λ serial. subst
          (λ (known : List ℕ). IsShown (announcements_in serial o.sessions own) mid.core known (u.net.core own))
          (sym keeps.known)
          (subst (λ (c : CoreState). IsShown (announcements_in serial o.sessions own) c e.sessions.known
          (u.net.core own)) (sym core_is) (o.held.queues serial));
      groups = o.held.groups;
      placed = ap (λ (c : CoreState). c.place) core_is ∙ o.held.placed ∙ sym keeps.place;
    }))
    (ap (λ (c : CoreState). c.completion) core_is ∙ o.completion)
    (subst (λ (known : List ℕ). ArePayloads u.net.message_limit o.sessions o.said own known e.payloads)
    (sym keeps.known) o.payloads)
    keeps.place
  where
    own : Endpoint
    own = here u.net r

    s : Endpoint
    s = h.source

    e : EngineState
    e = opened old h

    mid : EngineState
    mid = after_heard old h

    o : IsOpen n r engines u.net.current u x.texts s e
    o = x.opens

    core_is : mid.core ≡ e.core
    core_is = ap (after_any e.core s) is

    none : replies old.core h ≡ []
    none = ap (λ (t : Option FrameText). called_for e.core s t) is

    keeps : Keeps (below_events.after_heard old.sessions (Some h)) mid.sessions
    keeps = sends_keep (below_events.after_heard old.sessions (Some h)) (replies old.core h)

    comes : IsAfter u (unsettled u own s 0 []) own (met_core u r s) u.net.link (heard_member u r s) u.notices []
    comes = words_come r u s

    leaves : T mid.sessions x.texts
    leaves =
        subst (λ (ls : LinksOf FrameText). T mid.sessions ls) (hands_none x.texts s own h.word is)
        (subst (λ (ts : List OutgoingText). T mid.sessions
        (lower.accept_all (links_heeded x.texts s own h.word) own (all_addressed e.sessions.known ts))) none
        (x.leaves (replies old.core h) (subst (λ (ts : List OutgoingText). MaySendAll n r ts) (sym none) tt)
        free.limit))

-- ---- any word

-- what is heard that is no message of a collective is followed
pub news_step : NewsAreShown →
    (n r : ℕ) (engines : List EngineState) (u : GroupNetwork) (T : SessionsState → LinksOf FrameText → Type 0)
    (old : EngineState) (h : HeardText) →
    IsHearing n r engines u T old h → heard_fault old h ≡ None → IsStepped n r engines u h.source T (after_heard old h)
news_step shows n r engines u T old h x fine = go (frame_in h.word) refl
  where
    go : (o : Option FrameText) → frame_in h.word ≡ o → IsStepped n r engines u h.source T (after_heard old h)
    go None is = plainly n r engines u T old h x is (is_free old h fine)
    go (Some b) is = with_frame shows n r engines u T old h b x is (is_free old h fine)
