-- A message of a collective that a rank takes in is followed: it stands in a frame, or its last piece came.
use Rattle.std.proofs.Common.{◌≡◌, inl, inr, ℕ, zero, suc, Bool, true, false, nat_lt, ◌&&◌, List, [], ◌∷◌, length}
use Rattle.std.proofs.Common.{Option, Some, None, Result, Ok, if◌then◌else◌, refl, sym, ap, subst, ◌∙◌, arith}
use Rattle.std.specs.Prelude.{slice_get, slice_index}
use Rattle.std.proofs.lemmas.Bool.{and_parts, le-ltb}
use Rattle.std.proofs.lemmas.Option.{same_Some}
use Rattle.collective_messages.specs.Arrivals.{ArrivalGives}
use Rattle.collective_messages.specs.Messages.{says}
use Rattle.collective_messages.specs.declared.entry.Inside.{Inside}
use Rattle.collective_messages.specs.declared.message.CollectiveMessage.{CollectiveMessage}
use Rattle.collective_messages.specs.declared.note.Note.{Note}
use Rattle.collective_messages.specs.declared.refusal.CollectiveRefusal.{CollectiveRefusal}
use Rattle.rendezvous.specs.Payloads.{Whole}
use Rattle.rendezvous.specs.PayloadState as payloads
use Rattle.collectives.specs.Calls as collective_calls
use Rattle.collectives.specs.Calls.{MessageGives, with_note}
use Rattle.collectives.specs.State.{State, after_step}
use Rattle.collective_steps.specs.Steps.{IsPrepared, Prepared, ending_of}
use Rattle.collective_steps.specs.declared.step.Ending.{Ending}
use Rattle.context_agreement.specs.Communicators.{ContextsState}
use Rattle.datagram.specs.Spellings.{EagerFrame, EagerText, FrameText}
use Rattle.datagram.specs.declared.kinds.Plane.{Plane}
use Rattle.datagram.specs.declared.kinds.Plane.TheVariants as planes
use Rattle.engine.specs.Datagrams.{IsNoticed, address_of, frame_in, lesson_in, met_by, numbers_met, payloads_met}
use Rattle.engine.specs.Datagrams.{whole_in}
use Rattle.engine_calls.specs.EngineState.{EngineState, or_before}
use Rattle.engine_calls.specs.Frames.{all_can_go, step_numbers, step_payloads, step_sendings}
use Rattle.incarnation.specs.declared.place.Place.{Place}
use Rattle.payload.specs.ByteMeanings.{payload_of}
use Rattle.payload.specs.Spellings.{PayloadText}
use Rattle.perfect_groups.specs.Membership.{Present}
use Rattle.perfect_queues.proofs.EndpointLemmas.{same_eq}
use Rattle.proof_collective_steps.proofs.Messages.{ready_messages_give}
use Rattle.proof_collective_steps.proofs.RankSteps.{notices_of_ranks_follow}
use Rattle.proof_collective_steps.specs.Counterparts.{IsNoted}
use Rattle.proof_collective_steps.specs.RankLaws.{Follows, lesson_at, lesson_ends, lesson_of}
use Rattle.proof_collective_steps.specs.MemberViews as collectives
use Rattle.proof_collective_steps.specs.MemberViews.{HasEnded, or_given}
use Rattle.proof_engine_steps.proofs.Further.{met_known}
use Rattle.proof_engine_view.specs.Frames.{message_seen}
use Rattle.proof_engine_view.specs.CoreViews.{IsShown}
use Rattle.proof_group_network.proofs.SessionParts.{same_accepted}
use Rattle.proof_group_network.specs.SessionContents.{
  Announces,
  Answers,
  BringsPart,
  Carried,
  OfMessages,
  OfNotices,
  Sessions,
}
use Rattle.proof_group_network.specs.Happenings.{met_core}
use Rattle.proof_group_network.specs.Midway.{unsettled}
use Rattle.proof_group_network.specs.Network.{GroupNetwork, NoticeLink, also, noticed_on, notify_all}
use Rattle.proof_group_network.specs.Notices.{Notice}
use Rattle.proof_group_network.specs.SessionLaws.{IsNext}
use Rattle.proof_link_truth.specs.Events.{all_addressed}
use Rattle.link_truth.specs.Links as lower
use Rattle.link_truth.specs.Wire.{in_job, place_of}
use Rattle.endpoint_links.specs.Links.{LinksOf}
use Rattle.proof_pure_network.specs.Core.{Core}
use Rattle.proof_pure_network.specs.Network.{here}
use Rattle.proof_session_carrying.proofs.NoticeMessages.{brought_arrives}
use Rattle.proof_session_carrying.proofs.SessionViews.{next_stands}
use Rattle.proof_session_carrying.proofs.EventSteps.{notices_are_carried}
use Rattle.proof_session_carrying.specs.Announcements.{all_announced, announced_in, announcements_in}
use Rattle.proof_session_carrying.specs.SessionViews.{AreBrought, IsBrought, Saying, StandsForCarried, bytes_of_message}
use Rattle.proof_session_carrying.specs.SessionViews.{say_all}
use Rattle.proof_session_carrying.specs.CarryLaws as carrying
use Rattle.proof_session_carrying.specs.CarryLaws.{ArrivesAs}
use Rattle.proof_session_carrying.specs.EventLaws.{AreJoined, Bring, all_carried}
use Rattle.point_to_point.specs.CoreState.{CoreState, with_numbers}
use Rattle.rendezvous.specs.declared.transfers.Numbers.{Numbers}
use Rattle.sessions.specs.Events as below_events
use Rattle.sessions.specs.Events.{after_event}
use Rattle.sessions.specs.HeardBytes.{HeardText}
use Rattle.sessions.specs.SessionsState.{SessionsState}
use Rattle.vocabulary.specs.Endpoints.{is_same}
use Rattle.vocabulary.specs.declared.endpoint.Endpoint.{Endpoint}
use Rattle.vocabulary.specs.declared.message_limit.MessageLimit.{MessageLimit}
use Rattle.proof_network_bridge.specs.Payloads.{ArePayloads}
use Rattle.proof_network_bridge.proofs.WordsAlone.{numbers_there}
use Rattle.proof_network_bridge.proofs.Halves.{Keeps, sends_keep}
use Rattle.proof_network_bridge.proofs.KnownMembers.{Knows}
use Rattle.proof_network_bridge.proofs.KnownTargets.{IsKnownAs, targets_known}
use Rattle.proof_network_bridge.proofs.Midway.{IsHearing, IsOpen, IsStepped, opened, stepped}
use Rattle.proof_network_bridge.proofs.Payloads.{payloads_grow, said_same}
use Rattle.proof_network_bridge.proofs.StepFrames.{AreBounded, IsKnown, are_within, bring, meets_none, step_leaves}
use Rattle.proof_network_bridge.proofs.StepAnnouncements.{
  IsSending,
  IsStepSent,
  as_many,
  numbers_bounded_by,
  shown_same,
  step_sent,
}
use Rattle.proof_network_bridge.proofs.StepAnnouncements.{texts_gone}
use Rattle.proof_network_bridge.proofs.StepTargets.{GoTo}
use Rattle.proof_network_bridge.proofs.Words.{hands_next, hands_on}
use Rattle.proof_network_bridge.proofs.Worlds.{only_handed, place_alike}
use Rattle.engine.proofs.JobPayloads.{is_read}

-- ---- what is heard

-- The notice that the session hands up next, which is this payload: its number, the message that it is, and what it
-- says
pub record IsOfNotices (w : GroupNetwork) (sessions : Sessions) (own s : Endpoint) (u : Whole) : Type 0 where
  pub number : ℕ
  pub message : CollectiveMessage
  pub notice : Notice
  pub there : IsNext sessions s own (OfNotices number)
  pub accepted : slice_get (w.notices s own).accepted number ≡ Some notice
  pub context : u.context ≡ message.context
  pub collective : u.number ≡ message.number
  pub bytes : u.bytes ≡ bytes_of_message message
  pub brought : IsBrought s own message notice

-- the notice that a message stands for
pub brought_at : (s d : Endpoint) (ms : List CollectiveMessage) (xs : List Notice) (i : ℕ) (m : CollectiveMessage) →
    AreBrought s d ms xs → slice_get ms i ≡ Some m → (x : Notice) × (slice_get xs i ≡ Some x) × IsBrought s d m x
brought_at s d [] xs i m all h = absurd (grind arith)
brought_at s d (n ∷ ns) [] i m all h = absurd all
brought_at s d (n ∷ ns) (x ∷ xs) zero m all h =
    (x, refl, subst (λ (y : CollectiveMessage). IsBrought s d y x) (same_Some n m h) all.0)
brought_at s d (n ∷ ns) (x ∷ xs) (suc i) m all h = brought_at s d ns xs i m all.1 h

-- so it is with one that stands in a frame
is_of_notices : (w : GroupNetwork) (said : Saying) (texts : LinksOf FrameText) (sessions : Sessions) (own s : Endpoint)
    (t : EagerText) → AreJoined w said texts sessions →
    slice_get (texts s own).accepted (texts s own).handed ≡ Some (EagerFrame t) → t.plane ≡ planes.Collective →
    IsOfNotices w sessions own s (whole_in t)
is_of_notices w said texts sessions own s t j next plane = go next_is.carried next_is.there next_is.stands
  where
    limit : MessageLimit
    limit = w.net.message_limit

    next_is : carrying.IsNext limit (all_announced sessions s own) (all_announced sessions own s) (said s own)
        (sessions s own) (EagerFrame t)
    next_is = next_stands limit (all_announced sessions s own) (all_announced sessions own s) (said s own) (texts s own)
        (sessions s own) (EagerFrame t) (j.alike s own) next

    go : (x : Carried) → IsNext sessions s own x →
        StandsForCarried limit (all_announced sessions s own) (all_announced sessions own s) (said s own) (EagerFrame t)
        x →
        IsOfNotices w sessions own s (whole_in t)
    go (OfNotices i) at stands =
        let found = brought_at s own (said s own) (w.notices s own).accepted i stands.0 (j.brought s own) stands.1 in
        record {
          number = i;
          message = stands.0;
          notice = found.0;
          there = at;
          accepted = found.1;
          context =
              stands.2.context;
          collective = stands.2.number;
          bytes = stands.2.elements;
          brought = found.2;
        }
    go (OfMessages f) at stands =
        absurd (let is : None ≡ Some f = sym (ap (λ (p : Plane). message_seen p t) plane) ∙ stands 0 in cc)
    go (Announces i) at stands = absurd stands.2
    go (Answers i) at stands = absurd stands
    go (BringsPart i part) at stands = absurd stands.2

-- ---- what is made of it

-- the note that the rank makes of it stands for the notice, and the rank takes it
record HasNote (own s : Endpoint) (x : Notice) (state : State) (h : ContextsState) (step : Prepared) (t : State)
    (k : ContextsState) : Type 0 where
  note : Note
  noted : IsNoted own note (record { sender = s; notice = x })
  gives : MessageGives state h note (Ok (ending_of h step.outcome, step)) t k

-- whatever the reading of its payload gives is a note of the notice
payload_arrives : (own s : Endpoint) (u : Whole) (p : PayloadText) (m : CollectiveMessage) (x : Notice) →
    u.context ≡ m.context → u.number ≡ m.number → u.bytes ≡ bytes_of_message m → IsBrought s own m x →
    payload_of u.bytes ≡ Some p →
    (result : Result (Option Note) CollectiveRefusal) → ArrivalGives s u.context u.number p result →
    ArrivesAs s own x result
payload_arrives own s u p m x context number bytes stands read result gives =
    arrives.1 result
    (subst (λ (k : ℕ). ArrivalGives s k m.number (says m) result) context
    (subst (λ (k : ℕ). ArrivalGives s u.context k (says m) result) number
    (subst (λ (q : PayloadText). ArrivalGives s u.context u.number q result) (sym same) gives)))
  where
    arrives : (payload_of (bytes_of_message m) ≡ Some (says m)) ×
        ((r : Result (Option Note) CollectiveRefusal) → ArrivalGives s m.context m.number (says m) r →
        ArrivesAs s own x r)
    arrives = brought_arrives s own m x stands

    same : says m ≡ p
    same = same_Some (says m) p (sym arrives.0 ∙ (ap payload_of (sym bytes) ∙ read))

has_note : (own : Endpoint) (old mid : EngineState) (before : payloads.State) (h : HeardText) (u : Whole)
    (m : CollectiveMessage) (x : Notice) → (i : IsNoticed old before h u mid) →
    u.context ≡ m.context → u.number ≡ m.number → u.bytes ≡ bytes_of_message m → IsBrought h.source own m x →
    HasNote own h.source x (met_by old h) old.groups.contexts i.ready.step mid.groups.collective mid.groups.contexts
has_note own old mid before h u m x i context number bytes stands =
    elim (ready_messages_give (met_by old h) old.groups.contexts (address_of h.source u) i.payload i.ready i.is_ready) [
      | inl q ↦ record {
        note = q.0;
        noted = payload_arrives own h.source u i.payload m x context number bytes stands
            (is_read old.sessions.place.size u.bytes i.payload i.read).0 (Ok (Some q.0)) q.1;
        gives = subst
            (λ (v : State). MessageGives (met_by old h) old.groups.contexts q.0
            (Ok (ending_of old.groups.contexts i.ready.step.outcome, i.ready.step)) v mid.groups.contexts)
            (sym i.collective)
            (subst (λ (c : ContextsState). MessageGives (met_by old h) old.groups.contexts q.0
            (Ok (ending_of old.groups.contexts i.ready.step.outcome, i.ready.step))
            (after_step (with_note (met_by old h) i.ready.note) i.ready.step.outcome) c) (sym i.contexts) q.2);
      }
      | inr q ↦ absurd (payload_arrives own h.source u i.payload m x context number bytes stands
          (is_read old.sessions.place.size u.bytes i.payload i.read).0 (Ok None) q.0)
    ]

-- ---- with what the collective ends

or_none : (o : Option Ending) → or_before o None ≡ o
or_none (Some x) = refl
or_none None = refl

-- an event gives one ending: where it has given one, the rank is in no collective any more
one_ending : (e own : Endpoint) (h : ContextsState) (given : Option Ending) (i : Option Inside) (p : Option Present)
    (notes : List Note) (step : Prepared) → HasEnded e h given i p → IsPrepared own i h notes step →
    or_given given (ending_of h step.outcome) ≡ or_before (ending_of h step.outcome) given
one_ending e own h None i p notes step ended is = sym (or_none (ending_of h step.outcome))
one_ending e own h (Some x) i p notes step ended is =
    sym (ap (λ (q : Prepared). or_before (ending_of h q.outcome) (Some x))
    (subst (λ (o : Option Inside). IsPrepared own o h notes step) ended.0 is))

-- and whoever is known teaches no lesson that would give one
no_lesson : (known : ℕ → ℕ) (s : Endpoint) → known s.rank ≡ s.incarnation → lesson_of known s ≡ None
no_lesson known s is =
    let plain : nat_lt (known s.rank) s.incarnation ≡ false = le-ltb (known s.rank) s.incarnation (omega (arith, is)) in
    ap (λ (b : Bool). if b then Some s else None) plain

given_still : (given : Option Ending) → or_given given None ≡ given
given_still None = refl
given_still (Some x) = refl

-- ---- whom it goes to

-- what the rank sends then goes to endpoints that its sessions know
targets : (own self : Endpoint) (h : ContextsState) (given : Option Ending) (i : Option Inside) (p : Option Present)
    (there : ℕ → ℕ) (notes : List Note) (step : Prepared) (known : List ℕ) → HasEnded own h given i p → Knows there p →
    IsPrepared self i h notes step → ((x : ℕ) → there x ≡ slice_index known x) → GoTo (IsKnown known) step.messages
targets own self h given i p there notes step known ended knows is alike =
    each_one step.messages (targets_known own self h given i p there notes step ended knows is)
  where
    each_one : (ms : List CollectiveMessage) → GoTo (IsKnownAs there) ms → GoTo (IsKnown known) ms
    each_one [] all = tt
    each_one (m ∷ ms) all = (sym (alike m.target.rank) ∙ all.0, each_one ms all.1)

-- what is handed up was accepted before
same_notices : (ns : Endpoint → Endpoint → NoticeLink) (s d : Endpoint) (i : ℕ) (a b : Endpoint) →
    (ns a b).accepted ≡ (noticed_on ns s d i a b).accepted
same_notices ns s d i a b = go (is_same a s && is_same b d) refl
  where
    go : (t : Bool) → (is_same a s && is_same b d) ≡ t →
        (ns a b).accepted ≡
        (if t then record { accepted = (ns s d).accepted; handed = also (ns s d).handed i } else ns a b).accepted
    go false h = refl
    go true h =
        let p = and_parts (is_same a s) (is_same b d) h in
        ap (λ (z : Endpoint). (ns z b).accepted) (same_eq a s p.0) ∙
        ap (λ (z : Endpoint). (ns s z).accepted) (same_eq b d p.1)

-- ---- a message of a collective

-- a message of a collective that is taken in is followed, with whatever payloads there were before
pub notice_taken : (n r : ℕ) (engines : List EngineState) (u : GroupNetwork) (T : SessionsState → LinksOf FrameText →
    Type 0) (old mid : EngineState) (h : HeardText) (before : payloads.State) (b : FrameText) (t : Whole) →
    (x : IsHearing n r engines u T old h) → frame_in h.word ≡ Some b →
    IsOfNotices u x.opens.sessions (here u.net r) h.source t →
    ArePayloads u.net.message_limit x.opens.sessions x.opens.said (here u.net r) (opened old h).sessions.known before →
    IsNoticed old before h t mid → IsStepped n r engines u h.source T mid
notice_taken n r engines u T old mid h before b t x is notice kept_before i =
    stepped n r 0 (number ∷ []) engines u s T e mid (met_core u r s) u.net.link follows.member
    (notify_all (noticed_on u.notices s own number) own follows.out) x.texts
    (say_all o.said own messages) (lower.accept_all (lower.handed_on x.texts s own) own gone) sessions o
    follows.happened
    (notices_are_carried n u (unsettled u own s 0 (number ∷ [])) o.said x.texts o.sessions s own
    (met_core u r s) mid.groups.collective mid.groups.contexts given messages [] gone number o.between notice.there
    follows
    (subst (λ (k : MessageLimit). Bring k messages gone) o.limited (bring l known ns messages i.whole goes_to))
    sent.numbered)
    (only_handed o.sessions s own (all_carried (noticed_on u.notices s own number) own follows.out gone)) sent.grows
    leaves
    (record {
      queues = λ serial. subst
          (λ (k : Core). IsShown (announcements_in serial sessions own) mid.core mid.sessions.known k)
          (sym (met_known (u.net.core own) s known_core))
          (subst (λ (c : CoreState). IsShown (announcements_in serial sessions own) c mid.sessions.known
          (u.net.core own)) (sym i.core)
          (subst (λ (k : List ℕ). IsShown (announcements_in serial sessions own)
          (with_numbers e.core (step_numbers l ns messages)) k (u.net.core own)) (sym known_then)
          (sent.after.shown serial)));
      groups = subst
          (λ (given : Option Ending). collectives.IsShown own mid.groups.collective mid.groups.contexts follows.member
          given) given_is follows.shown;
      placed = ap (λ (c : CoreState). c.place) i.core ∙ o.held.placed ∙
          sym (ap (λ (y : SessionsState). y.place) i.sessions ∙ keeps.place);
    })
    (ap (λ (c : CoreState). c.completion) i.core ∙ o.completion)
    (subst (λ (p : payloads.State). ArePayloads u.net.message_limit sessions (say_all o.said own messages) own
    mid.sessions.known p)
    (sym i.payloads)
    (subst (λ (k : List ℕ). ArePayloads u.net.message_limit sessions (say_all o.said own messages) own k
    (payloads.after_announcing before (step_payloads l ns messages))) (sym known_then)
    (subst (λ (limit : MessageLimit). ArePayloads limit sessions (say_all o.said own messages) own known
    (payloads.after_announcing before (step_payloads l ns messages))) o.limited sent.after.kept)))
    (ap (λ (y : SessionsState). y.place) i.sessions ∙ keeps.place)
  where
    own : Endpoint
    own = here u.net r

    s : Endpoint
    s = h.source

    e : EngineState
    e = opened old h

    o : IsOpen n r engines u.net.current u x.texts s e
    o = x.opens

    -- the engine's limit, which is the network's
    l : MessageLimit
    l = old.sessions.place.message_limit

    ns : List Numbers
    ns = numbers_met old.core h

    number : ℕ
    number = notice.number

    messages : List CollectiveMessage
    messages = i.ready.step.messages

    known : List ℕ
    known = e.sessions.known

    known_core : (u.net.core own).known s.rank ≡ s.incarnation
    known_core = (o.held.queues 0).known_alike s.rank ∙ o.known

    note : HasNote own s notice.notice (met_by old h) old.groups.contexts i.ready.step mid.groups.collective
        mid.groups.contexts
    note = has_note own old mid before h t notice.message notice.notice i notice.context notice.collective notice.bytes
        notice.brought

    ending : Option Ending
    ending = ending_of old.groups.contexts i.ready.step.outcome

    given : Option Ending
    given = or_given (or_given e.ended (lesson_ends e.groups.collective old.groups.contexts (lesson_at u r s))) ending

    taught_none : lesson_at u r s ≡ None
    taught_none = no_lesson (u.net.core own).known s known_core

    follows : Follows n u (unsettled u own s 0 (number ∷ [])) own (met_core u r s) u.net.link
        (noticed_on u.notices s own number) mid.groups.collective mid.groups.contexts given messages []
    follows =
        notices_of_ranks_follow n r u s number notice.notice note.note e.groups.collective old.groups.contexts e.ended
        (ending, i.ready.step) mid.groups.collective mid.groups.contexts
        (omega (arith, x.few)) o.told.there x.stands.notices o.held.groups notice.accepted note.noted
        (subst (λ (l : Option Endpoint). MessageGives
        (collective_calls.after_lesson e.groups.collective old.groups.contexts l) old.groups.contexts note.note
        (Ok (ending, i.ready.step)) mid.groups.collective mid.groups.contexts) (sym taught_none) note.gives)
        (are_within messages i.whole)

    keeps : Keeps (below_events.after_heard old.sessions (Some h))
        (after_event old.sessions (Some h) (step_sendings old.sessions.place ns messages))
    keeps = sends_keep (below_events.after_heard old.sessions (Some h)) (step_sendings old.sessions.place ns messages)

    known_then : mid.sessions.known ≡ known
    known_then = ap (λ (y : SessionsState). y.known) i.sessions ∙ keeps.known

    goes_to : GoTo (IsKnown known) messages
    goes_to =
        targets own (met_by old h).own old.groups.contexts e.ended (met_by old h).present
        (u.member own).membership.present (u.net.core own).known (with_note (met_by old h) i.ready.note).kept
        i.ready.step known
        o.held.groups.present (x.knows own) i.is_ready.3 (λ y. (o.held.queues 0).known_alike y)

    gone : List (Endpoint × FrameText)
    gone = texts_gone l known ns messages

    -- what the engine holds before it sends
    started : IsSending l n own known (u.net.core own) (lower.handed_on o.sessions s own) o.said
        (noticed_on u.notices s own number) (with_numbers e.core ns) before
    started = record {
      placed = place_alike e.core.place e.sessions.place (place_of n own) o.held.placed o.told.place;
      shown = λ serial. shown_same serial o.sessions (lower.handed_on o.sessions s own) own (with_numbers e.core ns)
          known (u.net.core own)
          (λ y d. ap announced_in (same_accepted o.sessions s own y d))
          (subst (λ (k : List Numbers). IsShown (announcements_in serial o.sessions own) (with_numbers e.core k) known
          (u.net.core own)) (sym (numbers_there old.core h)) (o.held.queues serial));
      many = λ d. as_many own d (o.said own d) (u.notices own d).accepted (o.between.brought own d) ∙
          ap (λ (ys : List Notice). length ys) (same_notices u.notices s own number own d);
      kept = payloads_grow l o.sessions (lower.handed_on o.sessions s own) o.said o.said own known before
          (only_handed o.sessions s own []).grow (said_same o.said)
          (subst (λ (limit : MessageLimit). ArePayloads limit o.sessions o.said own known before) (sym o.limited)
          kept_before);
    }

    can : all_can_go (in_job l (place_of n own)) ns messages ≡ true
    can = subst (λ (p : Place). all_can_go p ns messages ≡ true) o.told.place
        (meets_none old.sessions ns (Some h) messages i.goes).can

    sent : IsStepSent l n own known (u.net.core own) (lower.handed_on o.sessions s own) o.said
        (noticed_on u.notices s own number) ns e.core before messages follows.out
    sent = step_sent l n own known (u.net.core own) (lower.handed_on o.sessions s own) o.said
        (noticed_on u.notices s own number) ns e.core before messages follows.out
        started can follows.sendable goes_to follows.said

    bounded : AreBounded n ns
    bounded =
        numbers_bounded_by l n own known (u.net.core own) (lower.handed_on o.sessions s own) o.said
        (noticed_on u.notices s own number) ns e.core before started

    sessions : Sessions
    sessions =
        lower.accept_all (lower.handed_on o.sessions s own) own
        (all_carried (noticed_on u.notices s own number) own follows.out gone)

    leaves : T mid.sessions (lower.accept_all (lower.handed_on x.texts s own) own gone)
    leaves = subst (λ (y : SessionsState). T y (lower.accept_all (lower.handed_on x.texts s own) own gone))
        (sym i.sessions)
        (step_leaves T n own old.sessions (Some h) (lower.handed_on x.texts s own) known ns messages
        (λ sendings may free. subst
        (λ (ls : LinksOf FrameText). T (after_event old.sessions (Some h) sendings)
        (lower.accept_all ls own (all_addressed known sendings))) (hands_on x.texts s own h.word b is)
        (x.leaves sendings may free))
        o.told.place bounded follows.sendable i.whole i.goes)

    -- the engine's ending is the one that the network gave
    given_is : given ≡ mid.ended
    given_is =
        ap (λ (l : Option Endpoint). or_given (or_given e.ended (lesson_ends e.groups.collective old.groups.contexts l))
        ending) taught_none
        ∙ ap (λ (before : Option Ending). or_given before ending) (given_still e.ended)
        ∙ one_ending own (met_by old h).own old.groups.contexts e.ended (met_by old h).present
        (u.member own).membership.present (with_note (met_by old h) i.ready.note).kept i.ready.step
        o.held.groups.present i.is_ready.3
        ∙ sym i.ended

-- a message in an eager frame is followed
pub notice_step : (n r : ℕ) (engines : List EngineState) (u : GroupNetwork) (T : SessionsState → LinksOf FrameText →
    Type 0) (old mid : EngineState) (h : HeardText) (t : EagerText) → IsHearing n r engines u T old h →
    frame_in h.word ≡ Some (EagerFrame t) → t.plane ≡ planes.Collective →
    IsNoticed old (payloads_met old.payloads (lesson_in h)) h (whole_in t) mid →
    IsStepped n r engines u h.source T mid
notice_step n r engines u T old mid h t x is plane i =
    notice_taken n r engines u T old mid h (payloads_met old.payloads (lesson_in h)) (EagerFrame t) (whole_in t) x is
    (is_of_notices u x.opens.said x.texts x.opens.sessions (here u.net r) h.source t x.opens.between
    (hands_next n x.texts h.source (here u.net r) h.word (EagerFrame t) is x.says).next plane)
    x.opens.payloads i
