-- A payload of a collective that is announced to a rank is followed: the rank asks for it, and it begins to come.
use Rattle.std.proofs.Common.{◌≡◌, ℕ, ◌*◌, ◌<◌, Bool, true, false, List, [], ◌∷◌, ◌++◌, Some, None, Ok, length, refl}
use Rattle.std.proofs.Common.{sym, ap, subst, ◌∙◌, arith}
use Rattle.std.specs.Prelude.{slice_get, take}
use Rattle.std.specs.List.{AllByRecursion}
use Rattle.collective_messages.specs.declared.message.CollectiveMessage.{CollectiveMessage}
use Rattle.rendezvous.specs.Payloads.{Coming}
use Rattle.rendezvous.specs.PayloadState as payloads
use Rattle.datagram.specs.Spellings.{ClearFrame, FrameText, RequestFrame, RequestText}
use Rattle.datagram.specs.declared.kinds.Clearance.TheVariants.{Send}
use Rattle.datagram.specs.declared.kinds.Plane.TheVariants as planes
use Rattle.engine.specs.Datagrams.{AnnouncementGives, after_announcement, announcement_fault, answer_to, coming_by}
use Rattle.engine.specs.Datagrams.{frame_in, lesson_in, numbers_met, payloads_met}
use Rattle.engine_calls.specs.EngineState.{EngineState}
use Rattle.engine_calls.specs.Refusals.{fault_of_sessions}
use Rattle.proof_engine_steps.proofs.TransferCounts.{transfers_from_are_counted}
use Rattle.proof_engine_view.specs.CoreViews.{IsShown}
use Rattle.proof_group_network.specs.SessionContents.{
  Announces,
  Answers,
  BringsPart,
  Carried,
  OfMessages,
  OfNotices,
  Sessions,
}
use Rattle.proof_group_network.specs.Happenings.{IsAfter, met_core}
use Rattle.proof_group_network.specs.Network.{GroupNetwork}
use Rattle.proof_group_network.specs.NoticesStand.{heard_member}
use Rattle.proof_group_network.specs.SessionLaws as carried_laws
use Rattle.proof_link_truth.specs.Events.{IsNext, MaySendAll, all_addressed}
use Rattle.endpoint_links.specs.Links.{LinksOf, accept_all, handed_on}
use Rattle.proof_pure_network.specs.Network.{here}
use Rattle.proof_session_carrying.proofs.SessionViews.{next_stands}
use Rattle.proof_session_carrying.proofs.EventSteps.{announcements_are_carried}
use Rattle.proof_session_carrying.specs.Announcements.{LargeNotice, all_announced}
use Rattle.proof_session_carrying.specs.SessionViews.{IsRequest, Saying, StandsForCarried, bytes_of_message}
use Rattle.proof_session_carrying.specs.CarryLaws as carrying
use Rattle.proof_session_carrying.specs.EventLaws.{AreJoined}
use Rattle.point_to_point_calls.specs.FrameNews.{bad_unless}
use Rattle.incarnation.specs.declared.place.Place.{Place}
use Rattle.point_to_point.specs.Arrivals as core
use Rattle.point_to_point.specs.CoreState.{CoreState, with_numbers}
use Rattle.rendezvous.specs.State.{is_next, with_announced}
use Rattle.rendezvous.specs.declared.transfers.Numbers.{Numbers}
use Rattle.sessions.specs.Events.{event_limit}
use Rattle.sessions.specs.HeardBytes.{HeardText}
use Rattle.sessions.specs.SessionsState.{SessionsState, known_endpoint}
use Rattle.vocabulary.specs.Modes.{is_standard}
use Rattle.vocabulary.specs.MessageLimits.{frame_limit_of}
use Rattle.vocabulary.specs.declared.endpoint.Endpoint.{Endpoint}
use Rattle.vocabulary.specs.declared.message_limit.MessageLimit.{MessageLimit}
use Rattle.proof_network_bridge.specs.Payloads.{ArePayloads, IsComingPayload, IsLargeNotice}
use Rattle.proof_network_bridge.proofs.WordsAlone.{IsAlone, alone_step, numbers_there}
use Rattle.proof_network_bridge.proofs.Halves.{neither_fault}
use Rattle.proof_network_bridge.proofs.Midway.{IsHearing, IsOpen, IsStepped, opened}
use Rattle.proof_network_bridge.proofs.OfMessages.{known_as}
use Rattle.proof_network_bridge.proofs.Payloads.{payloads_grow, said_same}
use Rattle.proof_network_bridge.proofs.Words.{hands_next}
use Rattle.proof_network_bridge.proofs.Worlds.{only_handed}

-- ---- what is heard

-- The notice whose announcement the session hands up next, which the text announces: its number, the message that it
-- is, and the number of its transfer
record IsOfAnnouncement (limit : MessageLimit) (said : Saying) (sessions : Sessions) (own s : Endpoint)
    (t : RequestText) : Type 0 where
  number : ℕ
  message : CollectiveMessage
  there : carried_laws.IsNext sessions s own (Announces number)
  stands : slice_get (said s own) number ≡ Some message
  named : slice_get (all_announced sessions s own) t.transfer ≡ Some (LargeNotice number)
  request : IsRequest limit message t

is_of_announcement : (w : GroupNetwork) (said : Saying) (texts : LinksOf FrameText) (sessions : Sessions)
    (own s : Endpoint) (t : RequestText) → AreJoined w said texts sessions →
    slice_get (texts s own).accepted (texts s own).handed ≡ Some (RequestFrame t) → t.plane ≡ planes.Collective →
    IsOfAnnouncement w.net.message_limit said sessions own s t
is_of_announcement w said texts sessions own s t j next plane = go next_is.carried next_is.there next_is.stands
  where
    limit : MessageLimit
    limit = w.net.message_limit

    next_is : carrying.IsNext limit (all_announced sessions s own) (all_announced sessions own s) (said s own)
        (sessions s own) (RequestFrame t)
    next_is = next_stands limit (all_announced sessions s own) (all_announced sessions own s) (said s own) (texts s own)
        (sessions s own) (RequestFrame t) (j.alike s own) next

    go : (x : Carried) → carried_laws.IsNext sessions s own x →
        StandsForCarried limit (all_announced sessions s own) (all_announced sessions own s) (said s own)
        (RequestFrame t) x →
        IsOfAnnouncement limit said sessions own s t
    go (Announces i) at stands =
        record {
          number = i;
          message = stands.0;
          there = at;
          stands = stands.1;
          named = stands.2.0;
          request =
              stands.2.1;
        }
    go (OfMessages f) at stands =
        absurd (let is : planes.PointToPoint ≡ planes.Collective = sym (stands 0).plane ∙ plane in cc)
    go (OfNotices i) at stands = absurd stands.2
    go (Answers i) at stands = absurd stands
    go (BringsPart i part) at stands = absurd stands.2

-- ---- what comes from then on

-- one more
one_more : {A : Type 0} (P : A → Type 0) (xs : List A) (x : A) → AllByRecursion P xs → P x →
    AllByRecursion P (xs ++ x ∷ [])
one_more P [] x all one = (one, tt)
one_more P (y ∷ ys) x all one = (all.0, one_more P ys x all.1 one)

-- none of its pieces has come
begins : (limit l : MessageLimit) (sessions : Sessions) (said : Saying) (own : Endpoint) (known : List ℕ)
    (h : HeardText) (t : RequestText)
    (i : ℕ) (m : CollectiveMessage) → slice_get (all_announced sessions h.source own) t.transfer ≡
    Some (LargeNotice i) →
    slice_get (said h.source own) i ≡ Some m → IsRequest limit m t →
    known_endpoint known h.source.rank ≡ h.source → l ≡ limit →
    IsComingPayload limit sessions said own known (coming_by l h t)
begins limit l sessions said own known h t i m named there request source limited =
    record {
      limited = limited;
      message = m;
      notice = subst (λ (s : Endpoint). IsLargeNotice limit sessions said s own t.transfer m) (sym source)
          (record { number = i; named = named; there = there; large = request.large });
      context = request.context;
      number = request.number;
      total = request.count;
      parts = 0;
      some = some;
      bytes = ap (λ (k : ℕ). take k (bytes_of_message m)) none;
    }
  where
    none : 0 ≡ 0 * frame_limit_of limit
    none = omega arith

    some : 0 * frame_limit_of limit < length (bytes_of_message m)
    some = omega (arith, request.large)

-- a lesson leaves a core at its place
place_taught : (lesson : Bool) (c : CoreState) (s : Endpoint) → (core.after_lesson lesson c s).place ≡ c.place
place_taught true c s = refl
place_taught false c s = refl

-- all that come then
begun : (limit : MessageLimit) (sessions : Sessions) (said : Saying) (own : Endpoint) (known : List ℕ)
    (p : payloads.State) (c : Coming) →
    ArePayloads limit sessions said own known p → IsComingPayload limit sessions said own known c →
    ArePayloads limit sessions said own known (payloads.after_begin p c)
begun limit sessions said own known p c all one =
    record {
      announced = all.announced;
      coming =
          one_more (IsComingPayload limit sessions said own known) p.coming c all.coming one;
    }

-- ---- an announcement

-- beside its payloads the engine is as the word alone leaves it, but that it counted the transfer
counts : (old : EngineState) (h : HeardText) (t : RequestText) →
    IsAlone old (after_announcement old h t) h (answer_to h t ∷ [])
counts old h t = record {
  queues = λ a known core shown. subst
      (λ (ns : List Numbers). IsShown a (with_numbers (opened old h).core (with_announced ns h.source.rank)) known core)
      (sym (numbers_there old.core h))
      (transfers_from_are_counted a (opened old h).core known core h.source.rank shown);
  place = refl;
  completion = refl;
  groups = refl;
  ended = refl;
  sessions = refl;
}

-- it is followed
taken_step : (n r : ℕ) (engines : List EngineState) (u : GroupNetwork) (T : SessionsState → LinksOf FrameText → Type 0)
    (old : EngineState) (h : HeardText) (t : RequestText) → IsHearing n r engines u T old h →
    frame_in h.word ≡ Some (RequestFrame t) → t.plane ≡ planes.Collective →
    announcement_fault old.core old.sessions h t ≡ None →
    IsStepped n r engines u h.source T (after_announcement old h t)
taken_step n r engines u T old h t x is plane fine =
    alone_step n r engines u T old (after_announcement old h t) h (RequestFrame t) (answer_to h t ∷ [])
    ((s, Answers a.number) ∷ []) x is (counts old h t) may
    (neither_fault (bad_unless (is_next (numbers_met old.core h) s.rank t.transfer))
    (fault_of_sessions (event_limit old.sessions (Some h) (answer_to h t ∷ [])))
    (neither_fault (bad_unless (is_standard t.mode)) _ fine).1).1 (λ rest. refl, tt) carried kept
  where
    own : Endpoint
    own = here u.net r

    s : Endpoint
    s = h.source

    o : IsOpen n r engines u.net.current u x.texts s (opened old h)
    o = x.opens

    known : List ℕ
    known = (opened old h).sessions.known

    says : IsNext x.texts s own (RequestFrame t)
    says = hands_next n x.texts s own h.word (RequestFrame t) is x.says

    a : IsOfAnnouncement u.net.message_limit o.said o.sessions own s t
    a = is_of_announcement u o.said x.texts o.sessions own s t o.between says.next plane

    source : known_endpoint known s.rank ≡ s
    source = known_as known s o.known

    may : MaySendAll n r (answer_to h t ∷ [])
    may = (
      record {
        there = o.source;
        apart = o.apart;
        carried =
            record { fits = tt; width = record { transfer = says.carried.width.transfer } };
      },
      tt,
    )

    carried : (after : GroupNetwork) →
        IsAfter u after own (met_core u r s) u.net.link (heard_member u r s) u.notices [] →
        AreJoined after o.said (accept_all (handed_on x.texts s own) own (all_addressed known (answer_to h t ∷ [])))
        (accept_all (handed_on o.sessions s own) own ((s, Answers a.number) ∷ []))
    carried after happened =
        subst (λ (d : Endpoint). AreJoined after o.said
        (accept_all (handed_on x.texts s own) own
        ((d, ClearFrame (record { transfer = t.transfer; clearance = Send })) ∷ []))
        (accept_all (handed_on o.sessions s own) own ((s, Answers a.number) ∷ []))) (sym source)
        (announcements_are_carried u after o.said x.texts o.sessions s own (met_core u r s) (heard_member u r s)
        [] a.number t.transfer o.between a.there a.named happened)

    sessions : Sessions
    sessions = accept_all (handed_on o.sessions s own) own ((s, Answers a.number) ∷ [])

    before : payloads.State
    before = payloads_met old.payloads (lesson_in h)

    l : MessageLimit
    l = old.core.place.message_limit

    limited : l ≡ u.net.message_limit
    limited = ap (λ (p : Place). p.message_limit) (sym (place_taught h.lesson old.core s) ∙ o.held.placed) ∙ o.limited

    kept : ArePayloads u.net.message_limit sessions o.said own known (payloads.after_begin before (coming_by l h t))
    kept =
        payloads_grow u.net.message_limit o.sessions sessions o.said o.said own known
        (payloads.after_begin before (coming_by l h t))
        (only_handed o.sessions s own ((s, Answers a.number) ∷ [])).grow (said_same o.said)
        (begun u.net.message_limit o.sessions o.said own known before (coming_by l h t) o.payloads
        (begins u.net.message_limit l o.sessions o.said own known h t a.number a.message a.named a.stands a.request
        source limited))

-- a payload of a collective that is announced to the rank is followed
pub announcement_step : (n r : ℕ) (engines : List EngineState) (u : GroupNetwork) (T : SessionsState →
    LinksOf FrameText → Type 0) (old mid : EngineState) (h : HeardText) (t : RequestText) →
    IsHearing n r engines u T old h →
    frame_in h.word ≡ Some (RequestFrame t) → t.plane ≡ planes.Collective → AnnouncementGives old h t (Ok tt) mid →
    IsStepped n r engines u h.source T mid
announcement_step n r engines u T old mid h t x is plane gives =
    subst (λ (e : EngineState). IsStepped n r engines u h.source T e) (sym gives.1)
    (taken_step n r engines u T old h t x is plane gives.0)
