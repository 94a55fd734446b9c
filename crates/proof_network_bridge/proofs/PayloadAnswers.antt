-- An answer to a payload that a rank announced is followed: all its pieces go out.
use Rattle.std.proofs.Common.{◌≡◌, ℕ, zero, suc, ◌-◌, ◌<◌, ◌≤◌, Bool, true, false, ◌==◌, List, [], ◌∷◌}
use Rattle.std.proofs.Common.{Option, Some, None, Ok, is_some, length, map, refl, sym, ap, subst, ◌∙◌, arith}
use Rattle.std.specs.Prelude.{option_map, slice_get}
use Rattle.std.specs.List.{AllByRecursion}
use Rattle.std.proofs.lemmas.Bool.{and_parts, eqb-false, eqb-true}
use Rattle.std.proofs.lemmas.Option.{same_Some, slice_get-map}
use Rattle.collective_messages.specs.declared.message.CollectiveMessage.{CollectiveMessage}
use Rattle.rendezvous.specs.Payloads.{Announced, is_to}
use Rattle.rendezvous.specs.PayloadState as payloads
use Rattle.rendezvous.specs.PayloadState.{after_answer, announced_at, announced_to, place_to, without}
use Rattle.datagram.specs.Spellings.{ClearFrame, ClearText, DataFrame, FrameText, OutgoingText}
use Rattle.engine.specs.Datagrams.{AnswerGives, after_answered, answer_fault, data_for, data_of, data_sent, ended_by}
use Rattle.engine.specs.Datagrams.{frame_in, groups_met, is_to_collective, payloads_met, unwanted}
use Rattle.engine_calls.specs.EngineState.{EngineState, or_before}
use Rattle.engine_calls.specs.Refusals.{fault_of_sessions}
use Rattle.proof_engine_steps.proofs.ListsApart.{Passes, position_passes}
use Rattle.proof_engine_steps.proofs.Wholes.{at_place, removed}
use Rattle.proof_engine_view.specs.Frames.{endpoint_of}
use Rattle.proof_engine_view.specs.CoreViews.{IsShown}
use Rattle.proof_engine_view.specs.Transfers.{Transfer}
use Rattle.proof_group_network.specs.SessionContents.{
  Announces,
  Answers,
  BringsPart,
  Carried,
  OfMessages,
  OfNotices,
  Sessions,
}
use Rattle.proof_group_network.specs.SessionContents.{in_parts, parts_from}
use Rattle.proof_group_network.specs.Happenings.{IsAfter, met_core}
use Rattle.proof_group_network.specs.Network.{GroupNetwork}
use Rattle.proof_group_network.specs.NoticesStand.{heard_member}
use Rattle.proof_group_network.specs.SessionLaws.{IsNext}
use Rattle.proof_link_truth.specs.Events as below
use Rattle.proof_link_truth.specs.Events.{MaySendAll, all_addressed}
use Rattle.link_truth.specs.Wire.{in_job, place_of}
use Rattle.endpoint_links.specs.Links.{LinksOf, accept_all, handed_on}
use Rattle.proof_pure_network.specs.Frames.{Cts, Frame}
use Rattle.proof_pure_network.specs.Network.{here}
use Rattle.proof_session_carrying.proofs.SessionViews.{next_stands}
use Rattle.proof_session_carrying.proofs.EventSteps.{answers_are_carried}
use Rattle.proof_session_carrying.specs.Announcements as sessions_announced
use Rattle.proof_session_carrying.specs.Announcements.{
  LargeMessage,
  LargeNotice,
  all_announced,
  transfer_as,
  transfers_as,
}
use Rattle.proof_session_carrying.specs.SessionViews.{Saying, StandsForCarried, bytes_of_message}
use Rattle.proof_session_carrying.specs.CarryLaws as carrying
use Rattle.proof_session_carrying.specs.EventLaws.{AreJoined}
use Rattle.point_to_point_calls.specs.FrameNews.{data_frames}
use Rattle.point_to_point.specs.CoreState.{CoreState}
use Rattle.point_to_point.specs.Arrivals as core
use Rattle.rendezvous.specs.Pieces.{piece_count, pieces_of}
use Rattle.sessions.specs.Events.{after_event, event_limit}
use Rattle.sessions.specs.HeardBytes.{HeardText}
use Rattle.sessions.specs.SessionsState.{SessionsState, known_endpoint}
use Rattle.vocabulary.specs.Limits.{greatest_limit}
use Rattle.vocabulary.specs.MessageLimits.{frame_limit_of}
use Rattle.vocabulary.specs.declared.endpoint.Endpoint.{Endpoint}
use Rattle.vocabulary.specs.declared.message_limit.MessageLimit.{MessageLimit}
use Rattle.proof_network_bridge.specs.Payloads.{ArePayloads, IsAnnouncedPayload, IsLargeNotice}
use Rattle.proof_network_bridge.proofs.WordsAlone.{IsAlone, IsSilent, alone_step}
use Rattle.proof_network_bridge.proofs.SessionOutput.{may_send}
use Rattle.proof_network_bridge.proofs.Halves.{neither_fault}
use Rattle.proof_network_bridge.proofs.HeardWords.{taught}
use Rattle.proof_network_bridge.proofs.Midway.{IsHearing, IsOpen, IsStepped, opened}
use Rattle.proof_network_bridge.proofs.OfMessages.{known_as}
use Rattle.proof_network_bridge.proofs.Payloads.{payloads_grow, said_same}
use Rattle.proof_network_bridge.proofs.Words.{hands_next}
use Rattle.proof_network_bridge.proofs.Worlds.{only_handed}
use Rattle.proof_engine_steps.proofs.DataFrames.{bytes_leave}

-- ---- the payload that is asked for

-- a payload is kept that is the transfer of this number to the rank
record IsKept (p : payloads.State) (rank transfer : ℕ) : Type 0 where
  payload : Announced
  found : announced_to p rank transfer ≡ Some payload
  place : ℕ
  there : slice_get p.announced place ≡ Some payload
  target : payload.target ≡ rank
  number : payload.transfer ≡ transfer

is_kept : (p : payloads.State) (rank transfer : ℕ) → is_some (announced_to p rank transfer) ≡ true →
    IsKept p rank transfer
is_kept p rank transfer is = go (place_to rank transfer p.announced) refl is
  where
    at : (i : ℕ) → place_to rank transfer p.announced ≡ Some i → Passes (is_to rank transfer) p.announced i →
        IsKept p rank transfer
    at i e q =
        let t = and_parts (q.element.target == rank) (q.element.transfer == transfer) q.passes in
        record {
          payload = q.element;
          found = ap (announced_at p.announced) e ∙ q.there;
          place = i;
          there = q.there;
          target = eqb-true q.element.target rank t.0;
          number = eqb-true q.element.transfer transfer t.1;
        }

    go : (o : Option ℕ) → place_to rank transfer p.announced ≡ o → is_some (announced_at p.announced o) ≡ true →
        IsKept p rank transfer
    go None e h = absurd cc
    go (Some i) e h = at i e (position_passes (is_to rank transfer) p.announced i e)

-- only without a lesson one is asked for
record IsAsked (lesson : Bool) (p : payloads.State) (rank transfer : ℕ) : Type 0 where
  plain : lesson ≡ false
  kept : IsKept p rank transfer

is_asked : (lesson : Bool) (p : payloads.State) (rank transfer : ℕ) → is_to_collective lesson p rank transfer ≡ true →
    IsAsked lesson p rank transfer
is_asked true p rank transfer is = absurd cc
is_asked false p rank transfer is = record { plain = refl; kept = is_kept p rank transfer is }

-- the notice of the session with the endpoint that asks for it, which the payload is
record IsAskedFor (limit : MessageLimit) (sessions : Sessions) (said : Saying) (own s : Endpoint) (transfer : ℕ)
    (bytes : List ℕ) : Type 0 where
  message : CollectiveMessage
  notice : IsLargeNotice limit sessions said own s transfer message
  bytes_are : bytes ≡ bytes_of_message message
  short : length bytes ≤ greatest_limit

is_asked_for : (limit : MessageLimit) (sessions : Sessions) (said : Saying) (own s : Endpoint) (known : List ℕ)
    (p : payloads.State)
    (transfer : ℕ) → ArePayloads limit sessions said own known p → (k : IsKept p s.rank transfer) →
    endpoint_of known s.rank ≡ s →
    IsAskedFor limit sessions said own s transfer k.payload.bytes
is_asked_for limit sessions said own s known p transfer all k source =
    record {
      message = a.message;
      notice = subst (λ (d : Endpoint). IsLargeNotice limit sessions said own d transfer a.message) source
          (subst (λ (rank : ℕ). IsLargeNotice limit sessions said own (endpoint_of known rank) transfer a.message)
          k.target
          (subst (λ (number : ℕ). IsLargeNotice limit sessions said own (endpoint_of known k.payload.target) number
          a.message)
          k.number a.notice));
      bytes_are = a.bytes;
      short = a.short;
    }
  where
    a : IsAnnouncedPayload limit sessions said own known k.payload
    a = at_place (IsAnnouncedPayload limit sessions said own known) p.announced k.place k.payload all.announced k.there

-- ---- what is heard

-- the serial in an answer
abbrev answered_serial : Frame → ℕ
answered_serial (Cts k wanted) = k
answered_serial _ = 0

-- the number of a notice
abbrev notice_number : sessions_announced.Announced → ℕ
notice_number (LargeMessage t) = 0
notice_number (LargeNotice i) = i

-- no answer to a message has the number of a notice: it would have any serial
no_message : (back : List sessions_announced.Announced) (transfer i : ℕ) (t u : Transfer) (f : Frame) (a b : Bool) →
    slice_get back transfer ≡ Some (LargeNotice i) → slice_get (transfers_as 0 back) transfer ≡ Some t →
    slice_get (transfers_as 1 back) transfer ≡ Some u → f ≡ Cts t.serial a → f ≡ Cts u.serial b → ⊥
no_message back transfer i t u f a b named first second is_first is_second =
    let zero_is : 0 ≡ t.serial = ap (λ (x : Transfer). x.serial) (same_Some (transfer_as 0 (LargeNotice i)) t (sym (as_transfer 0) ∙ first)) in
    let one_is : 1 ≡ u.serial = ap (λ (x : Transfer). x.serial) (same_Some (transfer_as 1 (LargeNotice i)) u (sym (as_transfer 1) ∙ second)) in
    let same : t.serial ≡ u.serial = ap answered_serial (sym is_first ∙ is_second) in
    omega (arith, zero_is, one_is, same)
  where
    as_transfer : (serial : ℕ) → slice_get (transfers_as serial back) transfer ≡
        Some (transfer_as serial (LargeNotice i))
    as_transfer serial = slice_get-map (transfer_as serial) back transfer ∙
        ap (λ (o : Option sessions_announced.Announced). option_map (transfer_as serial) o) named

-- the answer that the session hands up next is to that notice
is_of_answer : (w : GroupNetwork) (said : Saying) (texts : LinksOf FrameText) (sessions : Sessions) (own s : Endpoint)
    (t : ClearText) (i : ℕ) → AreJoined w said texts sessions →
    slice_get (texts s own).accepted (texts s own).handed ≡ Some (ClearFrame t) →
    slice_get (all_announced sessions own s) t.transfer ≡ Some (LargeNotice i) → IsNext sessions s own (Answers i)
is_of_answer w said texts sessions own s t i j next named = go next_is.carried next_is.there next_is.stands
  where
    limit : MessageLimit
    limit = w.net.message_limit

    next_is : carrying.IsNext limit (all_announced sessions s own) (all_announced sessions own s) (said s own)
        (sessions s own) (ClearFrame t)
    next_is = next_stands limit (all_announced sessions s own) (all_announced sessions own s) (said s own) (texts s own)
        (sessions s own) (ClearFrame t) (j.alike s own) next

    go : (x : Carried) → IsNext sessions s own x →
        StandsForCarried limit (all_announced sessions s own) (all_announced sessions own s) (said s own) (ClearFrame t)
        x →
        IsNext sessions s own (Answers i)
    go (Answers k) at stands =
        subst (λ (number : ℕ). IsNext sessions s own (Answers number))
        (ap notice_number (same_Some (LargeNotice k) (LargeNotice i) (sym stands.0 ∙ named))) at
    go (OfMessages f) at stands =
        absurd (no_message (all_announced sessions own s) t.transfer i (stands 0).transfer (stands 1).transfer f _ _
        named (stands 0).announced (stands 1).announced (stands 0).frame_is (stands 1).frame_is)
    go (OfNotices k) at stands = absurd stands.2
    go (Announces k) at stands = absurd stands.2
    go (BringsPart k part) at stands = absurd stands.2

-- ---- what goes out

-- the data go to the endpoint at which the rank is known
pieces_addressed : (known : List ℕ) (rank transfer : ℕ) (d : Endpoint) → known_endpoint known rank ≡ d →
    (ps : List (ℕ × List ℕ)) →
    all_addressed known (data_frames rank transfer ps) ≡
    map (λ (p : ℕ × List ℕ). (d, DataFrame (record { transfer = transfer; offset = p.0; bytes = p.1 }))) ps
pieces_addressed known rank transfer d is [] = refl
pieces_addressed known rank transfer d is (p ∷ ps) =
    ap (λ (e : Endpoint). (e, DataFrame (record { transfer = transfer; offset = p.0; bytes = p.1 })) ∷
    all_addressed known (data_frames rank transfer ps)) is
    ∙ ap (λ (ts : List (Endpoint × FrameText)).
    (d, DataFrame (record { transfer = transfer; offset = p.0; bytes = p.1 })) ∷ ts)
    (pieces_addressed known rank transfer d is ps)

-- the parts of a notice announce nothing
parts_silent : (d : Endpoint) (i part more : ℕ) →
    AllByRecursion IsSilent (map (λ (c : Carried). (d, c)) (parts_from i part more))
parts_silent d i part zero = (λ rest. refl, tt)
parts_silent d i part (suc more) = (λ rest. refl, parts_silent d i (suc part) more)

-- ---- what is left

-- the others stay what they are
left : (limit : MessageLimit) (sessions : Sessions) (said : Saying) (own : Endpoint) (known : List ℕ)
    (p : payloads.State)
    (rank transfer : ℕ) → ArePayloads limit sessions said own known p →
    ArePayloads limit sessions said own known (after_answer p rank transfer)
left limit sessions said own known p rank transfer all =
    record { announced = go (place_to rank transfer p.announced); coming = all.coming }
  where
    go : (o : Option ℕ) → AllByRecursion (IsAnnouncedPayload limit sessions said own known) (without p.announced o)
    go None = all.announced
    go (Some i) = removed (IsAnnouncedPayload limit sessions said own known) p.announced i all.announced

-- beside its payloads the engine is as the word alone leaves it
stays : (old : EngineState) (h : HeardText) (t : ClearText) (sendings : List OutgoingText) → h.lesson ≡ false →
    data_for old.sessions.place.message_limit old.payloads h t ≡ sendings →
    IsAlone old (after_answered old h t) h sendings
stays old h t sendings plain are = record {
  queues = λ a known core shown. subst (λ (c : CoreState). IsShown a c known core) core_is shown;
  place = ap (λ (c : CoreState). c.place) (sym core_is);
  completion = ap (λ (c : CoreState). c.completion) (sym core_is);
  groups = sym (ap (λ (lesson : Bool). groups_met old.groups (taught h.source lesson)) plain);
  ended = sym (ap (λ (lesson : Bool). or_before (ended_by old.groups (taught h.source lesson)) old.ended) plain);
  sessions = ap (after_event old.sessions (Some h)) are;
}
  where
    core_is : (opened old h).core ≡ old.core
    core_is = ap (λ (lesson : Bool). core.after_lesson lesson old.core h.source) plain

-- ---- an answer

-- it is followed
taken_step : (n r : ℕ) (engines : List EngineState) (u : GroupNetwork) (T : SessionsState → LinksOf FrameText → Type 0)
    (old : EngineState) (h : HeardText) (t : ClearText) → IsHearing n r engines u T old h →
    frame_in h.word ≡ Some (ClearFrame t) → is_to_collective h.lesson old.payloads h.source.rank t.transfer ≡ true →
    answer_fault old.payloads old.sessions h t ≡ None →
    IsStepped n r engines u h.source T (after_answered old h t)
taken_step n r engines u T old h t x is ours fine =
    alone_step n r engines u T old (after_answered old h t) h (ClearFrame t) sendings (in_parts s number more) x is
    (stays old h t sendings asked.plain sendings_are) may free
    (parts_silent s number 0 more) carried kept
  where
    own : Endpoint
    own = here u.net r

    s : Endpoint
    s = h.source

    o : IsOpen n r engines u.net.current u x.texts s (opened old h)
    o = x.opens

    known : List ℕ
    known = (opened old h).sessions.known

    says : below.IsNext x.texts s own (ClearFrame t)
    says = hands_next n x.texts s own h.word (ClearFrame t) is x.says

    source : known_endpoint known s.rank ≡ s
    source = known_as known s o.known

    asked : IsAsked h.lesson old.payloads s.rank t.transfer
    asked = is_asked h.lesson old.payloads s.rank t.transfer ours

    before : ArePayloads u.net.message_limit o.sessions o.said own known old.payloads
    before = subst
        (λ (lesson : Bool). ArePayloads u.net.message_limit o.sessions o.said own known
        (payloads_met old.payloads (taught s lesson)))
        asked.plain o.payloads

    -- the job's limit
    limit : MessageLimit
    limit = u.net.message_limit

    p : IsAskedFor limit o.sessions o.said own s t.transfer asked.kept.payload.bytes
    p = is_asked_for limit o.sessions o.said own s known old.payloads t.transfer before asked.kept source

    number : ℕ
    number = p.notice.number

    bytes : List ℕ
    bytes = bytes_of_message p.message

    more : ℕ
    more = piece_count (frame_limit_of limit) bytes - 1

    sendings : List OutgoingText
    sendings = data_sent limit s.rank t.transfer bytes

    sendings_are : data_for old.sessions.place.message_limit old.payloads h t ≡ sendings
    sendings_are = ap (λ (l : MessageLimit). data_for l old.payloads h t) o.limited ∙
        ap (data_of limit s.rank t.transfer) asked.kept.found ∙ ap (data_sent limit s.rank t.transfer) p.bytes_are

    free : fault_of_sessions (event_limit old.sessions (Some h) sendings) ≡ None
    free = subst (λ (fs : List OutgoingText). fault_of_sessions (event_limit old.sessions (Some h) fs) ≡ None)
        sendings_are
        (neither_fault (unwanted t.clearance)
        (fault_of_sessions
        (event_limit old.sessions (Some h) (data_for old.sessions.place.message_limit old.payloads h t))) fine).1

    short : length bytes ≤ 2147483647
    short = subst (λ (bs : List ℕ). length bs ≤ 2147483647) p.bytes_are p.short

    may : MaySendAll n r sendings
    may = may_send n limit own sendings
        (bytes_leave (in_job limit (place_of n own)) s.rank t.transfer bytes o.source (eqb-false s.rank r o.apart)
        says.carried.width.transfer short)

    next : IsNext o.sessions s own (Answers number)
    next = is_of_answer u o.said x.texts o.sessions own s t number o.between says.next p.notice.named

    some : 0 < length bytes
    some = omega (arith, p.notice.large)

    carried : (after : GroupNetwork) →
        IsAfter u after own (met_core u r s) u.net.link (heard_member u r s) u.notices [] →
        AreJoined after o.said (accept_all (handed_on x.texts s own) own (all_addressed known sendings))
        (accept_all (handed_on o.sessions s own) own (in_parts s number more))
    carried after happened =
        subst (λ (ts : List (Endpoint × FrameText)). AreJoined after o.said
        (accept_all (handed_on x.texts s own) own ts)
        (accept_all (handed_on o.sessions s own) own (in_parts s number more)))
        (sym (pieces_addressed known s.rank t.transfer s source (pieces_of (frame_limit_of limit) bytes)))
        (answers_are_carried u after o.said x.texts o.sessions s own (met_core u r s) (heard_member u r s)
        [] number t.transfer p.message o.between next p.notice.named p.notice.there some happened)

    sessions : Sessions
    sessions = accept_all (handed_on o.sessions s own) own (in_parts s number more)

    kept : ArePayloads limit sessions o.said own known (after_answer old.payloads s.rank t.transfer)
    kept =
        payloads_grow limit o.sessions sessions o.said o.said own known (after_answer old.payloads s.rank t.transfer)
        (only_handed o.sessions s own (in_parts s number more)).grow (said_same o.said)
        (left limit o.sessions o.said own known old.payloads s.rank t.transfer before)

-- an answer to a payload of a collective that the rank announced is followed
pub answer_step : (n r : ℕ) (engines : List EngineState) (u : GroupNetwork) (T : SessionsState → LinksOf FrameText →
    Type 0) (old mid : EngineState) (h : HeardText) (t : ClearText) → IsHearing n r engines u T old h →
    frame_in h.word ≡ Some (ClearFrame t) → is_to_collective h.lesson old.payloads h.source.rank t.transfer ≡ true →
    AnswerGives old h t (Ok tt) mid → IsStepped n r engines u h.source T mid
answer_step n r engines u T old mid h t x is ours gives =
    subst (λ (e : EngineState). IsStepped n r engines u h.source T e) (sym gives.1)
    (taken_step n r engines u T old h t x is ours gives.0)
