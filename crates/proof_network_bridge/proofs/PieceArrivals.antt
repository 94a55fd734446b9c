-- A piece of a payload of a collective, which a rank takes in, is followed: with the last one the message is.
use Rattle.std.proofs.Common.{◌≡◌, ◌⊎◌, inl, inr, ℕ, suc, ◌*◌, ◌<◌, Bool, true, false, List, [], ◌++◌, length, Option}
use Rattle.std.proofs.Common.{Some, None, Ok, option_map, refl, sym, ap, subst, ◌∙◌, arith}
use Rattle.std.specs.Prelude.{slice_get, take}
use Rattle.std.specs.List.{AllByRecursion}
use Rattle.std.proofs.lemmas.Bool.{eq-eqb, ne_eqb}
use Rattle.std.proofs.lemmas.Option.{same_Some, slice_get-map}
use Rattle.collective_messages.specs.declared.message.CollectiveMessage.{CollectiveMessage}
use Rattle.collective_steps.specs.declared.step.Ending.{Ending}
use Rattle.rendezvous.specs.Payloads.{Coming, Whole, is_whole, whole_of, with_piece}
use Rattle.rendezvous.specs.PayloadState as payloads
use Rattle.rendezvous.specs.PayloadState.{is_due, put_back, whole_with}
use Rattle.datagram.specs.Spellings.{DataFrame, DataText, FrameText}
use Rattle.engine.specs.Datagrams.{IsPieceTaken, PieceGives, PieceGivesBy, ended_by, frame_in, groups_met}
use Rattle.engine.specs.Datagrams.{is_from_collective, payloads_grown, payloads_met}
use Rattle.engine_calls.specs.EngineState.{EngineState, GroupsState, or_before}
use Rattle.proof_collective_steps.specs.MemberViews as collectives
use Rattle.proof_engine_steps.proofs.UnderWay.{others_may_announce}
use Rattle.proof_engine_view.specs.Frames.{endpoint_of}
use Rattle.proof_engine_view.specs.CoreViews.{IsShown}
use Rattle.proof_engine_view.specs.FrameViews as standing
use Rattle.proof_engine_view.specs.Transfers.{Transfer}
use Rattle.proof_group_network.proofs.MidwaySteps.{words_come}
use Rattle.proof_group_network.proofs.SessionParts.{same_accepted}
use Rattle.proof_group_network.specs.SessionContents.{
  Announces,
  Answers,
  BringsPart,
  Carried,
  OfMessages,
  OfNotices,
  Sessions,
}
use Rattle.proof_group_network.specs.Happenings.{IsAfter, met_core}
use Rattle.proof_group_network.specs.Midway.{unsettled}
use Rattle.proof_group_network.specs.Network.{GroupNetwork}
use Rattle.proof_group_network.specs.NoticesStand.{heard_member}
use Rattle.proof_group_network.specs.SessionLaws.{IsNext}
use Rattle.proof_link_truth.specs.Events as below
use Rattle.endpoint_links.specs.Links.{LinksOf, handed_on}
use Rattle.proof_pure_network.specs.Core.{Core}
use Rattle.proof_pure_network.specs.Frames.{Cts, Data, Eager, Frame, Rts}
use Rattle.proof_pure_network.specs.Network.{here}
use Rattle.proof_session_carrying.proofs.SessionViews.{next_stands}
use Rattle.proof_session_carrying.proofs.EventSteps.{parts_are_carried}
use Rattle.proof_session_carrying.proofs.AnnouncementLaws.{same_begins}
use Rattle.proof_session_carrying.specs.Announcements.{
  Announced,
  LargeMessage,
  LargeNotice,
  all_announced,
  announced_in,
}
use Rattle.proof_session_carrying.specs.Announcements.{announcements_in, transfer_as, transfers_as}
use Rattle.proof_session_carrying.specs.SessionViews.{IsPiece, Saying, StandsForCarried, bytes_of_message}
use Rattle.proof_session_carrying.specs.CarryLaws as carrying
use Rattle.proof_session_carrying.specs.EventLaws.{AreJoined}
use Rattle.point_to_point.specs.CoreState.{CoreState}
use Rattle.point_to_point.specs.Arrivals as core
use Rattle.rendezvous.specs.Pieces.{piece_count}
use Rattle.sessions.specs.Events.{after_event}
use Rattle.sessions.specs.HeardBytes.{HeardText}
use Rattle.sessions.specs.SessionsState.{SessionsState}
use Rattle.vocabulary.specs.MessageLimits.{frame_limit_of}
use Rattle.vocabulary.specs.declared.endpoint.Endpoint.{Endpoint}
use Rattle.vocabulary.specs.declared.message_limit.MessageLimit.{MessageLimit}
use Rattle.proof_network_bridge.specs.Payloads.{ArePayloads, IsComingPayload, IsLargeNotice}
use Rattle.proof_network_bridge.proofs.HeardWords.{taught}
use Rattle.proof_network_bridge.proofs.Midway.{IsHearing, IsOpen, IsStepped, opened, stepped}
use Rattle.proof_network_bridge.proofs.Notices.{IsOfNotices, brought_at, notice_taken}
use Rattle.proof_network_bridge.proofs.OfMessages.{known_as}
use Rattle.proof_network_bridge.proofs.Opens.{taught_nothing}
use Rattle.proof_network_bridge.proofs.Payloads.{payloads_grow, said_same}
use Rattle.proof_network_bridge.proofs.Pieces.{IsComing, all_there, coming_then, due_place, grows_by, is_coming}
use Rattle.proof_network_bridge.proofs.Pieces.{length_of_pieces, more_behind, one_of_all, out_more, out_whole, put_more}
use Rattle.proof_network_bridge.proofs.Pieces.{put_whole, some_bytes, whole_is}
use Rattle.proof_network_bridge.proofs.Words.{hands_next, hands_on}
use Rattle.proof_network_bridge.proofs.Worlds.{only_handed}

-- ---- what the session hands up next

-- a piece that isn't the last one: the payload goes on with it
record IsPart (limit : MessageLimit) (sessions : Sessions) (said : Saying) (own s : Endpoint) (known : List ℕ)
    (c : Coming) : Type 0 where
  number : ℕ
  part : ℕ
  there : IsNext sessions s own (BringsPart number part)
  more : is_whole c ≡ false
  goes_on : IsComingPayload limit sessions said own known c

-- or the last one: with it the payload is a notice's message
record IsLast (w : GroupNetwork) (sessions : Sessions) (own s : Endpoint) (c : Coming) : Type 0 where
  whole : is_whole c ≡ true
  notice : IsOfNotices w sessions own s (whole_of c)

-- the number of a notice that was announced
abbrev number_of : Announced → ℕ
number_of (LargeMessage t) = 0
number_of (LargeNotice i) = i

-- the serial of data
abbrev serial_of : Frame → ℕ
serial_of (Data k offset values) = k
serial_of (Eager c tag basic values) = 0
serial_of (Rts c tag basic k count) = 0
serial_of (Cts k wanted) = 0

-- data of a frame of messages don't bear the number of a notice
no_message : (out back : List Announced) (t : DataText) (f : Frame) (i : ℕ) →
    slice_get out t.transfer ≡ Some (LargeNotice i) →
    ((serial : ℕ) → standing.StandsFor (transfers_as serial out) (transfers_as serial back) (DataFrame t) f) → ⊥
no_message out back t f i named stands =
    let zero_is : serial_of f ≡ 0 = bears 0 (stands 0) in
    let one_is : serial_of f ≡ 1 = bears 1 (stands 1) in
    absurd (omega (arith, zero_is, one_is))
  where
    bears : (serial : ℕ) → standing.IsData (transfers_as serial out) t f → serial_of f ≡ serial
    bears serial d =
        let as_notice : slice_get (transfers_as serial out) t.transfer ≡ Some (transfer_as serial (LargeNotice i)) =
        slice_get-map (transfer_as serial) out t.transfer ∙
        ap (λ (o : Option Announced). option_map (transfer_as serial) o) named in
        ap serial_of d.frame_is ∙
        ap (λ (x : Transfer). x.serial)
        (same_Some d.transfer (transfer_as serial (LargeNotice i)) (sym d.announced ∙ as_notice))

-- what the data are that the session hands up next, of a payload that comes
next_piece : (w : GroupNetwork) (said : Saying) (texts : LinksOf FrameText) (sessions : Sessions) (own s : Endpoint)
    (known : List ℕ) (c : Coming) (t : DataText) → AreJoined w said texts sessions →
    slice_get (texts s own).accepted (texts s own).handed ≡ Some (DataFrame t) →
    IsComingPayload w.net.message_limit sessions said own known c → endpoint_of known c.source ≡ s →
    c.transfer ≡ t.transfer → t.offset ≡ length c.bytes →
    IsPart w.net.message_limit sessions said own s known (with_piece c t.bytes) ⊎ IsLast w sessions own s
    (with_piece c t.bytes)
next_piece w said texts sessions own s known c t j next p source_is transfer_is behind =
    go next_is.carried next_is.there next_is.stands
  where
    limit : MessageLimit
    limit = w.net.message_limit

    size : ℕ
    size = frame_limit_of limit

    out : List Announced
    out = all_announced sessions s own

    back : List Announced
    back = all_announced sessions own s

    bytes : List ℕ
    bytes = bytes_of_message p.message

    next_is : carrying.IsNext limit out back (said s own) (sessions s own) (DataFrame t)
    next_is = next_stands limit out back (said s own) (texts s own) (sessions s own) (DataFrame t) (j.alike s own) next

    large : IsLargeNotice limit sessions said s own t.transfer p.message
    large = subst (λ (k : ℕ). IsLargeNotice limit sessions said s own k p.message) transfer_is
        (subst (λ (e : Endpoint). IsLargeNotice limit sessions said e own c.transfer p.message) source_is p.notice)

    -- a piece with this number is one of the payload's message
    same_message : (i part : ℕ) (m : CollectiveMessage) → slice_get (said s own) i ≡ Some m →
        IsPiece limit out i part m t →
        m ≡ p.message
    same_message i part m there piece =
        let number_is : i ≡ large.number = ap number_of (same_Some (LargeNotice i) (LargeNotice large.number) (sym piece.announced ∙ large.named)) in
        same_Some m p.message (sym there ∙ ap (λ (k : ℕ). slice_get (said s own) k) number_is ∙ large.there)

    -- and the next one of it
    grown : (i part : ℕ) → IsPiece limit out i part p.message t → c.bytes ++ t.bytes ≡ take (suc part * size) bytes
    grown i part piece =
        grows_by size bytes c.bytes t.bytes p.parts part t.offset (some_bytes limit) p.bytes p.some behind piece.place
        piece.bytes

    as_part : (i part : ℕ) → IsNext sessions s own (BringsPart i part) → suc part < piece_count size bytes →
        IsPiece limit out i part p.message t → IsPart limit sessions said own s known (with_piece c t.bytes)
    as_part i part at less piece =
        let some : suc part * size < length bytes = more_behind size part bytes (some_bytes limit) less in
        let long : length (c.bytes ++ t.bytes) ≡ suc part * size = ap length (grown i part piece) ∙ length_of_pieces size (suc part) bytes (omega (arith, some)) in
        record {
          number = i;
          part = part;
          there = at;
          more = ne_eqb (length (c.bytes ++ t.bytes)) c.total
              (λ same. absurd (omega (arith, same, long, some, p.total)));
          goes_on = record {
            limited = p.limited;
            message = p.message;
            notice = p.notice;
            context = p.context;
            number = p.number;
            total = p.total;
            parts = suc part;
            some = some;
            bytes = grown i part piece;
          };
        }

    as_last : (i part : ℕ) → IsNext sessions s own (OfNotices i) → slice_get (said s own) i ≡ Some p.message →
        suc part ≡ piece_count size bytes → IsPiece limit out i part p.message t →
        IsLast w sessions own s (with_piece c t.bytes)
    as_last i part at there last piece =
        let all : c.bytes ++ t.bytes ≡ bytes = grown i part piece ∙ all_there size part bytes (some_bytes limit) last in
        let found = brought_at s own (said s own) (w.notices s own).accepted i p.message (j.brought s own) there in
        record {
          whole = eq-eqb (length (c.bytes ++ t.bytes)) c.total (ap length all ∙ sym p.total);
          notice = record {
            number = i;
            message = p.message;
            notice = found.0;
            there = at;
            accepted = found.1;
            context = p.context;
            collective = p.number;
            bytes = all;
            brought = found.2;
          };
        }

    go : (x : Carried) → IsNext sessions s own x → StandsForCarried limit out back (said s own) (DataFrame t) x →
        IsPart limit sessions said own s known (with_piece c t.bytes) ⊎ IsLast w sessions own s (with_piece c t.bytes)
    go (OfMessages f) at stands = absurd (no_message out back t f large.number large.named stands)
    go (OfNotices i) at stands =
        let same : stands.0 ≡ p.message = same_message i stands.2.0 stands.0 stands.1 stands.2.2 in
        inr (as_last i stands.2.0 at (stands.1 ∙ ap (λ (m : CollectiveMessage). Some m) same)
        (stands.2.1 ∙ ap (λ (m : CollectiveMessage). piece_count size (bytes_of_message m)) same)
        (subst (λ (m : CollectiveMessage). IsPiece limit out i stands.2.0 m t) same stands.2.2))
    go (Announces i) at stands = absurd stands.2
    go (Answers i) at stands = absurd stands
    go (BringsPart i part) at stands =
        let same : stands.0 ≡ p.message = same_message i part stands.0 stands.1 stands.2.1 in
        inl (as_part i part at
        (subst (λ (m : CollectiveMessage). suc part < piece_count size (bytes_of_message m)) same stands.2.0)
        (subst (λ (m : CollectiveMessage). IsPiece limit out i part m t) same stands.2.1))

-- ---- a piece that isn't the last one

-- what is held stays so once something is handed up
shown_handed : (serial : ℕ) (sessions : Sessions) (s own : Endpoint) (c : CoreState) (known : List ℕ) (core : Core) →
    IsShown (announcements_in serial sessions own) c known core →
    IsShown (announcements_in serial (handed_on sessions s own) own) c known core
shown_handed serial sessions s own c known core h =
    others_may_announce (announcements_in serial sessions own) (announcements_in serial (handed_on sessions s own) own)
    c known core h
    (record {
      to = λ d. same_begins (transfers_as serial (all_announced sessions own d))
          (transfers_as serial (all_announced (handed_on sessions s own) own d)) (sym (same own d));
      from = λ x. same_begins (transfers_as serial (all_announced sessions x own))
          (transfers_as serial (all_announced (handed_on sessions s own) x own)) (sym (same x own));
    })
    (λ d. same own d)
  where
    same : (a b : Endpoint) → transfers_as serial (all_announced (handed_on sessions s own) a b) ≡
        transfers_as serial (all_announced sessions a b)
    same a b = ap (λ (xs : List Carried). transfers_as serial (announced_in xs)) (same_accepted sessions s own a b)

-- the engine that keeps these payloads, once its sessions heard a word and sent nothing
abbrev kept_by : EngineState → HeardText → payloads.State → EngineState
kept_by old h p = record old { payloads = p; sessions = after_event old.sessions (Some h) [] }

-- one that isn't the last is followed, with whatever payloads stand in the sessions then
part_step : (n r : ℕ) (engines : List EngineState) (u : GroupNetwork) (T : SessionsState → LinksOf FrameText → Type 0)
    (old : EngineState) (h : HeardText) (b : FrameText) (p : payloads.State) → (x : IsHearing n r engines u T old h) →
    frame_in h.word ≡ Some b → h.lesson ≡ false →
    (number part : ℕ) → IsNext x.opens.sessions h.source (here u.net r) (BringsPart number part) →
    ArePayloads u.net.message_limit x.opens.sessions x.opens.said (here u.net r) (opened old h).sessions.known p →
    IsStepped n r engines u h.source T (kept_by old h p)
part_step n r engines u T old h b p x is plain number part next kept =
    stepped n r 0 [] engines u s T e mid (met_core u r s) u.net.link (heard_member u r s) u.notices x.texts o.said
    (handed_on x.texts s own) (handed_on o.sessions s own) o comes
    (parts_are_carried u (unsettled u own s 0 []) o.said x.texts o.sessions s own (met_core u r s) (heard_member u r s)
    [] number part o.between next comes)
    (only_handed o.sessions s own []) (said_same o.said) leaves
    (taught_nothing u r s (handed_on o.sessions s own) mid ((o.held.queues 0).known_alike s.rank ∙ o.known) (record {
      queues = λ serial. shown_handed serial o.sessions s own mid.core mid.sessions.known (u.net.core own)
          (subst (λ (c : CoreState). IsShown (announcements_in serial o.sessions own) c e.sessions.known
          (u.net.core own)) core_is (o.held.queues serial));
      groups = subst (λ (g : GroupsState). collectives.IsShown own g.collective g.contexts (u.member own) old.ended)
          groups_are
          (subst (λ (given : Option Ending). collectives.IsShown own e.groups.collective e.groups.contexts
          (u.member own) given) ended_is o.held.groups);
      placed = ap (λ (c : CoreState). c.place) (sym core_is) ∙ o.held.placed;
    }))
    (ap (λ (c : CoreState). c.completion) (sym core_is) ∙ o.completion)
    (payloads_grow u.net.message_limit o.sessions (handed_on o.sessions s own) o.said o.said own mid.sessions.known p
    (only_handed o.sessions s own []).grow (said_same o.said) kept)
    refl
  where
    own : Endpoint
    own = here u.net r

    s : Endpoint
    s = h.source

    e : EngineState
    e = opened old h

    mid : EngineState
    mid = kept_by old h p

    o : IsOpen n r engines u.net.current u x.texts s e
    o = x.opens

    comes : IsAfter u (unsettled u own s 0 []) own (met_core u r s) u.net.link (heard_member u r s) u.notices []
    comes = words_come r u s

    -- it teaches nothing
    core_is : e.core ≡ old.core
    core_is = ap (λ (lesson : Bool). core.after_lesson lesson old.core s) plain

    groups_are : e.groups ≡ old.groups
    groups_are = ap (λ (lesson : Bool). groups_met old.groups (taught s lesson)) plain

    ended_is : e.ended ≡ old.ended
    ended_is = ap (λ (lesson : Bool). or_before (ended_by old.groups (taught s lesson)) old.ended) plain

    leaves : T mid.sessions (handed_on x.texts s own)
    leaves = subst (λ (ls : LinksOf FrameText). T mid.sessions ls) (hands_on x.texts s own h.word b is)
        (x.leaves [] tt refl)

-- ---- any piece

-- what a rank takes in as data of a payload is no lesson, and of one that comes
record IsOfPayload (p : payloads.State) (lesson : Bool) (rank transfer : ℕ) : Type 0 where
  plain : lesson ≡ false
  payload : IsComing p rank transfer

of_payload : (p : payloads.State) (lesson : Bool) (rank transfer : ℕ) → is_from_collective lesson p rank transfer ≡
    true → IsOfPayload p lesson rank transfer
of_payload p true rank transfer is = absurd cc
of_payload p false rank transfer is = record { plain = refl; payload = is_coming p rank transfer is }

-- it is due, and taken so
taken_so : (due : Bool) (o : Option Whole) (old : EngineState) (h : HeardText) (t : DataText) (mid : EngineState) →
    PieceGivesBy due o old h t (Ok tt) mid → (due ≡ true) × IsPieceTaken o old h t mid
taken_so true o old h t mid gives = (refl, gives)
taken_so false o old h t mid gives = absurd gives

-- a piece that a rank takes in is followed
pub piece_step : (n r : ℕ) (engines : List EngineState) (u : GroupNetwork) (T : SessionsState → LinksOf FrameText →
    Type 0) (old mid : EngineState) (h : HeardText) (t : DataText) → IsHearing n r engines u T old h →
    frame_in h.word ≡ Some (DataFrame t) → is_from_collective h.lesson old.payloads h.source.rank t.transfer ≡ true →
    PieceGives old h t (Ok tt) mid → IsStepped n r engines u h.source T mid
piece_step n r engines u T old mid h t x is ours gives =
    elim (next_piece u o.said x.texts o.sessions own s known c t o.between says.next payload source_is
    p.payload.transfer_is behind) [
      | inl part ↦ by_part part
      | inr last ↦ by_last last
    ]
  where
    own : Endpoint
    own = here u.net r

    s : Endpoint
    s = h.source

    o : IsOpen n r engines u.net.current u x.texts s (opened old h)
    o = x.opens

    known : List ℕ
    known = (opened old h).sessions.known

    p : IsOfPayload old.payloads h.lesson s.rank t.transfer
    p = of_payload old.payloads h.lesson s.rank t.transfer ours

    c : Coming
    c = p.payload.payload

    kept : ArePayloads u.net.message_limit o.sessions o.said own known old.payloads
    kept = subst
        (λ (lesson : Bool). ArePayloads u.net.message_limit o.sessions o.said own known
        (payloads_met old.payloads (taught s lesson)))
        p.plain o.payloads

    payload : IsComingPayload u.net.message_limit o.sessions o.said own known c
    payload =
        one_of_all (IsComingPayload u.net.message_limit o.sessions o.said own known) old.payloads.coming p.payload.place
        c kept.coming
        p.payload.there

    says : below.IsNext x.texts s own (DataFrame t)
    says = hands_next n x.texts s own h.word (DataFrame t) is x.says

    -- who is heard is known as he is
    source_is : endpoint_of known c.source ≡ s
    source_is = ap (endpoint_of known) p.payload.source_is ∙ known_as known s o.known

    taken : (is_due old.payloads s.rank t.transfer t.offset t.bytes ≡ true) ×
        IsPieceTaken (whole_with old.payloads s.rank t.transfer t.bytes) old h t mid
    taken = taken_so (is_due old.payloads s.rank t.transfer t.offset t.bytes)
        (whole_with old.payloads s.rank t.transfer t.bytes) old h t mid gives

    behind : t.offset ≡ length c.bytes
    behind = due_place old.payloads s.rank t.transfer t.offset t.bytes p.payload taken.0

    -- it is taken as the payload with it says
    taken_as : (y : Option Whole) → whole_with old.payloads s.rank t.transfer t.bytes ≡ y → IsPieceTaken y old h t mid
    taken_as y same = subst (λ (z : Option Whole). IsPieceTaken z old h t mid) same taken.1

    handed : whole_with old.payloads s.rank t.transfer t.bytes ≡ payloads.handed_out (with_piece c t.bytes)
    handed = whole_is old.payloads s.rank t.transfer t.bytes p.payload

    -- what is kept then
    kept_then : AllByRecursion (IsComingPayload u.net.message_limit o.sessions o.said own known)
        (put_back old.payloads.coming p.payload.place (with_piece c t.bytes)) →
        ArePayloads u.net.message_limit o.sessions o.said own known (payloads_grown old h t)
    kept_then all = record {
      announced = kept.announced;
      coming = subst (λ (cs : List Coming). AllByRecursion
          (IsComingPayload u.net.message_limit o.sessions o.said own known) cs)
          (sym (coming_then old.payloads s.rank t.transfer t.bytes p.payload)) all;
    }

    by_part : IsPart u.net.message_limit o.sessions o.said own s known (with_piece c t.bytes) →
        IsStepped n r engines u s T mid
    by_part part =
        subst (λ (e : EngineState). IsStepped n r engines u s T e)
        (sym (taken_as None (handed ∙ out_more (with_piece c t.bytes) part.more)).1)
        (part_step n r engines u T old h (DataFrame t) (payloads_grown old h t) x is p.plain part.number part.part
        part.there
        (kept_then (put_more (IsComingPayload u.net.message_limit o.sessions o.said own known) old.payloads.coming
        p.payload.place
        (with_piece c t.bytes) part.more part.goes_on kept.coming)))

    by_last : IsLast u o.sessions own s (with_piece c t.bytes) → IsStepped n r engines u s T mid
    by_last last =
        notice_taken n r engines u T old mid h (payloads_grown old h t) (DataFrame t) (whole_of (with_piece c t.bytes))
        x is last.notice
        (kept_then (put_whole (IsComingPayload u.net.message_limit o.sessions o.said own known) old.payloads.coming
        p.payload.place
        (with_piece c t.bytes) last.whole kept.coming))
        (taken_as (Some (whole_of (with_piece c t.bytes))) (handed ∙ out_whole (with_piece c t.bytes) last.whole))
