-- The frames of a step: in the order of the ranks, and within the format's limits.
use Rattle.std.proofs.Common.{◌≡◌, ℕ, zero, suc, ◌+◌, ◌*◌, ◌<◌, ◌≤◌, ◌==◌, ◌&&◌, ◌||◌, ◌⊎◌, inl, inr, not}
use Rattle.std.proofs.Common.{append_assoc, Bool, true, false, cond, List, [], ◌∷◌, ◌++◌, length, map, filter, take}
use Rattle.std.proofs.Common.{get_or, Option, Some, None, refl, sym, ap, subst, ◌∙◌, arith}
use Rattle.std.specs.Prelude.{All, if◌then◌else◌, nat_le, nat_lt}
use Rattle.std.proofs.lemmas.Bool.{leb-true, ltb-false, ltb-true}
use Rattle.std.proofs.lemmas.List.{append-nil, map_more}
use Rattle.std.proofs.lemmas.List.Elements.{All-append, All-cons, All-filter, All-nil, filter-append}
use Rattle.collective_messages.specs.Messages.{says}
use Rattle.collective_messages.specs.declared.message.CollectiveMessage.{CollectiveMessage}
use Rattle.rendezvous.specs.Payloads.{Announced}
use Rattle.datagram.specs.Spellings.{FrameFits, OutgoingText}
use Rattle.incarnation.specs.declared.place.Place.{Place}
use Rattle.payload.specs.Spellings.{spelling}
use Rattle.point_to_point_calls.specs.declared.refusal.Refusal.{Refusal}
use Rattle.point_to_point_calls.specs.declared.refusal.Refusal.TheVariants as refusals
use Rattle.rendezvous.specs.State.{is_full_to, next_to}
use Rattle.vocabulary.specs.MessageLimits.{frame_limit_of}
use Rattle.vocabulary.specs.declared.message_limit.MessageLimit.{MessageLimit}
use Rattle.vocabulary.proofs.MessageLimits.{frame_most}
use Rattle.rendezvous.specs.declared.transfers.Numbers.{Numbers}
use Rattle.sessions.specs.declared.peers.Peer.{Peer}
use Rattle.sessions.specs.declared.refusal.SessionRefusal as lower
use Rattle.sessions.specs.declared.refusal.SessionRefusal.TheVariants as lowers
use Rattle.sessions.specs.Events.{CanSend, after_event, after_heard, after_send, event_limit, first_limit}
use Rattle.sessions.specs.Events.{heard_limit, last_limit, sendings, sends_limit, word_limit}
use Rattle.sessions.specs.Refusals.{IsRefusal}
use Rattle.datagram.specs.declared.frame.Outgoing.{Outgoing}
use Rattle.sessions.specs.HeardBytes.{Acknowledges, Follows, Hands, HeardText, Holds, Nothing, Repeats, WordText}
use Rattle.sessions.specs.HeardBytes.{session_met}
use Rattle.sessions.specs.Peers.{peer_at}
use Rattle.sessions.specs.SessionsState.{SessionsState}
use Rattle.engine_calls.specs.Frames.{AreWhole, IsWhole, all_can_go, by_rank, can_go, is_large, is_sendable}
use Rattle.engine_calls.specs.Frames.{messages_sent, numbers_after, payload_frame, payload_kept, sending_of_message}
use Rattle.engine_calls.specs.Frames.{step_limit, step_numbers, step_payloads, step_sendings, transfer_of}
use Rattle.engine_calls.specs.Refusals.{fault_of_sessions, of_sessions}
use Rattle.engine_calls.specs.Steps.{AreReady, IsAdded, IsLeftOut, StepStops, written}
use Rattle.engine_calls.specs.declared.frames.Written.{Written}

-- ---- one more message, one more rank

more_chosen : (r : ℕ) (ws : List Written) (i : ℕ) (d : Written) → i < length ws →
    filter (λ (f : OutgoingText). f.target == r) (map written (take (i + 1) ws))
    ≡ filter (λ (f : OutgoingText). f.target == r) (map written (take i ws)) ++
    filter (λ (f : OutgoingText). f.target == r) (written (get_or ws i d) ∷ [])
more_chosen r ws i d within =
    ap (filter (λ (f : OutgoingText). f.target == r)) (map_more written ws i d within)
    ∙ filter-append (λ (f : OutgoingText). f.target == r) (map written (take i ws)) (written (get_or ws i d) ∷ [])

-- the next one is put behind those that were chosen, if it is chosen
pub one_chosen : (r : ℕ) (ws : List Written) (i : ℕ) (d : Written) (old before after : List OutgoingText) →
    i < length ws →
    before ≡ old ++ filter (λ (f : OutgoingText). f.target == r) (map written (take i ws)) →
    after ≡ before ++ filter (λ (f : OutgoingText). f.target == r) (written (get_or ws i d) ∷ []) →
    after ≡ old ++ filter (λ (f : OutgoingText). f.target == r) (map written (take (i + 1) ws))
one_chosen r ws i d old before after within was is =
    let next : List OutgoingText = filter (λ (f : OutgoingText). f.target == r) (written (get_or ws i d) ∷ []) in
    is ∙ ap (λ (t : List OutgoingText). t ++ next) was ∙
    append_assoc old (filter (λ (f : OutgoingText). f.target == r) (map written (take i ws))) next
    ∙ ap (λ (t : List OutgoingText). old ++ t) (sym (more_chosen r ws i d within))

pub by_rank_more : (k : ℕ) (fs : List OutgoingText) → by_rank (k + 1) fs ≡ by_rank k fs ++
    filter (λ (f : OutgoingText). f.target == k) fs
by_rank_more k fs =
    let next : k + 1 ≡ suc k = omega arith in ap (λ n. by_rank n fs) next

-- ---- one more message

pub both_of : (a b : Bool) → (a && b) ≡ true → (a ≡ true) × (b ≡ true)
both_of true b is = (refl, is)
both_of false b is = absurd cc

and_true : (a : Bool) → (a && true) ≡ a
and_true true = refl
and_true false = refl

and_more : (a b c : Bool) → (a && (b && c)) ≡ ((a && b) && c)
and_more true b c = refl
and_more false b c = refl

and_stops : (a b : Bool) → b ≡ false → (a && b) ≡ false
and_stops true b is = is
and_stops false b is = refl

numbers_snoc : (limit : MessageLimit) (ns : List Numbers) (xs : List CollectiveMessage) (m : CollectiveMessage) →
    step_numbers limit ns (xs ++ m ∷ []) ≡ numbers_after limit (step_numbers limit ns xs) m
numbers_snoc limit ns [] m = refl
numbers_snoc limit ns (x ∷ xs) m = numbers_snoc limit (numbers_after limit ns x) xs m

sent_snoc : (limit : MessageLimit) (ns : List Numbers) (xs : List CollectiveMessage) (m : CollectiveMessage) →
    messages_sent limit ns (xs ++ m ∷ []) ≡ messages_sent limit ns xs ++ sending_of_message limit (step_numbers limit ns xs) m ∷ []
sent_snoc limit ns [] m = refl
sent_snoc limit ns (x ∷ xs) m =
    ap (λ (t : List OutgoingText). sending_of_message limit ns x ∷ t) (sent_snoc limit (numbers_after limit ns x) xs m)

-- what is kept of one message
abbrev kept_of : MessageLimit → List Numbers → CollectiveMessage → List Announced
kept_of limit ns m = payload_kept (transfer_of limit ns m) m.target.rank (spelling (says m))

kept_snoc : (limit : MessageLimit) (ns : List Numbers) (xs : List CollectiveMessage) (m : CollectiveMessage) →
    step_payloads limit ns (xs ++ m ∷ []) ≡ step_payloads limit ns xs ++ kept_of limit (step_numbers limit ns xs) m
kept_snoc limit ns [] m = append-nil (kept_of limit ns m)
kept_snoc limit ns (x ∷ xs) m =
    ap (λ (t : List Announced). kept_of limit ns x ++ t) (kept_snoc limit (numbers_after limit ns x) xs m)
    ∙ sym (append_assoc (kept_of limit ns x) (step_payloads limit (numbers_after limit ns x) xs)
    (kept_of limit (step_numbers limit (numbers_after limit ns x) xs) m))

go_snoc : (p : Place) (ns : List Numbers) (xs : List CollectiveMessage) (m : CollectiveMessage) →
    all_can_go p ns (xs ++ m ∷ []) ≡ (all_can_go p ns xs && can_go p (step_numbers p.message_limit ns xs) m)
go_snoc p ns [] m = and_true (can_go p ns m)
go_snoc p ns (x ∷ xs) m =
    ap (λ (b : Bool). can_go p ns x && b) (go_snoc p (numbers_after p.message_limit ns x) xs m)
    ∙ and_more (can_go p ns x) (all_can_go p (numbers_after p.message_limit ns x) xs)
    (can_go p (step_numbers p.message_limit (numbers_after p.message_limit ns x) xs) m)

whole_snoc : (xs : List CollectiveMessage) (m : CollectiveMessage) → AreWhole xs → IsWhole m → AreWhole (xs ++ m ∷ [])
whole_snoc [] m all one = (one, tt)
whole_snoc (x ∷ xs) m all one = (all.0, whole_snoc xs m all.1 one)

snoc : (p : Place) (ns : List Numbers) (xs : List CollectiveMessage) (m : CollectiveMessage) (fs gs : List OutgoingText)
    (ps qs : List Announced) (n2 n3 : List Numbers) →
    AreReady p ns xs fs ps n2 → IsAdded p n2 m fs gs ps qs n3 → AreReady p ns (xs ++ m ∷ []) gs qs n3
snoc p ns xs m fs gs ps qs n2 n3 ready added =
    let one : IsAdded p (step_numbers p.message_limit ns xs) m fs gs ps qs n3 = subst (λ (n : List Numbers). IsAdded p n m fs gs ps qs n3) ready.numbers added in
    record {
      go = go_snoc p ns xs m ∙ ap (λ (b : Bool). b && can_go p (step_numbers p.message_limit ns xs) m) ready.go ∙ one.goes;
      frames = one.frames ∙ ap (λ (t : List OutgoingText). t ++ sending_of_message p.message_limit (step_numbers p.message_limit ns xs) m ∷
          []) ready.frames ∙ sym (sent_snoc p.message_limit ns xs m);
      kept = one.kept ∙ ap (λ (t : List Announced). t ++ kept_of p.message_limit (step_numbers p.message_limit ns xs) m) ready.kept ∙
          sym (kept_snoc p.message_limit ns xs m);
      numbers = one.numbers ∙ sym (numbers_snoc p.message_limit ns xs m);
      whole = whole_snoc xs m ready.whole one.whole;
    }

taken_more : (ms : List CollectiveMessage) (i : ℕ) (d : CollectiveMessage) → i < length ms →
    take (suc i) ms ≡ take i ms ++ get_or ms i d ∷ []
taken_more [] i d within = absurd (omega (arith, within))
taken_more (m ∷ ms) zero d within = refl
taken_more (m ∷ ms) (suc i) d within =
    ap (λ (t : List CollectiveMessage). m ∷ t) (taken_more ms i d (omega (arith, within)))

-- one more is written out
pub one_more : (p : Place) (ns : List Numbers) (ms : List CollectiveMessage) (i : ℕ) (d : CollectiveMessage)
    (fs gs : List OutgoingText) (ps qs : List Announced) (n2 n3 : List Numbers) →
    i < length ms → AreReady p ns (take i ms) fs ps n2 → IsAdded p n2 (get_or ms i d) fs gs ps qs n3 →
    AreReady p ns (take (i + 1) ms) gs qs n3
one_more p ns ms i d fs gs ps qs n2 n3 within ready added =
    let next : i + 1 ≡ suc i = omega arith in
    subst (λ (t : List CollectiveMessage). AreReady p ns t gs qs n3)
    (sym (ap (λ (k : ℕ). take k ms) next ∙ taken_more ms i d within))
    (snoc p ns (take i ms) (get_or ms i d) fs gs ps qs n2 n3 ready added)

stops_at : (p : Place) (ns : List Numbers) (ms : List CollectiveMessage) (i : ℕ) (d : CollectiveMessage) →
    i < length ms →
    can_go p (step_numbers p.message_limit ns (take i ms)) (get_or ms i d) ≡ false → all_can_go p ns ms ≡ false
stops_at p ns [] i d within is = absurd (omega (arith, within))
stops_at p ns (m ∷ ms) zero d within is = ap (λ (b : Bool). b && all_can_go p (numbers_after p.message_limit ns m) ms) is
stops_at p ns (m ∷ ms) (suc i) d within is =
    and_stops (can_go p ns m) (all_can_go p (numbers_after p.message_limit ns m) ms)
    (stops_at p (numbers_after p.message_limit ns m) ms i d (omega (arith, within)) is)

-- a test that fails stops a step
stop_of : (b : Bool) → (if b then None else Some refusals.Limit) ≡ Some refusals.Limit → b ≡ false
stop_of true is = absurd cc
stop_of false is = refl

-- what stops at one limit stops at another one that is met where that is
pub stops_as : (l k : Option Refusal) (e : Refusal) → (l ≡ Some refusals.Limit → k ≡ Some refusals.Limit) →
    StepStops l e → StepStops k e
stops_as l k refusals.OutOfMemory so is = tt
stops_as l k refusals.Limit so is = so is
stops_as l k refusals.Count so is = absurd is
stops_as l k refusals.WrongType so is = absurd is
stops_as l k refusals.Tag so is = absurd is
stops_as l k refusals.Communicator so is = absurd is
stops_as l k refusals.Rank so is = absurd is
stops_as l k refusals.Request so is = absurd is
stops_as l k refusals.Root so is = absurd is
stops_as l k refusals.Operation so is = absurd is
stops_as l k refusals.Replaced so is = absurd is
stops_as l k refusals.Short so is = absurd is
stops_as l k refusals.Magic so is = absurd is
stops_as l k refusals.Version so is = absurd is
stops_as l k refusals.Kind so is = absurd is
stops_as l k refusals.Length so is = absurd is
stops_as l k refusals.ForeignJob so is = absurd is
stops_as l k refusals.NotForMe so is = absurd is
stops_as l k refusals.StaleSource so is = absurd is
stops_as l k refusals.StaleTarget so is = absurd is
stops_as l k refusals.BadFrame so is = absurd is
stops_as l k refusals.OutOfWindow so is = absurd is
stops_as l k refusals.ClockBack so is = absurd is

-- where one message isn't written out, its step isn't
pub one_left_out : (p : Place) (ns n2 : List Numbers) (ms : List CollectiveMessage) (i : ℕ) (d : CollectiveMessage)
    (fs : List OutgoingText) (ps : List Announced) (e : Refusal) →
    i < length ms → AreReady p ns (take i ms) fs ps n2 → IsLeftOut (can_go p n2 (get_or ms i d)) e →
    IsLeftOut (all_can_go p ns ms) e
one_left_out p ns n2 ms i d fs ps e within ready is =
    stops_as (if can_go p n2 (get_or ms i d) then None else Some refusals.Limit) (if all_can_go p ns ms then None else
    Some refusals.Limit) e
    (λ stop.
    let fails : can_go p (step_numbers p.message_limit ns (take i ms)) (get_or ms i d) ≡ false =
    subst (λ (n : List Numbers). can_go p n (get_or ms i d) ≡ false) ready.numbers
    (stop_of (can_go p n2 (get_or ms i d)) stop) in
    ap (λ (b : Bool). cond b None (Some refusals.Limit)) (stops_at p ns ms i d within fails))
    is

-- ---- what can go

or_of : (a b : Bool) → (a || b) ≡ true → (a ≡ true) ⊎ (b ≡ true)
or_of true b is = inl refl
or_of false b is = inr is

-- what can go has at most as many bytes as a message
limited : (limit : MessageLimit) (ns : List Numbers) (rank count : ℕ) → is_sendable limit ns rank count ≡ true →
    count ≤ 2147483647
limited limit ns rank count is =
    elim (or_of (nat_le count (frame_limit_of limit)) (nat_le count 2147483647 && not (is_full_to ns rank)) is) [
      | inl small ↦ omega (arith, leb-true count (frame_limit_of limit) small, frame_most limit)
      | inr large ↦ leb-true count 2147483647 (both_of (nat_le count 2147483647) (not (is_full_to ns rank)) large).0
    ]

not_false : (b : Bool) → not b ≡ true → b ≡ false
not_false true is = absurd cc
not_false false is = refl

-- what is too long for a frame can go where a number is left
pub left_for : (p : Place) (ns : List Numbers) (m : CollectiveMessage) (count : ℕ) →
    count ≡ length (spelling (says m)) → can_go p ns m ≡ true → frame_limit_of p.message_limit < count →
    is_full_to ns m.target.rank ≡ false
left_for p ns m count counted is large =
    let parts = both_of (nat_lt m.target.rank p.size) (nat_le m.number 2147483647 && is_sendable p.message_limit ns m.target.rank (length (spelling (says m)))) is in
    let rest = both_of (nat_le m.number 2147483647) (is_sendable p.message_limit ns m.target.rank (length (spelling (says m)))) parts.1 in
    elim (or_of (nat_le (length (spelling (says m))) (frame_limit_of p.message_limit))
    (nat_le (length (spelling (says m))) 2147483647 && not (is_full_to ns m.target.rank)) rest.1) [
      | inl small ↦ absurd
          (omega (arith, leb-true (length (spelling (says m))) (frame_limit_of p.message_limit) small, counted, large))
      | inr room ↦ not_false (is_full_to ns m.target.rank)
          (both_of (nat_le (length (spelling (says m))) 2147483647) (not (is_full_to ns m.target.rank)) room).1
    ]

-- and it has at most as many bytes as a message
pub few_bytes : (p : Place) (ns : List Numbers) (m : CollectiveMessage) (count : ℕ) →
    count ≡ length (spelling (says m)) → can_go p ns m ≡ true → count ≤ 2147483647
few_bytes p ns m count counted is =
    let parts = both_of (nat_lt m.target.rank p.size) (nat_le m.number 2147483647 && is_sendable p.message_limit ns m.target.rank (length (spelling (says m)))) is in
    let rest = both_of (nat_le m.number 2147483647) (is_sendable p.message_limit ns m.target.rank (length (spelling (says m)))) parts.1 in
    omega (arith, counted, limited p.message_limit ns m.target.rank (length (spelling (says m))) rest.1)

frame_fits : (b : Bool) (frame transfer context number : ℕ) (bytes : List ℕ) → nat_lt frame (length bytes) ≡ b →
    frame ≤ 61440 → number ≤ 2147483647 →
    FrameFits (payload_frame (cond b (Some transfer) None) context number bytes)
frame_fits true frame transfer context number bytes large most tag = record { tag = tag; plane = refl }
frame_fits false frame transfer context number bytes small most tag =
    let size : length bytes ≡ length bytes * 1 = omega arith in
    let few : length bytes ≤ 61440 = omega (arith, ltb-false frame (length bytes) small, most) in
    record { tag = tag; size = size; limit = few; plane = refl }

one_sends : (p : Place) (ns : List Numbers) (m : CollectiveMessage) → can_go p ns m ≡ true →
    CanSend p (sending_of_message p.message_limit ns m)
one_sends p ns m is =
    let parts = both_of (nat_lt m.target.rank p.size) (nat_le m.number 2147483647 && is_sendable p.message_limit ns m.target.rank (length (spelling (says m)))) is in
    let rest = both_of (nat_le m.number 2147483647) (is_sendable p.message_limit ns m.target.rank (length (spelling (says m)))) parts.1 in
    record {
      there = ltb-true m.target.rank p.size parts.0;
      fits = frame_fits (is_large p.message_limit m) (frame_limit_of p.message_limit) (next_to ns m.target.rank)
          m.context m.number (spelling (says m)) refl (frame_most p.message_limit)
          (leb-true m.number 2147483647 rest.0);
    }

-- the sessions can send the frames of a step
pub all_send : (p : Place) (ns : List Numbers) (ms : List CollectiveMessage) → all_can_go p ns ms ≡ true →
    All (CanSend p) (messages_sent p.message_limit ns ms)
all_send p ns [] is = All-nil (CanSend p)
all_send p ns (m ∷ ms) is =
    let parts = both_of (can_go p ns m) (all_can_go p (numbers_after p.message_limit ns m) ms) is in
    All-cons (CanSend p) (sending_of_message p.message_limit ns m) (messages_sent p.message_limit (numbers_after p.message_limit ns m) ms) (one_sends p ns m parts.0)
    (all_send p (numbers_after p.message_limit ns m) ms parts.1)

-- and what was written out of one
pub written_send : (p q : Place) (ns n2 : List Numbers) (ms : List CollectiveMessage) (fs gs : List OutgoingText)
    (ps : List Announced) → p ≡ q → gs ≡ fs →
    AreReady p ns ms fs ps n2 → All (CanSend q) gs
written_send p q ns n2 ms fs gs ps place same ready =
    subst (λ (r : Place). All (CanSend r) gs) place
    (subst (λ (hs : List OutgoingText). All (CanSend p) hs) (sym (same ∙ ready.frames)) (all_send p ns ms ready.go))

pub all_by_rank : (p : Place) (k : ℕ) (fs : List OutgoingText) → All (CanSend p) fs → All (CanSend p) (by_rank k fs)
all_by_rank p zero fs all = All-nil (CanSend p)
all_by_rank p (suc k) fs all =
    All-append (CanSend p) (by_rank k fs) (filter (λ (f : OutgoingText). f.target == k) fs) (all_by_rank p k fs all)
    (All-filter (λ (f : OutgoingText). f.target == k) (CanSend p) fs all)

-- ---- why a step is stopped

last_limited : (n : ℕ) (e : lower.SessionRefusal) → last_limit n ≡ Some e → e ≡ lowers.Limit
last_limited n e is = go (n == 18446744073709551615) is
  where
    go : (t : Bool) → cond t (Some lowers.Limit) None ≡ Some e → e ≡ lowers.Limit
    go true q = cc
    go false q = absurd cc

word_limited : (w : WordText) (p : Peer) (e : lower.SessionRefusal) → word_limit w p ≡ Some e → e ≡ lowers.Limit
word_limited (Acknowledges n held) p e is = absurd cc
word_limited Repeats p e is = absurd cc
word_limited (Hands f) p e is = last_limited p.receiver.next e is
word_limited (Holds early) p e is = last_limited early.number e is
word_limited (Follows f) p e is = last_limited p.receiver.next e is
word_limited Nothing p e is = absurd cc

heard_limited : (s : SessionsState) (h : Option HeardText) (e : lower.SessionRefusal) → heard_limit s h ≡ Some e →
    e ≡ lowers.Limit
heard_limited s None e is = absurd cc
heard_limited s (Some h) e is = word_limited h.word (session_met h.lesson (peer_at s.peers h.source.rank)) e is

sends_limited : (s : SessionsState) (fs : List OutgoingText) (e : lower.SessionRefusal) → sends_limit s fs ≡ Some e →
    e ≡ lowers.Limit
sends_limited s [] e is = absurd cc
sends_limited s (f ∷ fs) e is = go _ (sends_limited (after_send s f) fs e) is
  where
    go : (t : Bool) → (sends_limit (after_send s f) fs ≡ Some e → e ≡ lowers.Limit) →
        cond t (Some lowers.Limit) (sends_limit (after_send s f) fs) ≡ Some e → e ≡ lowers.Limit
    go true rest q = cc
    go false rest q = rest q

event_limited : (s : SessionsState) (h : Option HeardText) (fs : List OutgoingText) (e : lower.SessionRefusal) →
    event_limit s h fs ≡ Some e → e ≡ lowers.Limit
event_limited s h fs e is = go (heard_limit s h) refl is
  where
    go : (o : Option lower.SessionRefusal) → heard_limit s h ≡ o → first_limit o (sends_limit (after_heard s h) fs) ≡
        Some e → e ≡ lowers.Limit
    go (Some f) found q = let same : Some f ≡ Some e = q in heard_limited s h e (found ∙ same)
    go None found q = sends_limited (after_heard s h) fs e q

-- a message can't go
pub unfit_stops : (s : SessionsState) (ns : List Numbers) (h : Option HeardText) (ms : List CollectiveMessage)
    (e : Refusal) → IsLeftOut (all_can_go s.place ns ms) e →
    StepStops (step_limit s ns h ms) e
unfit_stops s ns h ms e is =
    stops_as (if all_can_go s.place ns ms then None else Some refusals.Limit) (step_limit s ns h ms) e
    (λ stop. ap (λ (t : Bool). cond t (fault_of_sessions (event_limit s h (step_sendings s.place ns ms)))
    (Some refusals.Limit)) (stop_of (all_can_go s.place ns ms) stop))
    is

-- the same, told of a place
pub left_out : (p : Place) (s : SessionsState) (ns : List Numbers) (h : Option HeardText) (ms : List CollectiveMessage)
    (e : Refusal) → p ≡ s.place →
    IsLeftOut (all_can_go p ns ms) e → StepStops (step_limit s ns h ms) e
left_out p s ns h ms e place is =
    unfit_stops s ns h ms e (subst (λ (q : Place). IsLeftOut (all_can_go q ns ms) e) place is)

-- all go
pub fit_limit : (s : SessionsState) (ns : List Numbers) (h : Option HeardText) (ms : List CollectiveMessage) →
    all_can_go s.place ns ms ≡ true →
    step_limit s ns h ms ≡ fault_of_sessions (event_limit s h (step_sendings s.place ns ms))
fit_limit s ns h ms is =
    ap (λ (t : Bool). cond t (fault_of_sessions (event_limit s h (step_sendings s.place ns ms))) (Some refusals.Limit))
    is

by_limit : (o : Option lower.SessionRefusal) (e : lower.SessionRefusal) (limit : Option Refusal) →
    ((f : lower.SessionRefusal) → o ≡ Some f → f ≡ lowers.Limit) →
    limit ≡ fault_of_sessions o → IsRefusal o e → StepStops limit (of_sessions e)
by_limit None e limit only is refused =
    subst (λ (f : lower.SessionRefusal). StepStops limit (of_sessions f)) (sym refused) tt
by_limit (Some f) e limit only is refused =
    let named : f ≡ lowers.Limit = only f refl in
    subst (λ (g : lower.SessionRefusal). StepStops limit (of_sessions g)) (sym (refused ∙ named))
    (is ∙ ap (λ (g : lower.SessionRefusal). Some (of_sessions g)) named)

-- the sessions refuse the frames
pub sessions_stop : (s : SessionsState) (h : Option HeardText) (gs fs : List OutgoingText) (e : lower.SessionRefusal) →
    fs ≡ gs → IsRefusal (event_limit s h fs) e →
    StepStops (fault_of_sessions (event_limit s h gs)) (of_sessions e)
sessions_stop s h gs fs e are refused =
    by_limit (event_limit s h gs) e (fault_of_sessions (event_limit s h gs)) (event_limited s h gs) refl
    (subst (λ (hs : List OutgoingText). IsRefusal (event_limit s h hs) e) are refused)

-- what was written out is stopped as its step is
pub step_stops : (p : Place) (s : SessionsState) (ns n2 : List Numbers) (h : Option HeardText)
    (ms : List CollectiveMessage) (fs gs : List OutgoingText) (ps : List Announced) (e : Refusal) →
    p ≡ s.place → gs ≡ fs → AreReady p ns ms fs ps n2 →
    StepStops (fault_of_sessions (event_limit s h (by_rank s.place.size gs))) e → StepStops (step_limit s ns h ms) e
step_stops p s ns n2 h ms fs gs ps e place same ready is =
    let here : AreReady s.place ns ms fs ps n2 = subst (λ (q : Place). AreReady q ns ms fs ps n2) place ready in
    subst (λ (l : Option Refusal). StepStops l e)
    (ap (λ (hs : List OutgoingText). fault_of_sessions (event_limit s h (by_rank s.place.size hs)))
    (same ∙ here.frames) ∙
    sym (fit_limit s ns h ms here.go)) is

-- it goes as its step does
pub step_goes : (p : Place) (s : SessionsState) (ns n2 : List Numbers) (h : Option HeardText)
    (ms : List CollectiveMessage) (fs gs : List OutgoingText) (ps : List Announced) →
    p ≡ s.place → gs ≡ fs → AreReady p ns ms fs ps n2 → event_limit s h (by_rank s.place.size gs) ≡ None →
    step_limit s ns h ms ≡ None
step_goes p s ns n2 h ms fs gs ps place same ready is =
    let here : AreReady s.place ns ms fs ps n2 = subst (λ (q : Place). AreReady q ns ms fs ps n2) place ready in
    fit_limit s ns h ms here.go ∙
    ap (λ (hs : List OutgoingText). fault_of_sessions (event_limit s h (by_rank s.place.size hs)))
    (sym (same ∙ here.frames)) ∙ ap fault_of_sessions is

-- and leaves what its step does
pub step_sent : (p : Place) (s t : SessionsState) (ns n2 : List Numbers) (h : Option HeardText)
    (ms : List CollectiveMessage) (fs gs : List OutgoingText) (ps : List Announced) →
    p ≡ s.place → gs ≡ fs → AreReady p ns ms fs ps n2 → t ≡ after_event s h (by_rank s.place.size gs) →
    t ≡ after_event s h (step_sendings s.place ns ms)
step_sent p s t ns n2 h ms fs gs ps place same ready is =
    let here : AreReady s.place ns ms fs ps n2 = subst (λ (q : Place). AreReady q ns ms fs ps n2) place ready in
    is ∙ ap (λ (hs : List OutgoingText). after_event s h (by_rank s.place.size hs)) (same ∙ here.frames)

-- what is handed to the sessions is what was written out, in the order of the ranks
pub frames_are : (p q : Place) (fs : List OutgoingText) (os us : List Outgoing) → q ≡ p →
    sendings os ≡ by_rank q.size fs →
    us ≡ os → sendings us ≡ by_rank p.size fs
frames_are p q fs os us place sorted last = ap sendings last ∙ sorted ∙ ap (λ (r : Place). by_rank r.size fs) place
