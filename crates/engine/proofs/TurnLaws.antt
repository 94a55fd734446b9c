-- What a turn is, and what comes of one.
use Rattle.std.proofs.Common.{◌≡◌, ℕ, zero, suc, ◌+◌, ◌-◌, ◌<◌, ◌≤◌, false, List, [], ◌∷◌, length, drop, refl, sym, ap}
use Rattle.std.proofs.Common.{subst, ◌∙◌, arith, inl, inr, Option, Some, None, Result, Ok, Err, slice_set}
use Rattle.std.proofs.lemmas.Grind.{common_steps}
use Rattle.std.proofs.lemmas.List.{length-append, length-drop, length-take}
use Rattle.std.proofs.lemmas.List.Sorted.{length_permutation}
use Rattle.std.proofs.lemmas.Option.{same_Some}
use Rattle.std.specs.Option.{is_some}
use Rattle.collective_steps.specs.declared.step.Ending.{Ending}
use Rattle.vocabulary.specs.declared.endpoint.Endpoint.{Endpoint}
use Rattle.datagram.specs.declared.refusal.DatagramRefusal as reading
use Rattle.datagram.specs.Spellings.{AckBody, BodyText, DatagramText, FrameBody, FrameText, ResetBody, OutgoingText}
use Rattle.datagram.specs.ByteMeanings.{datagram_of}
use Rattle.reliable_link.specs.ReceiverState.{ReceiverState, advanced, discarded}
use Rattle.sessions.specs.declared.peers.Peer.{Peer}
use Rattle.sessions.specs.SessionsState.{SessionsState}
use Rattle.sessions.specs.Peers.{peer_at}
use Rattle.sessions.specs.Spellings.{ack_of}
use Rattle.datagram.specs.declared.frame.Frame.{Frame}
use Rattle.sessions.specs.declared.heard.LinkEvent.{LinkEvent}
use Rattle.sessions.specs.declared.heard.LinkEvent.TheVariants as words
use Rattle.sessions.specs.HeardBytes.{CanHear, Follows, Hands, HeardText, WordText, session_met, word_text}
use Rattle.sessions.specs.Events.{after_event, after_heard, after_send, after_sends, answer_in, event_limit}
use Rattle.sessions.specs.Events.{next_bytes, out_on_accept, taught_known}
use Rattle.sessions.specs.HeldFrames.{turn_of, turn_of_body, turn_read}
use Rattle.sessions.specs.OutgoingOrder.{IsArranged, IsInOrder}
use Rattle.sessions.specs.Windows.{StaysWithin, room}
use Rattle.sessions.proofs.Amounts.{place_after}
use Rattle.sessions.proofs.SessionLookups.{peer_there}
use Rattle.sessions.proofs.Windows.{room_set}
use Rattle.point_to_point_calls.specs.declared.refusal.Refusal.{Refusal}
use Rattle.point_to_point_calls.specs.declared.refusal.Refusal.TheVariants as refusals
use Rattle.engine_calls.specs.EngineState.{EngineState, or_before}
use Rattle.engine.specs.Datagrams.{FollowGives, FollowedBy, HasFollowed, HeardGives, TurnGives, acknowledged, notice_in}
use Rattle.engine.specs.Datagrams.{MeetsWant, says_nothing, turn_from, without_next}
use Rattle.engine.specs.HeldFrameEnds.{FollowEnds, GoesOrStays, IsLeft, IsTurnRefusal, IsWant, LeavesTurn}
use Rattle.engine.specs.HeldFrameEnds.{NextIsRefused, TurnEnds}
use Rattle.engine.specs.Parts.{PartsGive, engine_with}
use Rattle.engine.specs.declared.parts.Parts.{Parts}
use Rattle.engine.proofs.WithoutMemory.{turn_refusal}
use Rattle.engine.proofs.DatagramLaws.{IsCarried, carried_by, known_carried, unheard_leaves}

-- ---- what follows

-- a frame of this source that follows
abbrev pub turn : Endpoint → FrameText → HeardText
turn source f = record { source = source; lesson = false; word = Follows f }

pub record IsTurnOf (source : Endpoint) (h : HeardText) : Type 0 where
  pub frame : FrameText
  pub is : turn source frame ≡ h

abbrev or_else : HeardText → Option HeardText → HeardText
or_else d (Some h) = h
or_else d None = d

of_body : (source : Endpoint) (b : BodyText) (h : HeardText) → Some h ≡ turn_of_body source b → IsTurnOf source h
of_body source (FrameBody f) h e = record { frame = f; is = sym (ap (or_else h) e) }
of_body source (AckBody held) h e = absurd (grind (arith, common_steps, e))
of_body source ResetBody h e = absurd (grind (arith, common_steps, e))

of_read : (source : Endpoint) (r : Result DatagramText reading.DatagramRefusal) (h : HeardText) →
    Some h ≡ turn_read source r → IsTurnOf source h
of_read source (Ok d) h e = of_body source d.body h e
of_read source (Err w) h e = absurd (grind (arith, common_steps, e))

pub of_bytes : (source : Endpoint) (bytes : List ℕ) (h : HeardText) → Some h ≡ turn_of source bytes → IsTurnOf source h
unfolding turn_of
of_bytes source bytes h e = of_read source (datagram_of bytes) h e

-- it can be heard
pub can_hear : (s : SessionsState) (source : Endpoint) (h : HeardText) → IsTurnOf source h →
    source.rank < length s.peers → CanHear s (Some h)
can_hear s source h t there = subst (λ (x : HeardText). CanHear s (Some x)) t.is (there, tt)

-- it says something
pub says_something : (source : Endpoint) (h : HeardText) → IsTurnOf source h → says_nothing h.lesson h.word ≡ false
says_something source h t = subst (λ (x : HeardText). says_nothing x.lesson x.word ≡ false) t.is refl

pub source_there : (source : Endpoint) (h : HeardText) (size : ℕ) → IsTurnOf source h → source.rank < size →
    h.source.rank < size
source_there source h size t there = subst (λ (x : HeardText). x.source.rank < size) t.is there

-- where it meets no limit, its number isn't the last one
pub left : (s : SessionsState) (source : Endpoint) (h : HeardText) → IsTurnOf source h →
    is_some (event_limit s (Some h) []) ≡ false →
    (peer_at s.peers source.rank).receiver.next ≡ 18446744073709551615 → ⊥
left s source h t free e =
    let k : is_some (event_limit s (Some (turn source t.frame)) []) ≡ false = subst (λ (x : HeardText). is_some (event_limit s (Some x) []) ≡ false) (sym t.is) free in
    grind (arith, common_steps, k, e)

-- ---- what a turn leaves of the sessions

-- with another sender a receiver is what it was
receiver_kept : (peers : List Peer) (q r : ℕ) (p : Peer) → p.receiver ≡ (peer_at peers q).receiver →
    (peer_at (slice_set peers q p) r).receiver ≡ (peer_at peers r).receiver
receiver_kept [] q r p is = refl
receiver_kept (a ∷ rest) zero zero p is = is
receiver_kept (a ∷ rest) zero (suc r) p is = refl
receiver_kept (a ∷ rest) (suc q) zero p is = refl
receiver_kept (a ∷ rest) (suc q) (suc r) p is = receiver_kept rest q r p is

receiver_sends : (s : SessionsState) (fs : List OutgoingText) (rank : ℕ) →
    (peer_at (after_sends s fs).peers rank).receiver ≡
    (peer_at s.peers rank).receiver
receiver_sends s [] rank = refl
receiver_sends s (f ∷ fs) rank = receiver_sends (after_send s f) fs rank ∙ receiver_kept s.peers f.target rank _ refl

-- what was carried out leaves the rank in its place
place_carried : (old new : SessionsState) (h : HeardText) → IsCarried old h new → new.place ≡ old.place
place_carried old new h goes = ap (λ (s : SessionsState). s.place) goes.carried ∙ place_after old (Some h) goes.frames

-- the acknowledgement that was spelled before says what is reached behind it
ack_is : (s mid : SessionsState) (source : Endpoint) (h : HeardText) → IsTurnOf source h →
    source.rank < length s.peers → IsCarried s h mid →
    ack_of mid.place source (peer_at mid.peers source.rank).receiver ≡
    ack_of s.place source (advanced (peer_at s.peers source.rank).receiver)
ack_is s mid source h t there goes =
    let new : Peer = record { sender = (peer_at s.peers source.rank).sender; receiver = advanced (peer_at s.peers source.rank).receiver } in
    let carried : mid ≡ after_event s (Some (turn source t.frame)) goes.frames = goes.carried ∙ ap (λ (x : HeardText). after_event s (Some x) goes.frames) (sym t.is) in
    let receiver : (peer_at mid.peers source.rank).receiver ≡ advanced (peer_at s.peers source.rank).receiver =
    ap (λ (x : SessionsState). (peer_at x.peers source.rank).receiver) carried
    ∙ receiver_sends (after_heard s (Some (turn source t.frame))) goes.frames source.rank
    ∙ ap (λ (p : Peer). p.receiver) (peer_there s.peers source.rank new there) in
    ap (λ (r : ReceiverState). ack_of mid.place source r) receiver
    ∙ ap (λ p. ack_of p source (advanced (peer_at s.peers source.rank).receiver)) (place_carried s mid h goes)

pub heard_carried : (old mid : EngineState) (h : HeardText) → HeardGives old h (Ok tt) mid →
    IsCarried old.sessions h mid.sessions
heard_carried old mid h gives = carried_by (notice_in h.lesson old.payloads h.source.rank h.word) old mid h tt gives

-- what is heard leaves the rank in its place, also where it is refused
pub heard_stays : (old new : Parts) (h : HeardText) (r : Result (Option Ending) Refusal) →
    PartsGive (λ e x f. HeardGives e h x f) old r new → new.sessions.place ≡ old.sessions.place
heard_stays old new h (Ok ending) gives =
    place_carried old.sessions new.sessions h
    (heard_carried (engine_with old None) (engine_with new (or_before ending None)) h (gives None))
heard_stays old new h (Err e) gives =
    ap (λ (x : EngineState). x.sessions.place)
    (unheard_leaves (notice_in h.lesson old.core.payloads.state h.source.rank h.word) (engine_with old None)
    (engine_with new None) h e (gives None))

-- so what is put in the place of the former one is just that
pub replaced : (old mid : EngineState) (at : ℕ) (source : Endpoint) (h : HeardText) (ack : List ℕ) → IsTurnOf source h →
    source.rank < length old.sessions.peers →
    HeardGives old h (Ok tt) mid →
    ack ≡ ack_of old.sessions.place source (advanced (peer_at old.sessions.peers source.rank).receiver) →
    record mid { sessions = record mid.sessions { out = slice_set mid.sessions.out at (source.rank, ack) } } ≡
    acknowledged at source mid
replaced old mid at source h ack t there gives is =
    let same : ack ≡ ack_of mid.sessions.place source (peer_at mid.sessions.peers source.rank).receiver =
    is ∙ sym (ack_is old.sessions mid.sessions source h t there (heard_carried old mid h gives)) in
    ap (λ (bytes : List ℕ). record mid {
      sessions =
          record mid.sessions { out = slice_set mid.sessions.out at (source.rank, bytes) };
    }) same

-- ---- what goes out

longer_sends : (s : SessionsState) (fs : List OutgoingText) → length s.out ≤ length (after_sends s fs).out
longer_sends s [] = omega arith
longer_sends s (f ∷ fs) =
    omega (
      arith,
      longer_sends (after_send s f) fs,
      length-append s.out (out_on_accept (peer_at s.peers f.target).sender f.target (next_bytes s f)),
    )

-- what went out stays
pub longer : (old mid : EngineState) (source : Endpoint) (h : HeardText) → IsTurnOf source h →
    HeardGives old h (Ok tt) mid →
    length old.sessions.out ≤ length mid.sessions.out
longer old mid source h t gives =
    let goes = heard_carried old mid h gives in
    let s = old.sessions in
    let carried : mid.sessions ≡ after_event s (Some (turn source t.frame)) goes.frames = goes.carried ∙ ap (λ (x : HeardText). after_event s (Some x) goes.frames) (sym t.is) in
    omega (
      arith,
      ap (λ (x : SessionsState). length x.out) carried,
      longer_sends (after_heard s (Some (turn source t.frame))) goes.frames,
      length-append s.out [],
    )

-- the acknowledgement of a frame that is handed up stands behind what went out before
pub acknowledged_first : (old first : EngineState) (h : HeardText) (f : FrameText) → h.word ≡ Hands f →
    HeardGives old h (Ok tt) first →
    length old.sessions.out < length first.sessions.out
acknowledged_first old first h f is gives =
    let goes = heard_carried old first h gives in
    let s = old.sessions in
    let said : HeardText = record { source = h.source; lesson = h.lesson; word = Hands f } in
    let same : h ≡ said = ap (λ (w : WordText). record h { word = w }) is in
    let carried : first.sessions ≡ after_event s (Some said) goes.frames = goes.carried ∙ ap (λ (x : HeardText). after_event s (Some x) goes.frames) same in
    omega (
      arith,
      ap (λ (x : SessionsState). length x.out) carried,
      longer_sends (after_heard s (Some said)) goes.frames,
      length-append s.out (answer_in said.word s.place (session_met h.lesson (peer_at s.peers h.source.rank)) h.source),
    )

-- a turn takes of the room in the windows
pub turn_within : (s t : SessionsState) (source : Endpoint) (h : HeardText) → IsTurnOf source h →
    StaysWithin (Some h) s t →
    length t.out + room t.peers ≤ length s.out + room s.peers
turn_within s t source h is stays =
    let w : StaysWithin (Some (turn source is.frame)) s t = subst (λ (x : HeardText). StaysWithin (Some x) s t) (sym is.is) stays in
    omega (arith, w)

-- and it teaches nothing
pub turn_known : (old mid : EngineState) (source : Endpoint) (h : HeardText) → IsTurnOf source h →
    HeardGives old h (Ok tt) mid →
    mid.sessions.known ≡ old.sessions.known
turn_known old mid source h t gives =
    known_carried old.sessions mid.sessions h (heard_carried old mid h gives)
    ∙ subst (λ (x : HeardText). taught_known x.lesson old.sessions.known x.source ≡ old.sessions.known) t.is refl

-- what isn't held any more leaves the room as it was
pub discard_within : (old new : EngineState) (source : Endpoint) → source.rank < old.sessions.place.size →
    length old.sessions.peers ≡ old.sessions.place.size →
    new ≡ without_next old source → length new.sessions.out + room new.sessions.peers ≤ length old.sessions.out +
    room old.sessions.peers
discard_within old new source there each is =
    let peers : List Peer = old.sessions.peers in
    let p : Peer = record { sender = (peer_at peers source.rank).sender; receiver = discarded (peer_at peers source.rank).receiver } in
    omega (
      arith,
      ap (λ (e : EngineState). length e.sessions.out) is,
      ap (λ (e : EngineState). room e.sessions.peers) is,
      room_set peers source.rank p (omega (arith, there, each)),
    )

-- as much goes out as before, arranged
arranged_length : (from : ℕ) (old new : List (ℕ × List ℕ)) → IsInOrder from old new → length new ≡ length old
arranged_length from old new in_order =
    omega (
      arith,
      ap (λ (x : List (ℕ × List ℕ)). length x) in_order.front,
      length_permutation (drop from old) (drop from new) in_order.moved,
      length-take from old,
      length-take from new,
      length-drop from old,
      length-drop from new,
    )

-- so it takes as much of the room
pub arranged_within : (from : ℕ) (old new : SessionsState) → IsArranged from old new → length new.out + room new.peers ≡
    length old.out + room old.peers
arranged_within from old new arranged =
    omega (
      arith,
      arranged_length from old.out new.out arranged.out,
      ap (λ (s : SessionsState). room s.peers) arranged.same,
    )

-- ---- so many turns

-- a turn in which nothing is taken in is the last one
pub left_turn : (why : Option Refusal) (turns at : ℕ) (source : Endpoint) (old new : EngineState) → 0 < turns →
    LeavesTurn (turn_from old source) why source old new → FollowEnds why turns at source old new
left_turn why zero at source old new some leaves = absurd (omega (arith, some))
left_turn why (suc k) at source old new some leaves = go (turn_from old source) leaves
  where
    go : (t : Option (Option HeardText)) → LeavesTurn t why source old new →
        TurnEnds t why at source (FollowEnds why k at source) old new
    go None leaves = leaves
    go (Some None) leaves = leaves
    go (Some (Some h)) leaves = inr leaves

-- nothing follows where nothing is held
pub nothing_held : (turns at : ℕ) (source : Endpoint) (old : EngineState) → 0 < turns →
    turn_from old source ≡ None →
    FollowEnds None turns at source old old
nothing_held turns at source old some is =
    left_turn None turns at source old old some
    (subst (λ (t : Option (Option HeardText)). LeavesTurn t None source old old) (sym is) (refl, refl))

-- what spells no frame is taken out
pub taken_out : (turns at : ℕ) (source : Endpoint) (old new : EngineState) → 0 < turns →
    turn_from old source ≡ Some None → new ≡ without_next old source →
    FollowEnds None turns at source old new
taken_out turns at source old new some is gone =
    left_turn None turns at source old new some
    (subst (λ (t : Option (Option HeardText)). LeavesTurn t None source old new) (sym is) (refl, gone))

-- what is refused in its turn is left so
left_so : (refused : Refusal) (why : Option Refusal) (source : Endpoint) (old new : EngineState) (h : HeardText) →
    HeardGives old h (Err refused) old → GoesOrStays refused why source old new → IsLeft h why source old new
left_so refused None source old new h gives (is, gone) =
    (subst (λ (r : Refusal). HeardGives old h (Err r) old) is gives, gone)
left_so refused (Some why) source old new h gives (for, is, same) =
    (for, subst (λ (r : Refusal). HeardGives old h (Err r) old) is gives, same)

-- no limit, and no want of memory, is a bad frame
no_want : (why : Refusal) → IsWant why → refusals.BadFrame ≡ why → ⊥
no_want why (inl limit) is =
    let same : refusals.BadFrame ≡ refusals.Limit = is ∙ limit in absurd cc
no_want why (inr memory) is =
    let same : refusals.BadFrame ≡ refusals.OutOfMemory = is ∙ memory in absurd cc

-- and so is what spells no frame
left_unread : (refused : Refusal) (why : Option Refusal) (source : Endpoint) (old new : EngineState) →
    refused ≡ refusals.BadFrame → GoesOrStays refused why source old new → LeavesTurn (Some None) why source old new
left_unread refused None source old new bad (is, gone) = (refl, gone)
left_unread refused (Some why) source old new bad (for, is, same) = absurd (no_want why for (sym bad ∙ is))

-- without memory
pub left_next : (o : Option (Option HeardText)) (refused : Refusal) (why : Option Refusal) (source : Endpoint)
    (old new : EngineState) → NextIsRefused o (Some refused) old →
    (IsTurnRefusal refused → GoesOrStays refused why source old new) → LeavesTurn o why source old new
left_next None refused why source old new is goes = absurd cc
left_next (Some None) refused why source old new is goes =
    let bad : refused ≡ refusals.BadFrame = same_Some refused refusals.BadFrame is in
    left_unread refused why source old new bad (goes (inl bad))
left_next (Some (Some h)) refused why source old new (r, is, gives) goes =
    let given : HeardGives old h (Err refused) old =
    subst (λ (x : Refusal). HeardGives old h (Err x) old) (sym (same_Some refused r is)) gives in
    left_so refused why source old new h given
    (goes (turn_refusal (notice_in h.lesson old.payloads h.source.rank h.word) old old h refused given))

-- a frame that is refused ends the turns
pub refused_turn : (why : Option Refusal) (turns at : ℕ) (source : Endpoint) (old mid new : EngineState)
    (h : HeardText) (refused : Refusal) → 0 < turns → turn_from old source ≡ Some (Some h) →
    HeardGives old h (Err refused) mid → (IsTurnRefusal refused → GoesOrStays refused why source mid new) →
    FollowEnds why turns at source old new
refused_turn why turns at source old mid new h refused some is gives goes =
    let same : mid ≡ old = unheard_leaves (notice_in h.lesson old.payloads h.source.rank h.word) old mid h refused gives in
    let given : HeardGives old h (Err refused) old = subst (λ (e : EngineState). HeardGives old h (Err refused) e) same gives in
    let gone : GoesOrStays refused why source old new =
    subst (λ (e : EngineState). GoesOrStays refused why source e new) same
    (goes (turn_refusal (notice_in h.lesson old.payloads h.source.rank h.word) old mid h refused gives)) in
    left_turn why turns at source old new some
    (subst (λ (t : Option (Option HeardText)). LeavesTurn t why source old new) (sym is)
    (left_so refused why source old new h given gone))

-- a turn that is taken in, and the rest
pub taken : (why : Option Refusal) (turns at : ℕ) (source : Endpoint) (old mid new : EngineState) (h : HeardText) →
    0 < turns →
    turn_from old source ≡ Some (Some h) → HeardGives old h (Ok tt) mid →
    FollowEnds why (turns - 1) at source (acknowledged at source mid) new →
    FollowEnds why turns at source old new
taken why zero at source old mid new h some is gives rest = absurd (omega (arith, some))
taken why (suc k) at source old mid new h some is gives rest =
    let back : suc k - 1 ≡ k = omega arith in
    rw is (inl (mid, gives, subst (λ (n : ℕ). FollowEnds why n at source (acknowledged at source mid) new) back rest))

-- a limit that it meets, or want of memory
wanting : (why : Refusal) (e : EngineState) (h : HeardText) → IsWant why → HeardGives e h (Err why) e → MeetsWant e h
wanting why e h (inl is) gives = inl (subst (λ (r : Refusal). HeardGives e h (Err r) e) is gives)
wanting why e h (inr is) gives = inr (subst (λ (r : Refusal). HeardGives e h (Err r) e) is gives)

-- the reason is forgotten
forget_turn : (why : Option Refusal) (k at : ℕ) (source : Endpoint) (old new : EngineState)
    (t : Option (Option HeardText)) →
    ((e : EngineState) → FollowEnds why k at source e new → FollowGives k at source e new) →
    TurnEnds t why at source (FollowEnds why k at source) old new →
    TurnGives t at source (FollowGives k at source) old new
forget_turn why k at source old new None rest ends = ends.1
forget_turn why k at source old new (Some None) rest ends = ends.1
forget_turn why k at source old new (Some (Some h)) rest (inl ends) =
    inl (ends.0, ends.1, rest (acknowledged at source ends.0) ends.2)
forget_turn None k at source old new (Some (Some h)) rest (inr ends) = inr (inl ends)
forget_turn (Some why) k at source old new (Some (Some h)) rest (inr (for, gives, same)) =
    inr (inr (wanting why old h for gives, same))

pub forget : (why : Option Refusal) (turns at : ℕ) (source : Endpoint) (old new : EngineState) →
    FollowEnds why turns at source old new →
    FollowGives turns at source old new
forget why zero at source old new ends = ends.1
forget why (suc k) at source old new ends =
    forget_turn why k at source old new (turn_from old source)
    (λ (e : EngineState) rest. forget why k at source e new rest) ends

-- ---- behind what is heard

-- nothing follows another word
pub follows_none : (w : LinkEvent) (at : ℕ) (source : Endpoint) (e : EngineState) →
    ((f : Frame) → w ≡ words.Hands f → ⊥) → FollowedBy (word_text w) at source e e
follows_none (words.Acknowledges n held) at source e other = refl
follows_none words.Repeats at source e other = refl
follows_none (words.Hands f) at source e other = absurd (other f refl)
follows_none (words.Holds early) at source e other = refl
follows_none (words.Follows f) at source e other = refl
follows_none words.Nothing at source e other = refl

-- a frame that is handed up is followed
pub follows_handed : (w : WordText) (f : FrameText) (at place : ℕ) (source : Endpoint) (first last : EngineState) →
    w ≡ Hands f → at ≡ place →
    HasFollowed 64 at source first last → FollowedBy w place source first last
follows_handed w f at place source first last is same followed =
    subst (λ (x : WordText). FollowedBy x place source first last) (sym is)
    (subst (λ (n : ℕ). HasFollowed 64 n source first last) same followed)
