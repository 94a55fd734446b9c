-- What sessions carry once an event of a collective happened.
use Rattle.std.proofs.Common.{◌≡◌, ℕ, zero, suc, ◌+◌, ◌-◌, ◌<◌, ◌&&◌, Bool, true, false, List, [], ◌∷◌, ◌++◌, length}
use Rattle.std.proofs.Common.{map, Some, if◌then◌else◌, slice_get, refl, sym, ap, subst, ◌∙◌, arith}
use Rattle.std.specs.List.{AllByRecursion, range_with_len}
use Rattle.std.proofs.lemmas.Bool.{and_parts}
use Rattle.collective_messages.specs.declared.message.CollectiveMessage.{CollectiveMessage}
use Rattle.datagram.specs.Spellings.{ClearFrame, DataFrame, EagerFrame, FrameText, RequestFrame}
use Rattle.datagram.specs.declared.kinds.Clearance.TheVariants.{Send}
use Rattle.perfect_queues.proofs.EndpointLemmas.{same_eq}
use Rattle.proof_collective_steps.specs.Counterparts.{AreSaid, IsSaid}
use Rattle.proof_collective_steps.specs.MessageNotes.{IsSendable}
use Rattle.proof_group_network.proofs.SessionParts.{announcement_answered, answer_followed, notice_handed}
use Rattle.proof_group_network.proofs.SessionParts.{notices_accepted, part_handed}
use Rattle.proof_group_network.specs.SessionContents.{
  Announces,
  Answers,
  AreAllParts,
  Carried,
  GoesOut,
  Sessions,
  in_parts,
}
use Rattle.proof_group_network.specs.SessionContents.{parts_from}
use Rattle.proof_group_network.specs.Network.{GroupNetwork, NoticeLink, also, noticed_on, notify, notify_all}
use Rattle.proof_group_network.specs.Notices.{Notice}
use Rattle.endpoint_links.specs.Links.{LinkOf, LinksOf, accept, accept_all, handed_on}
use Rattle.proof_pure_network.specs.Announcements.{Begins}
use Rattle.proof_pure_network.specs.Links.{Link}
use Rattle.proof_session_carrying.proofs.SessionViews.{announced_begins, announced_handed, as_it_is, handed_is_carried}
use Rattle.proof_session_carrying.proofs.SessionViews.{out_is_carried}
use Rattle.proof_session_carrying.proofs.AnnouncementLaws.{announced_append, at_here, begins_at, last_at, same_begins}
use Rattle.proof_session_carrying.specs.Announcements.{Announced, LargeNotice, all_announced, announced_in}
use Rattle.proof_session_carrying.specs.SessionViews.{AreAllBrought, AreBrought, AreCarried, AreSent, IsBrought, Saying}
use Rattle.proof_session_carrying.specs.SessionViews.{StandsForCarried, bytes_of_message, say, say_all}
use Rattle.proof_session_carrying.specs.CarryLaws.{GoesOn}
use Rattle.proof_session_carrying.specs.EventLaws.{AnnouncementsAreCarried, AnswersAreCarried, AreJoined, AreNumbered}
use Rattle.proof_session_carrying.specs.EventLaws.{Bring, Brings, EntriesAreCarried, HasNumber, NoticesAreCarried}
use Rattle.proof_session_carrying.specs.EventLaws.{PartsAreCarried, Tells, all_carried, all_pieces, carried_by}
use Rattle.rendezvous.proofs.PieceLaws.{pieces}
use Rattle.rendezvous.specs.Pieces.{piece_at, piece_count}
use Rattle.rendezvous.specs.WholePieces.{joined}
use Rattle.vocabulary.specs.Endpoints.{is_same}
use Rattle.vocabulary.specs.declared.endpoint.Endpoint.{Endpoint}
use Rattle.vocabulary.specs.MessageLimits.{frame_limit_of}
use Rattle.vocabulary.specs.declared.message_limit.MessageLimit.{MessageLimit}

-- ---- the messages of notices

-- one more of each
brought_push : (s d : Endpoint) (ms : List CollectiveMessage) (xs : List Notice) (m : CollectiveMessage) (x : Notice) →
    AreBrought s d ms xs → IsBrought s d m x → AreBrought s d (ms ++ m ∷ []) (xs ++ x ∷ [])
brought_push s d [] [] m x all one = (one, tt)
brought_push s d [] (y ∷ ys) m x all one = absurd all
brought_push s d (n ∷ ns) [] m x all one = absurd all
brought_push s d (n ∷ ns) (y ∷ ys) m x all one = (all.0, brought_push s d ns ys m x all.1 one)

-- there are as many of each
as_many : (s d : Endpoint) (ms : List CollectiveMessage) (xs : List Notice) → AreBrought s d ms xs →
    length ms ≡ length xs
as_many s d [] [] all = refl
as_many s d [] (y ∷ ys) all = absurd all
as_many s d (n ∷ ns) [] all = absurd all
as_many s d (n ∷ ns) (y ∷ ys) all = ap suc (as_many s d ns ys all.1)

-- what was said stays so
say_goes_on : (said : Saying) (e : Endpoint) (m : CollectiveMessage) → GoesOn said (say said e m)
say_goes_on said e m s d = go (is_same s e && is_same d m.target) refl
  where
    go : (t : Bool) → (is_same s e && is_same d m.target) ≡ t →
        Begins (said s d) (if t then said e m.target ++ m ∷ [] else said s d)
    go true is =
        let p = and_parts (is_same s e) (is_same d m.target) is in (
          m ∷ [],
          ap (λ (z : Endpoint). said z d ++ m ∷ []) (same_eq s e p.0) ∙
              ap (λ (z : Endpoint). said e z ++ m ∷ []) (same_eq d m.target p.1),
        )
    go false is = same_begins (said s d) (said s d) refl

-- a message to its target stands for the notice that goes there
brought_said : (said : Saying) (ns : Endpoint → Endpoint → NoticeLink) (e : Endpoint) (m : CollectiveMessage)
    (x : Notice) → AreAllBrought said ns → IsBrought e m.target m x →
    AreAllBrought (say said e m) (notify ns e (m.target, x))
brought_said said ns e m x all one s d = go (is_same s e && is_same d m.target) refl
  where
    go : (t : Bool) → (is_same s e && is_same d m.target) ≡ t →
        AreBrought s d (if t then said e m.target ++ m ∷ [] else said s d)
        (if t then record { accepted = (ns e m.target).accepted ++ x ∷ []; handed = (ns e m.target).handed } else
        ns s d).accepted
    go true is =
        let p = and_parts (is_same s e) (is_same d m.target) is in
        subst (λ (z : Endpoint). AreBrought z d (said e m.target ++ m ∷ []) ((ns e m.target).accepted ++ x ∷ []))
        (sym (same_eq s e p.0))
        (subst (λ (z : Endpoint). AreBrought e z (said e m.target ++ m ∷ []) ((ns e m.target).accepted ++ x ∷ []))
        (sym (same_eq d m.target p.1))
        (brought_push e m.target (said e m.target) (ns e m.target).accepted m x (all e m.target) one))
    go false is = all s d

-- its number is that of the notice
said_there : (said : Saying) (ns : Endpoint → Endpoint → NoticeLink) (e : Endpoint) (m : CollectiveMessage) →
    AreAllBrought said ns → slice_get (say said e m e m.target) (length (ns e m.target).accepted) ≡ Some m
said_there said ns e m all =
    ap (λ (ms : List CollectiveMessage). slice_get ms (length (ns e m.target).accepted))
    (at_here e m.target (said e m.target ++ m ∷ []) (said e m.target))
    ∙ ap (slice_get (said e m.target ++ m ∷ []))
    (sym (as_many e m.target (said e m.target) (ns e m.target).accepted (all e m.target))) ∙
    last_at (said e m.target) m

-- ---- what a rank sends

-- the links are the parts of the sessions, whose texts stand for what they carry, and whose notices are these messages
record Holds (limit : MessageLimit) (ls : Endpoint → Endpoint → Link) (ns : Endpoint → Endpoint → NoticeLink)
    (said : Saying)
    (texts : LinksOf FrameText) (sessions : Sessions) : Type 0 where
  parts : AreAllParts sessions ls ns
  alike : AreCarried limit said texts sessions
  brought : AreAllBrought said ns

-- a notice goes out whole, or is announced
goes_out : (text : FrameText) (i : ℕ) → GoesOut i (carried_by text i)
goes_out (EagerFrame t) i = refl
goes_out (RequestFrame t) i = refl
goes_out (ClearFrame t) i = refl
goes_out (DataFrame t) i = refl

-- a text that brings a message, or announces it under the next number, stands for what goes out
stands_next : (limit : MessageLimit) (sessions : Sessions) (e d : Endpoint) (said back : List Announced)
    (ms : List CollectiveMessage) (i : ℕ)
    (m : CollectiveMessage) (text : FrameText) → Tells limit m text →
    HasNumber (length (announced_in (sessions e d).accepted)) text → slice_get ms i ≡ Some m →
    StandsForCarried limit (announced_in ((sessions e d).accepted ++ carried_by text i ∷ [])) back ms text
    (carried_by text i)
stands_next limit sessions e d said back ms i m (EagerFrame t) tells number there = (m, there, tells)
stands_next limit sessions e d said back ms i m (RequestFrame t) tells number there = (m, there, (named, tells))
  where
    named : slice_get (announced_in ((sessions e d).accepted ++ Announces i ∷ [])) t.transfer ≡ Some (LargeNotice i)
    named =
        ap (slice_get (announced_in ((sessions e d).accepted ++ Announces i ∷ []))) number
        ∙ ap (λ (xs : List Announced). slice_get xs (length (announced_in (sessions e d).accepted)))
        (announced_append (sessions e d).accepted (Announces i ∷ []))
        ∙ last_at (announced_in (sessions e d).accepted) (LargeNotice i)
stands_next limit sessions e d said back ms i m (ClearFrame t) tells number there = absurd tells
stands_next limit sessions e d said back ms i m (DataFrame t) tells number there = absurd tells

-- one message goes out to its target
one_told : (limit : MessageLimit) (n : ℕ) (ls : Endpoint → Endpoint → Link) (ns : Endpoint → Endpoint → NoticeLink)
    (said : Saying)
    (texts : LinksOf FrameText) (sessions : Sessions) (e : Endpoint) (m : CollectiveMessage) (x : Notice)
    (text : Endpoint × FrameText) →
    Holds limit ls ns said texts sessions → IsSaid e m (m.target, x) → IsSendable n e m → Brings limit m text →
    HasNumber (length (announced_in (sessions e m.target).accepted)) text.1 →
    Holds limit ls (notify ns e (m.target, x)) (say said e m) (accept texts e text)
    (accept sessions e (m.target, carried_by text.1 (length (ns e m.target).accepted)))
one_told limit n ls ns said texts sessions e m x text h said_is can b number =
    record {
      parts = notices_accepted sessions ls ns e ((m.target, x) ∷ []) ((m.target, c) ∷ []) h.parts
          (refl, goes_out text.1 i, tt);
      alike = out_is_carried limit said (say said e m) texts sessions e (text ∷ []) ((m.target, c) ∷ []) h.alike
          (say_goes_on said e m) (b.target, stands, tt);
      brought =
          brought_said said ns e m x h.brought
          (record { said = said_is; alike = sym can.alike; readable = can.readable; spelled = b.spelled });
    }
  where
    i : ℕ
    i = length (ns e m.target).accepted

    c : Carried
    c = carried_by text.1 i

    after : Sessions
    after = accept sessions e (m.target, c)

    stands : StandsForCarried limit (all_announced after e m.target) (all_announced after m.target e)
        (say said e m e m.target) text.1 c
    stands =
        subst (λ (xs : List Announced). StandsForCarried limit xs (all_announced after m.target e)
        (say said e m e m.target)
        text.1 c)
        (ap (λ (l : List Carried). announced_in l)
        (sym (ap (λ (l : LinkOf Carried). l.accepted)
        (at_here e m.target (record (sessions e m.target) { accepted = (sessions e m.target).accepted ++ c ∷ [] })
        (sessions e m.target)))))
        (stands_next limit sessions e m.target (all_announced after m.target e) (all_announced after m.target e)
        (say said e m e m.target) i m text.1 b.tells number (said_there said ns e m h.brought))

-- all that a rank sends
all_told : (limit : MessageLimit) (n : ℕ) (ls : Endpoint → Endpoint → Link) (ns : Endpoint → Endpoint → NoticeLink)
    (said : Saying)
    (texts : LinksOf FrameText) (sessions : Sessions) (e : Endpoint) (ms : List CollectiveMessage)
    (xs : List (Endpoint × Notice)) (ts : List (Endpoint × FrameText)) →
    Holds limit ls ns said texts sessions → AreSaid e ms xs → AllByRecursion (IsSendable n e) ms → Bring limit ms ts →
    AreNumbered sessions e ts (all_carried ns e xs ts) →
    Holds limit ls (notify_all ns e xs) (say_all said e ms) (accept_all texts e ts)
    (accept_all sessions e (all_carried ns e xs ts))
all_told limit n ls ns said texts sessions e [] [] [] h s can b number = h
all_told limit n ls ns said texts sessions e [] [] (t ∷ ts) h s can b number = absurd b
all_told limit n ls ns said texts sessions e [] (x ∷ xs) ts h s can b number = absurd s
all_told limit n ls ns said texts sessions e (m ∷ ms) [] ts h s can b number = absurd s
all_told limit n ls ns said texts sessions e (m ∷ ms) (x ∷ xs) [] h s can b number = absurd b
all_told limit n ls ns said texts sessions e (m ∷ ms) ((d, x) ∷ xs) (t ∷ ts) h s can b number =
    all_told limit n ls (notify ns e (d, x)) (say said e m) (accept texts e t)
    (accept sessions e (d, carried_by t.1 (length (ns e d).accepted))) e ms xs ts (one d s.0 number.0) s.1 can.1 b.1
    number.1
  where
    one : (z : Endpoint) → IsSaid e m (z, x) → HasNumber (length (announced_in (sessions e z).accepted)) t.1 →
        Holds limit ls (notify ns e (z, x)) (say said e m) (accept texts e t)
        (accept sessions e (z, carried_by t.1 (length (ns e z).accepted)))
    one z said_is = at z said_is.target said_is
      where
        at : (y : Endpoint) → y ≡ m.target → IsSaid e m (y, x) →
            HasNumber (length (announced_in (sessions e y).accepted)) t.1 →
            Holds limit ls (notify ns e (y, x)) (say said e m) (accept texts e t)
            (accept sessions e (y, carried_by t.1 (length (ns e y).accepted)))
        at y is =
            subst (λ (q : Endpoint). IsSaid e m (q, x) → HasNumber (length (announced_in (sessions e q).accepted)) t.1 →
            Holds limit ls (notify ns e (q, x)) (say said e m) (accept texts e t)
            (accept sessions e (q, carried_by t.1 (length (ns e q).accepted)))) (sym is)
            (λ a k. one_told limit n ls ns said texts sessions e m x t h a can.0 b.0 k)

-- the links of the network that comes of it are these
joined_as : (limit : MessageLimit) (after : GroupNetwork) (ls : Endpoint → Endpoint → Link)
    (ns : Endpoint → Endpoint → NoticeLink)
    (said : Saying) (texts : LinksOf FrameText) (sessions : Sessions) → after.net.link ≡ ls → after.notices ≡ ns →
    after.net.message_limit ≡ limit →
    Holds limit ls ns said texts sessions → AreJoined after said texts sessions
joined_as limit after ls ns said texts sessions a b c h =
    record {
      parts = subst (λ (l : Endpoint → Endpoint → Link). AreAllParts sessions l after.notices) (sym a)
          (subst (λ (k : Endpoint → Endpoint → NoticeLink). AreAllParts sessions ls k) (sym b) h.parts);
      alike = subst (λ (l : MessageLimit). AreCarried l said texts sessions) (sym c) h.alike;
      brought = subst (λ (k : Endpoint → Endpoint → NoticeLink). AreAllBrought said k) (sym b) h.brought;
    }

as_held : (w : GroupNetwork) (said : Saying) (texts : LinksOf FrameText) (sessions : Sessions) →
    AreJoined w said texts sessions → Holds w.net.message_limit w.net.link w.notices said texts sessions
as_held w said texts sessions j = record { parts = j.parts; alike = j.alike; brought = j.brought }

pub entries_are_carried : EntriesAreCarried
entries_are_carried n w after said texts sessions e core t k given sent entries gone j f b number =
    joined_as w.net.message_limit after w.net.link (notify_all w.notices e f.out) (say_all said e sent)
    (accept_all texts e gone)
    (accept_all sessions e (all_carried w.notices e f.out gone)) f.happened.messages_are f.happened.notices_are
    f.happened.limit_is
    (all_told w.net.message_limit n w.net.link w.notices said texts sessions e sent f.out gone
    (as_held w said texts sessions j) f.said
    f.sendable b number)

-- what is handed up was accepted before
same_notices : (ns : Endpoint → Endpoint → NoticeLink) (s d : Endpoint) (i : ℕ) (a b : Endpoint) →
    (ns a b).accepted ≡ (noticed_on ns s d i a b).accepted
same_notices ns s d i a b = go (is_same a s && is_same b d) refl
  where
    go : (t : Bool) → (is_same a s && is_same b d) ≡ t →
        (ns a b).accepted ≡
        (if t then record { accepted = (ns s d).accepted; handed = also (ns s d).handed i } else ns a b).accepted
    go false h = refl
    go true h =
        let p = and_parts (is_same a s) (is_same b d) h in
        ap (λ (z : Endpoint). (ns z b).accepted) (same_eq a s p.0) ∙
        ap (λ (z : Endpoint). (ns s z).accepted) (same_eq b d p.1)

pub notices_are_carried : NoticesAreCarried
notices_are_carried n w after said texts sessions s e core t k given sent entries gone i j next f b number =
    joined_as w.net.message_limit after w.net.link (notify_all (noticed_on w.notices s e i) e f.out)
    (say_all said e sent)
    (accept_all (handed_on texts s e) e gone)
    (accept_all (handed_on sessions s e) e (all_carried (noticed_on w.notices s e i) e f.out gone))
    f.happened.messages_are f.happened.notices_are f.happened.limit_is
    (all_told w.net.message_limit n w.net.link (noticed_on w.notices s e i) said (handed_on texts s e)
    (handed_on sessions s e) e sent f.out
    gone handed f.said f.sendable b number)
  where
    handed : Holds w.net.message_limit w.net.link (noticed_on w.notices s e i) said (handed_on texts s e)
        (handed_on sessions s e)
    handed = record {
      parts = (notice_handed sessions w.net.link w.notices s e i j.parts next).1;
      alike = handed_is_carried w.net.message_limit said texts sessions s e j.alike;
      brought = λ a d. subst (λ (xs : List Notice). AreBrought a d (said a d) xs) (same_notices w.notices s e i a d)
          (j.brought a d);
    }

-- ---- notices that are announced

pub announcements_are_carried : AnnouncementsAreCarried
announcements_are_carried w after said texts sessions s e core m entries i transfer j next named h =
    joined_as w.net.message_limit after w.net.link w.notices said (accept (handed_on texts s e) e (s, text))
    (accept (handed_on sessions s e) e (s, Answers i)) h.messages_are h.notices_are h.limit_is
    (record {
      parts = announcement_answered sessions w.net.link w.notices s e i j.parts next;
      alike = out_is_carried w.net.message_limit said said (handed_on texts s e) (handed_on sessions s e) e
          ((s, text) ∷ [])
          ((s, Answers i) ∷ []) (handed_is_carried w.net.message_limit said texts sessions s e j.alike) (as_it_is said) (
            refl,
            (asked, refl),
            tt,
          );
      brought = j.brought;
    })
  where
    text : FrameText
    text = ClearFrame (record { transfer = transfer; clearance = Send })

    asked : slice_get (all_announced (accept (handed_on sessions s e) e (s, Answers i)) s e) transfer ≡
        Some (LargeNotice i)
    asked =
        begins_at (all_announced (handed_on sessions s e) s e)
        (all_announced (accept (handed_on sessions s e) e (s, Answers i)) s e) transfer (LargeNotice i)
        (announced_begins (handed_on sessions s e) e ((s, Answers i) ∷ []) s e)
        (begins_at (all_announced sessions s e) (all_announced (handed_on sessions s e) s e) transfer (LargeNotice i)
        (announced_handed sessions s e s e) named)

-- the pieces of a message stand for the parts of its notice
pieces_stand : (limit : MessageLimit) (told : Endpoint → Endpoint → List Announced) (said : Saying) (e d : Endpoint)
    (i transfer : ℕ)
    (message : CollectiveMessage) (part more : ℕ) → slice_get (told e d) transfer ≡ Some (LargeNotice i) →
    slice_get (said e d) i ≡ Some message →
    part + suc more ≡ piece_count (frame_limit_of limit) (bytes_of_message message) →
    AreSent limit told said e
    (map (λ (p : ℕ × List ℕ). (d, DataFrame (record { transfer = transfer; offset = p.0; bytes = p.1 })))
    (map (piece_at (frame_limit_of limit) (bytes_of_message message)) (range_with_len part (suc more))))
    (map (λ (c : Carried). (d, c)) (parts_from i part more))
pieces_stand limit told said e d i transfer message part zero named there count =
    (refl, (message, there, (part, omega (arith, count), record { announced = named; place = refl; bytes = refl })), tt)
pieces_stand limit told said e d i transfer message part (suc more) named there count = (
  refl,
  (message, there, (omega (arith, count), record { announced = named; place = refl; bytes = refl })),
  rest (pieces_stand limit told said e d i transfer message (suc part) more named there (omega (arith, count))),
)
  where
    next : suc part ≡ part + 1
    next = omega arith

    rest : AreSent limit told said e
        (map (λ (p : ℕ × List ℕ). (d, DataFrame (record { transfer = transfer; offset = p.0; bytes = p.1 })))
        (map (piece_at (frame_limit_of limit) (bytes_of_message message)) (range_with_len (suc part) (suc more))))
        (map (λ (c : Carried). (d, c)) (parts_from i (suc part) more)) →
        AreSent limit told said e
        (map (λ (p : ℕ × List ℕ). (d, DataFrame (record { transfer = transfer; offset = p.0; bytes = p.1 })))
        (map (piece_at (frame_limit_of limit) (bytes_of_message message)) (range_with_len (part + 1) (suc more))))
        (map (λ (c : Carried). (d, c)) (parts_from i (suc part) more))
    rest others =
        subst (λ (k : ℕ). AreSent limit told said e
        (map (λ (p : ℕ × List ℕ). (d, DataFrame (record { transfer = transfer; offset = p.0; bytes = p.1 })))
        (map (piece_at (frame_limit_of limit) (bytes_of_message message)) (range_with_len k (suc more))))
        (map (λ (c : Carried). (d, c)) (parts_from i (suc part) more))) next others

-- data that have bytes go in a piece at least
some_pieces : (limit : MessageLimit) (bytes : List ℕ) → 0 < length bytes → suc
    (piece_count (frame_limit_of limit) bytes - 1) ≡
    piece_count (frame_limit_of limit) bytes
some_pieces limit bytes some = go (piece_count (frame_limit_of limit) bytes) refl
  where
    go : (n : ℕ) → piece_count (frame_limit_of limit) bytes ≡ n → suc (n - 1) ≡ n
    go (suc n) is = omega arith
    go zero is =
        let none : bytes ≡ [] = sym (pieces limit bytes).all ∙ ap (λ (k : ℕ). joined (map (piece_at (frame_limit_of limit) bytes) (range_with_len 0 k))) is in
        absurd (let len : length bytes ≡ 0 = ap length none in omega (arith, some, len))

from_zero : (n m : ℕ) → n ≡ m → 0 + n ≡ m
from_zero n m h = omega arith

pub answers_are_carried : AnswersAreCarried
answers_are_carried w after said texts sessions d e core m entries i transfer message j next named there some h =
    joined_as w.net.message_limit after w.net.link w.notices said (accept_all (handed_on texts d e) e
    (all_pieces w.net.message_limit transfer d message))
    sessions' h.messages_are h.notices_are h.limit_is
    (record {
      parts = answer_followed sessions w.net.link w.notices e d i (count - 1) j.parts next;
      alike = out_is_carried w.net.message_limit said said (handed_on texts d e) (handed_on sessions d e) e
          (all_pieces w.net.message_limit transfer d message)
          (in_parts d i (count - 1)) (handed_is_carried w.net.message_limit said texts sessions d e j.alike)
          (as_it_is said) stand;
      brought = j.brought;
    })
  where
    count : ℕ
    count = piece_count (frame_limit_of w.net.message_limit) (bytes_of_message message)

    sessions' : Sessions
    sessions' = accept_all (handed_on sessions d e) e (in_parts d i (count - 1))

    asked : slice_get (all_announced sessions' e d) transfer ≡ Some (LargeNotice i)
    asked =
        begins_at (all_announced (handed_on sessions d e) e d) (all_announced sessions' e d) transfer (LargeNotice i)
        (announced_begins (handed_on sessions d e) e (in_parts d i (count - 1)) e d)
        (begins_at (all_announced sessions e d) (all_announced (handed_on sessions d e) e d) transfer (LargeNotice i)
        (announced_handed sessions d e e d) named)

    stand : AreSent w.net.message_limit (all_announced sessions') said e
        (all_pieces w.net.message_limit transfer d message) (in_parts d i (count - 1))
    stand =
        subst (λ (k : ℕ). AreSent w.net.message_limit (all_announced sessions') said e
        (map (λ (p : ℕ × List ℕ). (d, DataFrame (record { transfer = transfer; offset = p.0; bytes = p.1 })))
        (map (piece_at (frame_limit_of w.net.message_limit) (bytes_of_message message)) (range_with_len 0 k)))
        (in_parts d i (count - 1)))
        (some_pieces w.net.message_limit (bytes_of_message message) some)
        (pieces_stand w.net.message_limit (all_announced sessions') said e d i transfer message 0 (count - 1)
        asked there
        (from_zero (suc (count - 1)) count (some_pieces w.net.message_limit (bytes_of_message message) some)))

pub parts_are_carried : PartsAreCarried
parts_are_carried w after said texts sessions s e core m entries i part j next h =
    joined_as w.net.message_limit after w.net.link w.notices said (handed_on texts s e)
    (handed_on sessions s e) h.messages_are
    h.notices_are h.limit_is
    (record {
      parts = part_handed sessions w.net.link w.notices s e i part j.parts next;
      alike =
          handed_is_carried w.net.message_limit said texts sessions s e j.alike;
      brought = j.brought;
    })
