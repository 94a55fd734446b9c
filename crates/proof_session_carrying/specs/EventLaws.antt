-- What sessions carry once an event of a collective happened: what a rank sends goes out as notices, each whole or
-- announced.
use Rattle.std.specs.Prelude.{◌≡◌, ℕ, ◌-◌, ◌<◌, List, [], ◌∷◌, Option, Some, length, map, slice_get}
use Rattle.collective_messages.specs.declared.message.CollectiveMessage.{CollectiveMessage}
use Rattle.collective_messages.specs.Messages.{says}
use Rattle.collectives.specs.State.{State}
use Rattle.collective_steps.specs.declared.step.Ending.{Ending}
use Rattle.context_agreement.specs.Communicators.{ContextsState}
use Rattle.datagram.specs.Spellings.{ClearFrame, DataFrame, EagerFrame, FrameText, RequestFrame}
use Rattle.datagram.specs.declared.kinds.Clearance.TheVariants.{Send}
use Rattle.payload.specs.ByteMeanings.{payload_of}
use Rattle.perfect_groups.specs.Events.{Entry}
use Rattle.proof_collective_steps.specs.RankLaws.{Follows}
use Rattle.proof_group_network.specs.SessionContents.{
  Announces,
  Answers,
  AreAllParts,
  BringsPart,
  Carried,
  OfNotices,
  Sessions,
}
use Rattle.proof_group_network.specs.SessionContents.{in_parts}
use Rattle.proof_group_network.specs.Happenings.{IsAfter}
use Rattle.proof_group_network.specs.Network.{GroupNetwork, NoticeLink, noticed_on, notify}
use Rattle.proof_group_network.specs.Notices.{Member, Notice}
use Rattle.proof_group_network.specs.SessionLaws.{IsNext}
use Rattle.endpoint_links.specs.Links.{LinksOf, accept, accept_all, handed_on}
use Rattle.proof_pure_network.specs.Core.{Core}
use Rattle.proof_session_carrying.specs.Announcements.{LargeNotice, all_announced, announced_in}
use Rattle.proof_session_carrying.specs.SessionViews.{AreAllBrought, AreCarried, IsEager, IsRequest, Saying}
use Rattle.proof_session_carrying.specs.SessionViews.{bytes_of_message, say_all}
use Rattle.rendezvous.specs.Pieces.{piece_count, pieces_of}
use Rattle.vocabulary.specs.MessageLimits.{frame_limit_of}
use Rattle.vocabulary.specs.declared.endpoint.Endpoint.{Endpoint}
use Rattle.vocabulary.specs.declared.message_limit.MessageLimit.{MessageLimit}

-- ---- between events

-- The links of the network are the parts of its sessions, for which the engines' texts stand; these messages are its
-- notices
pub record AreJoined (w : GroupNetwork) (said : Saying) (texts : LinksOf FrameText) (sessions : Sessions) : Type 0 where
  pub parts : AreAllParts sessions w.net.link w.notices
  pub alike : AreCarried w.net.message_limit said texts sessions
  pub brought : AreAllBrought said w.notices

-- ---- what a rank sends

-- a frame brings a message, or announces it
abbrev pub Tells : MessageLimit → CollectiveMessage → FrameText → Type 0
Tells limit m (EagerFrame t) = IsEager m t
Tells limit m (RequestFrame t) = IsRequest limit m t
Tells limit m _ = ⊥

-- a text to an endpoint brings a message or announces it, and goes to its target; the bytes of the message say what it
-- says
pub record Brings (limit : MessageLimit) (m : CollectiveMessage) (sent : Endpoint × FrameText) : Type 0 where
  pub target : sent.0 ≡ m.target
  pub tells : Tells limit m sent.1
  pub spelled : payload_of (bytes_of_message m) ≡ Some (says m)

-- one text for each message, in their order
abbrev pub Bring : MessageLimit → List CollectiveMessage → List (Endpoint × FrameText) → Type 0
Bring limit [] [] = Unit {0}
Bring limit [] (t ∷ ts) = ⊥
Bring limit (m ∷ ms) [] = ⊥
Bring limit (m ∷ ms) (t ∷ ts) = Brings limit m t × Bring limit ms ts

-- what a session carries of a notice: it is announced by an RTS, and goes whole otherwise
abbrev pub carried_by : FrameText → (number : ℕ) → Carried
carried_by (RequestFrame t) i = Announces i
carried_by _ i = OfNotices i

-- what goes out of notices at e, each as its text brings it, under the next number of its link
abbrev pub all_carried : (Endpoint → Endpoint → NoticeLink) → (e : Endpoint) → List (Endpoint × Notice) →
    List (Endpoint × FrameText) → List (Endpoint × Carried)
all_carried links e [] texts = []
all_carried links e (x ∷ xs) [] = []
all_carried links e ((d, x) ∷ xs) (t ∷ ts) =
    (d, carried_by t.1 (length (links e d).accepted)) ∷ all_carried (notify links e (d, x)) e xs ts

-- a transfer has the next number of its session, which announced so many
abbrev pub HasNumber : (count : ℕ) → FrameText → Type 0
HasNumber count (RequestFrame t) = t.transfer ≡ count
HasNumber count _ = Unit {0}

-- each of those that go out at e
abbrev pub AreNumbered : Sessions → (e : Endpoint) → List (Endpoint × FrameText) → List (Endpoint × Carried) → Type 0
AreNumbered sessions e [] cs = Unit {0}
AreNumbered sessions e (t ∷ ts) [] = Unit {0}
AreNumbered sessions e (t ∷ ts) ((d, c) ∷ cs) = HasNumber (length (announced_in (sessions e d).accepted)) t.1 ×
    AreNumbered (accept sessions e (d, c)) e ts cs

-- All is joined once a rank entered a collective, and its texts went out
abbrev pub EntriesAreCarried : Type 0
EntriesAreCarried =
    (n : ℕ) (w after : GroupNetwork) (said : Saying) (texts : LinksOf FrameText) (sessions : Sessions) (e : Endpoint)
    (core : Core) (t : State) (k : ContextsState) (given : Option Ending) (sent : List CollectiveMessage)
    (entries : List Entry) (gone : List (Endpoint × FrameText)) →
    AreJoined w said texts sessions → (f : Follows n w after e core w.net.link w.notices t k given sent entries) →
    Bring w.net.message_limit sent gone → AreNumbered sessions e gone (all_carried w.notices e f.out gone) →
    AreJoined after (say_all said e sent) (accept_all texts e gone)
    (accept_all sessions e (all_carried w.notices e f.out gone))

-- and once it was handed what made a notice of s whole
abbrev pub NoticesAreCarried : Type 0
NoticesAreCarried =
    (n : ℕ) (w after : GroupNetwork) (said : Saying) (texts : LinksOf FrameText) (sessions : Sessions) (s e : Endpoint)
    (core : Core) (t : State) (k : ContextsState) (given : Option Ending) (sent : List CollectiveMessage)
    (entries : List Entry) (gone : List (Endpoint × FrameText)) (i : ℕ) →
    AreJoined w said texts sessions → IsNext sessions s e (OfNotices i) →
    (f : Follows n w after e core w.net.link (noticed_on w.notices s e i) t k given sent entries) →
    Bring w.net.message_limit sent gone →
    AreNumbered (handed_on sessions s e) e gone (all_carried (noticed_on w.notices s e i) e f.out gone) →
    AreJoined after (say_all said e sent) (accept_all (handed_on texts s e) e gone)
    (accept_all (handed_on sessions s e) e (all_carried (noticed_on w.notices s e i) e f.out gone))

-- ---- notices that are announced

-- where an RTS announced a notice, a CTS with its number asks for it
abbrev pub AnnouncementsAreCarried : Type 0
AnnouncementsAreCarried =
    (w after : GroupNetwork) (said : Saying) (texts : LinksOf FrameText) (sessions : Sessions) (s e : Endpoint)
    (core : Core) (m : Member) (entries : List Entry) (i transfer : ℕ) →
    AreJoined w said texts sessions → IsNext sessions s e (Announces i) →
    slice_get (all_announced sessions s e) transfer ≡ Some (LargeNotice i) →
    IsAfter w after e core w.net.link m w.notices entries →
    AreJoined after said
    (accept (handed_on texts s e) e (s, ClearFrame (record { transfer = transfer; clearance = Send })))
    (accept (handed_on sessions s e) e (s, Answers i))

-- the pieces of a message to an endpoint, under the number of its transfer
abbrev pub all_pieces : MessageLimit → (transfer : ℕ) → Endpoint → CollectiveMessage → List (Endpoint × FrameText)
all_pieces limit transfer d m =
    map (λ p. (d, DataFrame (record { transfer = transfer; offset = p.0; bytes = p.1 })))
    (pieces_of (frame_limit_of limit) (bytes_of_message m))

-- where a CTS asked for it, all its pieces go out
abbrev pub AnswersAreCarried : Type 0
AnswersAreCarried =
    (w after : GroupNetwork) (said : Saying) (texts : LinksOf FrameText) (sessions : Sessions) (d e : Endpoint)
    (core : Core) (m : Member) (entries : List Entry) (i transfer : ℕ) (message : CollectiveMessage) →
    AreJoined w said texts sessions → IsNext sessions d e (Answers i) →
    slice_get (all_announced sessions e d) transfer ≡ Some (LargeNotice i) → slice_get (said e d) i ≡ Some message →
    0 < length (bytes_of_message message) →
    IsAfter w after e core w.net.link m w.notices entries →
    AreJoined after said (accept_all (handed_on texts d e) e (all_pieces w.net.message_limit transfer d message))
    (accept_all (handed_on sessions d e) e
    (in_parts d i (piece_count (frame_limit_of w.net.message_limit) (bytes_of_message message) - 1)))

-- a piece that isn't the last one changes nothing else
abbrev pub PartsAreCarried : Type 0
PartsAreCarried =
    (w after : GroupNetwork) (said : Saying) (texts : LinksOf FrameText) (sessions : Sessions) (s e : Endpoint)
    (core : Core) (m : Member) (entries : List Entry) (i part : ℕ) →
    AreJoined w said texts sessions → IsNext sessions s e (BringsPart i part) →
    IsAfter w after e core w.net.link m w.notices entries →
    AreJoined after said (handed_on texts s e) (handed_on sessions s e)
