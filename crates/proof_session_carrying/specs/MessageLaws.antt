-- What sessions carry once an event of point to point happened, and where they are quiet.
use Rattle.std.specs.Prelude.{◌≡◌, ℕ, List, []}
use Rattle.datagram.specs.Spellings.{FrameText}
use Rattle.perfect_groups.specs.Events.{Entry}
use Rattle.proof_engine_view.specs.FrameViews as standing
use Rattle.proof_group_network.specs.SessionContents.{OfMessages, Sessions, frames_carried}
use Rattle.proof_group_network.specs.Happenings.{IsAfter}
use Rattle.proof_group_network.specs.Network.{GroupNetwork, NoticesAreHanded}
use Rattle.proof_group_network.specs.Notices.{Member}
use Rattle.proof_group_network.specs.SessionLaws.{IsNext}
use Rattle.endpoint_links.specs.Links.{LinksOf, accept_all, handed_on, in_flight}
use Rattle.proof_pure_network.specs.Core.{Core}
use Rattle.proof_pure_network.specs.Frames.{Frame}
use Rattle.proof_pure_network.specs.Network.{IsQuiet}
use Rattle.proof_session_carrying.specs.Announcements.{announcements_in}
use Rattle.proof_session_carrying.specs.SessionViews.{Saying}
use Rattle.proof_session_carrying.specs.EventLaws.{AreJoined}
use Rattle.vocabulary.specs.declared.endpoint.Endpoint.{Endpoint}

-- the texts that go out at e stand for these frames, in sessions that took them in, whatever serials notices have
abbrev pub FramesAreSent : Sessions → (e : Endpoint) → List (Endpoint × FrameText) → List (Endpoint × Frame) → Type 0
FramesAreSent sessions e gone out =
    (serial : ℕ) → standing.AreSent (announcements_in serial (accept_all sessions e (frames_carried out)) e) gone out

-- a call of point to point: texts that stand for what goes out go out
abbrev pub QueueCallsAreCarried : Type 0
QueueCallsAreCarried =
    (w after : GroupNetwork) (said : Saying) (texts : LinksOf FrameText) (sessions : Sessions) (e : Endpoint)
    (core : Core) (m : Member) (entries : List Entry) (out : List (Endpoint × Frame))
    (gone : List (Endpoint × FrameText)) →
    AreJoined w said texts sessions → IsAfter w after e core (accept_all w.net.link e out) m w.notices entries →
    FramesAreSent sessions e gone out →
    AreJoined after said (accept_all texts e gone) (accept_all sessions e (frames_carried out))

-- a frame of messages that is handed up
abbrev pub MessagesAreCarried : Type 0
MessagesAreCarried =
    (w after : GroupNetwork) (said : Saying) (texts : LinksOf FrameText) (sessions : Sessions) (s e : Endpoint)
    (core : Core) (m : Member) (entries : List Entry) (out : List (Endpoint × Frame))
    (gone : List (Endpoint × FrameText)) (f : Frame) →
    AreJoined w said texts sessions → IsNext sessions s e (OfMessages f) →
    IsAfter w after e core (accept_all (handed_on w.net.link s e) e out) m w.notices entries →
    FramesAreSent (handed_on sessions s e) e gone out →
    AreJoined after said (accept_all (handed_on texts s e) e gone)
    (accept_all (handed_on sessions s e) e (frames_carried out))

-- what touches no link: a question, a word alone
abbrev pub OthersAreCarried : Type 0
OthersAreCarried =
    (w after : GroupNetwork) (said : Saying) (texts : LinksOf FrameText) (sessions : Sessions) (e : Endpoint)
    (core : Core) (m : Member) (entries : List Entry) →
    AreJoined w said texts sessions → IsAfter w after e core w.net.link m w.notices entries →
    AreJoined after said texts sessions

-- between current endpoints that know each other as current, no text is under way
abbrev pub TextsAreStill : GroupNetwork → LinksOf FrameText → Type 0
TextsAreStill w texts =
    (s d : Endpoint) → s.incarnation ≡ w.net.current s.rank → d.incarnation ≡ w.net.current d.rank →
    (w.net.core d).known s.rank ≡ s.incarnation → (w.net.core s).known d.rank ≡ d.incarnation → in_flight (texts s d) ≡
    []

-- then the network is quiet, and its notices were handed up
abbrev pub StillTextsAreQuiet : Type 0
StillTextsAreQuiet =
    (w : GroupNetwork) (said : Saying) (texts : LinksOf FrameText) (sessions : Sessions) →
    AreJoined w said texts sessions → TextsAreStill w texts →
    IsQuiet w.net × NoticesAreHanded w
