-- How what sessions carry goes on.
use Rattle.std.specs.Prelude.{◌≡◌, List, [], Option, Some, None, Result, Ok, Err, slice_get}
use Rattle.collective_messages.specs.Arrivals.{ArrivalGives}
use Rattle.collective_messages.specs.Messages.{says}
use Rattle.collective_messages.specs.declared.message.CollectiveMessage.{CollectiveMessage}
use Rattle.collective_messages.specs.declared.note.Note.{Note}
use Rattle.collective_messages.specs.declared.refusal.CollectiveRefusal.{CollectiveRefusal}
use Rattle.collective_messages.specs.declared.refusal.CollectiveRefusal.TheVariants as refusals
use Rattle.datagram.specs.Spellings.{EagerText, FrameText}
use Rattle.datagram.specs.declared.kinds.Plane.TheVariants.{Collective}
use Rattle.payload.specs.ByteMeanings.{payload_of}
use Rattle.payload.specs.Spellings.{PayloadText}
use Rattle.proof_collective_steps.specs.Counterparts.{IsNoted}
use Rattle.proof_group_network.specs.SessionContents.{Carried, Session, Sessions}
use Rattle.proof_group_network.specs.Notices.{Notice}
use Rattle.endpoint_links.specs.Links.{LinkOf, LinksOf, accept_all, handed_on, in_flight}
use Rattle.proof_pure_network.specs.Announcements.{Begins}
use Rattle.proof_session_carrying.specs.Announcements.{Announced, all_announced}
use Rattle.proof_session_carrying.specs.SessionViews.{AreCarried, AreSent, IsBrought, IsCarried, IsEager, Saying}
use Rattle.proof_session_carrying.specs.SessionViews.{StandsForCarried, bytes_of_message}
use Rattle.vocabulary.specs.declared.endpoint.Endpoint.{Endpoint}
use Rattle.vocabulary.specs.declared.message_limit.MessageLimit.{MessageLimit}

-- the messages of collectives go on: what was sent stays so, under its number
abbrev pub GoesOn : (old new : Saying) → Type 0
GoesOn old new = (s d : Endpoint) → Begins (old s d) (new s d)

-- What goes out at e is carried: its texts stand for it once all that is large is announced
abbrev pub OutIsCarried : Type 0
OutIsCarried =
    (limit : MessageLimit) (said after : Saying) (texts : LinksOf FrameText) (sessions : Sessions) (e : Endpoint)
    (sent : List (Endpoint × FrameText)) (out : List (Endpoint × Carried)) →
    AreCarried limit said texts sessions → GoesOn said after →
    AreSent limit (all_announced (accept_all sessions e out)) after e sent out →
    AreCarried limit after (accept_all texts e sent) (accept_all sessions e out)

-- the next of what a session carries, for which a text stands
pub record IsNext (limit : MessageLimit) (out back : List Announced) (said : List CollectiveMessage) (session : Session)
    (text : FrameText) : Type 0 where
  pub carried : Carried
  pub there : slice_get session.accepted session.handed ≡ Some carried
  pub stands : StandsForCarried limit out back said text carried

-- the text that is handed up next stands for it
abbrev pub NextStands : Type 0
NextStands =
    (limit : MessageLimit) (out back : List Announced) (said : List CollectiveMessage) (texts : LinkOf FrameText)
    (session : Session)
    (text : FrameText) →
    IsCarried limit out back said texts session → slice_get texts.accepted texts.handed ≡ Some text →
    IsNext limit out back said session text

-- once it was handed up all is carried on
abbrev pub HandedIsCarried : Type 0
HandedIsCarried =
    (limit : MessageLimit) (said : Saying) (texts : LinksOf FrameText) (sessions : Sessions) (s d : Endpoint) →
    AreCarried limit said texts sessions →
    AreCarried limit said (handed_on texts s d) (handed_on sessions s d)

-- where no text is under way, nothing is
abbrev pub StillIsStill : Type 0
StillIsStill =
    (limit : MessageLimit) (out back : List Announced) (said : List CollectiveMessage) (texts : LinkOf FrameText)
    (session : Session) →
    IsCarried limit out back said texts session → in_flight texts ≡ [] → in_flight session ≡ []

-- what comes of the message of a notice: a note of it, or memory is lacking
abbrev pub ArrivesAs : (s d : Endpoint) → Notice → Result (Option Note) CollectiveRefusal → Type 0
ArrivesAs s d x (Ok (Some n)) = IsNoted d n (record { sender = s; notice = x })
ArrivesAs s d x (Ok None) = ⊥
ArrivesAs s d x (Err refusals.OutOfMemory) = Unit {0}
ArrivesAs s d x (Err _) = ⊥

-- The bytes of the message of a notice are read, and whatever the reading of it gives, it is a note of the notice
-- unless memory is lacking
abbrev pub MessagesArrive : Type 0
MessagesArrive =
    (s d : Endpoint) (m : CollectiveMessage) (x : Notice) → IsBrought s d m x →
    (payload_of (bytes_of_message m) ≡ Some (says m))
    × ((result : Result (Option Note) CollectiveRefusal) → ArrivalGives s m.context m.number (says m) result →
    ArrivesAs s d x result)

-- so it is where an eager frame brings it, which is of collectives
abbrev pub NoticesArrive : Type 0
NoticesArrive =
    (s d : Endpoint) (t : EagerText) (m : CollectiveMessage) (x : Notice) → IsEager m t → IsBrought s d m x →
    (t.plane ≡ Collective)
    × ((p : PayloadText) × (payload_of t.elements ≡ Some p)
    × ((result : Result (Option Note) CollectiveRefusal) → ArrivalGives s t.context t.tag p result →
    ArrivesAs s d x result))
