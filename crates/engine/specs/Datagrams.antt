-- What a datagram does to the engine: what is heard in it, all of its parts take in.
use Rattle.std.specs.Prelude.{◌≡◌, ◌⊎◌, ℕ, zero, suc, Bool, true, false, is_some, length, List, [], ◌∷◌, Option, Some}
use Rattle.std.specs.Prelude.{None, option_map, Result, Ok, Err, if◌then◌else◌, slice_index}
use Rattle.collective_messages.specs.declared.address.Address.{Address}
use Rattle.collective_messages.specs.declared.message.CollectiveMessage.{CollectiveMessage}
use Rattle.collective_messages.specs.declared.refusal.CollectiveRefusal.TheVariants as notes
use Rattle.rendezvous.specs.Payloads.{Announced, Coming, Whole}
use Rattle.rendezvous.specs.PayloadState as payloads
use Rattle.rendezvous.specs.PayloadState.{after_announcing, after_answer, after_begin, after_data, after_drop}
use Rattle.rendezvous.specs.PayloadState.{announced_to, coming_from, is_due, whole_with}
use Rattle.collectives.specs.Calls.{IsReady, MessageRefused, after_lesson, with_note}
use Rattle.collectives.specs.State.{State, after_step}
use Rattle.collective_steps.specs.Steps.{contexts_after, ending_of}
use Rattle.collectives.specs.declared.collective.ReadyMessage.{ReadyMessage}
use Rattle.collective_steps.specs.declared.step.Ending.{Ending}
use Rattle.datagram.specs.ByteMeanings.{datagram_of}
use Rattle.datagram.specs.Spellings.{ClearFrame, ClearText, DataFrame, DataText, DatagramText, EagerFrame, EagerText}
use Rattle.datagram.specs.Spellings.{OutgoingText}
use Rattle.datagram.specs.Spellings.{FrameText, RequestFrame, RequestText, clear_text, data_text, eager_text}
use Rattle.datagram.specs.Spellings.{request_text}
use Rattle.datagram.specs.declared.kinds.Clearance.{Clearance}
use Rattle.datagram.specs.declared.kinds.Clearance.TheVariants.{Drop, Send}
use Rattle.datagram.specs.declared.kinds.Plane.{Plane}
use Rattle.datagram.specs.declared.kinds.Plane.TheVariants as planes
use Rattle.payload.specs.ByteMeanings.{payload_of}
use Rattle.payload.specs.Spellings.{PartFits, PayloadText}
use Rattle.point_to_point_calls.specs.FrameNews.{NewsText, bad_unless, data_frames, transfers_met}
use Rattle.point_to_point_calls.specs.Refusals.{IsRefusal}
use Rattle.point_to_point_calls.specs.declared.refusal.Refusal.{Refusal}
use Rattle.point_to_point_calls.specs.declared.refusal.Refusal.TheVariants as refusals
use Rattle.point_to_point.specs.CoreState.{CoreState, with_numbers}
use Rattle.point_to_point.specs.Arrivals.{after_news, news_fault, news_frames}
use Rattle.point_to_point.specs.Completions.{after_wake}
use Rattle.rendezvous.specs.Pieces.{pieces_of}
use Rattle.rendezvous.specs.State.{is_next, with_announced}
use Rattle.rendezvous.specs.declared.transfers.Numbers.{Numbers}
use Rattle.sessions.specs.OutgoingOrder.{IsArranged}
use Rattle.sessions.specs.Events.{TurnedAway, after_event, event_limit}
use Rattle.sessions.specs.HeldFrames.{acknowledged_at, ready_from, turn_of, without_ready}
use Rattle.sessions.specs.HeardBytes.{
  Acknowledges,
  Follows,
  Hands,
  HeardText,
  Holds,
  Nothing,
  Repeats,
  WordText,
  heard_of,
}
use Rattle.sessions.specs.SessionsState.{SessionsState}
use Rattle.sessions.specs.declared.heard.Unheard.{Unheard}
use Rattle.sessions.specs.declared.refusal.SessionRefusal as lower
use Rattle.vocabulary.specs.MessageLimits.{frame_limit_of}
use Rattle.vocabulary.specs.Modes.{is_standard}
use Rattle.vocabulary.specs.declared.endpoint.Endpoint.{Endpoint}
use Rattle.vocabulary.specs.declared.message_limit.MessageLimit.{MessageLimit}
use Rattle.engine.specs.declared.notices.ReceivedPayload.{ReceivedPayload}
use Rattle.engine.specs.declared.notice_kinds.Notice.{Notice}
use Rattle.engine.specs.declared.notice_kinds.Notice.TheVariants as notices
use Rattle.engine_calls.specs.EngineState.{EngineState, GroupsState, or_before}
use Rattle.engine_calls.specs.Frames.{AreWhole, step_limit, step_numbers, step_payloads, step_sendings}
use Rattle.engine_calls.specs.Refusals.{fault_of_sessions, first_fault, of_sessions}
use Rattle.engine_calls.specs.Steps.{ending_met}
use Rattle.engine.specs.JobPayloads.{payload_in}

-- WHAT IS HEARD

-- the frame that is handed up
abbrev pub frame_in : WordText → Option FrameText
frame_in (Acknowledges n held) = None
frame_in Repeats = None
frame_in (Hands f) = Some f
frame_in (Holds e) = None
frame_in (Follows f) = Some f
frame_in Nothing = None

-- what of it concerns the core
abbrev pub news_of : HeardText → NewsText
news_of h = record { source = h.source; lesson = h.lesson; frame = frame_in h.word }

-- whether it says nothing new: no lesson and no word
abbrev pub says_nothing : Bool → WordText → Bool
says_nothing true w = false
says_nothing false (Acknowledges n held) = false
says_nothing false Repeats = false
says_nothing false (Hands f) = false
says_nothing false (Holds e) = false
says_nothing false (Follows f) = false
says_nothing false Nothing = true

-- ---- what is to be held

-- the payload of a collective's message has the form of one
abbrev pub form_fault : Plane → List ℕ → Option Refusal
form_fault planes.PointToPoint bytes = None
form_fault planes.Collective bytes = bad_unless (is_some (payload_of bytes))

-- the rule that a frame breaks before its turn: that form alone. All else is judged when its turn comes
abbrev pub early_fault : FrameText → Option Refusal
early_fault (EagerFrame t) = form_fault t.plane t.elements
early_fault (RequestFrame t) = None
early_fault (ClearFrame t) = None
early_fault (DataFrame t) = None

-- the same of a word: only what is to be held comes before its turn
abbrev pub hold_fault : WordText → Option Refusal
hold_fault (Acknowledges n held) = None
hold_fault Repeats = None
hold_fault (Hands f) = None
hold_fault (Holds e) = early_fault e.frame
hold_fault (Follows f) = None
hold_fault Nothing = None

-- ---- messages, and words alone

-- the frames that a core calls for then, as the sessions are to send them
abbrev pub replies : CoreState → HeardText → List OutgoingText
replies c h = news_frames c (news_of h)

-- the first rule or limit that it meets: the rules of a frame first
abbrev pub heard_fault : EngineState → HeardText → Option Refusal
heard_fault e h =
    first_fault (hold_fault h.word)
    (first_fault (news_fault e.core (news_of h))
    (fault_of_sessions (event_limit e.sessions (Some h) (replies e.core h))))

-- who teaches the rank its incarnation, if what is heard is a lesson
abbrev pub lesson_in : HeardText → Option Endpoint
lesson_in h = if h.lesson then Some h.source else None

-- the communicators and the collective of the rank, once the lesson is learnt, if there is one
abbrev pub groups_met : GroupsState → Option Endpoint → GroupsState
groups_met g lesson = record g { collective = after_lesson g.collective g.contexts lesson }

-- with what the present collective ends by the lesson, where it does
abbrev pub ended_by : GroupsState → Option Endpoint → Option Ending
ended_by g lesson = ending_met g.collective g.contexts lesson

-- what is left of payloads of collectives once the lesson is learnt, if there is one
abbrev pub payloads_met : payloads.State → Option Endpoint → payloads.State
payloads_met p None = p
payloads_met p (Some source) = after_drop p source.rank

-- all parts once they took it in
abbrev pub after_heard : EngineState → HeardText → EngineState
after_heard e h = record {
  core = after_news e.core (news_of h);
  groups = groups_met e.groups (lesson_in h);
  ended = or_before (ended_by e.groups (lesson_in h)) e.ended;
  payloads = payloads_met e.payloads (lesson_in h);
  sessions = after_event e.sessions (Some h) (replies e.core h);
}

-- What is heard is taken in by all parts; or a rule, a limit or want of memory refused it, and nothing changes. What
-- says nothing new isn't refused
abbrev pub NewsGives : EngineState → HeardText → Result (Unit {0}) Refusal → EngineState → Type 0
NewsGives old h (Ok x) new = (heard_fault old h ≡ None) × (new ≡ after_heard old h)
NewsGives old h (Err e) new = (says_nothing h.lesson h.word ≡ false) × IsRefusal (heard_fault old h) e × (new ≡ old)

-- ---- messages of collectives

-- the payload that stands in a frame
abbrev pub whole_in : EagerText → Whole
whole_in t = record { context = t.context; number = t.tag; bytes = t.elements }

-- of which collective a payload is, and who sent it
abbrev pub address_of : Endpoint → Whole → Address
address_of s w = record { sender = s; context = w.context; number = w.number }

-- the same without the frame: what of it concerns the core
abbrev pub lesson_alone : HeardText → NewsText
lesson_alone h = record { source = h.source; lesson = h.lesson; frame = None }

-- what the rank keeps of collectives once it learnt the lesson, if there is one
abbrev pub met_by : EngineState → HeardText → State
met_by e h = after_lesson e.groups.collective e.groups.contexts (lesson_in h)

-- the numbers of the sessions' transfers then: with a lesson those of its session start anew
abbrev pub numbers_met : CoreState → HeardText → List Numbers
numbers_met c h = (transfers_met h.lesson c.transfers h.source.rank).numbers

-- What is heard is taken in without its frame, and the others are told by these messages: each can go, they are sent or
-- announced, and the payloads of those that are announced are kept behind the others
pub record IsTold (c : CoreState) (p : payloads.State) (s : SessionsState) (h : HeardText) (ms : List CollectiveMessage)
    (c2 : CoreState) (p2 : payloads.State) (s2 : SessionsState) : Type 0 where
  pub whole : AreWhole ms
  pub goes : step_limit s (numbers_met c h) (Some h) ms ≡ None
  pub core : c2 ≡ with_numbers (after_news c (lesson_alone h)) (step_numbers s.place.message_limit (numbers_met c h) ms)
  pub payloads : p2 ≡ after_announcing (payloads_met p (lesson_in h)) (step_payloads s.place.message_limit (numbers_met c h) ms)
  pub sessions : s2 ≡ after_event s (Some h) (step_sendings s.place (numbers_met c h) ms)

-- A message of a collective is taken in: it is read, the rank does of itself what follows, and the others are told;
-- what is too long for a frame is announced to them, and kept behind these payloads
pub record IsNoticed (old : EngineState) (before : payloads.State) (h : HeardText) (w : Whole)
    (new : EngineState) : Type 0 where
  pub payload : PayloadText
  pub read : payload_in old.sessions.place.size w.bytes ≡ Some payload
  pub ready : ReadyMessage
  pub is_ready : IsReady (met_by old h) old.groups.contexts (address_of h.source w) payload ready
  pub whole : AreWhole ready.step.messages
  pub goes : step_limit old.sessions (numbers_met old.core h) (Some h) ready.step.messages ≡ None
  pub core : new.core ≡
      with_numbers (after_news old.core (lesson_alone h))
      (step_numbers old.sessions.place.message_limit (numbers_met old.core h) ready.step.messages)
  pub collective : new.groups.collective ≡ after_step (with_note (met_by old h) ready.note) ready.step.outcome
  pub contexts : new.groups.contexts ≡ contexts_after old.groups.contexts ready.step.drawn ready.step.outcome
  pub ended :
      new.ended ≡
      or_before (ending_of old.groups.contexts ready.step.outcome)
      (or_before (ended_by old.groups (lesson_in h)) old.ended)
  pub payloads : new.payloads ≡
      after_announcing before
      (step_payloads old.sessions.place.message_limit (numbers_met old.core h) ready.step.messages)
  pub sessions : new.sessions ≡
      after_event old.sessions (Some h) (step_sendings old.sessions.place (numbers_met old.core h) ready.step.messages)

-- the step that a message would bring meets a limit by what it sends
abbrev pub IsStepStopped : EngineState → HeardText → Whole → PayloadText → Type 0
IsStepStopped old h w p =
    (ready : ReadyMessage) × IsReady (met_by old h) old.groups.contexts (address_of h.source w) p ready
    × (step_limit old.sessions (numbers_met old.core h) (Some h) ready.step.messages ≡ Some refusals.Limit)

-- Why a message of a collective is refused: it can't be read, it names a rank that the job lacks, or what it carries
-- doesn't fit its record (30); what the rank would then get can't be held or given, or a frame can't go (13); or, where
-- its part fits, for want of memory
abbrev pub WhyUnnoticed : EngineState → HeardText → Whole → Refusal → Type 0
WhyUnnoticed old h w refusals.BadFrame =
    (payload_in old.sessions.place.size w.bytes ≡ None)
    ⊎ ((p : PayloadText) × (payload_in old.sessions.place.size w.bytes ≡ Some p)
    × MessageRefused (met_by old h) old.groups.contexts (address_of h.source w) p notes.BadFrame)
WhyUnnoticed old h w refusals.Limit =
    (p : PayloadText) × (payload_in old.sessions.place.size w.bytes ≡ Some p)
    × (MessageRefused (met_by old h) old.groups.contexts (address_of h.source w) p notes.Limit ⊎
    IsStepStopped old h w p)
WhyUnnoticed old h w refusals.OutOfMemory =
    (p : PayloadText) × (payload_in old.sessions.place.size w.bytes ≡ Some p) × PartFits p.record_is p.part
WhyUnnoticed old h w _ = ⊥

-- a message of a collective is taken in, or refused with nothing changed
abbrev pub NoticeGives : EngineState → HeardText → EagerText → Result (Unit {0}) Refusal → EngineState → Type 0
NoticeGives old h t (Ok x) new = IsNoticed old (payloads_met old.payloads (lesson_in h)) h (whole_in t) new
NoticeGives old h t (Err e) new = WhyUnnoticed old h (whole_in t) e × (new ≡ old)

-- ---- payloads of collectives that are announced to the rank

-- the answer: 'send', whether or not the rank has entered the collective, or has left it (our own)
abbrev pub answer_to : HeardText → RequestText → OutgoingText
answer_to h t =
    record { target = h.source.rank; frame = ClearFrame (record { clearance = Send; transfer = t.transfer }) }

-- what comes from then on
abbrev pub coming_by : MessageLimit → HeardText → RequestText → Coming
coming_by limit h t = record {
  limit = limit;
  source = h.source.rank;
  transfer = t.transfer;
  context = t.context;
  number = t.tag;
  total =
      t.count;
  bytes = [];
}

-- the first rule or limit that it meets: 30 where it is of a synchronous send, which no payload is, or its number isn't
-- the next one of its session, and 13
abbrev pub announcement_fault : CoreState → SessionsState → HeardText → RequestText → Option Refusal
announcement_fault c s h t =
    first_fault (bad_unless (is_standard t.mode))
    (first_fault (bad_unless (is_next (numbers_met c h) h.source.rank t.transfer))
    (fault_of_sessions (event_limit s (Some h) (answer_to h t ∷ []))))

-- it is counted and answered, and its payload begins to come
abbrev pub after_announcement : EngineState → HeardText → RequestText → EngineState
after_announcement e h t = record {
  core = with_numbers (after_news e.core (lesson_alone h)) (with_announced (numbers_met e.core h) h.source.rank);
  groups = groups_met e.groups (lesson_in h);
  ended = or_before (ended_by e.groups (lesson_in h)) e.ended;
  payloads = after_begin (payloads_met e.payloads (lesson_in h)) (coming_by e.core.place.message_limit h t);
  sessions = after_event e.sessions (Some h) (answer_to h t ∷ []);
}

-- so it is, or a rule, a limit or want of memory refused it, and nothing changed
abbrev pub AnnouncementGives : EngineState → HeardText → RequestText → Result (Unit {0}) Refusal → EngineState → Type 0
AnnouncementGives old h t (Ok x) new = (announcement_fault old.core old.sessions h t ≡ None) ×
    (new ≡ after_announcement old h t)
AnnouncementGives old h t (Err e) new = IsRefusal (announcement_fault old.core old.sessions h t) e × (new ≡ old)

-- ---- payloads of collectives that the rank announced

-- the data of a payload of these bytes in a job with this limit, all of them in order
abbrev pub data_sent : MessageLimit → (rank transfer : ℕ) → List ℕ → List OutgoingText
data_sent limit rank transfer bytes = data_frames rank transfer (pieces_of (frame_limit_of limit) bytes)

-- the same of one that was announced, where one was
abbrev pub data_of : MessageLimit → (rank transfer : ℕ) → Option Announced → List OutgoingText
data_of limit rank transfer None = []
data_of limit rank transfer (Some a) = data_sent limit rank transfer a.bytes

-- the data that an answer asks for
abbrev pub data_for : MessageLimit → payloads.State → HeardText → ClearText → List OutgoingText
data_for limit p h t = data_of limit h.source.rank t.transfer (announced_to p h.source.rank t.transfer)

-- a payload of a collective is always wanted: an answer that says otherwise is refused (our own)
abbrev pub unwanted : Clearance → Option Refusal
unwanted Send = None
unwanted Drop = Some refusals.BadFrame

-- the first rule or limit that an answer meets: 30, 13
abbrev pub answer_fault : payloads.State → SessionsState → HeardText → ClearText → Option Refusal
answer_fault p s h t =
    first_fault (unwanted t.clearance)
    (fault_of_sessions (event_limit s (Some h) (data_for s.place.message_limit p h t)))

-- the data go out, and the payload isn't kept any more
abbrev pub after_answered : EngineState → HeardText → ClearText → EngineState
after_answered e h t = record e {
  payloads = after_answer e.payloads h.source.rank t.transfer;
  sessions = after_event e.sessions (Some h) (data_for e.sessions.place.message_limit e.payloads h t);
}

-- so it is, or a rule, a limit or want of memory refused it, and nothing changed
abbrev pub AnswerGives : EngineState → HeardText → ClearText → Result (Unit {0}) Refusal → EngineState → Type 0
AnswerGives old h t (Ok x) new = (answer_fault old.payloads old.sessions h t ≡ None) × (new ≡ after_answered old h t)
AnswerGives old h t (Err e) new = IsRefusal (answer_fault old.payloads old.sessions h t) e × (new ≡ old)

-- ---- payloads of collectives that come in pieces

-- the payloads once the piece has come
abbrev pub payloads_grown : EngineState → HeardText → DataText → payloads.State
payloads_grown e h t = after_data e.payloads h.source.rank t.transfer t.bytes

-- the next piece is taken in: it stands behind those that came before. With the last one the message is taken in, as
-- one is that stands in a frame
abbrev pub IsPieceTaken : Option Whole → EngineState → HeardText → DataText → EngineState → Type 0
IsPieceTaken None old h t new =
    (fault_of_sessions (event_limit old.sessions (Some h) []) ≡ None)
    × (new ≡ record old { payloads = payloads_grown old h t; sessions = after_event old.sessions (Some h) [] })
IsPieceTaken (Some w) old h t new = IsNoticed old (payloads_grown old h t) h w new

-- why a piece that is due is refused: for a limit or want of memory; with the last one as the message is, as if it
-- stood in a frame
abbrev pub WhyNotTaken : Option Whole → EngineState → HeardText → Refusal → Type 0
WhyNotTaken None old h e = IsRefusal (fault_of_sessions (event_limit old.sessions (Some h) [])) e
WhyNotTaken (Some w) old h e = WhyUnnoticed old h w e

-- why data are refused, which are due or not: others are refused with 30
abbrev pub WhyNoPieceBy : (due : Bool) → Option Whole → EngineState → HeardText → Refusal → Type 0
WhyNoPieceBy true w old h e = WhyNotTaken w old h e
WhyNoPieceBy false w old h e = e ≡ refusals.BadFrame

-- whether data of a payload are taken
abbrev pub WhyNoPiece : EngineState → HeardText → DataText → Refusal → Type 0
WhyNoPiece old h t e =
    WhyNoPieceBy (is_due old.payloads h.source.rank t.transfer t.offset t.bytes)
    (whole_with old.payloads h.source.rank t.transfer t.bytes) old h e

-- where they are due, they are taken in, or refused with nothing changed
abbrev pub PieceGivesBy : (due : Bool) → Option Whole → EngineState → HeardText → DataText → Result (Unit {0}) Refusal →
    EngineState → Type 0
PieceGivesBy true w old h t (Ok x) new = IsPieceTaken w old h t new
PieceGivesBy true w old h t (Err e) new = WhyNoPieceBy true w old h e × (new ≡ old)
PieceGivesBy false w old h t (Ok x) new = ⊥
PieceGivesBy false w old h t (Err e) new = WhyNoPieceBy false w old h e × (new ≡ old)

-- data of a payload that comes are taken in, or refused with nothing changed
abbrev pub PieceGives : EngineState → HeardText → DataText → Result (Unit {0}) Refusal → EngineState → Type 0
PieceGives old h t result new =
    PieceGivesBy (is_due old.payloads h.source.rank t.transfer t.offset t.bytes)
    (whole_with old.payloads h.source.rank t.transfer t.bytes) old h t result new

-- ---- any of them

-- what concerns a collective: a message, an announcement, an answer, or data
pub data NoticeText : Type 0 where
  OfMessage : EagerText → NoticeText
  OfAnnouncement : RequestText → NoticeText
  OfAnswer : ClearText → NoticeText
  OfPiece : DataText → NoticeText

-- the message of a collective that stands in an eager frame, if it is one
abbrev pub notice_of_message : Plane → EagerText → Option NoticeText
notice_of_message planes.PointToPoint t = None
notice_of_message planes.Collective t = Some (OfMessage t)

-- the payload of a collective that is announced, if it is one
abbrev pub announcement_on : Plane → RequestText → Option NoticeText
announcement_on planes.PointToPoint t = None
announcement_on planes.Collective t = Some (OfAnnouncement t)

-- whether the transfer to the rank that has this number is of a collective: with a lesson the session starts anew, and
-- none is
abbrev pub is_to_collective : (lesson : Bool) → payloads.State → (rank transfer : ℕ) → Bool
is_to_collective true p rank transfer = false
is_to_collective false p rank transfer = is_some (announced_to p rank transfer)

-- whether the transfer from the rank that has this number is of a collective
abbrev pub is_from_collective : (lesson : Bool) → payloads.State → (rank transfer : ℕ) → Bool
is_from_collective true p rank transfer = false
is_from_collective false p rank transfer = is_some (coming_from p rank transfer)

-- what of a frame concerns a collective. Answers and data say nothing of it: the number of their transfer tells
abbrev pub notice_of_frame : (lesson : Bool) → payloads.State → (rank : ℕ) → FrameText → Option NoticeText
notice_of_frame lesson p rank (EagerFrame t) = notice_of_message t.plane t
notice_of_frame lesson p rank (RequestFrame t) = announcement_on t.plane t
notice_of_frame lesson p rank (ClearFrame t) = if is_to_collective lesson p rank t.transfer then Some (OfAnswer t) else
    None
notice_of_frame lesson p rank (DataFrame t) = if is_from_collective lesson p rank t.transfer then Some (OfPiece t) else
    None

-- what of a word does
abbrev pub notice_in : (lesson : Bool) → payloads.State → (rank : ℕ) → WordText → Option NoticeText
notice_in lesson p rank (Acknowledges n held) = None
notice_in lesson p rank Repeats = None
notice_in lesson p rank (Hands f) = notice_of_frame lesson p rank f
notice_in lesson p rank (Holds e) = None
notice_in lesson p rank (Follows f) = notice_of_frame lesson p rank f
notice_in lesson p rank Nothing = None

-- the payload that a value of the program holds
abbrev pub received : ReceivedPayload → Whole
received r = record { context = r.context; number = r.number; bytes = r.bytes.now }

-- what a value of the program says
abbrev pub notice_text : Notice → NoticeText
notice_text (notices.Message m) = OfMessage (eager_text m)
notice_text (notices.Announcement r) = OfAnnouncement (request_text r)
notice_text (notices.Answer a) = OfAnswer (clear_text a)
notice_text (notices.Piece p) = OfPiece (data_text p)

-- what is heard concerns a collective, or is anything else
abbrev pub HeardGivesBy : Option NoticeText → EngineState → HeardText → Result (Unit {0}) Refusal → EngineState → Type 0
HeardGivesBy None old h result new = NewsGives old h result new
HeardGivesBy (Some (OfMessage t)) old h result new = NoticeGives old h t result new
HeardGivesBy (Some (OfAnnouncement t)) old h result new = AnnouncementGives old h t result new
HeardGivesBy (Some (OfAnswer t)) old h result new = AnswerGives old h t result new
HeardGivesBy (Some (OfPiece t)) old h result new = PieceGives old h t result new

-- what is heard is taken in or refused
abbrev pub HeardGives : EngineState → HeardText → Result (Unit {0}) Refusal → EngineState → Type 0
HeardGives old h result new = HeardGivesBy (notice_in h.lesson old.payloads h.source.rank h.word) old h result new

-- WHAT FOLLOWS

-- the acknowledgement at a place of what goes out says what the session with its endpoint has reached
abbrev pub acknowledged : (at : ℕ) → Endpoint → EngineState → EngineState
acknowledged at source e = record e { sessions = acknowledged_at at source e.sessions }

-- the next frame of an endpoint isn't held any more
abbrev pub without_next : EngineState → Endpoint → EngineState
without_next e source = record e { sessions = without_ready e.sessions source.rank }

-- what the next frame of an endpoint says, where it is held; nothing where what is held spells no frame
abbrev pub turn_from : EngineState → Endpoint → Option (Option HeardText)
turn_from e source = option_map (turn_of source) (ready_from e.sessions source.rank)

-- what is heard meets a limit (13), or, where it breaks no rule and meets no limit, memory is wanting (14)
abbrev pub MeetsWant : EngineState → HeardText → Type 0
MeetsWant e h = HeardGives e h (Err refusals.Limit) e ⊎ HeardGives e h (Err refusals.OutOfMemory) e

-- One turn, and then the rest: the frame is taken in as any other, and the acknowledgement says so; or it breaks a rule
-- (30), is held no more, and nothing follows; or it meets 13 or 14 itself, stays held, and nothing follows. What spells
-- no frame is held no more
abbrev pub TurnGives : Option (Option HeardText) → (at : ℕ) → Endpoint → (rest : EngineState → EngineState → Type 0) →
    EngineState → EngineState → Type 0
TurnGives None at source rest old new = new ≡ old
TurnGives (Some None) at source rest old new = new ≡ without_next old source
TurnGives (Some (Some h)) at source rest old new =
    ((first : EngineState) × HeardGives old h (Ok tt) first × rest (acknowledged at source first) new)
    ⊎ ((HeardGives old h (Err refusals.BadFrame) old × (new ≡ without_next old source))
    ⊎ (MeetsWant old h × (new ≡ old)))

-- so many turns at most
abbrev pub FollowGives : (turns : ℕ) → (at : ℕ) → Endpoint → EngineState → EngineState → Type 0
FollowGives zero at source old new = new ≡ old
FollowGives (suc k) at source old new = TurnGives (turn_from old source) at source (FollowGives k at source) old new

-- the frames that were held behind one that is handed up come, and then what goes out behind their acknowledgement
-- stands by rising rank and, for one rank, by its numbers
pub record HasFollowed (most at : ℕ) (source : Endpoint) (old new : EngineState) : Type 0 where
  pub last : EngineState
  pub turns : FollowGives most at source old last
  pub same : new ≡ record last { sessions = new.sessions }
  pub arranged : IsArranged (suc at) last.sessions new.sessions

-- only behind a frame that is handed up others follow; no more than 63 are held
abbrev pub FollowedBy : WordText → (at : ℕ) → Endpoint → EngineState → EngineState → Type 0
FollowedBy (Acknowledges n held) at source old new = new ≡ old
FollowedBy Repeats at source old new = new ≡ old
FollowedBy (Hands f) at source old new = HasFollowed 64 at source old new
FollowedBy (Holds e) at source old new = new ≡ old
FollowedBy (Follows f) at source old new = new ≡ old
FollowedBy Nothing at source old new = new ≡ old

-- the blocked call is answered, if its answer is ready by now
abbrev pub woken_engine : EngineState → EngineState
woken_engine e = record e { core = after_wake e.core }

-- What is heard is taken in, then the frames that were held behind it, and at the end of all that the blocked call is
-- answered. The acknowledgement, where there is one, stands first of what goes out
pub record IsTakenIn (old : EngineState) (h : HeardText) (new : EngineState) : Type 0 where
  pub first : EngineState
  pub last : EngineState
  pub takes : HeardGives old h (Ok tt) first
  pub follows : FollowedBy h.word (length old.sessions.out) h.source first last
  pub new_is : new ≡ woken_engine last

-- what says nothing new changes nothing
abbrev pub IsTakenInUnless : (nothing : Bool) → EngineState → HeardText → EngineState → Type 0
IsTakenInUnless true old h new = new ≡ old
IsTakenInUnless false old h new = IsTakenIn old h new

-- WHAT ISN'T HEARD

-- it is refused as the sessions turn it away, with a reset or without, and leaves the core as it was
abbrev pub TurnedAwayGives : EngineState → Unheard → Result (Unit {0}) Refusal → EngineState → Type 0
TurnedAwayGives old u result new =
    (e : lower.SessionRefusal) × (result ≡ Err (of_sessions e)) × (new ≡ record old { sessions = new.sessions }) ×
    TurnedAway u.reset u.refused old.sessions e new.sessions

-- ALL OF IT

-- by what was heard, or why nothing was
abbrev pub HearingGives : Result HeardText Unheard → EngineState → Result (Unit {0}) Refusal → EngineState → Type 0
HearingGives (Ok h) old (Ok x) new = IsTakenInUnless (says_nothing h.lesson h.word) old h new
HearingGives (Ok h) old (Err e) new = HeardGives old h (Err e) new
HearingGives (Err u) old result new = TurnedAwayGives old u result new

-- The datagram is read, judged by both of its endpoints and by the link, and then taken in, with what follows, or
-- turned away.
abbrev pub DatagramGives : EngineState → List ℕ → Result (Unit {0}) Refusal → EngineState → Type 0
DatagramGives old bytes result new = HearingGives (heard_of old.sessions bytes) old result new

-- a refusal changes nothing, but for the reset that goes out with a refusal of what was meant for a former incarnation
abbrev pub RefusedDatagramLeaves : Result (Unit {0}) Refusal → EngineState → EngineState → Type 0
RefusedDatagramLeaves (Ok x) old new = Unit {0}
RefusedDatagramLeaves (Err refusals.StaleTarget) old new =
    new ≡ record old { sessions = record old.sessions { out = new.sessions.out } }
RefusedDatagramLeaves (Err e) old new = new ≡ old

-- the source of the datagram that the bytes spell is known at the incarnation in its header
abbrev pub SourceIsKnown : EngineState → List ℕ → Type 0
SourceIsKnown e bytes =
    (d : DatagramText) → datagram_of bytes ≡ Ok d →
    slice_index e.sessions.known d.header.source.rank ≡ d.header.source.incarnation
