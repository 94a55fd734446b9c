-- Laws of synchronous sends (MPI 3.1, 3.4), of probes, and of messages that a matching probe took out (3.8).
use Rattle.std.specs.Prelude.{◌≡◌, ◌≢◌, ℕ, ◌<◌, true, false, ◌&&◌, ◌||◌, List, [], ◌∷◌, ◌++◌, length, Option, Some}
use Rattle.std.specs.Prelude.{None, ◌==◌, slice_get}
use Rattle.layouts.specs.Layouts.{has_repeats}
use Rattle.perfect_queues.specs.Buffers.{Handed, data_of, differs_in_type, is_too_short}
use Rattle.perfect_queues.specs.Calls.{Cancel, Improbe, Iprobe, Isend, Mrecv, Test, Wait, after_call, after_settling}
use Rattle.perfect_queues.specs.Calls.{ready_answer, receiver}
use Rattle.perfect_queues.specs.Completions.{ForMatch, ForOne, ForProbe, One}
use Rattle.perfect_queues.specs.Events.{start}
use Rattle.perfect_queues.specs.Messages.{Message}
use Rattle.vocabulary.specs.declared.mode.Mode.TheVariants.{Synchronous}
use Rattle.perfect_queues.specs.Outcomes.{Replaced, null_status, outcome, status_of}
use Rattle.perfect_queues.specs.Receives.{Probe, Receive, such_receive}
use Rattle.perfect_queues.specs.Refusals.{fault, is_message, is_source_beyond, is_tag_above, standing, world}
use Rattle.perfect_queues.specs.Requests.{Finished, Matched, Posted, Sending, TakenOut, receive_of}
use Rattle.perfect_queues.specs.State.{Local, State, with_request}
use Rattle.perfect_queues.specs.Steps.{Allowed, Finish, FinishSend, Learn, Match, MayFind, Possible, See, TakeOut}
use Rattle.perfect_queues.specs.Steps.{after_step}
use Rattle.vocabulary.specs.Endpoints.{is_former, is_same}
use Rattle.vocabulary.specs.declared.endpoint.Endpoint.{Endpoint}
use Rattle.vocabulary.specs.declared.envelope.Source.TheVariants.{Null, Rank}

-- a receive with a probe's envelope
pub record HasItsEnvelope (q : Probe) (p : Receive) : Type 0 where
  pub source : p.source ≡ q.source
  pub tag : p.tag ≡ q.tag
  pub context : p.context ≡ q.context

-- A probe may find just the messages with which such a receive might be matched that is posted now, behind all others
-- (3.8.1)
abbrev pub FindsWhatIsReceived : Type 0
FindsWhatIsReceived =
    (l : Local) (q : Probe) (p : Receive) (earlier : List Message) (m : Message) (later : List Message) →
    HasItsEnvelope q p →
    (MayFind l q earlier m later → Allowed (with_request l (Posted p)) (Match (length l.requests) p earlier m later)) ×
    (Allowed (with_request l (Posted p)) (Match (length l.requests) p earlier m later) → MayFind l q earlier m later)

-- A probe has no choice among the messages of one sender in one context (3.5, 3.8.1)
abbrev pub FindsTheFirst : Type 0
FindsTheFirst =
    (l : Local) (q : Probe) (earlier earlier' : List Message) (m m' : Message) (later later' : List Message) →
    MayFind l q earlier m later → MayFind l q earlier' m' later' → m.sender ≡ m'.sender → m.context ≡ m'.context →
    m ≡ m'

-- What a probe leaves that sees a message: its answer is the message's status, and all else is as it was
pub record OnlySees (l new : Local) (q : Probe) (m : Message) : Type 0 where
  pub answers : ready_answer new ≡ Some (ForProbe (Some (status_of (such_receive q) m)), [])
  pub requests : new.requests ≡ l.requests
  pub known : new.known ≡ l.known
  pub queue : new.queue ≡ l.queue

-- whatever it sees (3.8.1)
abbrev pub ProbesChangeNothing : Type 0
ProbesChangeNothing =
    (l : Local) (q : Probe) (earlier : List Message) (m : Message) (later : List Message) →
    OnlySees l (after_step l (See q earlier m later)) q m

-- What a matching probe leaves that takes a message out: the message stands in no queue, since its own is the earlier
-- and the later messages without it; it is to be received under the next serial, which is answered with its status; and
-- all other queues and requests are as they were
pub record TakesItOut (l new : Local) (q : Probe) (earlier : List Message) (m : Message) (later : List Message) : Type
    0 where
  pub answers : ready_answer new ≡ Some (ForMatch (Some (Some (length l.requests), status_of (such_receive q) m)), [])
  pub queue : new.queue m.sender m.context ≡ earlier ++ later
  pub message : slice_get new.requests (length l.requests) ≡ Some (TakenOut q.group (Some m))
  pub other_queues :
      (s : Endpoint) (c : ℕ) → (is_same s m.sender && (c == m.context)) ≡ false → new.queue s c ≡ l.queue s c
  pub other_requests : (j : ℕ) → j < length l.requests → slice_get new.requests j ≡ slice_get l.requests j

-- whatever it takes out (3.8.2)
abbrev pub MatchingProbesTakeOut : Type 0
MatchingProbesTakeOut =
    (l : Local) (q : Probe) (earlier : List Message) (m : Message) (later : List Message) →
    TakesItOut l (after_step l (TakeOut q earlier m later)) q earlier m later

-- What a probe answers that finds nothing, and from the null process; it never stays blocked (3.8.1, 3.11)
pub record NeverBlocks (e : Endpoint) (l : Local) (q : Probe) : Type 0 where
  pub none : q.source ≢ Null → ready_answer (after_call e l (Iprobe q)) ≡ Some (ForProbe None, [])
  pub no_message : q.source ≢ Null → ready_answer (after_call e l (Improbe q)) ≡ Some (ForMatch None, [])
  pub null : q.source ≡ Null → ready_answer (after_call e l (Iprobe q)) ≡ Some (ForProbe (Some null_status), [])
  pub null_message : q.source ≡ Null → ready_answer (after_call e l (Improbe q)) ≡
      Some (ForMatch (Some (None, null_status)), [])
  pub requests : (after_call e l (Improbe q)).requests ≡ l.requests
  pub unblocks : (after_settling (after_call e l (Improbe q))).blocked ≡ None

-- whatever it asks for
abbrev pub ProbesNeverBlock : Type 0
ProbesNeverBlock = (e : Endpoint) (l : Local) (q : Probe) → NeverBlocks e l q

-- A synchronous send isn't finished in its own call, and its message names it (3.4)
pub record WaitsForItsMatch (s new : State) (e : Endpoint) (context to tag : ℕ) (h : Handed) : Type 0 where
  pub waits : slice_get (new.at e).requests (length (s.at e).requests) ≡ Some (Sending (receiver (s.at e).known to))
  pub stands_last :
      (new.at (receiver (s.at e).known to)).queue e context ≡
      (s.at (receiver (s.at e).known to)).queue e context ++
      record {
        sender = e;
        context = context;
        tag = tag;
        basic = h.buffer.basic;
        values = data_of h;
        request = Some (length (s.at e).requests);
      } ∷ []

-- to whatever rank, the sender's own too, and of however few bytes
abbrev pub SynchronousSendWaits : Type 0
SynchronousSendWaits =
    (s : State) (e : Endpoint) (context to tag : ℕ) (h : Handed) →
    WaitsForItsMatch s (start s e (Some (Isend Synchronous context (Rank to) (Some tag) h))) e context to tag h

-- No send is finished whose message is pending at its receiver, or was taken out and isn't received (3.4, 3.8.2)
pub record IsNotFinished (s : State) (e d : Endpoint) (k : ℕ) (m : Message) : Type 0 where
  pub pending : (context : ℕ) (earlier later : List Message) → (s.at d).queue e context ≡ earlier ++ m ∷ later →
      Possible s e (FinishSend k d) → ⊥
  pub taken_out : (j : ℕ) (g : Option (List ℕ)) → slice_get (s.at d).requests j ≡ Some (TakenOut g (Some m)) →
      m.sender ≡ e →
      Possible s e (FinishSend k d) → ⊥

-- whichever message its request has
abbrev pub SendsWaitForReceives : Type 0
SendsWaitForReceives = (s : State) (e d : Endpoint) (k : ℕ) (m : Message) → m.request ≡ Some k → IsNotFinished s e d k m

-- A message that was taken out is received once: its receive is matched with it, ends with its outcome, which is
-- answered, and to receive it again is refused with 6 (3.8.3)
pub record IsReceivedOnce (n : ℕ) (e : Endpoint) (l : Local) (k : ℕ) (g : Option (List ℕ)) (m : Message)
    (into : Handed) : Type 0 where
  pub matched : slice_get (after_call e l (Mrecv (Some k) into)).requests k ≡ Some (Matched (receive_of g m into) m)
  pub answers :
      ready_answer (after_step (after_call e l (Mrecv (Some k) into)) (Finish k (receive_of g m into) m)) ≡
      Some (ForOne (outcome (receive_of g m into) m), k ∷ [])
  pub refuses_again : (other : Handed) →
      fault n (after_settling (after_step (after_call e l (Mrecv (Some k) into)) (Finish k (receive_of g m into) m)))
      (Mrecv (Some k) other) ≡ Some 6

-- whatever it is received into
abbrev pub MessagesAreReceivedOnce : Type 0
MessagesAreReceivedOnce =
    (n : ℕ) (e : Endpoint) (l : Local) (k : ℕ) (g : Option (List ℕ)) (m : Message) (into : Handed) →
    slice_get l.requests k ≡ Some (TakenOut g (Some m)) → IsReceivedOnce n e l k g m into

-- What is learnt of messages that were taken out (own): one of a former endpoint is none any more, and its receive,
-- begun before or after, has ended with 11 and its buffer as it was
pub record EndsItsMessages (e : Endpoint) (l : Local) (r i k : ℕ) (g : Option (List ℕ)) (m : Message)
    (into : Handed) : Type 0 where
  pub forgotten : slice_get l.requests k ≡ Some (TakenOut g (Some m)) →
      slice_get (after_step l (Learn r i)).requests k ≡ Some (TakenOut g None)
  pub waiting : slice_get l.requests k ≡ Some (Matched (receive_of g m into) m) →
      slice_get (after_step l (Learn r i)).requests k ≡ Some (Finished (Replaced (Some into.buffer)))
  pub received : slice_get l.requests k ≡ Some (TakenOut g None) →
      ready_answer (after_call e l (Mrecv (Some k) into)) ≡ Some (ForOne (Replaced (Some into.buffer)), k ∷ [])

-- whichever message of a former endpoint
abbrev pub LearningEndsMessages : Type 0
LearningEndsMessages =
    (e : Endpoint) (l : Local) (r i k : ℕ) (g : Option (List ℕ)) (m : Message) (into : Handed) →
    is_former r i m.sender ≡ true →
    EndsItsMessages e l r i k g m into

-- A message is no request, and a request no message: each call for the one is refused with 6 at the other (3.8.2)
pub record AreApart (n : ℕ) (l : Local) (k : ℕ) : Type 0 where
  pub wait : is_message (standing (slice_get l.requests k)) ≡ true → fault n l (Wait (One (Some k))) ≡ Some 6
  pub test : is_message (standing (slice_get l.requests k)) ≡ true → fault n l (Test (Some k)) ≡ Some 6
  pub cancel : is_message (standing (slice_get l.requests k)) ≡ true → fault n l (Cancel (Some k)) ≡ Some 6
  pub receive : (into : Handed) → is_message (standing (slice_get l.requests k)) ≡ false →
      fault n l (Mrecv (Some k) into) ≡ Some 6

-- whatever the request, while no call is blocked
abbrev pub MessagesAreNoRequests : Type 0
MessagesAreNoRequests = (n : ℕ) (l : Local) (k : ℕ) → l.blocked ≡ None → AreApart n l k

-- what is refused of a probe on world, while no call is blocked: a tag above the highest, then a rank that isn't there
pub record JudgesProbes (n : ℕ) (l : Local) (q : Probe) : Type 0 where
  pub tag : is_tag_above q.tag ≡ true → (fault n l (Iprobe q) ≡ Some 3) × (fault n l (Improbe q) ≡ Some 3)
  pub rank : is_tag_above q.tag ≡ false → is_source_beyond n q.source ≡ true →
      (fault n l (Iprobe q) ≡ Some 5) × (fault n l (Improbe q) ≡ Some 5)
  pub taken : is_tag_above q.tag ≡ false → is_source_beyond n q.source ≡ false →
      (fault n l (Iprobe q) ≡ None) × (fault n l (Improbe q) ≡ None)

-- whatever it asks for
abbrev pub ProbesAreJudged : Type 0
ProbesAreJudged = (n : ℕ) (l : Local) (q : Probe) → l.blocked ≡ None → q.context ≡ world → JudgesProbes n l q

-- what is refused of the receive of a message that was taken out, or of the null process's: buffer and layout of two
-- types or a layout that names a place twice, then a buffer that is too short
pub record JudgesMessageReceives (n : ℕ) (l : Local) (k : Option ℕ) (into : Handed) : Type 0 where
  pub type : (differs_in_type into || has_repeats into.layout.offsets) ≡ true → fault n l (Mrecv k into) ≡ Some 2
  pub count : (differs_in_type into || has_repeats into.layout.offsets) ≡ false → is_too_short into ≡ true →
      fault n l (Mrecv k into) ≡ Some 1
  pub taken : (differs_in_type into || has_repeats into.layout.offsets) ≡ false → is_too_short into ≡ false →
      fault n l (Mrecv k into) ≡ None

-- whatever it is received into
abbrev pub MessageReceivesAreJudged : Type 0
MessageReceivesAreJudged =
    (n : ℕ) (l : Local) (into : Handed) → l.blocked ≡ None →
    JudgesMessageReceives n l None into ×
    ((k : ℕ) → is_message (standing (slice_get l.requests k)) ≡ true → JudgesMessageReceives n l (Some k) into)
