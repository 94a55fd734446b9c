-- What names stand for once the machine has answered.
use Rattle.std.specs.Prelude.{◌≡◌, ℕ, List, [], ◌∷◌, length, map, Option, Some, None, slice_get}
use Rattle.layouts.specs.Buffers.{Contents}
use Rattle.perfect_groups.specs.Membership as machine
use Rattle.perfect_queues.specs.Outcomes as queues
use Rattle.observation.specs.CoreCalls.{outcome_seen}
use Rattle.observation.specs.Endings.{ending_is}
use Rattle.collective_steps.specs.declared.step.Ending.{Ending}
use Rattle.communicators.specs.declared.question.Question.TheVariants as questions
use Rattle.engine_calls.specs.declared.call.Call.TheVariants as calls
use Rattle.engine_calls.specs.declared.reply.Fact.TheVariants as facts
use Rattle.engine_calls.specs.declared.reply.Reply.{Reply}
use Rattle.engine_calls.specs.declared.reply.Reply.TheVariants as replies
use Rattle.requests.specs.declared.answer.Answer.TheVariants as answers
use Rattle.requests.specs.declared.outcome.Outcome.{Outcome}
use Rattle.requests.specs.declared.table.Request.{Request}
use Rattle.script_calls.specs.NamedThings.{null}
use Rattle.script_calls.specs.Tables.{value_at}
use Rattle.script_calls.specs.declared.pending.NamedMessage.TheVariants as messages
use Rattle.script_calls.specs.declared.pending.Pending.{Pending}
use Rattle.script_calls.specs.declared.pending.Pending.TheVariants as pendings
use Rattle.statements.specs.declared.action.RequestName.{RequestName}
use Rattle.statements.specs.declared.action.RequestName.TheVariants as requested
use Rattle.vocabulary.specs.declared.envelope.Status.{Status}
use Rattle.interpreter.specs.Answers.{Hears, hears}
use Rattle.interpreter.specs.NamesState.{NamesState}
use Rattle.interpreter.specs.declared.steps.NextStep.{NextStep}
use Rattle.interpreter.specs.declared.steps.NextStep.TheVariants as nexts
use Rattle.interpreter.specs.declared.steps.Told.TheVariants as tolds
use Rattle.proof_interpreter.specs.Names.{HasCome, Holds, HoldsBack, OthersStay, error_in, handed_back}
use Rattle.proof_interpreter.specs.Names.{last_status, started_with}

-- ---- the start of an operation (MPI 3.1, 3.7.2)

-- its request has the name of its statement, and beside it stands the name of the buffer that is lent to it
pub record IsStarted (old new : NamesState) (name : List ℕ) (buffer : Option (List ℕ)) (q : Request) : Type 0 where
  pub named : value_at new.requests name ≡ Some (record { request = Some q; buffer = buffer })
  pub others : OthersStay old new (Some name) None None None
  pub last : new.last ≡ old.last

abbrev pub StartsAreKept : Type 0
StartsAreKept = (s : NamesState) (name : List ℕ) (buffer : Option (List ℕ)) (q : Request) →
    IsStarted s (hears (pendings.Starting name buffer) (replies.Started q) s).1 name buffer q

-- one without a name is waited for at once
abbrev pub UnnamedStartsWait : Type 0
UnnamedStartsWait = (s : NamesState) (buffer : Option (List ℕ)) (q : Request) →
    hears (pendings.StartingToWait buffer) (replies.Started q) s ≡
    (nexts.Call (record { call = calls.Wait (Some q); pending = pendings.WaitingUnnamed buffer }), s)

-- ---- one outcome (3.7.3)

-- an error is told by its number, and nothing else is
abbrev pub told_of : Option ℕ → NextStep
told_of None = nexts.Nothing
told_of (Some number) = nexts.Told (tolds.Error number)

-- The one request of this name has ended so: the name is null, and what is handed back is in the buffer with which it
-- was started
pub record OneHasEnded (old : NamesState) (name : List ℕ) (o : queues.Outcome) (heard : Hears) : Type 0 where
  pub null : value_at heard.1.requests name ≡ Some null
  pub come : HasCome old heard.1 (Some name) (started_with old name) None o
  pub told : heard.0 ≡ told_of (error_in o)

-- a wait and a test of one request, whose outcome sets the last status
abbrev pub WaitsAreKept : Type 0
WaitsAreKept = (s : NamesState) (name : List ℕ) (o : Outcome) →
    OneHasEnded s name (outcome_seen o)
    (hears (pendings.Waiting (requested.Named name)) (replies.Done (answers.One o)) s) ×
    ((hears (pendings.Waiting (requested.Named name)) (replies.Done (answers.One o)) s).1.last ≡
    last_status s.last (outcome_seen o))

-- of the null request
abbrev pub NullWaitsAreKept : Type 0
NullWaitsAreKept = (s : NamesState) (o : Outcome) →
    OthersStay s (hears (pendings.Waiting requested.Null) (replies.Done (answers.One o)) s).1 None None None None ×
    ((hears (pendings.Waiting requested.Null) (replies.Done (answers.One o)) s).1.last ≡
    last_status s.last (outcome_seen o))

-- of an operation whose request has no name
pub record UnnamedHasEnded (old : NamesState) (buffer : Option (List ℕ)) (o : queues.Outcome) (heard : Hears) :
    Type 0 where
  pub come : HasCome old heard.1 None buffer None o
  pub last : heard.1.last ≡ last_status old.last o
  pub told : heard.0 ≡ told_of (error_in o)

abbrev pub UnnamedWaitsAreKept : Type 0
UnnamedWaitsAreKept = (s : NamesState) (buffer : Option (List ℕ)) (o : Outcome) →
    UnnamedHasEnded s buffer (outcome_seen o)
    (hears (pendings.WaitingUnnamed buffer) (replies.Done (answers.One o)) s)

-- of a message that was taken out: its name has ended, and what is handed back is in the buffer of the receive (3.8.3)
pub record MessageHasEnded (old : NamesState) (name buffer : List ℕ) (o : queues.Outcome) (heard : Hears) : Type 0 where
  pub ended : value_at heard.1.messages name ≡ Some messages.Ended
  pub come : HasCome old heard.1 None (Some buffer) (Some name) o
  pub last : heard.1.last ≡ last_status old.last o
  pub told : heard.0 ≡ told_of (error_in o)

abbrev pub LandingsAreKept : Type 0
LandingsAreKept = (s : NamesState) (name buffer : List ℕ) (o : Outcome) →
    MessageHasEnded s name buffer (outcome_seen o)
    (hears (pendings.Receiving name buffer) (replies.Done (answers.One o)) s)

-- ---- one of several (3.7.5): the request at the index that is answered, and no other

abbrev pub AnyIsKept : Type 0
AnyIsKept = (s : NamesState) (rs : List RequestName) (index : ℕ) (name : List ℕ) (o : Outcome) →
    slice_get rs index ≡ Some (requested.Named name) →
    OneHasEnded s name (outcome_seen o)
    (hears (pendings.WaitingForSeveral rs) (replies.Done (answers.Index index o)) s) ×
    ((hears (pendings.WaitingForSeveral rs) (replies.Done (answers.Index index o)) s).1.last ≡ s.last)

-- ---- all of several (3.7.5): each ends with its own outcome

-- this request is of another name than each of these, and was started with another buffer
abbrev pub IsApartFrom : NamesState → List ℕ → List RequestName → Type 0
IsApartFrom s name [] = Unit {0}
IsApartFrom s name (requested.Null ∷ rs) = IsApartFrom s name rs
IsApartFrom s name (requested.Named other ∷ rs) =
    ((other ≡ name → ⊥) ×
    ((buffer : List ℕ) → started_with s name ≡ Some buffer → started_with s other ≡ Some buffer → ⊥)) ×
    IsApartFrom s name rs

-- so is each of these
abbrev pub AreApart : NamesState → List RequestName → Type 0
AreApart s [] = Unit {0}
AreApart s (requested.Null ∷ rs) = AreApart s rs
AreApart s (requested.Named name ∷ rs) = IsApartFrom s name rs × AreApart s rs

-- each name is null, and in the buffer with which its request was started is what its own outcome hands back
abbrev pub EachHasEnded : NamesState → List RequestName → List Outcome → NamesState → Type 0
EachHasEnded old [] os new = Unit {0}
EachHasEnded old (r ∷ rs) [] new = Unit {0}
EachHasEnded old (requested.Null ∷ rs) (o ∷ os) new = EachHasEnded old rs os new
EachHasEnded old (requested.Named name ∷ rs) (o ∷ os) new =
    ((value_at new.requests name ≡ Some null) ×
    HoldsBack new (started_with old name) (handed_back (outcome_seen o))) × EachHasEnded old rs os new

-- no request among these has this name
abbrev pub IsNoneOf : List RequestName → List ℕ → Type 0
IsNoneOf [] name = Unit {0}
IsNoneOf (requested.Null ∷ rs) name = IsNoneOf rs name
IsNoneOf (requested.Named other ∷ rs) name = (name ≡ other → ⊥) × IsNoneOf rs name

-- none of them was started with this buffer
abbrev pub HoldsNone : NamesState → List RequestName → List ℕ → Type 0
HoldsNone s [] buffer = Unit {0}
HoldsNone s (requested.Null ∷ rs) buffer = HoldsNone s rs buffer
HoldsNone s (requested.Named name ∷ rs) buffer = (started_with s name ≡ Some buffer → ⊥) × HoldsNone s rs buffer

-- the errors of outcomes, in order
abbrev pub with_error_in : Option ℕ → List ℕ → List ℕ
with_error_in None numbers = numbers
with_error_in (Some number) numbers = number ∷ numbers

abbrev pub errors_in : List queues.Outcome → List ℕ
errors_in [] = []
errors_in (o ∷ os) = with_error_in (error_in o) (errors_in os)

abbrev pub all_told_of : List ℕ → NextStep
all_told_of [] = nexts.Nothing
all_told_of (number ∷ numbers) = nexts.Told (tolds.Errors (number ∷ numbers))

pub record AllHaveEnded (old : NamesState) (rs : List RequestName) (os : List Outcome) (new : NamesState) : Type 0 where
  pub each : EachHasEnded old rs os new
  pub requests : (name : List ℕ) → IsNoneOf rs name → value_at new.requests name ≡ value_at old.requests name
  pub buffers : (name : List ℕ) → HoldsNone old rs name → value_at new.buffers name ≡ value_at old.buffers name
  pub rank : new.rank ≡ old.rank
  pub layouts : (name : List ℕ) → value_at new.layouts name ≡ value_at old.layouts name
  pub messages : (name : List ℕ) → value_at new.messages name ≡ value_at old.messages name
  pub communicators : (name : List ℕ) → value_at new.communicators name ≡ value_at old.communicators name
  pub last : new.last ≡ old.last

abbrev pub AllAreKept : Type 0
AllAreKept = (s : NamesState) (rs : List RequestName) (os : List Outcome) → AreApart s rs → length os ≡ length rs →
    AllHaveEnded s rs os (hears (pendings.WaitingForSeveral rs) (replies.Done (answers.All os)) s).1 ×
    ((hears (pendings.WaitingForSeveral rs) (replies.Done (answers.All os)) s).0 ≡
    all_told_of (errors_in (map outcome_seen os)))

-- ---- probes (3.8.1, 3.8.2)

-- the status of what was found is the last one
pub record ProbesAreKept : Type 0 where
  pub found :
      (s : NamesState) (p : Pending) (status : Status) →
      hears p (replies.Probed (Some status)) s ≡ (nexts.Nothing, record s { last = status })
  pub none : (s : NamesState) (p : Pending) → hears p (replies.Probed None) s ≡ (nexts.Told tolds.NoMessage, s)
  pub unmatched : (s : NamesState) (p : Pending) → hears p (replies.Matched None) s ≡ (nexts.Told tolds.NoMessage, s)

-- the message that was taken out has the name of its statement
pub record IsTakenOut (old new : NamesState) (name : List ℕ) (message : Option Request) (status : Status) : Type 0 where
  pub named : value_at new.messages name ≡ Some (messages.TakenOut message)
  pub others : OthersStay old new None None (Some name) None
  pub last : new.last ≡ status

abbrev pub MatchesAreKept : Type 0
MatchesAreKept = (s : NamesState) (name : List ℕ) (message : Option Request) (status : Status) →
    IsTakenOut s (hears (pendings.Searching name) (replies.Matched (Some (message, status))) s).1 name message status

-- ---- collectives and communicators (5, 6.4)

-- the buffer of this name holds what the collective gave, and no other name is touched
pub record IsGiven (old new : NamesState) (name : List ℕ) (elements : Contents) : Type 0 where
  pub holds : Holds new name elements
  pub others : OthersStay old new None (Some name) None None
  pub last : new.last ≡ old.last

pub record CollectivesAreKept : Type 0 where
  pub given :
      (s : NamesState) (name : List ℕ) (elements : Contents) (e : Ending) →
      ending_is e ≡ machine.Left (Some elements) →
      IsGiven s (hears (pendings.Entering (Some name)) (replies.Left e) s).1 name elements
  pub nothing :
      (s : NamesState) (p : Pending) (e : Ending) → ending_is e ≡ machine.Left None →
      hears p (replies.Left e) s ≡ (nexts.Nothing, s)
  pub failed :
      (s : NamesState) (p : Pending) (e : Ending) (number : ℕ) → ending_is e ≡ machine.Failed number →
      hears p (replies.Left e) s ≡ (nexts.Told (tolds.Error number), s)

-- the name stands for a new communicator by its place, with the rank in it, which is asked for first; or for
-- MPI_COMM_NULL
pub record IsMade (old new : NamesState) (name : List ℕ) (place rank : ℕ) : Type 0 where
  pub named : value_at new.communicators name ≡ Some (Some (record { place = place; rank = rank }))
  pub others : OthersStay old new None None None (Some name)
  pub last : new.last ≡ old.last

pub record IsNobodys (old new : NamesState) (name : List ℕ) : Type 0 where
  pub named : value_at new.communicators name ≡ Some None
  pub others : OthersStay old new None None None (Some name)
  pub last : new.last ≡ old.last

pub record CommunicatorsAreKept : Type 0 where
  pub asks :
      (s : NamesState) (name : List ℕ) (place : ℕ) (e : Ending) → ending_is e ≡ machine.Comm (Some place) →
      hears (pendings.Making name) (replies.Left e) s ≡
      (nexts.Call (record { call = calls.Ask (Some place) questions.Rank; pending = pendings.Seating name place }), s)
  pub made :
      (s : NamesState) (name : List ℕ) (place rank : ℕ) →
      IsMade s (hears (pendings.Seating name place) (replies.Fact (facts.Number rank)) s).1 name place rank
  pub none :
      (s : NamesState) (name : List ℕ) (e : Ending) → ending_is e ≡ machine.Comm None →
      IsNobodys s (hears (pendings.Making name) (replies.Left e) s).1 name
  -- the rank in a communicator and its size are asked for one after the other, and told together
  pub size :
      (s : NamesState) (comm : Option ℕ) (rank : ℕ) →
      hears (pendings.AskingRank comm) (replies.Fact (facts.Number rank)) s ≡
      (nexts.Call (record { call = calls.Ask comm questions.Size; pending = pendings.AskingSize rank }), s)
  pub position :
      (s : NamesState) (rank size : ℕ) →
      hears (pendings.AskingSize rank) (replies.Fact (facts.Number size)) s ≡
      (nexts.Told (tolds.Position rank size), s)

-- ---- what says nothing of names

abbrev pub IsSilent : Reply → Type 0
IsSilent (replies.Started q) = ⊥
IsSilent (replies.Done answers.IndexUndefined) = Unit {0}
IsSilent (replies.Done _) = ⊥
IsSilent replies.Pending = Unit {0}
IsSilent replies.Accepted = Unit {0}
IsSilent replies.Blocked = Unit {0}
IsSilent (replies.Left e) = ⊥
IsSilent (replies.Fact fact) = ⊥
IsSilent (replies.Probed found) = ⊥
IsSilent (replies.Matched found) = ⊥
IsSilent (replies.Refused why call) = ⊥

abbrev pub SilentRepliesChangeNothing : Type 0
SilentRepliesChangeNothing = (s : NamesState) (p : Pending) (reply : Reply) → IsSilent reply → (hears p reply s).1 ≡ s

pub record AnswersAreKept : Type 0 where
  pub starts : StartsAreKept
  pub unnamed_starts : UnnamedStartsWait
  pub waits : WaitsAreKept
  pub null_waits : NullWaitsAreKept
  pub unnamed_waits : UnnamedWaitsAreKept
  pub landings : LandingsAreKept
  pub any_of : AnyIsKept
  pub all_of : AllAreKept
  pub probes : ProbesAreKept
  pub matches : MatchesAreKept
  pub collectives : CollectivesAreKept
  pub communicators : CommunicatorsAreKept
  pub silent : SilentRepliesChangeNothing
