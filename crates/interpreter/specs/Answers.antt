-- What is made of the answer to a statement's call.
use Rattle.std.specs.Prelude.{◌≡◌, ℕ, Option, Some, None, List, [], ◌∷◌, ◌++◌, option_and_then, slice_get}
use Rattle.vocabulary.specs.declared.envelope.Status.{Status}
use Rattle.datatypes.specs.Contents.{Contents}
use Rattle.requests.specs.declared.answer.Answer.{Answer}
use Rattle.requests.specs.declared.answer.Answer.TheVariants as answers
use Rattle.requests.specs.declared.outcome.Outcome.{Outcome}
use Rattle.requests.specs.declared.outcome.Outcome.TheVariants as outcomes
use Rattle.requests.specs.declared.table.Request.{Request}
use Rattle.point_to_point_calls.specs.Refusals.{number_of_refusal}
use Rattle.point_to_point_calls.specs.declared.refusal.Refusal.{Refusal}
use Rattle.collective_steps.specs.declared.step.Ending.{Ending}
use Rattle.collective_steps.specs.declared.step.Ending.TheVariants as endings
use Rattle.communicators.specs.declared.question.Question.TheVariants as questions
use Rattle.engine_calls.specs.declared.call.Call.{Call}
use Rattle.engine_calls.specs.declared.call.Call.TheVariants as calls
use Rattle.engine_calls.specs.declared.reply.Fact.{Fact}
use Rattle.engine_calls.specs.declared.reply.Fact.TheVariants as facts
use Rattle.engine_calls.specs.declared.reply.Reply.{Reply}
use Rattle.engine_calls.specs.declared.reply.Reply.TheVariants as replies
use Rattle.statements.specs.declared.action.RequestName.{RequestName}
use Rattle.statements.specs.declared.action.RequestName.TheVariants as requested
use Rattle.script_calls.specs.declared.pending.NamedMessage.TheVariants as messages
use Rattle.script_calls.specs.declared.pending.Pending.{Pending}
use Rattle.script_calls.specs.declared.pending.Pending.TheVariants as pendings
use Rattle.script_calls.specs.NamedThings.{null}
use Rattle.script_calls.specs.OutcomeTexts.{error_of, status_after}
use Rattle.interpreter.specs.declared.steps.NextStep.{NextStep}
use Rattle.interpreter.specs.declared.steps.NextStep.TheVariants as nexts
use Rattle.interpreter.specs.declared.steps.Told.{Told}
use Rattle.interpreter.specs.declared.steps.Told.TheVariants as tolds
use Rattle.interpreter.specs.Numbers.{err_count, err_intern, err_mismatch, err_replaced}
use Rattle.interpreter.specs.NamesState.{NamesState, given_back, with_communicator, with_message, with_request}
use Rattle.script_calls.specs.Tables.{value_at}

-- what comes next behind an answer, and what the names then stand for
abbrev pub Hears : Type 0
Hears = NextStep × NamesState

-- nothing but a change of names
abbrev pub goes_on : NamesState → Hears
goes_on s = (nexts.Nothing, s)

-- the statement makes another call, whose answer is for this
abbrev pub calls_next : Call → Pending → NamesState → Hears
calls_next call pending s = (nexts.Call (record { call = call; pending = pending }), s)

-- this is told
abbrev pub tells : Told → NamesState → Hears
tells told s = (nexts.Told told, s)

-- the answer isn't one to the call that it was awaited for: that is told, and no name changes
abbrev pub misfits : NamesState → Hears
misfits s = tells (tolds.Error err_intern) s

-- ---- starts

-- the operation has started: its request has its name, or it is waited for
abbrev pub starts : Pending → Request → NamesState → Hears
starts (pendings.Starting name buffer) request s =
    goes_on (with_request s name (record { request = Some request; buffer = buffer }))
starts (pendings.StartingToWait buffer) request s =
    calls_next (calls.Wait (Some request)) (pendings.WaitingUnnamed buffer) s
starts pending request s = misfits s

-- ---- refusals

-- the name of the buffer that is lent to the call
abbrev pub lent_by : Pending → Option (List ℕ)
lent_by (pendings.Starting name buffer) = buffer
lent_by (pendings.StartingToWait buffer) = buffer
lent_by (pendings.Receiving name buffer) = Some buffer
lent_by pending = None

-- a refused call comes back, and with a receive its buffer
abbrev pub taken_back : Pending → Call → NamesState → NamesState
taken_back pending (calls.Irecv x) s = given_back s (lent_by pending) x.into.buffer
taken_back pending (calls.Mrecv message into) s = given_back s (lent_by pending) into.buffer
taken_back pending call s = s

-- its number is told, and nothing is set
abbrev pub refuses_call : Pending → Refusal → Call → NamesState → Hears
refuses_call pending refused call s = tells (tolds.Error (number_of_refusal refused)) (taken_back pending call s)

-- ---- probes

-- the status of the message that was found is the last one; or that there is none is told
abbrev pub hears_probe : Option Status → NamesState → Hears
hears_probe None s = tells tolds.NoMessage s
hears_probe (Some status) s = goes_on (record s { last = status })

-- the message that was taken out has the name under which it was looked for, and its status is the last one
abbrev pub finds : Pending → Option Request × Status → NamesState → Hears
finds (pendings.Searching name) found s =
    goes_on (record (with_message s name (messages.TakenOut found.0)) { last = found.1 })
finds pending found s = misfits s

-- the same, if one was found; else that is told, and the name stands for what it stood for
abbrev pub hears_match : Pending → Option (Option Request × Status) → NamesState → Hears
hears_match pending None s = tells tolds.NoMessage s
hears_match pending (Some found) s = finds pending found s

-- ---- outcomes

-- the name of the buffer that comes back with the outcome of a request of this name
abbrev pub held_buffer : NamesState → List ℕ → Option (List ℕ)
held_buffer s name = option_and_then (λ h. h.buffer) (value_at s.requests name)

-- a receive's buffer comes back to this name with its outcome
abbrev pub returned : Option (List ℕ) → Outcome → NamesState → NamesState
returned name outcomes.Sent s = s
returned name (outcomes.Received status buffer) s = given_back s name buffer
returned name (outcomes.Ended failure status buffer) s = given_back s name buffer
returned name (outcomes.Replaced None) s = s
returned name (outcomes.Replaced (Some buffer)) s = given_back s name buffer
returned name (outcomes.Cancelled buffer) s = given_back s name buffer
returned name outcomes.Empty s = s

-- an error is told, if there is one
abbrev pub error_told : Option ℕ → NextStep
error_told None = nexts.Nothing
error_told (Some number) = nexts.Told (tolds.Error number)

-- several are told, if there are any
abbrev pub errors_told : List ℕ → NextStep
errors_told [] = nexts.Nothing
errors_told (number ∷ numbers) = nexts.Told (tolds.Errors (number ∷ numbers))

-- the outcome of the one operation that was waited for or tested
abbrev pub ends_with : Option (List ℕ) → Outcome → NamesState → Hears
ends_with name outcome s =
    (error_told (error_of outcome), record (returned name outcome s) { last = status_after s.last outcome })

-- a request's name is null after its outcome
abbrev pub ends_requested : RequestName → Outcome → NamesState → Hears
ends_requested requested.Null outcome s = ends_with None outcome s
ends_requested (requested.Named name) outcome s = ends_with (held_buffer s name) outcome (with_request s name null)

-- a message's name is ended after the outcome of its receive
abbrev pub ends_message : (name buffer : List ℕ) → Outcome → NamesState → Hears
ends_message name buffer outcome s = ends_with (Some buffer) outcome (with_message s name messages.Ended)

-- the outcome of one operation, where one is waited for
abbrev pub ends_one : Pending → Outcome → NamesState → Hears
ends_one (pendings.Waiting r) outcome s = ends_requested r outcome s
ends_one (pendings.WaitingUnnamed buffer) outcome s = ends_with buffer outcome s
ends_one (pendings.Receiving name buffer) outcome s = ends_message name buffer outcome s
ends_one pending outcome s = misfits s

-- what is left once a request of this name has ended so
abbrev pub ended_named : RequestName → Outcome → NamesState → NamesState
ended_named requested.Null outcome s = s
ended_named (requested.Named name) outcome s = returned (held_buffer s name) outcome (with_request s name null)

-- the outcome of one of several operations
abbrev pub ends_named_one : Option RequestName → Outcome → NamesState → Hears
ends_named_one None outcome s = misfits s
ends_named_one (Some r) outcome s = (error_told (error_of outcome), ended_named r outcome s)

abbrev pub ends_at : Pending → ℕ → Outcome → NamesState → Hears
ends_at (pendings.WaitingForSeveral several) index outcome s = ends_named_one (slice_get several index) outcome s
ends_at pending index outcome s = misfits s

-- an error, before those of the others
abbrev pub with_error : Option ℕ → List ℕ → List ℕ
with_error None numbers = numbers
with_error (Some number) numbers = number ∷ numbers

-- the errors with which several requests have ended, in order, and what is left then
abbrev pub ended_each : List RequestName → List Outcome → NamesState → List ℕ × NamesState
ended_each [] os s = ([], s)
ended_each (r ∷ rs) [] s = ([], s)
ended_each (r ∷ rs) (o ∷ os) s =
    (with_error (error_of o) (ended_each rs os (ended_named r o s)).0, (ended_each rs os (ended_named r o s)).1)

-- these errors come before those of the others
abbrev pub behind : List ℕ → List ℕ × NamesState → List ℕ × NamesState
behind errors ended = (errors ++ ended.0, ended.1)

-- one more has ended so: whatever the others do, errors and names come out as if it had not yet
abbrev pub EndsNext : List ℕ → RequestName → Outcome → NamesState → List ℕ → NamesState → Type 0
EndsNext errors r o s errors' s' = (rs : List RequestName) → (os : List Outcome) →
    behind errors' (ended_each rs os s') ≡ behind errors (ended_each (r ∷ rs) (o ∷ os) s)

-- the outcomes of all of several
abbrev pub ends_all : Pending → List Outcome → NamesState → Hears
ends_all (pendings.WaitingForSeveral several) os s =
    (errors_told (ended_each several os s).0, (ended_each several os s).1)
ends_all pending os s = misfits s

-- what was waited for is answered so
abbrev pub ends_by : Pending → Answer → NamesState → Hears
ends_by pending (answers.One outcome) s = ends_one pending outcome s
ends_by pending (answers.Index index outcome) s = ends_at pending index outcome s
ends_by pending answers.IndexUndefined s = goes_on s
ends_by pending (answers.All os) s = ends_all pending os s

-- ---- collectives and communicators

-- a collective has given these elements, which the buffer of this name has from now on
abbrev pub elements_taken : Option (List ℕ) → Option Contents → NamesState → NamesState
elements_taken name None s = s
elements_taken name (Some elements) s = given_back s name elements

-- the same where none were awaited
abbrev pub unawaited : Option Contents → NextStep
unawaited None = nexts.Nothing
unawaited (Some elements) = nexts.Told (tolds.Error err_intern)

abbrev pub takes_elements : Pending → Option Contents → NamesState → Hears
takes_elements (pendings.Entering name) elements s = goes_on (elements_taken name elements s)
takes_elements pending elements s = (unawaited elements, s)

-- a communicator was made: the rank in it is asked for, and then it has its name; or none was, and the name stands for
-- that
abbrev pub communicator_taken : List ℕ → (place : Option ℕ) → NamesState → Hears
communicator_taken name None s = goes_on (with_communicator s name None)
communicator_taken name (Some place) s =
    calls_next (calls.Ask (Some place) questions.Rank) (pendings.Seating name place) s

abbrev pub takes_communicator : Pending → (place : Option ℕ) → NamesState → Hears
takes_communicator (pendings.Making name) at s = communicator_taken name at s
takes_communicator pending at s = misfits s

-- a collective is over: what it gave has its name, or an error is told and nothing is named
abbrev pub leaves : Pending → Ending → NamesState → Hears
leaves pending (endings.Left elements) s = takes_elements pending elements s
leaves pending (endings.Comm place) s = takes_communicator pending place s
leaves pending endings.Replaced s = tells (tolds.Error err_replaced) s
leaves pending endings.Mismatch s = tells (tolds.Error err_mismatch) s

-- a number was asked for: behind the rank the size is asked for, and with the size both are told; with the rank in a
-- communicator that was made, that has its name; and a collective with a block above all limits is refused with 1
abbrev pub counts : Pending → ℕ → NamesState → Hears
counts (pendings.Seating name place) n s =
    goes_on (with_communicator s name (Some (record { place = place; rank = n })))
counts (pendings.AskingRank comm) n s = calls_next (calls.Ask comm questions.Size) (pendings.AskingSize n) s
counts (pendings.AskingSize rank) n s = tells (tolds.Position rank n) s
counts pendings.Oversized n s = tells (tolds.Error err_count) s
counts pending n s = misfits s

-- the answer to a question
abbrev pub learns : Pending → Fact → NamesState → Hears
learns pending (facts.Number n) s = counts pending n s
learns pending (facts.Ranks ranks) s = tells (tolds.Members ranks) s
learns pending (facts.Compares comparison) s = tells (tolds.Comparison comparison) s

-- ---- all answers

-- what is made of the answer to a call that was for this
abbrev pub hears : Pending → Reply → NamesState → Hears
hears pending (replies.Started request) s = starts pending request s
hears pending (replies.Done answer) s = ends_by pending answer s
-- the request of a test is unfinished
hears pending replies.Pending s = tells tolds.Pending s
hears pending replies.Accepted s = goes_on s
hears pending replies.Blocked s = goes_on s
hears pending (replies.Left ending) s = leaves pending ending s
hears pending (replies.Fact fact) s = learns pending fact s
hears pending (replies.Probed status) s = hears_probe status s
hears pending (replies.Matched found) s = hears_match pending found s
hears pending (replies.Refused refused call) s = refuses_call pending refused call s
