-- What a call does to the engine: the core answers it, and the sessions send its frame; or a collective is entered, and
-- the sessions tell the others; or a question is answered.
use Rattle.std.specs.Prelude.{◌≡◌, ◌⊎◌, ℕ, Option, Some, None, Ok, option_map}
use Rattle.collective_messages.specs.declared.entry.Entry.{Entry}
use Rattle.rendezvous.specs.PayloadState.{after_announcing}
use Rattle.collectives.specs.Calls.{EntryGives, inside_of}
use Rattle.collective_steps.specs.Steps.{IsPreparedEntry, Prepared}
use Rattle.collective_steps.specs.Steps as steps
use Rattle.collective_steps.specs.declared.step.Ending.{Ending}
use Rattle.communicators.specs.Questions.{comparison_of, question_of}
use Rattle.communicators.specs.declared.question.Question.{Question}
use Rattle.communicators.specs.declared.question.Question.TheVariants as questions
use Rattle.perfect_groups.specs.Calls as machine
use Rattle.perfect_groups.specs.Calls.{fact_of, held_at}
use Rattle.point_to_point_calls.specs.Calls as cores
use Rattle.point_to_point_calls.specs.CoreCalls as core_calls
use Rattle.point_to_point_calls.specs.declared.refusal.Refusal.{Refusal}
use Rattle.point_to_point_calls.specs.declared.refusal.Refusal.TheVariants as refusals
use Rattle.point_to_point.specs.Calls.{Answers, call_frame}
use Rattle.point_to_point.specs.CoreState.{with_numbers}
use Rattle.point_to_point.specs.Messages.{looked}
use Rattle.sessions.specs.Events.{after_event}
use Rattle.vocabulary.specs.declared.envelope.Status.{Status}
use Rattle.engine_calls.specs.EngineState.{EngineState, member_of}
use Rattle.engine_calls.specs.Faults.{fault_of}
use Rattle.engine_calls.specs.Frames.{AreWhole, after_frame, step_limit, step_numbers, step_payloads, step_sendings}
use Rattle.engine_calls.specs.Routes.{core_call, core_reply, route_at}
use Rattle.engine_calls.specs.declared.call.Call.{Call}
use Rattle.engine_calls.specs.declared.call.Call.TheVariants as calls
use Rattle.point_to_point_calls.specs.declared.call.Probe.{Probe}
use Rattle.engine_calls.specs.declared.reply.Fact.{Fact}
use Rattle.engine_calls.specs.declared.reply.Fact.TheVariants as facts
use Rattle.engine_calls.specs.declared.reply.Reply.{Reply}
use Rattle.engine_calls.specs.declared.reply.Reply.TheVariants as replies

-- WHAT A CALL OWNS

-- a call with data of its own, a buffer or a list of requests: to copy them takes memory
abbrev pub OwnsData : Call → Type 0
OwnsData (calls.Isend s) = Unit {0}
OwnsData (calls.Irecv v) = Unit {0}
OwnsData (calls.Wait q) = ⊥
OwnsData (calls.Test q) = ⊥
OwnsData (calls.Waitany qs) = Unit {0}
OwnsData (calls.Waitall qs) = Unit {0}
OwnsData (calls.Cancel q) = ⊥
OwnsData (calls.Enter comm entry) = Unit {0}
OwnsData (calls.Ask comm question) = ⊥
OwnsData (calls.Iprobe p) = ⊥
OwnsData (calls.Improbe p) = ⊥
OwnsData (calls.Mrecv q into) = Unit {0}

-- WHY A CALL IS REFUSED

-- what the core is asked takes memory
abbrev pub NeedsMemory : Option core_calls.RoutedCall → Type 0
NeedsMemory None = ⊥
NeedsMemory (Some q) = cores.NeedsMemory q

-- the answer to a question is copied: the members alone are
abbrev pub IsCopied : Question → Type 0
IsCopied questions.Rank = ⊥
IsCopied questions.Size = ⊥
IsCopied questions.Group = Unit {0}
IsCopied (questions.Compare other) = ⊥

-- what an answer says is copied: ranks alone are
abbrev pub BringsRanks : machine.Fact → Type 0
BringsRanks (machine.Number n) = ⊥
BringsRanks (machine.Ranks ranks) = Unit {0}
BringsRanks (machine.Compares c) = ⊥

-- what a rank then does of itself meets a limit: a communicator can't be held or given, or a frame can't go
abbrev pub IsStepLimited : EngineState → (comm : Option ℕ) → Entry → Type 0
IsStepLimited e None x = ⊥
IsStepLimited e (Some place) x =
    (step : Prepared) ×
    IsPreparedEntry e.groups.collective.own (inside_of e.groups.collective e.groups.contexts place x) e.groups.contexts
    e.groups.collective.kept step
    × (steps.MeetsLimit e.groups.contexts step ⊎
    (step_limit e.sessions e.core.transfers.numbers None step.messages ≡ Some refusals.Limit))

-- Why a call is refused that breaks no rule and meets no limit of its own: for want of memory, if it needs any; a
-- collective also where what the rank then does of itself meets a limit
abbrev pub LacksRoom : EngineState → Call → Refusal → Type 0
LacksRoom e (calls.Enter comm x) why = (why ≡ refusals.OutOfMemory) ⊎ ((why ≡ refusals.Limit) × IsStepLimited e comm x)
LacksRoom e (calls.Ask comm q) why = (why ≡ refusals.OutOfMemory) × IsCopied q
LacksRoom e (calls.Isend s) why = (why ≡ refusals.OutOfMemory) × NeedsMemory (core_call e.groups (calls.Isend s))
LacksRoom e (calls.Irecv v) why = (why ≡ refusals.OutOfMemory) × NeedsMemory (core_call e.groups (calls.Irecv v))
LacksRoom e (calls.Wait q) why = ⊥
LacksRoom e (calls.Test q) why = ⊥
LacksRoom e (calls.Waitany qs) why = ⊥
LacksRoom e (calls.Waitall qs) why = why ≡ refusals.OutOfMemory
LacksRoom e (calls.Cancel q) why = ⊥
LacksRoom e (calls.Iprobe p) why = ⊥
LacksRoom e (calls.Improbe p) why = (why ≡ refusals.OutOfMemory) × NeedsMemory (core_call e.groups (calls.Improbe p))
LacksRoom e (calls.Mrecv message into) why =
    (why ≡ refusals.OutOfMemory) × NeedsMemory (core_call e.groups (calls.Mrecv message into))

-- a call is refused by the rule or limit that it meets; where it meets none, for want of room
abbrev pub WhyRefused : Option Refusal → EngineState → Call → Refusal → Type 0
WhyRefused (Some fault) e call why = why ≡ fault
WhyRefused None e call why = LacksRoom e call why

-- a call that is refused comes back as it was handed in, and changes nothing
pub record IsRefused (old : EngineState) (call : Call) (why : Refusal) (back : Call) (new : EngineState) : Type 0 where
  pub handed : back ≡ call
  pub unchanged : new ≡ old
  pub reason : WhyRefused (fault_of old call) old call why

-- WHAT A CALL LEAVES

-- a call of point to point, or on requests, is answered by the core, and its frame, if it has one, is on its way
pub record IsAnswered (old : EngineState) (call : Call) (reply : Reply) (new : EngineState) : Type 0 where
  pub allowed : fault_of old call ≡ None
  pub asked : core_calls.RoutedCall
  pub routed : core_call old.groups call ≡ Some asked
  pub within : cores.IsWithin asked
  pub answer : core_calls.CoreReply
  pub told : core_reply reply ≡ Some answer
  pub core : Answers old.core asked answer new.core
  pub sessions : new.sessions ≡ after_frame old.sessions (call_frame old.core asked)
  pub groups : new.groups ≡ old.groups
  pub ended : new.ended ≡ old.ended
  pub payloads : new.payloads ≡ old.payloads

-- a rank that left at once is answered with what it left with; else it is blocked
abbrev pub reply_on_entry : Option Ending → Reply
reply_on_entry None = replies.Blocked
reply_on_entry (Some o) = replies.Left o

-- a collective is entered: what the rank then does of itself is done, and the others are told. What is too long for a
-- frame is announced, and kept until it is asked for
pub record IsEntered (old : EngineState) (comm : Option ℕ) (x : Entry) (reply : Reply) (new : EngineState) : Type
    0 where
  pub allowed : fault_of old (calls.Enter comm x) ≡ None
  pub place : ℕ
  pub named : comm ≡ Some place
  pub ending : Option Ending
  pub step : Prepared
  pub enters :
      EntryGives old.groups.collective old.groups.contexts (inside_of old.groups.collective old.groups.contexts place x)
      (Ok (ending, step)) new.groups.collective new.groups.contexts
  pub replied : reply ≡ reply_on_entry ending
  pub whole : AreWhole step.messages
  pub goes : step_limit old.sessions old.core.transfers.numbers None step.messages ≡ None
  pub sessions : new.sessions ≡
      after_event old.sessions None (step_sendings old.sessions.place old.core.transfers.numbers step.messages)
  pub core : new.core ≡
      with_numbers old.core
      (step_numbers old.sessions.place.message_limit old.core.transfers.numbers step.messages)
  pub payloads : new.payloads ≡
      after_announcing old.payloads
      (step_payloads old.sessions.place.message_limit old.core.transfers.numbers step.messages)
  pub ended : new.ended ≡ old.ended

-- what an answer to a question says
abbrev pub fact_said : Fact → machine.Fact
fact_said (facts.Number n) = machine.Number n
fact_said (facts.Ranks ranks) = machine.Ranks ranks.items
fact_said (facts.Compares c) = machine.Compares (comparison_of c)

-- a question is answered, and nothing changes
pub record IsTold (old : EngineState) (comm : Option ℕ) (q : Question) (fact : Fact) (new : EngineState) : Type 0 where
  pub allowed : fault_of old (calls.Ask comm q) ≡ None
  pub unchanged : new ≡ old
  pub fact_is :
      option_map (λ c. fact_of old.groups.collective.own (member_of old.groups) c (question_of q))
      (held_at (member_of old.groups) comm)
      ≡ Some (fact_said fact)

-- what such a receive would take now is told, and nothing changes
pub record IsLooked (old : EngineState) (p : Probe) (found : Option Status) (new : EngineState) : Type 0 where
  pub allowed : fault_of old (calls.Iprobe p) ≡ None
  pub unchanged : new ≡ old
  pub found_is : option_map (λ r. looked old.core r.named p.tag r.context r.group) (route_at old.groups p.comm p.source)
      ≡ Some found

-- a collective is entered, or the call is refused
abbrev pub EnteringGives : EngineState → (comm : Option ℕ) → Entry → Reply → EngineState → Type 0
EnteringGives old comm x (replies.Refused why back) new = IsRefused old (calls.Enter comm x) why back new
EnteringGives old comm x reply new = IsEntered old comm x reply new

-- a question is answered, or refused
abbrev pub AskingGives : EngineState → (comm : Option ℕ) → Question → Reply → EngineState → Type 0
AskingGives old comm q (replies.Refused why back) new = IsRefused old (calls.Ask comm q) why back new
AskingGives old comm q (replies.Fact fact) new = IsTold old comm q fact new
AskingGives old comm q _ new = ⊥

-- a probe that takes nothing out is answered, or refused
abbrev pub LookingGives : EngineState → Probe → Reply → EngineState → Type 0
LookingGives old p (replies.Refused why back) new = IsRefused old (calls.Iprobe p) why back new
LookingGives old p (replies.Probed found) new = IsLooked old p found new
LookingGives old p _ new = ⊥

-- a call of point to point, or on requests, is answered or refused
abbrev pub CoreGives : EngineState → Call → Reply → EngineState → Type 0
CoreGives old call (replies.Refused why back) new = IsRefused old call why back new
CoreGives old call reply new = IsAnswered old call reply new

-- a call is answered or refused
abbrev pub CallGives : EngineState → Call → Reply → EngineState → Type 0
CallGives old (calls.Isend s) reply new = CoreGives old (calls.Isend s) reply new
CallGives old (calls.Irecv v) reply new = CoreGives old (calls.Irecv v) reply new
CallGives old (calls.Wait q) reply new = CoreGives old (calls.Wait q) reply new
CallGives old (calls.Test q) reply new = CoreGives old (calls.Test q) reply new
CallGives old (calls.Waitany qs) reply new = CoreGives old (calls.Waitany qs) reply new
CallGives old (calls.Waitall qs) reply new = CoreGives old (calls.Waitall qs) reply new
CallGives old (calls.Cancel q) reply new = CoreGives old (calls.Cancel q) reply new
CallGives old (calls.Enter comm x) reply new = EnteringGives old comm x reply new
CallGives old (calls.Ask comm q) reply new = AskingGives old comm q reply new
CallGives old (calls.Iprobe p) reply new = LookingGives old p reply new
CallGives old (calls.Improbe p) reply new = CoreGives old (calls.Improbe p) reply new
CallGives old (calls.Mrecv message into) reply new = CoreGives old (calls.Mrecv message into) reply new

-- the call was taken: its reply is no refusal
abbrev pub IsTaken : Reply → Type 0
IsTaken (replies.Refused why back) = ⊥
IsTaken (replies.Started r) = Unit {0}
IsTaken (replies.Done a) = Unit {0}
IsTaken replies.Pending = Unit {0}
IsTaken replies.Accepted = Unit {0}
IsTaken replies.Blocked = Unit {0}
IsTaken (replies.Left o) = Unit {0}
IsTaken (replies.Fact f) = Unit {0}
IsTaken (replies.Probed found) = Unit {0}
IsTaken (replies.Matched found) = Unit {0}

-- a refused call leaves the engine as it was
abbrev pub RefusedLeaves : Reply → EngineState → EngineState → Type 0
RefusedLeaves (replies.Refused e back) old new = new ≡ old
RefusedLeaves (replies.Started r) old new = Unit {0}
RefusedLeaves (replies.Done o) old new = Unit {0}
RefusedLeaves replies.Pending old new = Unit {0}
RefusedLeaves replies.Accepted old new = Unit {0}
RefusedLeaves replies.Blocked old new = Unit {0}
RefusedLeaves (replies.Left o) old new = Unit {0}
RefusedLeaves (replies.Fact f) old new = Unit {0}
RefusedLeaves (replies.Probed found) old new = Unit {0}
RefusedLeaves (replies.Matched found) old new = Unit {0}
