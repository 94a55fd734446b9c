-- What the names of a rank of a file of events make of answers, and what follows from them.
use Rattle.std.specs.Prelude.{◌≡◌, ℕ, nat_lt, Bool, true, false, List, [], Option, Some, None, if◌then◌else◌}
use Rattle.std.specs.Prelude.{option_and_then, slice_get}
use Rattle.engine_calls.specs.declared.reply.Completion.{Completion}
use Rattle.engine_calls.specs.declared.reply.Reply.{Reply}
use Rattle.engine_calls.specs.declared.reply.Reply.TheVariants as replies
use Rattle.interpreter.specs.StatementCalls.{acts_on}
use Rattle.interpreter.specs.Answers.{Hears, hears, taken_back}
use Rattle.interpreter.specs.NamesState.{NamesState, holdings, no_names}
use Rattle.interpreter.specs.declared.steps.NextStep.{NextStep}
use Rattle.interpreter.specs.declared.steps.NextStep.TheVariants as nexts
use Rattle.interpreter.specs.declared.steps.PendingCall.{PendingCall}
use Rattle.line_diagnostics.specs.Lacks.{lack_of_action}
use Rattle.line_diagnostics.specs.declared.fault.LineFault.{LineFault}
use Rattle.script_calls.specs.declared.pending.Pending.{Pending}
use Rattle.script_calls.specs.declared.pending.Pending.TheVariants as pendings
use Rattle.simulation.specs.StepLines.{told_lines}
use Rattle.simulation.specs.declared.ranks.RankNames.{RankNames}
use Rattle.statements.specs.declared.action.Action.{Action}
use Rattle.replies.specs.Copies.{reply_of}
use Rattle.world.specs.WorldState.{WorldState}
use Rattle.world.specs.declared.event.Event.{Event}
use Rattle.world.specs.declared.event.Event.TheVariants as events
use Rattle.world.specs.declared.event.HistoryEntry.{HistoryEntry}
use Rattle.world.specs.declared.event.Stepped.{Stepped}

-- the rank, if a world of this size has it
abbrev pub own_rank : (size rank : ℕ) → Option ℕ
own_rank size rank = if nat_lt rank size then Some rank else None

-- a rank in which no name is set, and no call is blocked
abbrev pub fresh : (size rank : ℕ) → RankNames
fresh size rank = record { names = no_names (own_rank size rank); blocked = None }

-- its names stand for this now
abbrev pub with_names : RankNames → NamesState → RankNames
with_names s names = record { names = names; blocked = s.blocked }

-- ---- what is made of an answer

-- what follows from an answer: a further call of the statement, and what is told
pub record Heeded : Type 0 where
  pub next : Option PendingCall
  pub told : List (List ℕ)

abbrev pub nothing_heeded : Heeded
nothing_heeded = record { next = None; told = [] }

abbrev pub heeded : NextStep → Heeded
heeded nexts.Nothing = nothing_heeded
heeded (nexts.Call asks) = record { next = Some asks; told = [] }
heeded (nexts.Told told) = record { next = None; told = told_lines told }

-- what follows from an answer, and what its rank then stands at
abbrev pub Made : Type 0
Made = Heeded × RankNames

-- what the names of a rank make of an answer
abbrev pub made_by : Hears → (blocked : Option Pending) → Made
made_by heard blocked = (heeded heard.0, record { names = heard.1; blocked = blocked })

-- the call that was for this blocks, and its answer is yet to come
abbrev pub blocks : Pending → RankNames → Made
blocks pending s = (nothing_heeded, record { names = s.names; blocked = Some pending })

abbrev pub is_blocked : Reply → Bool
is_blocked (replies.Started request) = false
is_blocked (replies.Done answer) = false
is_blocked replies.Pending = false
is_blocked replies.Accepted = false
is_blocked replies.Blocked = true
is_blocked (replies.Left ending) = false
is_blocked (replies.Fact fact) = false
is_blocked (replies.Probed status) = false
is_blocked (replies.Matched found) = false
is_blocked (replies.Refused refused call) = false

-- what a call answered, which was for this
abbrev pub takes_reply : Pending → Reply → RankNames → Made
takes_reply pending reply s =
    if is_blocked reply then blocks pending s else made_by (hears pending reply s.names) s.blocked

abbrev pub takes_awaited : (blocked : Option Pending) → Completion → RankNames → Made
takes_awaited None completion s = (nothing_heeded, s)
takes_awaited (Some pending) completion s = made_by (hears pending (reply_of completion) s.names) None

-- what the call that was blocked answered
abbrev pub takes_completion : Completion → RankNames → Made
takes_completion completion s = takes_awaited s.blocked completion s

-- a call that was refused comes back, and a buffer that was lent to it is here again
abbrev pub takes_back : Pending → Event → NamesState → NamesState
takes_back pending (events.Call rank call) names = taken_back pending call names
takes_back pending (events.Deliver number) names = names
takes_back pending (events.Stray rank bytes) names = names
takes_back pending (events.Tick rank now) names = names
takes_back pending (events.Restart rank) names = names

-- What a call answers isn't printed by itself, where that is one question of a statement that prints one line, or none:
-- its rank and its size in a communicator, its rank in one that was made, and how a block above all limits is refused
abbrev pub is_silent : Pending → Bool
is_silent pendings.Nothing = false
is_silent (pendings.Starting name buffer) = false
is_silent (pendings.StartingToWait buffer) = false
is_silent (pendings.Waiting requested) = false
is_silent (pendings.WaitingUnnamed buffer) = false
is_silent (pendings.WaitingForSeveral several) = false
is_silent (pendings.Searching name) = false
is_silent (pendings.Receiving name buffer) = false
is_silent (pendings.Making name) = false
is_silent (pendings.Seating name place) = true
is_silent (pendings.Entering name) = false
is_silent (pendings.AskingRank comm) = true
is_silent (pendings.AskingSize rank) = true
is_silent pendings.Oversized = true

-- ---- answers in a world's history

-- what the history has of a step
abbrev pub entry_in : WorldState → Stepped → Option HistoryEntry
entry_in w added = slice_get w.history added.place

-- what a step's call replied
abbrev pub reply_in : Option HistoryEntry → Option Reply
reply_in None = None
reply_in (Some entry) = entry.reply

-- what the names make of it
abbrev pub makes_of : Pending → Option Reply → RankNames → Made
makes_of pending None s = (nothing_heeded, s)
makes_of pending (Some reply) s = takes_reply pending reply s

-- the same of the call of a step
abbrev pub made_in : WorldState → Stepped → Pending → RankNames → Made
made_in w added pending s = makes_of pending (reply_in (entry_in w added)) s

-- ---- what the functions of the program give

-- what was heard is this, and its rank stands so now
abbrev pub IsMade : Made → NextStep → RankNames → Type 0
IsMade made heard new = (heeded heard ≡ made.0) × (new ≡ made.1)

-- why a statement can't be followed, as far as memory lasts to tell
abbrev pub IsWhy : (told : Option LineFault) → (why : Option LineFault) → Type 0
IsWhy None why = Unit {0}
IsWhy (Some fault) why = why ≡ Some fault

-- a statement can't be followed by what the names stand for, for this reason
abbrev pub IsFaulty : Option LineFault → Action → NamesState → Type 0
IsFaulty fault action names = ((acts_on action names).0 ≡ None) ×
    IsWhy fault (lack_of_action (holdings names) action)
