-- Scripts as processes of the machine.
use Rattle.std.specs.Prelude.{ℕ, ◌*◌, ◌+◌, ◌==◌, length, List, [], ◌∷◌, map, Option, Some, None, if◌then◌else◌}
use Rattle.std.specs.Prelude.{option_map}
use Rattle.std.specs.List.{AllByRecursion}
use Rattle.printed_lines.specs.CommunicatorTexts.{members_text}
use Rattle.collective_steps.specs.declared.step.Ending as steps_ending
use Rattle.collective_steps.specs.declared.step.Ending.TheVariants as endings
use Rattle.communicators.specs.declared.question.CommunicatorComparison as code
use Rattle.communicators.specs.declared.question.CommunicatorComparison.TheVariants as comparisons
use Rattle.engine_calls.specs.declared.call.Call.{Call}
use Rattle.engine_calls.specs.declared.reply.Fact as engine_facts
use Rattle.engine_calls.specs.declared.reply.Fact.TheVariants as facts
use Rattle.engine_calls.specs.declared.reply.Reply.{Reply}
use Rattle.engine_calls.specs.declared.reply.Reply.TheVariants as replies
use Rattle.interpreter.specs.NamesState.{NamesState}
use Rattle.one_meaning.specs.Courses.{Calls, Ends, Prints, Process, Refused, Replied, Step, Told}
use Rattle.perfect_groups.specs.Calls as machine
use Rattle.perfect_groups.specs.Membership as membership
use Rattle.perfect_queues.specs.Calls as queues
use Rattle.perfect_queues.specs.Completions as completions
use Rattle.perfect_queues.specs.Outcomes as outcomes_of
use Rattle.observation.specs.EngineCalls.{call_seen}
use Rattle.proof_one_meaning.specs.AccountViews.{IsNotAny}
use Rattle.point_to_point_calls.specs.declared.refusal.Refusal as lower
use Rattle.point_to_point_calls.specs.declared.refusal.Refusal.TheVariants as lowers
use Rattle.event_loop.specs.declared.runner.RunnerStep as runner
use Rattle.event_loop.specs.declared.runner.RunnerStep.TheVariants as steps
use Rattle.script_runner.specs.ScriptRanks.{Acts, goes_on, prints}
use Rattle.requests.specs.declared.answer.Answer.TheVariants as answers
use Rattle.requests.specs.declared.outcome.Failure.TheVariants as failures
use Rattle.requests.specs.declared.outcome.Outcome as engine_outcomes
use Rattle.requests.specs.declared.outcome.Outcome.TheVariants as outcomes
use Rattle.requests.specs.declared.table.Request.{Request}
use Rattle.script_files.specs.declared.script.ScriptLine.{ScriptLine}
use Rattle.script_files.specs.declared.script.RankLine.{RankLine}
use Rattle.script_files.specs.declared.script.ScriptStatement.{ScriptStatement}
use Rattle.script_files.specs.declared.script.ScriptStatement.TheVariants as statements
use Rattle.script_runner.specs.ScriptSteps.{Does, ScriptState, does_after, next_of, opening}
use Rattle.script_calls.specs.declared.pending.Pending.{Pending}
use Rattle.script_calls.specs.declared.pending.Pending.TheVariants as pendings
use Rattle.statements.specs.declared.action.Action.{Action}
use Rattle.statements.specs.declared.action.Action.TheVariants as actions
use Rattle.vocabulary.specs.declared.envelope.Status.{Status}
use Rattle.proof_script_processes.specs.PlainRequests.{plain_state}

-- ---- what a runner is told, by what the machine tells

abbrev pub outcome_for : outcomes_of.Outcome → engine_outcomes.Outcome
outcome_for outcomes_of.Sent = outcomes.Sent
outcome_for (outcomes_of.Received status buffer) = outcomes.Received status buffer
outcome_for (outcomes_of.Ended number status buffer) =
    outcomes.Ended (if number == 2 then failures.WrongType else failures.Truncated) status buffer
outcome_for (outcomes_of.Replaced buffer) = outcomes.Replaced buffer
outcome_for (outcomes_of.Cancelled buffer) = outcomes.Cancelled buffer
outcome_for outcomes_of.Empty = outcomes.Empty

-- a request with this serial, which has no key
abbrev pub request_for : (serial : ℕ) → Request
request_for k = record { key = 0; serial = k }

-- what a matching probe found
abbrev pub found_for : Option (Option ℕ × Status) → Option (Option Request × Status)
found_for None = None
found_for (Some found) = Some (option_map request_for found.0, found.1)

-- what completes a call, as a runner gets it
abbrev pub done_for : completions.Answer → Reply
done_for (completions.ForOne o) = replies.Done (answers.One (outcome_for o))
done_for (completions.ForAny None) = replies.Done answers.IndexUndefined
done_for (completions.ForAny (Some t)) = replies.Done (answers.Index t.0 (outcome_for t.1))
done_for (completions.ForAll os) = replies.Done (answers.All (map outcome_for os))
done_for (completions.ForProbe found) = replies.Probed found
done_for (completions.ForMatch found) = replies.Matched (found_for found)

abbrev pub ending_for : membership.Ending → steps_ending.Ending
ending_for (membership.Left buffer) = endings.Left buffer
ending_for (membership.Comm place) = endings.Comm place
ending_for (membership.Failed number) = if number == 11 then endings.Replaced else endings.Mismatch

abbrev pub comparison_for : machine.Comparison → code.CommunicatorComparison
comparison_for machine.Ident = comparisons.Ident
comparison_for machine.Congruent = comparisons.Congruent
comparison_for machine.Similar = comparisons.Similar
comparison_for machine.Unequal = comparisons.Unequal

-- the rule of datagrams or ticks with a number
abbrev pub event_refusal_for : ℕ → lower.Refusal
event_refusal_for n =
    if n == 21 then lowers.Short else
    (if n == 22 then lowers.Magic else (if n == 23 then lowers.Version else (if n == 24 then lowers.Kind else
    (if n == 25 then lowers.Length else
    (if n == 26 then lowers.ForeignJob else
    (if n == 27 then lowers.NotForMe else (if n == 28 then lowers.StaleSource else
    (if n == 29 then lowers.StaleTarget else
    (if n == 30 then lowers.BadFrame else (if n == 31 then lowers.OutOfWindow else lowers.ClockBack))))))))))

-- the rule with a number
abbrev pub refusal_for : ℕ → lower.Refusal
refusal_for n =
    if n == 6 then lowers.Request else
    (if n == 4 then lowers.Communicator else (if n == 2 then lowers.WrongType else (if n == 1 then lowers.Count else
    (if n == 3 then lowers.Tag else
    (if n == 5 then lowers.Rank else (if n == 7 then lowers.Root else (if n == 9 then lowers.Operation else
    (if n == 11 then lowers.Replaced else
    (if n == 13 then lowers.Limit else (if n == 14 then lowers.OutOfMemory else event_refusal_for n))))))))))

-- (a list of ranks is told apart, below: a list in memory isn't made in a definition)
abbrev pub fact_for : machine.Fact → engine_facts.Fact
fact_for (machine.Number n) = facts.Number n
fact_for (machine.Ranks ranks) = facts.Number 0
fact_for (machine.Compares c) = facts.Compares (comparison_for c)

-- a reply as a runner gets it, with a request that has no key; a refused call comes back
abbrev pub reply_for : Call → Told → Reply
reply_for call (Refused number) = replies.Refused (refusal_for number) call
reply_for call (Replied (machine.OfRequests (queues.Started k))) = replies.Started (request_for k)
reply_for call (Replied (machine.OfRequests (queues.Done a))) = done_for a
reply_for call (Replied (machine.OfRequests queues.Pending)) = replies.Pending
reply_for call (Replied (machine.OfRequests queues.Accepted)) = replies.Accepted
reply_for call (Replied (machine.OfRequests queues.Blocked)) = replies.Blocked
reply_for call (Replied (machine.OfCollective o)) = replies.Left (ending_for o)
reply_for call (Replied (machine.OfFact f)) = replies.Fact (fact_for f)

-- ---- a script as a process

-- A runner between two steps, with the call that it made last, if that was its last step
pub record Running : Type 0 where
  pub state : ScriptState
  pub last : Option Call

-- what it does, as the machine sees it
abbrev pub step_seen : runner.RunnerStep → Step
step_seen (steps.Call call) = Calls (call_seen call)
step_seen (steps.Print line) = Prints line
step_seen (steps.End status line) = Ends status

abbrev pub call_in : runner.RunnerStep → Option Call
call_in (steps.Call call) = Some call
call_in (steps.Print line) = None
call_in (steps.End status line) = None

-- what follows from a list of ranks, where an answer is awaited: it is printed
abbrev pub tells_ranks : Option Pending → List ℕ → NamesState → Acts
tells_ranks None ranks names = goes_on names
tells_ranks (Some pending) ranks names = prints (members_text ranks) names

-- what comes next, by what is told of the last call
abbrev pub next_told : ScriptState → Call → Told → Does
next_told s call (Replied (machine.OfFact (machine.Ranks ranks))) =
    does_after s.lines (tells_ranks s.rank.pending ranks s.rank.names)
next_told s call t = next_of s (Some (reply_for call t))

-- what comes next; nothing is told where the last step was no call
abbrev pub next_by : ScriptState → Option Call → Option Told → Does
next_by s None t = next_of s None
next_by s (Some call) None = next_of s None
next_by s (Some call) (Some t) = next_told s call t

abbrev pub goes_to : Does → Step × Running
goes_to d = (step_seen d.0, record { state = plain_state d.1; last = call_in d.0 })

-- A SCRIPT'S PROCESS
abbrev pub next_in_script : Process Running
next_in_script p t = goes_to (next_by p.state p.last t)

-- the scripts of ranks at their start; ranks without one have no lines
abbrev pub script_at : List (List ScriptLine) → (rank : ℕ) → List ScriptLine
script_at [] r = []
script_at (s ∷ scripts) ℕ.zero = s
script_at (s ∷ scripts) (ℕ.suc r) = script_at scripts r

abbrev pub running_at_start : List (List ScriptLine) → (rank : ℕ) → Running
running_at_start scripts r = record { state = opening (script_at scripts r) r 0; last = None }

-- ---- which scripts have one meaning

-- No receive from any rank, no test, no cancel, no wait for any of several, no synchronous send, no probe and no
-- receive of a message that was taken out
abbrev pub IsCoveredAction : Action → Type 0
IsCoveredAction (actions.Issend name x) = ⊥
IsCoveredAction (actions.Irecv name x) = IsNotAny x.source
IsCoveredAction (actions.Iprobe x) = ⊥
IsCoveredAction (actions.Improbe name x) = ⊥
IsCoveredAction (actions.Mrecv name x) = ⊥
IsCoveredAction (actions.Test r) = ⊥
IsCoveredAction (actions.Cancel r) = ⊥
IsCoveredAction (actions.Waitany rs) = ⊥
IsCoveredAction _ = Unit {0}

abbrev pub IsCoveredStatement : ScriptStatement → Type 0
IsCoveredStatement (statements.Action a) = IsCoveredAction a
IsCoveredStatement (statements.Recv x) = IsNotAny x.source
IsCoveredStatement _ = Unit {0}

-- each line that is left is covered
abbrev pub AreCoveredLines : List RankLine → Type 0
AreCoveredLines lines = AllByRecursion (λ l. IsCoveredStatement l.statement) lines

abbrev pub IsCoveredRunning : Running → Type 0
IsCoveredRunning p = AreCoveredLines p.state.lines

-- ---- how many steps a script has before it at most: three for each line that is left, and so many for what follows
-- from the answer that is awaited

abbrev pub steps_for : Option Pending → ℕ
steps_for None = 0
steps_for (Some (pendings.StartingToWait buffer)) = 2
steps_for (Some (pendings.Making name)) = 2
steps_for (Some (pendings.AskingRank comm)) = 2
steps_for (Some _) = 1

abbrev pub steps_left : Running → ℕ
steps_left p = 3 * length p.state.lines + steps_for p.state.rank.pending
