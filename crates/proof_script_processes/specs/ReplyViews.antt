-- That a runner is told by the machine what its rank's engine tells it.
use Rattle.std.specs.Prelude.{◌≡◌, Some}
use Rattle.engine_calls.specs.Calls.{fact_said}
use Rattle.engine_calls.specs.declared.call.Call.{Call}
use Rattle.engine_calls.specs.declared.reply.Reply.{Reply}
use Rattle.engine_calls.specs.declared.reply.Reply.TheVariants as replies
use Rattle.one_meaning.specs.Courses.{Refused, Replied, Told}
use Rattle.perfect_groups.specs.Calls as machine
use Rattle.perfect_queues.specs.Calls as queues
use Rattle.perfect_queues.specs.Completions as completions
use Rattle.observation.specs.Endings.{ending_is}
use Rattle.observation.specs.CoreCalls.{answer_seen, match_seen}
use Rattle.point_to_point_calls.specs.Refusals.{number_of_refusal}
use Rattle.script_runner.specs.ScriptSteps.{ScriptState, next_of}
use Rattle.proof_script_processes.specs.PlainRequests.{plain_call, plain_reply}
use Rattle.proof_script_processes.specs.Processes.{next_told}

-- a reply as the machine tells it
abbrev pub told_of : Reply → Told
told_of (replies.Started q) = Replied (machine.OfRequests (queues.Started q.serial))
told_of (replies.Done a) = Replied (machine.OfRequests (queues.Done (answer_seen a)))
told_of replies.Pending = Replied (machine.OfRequests queues.Pending)
told_of replies.Accepted = Replied (machine.OfRequests queues.Accepted)
told_of replies.Blocked = Replied (machine.OfRequests queues.Blocked)
told_of (replies.Left o) = Replied (machine.OfCollective (ending_is o))
told_of (replies.Fact f) = Replied (machine.OfFact (fact_said f))
told_of (replies.Probed found) = Replied (machine.OfRequests (queues.Done (completions.ForProbe found)))
told_of (replies.Matched found) = Replied (machine.OfRequests (queues.Done (completions.ForMatch (match_seen found))))
told_of (replies.Refused why call) = Refused (number_of_refusal why)

-- what a reply to this call may be: a refused call comes back
abbrev pub IsReplyTo : Call → Reply → Type 0
IsReplyTo call (replies.Refused why back) = call ≡ plain_call back
IsReplyTo call _ = Unit {0}

-- A runner goes on alike, whether its engine's reply is told to it, or what the machine tells of that
abbrev pub RepliesAreHeard : Type 0
RepliesAreHeard =
    (s : ScriptState) (call : Call) (reply : Reply) → IsReplyTo call reply → next_told s call (told_of reply) ≡
    next_of s (Some (plain_reply reply))
