-- That a runner follows its script's process: what a play needs of runners.
use Rattle.std.specs.Prelude.{◌≡◌, ℕ, List, Option, Some, None}
use Rattle.engine_calls.specs.declared.call.Call.{Call}
use Rattle.engine_calls.specs.declared.reply.Reply.{Reply}
use Rattle.one_meaning.specs.Courses.{Told}
use Rattle.event_loop.specs.declared.runner.RunnerStep.{RunnerStep}
use Rattle.event_loop.specs.declared.runner.RunnerStep.TheVariants as steps
use Rattle.script_files.specs.declared.script.ScriptLine.{ScriptLine}
use Rattle.script_runner.specs.ScriptSteps.{NextGives, ScriptState, next_of, opening}
use Rattle.proof_script_processes.specs.PlainRequests.{plain_call, plain_does}
use Rattle.proof_script_processes.specs.ReplyViews.{IsReplyTo, told_of}
use Rattle.proof_script_processes.specs.Processes.{Running, next_by, next_in_script, running_at_start, script_at}
use Rattle.proof_script_processes.specs.Processes.{step_seen}

-- A runner that is told a reply, or nothing, and a process that is told what the machine tells, or nothing, do the same
-- next but for keys
abbrev pub Follows : ScriptState → Option Reply → Running → Option Told → Type 0
Follows s reply p t = next_by p.state p.last t ≡ plain_does (next_of s reply)

-- so it is at the start
abbrev pub StartsFollow : Type 0
StartsFollow = (scripts : List (List ScriptLine)) (r : ℕ) →
    Follows (opening (script_at scripts r) r 0) None (running_at_start scripts r) None

-- a runner's step is its process's; and so it goes on, whether nothing is told then, or the reply to the call that the
-- step was
pub record GoesAlong (s : ScriptState) (step : RunnerStep) (p : Running) (t : Option Told) : Type 0 where
  pub does : (next_in_script p t).0 ≡ step_seen step
  pub untold : Follows s None (next_in_script p t).1 None
  pub told :
      (call : Call) (reply : Reply) → step ≡ steps.Call call → IsReplyTo (plain_call call) reply →
      Follows s (Some reply) (next_in_script p t).1 (Some (told_of reply))

-- and so it stays, but where a runner ends with 6
abbrev pub RunnersFollow : Type 0
RunnersFollow =
    (old new : ScriptState) (reply : Option Reply) (step : RunnerStep) (p : Running) (t : Option Told) →
    Follows old reply p t → NextGives old reply step new →
    (step ≡ steps.End 6 None → ⊥) → GoesAlong new step p t
