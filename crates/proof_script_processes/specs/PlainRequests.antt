-- What is left of a runner of a script, its calls and replies where requests and messages are known by their serials
-- alone: which key one has in its rank's table is no matter of the machine.
use Rattle.std.specs.Prelude.{List, Option}
use Rattle.engine_calls.specs.declared.call.Call.{Call}
use Rattle.engine_calls.specs.declared.reply.Reply.{Reply}
use Rattle.event_loop.specs.declared.runner.RunnerStep.{RunnerStep}
use Rattle.requests.specs.declared.table.Request.{Request}
use Rattle.script_runner.specs.ScriptSteps.{Does, ScriptState}
use Rattle.script_calls.specs.declared.pending.NamedRequest.{NamedRequest}
use Rattle.script_calls.specs.declared.pending.NamedMessage.{NamedMessage}
use Rattle.vocabulary.specs.declared.envelope.Status.{Status}
use Rattle.proof_script_processes.specs.RequestChanges.{changed_call, changed_does, changed_found, changed_held}
use Rattle.proof_script_processes.specs.RequestChanges.{changed_message, changed_reply, changed_requests, changed_state}
use Rattle.proof_script_processes.specs.RequestChanges.{changed_step}

-- a request by its serial alone
abbrev pub plain_request : Request → Request
plain_request q = record { key = 0; serial = q.serial }

abbrev pub plain_requests : List (Option Request) → List (Option Request)
plain_requests qs = changed_requests plain_request qs

abbrev pub plain_call : Call → Call
plain_call call = changed_call plain_request call

abbrev pub plain_found : Option (Option Request × Status) → Option (Option Request × Status)
plain_found found = changed_found plain_request found

abbrev pub plain_reply : Reply → Reply
plain_reply reply = changed_reply plain_request reply

abbrev pub plain_step : RunnerStep → RunnerStep
plain_step step = changed_step plain_request step

abbrev pub plain_held : NamedRequest → NamedRequest
plain_held h = changed_held plain_request h

abbrev pub plain_message : NamedMessage → NamedMessage
plain_message m = changed_message plain_request m

abbrev pub plain_state : ScriptState → ScriptState
plain_state s = changed_state plain_request s

abbrev pub plain_does : Does → Does
plain_does d = changed_does plain_request d
