-- A runner of a script, its calls and replies, where in place of each request, and of each message, stands another one.
use Rattle.std.specs.Prelude.{List, [], ◌∷◌, map, Option, Some, None, option_map}
use Rattle.engine_calls.specs.declared.call.Call.{Call}
use Rattle.engine_calls.specs.declared.call.Call.TheVariants as calls
use Rattle.engine_calls.specs.declared.reply.Reply.{Reply}
use Rattle.engine_calls.specs.declared.reply.Reply.TheVariants as replies
use Rattle.interpreter.specs.NamesState.{NamesState}
use Rattle.interpreter.specs.declared.steps.NextStep.{NextStep}
use Rattle.interpreter.specs.declared.steps.NextStep.TheVariants as nexts
use Rattle.script_calls.specs.Tables.{Entry}
use Rattle.event_loop.specs.declared.runner.RunnerStep.{RunnerStep}
use Rattle.event_loop.specs.declared.runner.RunnerStep.TheVariants as steps
use Rattle.script_runner.specs.ScriptRanks.{RankState}
use Rattle.requests.specs.declared.table.Request.{Request}
use Rattle.script_runner.specs.ScriptSteps.{Does, ScriptState}
use Rattle.script_calls.specs.declared.pending.NamedRequest.{NamedRequest}
use Rattle.script_calls.specs.declared.pending.NamedMessage.{NamedMessage}
use Rattle.script_calls.specs.declared.pending.NamedMessage.TheVariants as messages
use Rattle.vocabulary.specs.declared.envelope.Status.{Status}

abbrev pub changed_requests : (Request → Request) → List (Option Request) → List (Option Request)
changed_requests change [] = []
changed_requests change (q ∷ qs) = option_map change q ∷ changed_requests change qs

abbrev pub changed_call : (Request → Request) → Call → Call
changed_call change (calls.Isend s) = calls.Isend s
changed_call change (calls.Irecv v) = calls.Irecv v
changed_call change (calls.Wait q) = calls.Wait (option_map change q)
changed_call change (calls.Test q) = calls.Test (option_map change q)
changed_call change (calls.Waitany qs) = calls.Waitany (changed_requests change qs)
changed_call change (calls.Waitall qs) = calls.Waitall (changed_requests change qs)
changed_call change (calls.Cancel q) = calls.Cancel (option_map change q)
changed_call change (calls.Enter comm x) = calls.Enter comm x
changed_call change (calls.Ask comm q) = calls.Ask comm q
changed_call change (calls.Iprobe p) = calls.Iprobe p
changed_call change (calls.Improbe p) = calls.Improbe p
changed_call change (calls.Mrecv q into) = calls.Mrecv (option_map change q) into

-- what comes next of a statement
abbrev pub changed_next : (Request → Request) → NextStep → NextStep
changed_next change nexts.Nothing = nexts.Nothing
changed_next change (nexts.Call made) =
    nexts.Call (record { call = changed_call change made.call; pending = made.pending })
changed_next change (nexts.Told told) = nexts.Told told

-- what a matching probe found
abbrev pub changed_found : (Request → Request) → Option (Option Request × Status) → Option (Option Request × Status)
changed_found change None = None
changed_found change (Some found) = Some (option_map change found.0, found.1)

abbrev pub changed_reply : (Request → Request) → Reply → Reply
changed_reply change (replies.Started q) = replies.Started (change q)
changed_reply change (replies.Done a) = replies.Done a
changed_reply change replies.Pending = replies.Pending
changed_reply change replies.Accepted = replies.Accepted
changed_reply change replies.Blocked = replies.Blocked
changed_reply change (replies.Left o) = replies.Left o
changed_reply change (replies.Fact f) = replies.Fact f
changed_reply change (replies.Probed found) = replies.Probed found
changed_reply change (replies.Matched found) = replies.Matched (changed_found change found)
changed_reply change (replies.Refused why call) = replies.Refused why (changed_call change call)

abbrev pub changed_step : (Request → Request) → RunnerStep → RunnerStep
changed_step change (steps.Call call) = steps.Call (changed_call change call)
changed_step change (steps.Print line) = steps.Print line
changed_step change (steps.End status line) = steps.End status line

-- what a name of a request stands for, and what one of a message does
abbrev pub changed_held : (Request → Request) → NamedRequest → NamedRequest
changed_held change h = record { request = option_map change h.request; buffer = h.buffer }

abbrev pub changed_message : (Request → Request) → NamedMessage → NamedMessage
changed_message change (messages.TakenOut message) = messages.TakenOut (option_map change message)
changed_message change messages.Ended = messages.Ended

-- entries whose values are changed so
abbrev pub changed_entry : {V : Type 0} → (V → V) → Entry V → Entry V
changed_entry f e = record { name = e.name; value = f e.value }

abbrev pub changed_names : (Request → Request) → NamesState → NamesState
changed_names change s =
    record s {
      requests = map (changed_entry (changed_held change)) s.requests;
      messages =
          map (changed_entry (changed_message change)) s.messages;
    }

abbrev pub changed_rank : (Request → Request) → RankState → RankState
changed_rank change s = record { names = changed_names change s.names; pending = s.pending }

abbrev pub changed_state : (Request → Request) → ScriptState → ScriptState
changed_state change s = record { lines = s.lines; rank = changed_rank change s.rank }

abbrev pub changed_does : (Request → Request) → Does → Does
changed_does change d = (changed_step change d.0, changed_state change d.1)
