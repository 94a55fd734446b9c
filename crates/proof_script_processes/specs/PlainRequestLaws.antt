-- Laws of runners with other requests in place of those that they have.
use Rattle.std.specs.Prelude.{◌≡◌, Option, option_map}
use Rattle.engine_calls.specs.declared.reply.Reply.{Reply}
use Rattle.requests.specs.declared.table.Request.{Request}
use Rattle.script_runner.specs.ScriptSteps.{ScriptState, next_of}
use Rattle.proof_script_processes.specs.RequestChanges.{changed_does, changed_reply, changed_state}
use Rattle.proof_script_processes.specs.PlainRequests.{plain_does, plain_reply, plain_state}

-- A runner looks into no request: whatever others stand in place of those that it has and is told, what comes next is
-- the same with these
abbrev pub RequestsAreHandedOn : Type 0
RequestsAreHandedOn =
    (change : Request → Request) (s : ScriptState) (reply : Option Reply) →
    next_of (changed_state change s) (option_map (changed_reply change) reply) ≡
    changed_does change (next_of s reply)

-- so what comes next is the same but for keys, where the state and the reply are the same but for keys
abbrev pub KeysAreNoMatter : Type 0
KeysAreNoMatter = (s : ScriptState) (reply : Option Reply) → next_of (plain_state s) (option_map plain_reply reply) ≡
    plain_does (next_of s reply)
