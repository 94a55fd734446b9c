-- Which answers give a request.
use Rattle.std.specs.Prelude.{◌==◌, Bool, false, Option, Some, None}
use Rattle.engine_calls.specs.declared.reply.Reply.{Reply}
use Rattle.engine_calls.specs.declared.reply.Reply.TheVariants as replies
use Rattle.requests.specs.declared.table.Request.{Request}

-- an answer gives this request, or this message that was taken out
abbrev pub names : Option Reply → Request → Bool
names None request = false
names (Some (replies.Started started)) request = started.serial == request.serial
names (Some (replies.Matched (Some (Some message, status)))) request = message.serial == request.serial
names reply request = false
