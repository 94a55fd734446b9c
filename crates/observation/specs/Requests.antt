-- Which request a reply gives.
use Rattle.std.specs.Prelude.{Option, Some, None}
use Rattle.vocabulary.specs.declared.envelope.Status.{Status}
use Rattle.requests.specs.declared.table.Request.{Request}
use Rattle.engine_calls.specs.declared.reply.Reply.{Reply}
use Rattle.engine_calls.specs.declared.reply.Reply.TheVariants as replies

-- the message that a matching probe found; that of the null process is none
abbrev pub message_given : Option (Option Request × Status) → Option Request
message_given None = None
message_given (Some (q, status)) = q

-- the request that a reply gives, if it does: of an operation that was started, or of a message that was taken out
abbrev pub request_given : Reply → Option Request
request_given (replies.Started q) = Some q
request_given (replies.Done a) = None
request_given replies.Pending = None
request_given replies.Accepted = None
request_given (replies.Probed found) = None
request_given (replies.Matched found) = message_given found
request_given replies.Blocked = None
request_given (replies.Left o) = None
request_given (replies.Fact f) = None
request_given (replies.Refused why back) = None
