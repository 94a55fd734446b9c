-- What a function of the program gave, as the definitions see it.
use Rattle.std.specs.Prelude.{Option, Some, None, Result, Ok, Err}
use Rattle.engine_calls.specs.declared.reply.Reply.{Reply}
use Rattle.engine_calls.specs.declared.reply.Reply.TheVariants as replies
use Rattle.point_to_point_calls.specs.declared.refusal.Refusal.{Refusal}
use Rattle.world.specs.declared.one_engine.EngineOutput.{EngineOutput}
use Rattle.world.specs.declared.one_engine.Rejected.{Rejected}
use Rattle.world.specs.Steps.{Gave, Rejection}

-- what an engine gave
abbrev pub gave_in : EngineOutput → Gave
gave_in g = record { endpoint = g.endpoint; out = g.out.items; reply = g.reply; completion = g.completion }

-- why it refused, and what it gave all the same
abbrev pub refusal_in : Rejected → Rejection
refusal_in e = record { refused = e.refused; out = e.out.items }

-- one or the other
abbrev pub gave_of : Result EngineOutput Rejected → Result Gave Rejection
gave_of (Ok g) = Ok (gave_in g)
gave_of (Err e) = Err (refusal_in e)

-- why a call was refused, if it was
abbrev pub refusal_of : Reply → Option Refusal
refusal_of (replies.Refused why back) = Some why
refusal_of (replies.Started request) = None
refusal_of (replies.Done answer) = None
refusal_of replies.Pending = None
refusal_of replies.Accepted = None
refusal_of replies.Blocked = None
refusal_of (replies.Left ending) = None
refusal_of (replies.Fact fact) = None
refusal_of (replies.Probed found) = None
refusal_of (replies.Matched found) = None
