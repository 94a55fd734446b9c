-- A blocked call's answer as the reply to it, and copies of replies.
use Rattle.std.specs.Prelude.{◌≡◌}
use Rattle.engine_calls.specs.declared.reply.Completion.{Completion}
use Rattle.engine_calls.specs.declared.reply.Completion.TheVariants as completions
use Rattle.engine_calls.specs.declared.reply.Fact.{Fact}
use Rattle.engine_calls.specs.declared.reply.Fact.TheVariants as facts
use Rattle.engine_calls.specs.declared.reply.Reply.{Reply}
use Rattle.engine_calls.specs.declared.reply.Reply.TheVariants as replies

-- the answer of a blocked call is told as that of one that ends at once
abbrev pub reply_of : Completion → Reply
reply_of (completions.Requests answer) = replies.Done answer
reply_of (completions.Collective ending) = replies.Left ending

-- a copy of an answer to a question: a list of ranks is the same list, elsewhere in memory
abbrev pub IsCopyOfFact : Fact → Fact → Type 0
IsCopyOfFact (facts.Ranks ranks) (facts.Ranks copy) = copy.items ≡ ranks.items
IsCopyOfFact fact copy = copy ≡ fact

-- a copy of a reply
abbrev pub IsCopyOf : Reply → Reply → Type 0
IsCopyOf (replies.Fact fact) (replies.Fact copy) = IsCopyOfFact fact copy
IsCopyOf reply copy = copy ≡ reply
