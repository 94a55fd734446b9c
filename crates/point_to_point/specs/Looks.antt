-- What looks tell of messages, which change nothing.
use Rattle.std.specs.Prelude.{ℕ, Option, option_map}
use Rattle.vocabulary.specs.declared.basic_type.BasicType.{BasicType}
use Rattle.vocabulary.specs.declared.envelope.Source.{Source}
use Rattle.match_queues.specs.Bodies.{basic_of}
use Rattle.requests.specs.declared.table.Request.{Request}
use Rattle.requests.specs.Table.{message_in, progress_at}
use Rattle.point_to_point.specs.CoreState.{CoreState}
use Rattle.point_to_point.specs.Messages.{found_for}

-- the basic type of the message that such a receive would take now, if there is one
abbrev pub type_found : CoreState → Source → (tag : Option ℕ) → (context : ℕ) → Option BasicType
type_found c source tag context = option_map (λ m. basic_of m.body) (found_for c source tag context)

-- the basic type of a message that was taken out, and whose sender's rank wasn't started anew
abbrev pub type_taken_out : CoreState → Request → Option BasicType
type_taken_out c q = option_map (λ m. basic_of m.body) (message_in (progress_at c.slots q.key q.serial))
