-- What is told of an outcome.
use Rattle.std.specs.Prelude.{ℕ, Option, Some, None}
use Rattle.vocabulary.specs.declared.envelope.Source.TheVariants as sources
use Rattle.vocabulary.specs.declared.envelope.Status.{Status}
use Rattle.requests.specs.Outcomes.{number_of_failure}
use Rattle.requests.specs.declared.outcome.Outcome.{Outcome}
use Rattle.requests.specs.declared.outcome.Outcome.TheVariants as outcomes
use Rattle.printed_lines.specs.declared.communicators.ComparisonText.{ComparisonText}
use Rattle.printed_lines.specs.declared.communicators.ComparisonText.TheVariants as texts
use Rattle.communicators.specs.declared.question.CommunicatorComparison.{CommunicatorComparison}
use Rattle.communicators.specs.declared.question.CommunicatorComparison.TheVariants as comparisons

-- the status of a null request, and of no receive at all (MPI 3.1, 3.7.3)
abbrev pub empty_status : Status
empty_status = record { source = sources.Any; tag = None; count = 0 }

-- the number of the error with which an operation ended, if it did
abbrev pub error_of : Outcome → Option ℕ
error_of outcomes.Sent = None
error_of (outcomes.Received status buffer) = None
error_of (outcomes.Ended failure status buffer) = Some (number_of_failure failure)
error_of (outcomes.Replaced buffer) = Some 11
error_of (outcomes.Cancelled buffer) = None
error_of outcomes.Empty = None

-- the status that `status` and `count` tell of from now on: that of a receive, or of the null request, without an error
abbrev pub status_after : Status → Outcome → Status
status_after last outcomes.Sent = last
status_after last (outcomes.Received status buffer) = status
status_after last (outcomes.Ended failure status buffer) = last
status_after last (outcomes.Replaced buffer) = last
status_after last (outcomes.Cancelled buffer) = last
status_after last outcomes.Empty = empty_status

-- how two communicators compare, as it is written
abbrev pub as_text : CommunicatorComparison → ComparisonText
as_text comparisons.Ident = texts.Ident
as_text comparisons.Congruent = texts.Congruent
as_text comparisons.Similar = texts.Similar
as_text comparisons.Unequal = texts.Unequal
