-- The lines that a file of events prints of what calls and events answer, without their ends.
use Rattle.std.specs.Prelude.{ℕ, List, [], ◌∷◌, ◌++◌, codes, Option, Some, None, Result, Ok, Err, option_map}
use Rattle.std.specs.List.{flat_map}
use Rattle.std.specs.Fmt.{decimal}
use Rattle.vocabulary.specs.declared.envelope.Status.{Status}
use Rattle.printed_lines.specs.Answers.{elements_text, emission_text, message_text, status_text}
use Rattle.printed_lines.specs.CommunicatorTexts.{communicator_text, comparison_text, members_text}
use Rattle.printed_lines.specs.declared.communicators.ComparisonText.{ComparisonText}
use Rattle.printed_lines.specs.declared.communicators.ComparisonText.TheVariants as comparison_texts
use Rattle.printed_lines.specs.declared.emissions.EmissionText.{EmissionText}
use Rattle.printed_lines.specs.FrameKinds.{kind_of_body}
use Rattle.collective_steps.specs.declared.step.Ending.{Ending}
use Rattle.collective_steps.specs.declared.step.Ending.TheVariants as endings
use Rattle.communicators.specs.declared.question.CommunicatorComparison.{CommunicatorComparison}
use Rattle.communicators.specs.declared.question.CommunicatorComparison.TheVariants as comparisons
use Rattle.datagram.specs.ByteMeanings.{datagram_of}
use Rattle.datagram.specs.Spellings.{DatagramText}
use Rattle.datagram.specs.declared.refusal.DatagramRefusal as datagrams
use Rattle.engine_calls.specs.declared.reply.Completion.{Completion}
use Rattle.engine_calls.specs.declared.reply.Completion.TheVariants as completions
use Rattle.engine_calls.specs.declared.reply.Fact.{Fact}
use Rattle.engine_calls.specs.declared.reply.Fact.TheVariants as facts
use Rattle.engine_calls.specs.declared.reply.Reply.{Reply}
use Rattle.engine_calls.specs.declared.reply.Reply.TheVariants as replies
use Rattle.point_to_point_calls.specs.Refusals.{number_of_refusal}
use Rattle.requests.specs.Outcomes.{number_of_failure}
use Rattle.requests.specs.declared.answer.Answer.{Answer}
use Rattle.requests.specs.declared.answer.Answer.TheVariants as answers
use Rattle.requests.specs.declared.outcome.Outcome.{Outcome}
use Rattle.requests.specs.declared.outcome.Outcome.TheVariants as outcomes
use Rattle.requests.specs.declared.table.Request.{Request}

-- a refusal
abbrev pub refusal_line : ℕ → List ℕ
refusal_line number = codes "refused " ++ decimal number

-- an event that is no call was taken
abbrev pub taken_line : List ℕ
taken_line = codes "ok"

-- an error with which an operation ended
abbrev pub error_line : ℕ → List ℕ
error_line number = codes "error " ++ decimal number

-- ---- how operations end

-- how one operation ended
abbrev pub outcome_line : Outcome → List ℕ
outcome_line outcomes.Sent = codes "sent"
outcome_line (outcomes.Received status buffer) = status_text status ++ codes " data" ++ elements_text buffer
outcome_line (outcomes.Ended failure status buffer) =
    codes "error " ++ decimal (number_of_failure failure) ++ codes " " ++ status_text status ++ codes " data" ++
    elements_text buffer
outcome_line (outcomes.Replaced None) = error_line 11
outcome_line (outcomes.Replaced (Some buffer)) = codes "error 11 data" ++ elements_text buffer
outcome_line (outcomes.Cancelled buffer) = codes "cancelled data" ++ elements_text buffer
outcome_line outcomes.Empty = codes "source any tag any count 0"

-- `; ` and how it ended, for each
abbrev pub further_outcomes : List Outcome → List ℕ
further_outcomes ended = flat_map (λ outcome. codes "; " ++ outcome_line outcome) ended

-- how several ended, `; ` between two, or `done` where there is none
abbrev pub outcomes_line : List Outcome → List ℕ
outcomes_line [] = codes "done"
outcomes_line (outcome ∷ ended) = outcome_line outcome ++ further_outcomes ended

-- what a completing call answers (MPI 3.1, 3.7.3 and 3.7.5)
abbrev pub answer_line : Answer → List ℕ
answer_line (answers.One outcome) = outcome_line outcome
answer_line (answers.Index place outcome) = codes "index " ++ decimal place ++ codes " " ++ outcome_line outcome
answer_line answers.IndexUndefined = codes "index undefined"
answer_line (answers.All ended) = outcomes_line ended

-- with what a collective ended
abbrev pub ending_line : Ending → List ℕ
ending_line (endings.Left None) = codes "done"
ending_line (endings.Left (Some buffer)) = codes "data" ++ elements_text buffer
ending_line (endings.Comm place) = communicator_text place
ending_line endings.Replaced = error_line 11
ending_line endings.Mismatch = error_line 12

-- ---- what calls answer

-- how two communicators compare
abbrev pub compared : CommunicatorComparison → ComparisonText
compared comparisons.Ident = comparison_texts.Ident
compared comparisons.Congruent = comparison_texts.Congruent
compared comparisons.Similar = comparison_texts.Similar
compared comparisons.Unequal = comparison_texts.Unequal

-- what is told of a communicator; a rank or a size is told with the other one alone
abbrev pub fact_line : Fact → List ℕ
fact_line (facts.Number number) = codes "done"
fact_line (facts.Ranks ranks) = members_text ranks.items
fact_line (facts.Compares comparison) = comparison_text (compared comparison)

-- what a probe found (MPI 3.1, 3.8.1)
abbrev pub probe_line : Option Status → List ℕ
probe_line None = codes "none"
probe_line (Some status) = status_text status

-- what a matching probe took out (MPI 3.1, 3.8.2)
abbrev pub match_line : Option (Option Request × Status) → List ℕ
match_line None = codes "none"
match_line (Some (message, status)) = message_text (option_map (λ (r : Request). r.serial) message) status

-- what a call answers
abbrev pub reply_line : Reply → List ℕ
reply_line (replies.Started request) = codes "request " ++ decimal request.serial
reply_line (replies.Done answer) = answer_line answer
reply_line replies.Pending = codes "pending"
reply_line replies.Accepted = codes "done"
reply_line replies.Blocked = codes "blocked"
reply_line (replies.Left ending) = ending_line ending
reply_line (replies.Fact fact) = fact_line fact
reply_line (replies.Probed status) = probe_line status
reply_line (replies.Matched found) = match_line found
reply_line (replies.Refused refused call) = refusal_line (number_of_refusal refused)

-- what a call that was blocked answers
abbrev pub completed_line : Completion → List ℕ
completed_line (completions.Requests answer) = answer_line answer
completed_line (completions.Collective ending) = ending_line ending

-- a line with the rank that is called, and a space, before it, where one is named
abbrev pub told_line : (caller : Option ℕ) → List ℕ → List ℕ
told_line None line = line
told_line (Some rank) line = decimal rank ++ codes " " ++ line

-- what a call of this rank that was blocked answers
abbrev pub completion_line : (rank : ℕ) → Completion → List ℕ
completion_line rank completion = told_line (Some rank) (completed_line completion)

-- ---- datagrams

-- what is told of a datagram of this number: from where to where it goes, what it carries, and its sequence
abbrev pub emission_of : ℕ → DatagramText → EmissionText
emission_of number d = record {
  datagram = number;
  route = record { source = d.header.source; target = d.header.target };
  load = record { kind = kind_of_body d.body; sequence = d.header.sequence };
}

abbrev pub emission_lines : ℕ → Result DatagramText datagrams.DatagramRefusal → List (List ℕ)
emission_lines number (Ok d) = emission_text (emission_of number d) ∷ []
emission_lines number (Err fault) = []

-- the line of a datagram of this number; bytes that are none have no line
abbrev pub datagram_lines : ℕ → (bytes : List ℕ) → List (List ℕ)
datagram_lines number bytes = emission_lines number (datagram_of bytes)
