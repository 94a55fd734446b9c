-- The texts of answers and of datagrams that went out.
use Rattle.std.specs.Prelude.{ℕ, List, [], ◌∷◌, ◌++◌, codes, Option, Some, None}
use Rattle.std.specs.List.{flat_map}
use Rattle.std.specs.Fmt.{decimal}
use Rattle.vocabulary.specs.declared.endpoint.Endpoint.{Endpoint}
use Rattle.vocabulary.specs.declared.envelope.Source.{Source}
use Rattle.vocabulary.specs.declared.envelope.Source.TheVariants as sources
use Rattle.vocabulary.specs.declared.envelope.Status.{Status}
use Rattle.datatypes.specs.Contents.{Contents}
use Rattle.float_texts.specs.Texts.{value_text}
use Rattle.printed_lines.specs.CommunicatorTexts.{communicator_text, comparison_text, members_text, position_text}
use Rattle.printed_lines.specs.declared.outcomes.OutcomeText.{OutcomeText}
use Rattle.printed_lines.specs.declared.outcomes.OutcomeText.TheVariants as outcomes
use Rattle.printed_lines.specs.declared.answers.AnswerText.{AnswerText}
use Rattle.printed_lines.specs.declared.answers.AnswerText.TheVariants as answers
use Rattle.printed_lines.specs.declared.emissions.FrameKind.{FrameKind}
use Rattle.printed_lines.specs.declared.emissions.FrameKind.TheVariants as kinds
use Rattle.printed_lines.specs.declared.emissions.RouteText.{RouteText}
use Rattle.printed_lines.specs.declared.emissions.LoadText.{LoadText}
use Rattle.printed_lines.specs.declared.emissions.EmissionText.{EmissionText}

-- a wildcard is `any`, the null process `null`
abbrev pub source_text : Source → List ℕ
source_text sources.Any = codes "any"
source_text sources.Null = codes "null"
source_text (sources.Rank rank) = decimal rank

-- a wildcard is `any`
abbrev pub tag_text : Option ℕ → List ℕ
tag_text None = codes "any"
tag_text (Some tag) = decimal tag

-- `source S tag T count C`
abbrev pub status_text : Status → List ℕ
status_text s = codes "source " ++ source_text s.source ++ codes " tag " ++ tag_text s.tag ++ codes " count " ++
    decimal s.count

-- the number of a message that was taken out; that of the null process has none
abbrev pub serial_text : Option ℕ → List ℕ
serial_text None = codes "null"
serial_text (Some serial) = decimal serial

-- `message M source S tag T count C`
abbrev pub message_text : Option ℕ → Status → List ℕ
message_text serial s = codes "message " ++ serial_text serial ++ codes " " ++ status_text s

-- a space and its value for each element
abbrev pub elements_text : Contents → List ℕ
elements_text buffer = flat_map (λ number. codes " " ++ value_text buffer.basic number) buffer.values

-- a number of copies, or none
abbrev pub count_text : Option ℕ → List ℕ
count_text None = codes "undefined"
count_text (Some copies) = decimal copies

-- `STATUS data` and the elements
abbrev pub received_text : Status → Contents → List ℕ
received_text status buffer = status_text status ++ codes " data" ++ elements_text buffer

-- how an operation ended
abbrev pub outcome_text : OutcomeText → List ℕ
outcome_text outcomes.Sent = codes "sent"
outcome_text (outcomes.Received status buffer) = status_text status ++ codes " data" ++ elements_text buffer.now
outcome_text (outcomes.Ended number status buffer) = codes "error " ++ decimal number ++ codes " " ++
    status_text status ++ codes " data" ++ elements_text buffer.now
outcome_text (outcomes.Lost buffer) = codes "error 11 data" ++ elements_text buffer.now
outcome_text (outcomes.Cancelled buffer) = codes "cancelled data" ++ elements_text buffer.now
outcome_text (outcomes.Failed number) = codes "error " ++ decimal number
outcome_text outcomes.Null = codes "source any tag any count 0"

-- `; ` and the text, for each
abbrev pub further_text : List OutcomeText → List ℕ
further_text ended = flat_map (λ outcome. codes "; " ++ outcome_text outcome) ended

-- the texts, `; ` between two, or `done`
abbrev pub outcomes_text : List OutcomeText → List ℕ
outcomes_text [] = codes "done"
outcomes_text (outcome ∷ ended) = outcome_text outcome ++ further_text ended

-- what a call or an event answers
abbrev pub answer_text : AnswerText → List ℕ
answer_text (answers.Started serial) = codes "request " ++ decimal serial
answer_text answers.Blocked = codes "blocked"
answer_text (answers.Refused number) = codes "refused " ++ decimal number
answer_text (answers.One outcome) = outcome_text outcome
answer_text (answers.Index place outcome) = codes "index " ++ decimal place ++ codes " " ++ outcome_text outcome
answer_text answers.IndexUndefined = codes "index undefined"
answer_text (answers.All ended) = outcomes_text ended.now
answer_text (answers.Data buffer) = codes "data" ++ elements_text buffer.now
answer_text (answers.Communicator communicator) = communicator_text communicator.place
answer_text (answers.Position position) = position_text position.rank position.size
answer_text (answers.Members members) = members_text members.ranks.now
answer_text (answers.Comparison comparison) = comparison_text comparison
answer_text (answers.Probed status) = status_text status.status
answer_text (answers.Matched message) = message_text message.serial message.status
answer_text answers.Nothing = codes "none"
answer_text answers.Pending = codes "pending"
answer_text answers.Done = codes "done"
answer_text answers.Taken = codes "ok"

-- `S.I`
abbrev pub endpoint_text : Endpoint → List ℕ
endpoint_text e = decimal e.rank ++ codes "." ++ decimal e.incarnation

abbrev pub kind_text : FrameKind → List ℕ
kind_text kinds.Eager = codes "EAGER"
kind_text kinds.Rts = codes "RTS"
kind_text kinds.Cts = codes "CTS"
kind_text kinds.Data = codes "DATA"
kind_text kinds.Ack = codes "ACK"
kind_text kinds.Reset = codes "RESET"

-- `S.I>T.J`
abbrev pub route_text : RouteText → List ℕ
route_text r = endpoint_text r.source ++ codes ">" ++ endpoint_text r.target

-- `KIND SEQ`
abbrev pub load_text : LoadText → List ℕ
load_text l = kind_text l.kind ++ codes " " ++ decimal l.sequence

-- `+D S.I>T.J KIND SEQ`
abbrev pub emission_text : EmissionText → List ℕ
emission_text e = codes "+" ++ decimal e.datagram ++ codes " " ++ route_text e.route ++ codes " " ++ load_text e.load
