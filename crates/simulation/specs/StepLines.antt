-- The lines that a file of events prints of a step of the world.
use Rattle.std.specs.Prelude.{ℕ, ◌+◌, ◌-◌, ◌^◌, min, List, [], ◌∷◌, ◌++◌, Option, Some, None, slice_get}
use Rattle.std.specs.List.{flat_map, range_with_len}
use Rattle.printed_lines.specs.CommunicatorTexts.{position_text}
use Rattle.engine_calls.specs.declared.reply.Completion.{Completion}
use Rattle.engine_calls.specs.declared.reply.Reply.{Reply}
use Rattle.simulation.specs.Lines.{completion_line, datagram_lines, refusal_line, reply_line, taken_line}
use Rattle.interpreter.specs.declared.steps.Told.{Told}
use Rattle.interpreter.specs.declared.steps.Told.TheVariants as tolds
use Rattle.world.specs.Refusals.{number_of_refusal}
use Rattle.world.specs.WorldState.{WorldState}
use Rattle.world.specs.declared.event.HistoryEntry.{HistoryEntry}
use Rattle.world.specs.declared.event.Failed.{Failed}
use Rattle.world.specs.declared.event.Stepped.{Stepped}

-- the line of the datagram of a number, if there is one
abbrev pub lines_at : ℕ → Option (ℕ × List ℕ) → List (List ℕ)
lines_at number None = []
lines_at number (Some (rank, bytes)) = datagram_lines number bytes

-- the lines of the datagrams from this number on, below that one
abbrev pub lines_between : List (ℕ × List ℕ) → (first end : ℕ) → List (List ℕ)
lines_between datagrams first end =
    flat_map (λ number. lines_at number (slice_get datagrams number)) (range_with_len first (end - first))

-- the lines of so many datagrams, from this number on; no datagram's number is the greatest that 64 bits hold
abbrev pub emitted_lines : List (ℕ × List ℕ) → (first count : ℕ) → List (List ℕ)
emitted_lines datagrams first count = lines_between datagrams first (min (first + count) (2 ^ 64 - 1))

-- what an event answered: a call's reply, and of any other that it was taken
abbrev pub answered_line : Option Reply → List ℕ
answered_line None = taken_line
answered_line (Some reply) = reply_line reply

-- the answer of a call of this rank that was blocked, if it is ready now
abbrev pub completed_lines : (rank : ℕ) → Option Completion → List (List ℕ)
completed_lines rank None = []
completed_lines rank (Some completion) = completion_line rank completion ∷ []

-- what an event answered, then what went out, then the answer of a blocked call
abbrev pub entry_lines : HistoryEntry → (emitted : List (List ℕ)) → List (List ℕ)
entry_lines entry emitted = answered_line entry.reply ∷
    (emitted ++ completed_lines entry.endpoint.rank entry.completion)

abbrev pub entry_lines_of : Option HistoryEntry → (emitted : List (List ℕ)) → List (List ℕ)
entry_lines_of None emitted = []
entry_lines_of (Some entry) emitted = entry_lines entry emitted

-- the lines of a step that was taken, by the world behind it
abbrev pub stepped_lines : WorldState → Stepped → List (List ℕ)
stepped_lines w added =
    entry_lines_of (slice_get w.history added.place) (emitted_lines w.datagrams added.first added.count)

-- the line of a reset that went out with a refusal, if one did
abbrev pub reset_lines : WorldState → (reset : Option ℕ) → List (List ℕ)
reset_lines w None = []
reset_lines w (Some number) = emitted_lines w.datagrams number 1

-- the lines of a step that was refused
abbrev pub refused_lines : WorldState → Failed → List (List ℕ)
refused_lines w failed = refusal_line (number_of_refusal failed.refused) ∷ reset_lines w failed.reset

-- what is told of an answer, where it isn't told by its event: a rank with the size of its communicator, and an error
abbrev pub told_lines : Told → List (List ℕ)
told_lines (tolds.Error number) = refusal_line number ∷ []
told_lines (tolds.Errors errors) = []
told_lines tolds.Pending = []
told_lines tolds.NoMessage = []
told_lines (tolds.Position rank size) = position_text rank size ∷ []
told_lines (tolds.Members ranks) = []
told_lines (tolds.Comparison comparison) = []
