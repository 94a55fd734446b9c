-- What ranks of a play started, and how far it has come.
use Rattle.std.specs.Prelude.{Bool, true, false, Option, Some, None}
use Rattle.play_findings.specs.declared.started.Operation.{Operation}
use Rattle.play_findings.specs.declared.started.Standing.{Standing}
use Rattle.play_findings.specs.declared.started.Standing.TheVariants as standings
use Rattle.requests.specs.declared.outcome.Outcome.{Outcome}
use Rattle.requests.specs.declared.outcome.Outcome.TheVariants as outcomes
use Rattle.vocabulary.specs.declared.envelope.Status.{Status}

-- the status of the message that an operation took which ended so
abbrev pub taken_by : Outcome → Option Status
taken_by outcomes.Sent = None
taken_by (outcomes.Received status buffer) = Some status
taken_by (outcomes.Ended failure status buffer) = Some status
taken_by (outcomes.Replaced buffer) = None
taken_by (outcomes.Cancelled buffer) = None
taken_by outcomes.Empty = None

-- what it took, as far as that is known by now
abbrev pub known_by : Option Status → (before : Option Status) → Option Status
known_by None before = before
known_by (Some status) before = Some status

-- its rank was told how it ended
abbrev pub ended_by : Operation → Outcome → Operation
ended_by o outcome = record o { standing = standings.Ended; took = known_by (taken_by outcome) o.took }

-- it is finished, and nobody asked for that
abbrev pub finished_by : Operation → Outcome → Operation
finished_by o outcome = record o { standing = standings.Finished; took = taken_by outcome }

-- its rank was never told how it ended
abbrev pub is_left : Standing → Bool
is_left standings.Ended = false
is_left standings.Finished = true
is_left standings.Open = true
