-- An example: rank 0 begins a receive of any source with tag 7, which is kept back, and one with tag 9; ranks 1 and 2
-- send 1 and 2 with tag 7; the first receive is named for rank 2's message, and waited for.
use Rattle.std.specs.Prelude.{ℕ, List, [], ◌∷◌, Some, None}
use Rattle.perfect_queues.specs.Calls.{Irecv, Isend}
use Rattle.perfect_queues.specs.Example.{holds, numbers, rank_0, rank_1}
use Rattle.perfect_queues.specs.Messages.{Message}
use Rattle.perfect_queues.specs.Outcomes.{Outcome, Received}
use Rattle.perfect_queues.specs.Receives.{Receive}
use Rattle.perfect_queues.specs.Refusals.{world}
use Rattle.perfect_queues.specs.State.{opening}
use Rattle.perfect_queues.specs.Steps.{Finish}
use Rattle.proof_late_posting.specs.Explored.{Ends, Goes, Happening, IsExplored, Keeps, Names, no_rows}
use Rattle.proof_late_posting.specs.Ties.{named}
use Rattle.vocabulary.specs.MessageLimits.{least}
use Rattle.vocabulary.specs.declared.basic_type.BasicType.TheVariants.{Int32}
use Rattle.vocabulary.specs.declared.endpoint.Endpoint.{Endpoint}
use Rattle.vocabulary.specs.declared.envelope.Source.TheVariants.{Any, Rank}
use Rattle.vocabulary.specs.declared.mode.Mode.TheVariants.{Standard}

abbrev pub rank_2 : Endpoint
rank_2 = record { rank = 2; incarnation = 0 }

-- a receive of one element from any source
abbrev pub of_any : (tag : ℕ) → Receive
of_any tag = record { source = Any; tag = Some tag; context = world; group = None; into = numbers (0 ∷ []) }

-- rank 2's message
abbrev pub second : Message
second = record { sender = rank_2; context = world; tag = 7; basic = Int32; values = 2 ∷ []; request = None }

abbrev pub from_2 : Outcome
from_2 = Received (record { source = Rank 2; tag = Some 7; count = 1 }) (holds (2 ∷ []))

-- the engine knows the second receive first, by its serial 0
abbrev pub second_is_taken : List Happening
second_is_taken =
    Keeps rank_0 (of_any 7) ∷
    Goes rank_0 (Some (Irecv (of_any 9))) [] ∷
    Goes rank_1 (Some (Isend Standard world (Rank 0) (Some 7) (numbers (1 ∷ [])))) [] ∷
    Goes rank_2 (Some (Isend Standard world (Rank 0) (Some 7) (numbers (2 ∷ [])))) [] ∷
    Names rank_0 0 (of_any 7) [] second [] (Finish 1 (named (of_any 7) 2) second ∷ []) ∷
    Ends rank_0 1 from_2 [] ∷ []

-- it keeps to the rules
abbrev pub ExampleIsExplored : Type 0
ExampleIsExplored = IsExplored 3 (opening least) no_rows second_is_taken
