-- Statuses, by the group of a receive's communicator (MPI 3.1, 3.2.5 and 6.2.1).
use Rattle.std.specs.Prelude.{ℕ, List, Option}
use Rattle.vocabulary.specs.declared.envelope.Source.{Source}
use Rattle.vocabulary.specs.declared.envelope.Source.TheVariants.{Any, Null, Rank}
use Rattle.vocabulary.specs.declared.envelope.Status.{Status}
use Rattle.perfect_queues.specs.Groups.{rank_by}

-- a rank of world as the rank of a group; none is the group of world
abbrev pub source_in : Option (List ℕ) → Source → Source
source_in group Any = Any
source_in group (Rank r) = Rank (rank_by group r)
source_in group Null = Null

-- a status that names a rank of world, as it is told to a receive with this group
abbrev pub status_in : Option (List ℕ) → Status → Status
status_in group s = record s { source = source_in group s.source }
