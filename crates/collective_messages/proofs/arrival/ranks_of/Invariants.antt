-- The ranks up to a place are there.
use Rattle.std.proofs.Common.{◌≡◌}
use Rattle.std.specs.Prelude.{map}
use Rattle.std.specs.List.{range_with_len}
use Rattle.datatypes.specs.Contents.{element_at}
use Rattle.collective_messages.proofs.arrival.ranks_of.Given as goal

abbrev pub invariant-loop-place : goal.invariant-loop-place
invariant-loop-place l = l.ranks.items ≡ map (λ place. element_at 2 l.group.ranks.now place) (range_with_len 0 l.place)
