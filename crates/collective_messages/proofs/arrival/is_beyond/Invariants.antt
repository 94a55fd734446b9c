-- Whether any rank up to a place is beyond.
use Rattle.std.proofs.Common.{◌≡◌}
use Rattle.std.specs.Prelude.{map, nat_le}
use Rattle.std.specs.List.{list_any, range_with_len}
use Rattle.datatypes.specs.Contents.{element_at}
use Rattle.collective_messages.proofs.arrival.is_beyond.Given as goal

abbrev pub invariant-loop-place : goal.invariant-loop-place
invariant-loop-place l =
    l.beyond ≡
    list_any (λ r. nat_le l.size r) (map (λ place. element_at 2 l.group.ranks.now place) (range_with_len 0 l.place))
