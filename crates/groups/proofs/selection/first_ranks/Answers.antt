-- One more rank.
use Rattle.std.proofs.Common.{◌≡◌, ◌+◌, add-one, arith}
use Rattle.groups.proofs.Selections.{range_with_len-suc}
use Rattle.groups.proofs.selection.first_ranks.Goals as goal

pub loop-rank-preserved : goal.loop-rank-preserved
loop-rank-preserved c =
    let r = c.loop-rank.rank in
    let zero_plus : 0 + r ≡ r = omega arith in
    rw (add-one, range_with_len-suc 0 r, zero_plus, ← c.loop-rank.invariant) c.in_ok-push.ensures.ok
