use Rattle.std.proofs.Common.{◌≡◌}
use Rattle.c_rank.specs.Windows.{with_asks}
use Rattle.c_rank.proofs.windows.ask_all.Given as goal

abbrev pub invariant-loop-rank : goal.invariant-loop-rank
invariant-loop-rank l = l.engine ≡ with_asks l.fn.engine l.windows l.rank
