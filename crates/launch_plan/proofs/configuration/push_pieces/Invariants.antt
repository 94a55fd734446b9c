use Rattle.std.proofs.Common.{◌≡◌, ◌++◌, take}
use Rattle.std.specs.Prelude.{filter}
use Rattle.launch_plan.specs.Configuration.{is_nonempty}
use Rattle.launch_plan.proofs.Lists.{shown}
use Rattle.launch_plan.proofs.configuration.push_pieces.Given as goal

abbrev pub invariant-loop-piece : goal.invariant-loop-piece
invariant-loop-piece l = l.words ≡ l.fn.words ++ filter is_nonempty (shown (take l.piece-index l.pieces))
