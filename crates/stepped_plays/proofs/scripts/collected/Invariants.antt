use Rattle.std.proofs.Common.{length}
use Rattle.stepped_plays.proofs.scripts.collected.Given as goal

abbrev pub decreases-loop-line : goal.decreases-loop-line
decreases-loop-line l = length l.lines
