-- The lines so far, and those of what is left, are all lines.
use Rattle.std.proofs.Common.{◌≡◌, ◌++◌, drop, map}
use Rattle.host_files.specs.Batch.{grid_lines}
use Rattle.host_files.proofs.batch.push_grid_lines.Given as goal

abbrev pub invariant-loop-line : goal.invariant-loop-line
invariant-loop-line l =
    l.text.items ++ grid_lines (map (λ line. line.now) (drop l.line-index l.lines))
    ≡ l.fn.text.items ++ grid_lines (map (λ line. line.now) l.lines)
