use Rattle.std.proofs.Common.{◌≡◌, ◌++◌, drop}
use Rattle.launch_plan.specs.WordLists.{sets_behind_colons}
use Rattle.launch_plan.proofs.spelling.push_others.Given as goal

abbrev pub invariant-loop-line : goal.invariant-loop-line
invariant-loop-line l = l.words ++ sets_behind_colons (drop l.line-index l.lines) ≡ l.fn.words ++
    sets_behind_colons l.lines
