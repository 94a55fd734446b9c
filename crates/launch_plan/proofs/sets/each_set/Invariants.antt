use Rattle.std.proofs.Common.{◌≡◌, map, drop}
use Rattle.launch_plan.specs.Sets.{each_set}
use Rattle.launch_plan.proofs.SetLoop.{with_front}
use Rattle.launch_plan.proofs.sets.each_set.Given as goal

abbrev pub invariant-loop-line : goal.invariant-loop-line
invariant-loop-line l =
    with_front l.sets.items (each_set (map (λ line. line.now) (drop l.line-index l.lines))) ≡
    each_set (map (λ line. line.now) l.lines)
