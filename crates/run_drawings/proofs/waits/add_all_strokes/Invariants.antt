use Rattle.std.proofs.Common.{◌≡◌, ◌++◌, take}
use Rattle.std.specs.List.{flat_map}
use Rattle.run_drawings.specs.Waits.{wait_strokes}
use Rattle.run_drawings.proofs.waits.add_all_strokes.Given as goal

abbrev pub invariant-loop-other : goal.invariant-loop-other
invariant-loop-other l =
    l.elements.items ≡
    l.initial.elements.items ++
    flat_map (λ other. wait_strokes l.layout l.wait.rank l.row other) (take l.other-index l.wait.whom.items)
