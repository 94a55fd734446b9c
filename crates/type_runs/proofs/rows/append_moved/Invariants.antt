use Rattle.std.proofs.Common.{◌≡◌, ◌≤◌, ◌+◌, ◌++◌, List, length, take}
use Rattle.std.proofs.Math.IntN.{ℤ}
use Rattle.type_maps.specs.Maps.{moved_numbers}
use Rattle.type_runs.specs.Runs.{Are, Bodies}
use Rattle.type_runs.proofs.rows.append_moved.Given as goal

abbrev pub invariant-loop-run : goal.invariant-loop-run
invariant-loop-run l = (length l.into ≡ length l.initial.into) × (l.count ≤ l.fn.used + l.run-index) ×
    ((bodies : Bodies) (bytes more : List ℤ) → Are bodies (take l.fn.used l.initial.into) bytes →
    Are bodies (take l.run-index l.runs) more → Are bodies (take l.count l.into) (bytes ++ moved_numbers l.fn.by more))
