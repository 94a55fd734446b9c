use Rattle.std.proofs.Common.{◌≡◌, ◌-◌}
use Rattle.run_drawings.specs.Cells.{filled}
use Rattle.run_drawings.proofs.cells.fill_count.Given as goal

abbrev pub invariant-loop-step : goal.invariant-loop-step
invariant-loop-step l =
    filled l.row.items l.place (l.count - l._step) l.character ≡ filled l.initial.row.items l.first l.count l.character
