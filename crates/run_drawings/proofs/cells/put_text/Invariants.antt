use Rattle.std.proofs.Common.{◌≡◌, drop}
use Rattle.run_drawings.specs.Cells.{with_text}
use Rattle.run_drawings.proofs.cells.put_text.Given as goal

abbrev pub invariant-loop-byte : goal.invariant-loop-byte
invariant-loop-byte l =
    with_text l.row.items l.at (drop l.byte-index l.text) ≡ with_text l.initial.row.items l.place l.text
