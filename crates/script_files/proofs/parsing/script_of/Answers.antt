use Rattle.std.proofs.Common.{◌+◌, sym, arith}
use Rattle.tokens.proofs.LineSteps.{all_read}
use Rattle.script_files.specs.LineWords.{line_read}
use Rattle.script_files.proofs.parsing.script_of.Goals as goal

pub returns : goal.returns
returns c =
    rw (sym c.in_ok-lines.ensures)
    (all_read line_read c.loop-place.script (c.loop-place.place + 1) c.loop-place.place c.in_ok-lines.lines.items _
    (omega (arith, c.loop-place-test.false, c.len-place-end.ensures)) c.loop-place.invariant)
