use Rattle.std.proofs.Common.{◌+◌}
use Rattle.tokens.proofs.LineSteps.{all_read}
use Rattle.event_files.specs.LineWords.{line_read}
use Rattle.event_files.proofs.StartSteps.{begins}
use Rattle.event_files.proofs.parsing.lines_behind.Goals as goal

pub loop-place-init : goal.loop-place-init
loop-place-init c = begins c.args.from c.args.lines.now c.new-read.result c.new-read.ensures

pub returns : goal.returns
returns c =
    all_read line_read c.loop-place.read (c.loop-place.place + 1) c.loop-place.place c.args.lines.now _
    c.loop-place-test.false c.loop-place.invariant
