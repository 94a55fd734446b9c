use Rattle.launch_plan.proofs.Lists.{shown_all}
use Rattle.launch_plan.specs.Configuration.{lines_of}
use Rattle.launch_plan.proofs.Lists.{shown}
use Rattle.std.proofs.Common.{drop}
use Rattle.launch_plan.proofs.ConfigurationLaws.{all_taken}
use Rattle.launch_plan.proofs.configuration.lines_of.Goals as goal

pub returns : goal.returns
returns c =
    let items = c.deref-line-items.result.now in
    let i = c.loop-line.line-index in
    all_taken c.loop-line.lines.items c.end_line.new.lines.items (lines_of c.args.bytes.now) c.loop-line.begun
    c.loop-line.words (shown (drop i items)) (shown_all items i c.loop-line-test.false) c.in_ok-end_line.ensures
    c.loop-line.invariant
