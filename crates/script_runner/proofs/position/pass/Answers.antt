use Rattle.script_runner.proofs.RunLaws.{dropped_more}
use Rattle.script_runner.proofs.position.pass.Goals as goal

pub loop-place-preserved : goal.loop-place-preserved
loop-place-preserved c =
    dropped_more c.loop-place.place c.args.lines.now c.loop-place.lines c.next.result c.next.new.self
    c.loop-place.invariant c.next.ensures
