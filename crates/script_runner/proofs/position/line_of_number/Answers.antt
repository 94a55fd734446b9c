use Rattle.std.proofs.Common.{◌∙◌, sym}
use Rattle.script_runner.proofs.RunLaws.{numbered_behind, numbered_here}
use Rattle.script_runner.proofs.position.line_of_number.Goals as goal

pub returns-then-line-number : goal.returns-then-line-number
returns-then-line-number c =
    sym (numbered_here c.args.number c.loop-line.lines c.in-Some.line c.next.new.self c.in-Some.ensures
    c.if-line-number.true) ∙ c.loop-line.invariant

pub loop-line-preserved : goal.loop-line-preserved
loop-line-preserved c =
    sym (numbered_behind c.args.number c.loop-line.lines c.in-Some.line c.next.new.self c.in-Some.ensures
    c.if-line-number.false) ∙ c.loop-line.invariant
