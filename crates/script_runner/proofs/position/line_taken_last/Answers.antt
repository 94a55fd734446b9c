use Rattle.std.proofs.Common.{◌∙◌, ap, drop, ℕ, ◌-◌}
use Rattle.script_runner.proofs.RunLaws.{taken_there}
use Rattle.script_runner.proofs.position.line_taken_last.Goals as goal

pub returns : goal.returns
returns c =
    taken_there c.args.left c.args.lines c.pass.new.lines c.next.result c.next.new.self
    (rw c.len.ensures at c.if-len-left.false)
    (c.pass.ensures ∙ ap (λ (n : ℕ). drop (n - c.args.left - 1) c.args.lines) c.len-2.ensures) c.next.ensures
