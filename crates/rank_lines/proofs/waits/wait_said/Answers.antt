use Rattle.rank_lines.proofs.WaitLaws.{says_wait_of}
use Rattle.rank_lines.proofs.waits.wait_said.Goals as goal

pub returns : goal.returns
returns c =
    says_wait_of c.args.line.now c.in-Ok.text.now c.in_ok-rank.call.now c.in_ok-items.field-0-0.now c.in_ok-items.items.now
    _ c.in-Ok.ensures.cases.0 c.in_ok-rank.ensures c.in_ok-items.ensures c.in_ok-other.ensures
