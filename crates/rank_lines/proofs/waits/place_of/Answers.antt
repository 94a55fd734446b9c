use Rattle.rank_lines.proofs.WaitLaws.{begins_with_place}
use Rattle.rank_lines.proofs.waits.place_of.Goals as goal

pub returns : goal.returns
returns c =
    begins_with_place c.args.line.now c.in_ok-behind.field-0.now c.in_ok-place.place.now c.in_ok-place.call.now
    c.in_ok-rank.rank c.in_ok-behind.ensures c.in_ok-place.ensures c.in_ok-rank.ensures
