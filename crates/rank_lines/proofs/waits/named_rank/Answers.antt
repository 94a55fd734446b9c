use Rattle.rank_lines.proofs.WaitLaws.{names_found}
use Rattle.rank_lines.proofs.waits.named_rank.Goals as goal

pub returns : goal.returns
returns c =
    names_found c.args.items.now c.in_ok-named_item.field-0.now c.in_ok-name.name.now c.in_ok-name.field-0-1.now
    c.rank_by.result c.in_ok-named_item.ensures c.in_ok-name.ensures c.rank_by.ensures
