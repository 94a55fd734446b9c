use Rattle.rank_lines.proofs.WaitLaws.{ends_found}
use Rattle.rank_lines.proofs.waits.named_item.Goals as goal

pub returns : goal.returns
returns c =
    ends_found c.args.items.now c.first_item-item.result.now c.without_message.result.now c.behind.result
    c.first_item-item.ensures c.without_message.ensures c.behind.ensures
