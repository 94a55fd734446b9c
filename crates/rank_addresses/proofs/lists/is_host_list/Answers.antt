use Rattle.rank_addresses.proofs.ListLaws.{not_so_many, so_many}
use Rattle.rank_addresses.proofs.lists.is_host_list.Goals as goal

pub returns-then-word_count-count : goal.returns-then-word_count-count
returns-then-word_count-count c =
    not_so_many c.args.text.now _ c.args.count c.word_count.ensures c.if-word_count-count.true

pub returns : goal.returns
returns c =
    so_many c.args.text.now _ c.args.count _ c.word_count.ensures c.if-word_count-count.false c.are_addresses.ensures
