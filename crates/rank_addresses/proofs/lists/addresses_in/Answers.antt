use Rattle.rank_addresses.proofs.ListLaws.{listed_more, not_listed}
use Rattle.rank_addresses.proofs.lists.addresses_in.Goals as goal

pub returns-in-Err : goal.returns-in-Err
returns-in-Err c = not_listed c.args.words.now c.loop-word.word-index _ c.loop-word-test.true c.in-Err.ensures

pub loop-word-preserved : goal.loop-word-preserved
loop-word-preserved c =
    listed_more c.args.words.now c.loop-word.word-index _ c.loop-word.hosts.items c.in-Ok.host _
    c.in_ok-push-in-Ok.ensures.items c.loop-word-test.true c.loop-word.invariant c.in-Ok.ensures
