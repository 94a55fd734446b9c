use Rattle.std.proofs.Common.{arith}
use Rattle.rank_addresses.proofs.ListLaws.{counted_more, at_most_one}
use Rattle.rank_addresses.proofs.lists.word_count.Goals as goal

pub loop-byte-preserved : goal.loop-byte-preserved
loop-byte-preserved c =
    let most = at_most_one _ _ c.comma_count-commas.ensures in (
      counted_more c.args.text.now c.loop-byte.byte-index c.loop-byte.commas _ _ c.loop-byte-test.true
          c.comma_count-commas.ensures c.loop-byte.invariant.0,
      omega (arith, most, c.loop-byte.invariant.1),
    )
