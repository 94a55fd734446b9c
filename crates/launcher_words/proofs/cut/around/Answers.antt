use Rattle.std.proofs.Common.{ap}
use Rattle.std.specs.Option.{option_copied}
use Rattle.launcher_words.proofs.PairLaws.{pair_by}
use Rattle.launcher_words.proofs.cut.around.Goals as goal

pub returns-in-Some : goal.returns-in-Some
returns-in-Some c =
    pair_by c.args.end c.args.text.now c.first_part-cut.result c.in-Some.rest.now (ap option_copied c.in-Some.is)
    c.first_part-cut.ensures
