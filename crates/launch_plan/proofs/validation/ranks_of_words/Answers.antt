use Rattle.launch_plan.proofs.JudgingLaws.{words_tally}
use Rattle.launch_plan.proofs.validation.ranks_of_words.Goals as goal

pub returns : goal.returns
returns c = rw (words_tally c.args.words.now) at c.count_ranks.ensures
