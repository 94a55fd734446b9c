use Rattle.launch_plan.proofs.JudgingLaws.{count_tally, counted_if}
use Rattle.launch_plan.proofs.process_set.count_of.Goals as goal

pub returns-clause-exact : goal.returns-clause-exact
returns-clause-exact c = rw (count_tally c.args.words.now) at c.last_count.ensures

pub returns-clause-counted : goal.returns-clause-counted
returns-clause-counted c =
    counted_if c.args.words.now c.last_count.result (rw (count_tally c.args.words.now) at c.last_count.ensures)
