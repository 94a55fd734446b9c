use Rattle.c_rank.proofs.HandingSteps.{no_memory}
use Rattle.c_rank.proofs.rank.Rank.new.Goals as goal

pub returns-in_default-clause-refused : goal.returns-in_default-clause-refused
returns-in_default-clause-refused c =
    no_memory c.args.place.now _ _ c.number-in_default.result c.in-Ok.ensures.ok.1 c.in-Ok.ensures.ok.0
    c.in-Ok-new.ensures.placed c.number-in_default.ensures

pub returns-in-Err-opened-clause-refused : goal.returns-in-Err-opened-clause-refused
returns-in-Err-opened-clause-refused c =
    no_memory c.args.place.now _ _ c.number-in-Err-opened.result c.in-Ok.ensures.ok.1 c.in-Ok.ensures.ok.0
    c.in-Ok-new.ensures.placed c.number-in-Err-opened.ensures
