use Rattle.joined_ranks.proofs.Alone.{next_alone, number_of_why}
use Rattle.joined_ranks.proofs.ranks.deliver_next.Goals as goal

pub returns-in-Ok-None-clause-alone : goal.returns-in-Ok-None-clause-alone
returns-in-Ok-None-clause-alone c = next_alone _ _ _ c.deliver_next.ensures.event_by_event

pub returns-in-Ok-Some-clause-alone : goal.returns-in-Ok-Some-clause-alone
returns-in-Ok-Some-clause-alone c = next_alone _ _ _ c.deliver_next.ensures.event_by_event

pub returns-in-Err-clause-alone : goal.returns-in-Err-clause-alone
returns-in-Err-clause-alone c = next_alone _ _ _ c.deliver_next.ensures.event_by_event

pub returns-in-Err-clause-refused : goal.returns-in-Err-clause-refused
returns-in-Err-clause-refused c =
    number_of_why _ _ _ c.number_of.ensures (rw c.in-Err.is at c.deliver_next.ensures.exact).1
