use Rattle.simulation.proofs.calls.call_following.Goals as goal

pub returns-in-Some-clause-err : goal.returns-in-Some-clause-err
returns-in-Some-clause-err g c = rw c.in-Some.is c.call_both.ensures.err
