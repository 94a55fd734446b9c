use Rattle.launch_plan.proofs.OpeningLaws.{loop_goes_on}
use Rattle.launch_plan.proofs.opening.opening_of.Goals as goal

pub loop-word-preserved : goal.loop-word-preserved
loop-word-preserved c =
    loop_goes_on c.loop-word.rest.now c.in-Some.after.now c.loop-word.given c.in_ok-given-in-Own.given c.in-Own.option
    c.in-Some.word.now c.in-Some-split_first-2.value.now c.in-Some-split_first-2.others.now
    c.as_bytes.result.now c.as_bytes-in-Own.result.now _
    c.in-Some.ensures.cases.0 c.in-Some-split_first-2.ensures.cases.0 c.as_bytes.ensures c.as_bytes-in-Own.ensures
    c.in-Own.ensures c.if-has.ensures c.in_ok-given-in-Own.ensures
    c.loop-word.invariant
