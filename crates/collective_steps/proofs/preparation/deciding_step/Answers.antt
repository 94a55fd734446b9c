-- Why it couldn't be decided, it couldn't with the word in front.
use Rattle.collective_steps.proofs.Bounds.{lacks_word}
use Rattle.collective_steps.proofs.preparation.deciding_step.Goals as goal

pub returns-in-Err-clause-err : goal.returns-in-Err-clause-err
returns-in-Err-clause-err c =
    lacks_word c.args.seat.now.own c.args.seat.now.inside.now c.args.contexts.now.state c.args.group.now
    c.args.seat.now.notes.now c.in-Err.refused
    c.in-Err.ensures.err
