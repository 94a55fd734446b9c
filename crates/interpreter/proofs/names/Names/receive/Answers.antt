use Rattle.std.proofs.Common.{◌∙◌, Option, Some, sym, ap}
use Rattle.script_calls.specs.declared.pending.Pending.TheVariants as pendings
use Rattle.interpreter.specs.declared.steps.NextStep.{NextStep}
use Rattle.interpreter.specs.StatementCalls.{Acts, places_named}
use Rattle.interpreter.specs.NamesState.{here, place_named}
use Rattle.interpreter.proofs.CallLaws.{receive_made}
use Rattle.interpreter.proofs.names.Names.receive.Goals as goal

pub returns : goal.returns
returns c =
    receive_made c.args.receiving (place_named c.args.self.now c.args.receiving.communicator)
    (places_named c.args.self.now c.args.receiving.through) (here c.args.self.now c.args.receiving.buffer)
    c.args.self.now
    (pendings.Starting c.args.request (Some c.args.receiving.buffer)) c.in_ok-call.call c.lend_for.new.self
    c.in_ok-call.ensures
    ∙ ap (λ (next : Option NextStep). let acted : Acts = (next, c.lend_for.new.self) in acted) (sym c.asked_by.ensures)
