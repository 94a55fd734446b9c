use Rattle.std.proofs.Common.{◌∙◌, Option, sym, ap}
use Rattle.interpreter.specs.declared.steps.NextStep.{NextStep}
use Rattle.interpreter.specs.StatementCalls.{Acts, blocks_named}
use Rattle.interpreter.specs.NamesState.{here, is_root, place_named}
use Rattle.interpreter.proofs.CallLaws.{scatter_made}
use Rattle.interpreter.proofs.names.Names.scatter.Goals as goal

pub returns : goal.returns
returns c =
    scatter_made c.args.said (place_named c.args.self.now c.args.said.communicator)
    (here c.args.self.now c.args.said.into)
    (blocks_named c.args.self.now (is_root c.args.self.now c.args.said.communicator c.args.said.root)
    c.args.said.buffer) c.args.self.now
    ∙ ap (λ (next : Option NextStep). let acted : Acts = (next, c.args.self.now) in acted)
    (sym (rw c.in_ok-call.ensures at c.asked_by.ensures))
