use Rattle.std.proofs.Common.{IfErr, IfOk}
use Rattle.std.proofs.lemmas.Result.{IfOk-weaker}
use Rattle.simulation.proofs.CallLaws.{call_taken}
use Rattle.simulation.proofs.PrintLaws.{err_more}
use Rattle.simulation.proofs.StopLaws.{taken_breaks}
use Rattle.simulation.proofs.calls.call_once.Goals as goal

-- src/calls.rt:188:1
pub returns-in-Ok-clause-ok : goal.returns-in-Ok-clause-ok
returns-in-Ok-clause-ok g c = IfOk-weaker c.on_called.result _ _
    (λ next taken. call_taken c.args.rank c.args.asking c.args.world.now c.step.new.self c.args.names.now
    c.on_called.new.names c.in-Ok.stepped (g.W.Write.contents c.args.out.now)
    (g.W.Write.contents c.on_called.new.out) next c.in-Ok.ensures.exact c.in-Ok.ensures.headline taken)
    c.on_called.ensures.ok

-- src/calls.rt:188:1
pub returns-in-Ok-clause-err : goal.returns-in-Ok-clause-err
returns-in-Ok-clause-err g c = err_more c.on_called.result _ _
    (λ e cut. taken_breaks e c.args.rank c.args.asking c.args.world.now c.step.new.self c.args.names.now
    c.in-Ok.stepped (g.W.Write.contents c.args.out.now) (g.W.Write.contents c.on_called.new.out)
    c.in-Ok.ensures.exact c.in-Ok.ensures.headline cut) c.on_called.ensures.err
