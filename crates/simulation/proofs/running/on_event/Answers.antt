use Rattle.std.proofs.Common.{IfErr}
use Rattle.simulation.proofs.PrintLaws.{err_more}
use Rattle.simulation.proofs.StopLaws.{event_breaks}
use Rattle.simulation.proofs.running.on_event.Goals as goal

-- src/running.rt:57:1
pub returns-in_ok-print_stepped-in-Ok-clause-err : goal.returns-in_ok-print_stepped-in-Ok-clause-err
returns-in_ok-print_stepped-in-Ok-clause-err g c = err_more c.complete.result _ _
    (λ e breaks size. event_breaks e size c.args.world.now c.step.new.self c.args.ranks.now.entries c.args.event
    c.in-Ok.stepped (g.W.Write.contents c.args.out.now) (g.W.Write.contents c.print_stepped.new.out)
    (g.W.Write.contents c.complete.new.out) c.in-Ok.ensures.exact c.in-Ok.ensures.headline
    c.in_ok-print_stepped-in-Ok.ensures.ok (breaks size)) c.complete.ensures.err
