use Rattle.std.proofs.Common.{IfErr}
use Rattle.simulation.specs.StepLines.{answered_line, completed_lines, emitted_lines}
use Rattle.simulation.proofs.PrintLaws.{cuts_entry, err_more}
use Rattle.simulation.proofs.event_printing.print_entry.Goals as goal

-- src/event_printing.rt:84:1
pub returns-clause-err : goal.returns-clause-err
returns-clause-err g c = err_more c.print_completed.result _ _
    (λ e cut. cuts_entry e (g.W.Write.contents c.args.out.now) (g.W.Write.contents c.print_answered.new.out)
    (g.W.Write.contents c.print_emitted.new.out) (g.W.Write.contents c.print_completed.new.out)
    (answered_line c.args.entry.now.reply)
    (emitted_lines c.args.world.now.datagrams c.args.stepped.first c.args.stepped.count)
    (completed_lines c.args.entry.now.endpoint.rank c.args.entry.now.completion) c.in_ok-print_answered.ensures.ok
    c.in_ok-print_emitted.ensures cut) c.print_completed.ensures.err
