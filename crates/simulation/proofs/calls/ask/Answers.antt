use Rattle.std.proofs.Common.{rules, ◌≡◌, Option, Some, ap, sym, subst, ◌∙◌}
use Rattle.interpreter.specs.declared.steps.NextStep.{NextStep}
use Rattle.interpreter.specs.declared.steps.NextStep.TheVariants as nexts
use Rattle.simulation.specs.Beginnings.{AskBegins, BreaksOff}
use Rattle.simulation.specs.Parts.{standing}
use Rattle.simulation.proofs.PrintLaws.{err_same}
use Rattle.simulation.proofs.StopLaws.{ask_breaks}
use Rattle.simulation.proofs.calls.ask.Goals as goal

-- src/calls.rt:294:13
pub returns-in_err-call_both-in-Some-Call-clause-err : goal.returns-in_err-call_both-in-Some-Call-clause-err
returns-in_err-call_both-in-Some-Call-clause-err g c =
    let asks : c.args.asked ≡ Some (nexts.Call c.in-Some-Call.asking) =
    c.in-Some-Call.is ∙ ap (λ (next : NextStep). Some next) c.in-Some-Call.field-0-is in
    err_same c.from_residual.result c.in_err-call_both-in-Some-Call.field-0.0 _ (search rules)
    (subst (λ (asked : Option NextStep). BreaksOff c.in_err-call_both-in-Some-Call.field-0.0
    (λ part. AskBegins c.args.rank asked (standing c.args.world.now c.args.names.now) part)
    (g.W.Write.contents c.args.out.now) (g.W.Write.contents c.call_both.new.out)) (sym asks)
    (ask_breaks c.in_err-call_both-in-Some-Call.field-0.0 c.args.rank c.in-Some-Call.asking
    (standing c.args.world.now c.args.names.now) (g.W.Write.contents c.args.out.now)
    (g.W.Write.contents c.call_both.new.out) c.in_err-call_both-in-Some-Call.ensures.err))
