use Rattle.std.proofs.Common.{◌≡◌, ◌≢◌, ◌∙◌, [], ◌∷◌, sym, Some, None}
use Rattle.script_runner.proofs.RunLaws.{along_first, along_none, on_err}
use Rattle.script_runner.proofs.runner.go_on.Goals as goal

pub returns-in-Some-2-clause-does : goal.returns-in-Some-2-clause-does
returns-in-Some-2-clause-does c =
    sym c.loop-line.invariant.0 ∙ along_first _ _ c.in-Some.line _ (Some c.in-Some-2.step) _ c.in-Some.ensures
    (rw c.in-Some-2.is at c.in_ok-step.ensures)

pub returns-in_err-step-clause-memory : goal.returns-in_err-step-clause-memory
returns-in_err-step-clause-memory c =
    on_err c.from_residual.result (c.args.lines.now ≢ []) (λ none. absurd (
    let clash : c.in-Some.line ∷ c.next.new.self ≡ [] = sym c.in-Some.ensures ∙ c.loop-line.invariant.1 none in cc
    ))

pub loop-line-preserved : goal.loop-line-preserved
loop-line-preserved c = (
  sym (along_first c.loop-line.lines c.loop-line.rank c.in-Some.line c.next.new.self None c.act.new.self
      c.in-Some.ensures (rw c.in_default-2.is at c.in_ok-step.ensures)) ∙ c.loop-line.invariant.0,
  λ none. absurd (let clash : c.in-Some.line ∷ c.next.new.self ≡ [] =
      sym c.in-Some.ensures ∙ c.loop-line.invariant.1 none in cc),
)

pub returns-clause-does : goal.returns-clause-does
returns-clause-does c =
    sym c.loop-line.invariant.0 ∙ along_none _ _ _ c.in_default.ensures.0 c.in_default.ensures.1
