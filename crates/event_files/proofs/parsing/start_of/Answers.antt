use Rattle.std.proofs.Common.{◌+◌, ◌≤◌, ℕ, List, arith, sym, subst}
use Rattle.std.proofs.lemmas.List.{length-map}
use Rattle.std.specs.Borrow.{Bor}
use Rattle.event_files.proofs.StartSteps.{is_faulty, is_start, goes_on, has_no_start}
use Rattle.event_files.proofs.parsing.start_of.Goals as goal

pub returns-in-Err-Faulty : goal.returns-in-Err-Faulty
returns-in-Err-Faulty c =
    is_faulty c.args.lines.now c.loop-place.place _ c.in-Err-Faulty.field-0 c.loop-place-test.true
    c.in-Err-Faulty.field-0-is c.in-Err-Faulty.ensures c.loop-place.invariant.1

pub returns-in-Ok-Some : goal.returns-in-Ok-Some
returns-in-Ok-Some c = (
  subst (λ (n : ℕ). c.loop-place.place + 1 ≤ n)
      (sym (length-map c.args.lines.now (λ (line : Bor (List ℕ)). line.now))) (omega (arith, c.loop-place-test.true)),
  is_start c.args.lines.now c.loop-place.place _ c.in-Ok-Some.field-0 c.in-Ok-Some.size c.loop-place-test.true
      c.in-Ok-Some.field-0-is c.in-Ok-Some.ensures c.loop-place.invariant.1,
)

pub loop-place-preserved : goal.loop-place-preserved
loop-place-preserved c = (
  omega (arith, c.loop-place-test.true),
  goes_on c.args.lines.now c.loop-place.place _ c.in-Ok-None.field-0 c.loop-place-test.true c.in-Ok-None.field-0-is
      c.in-Ok-None.ensures c.loop-place.invariant.1,
)

pub returns : goal.returns
returns c =
    has_no_start c.args.lines.now c.loop-place.place c.loop-place-test.false c.loop-place.invariant.0
    c.loop-place.invariant.1
