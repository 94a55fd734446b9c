use Rattle.std.proofs.Common.{inl, inr, arith}
use Rattle.shared_bytes.proofs.Rows.{apart_at_all, first_passed, none_at_all, second_passed, swapped}
use Rattle.shared_bytes.proofs.runs.meet.Goals as goal
use Rattle.shared_bytes.proofs.runs.meet.Goals.{then-is_before-via-then-is_before, then-is_before-via-else-is_before+then-is_before-2}

pub returns-then-is_before-clause-no : goal.returns-then-is_before-clause-no
returns-then-is_before-clause-no c = λ is m.
    elim c.then-is_before.branch [
      | then-is_before-via-then-is_before w ↦ apart_at_all c.args.one.now c.args.other.now (c.is_before.ensures w.if-is_before.true) m
      | then-is_before-via-else-is_before+then-is_before-2 w ↦ apart_at_all c.args.other.now c.args.one.now
          (w.is_before-else-is_before.ensures w.if-is_before-2.true) (swapped _ _ m)
    ]

pub loop-first-preserved-then-low-high : goal.loop-first-preserved-then-low-high
loop-first-preserved-then-low-high c = first_passed _ _ _ _ (omega arith) c.loop-first.invariant

pub loop-first-preserved : goal.loop-first-preserved
loop-first-preserved c = second_passed _ _ _ _ (omega arith) c.loop-first.invariant

pub returns-else-second-other-clause-no : goal.returns-else-second-other-clause-no
returns-else-second-other-clause-no c = λ is m. none_at_all _ _ _ _ (inr c.if-second-other.false) c.loop-first.invariant m

pub returns-after-loop-first-clause-no : goal.returns-after-loop-first-clause-no
returns-after-loop-first-clause-no c = λ is m. none_at_all _ _ _ _ (inl c.loop-first-test.false) c.loop-first.invariant m
