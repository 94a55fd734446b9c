use Rattle.std.proofs.Common.{◌≤◌, ◌^◌, ◌+◌, ◌*◌, ℕ}
use Rattle.float_texts.specs.Digits.{AreDigitsOf}
use Rattle.float_texts.proofs.Products.{AreDoneTo}
use Rattle.float_texts.proofs.digits.multiply_and_add.Given as goal

abbrev pub invariant-loop-place : goal.invariant-loop-place
invariant-loop-place l =
    record {
      small : l.carry ≤ 2 ^ 60;
      done :
          (number : ℕ) →
          AreDigitsOf number l.initial.digits →
          AreDoneTo (number * l.factor + l.more) l.factor l.place l.carry l.digits;
    }
