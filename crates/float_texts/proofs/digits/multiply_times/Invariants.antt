use Rattle.std.proofs.Common.{◌*◌, ◌^◌, ℕ}
use Rattle.float_texts.specs.Digits.{AreDigitsOf}
use Rattle.float_texts.proofs.digits.multiply_times.Given as goal

abbrev pub invariant-loop : goal.invariant-loop
invariant-loop l =
    (number : ℕ) →
    AreDigitsOf number l.initial.digits →
    AreDigitsOf (number * l.factor ^ l.counter) l.digits
