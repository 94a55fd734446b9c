use Rattle.std.proofs.Common.{take}
use Rattle.std.specs.Fmt.{HasWritten, IsPlainFormatter}
use Rattle.float_texts.specs.Digits.{digits_text}
use Rattle.float_texts.proofs.decimals.DigitsDisplay.fmt.Given as goal

abbrev pub invariant-loop-digit : goal.invariant-loop-digit
invariant-loop-digit g l =
    IsPlainFormatter l.initial.f →
    HasWritten g.W.Write.write_str_gives l.initial.f (digits_text (take l.digit-index l.self.digits.now)) l.f
