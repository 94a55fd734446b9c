use Rattle.std.proofs.Common.{take}
use Rattle.std.specs.Fmt.{HasWritten, IsPlainFormatter}
use Rattle.printed_lines.specs.Answers.{elements_text}
use Rattle.printed_lines.proofs.outcomes.ElementsTextDisplay.fmt.Given as goal

abbrev pub invariant-loop-place : goal.invariant-loop-place
invariant-loop-place g l =
    IsPlainFormatter l.initial.f →
    HasWritten g.W.Write.write_str_gives l.initial.f
    (elements_text (record { basic = l.self.buffer.now.basic; values = take l.place l.self.buffer.now.values })) l.f
