use Rattle.std.proofs.Common.{take}
use Rattle.std.specs.Fmt.{HasWritten, IsPlainFormatter}
use Rattle.printed_lines.specs.Answers.{further_text}
use Rattle.printed_lines.proofs.outcomes.FurtherOutcomesDisplay.fmt.Given as goal

abbrev pub invariant-loop-place : goal.invariant-loop-place
invariant-loop-place g l =
    IsPlainFormatter l.initial.f →
    HasWritten g.W.Write.write_str_gives l.initial.f (further_text (take l.place l.self.outcomes.now)) l.f
