use Rattle.std.proofs.Common.{take}
use Rattle.std.specs.Fmt.{HasWritten, IsPlainFormatter}
use Rattle.printed_lines.specs.CommunicatorTexts.{further_members_text}
use Rattle.printed_lines.proofs.communicators.FurtherMembersDisplay.fmt.Given as goal

abbrev pub invariant-loop-place : goal.invariant-loop-place
invariant-loop-place g l =
    IsPlainFormatter l.initial.f →
    HasWritten g.W.Write.write_str_gives l.initial.f (further_members_text (take l.place l.self.ranks.now)) l.f
