use Rattle.std.proofs.Common.{◌≡◌, ◌+◌, drop}
use Rattle.tokens.specs.Lines.{lines_from, with_front}
use Rattle.tokens.proofs.Lists.{shown}
use Rattle.script_files.specs.LineWords.{line_read}
use Rattle.script_files.proofs.parsing.script_of.Given as goal

abbrev pub invariant-loop-place : goal.invariant-loop-place
invariant-loop-place l = with_front l.script (lines_from line_read (l.place + 1) (shown (drop l.place l.lines.items))) ≡
    lines_from line_read 1 (shown l.lines.items)
