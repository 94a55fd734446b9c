use Rattle.std.proofs.Common.{◌≡◌, ◌+◌, drop}
use Rattle.tokens.specs.Lines.{lines_from, with_front}
use Rattle.tokens.proofs.Lists.{shown}
use Rattle.event_files.specs.LineWords.{line_read}
use Rattle.event_files.proofs.parsing.lines_behind.Given as goal

abbrev pub invariant-loop-place : goal.invariant-loop-place
invariant-loop-place l =
    with_front l.read (lines_from line_read (l.place + 1) (shown (drop l.place l.lines))) ≡
    lines_from line_read (l.fn.from + 1) (drop l.fn.from (shown l.lines))
