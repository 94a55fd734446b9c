use Rattle.std.proofs.Common.{◌≡◌, take}
use Rattle.printed_lines.specs.Lines.{further_errors}
use Rattle.printed_lines.proofs.lines.further_errors.Given as goal

abbrev pub invariant-loop-number : goal.invariant-loop-number
invariant-loop-number l = l.text.items ≡ further_errors (take l.number-index l.numbers)
