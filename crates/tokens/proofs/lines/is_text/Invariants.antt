use Rattle.std.proofs.Common.{◌≡◌, drop}
use Rattle.std.specs.List.{list_all}
use Rattle.tokens.specs.Lines.{is_text_byte}
use Rattle.tokens.proofs.lines.is_text.Given as goal

abbrev pub invariant-loop-byte : goal.invariant-loop-byte
invariant-loop-byte l = list_all is_text_byte (drop l.byte-index l.line) ≡ list_all is_text_byte l.line
