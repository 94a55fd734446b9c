use Rattle.std.proofs.Common.{◌≡◌, take}
use Rattle.std.specs.Prelude.{filter}
use Rattle.tokens.specs.Lines.{is_nonempty}
use Rattle.tokens.proofs.Lists.{shown}
use Rattle.tokens.proofs.lines.tokens_among.Given as goal

abbrev pub invariant-loop-piece : goal.invariant-loop-piece
invariant-loop-piece l = l.words ≡ filter is_nonempty (shown (take l.piece-index l.pieces))
