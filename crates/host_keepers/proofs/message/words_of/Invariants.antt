use Rattle.std.proofs.Common.{◌≡◌, take, map}
use Rattle.host_keepers.proofs.message.words_of.Given as goal

abbrev pub invariant-loop-piece : goal.invariant-loop-piece
invariant-loop-piece l = l.words ≡ map (λ piece. piece.now) (take l.piece-index l.pieces)
