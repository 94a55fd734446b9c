-- The words so far, and those among the pieces that are left, are all words.
use Rattle.std.proofs.Common.{◌≡◌, ◌++◌, drop, map}
use Rattle.host_files.specs.Lines.{said}
use Rattle.host_files.proofs.line.said_in.Given as goal

abbrev pub invariant-loop-piece : goal.invariant-loop-piece
invariant-loop-piece l =
    map (λ word. word.now) l.words.items ++ said (map (λ piece. piece.now) (drop l.piece-index l.pieces))
    ≡ said (map (λ piece. piece.now) l.pieces)
