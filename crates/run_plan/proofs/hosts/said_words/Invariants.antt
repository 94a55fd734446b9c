-- The words so far, and those of the pieces that are left, are all words.
use Rattle.std.proofs.Common.{◌≡◌, ◌++◌, drop, map}
use Rattle.run_plan.specs.Hosts.{said_words}
use Rattle.run_plan.proofs.hosts.said_words.Given as goal

abbrev pub invariant-loop-piece : goal.invariant-loop-piece
invariant-loop-piece l =
    l.words ++ said_words l.host (map (λ piece. piece.now) (drop l.piece-index l.pieces))
    ≡ said_words l.host (map (λ piece. piece.now) l.pieces)
