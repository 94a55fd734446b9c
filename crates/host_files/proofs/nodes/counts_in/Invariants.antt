-- The counts so far, in front of those of the pieces left, are those of all pieces.
use Rattle.std.proofs.Common.{◌≡◌, ◌++◌, drop, map, option_map}
use Rattle.host_files.specs.Nodes.{counts_in}
use Rattle.host_files.proofs.nodes.counts_in.Given as goal

abbrev pub invariant-loop-piece : goal.invariant-loop-piece
invariant-loop-piece l =
    option_map (λ more. l.counts.items ++ more) (counts_in (map (λ piece. piece.now) (drop l.piece-index l.pieces)))
    ≡ counts_in (map (λ piece. piece.now) l.pieces)
