-- The names so far, in front of those that the pieces left tell, are what all pieces tell.
use Rattle.std.proofs.Common.{◌≡◌, drop, map, option_map, Some, None}
use Rattle.host_files.specs.Nodes.{in_front, node_names}
use Rattle.host_files.proofs.nodes.node_names.Given as goal

abbrev pub invariant-loop-piece : goal.invariant-loop-piece
invariant-loop-piece l =
    in_front (Some l.names)
    (node_names (option_map (λ front. front.now) l.inside) (map (λ piece. piece.now) (drop l.piece-index l.pieces)))
    ≡ node_names None (map (λ piece. piece.now) l.pieces)
