use Rattle.std.proofs.Common.{◌≡◌, map, ◌+◌, ◌-◌, ◌≤◌, vec_len, vec_capacity}
use Rattle.std.specs.List.{range_with_len}
use Rattle.rendezvous.specs.Pieces.{piece_at}
use Rattle.rendezvous.proofs.piece.pieces_of.Given as goal

abbrev pub invariant-loop-number : goal.invariant-loop-number
invariant-loop-number l = record {
  cut : map (λ p. (p.offset, p.bytes.now)) l.pieces.items ≡
      map (piece_at l.size l.contents) (range_with_len 0 l.number);
  room : vec_len l.pieces + (l.count - l.number) ≤ vec_capacity l.pieces;
}
