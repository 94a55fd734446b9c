use Rattle.std.proofs.Common.{◌++◌, ◌∷◌, [], ℕ, List, map, sym, ap, ◌∙◌, arith}
use Rattle.std.specs.List.{range_with_len}
use Rattle.std.proofs.lemmas.List.{map-append}
use Rattle.std.proofs.lemmas.List.FromFn.{map-range_with_len_more}
use Rattle.rendezvous.specs.declared.piece.Piece.{Piece}
use Rattle.rendezvous.specs.Pieces.{piece_at}
use Rattle.rendezvous.proofs.piece.pieces_of.Goals as goal

pub loop-number-preserved : goal.loop-number-preserved
loop-number-preserved c =
    let view : Piece → ℕ × List ℕ = λ p. (p.offset, p.bytes.now) in
    let at = piece_at c.frame_bytes-size.result c.args.contents.now in
    let i = c.loop-number.number in
    record {
      cut = ap (map view) c.push_reserved.ensures.items
          ∙ map-append view c.loop-number.pieces.items (c.in-Some.piece ∷ [])
          ∙ ap (λ t. t ++ view c.in-Some.piece ∷ []) c.loop-number.invariant.cut
          ∙ ap (λ (p : ℕ × List ℕ). map at (range_with_len 0 i) ++ p ∷ []) c.in-Some.ensures.found
          ∙ sym (map-range_with_len_more at 0 i i (omega arith));
      room = omega arith;
    }
