-- The frames of pieces say what the pieces do.
use Rattle.std.proofs.Common.{◌≡◌, ℕ, List, [], ◌∷◌, map, refl, ap, ◌∙◌}
use Rattle.datagram.specs.Spellings.{OutgoingText, outgoing_text}
use Rattle.rendezvous.specs.declared.piece.Piece.{Piece}
use Rattle.datagram.specs.declared.frame.Outgoing.{Outgoing}
use Rattle.point_to_point_calls.specs.FrameNews.{data_frame, data_frames, framed}

go : (rank transfer : ℕ) (ps : List Piece) →
    map outgoing_text (map (framed rank transfer) ps)
    ≡ map (data_frame rank transfer) (map (λ p. (p.offset, p.bytes.now)) ps)
go rank transfer [] = refl
go rank transfer (p ∷ ps) =
    ap (λ (fs : List OutgoingText). data_frame rank transfer (p.offset, p.bytes.now) ∷ fs) (go rank transfer ps)

pub frames_are : (rank transfer : ℕ) (fs : List Outgoing) (ps : List Piece) (xs : List (ℕ × List ℕ)) →
    fs ≡ map (framed rank transfer) ps →
    map (λ p. (p.offset, p.bytes.now)) ps ≡ xs → map outgoing_text fs ≡ data_frames rank transfer xs
frames_are rank transfer fs ps xs made are = ap (map outgoing_text) made ∙ go rank transfer ps ∙
    ap (map (data_frame rank transfer)) are
