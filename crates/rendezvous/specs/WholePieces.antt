-- Data that go in pieces: nothing is lost, and nothing is handed out before all have come.
use Rattle.std.specs.Prelude.{◌≡◌, ℕ, suc, ◌*◌, ◌≤◌, true, false, List, [], ◌∷◌, length}
use Rattle.std.specs.List.{flat_map}
use Rattle.vocabulary.specs.declared.basic_type.BasicType.{BasicType}
use Rattle.vocabulary.specs.BasicTypes.{size_of}
use Rattle.datatypes.specs.Contents.{bytes_of}
use Rattle.vocabulary.specs.MessageLimits.{frame_limit_of}
use Rattle.vocabulary.specs.declared.message_limit.MessageLimit.{MessageLimit}
use Rattle.rendezvous.specs.Pieces.{pieces_of}
use Rattle.rendezvous.specs.Collections.{Collecting, beginning, is_next_data, with_piece, is_whole}
use Rattle.rendezvous.specs.WholeMessages.{collected_of}

-- the bytes of pieces, one after the other
abbrev pub joined : List (ℕ × List ℕ) → List ℕ
joined pieces = flat_map (λ p. p.1) pieces

-- a piece before others has as many bytes as a piece can have
abbrev pub IsFullBefore : (rest : List (ℕ × List ℕ)) → (size : ℕ) → List ℕ → Type 0
IsFullBefore [] size bytes = Unit {0}
IsFullBefore (next ∷ rest) size bytes = length bytes ≡ size

-- a piece stands at a multiple of the size, and has 1 to so many bytes; only the last one may have fewer
pub record IsCut (size number : ℕ) (piece : ℕ × List ℕ) (rest : List (ℕ × List ℕ)) : Type 0 where
  pub offset : piece.0 ≡ number * size
  pub some : 1 ≤ length piece.1
  pub most : length piece.1 ≤ size
  pub full : IsFullBefore rest size piece.1

-- the same of all pieces, which count from a number on
abbrev pub AreCut : (size number : ℕ) → List (ℕ × List ℕ) → Type 0
AreCut size number [] = Unit {0}
AreCut size number (p ∷ ps) = IsCut size number p ps × AreCut size (suc number) ps

-- the pieces of data, of so many bytes each: put together they are the data
pub record ArePieces (size : ℕ) (bytes : List ℕ) (pieces : List (ℕ × List ℕ)) : Type 0 where
  pub all : joined pieces ≡ bytes
  pub cut : AreCut size 0 pieces

-- a collection takes pieces in order, each of which is due, and is whole with the last one and not before
abbrev pub AreTaken : Collecting → List (ℕ × List ℕ) → Collecting → Type 0
AreTaken c [] last = c ≡ last
AreTaken c (p ∷ []) last =
    (is_next_data c p.0 p.1 ≡ true) × (is_whole (with_piece c p.1) ≡ true) × (with_piece c p.1 ≡ last)
AreTaken c (p ∷ q ∷ ps) last =
    (is_next_data c p.0 p.1 ≡ true) × (is_whole (with_piece c p.1) ≡ false) × AreTaken (with_piece c p.1) (q ∷ ps) last

-- the elements of a message that comes in pieces: a new collection of that size takes all pieces, and gives just them
pub record ArriveWhole (limit : MessageLimit) (source transfer request : ℕ) (basic : BasicType) (values : List ℕ) : Type 0 where
  pub last : Collecting
  pub taken : AreTaken (beginning limit source transfer request basic (length values))
      (pieces_of (frame_limit_of limit) (bytes_of (size_of basic) values)) last
  pub whole : collected_of last ≡ record { request = request; elements = record { basic = basic; values = values } }
