-- What goes over a connection to a host: pieces, each of one rank.
use Rattle.std.specs.Prelude.{◌≡◌, ◌⊎◌, ℕ, ◌+◌, ◌<◌, ◌≤◌, List, [], ◌∷◌, ◌++◌, length, slice_index, take, drop}
use Rattle.std.specs.Int.{w16, w32, from_be_bytes, to_be_bytes}

-- a piece as bytes: its kind, its rank, how many bytes it has, and these
abbrev pub frame_text : (code rank : ℕ) → List ℕ → List ℕ
frame_text code rank bytes = code ∷ to_be_bytes w16 rank ++ to_be_bytes w32 (length bytes) ++ bytes

-- the rank that the piece says
abbrev pub said_rank : List ℕ → ℕ
said_rank text = from_be_bytes w16 (slice_index text 1 ∷ slice_index text 2 ∷ [])

-- how many bytes the piece says that it has
abbrev pub said_size : List ℕ → ℕ
said_size text =
    from_be_bytes w32 (slice_index text 3 ∷ slice_index text 4 ∷ slice_index text 5 ∷ slice_index text 6 ∷ [])

-- the piece that stands whole at the front: its kind, its rank, its bytes, and what stands behind it
pub record IsFirstFrame (text : List ℕ) (code rank : ℕ) (bytes rest : List ℕ) : Type 0 where
  pub whole : 7 + said_size text ≤ length text
  pub code_is : code ≡ slice_index text 0
  pub rank_is : rank ≡ said_rank text
  pub bytes_are : bytes ≡ take (said_size text) (drop 7 text)
  pub rest_is : rest ≡ drop (said_size text) (drop 7 text)

-- no piece stands whole at the front
abbrev pub HasNoFrame : List ℕ → Type 0
HasNoFrame text = (length text < 7) ⊎ (length text < 7 + said_size text)
