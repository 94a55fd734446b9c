-- Sets of ranks, as one bit each.
use Rattle.std.specs.Prelude.{◌≡◌, ◌≢◌, ℕ, ◌/◌, ◌%◌, ◌==◌, Bool, true, List, slice_index}
use Rattle.std.specs.Int.{bit_at}

-- whether the bit of a rank is set in these words of 64 bits
abbrev pub is_marked : List ℕ → ℕ → Bool
is_marked words rank = bit_at (slice_index words (rank / 64)) (rank % 64) == 1

-- the bit of one rank is set now, and every other bit is as it was
pub record Marks (old new : List ℕ) (rank : ℕ) : Type 0 where
  pub marked : is_marked new rank ≡ true
  pub others : (other : ℕ) → other ≢ rank → is_marked new other ≡ is_marked old other
