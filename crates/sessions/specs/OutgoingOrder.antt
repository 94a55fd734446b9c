-- The order of what goes out in one event.
use Rattle.std.specs.Prelude.{◌≡◌, ℕ, ◌+◌, ◌*◌, List, length, take, drop, nat_le, if◌then◌else◌}
use Rattle.std.specs.List.Sorted.{IsNonDecreasingBy, IsPermutation}
use Rattle.datagram.specs.ByteMeanings.{number_at}
use Rattle.sessions.specs.SessionsState.{SessionsState}

-- the number in a datagram's header
abbrev pub number_in : List ℕ → ℕ
number_in bytes = if nat_le 32 (length bytes) then number_at 24 8 bytes else 0

-- by the rank first, and then by the number
abbrev pub order_of : ℕ × List ℕ → ℕ
order_of sent = sent.0 * 18446744073709551616 + number_in sent.1

-- from a place on a list stands in that order, and what stands before is the same
pub record IsInOrder (from : ℕ) (old new : List (ℕ × List ℕ)) : Type 0 where
  pub front : take from new ≡ take from old
  pub moved : IsPermutation (drop from old) (drop from new)
  pub order : IsNonDecreasingBy order_of (drop from new)

-- the same of what went out, and nothing else is another
pub record IsArranged (from : ℕ) (old new : SessionsState) : Type 0 where
  pub same : new ≡ record old { out = new.out }
  pub out : IsInOrder from old.out new.out
