-- Buffers whose last elements are zeros that aren't written.
use Rattle.std.specs.Prelude.{◌≤◌, ◌<◌, ℕ, zero, suc, ◌+◌, ◌*◌, List, ◌++◌, length, replicate}
use Rattle.vocabulary.specs.declared.basic_type.BasicType.{BasicType}
use Rattle.datatypes.specs.Contents.{Contents, AreWhole}

-- the most bytes of a buffer that is written from the start
abbrev pub most_written : ℕ
most_written = 61440

-- elements that stand in memory, and how many zeros are to stand behind them
pub record StoreState : Type 0 where
  pub basic : BasicType
  pub values : List ℕ
  pub unwritten : ℕ

-- elements, and so many zeros behind them
abbrev pub with_zeros : List ℕ → (unwritten : ℕ) → List ℕ
with_zeros values zero = values
with_zeros values (suc n) = values ++ replicate (suc n) 0

-- the elements of a store, all of them
abbrev pub all_of : StoreState → Contents
all_of s = record { basic = s.basic; values = with_zeros s.values s.unwritten }

-- those that stand in memory
abbrev pub written_of : StoreState → Contents
written_of s = record { basic = s.basic; values = s.values }

-- a store of elements, none of which is left to be written
abbrev pub store_of : Contents → StoreState
store_of c = record { basic = c.basic; values = c.values; unwritten = 0 }

-- whole elements, and memory for the zeros behind them; where there are zeros, there are many bytes
pub record IsStored (size unwritten : ℕ) (bytes : List ℕ) (capacity : ℕ) : Type 0 where
  pub whole : AreWhole size bytes
  pub room : length bytes + unwritten * size ≤ capacity
  pub many : 0 < unwritten → most_written < length bytes + unwritten * size
