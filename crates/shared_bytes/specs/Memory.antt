-- Which bytes runs are, and when two lists of them share one.
use Rattle.std.specs.Prelude.{ℕ, ◌+◌, ◌-◌, ◌*◌, ◌^◌, ◌<◌, ◌≤◌, List, length, get_or}
use Rattle.shared_bytes.specs.declared.runs.ByteRun.{ByteRun}

-- where a row begins
abbrev pub piece_at : ByteRun → ℕ → ℕ
piece_at r n = r.at + n * r.stride

-- the byte at an address is in this row
pub record IsInPiece (address : ℕ) (r : ByteRun) (n : ℕ) : Type 0 where
  pub there : n < r.count
  pub from : piece_at r n ≤ address
  pub before : address < piece_at r n + r.length

-- it is in one of the rows of a run
pub record IsIn (address : ℕ) (r : ByteRun) : Type 0 where
  pub piece : ℕ
  pub is_in : IsInPiece address r piece

-- the last row ends within 64 bits
abbrev pub IsWithinMemory : ByteRun → Type 0
IsWithinMemory r = r.at + (r.count - 1) * r.stride + r.length < 2 ^ 64

-- a run without bytes
abbrev pub no_run : ByteRun
no_run = record { at = 0; length = 0; count = 0; stride = 0 }

abbrev pub AreWithinMemory : List ByteRun → Type 0
AreWithinMemory rs = (i : ℕ) → i < length rs → IsWithinMemory (get_or rs i no_run)

-- it is in one of some runs
pub record IsInOne (address : ℕ) (rs : List ByteRun) : Type 0 where
  pub index : ℕ
  pub there : index < length rs
  pub is_in : IsIn address (get_or rs index no_run)

-- two runs, a run and one of some, and two lists of runs share a byte
pub record Meet (r s : ByteRun) : Type 0 where
  pub address : ℕ
  pub in_one : IsIn address r
  pub in_other : IsIn address s

pub record MeetOne (r : ByteRun) (ss : List ByteRun) : Type 0 where
  pub address : ℕ
  pub in_one : IsIn address r
  pub in_other : IsInOne address ss

pub record Share (rs ss : List ByteRun) : Type 0 where
  pub address : ℕ
  pub in_one : IsInOne address rs
  pub in_other : IsInOne address ss
