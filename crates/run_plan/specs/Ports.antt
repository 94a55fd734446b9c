-- The ports that jobs may take, in blocks.
use Rattle.std.specs.Prelude.{ℕ, ◌+◌, ◌*◌, ◌<◌, ◌≤◌}

-- the first port of a block of 64
abbrev pub block_port : ℕ → ℕ
block_port block = 16384 + block * 64

-- so many blocks of 64 ports have a port for each of so many ranks, and one fewer have not
pub record IsEnough (size blocks : ℕ) : Type 0 where
  pub enough : size ≤ blocks * 64
  pub few : blocks * 64 < size + 64
