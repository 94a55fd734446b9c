-- Which numbers describe a part of a row of an array (MPI 3.1, 4.1.3).
use Rattle.std.specs.Prelude.{ℤ, pos, ◌+ℤ◌, ◌≤ℤ◌}

-- one index is taken at least, and none that the row hasn't
pub record IsPartOfRow (size subsize start : ℤ) : Type 0 where
  pub some : pos 1 ≤ℤ subsize
  pub first : pos 0 ≤ℤ start
  pub last : (start +ℤ subsize) ≤ℤ size
