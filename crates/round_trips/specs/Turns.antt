-- How many of the engines of one process are told at once that frames may go again.
use Rattle.std.specs.Prelude.{ℕ, ◌+◌, ◌*◌, ◌/◌, min, max}

-- So many of `count` engines, where so many milliseconds have passed: 64 in each, or as many as make a twentieth of all;
-- and no more than there are.
abbrev pub told_at_once : (count passed : ℕ) → ℕ
told_at_once count passed = min (max 64 (count / 20 + 1) * passed) count
