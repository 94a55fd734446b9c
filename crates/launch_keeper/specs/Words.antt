-- The words of processes.
use Rattle.std.specs.Prelude.{ℕ, List}

-- a word is a list of bytes
abbrev pub Word : Type 0
Word = List ℕ
