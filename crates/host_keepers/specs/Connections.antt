-- Connections to hosts.
use Rattle.std.specs.Prelude.{ℕ, Bool, nat_lt}
use Rattle.std.specs.Str.{bytes_eq}
use Rattle.launch_keeper.specs.Words.{Word}

-- at most eight begin at a time
abbrev pub may_connect : ℕ → Bool
may_connect beginning = nat_lt beginning 8

-- a host has this name
abbrev pub is_name : (name other : Word) → Bool
is_name name other = bytes_eq other name
