-- The numbers of errors that a rank tells of itself (MPI 3.1, 8.4). All others come with the replies of its engine.
use Rattle.std.specs.Prelude.{ℕ}

-- a block of a collective is above all limits
abbrev pub err_count : ℕ
err_count = 1

-- a message is received a second time
abbrev pub err_request : ℕ
err_request = 6

-- a member of a collective was started anew; MPI 3.1 has no such class
abbrev pub err_replaced : ℕ
err_replaced = 11

-- two members of a collective entered different ones; MPI 3.1 has no such class
abbrev pub err_mismatch : ℕ
err_mismatch = 12

-- a layout passes a limit
abbrev pub err_limit : ℕ
err_limit = 13

-- an answer isn't one to the call that it was awaited for
abbrev pub err_intern : ℕ
err_intern = 15
