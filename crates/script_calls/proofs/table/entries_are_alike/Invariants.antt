-- The entries that were looked at are the same in both.
use Rattle.std.proofs.Common.{◌≡◌, take}
use Rattle.script_calls.proofs.table.entries_are_alike.Given as goal
use Rattle.script_calls.specs.Tables.{entries_of}

abbrev pub invariant-loop-place : goal.invariant-loop-place
invariant-loop-place g l = take l.place (entries_of l.these) ≡ take l.place (entries_of l.those)
