-- The ranks at the places so far.
use Rattle.std.proofs.Common.{◌≡◌, take}
use Rattle.collective_messages.specs.Roles.{ranks_at}
use Rattle.collective_messages.proofs.role.ranks_at.Given as goal

abbrev pub invariant-loop-place : goal.invariant-loop-place
invariant-loop-place l = l.found.items ≡ ranks_at l.ranks (take l.place-index l.places)
