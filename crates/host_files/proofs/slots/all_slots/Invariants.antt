-- The slots so far, and those of the hosts that are left, are all slots.
use Rattle.std.proofs.Common.{◌≡◌, ◌++◌, drop}
use Rattle.host_files.specs.Slots.{all_slots}
use Rattle.host_files.proofs.slots.all_slots.Given as goal

abbrev pub invariant-loop-place : goal.invariant-loop-place
invariant-loop-place l =
    l.places.items ++ all_slots l.per_host l.place (drop l.place l.hosts) ≡ all_slots l.per_host 0 l.hosts
