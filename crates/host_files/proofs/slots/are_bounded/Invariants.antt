use Rattle.std.proofs.Common.{◌≡◌, drop}
use Rattle.host_files.specs.Slots.{are_bounded}
use Rattle.host_files.proofs.slots.are_bounded.Given as goal

abbrev pub invariant-loop-host : goal.invariant-loop-host
invariant-loop-host l = are_bounded (drop l.host-index l.hosts) ≡ are_bounded l.hosts
