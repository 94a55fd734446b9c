-- The hosts so far are all at 127.0.0.1.
use Rattle.std.proofs.Common.{◌≡◌, ◌∷◌, [], map, replicate}
use Rattle.std.specs.Net.Addr.{ipv4_octets}
use Rattle.rank_addresses.proofs.addresses.local_hosts.Given as goal

abbrev pub invariant-loop : goal.invariant-loop
invariant-loop l = map ipv4_octets l.hosts.items ≡ replicate l.counter (127 ∷ 0 ∷ 0 ∷ 1 ∷ [])
