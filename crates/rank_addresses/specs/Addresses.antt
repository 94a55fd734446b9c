-- Where the ranks of a job are, and whose a datagram is.
use Rattle.std.specs.Prelude.{◌≡◌, ℕ, ◌+◌, ◌-◌, ◌*◌, List, [], ◌∷◌, length, map, replicate, nat_lt, nat_le, slice_get}
use Rattle.std.specs.Prelude.{slice_index, Option, Some, None, option_map, option_and_then, if◌then◌else◌}
use Rattle.std.specs.Net.Addr.{ipv4_octets}
use Rattle.std.specs.declared.net.ipv4_addr.Ipv4Addr.{Ipv4Addr}
use Rattle.std.specs.declared.net.socket_addr.SocketAddrV4.{SocketAddrV4}
use Rattle.std.specs.declared.net.socket_addr.SocketAddr.{SocketAddr}
use Rattle.std.specs.declared.net.socket_addr.SocketAddr.TheVariants.{V4}
use Rattle.rank_addresses.specs.declared.addresses.RankAddresses.{RankAddresses}

-- a port of an address
abbrev pub socket_at : Ipv4Addr → ℕ → SocketAddrV4
socket_at host port = record { ip = host; port = port }

-- where a rank is: at its own address, and at the port of rank 0 and its number, where there is such a port
abbrev pub at_rank : List Ipv4Addr → (first rank : ℕ) → Option SocketAddrV4
at_rank hosts first rank =
    if nat_le (first + rank) 65535
    then option_map (λ host. socket_at host (first + rank)) (slice_get hosts rank) else None

-- where the rank is that has this port
abbrev pub at_port : List Ipv4Addr → (first port : ℕ) → Option SocketAddrV4
at_port hosts first port = if nat_lt port first then None else at_rank hosts first (port - first)

-- the rank that a datagram's bytes 6 and 7 name, the higher byte first
abbrev pub named_rank : List ℕ → Option ℕ
named_rank datagram =
    if nat_lt (length datagram) 8 then None else Some (slice_index datagram 6 * 256 + slice_index datagram 7)

-- the datagram comes from where the rank is that it names
abbrev pub IsFromNamed : List Ipv4Addr → ℕ → List ℕ → SocketAddr → Type 0
IsFromNamed hosts first datagram from =
    (place : SocketAddrV4) × (option_and_then (at_rank hosts first) (named_rank datagram) ≡ Some place)
    × (from ≡ V4 place)

-- so many ranks, all at 127.0.0.1
abbrev pub AreLocal : (size first : ℕ) → RankAddresses → Type 0
AreLocal size first all =
    (map ipv4_octets all.hosts.items ≡ replicate size (127 ∷ 0 ∷ 0 ∷ 1 ∷ [])) × (all.first_port ≡ first)
