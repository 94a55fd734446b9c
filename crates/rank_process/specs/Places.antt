-- What the settings of a rank say of its engine, its script and its ports.
use Rattle.std.specs.Prelude.{◌≡◌, ◌⊎◌, ℕ, ◌-◌, List, Option, Some, None}
use Rattle.std.specs.Borrow.{Bor}
use Rattle.std.specs.List.{slice_split}
use Rattle.std.specs.declared.net.ipv4_addr.Ipv4Addr.{Ipv4Addr}
use Rattle.rank_addresses.specs.Addresses.{AreLocal}
use Rattle.rank_addresses.specs.HostLists.{IsHostList, IsNoHostList, is_comma}
use Rattle.rank_addresses.specs.declared.addresses.RankAddresses.{RankAddresses}
use Rattle.incarnation.specs.declared.place.Place.{Place}
use Rattle.vocabulary.specs.MessageLimits.{least}
use Rattle.rank_settings.specs.declared.settings.Settings.{Settings}
use Rattle.round_trips.specs.Trips.{near, unknown}
use Rattle.round_trips.specs.declared.round_trip.RoundTrip.{RoundTrip}

-- where the rank stands in its job, whose messages have the limit of scripts
abbrev pub place_of : Settings → Place
place_of s = record {
  endpoint = record { rank = s.rank; incarnation = s.incarnation };
  size = s.size;
  job = s.job;
  message_limit = least;
}

-- the port of rank 0: rank s has the port that is s above
abbrev pub first_port : Settings → ℕ
first_port s = s.port - s.rank

-- what is known of round trips at the start: nothing of any rank, where the settings list hosts; else that all ranks are
-- near
abbrev pub trips_by : Option (Bor (List ℕ)) → (size : ℕ) → List RoundTrip
trips_by (Some text) size = unknown size
trips_by None size = near size

abbrev pub KnowsTrips : Settings → List RoundTrip → Type 0
KnowsTrips s trips = trips ≡ trips_by s.hosts s.size

-- the addresses that a text lists, if there is one that does
abbrev pub AreListed : Option (Bor (List ℕ)) → Option (List Ipv4Addr) → Type 0
AreListed (Some text) (Some hosts) = IsHostList (slice_split is_comma text.now) hosts
AreListed (Some text) None = IsNoHostList (slice_split is_comma text.now)
AreListed None (Some hosts) = ⊥
AreListed None None = Unit {0}

-- the ranks are where the settings say: at the addresses that they list, or, where they list none, all at 127.0.0.1
abbrev pub AreAt : Option (Bor (List ℕ)) → (size first : ℕ) → RankAddresses → Type 0
AreAt None size first all = AreLocal size first all
AreAt (Some text) size first all =
    (IsHostList (slice_split is_comma text.now) all.hosts.items × (all.first_port ≡ first))
    ⊎ (IsNoHostList (slice_split is_comma text.now) × AreLocal size first all)

abbrev pub AreAddresses : Settings → RankAddresses → Type 0
AreAddresses s all = AreAt s.hosts s.size (first_port s) all
