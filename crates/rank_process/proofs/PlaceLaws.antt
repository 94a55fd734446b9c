-- Where the ranks of settings are.
use Rattle.std.proofs.Common.{◌≡◌, ℕ, List, inl, inr}
use Rattle.std.specs.Prelude.{MatchOption, Option, Some, None, option_map}
use Rattle.std.specs.Borrow.{Bor}
use Rattle.std.specs.Global.{Vec}
use Rattle.std.specs.List.{slice_split}
use Rattle.std.specs.declared.net.ipv4_addr.Ipv4Addr.{Ipv4Addr}
use Rattle.rank_addresses.specs.Addresses.{AreLocal}
use Rattle.rank_addresses.specs.HostLists.{IsHostList, IsNoHostList, is_comma}
use Rattle.rank_addresses.specs.declared.addresses.RankAddresses.{RankAddresses}
use Rattle.rank_process.specs.Places.{AreAt, AreListed}

-- what a text lists, or that it lists nothing
pub found_listed : (text : Bor (List ℕ)) (found : Option (Vec Ipv4Addr)) →
    MatchOption found (IsNoHostList (slice_split is_comma text.now))
    (λ hosts. IsHostList (slice_split is_comma text.now) hosts.items) →
    AreListed (Some text) (option_map (λ hosts. hosts.items) found)
found_listed text None is = is
found_listed text (Some hosts) is = is

-- the ranks are at the addresses that are listed
pub listed_at : (text : Option (Bor (List ℕ))) (size first : ℕ) (all : RankAddresses) →
    AreListed text (Some all.hosts.items) → all.first_port ≡ first → AreAt text size first all
listed_at None size first all is same = absurd is
listed_at (Some text) size first all is same = inl (is, same)

-- the ranks are at 127.0.0.1 where no addresses are listed
pub local_at : (text : Option (Bor (List ℕ))) (size first : ℕ) (all : RankAddresses) →
    AreListed text None → AreLocal size first all → AreAt text size first all
local_at None size first all none local = local
local_at (Some text) size first all none local = inr (none, local)
