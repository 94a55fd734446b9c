-- Lists of addresses as texts.
use Rattle.std.specs.Prelude.{◌≡◌, ℕ, ◌==◌, ◌<◌, ◌≤◌, Bool, List, [], ◌∷◌, ◌++◌, get_or, length}
use Rattle.std.specs.List.{slice_split}
use Rattle.std.specs.Net.Addr.{ipv4_octets}
use Rattle.std.specs.Net.Grammar.{IsIpv4Text}
use Rattle.std.specs.Net.Text.{ipv4_text}
use Rattle.std.specs.declared.net.ipv4_addr.Ipv4Addr.{Ipv4Addr}

-- addresses stand apart by commas
abbrev pub is_comma : ℕ → Bool
is_comma byte = byte == 44

-- the text of some address: four decimal numbers below 256 without leading zeros, with dots between them
abbrev pub IsAddressText : List ℕ → Type 0
IsAddressText word = (host : Ipv4Addr) × IsIpv4Text word host

-- each word is the text of an address
abbrev pub AreAddresses : List (List ℕ) → Type 0
AreAddresses words = (k : ℕ) (d : List ℕ) → 0 ≤ k → k < length words → IsAddressText (get_or words k d)

-- these words write these addresses, in order
abbrev pub IsHostList : List (List ℕ) → List Ipv4Addr → Type 0
IsHostList [] [] = Unit {0}
IsHostList [] (host ∷ hosts) = ⊥
IsHostList (word ∷ words) [] = ⊥
IsHostList (word ∷ words) (host ∷ hosts) = IsIpv4Text word host × IsHostList words hosts

-- these words write no addresses
abbrev pub IsNoHostList : List (List ℕ) → Type 0
IsNoHostList words = (hosts : List Ipv4Addr) → IsHostList words hosts → ⊥

-- the text lists so many addresses
abbrev pub Lists : List ℕ → ℕ → Type 0
Lists text count = (hosts : List Ipv4Addr) × IsHostList (slice_split is_comma text) hosts × (length hosts ≡ count)

-- an address as a text
abbrev pub address_text : Ipv4Addr → List ℕ
address_text host = ipv4_text (ipv4_octets host)

-- what stands behind the first address of a list
abbrev pub behind_first : List Ipv4Addr → List ℕ
behind_first [] = []
behind_first (host ∷ hosts) = 44 ∷ address_text host ++ behind_first hosts

-- the text that lists addresses
abbrev pub list_text : List Ipv4Addr → List ℕ
list_text [] = []
list_text (host ∷ hosts) = address_text host ++ behind_first hosts
