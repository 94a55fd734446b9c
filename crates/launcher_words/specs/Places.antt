-- Where a rank is, as a text.
use Rattle.std.specs.Prelude.{ℕ, ◌<◌, ◌≤◌, ◌≡◌, ◌^◌, List, [], ◌∷◌, ◌++◌, Option, Some, None}
use Rattle.std.specs.Fmt.{decimal}
use Rattle.std.specs.Net.Addr.{IsIpv4Addr, ipv4_octets}
use Rattle.std.specs.Net.Text.{ipv4_text}
use Rattle.std.specs.declared.net.ipv4_addr.Ipv4Addr.{Ipv4Addr}
use Rattle.launcher_words.specs.declared.place.ToldPlace.{ToldPlace}

-- four decimal numbers without leading zeros, with dots between them
abbrev pub address_text : Ipv4Addr → List ℕ
address_text host = ipv4_text (ipv4_octets host)

-- the job's number behind a colon, where it is told
abbrev pub job_text : Option ℕ → List ℕ
job_text None = []
job_text (Some job) = 58 ∷ decimal job

-- what stands behind the colon behind the address
abbrev pub tail_text : (port : ℕ) (job : Option ℕ) → List ℕ
tail_text port job = decimal port ++ job_text job

-- `address:port`, or `address:port:job`
abbrev pub place_text : ToldPlace → List ℕ
place_text place = address_text place.host ++ 58 ∷ tail_text place.port place.job

-- rank 0 tells the job's number, and no other rank does
abbrev pub IsJobOf : (rank : ℕ) → Option ℕ → Type 0
IsJobOf rank None = 0 < rank
IsJobOf rank (Some job) = (rank ≡ 0) × (job < 2 ^ 64)

-- a port and a job's number that a rank may tell
pub record IsTail (rank port : ℕ) (job : Option ℕ) : Type 0 where
  pub least : 1 ≤ port
  pub most : port ≤ 65535
  pub fits : IsJobOf rank job

-- a place that a rank may tell
pub record IsPlace (rank : ℕ) (place : ToldPlace) : Type 0 where
  pub host : IsIpv4Addr place.host
  pub tail : IsTail rank place.port place.job
