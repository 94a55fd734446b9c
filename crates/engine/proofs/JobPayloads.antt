-- What is read of a message of the job is what its bytes say.
use Rattle.std.proofs.Common.{◌≡◌, ℕ, Bool, true, false, List, Option, Some, None, if◌then◌else◌, refl, subst}
use Rattle.collective_messages.specs.Arrivals.{names_beyond}
use Rattle.payload.specs.ByteMeanings.{payload_of}
use Rattle.payload.specs.Spellings.{PayloadText}
use Rattle.engine.specs.JobPayloads.{payload_in, within_job}

by_test : (b : Bool) (q p : PayloadText) → (if b then None else Some q) ≡ Some p → (Some q ≡ Some p) × (b ≡ false)
by_test true q p is = absurd cc
by_test false q p is = (is, refl)

read_by : (size : ℕ) (o : Option PayloadText) (p : PayloadText) → within_job size o ≡ Some p →
    (o ≡ Some p) × (names_beyond size p.part ≡ false)
read_by size None p is = absurd cc
read_by size (Some q) p is =
    let t = by_test (names_beyond size q.part) q p is in
    let same : q ≡ p = cc in
    (t.0, subst (λ (x : PayloadText). names_beyond size x.part ≡ false) same t.1)

-- the payload stands in the bytes, and names no rank that the job lacks
pub is_read : (size : ℕ) (bytes : List ℕ) (p : PayloadText) → payload_in size bytes ≡ Some p →
    (payload_of bytes ≡ Some p) × (names_beyond size p.part ≡ false)
is_read size bytes p is = read_by size (payload_of bytes) p is
