-- How much of what was sent to a rank isn't known to have been received, and how the next send goes.
use Rattle.std.specs.Prelude.{ℕ, Bool, ◌+◌, ◌-◌, ◌&&◌, nat_le, nat_lt, if◌then◌else◌}
use Rattle.unasked_sends.specs.declared.counts.Course.{Course}
use Rattle.unasked_sends.specs.declared.counts.Course.TheVariants.{Announced, AtOnce, Synchronous}
use Rattle.unasked_sends.specs.declared.counts.SentRecord.{SentRecord}

-- what a message of so many bytes counts
abbrev pub weight : ℕ → ℕ
weight bytes = bytes + 64

-- what waits, as far as is known
abbrev pub waiting : SentRecord → ℕ
waiting r = r.sent - r.received

-- what was sent behind a send that goes so
abbrev pub counted : Course → (bytes : ℕ) → SentRecord → SentRecord
counted AtOnce bytes r = record { sent = r.sent + weight bytes; received = r.received }
counted Announced bytes r = r
counted Synchronous bytes r = r

-- whether one more message may wait: no more than the bound does then, and 64 bits hold the count
abbrev pub has_room : (bound bytes : ℕ) → SentRecord → Bool
has_room bound bytes r =
    nat_lt (r.sent + weight bytes) 18446744073709551616 && nat_le (r.sent + weight bytes - r.received) bound

-- how a standard send goes
abbrev pub course : (frame bound bytes : ℕ) → SentRecord → Course
course frame bound bytes r =
    if nat_lt frame bytes then Announced else (if has_room bound bytes r then AtOnce else Synchronous)

-- a course as a number
abbrev pub course_number : Course → ℕ
course_number AtOnce = 0
course_number Announced = 1
course_number Synchronous = 2
