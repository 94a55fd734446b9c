-- Which messages of collectives are messages of the job.
use Rattle.std.specs.Prelude.{ℕ, List, Option, Some, None, if◌then◌else◌}
use Rattle.collective_messages.specs.Arrivals.{names_beyond}
use Rattle.payload.specs.ByteMeanings.{payload_of}
use Rattle.payload.specs.Spellings.{PayloadText}

-- what a message says, unless it names a rank that a job of so many ranks lacks
abbrev pub within_job : (size : ℕ) → Option PayloadText → Option PayloadText
within_job size None = None
within_job size (Some p) = if names_beyond size p.part then None else Some p

-- what the bytes of a message say in a job of so many ranks: nothing where they can't be read, or name a rank that
-- isn't there
abbrev pub payload_in : (size : ℕ) → List ℕ → Option PayloadText
payload_in size bytes = within_job size (payload_of bytes)
