-- How long a message of a job may be, and how much of one goes in a frame.
use Rattle.std.specs.Prelude.{ℕ, ◌+◌, ◌*◌, nat_lt, if◌then◌else◌}
use Rattle.vocabulary.specs.declared.message_limit.MessageLimit.{MessageLimit}

-- The most bytes of data that a message may have: from 1,048,576 to 2,147,483,647 (our own)
unfoldable pub limit_of : MessageLimit → ℕ
limit_of l = if nat_lt l.beyond 2146435071 then 1048576 + l.beyond else 2147483647

-- The most bytes of data that a frame has, and so that a message has whose send is over at once: from 1,024 to 61,440,
-- and a multiple of 8, so that it holds whole elements of each type (our own)
unfoldable pub frame_limit_of : MessageLimit → ℕ
frame_limit_of l = if nat_lt l.frame 7552 then 1024 + 8 * l.frame else 61440

-- the least limit: that of scripts and of files of events, of which a frame has 1,024 bytes
abbrev pub least : MessageLimit
least = record { beyond = 0; frame = 0 }

-- the greatest limit, with frames of 1,024 bytes
abbrev pub greatest : MessageLimit
greatest = record { beyond = 2146435071; frame = 0 }
