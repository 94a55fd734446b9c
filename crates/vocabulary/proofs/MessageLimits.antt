-- The bounds of a message's limit, for the crates above.
use Rattle.std.proofs.Common.{◌≡◌, refl, ◌≤◌, Bool, true, false, nat_lt, if◌then◌else◌, ◌+◌, ◌*◌, ◌%◌, arith}
use Rattle.vocabulary.specs.MessageLimits.{frame_limit_of, limit_of}
use Rattle.vocabulary.specs.declared.message_limit.MessageLimit.{MessageLimit}
use Rattle.std.proofs.lemmas.Bool.{ltb-true}

-- by whether it is below the greatest
at_most : (l : MessageLimit) (b : Bool) → nat_lt l.beyond 2146435071 ≡ b →
    (if b then 1048576 + l.beyond else 2147483647) ≤ 2147483647
at_most l true e = let below = ltb-true l.beyond 2146435071 e in omega (arith, below)
at_most l false e = omega arith

at_least : (l : MessageLimit) (b : Bool) → 1048576 ≤ (if b then 1048576 + l.beyond else 2147483647)
at_least l true = omega arith
at_least l false = omega arith

-- a limit is at most the greatest
pub limit_most : (l : MessageLimit) → limit_of l ≤ 2147483647
unfolding limit_of
limit_most l = at_most l (nat_lt l.beyond 2146435071) refl

-- and at least the least
pub limit_least : (l : MessageLimit) → 1048576 ≤ limit_of l
unfolding limit_of
limit_least l = at_least l (nat_lt l.beyond 2146435071)

-- by whether its frame is below the greatest
frame_at_most : (l : MessageLimit) (b : Bool) → nat_lt l.frame 7552 ≡ b →
    (if b then 1024 + 8 * l.frame else 61440) ≤ 61440
frame_at_most l true e = let below = ltb-true l.frame 7552 e in omega (arith, below)
frame_at_most l false e = omega arith

frame_at_least : (l : MessageLimit) (b : Bool) → 1024 ≤ (if b then 1024 + 8 * l.frame else 61440)
frame_at_least l true = omega arith
frame_at_least l false = omega arith

-- a frame has at most 61,440 bytes of data
pub frame_most : (l : MessageLimit) → frame_limit_of l ≤ 61440
unfolding frame_limit_of
frame_most l = frame_at_most l (nat_lt l.frame 7552) refl

-- and may have 1,024
pub frame_least : (l : MessageLimit) → 1024 ≤ frame_limit_of l
unfolding frame_limit_of
frame_least l = frame_at_least l (nat_lt l.frame 7552)

frame_is_whole : (l : MessageLimit) (b : Bool) → (if b then 1024 + 8 * l.frame else 61440) % 8 ≡ 0
frame_is_whole l true = omega arith
frame_is_whole l false = refl

-- and holds whole elements of each type
pub frame_whole : (l : MessageLimit) → frame_limit_of l % 8 ≡ 0
unfolding frame_limit_of
frame_whole l = frame_is_whole l (nat_lt l.frame 7552)
