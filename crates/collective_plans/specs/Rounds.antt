-- Plans in rounds: in each, all members hand blocks to the member so many ranks on, round the end, and take as many
-- from the member so many ranks back. The blocks that one hands to another in a round are one message.
use Rattle.std.specs.Prelude.{◌≡◌, ◌<◌, ℕ, zero, suc, ◌+◌, ◌-◌, ◌/◌, ◌%◌, Bool, List, [], ◌∷◌, ◌++◌}
use Rattle.std.specs.Prelude.{if◌then◌else◌, ◌==◌, nat_lt}
use Rattle.collective_plans.specs.declared.plan.Slot.{Slot}
use Rattle.collective_plans.specs.declared.plan.Slot.TheVariants.{Given, Got, Kept}
use Rattle.collective_plans.specs.declared.plan.Step.{Step}
use Rattle.collective_plans.specs.declared.plan.Step.TheVariants.{Copy, Send, Receive}
use Rattle.collective_plans.specs.Slots.{Memory, with_block}
use Rattle.collective_plans.specs.Networks.{Folding}
use Rattle.collective_plans.specs.Ahead.{EndsAhead}

-- the rank so many ranks on, among n, where both numbers are at most n
abbrev pub on : (n r distance : ℕ) → ℕ
on n r d = if nat_lt (r + d) n then r + d else r + d - n

-- pairs of slots: from the one a block goes to the other
abbrev pub Pairs : Type 0
Pairs = List (Slot × Slot)

-- What all do: each copies blocks of its own, or hands blocks on by a distance
pub data Round : Type 0 where
  Each : (copies : (member : ℕ) → Pairs) → Round
  Shift : (distance : ℕ) → (blocks : Pairs) → Round

abbrev pub copies_of : Pairs → List Step → List Step
copies_of [] rest = rest
copies_of (p ∷ ps) rest = Copy p.0 p.1 ∷ copies_of ps rest

abbrev pub sends_of : (to : ℕ) → Pairs → List Step → List Step
sends_of to [] rest = rest
sends_of to (p ∷ ps) rest = Send to p.0 ∷ sends_of to ps rest

abbrev pub receives_of : (from : ℕ) → Pairs → List Step → List Step
receives_of s [] rest = rest
receives_of s (p ∷ ps) rest = Receive s p.1 ∷ receives_of s ps rest

-- the steps of member r of n in a round, and in all of them
abbrev pub in_round : (n r : ℕ) → Round → List Step → List Step
in_round n r (Each copies) rest = copies_of (copies r) rest
in_round n r (Shift d ps) rest = sends_of (on n r d) ps (receives_of (on n r (n - d)) ps rest)

abbrev pub in_rounds : (n r : ℕ) → List Round → List Step
in_rounds n r [] = []
in_rounds n r (x ∷ xs) = in_round n r x (in_rounds n r xs)

-- what one has once blocks were copied, or taken from what another one had
abbrev pub copied : Memory → Pairs → Memory
copied m [] = m
copied m (p ∷ ps) = copied (with_block m p.1 (m p.0)) ps

abbrev pub taken : (from : Memory) → Memory → Pairs → Memory
taken from m [] = m
taken from m (p ∷ ps) = taken from (with_block m p.1 (from p.0)) ps

-- what all have behind a round, and behind all of them
abbrev pub behind_round : (n : ℕ) → (ℕ → Memory) → Round → ℕ → Memory
behind_round n ms (Each copies) r = copied (ms r) (copies r)
behind_round n ms (Shift d ps) r = taken (ms (on n r (n - d))) (ms r) ps

abbrev pub behind_rounds : (n : ℕ) → (ℕ → Memory) → List Round → ℕ → Memory
behind_rounds n ms [] = ms
behind_rounds n ms (x ∷ xs) = behind_rounds n (behind_round n ms x) xs

-- ---- allgather: what a member has of those behind it doubles in each round (J. Bruck and others, 1997)

-- so many blocks from the first one on, each into the one so many places behind it
abbrev pub moved_on : (place count by : ℕ) → Pairs
moved_on i zero d = []
moved_on i (suc k) d = (Kept i, Kept (i + d)) ∷ moved_on (suc i) k d

-- as many more as one has, or as many as are left
abbrev pub more_of : (n have : ℕ) → ℕ
more_of n d = if nat_lt d (n - d) then d else n - d

-- a member has the blocks of so many members from itself on; it takes as many more, or those that are left
abbrev pub doubling : (rounds : ℕ) → (n have : ℕ) → List Round
doubling zero n d = []
doubling (suc k) n d =
    if nat_lt d n then Shift (n - d) (moved_on 0 (more_of n d) d) ∷ doubling k n (d + more_of n d) else []

-- so many blocks from this one on are put where they belong
abbrev pub put_where : (target : ℕ → ℕ) → (place count : ℕ) → Pairs
put_where g i zero = []
put_where g i (suc k) = (Kept i, Got (g i)) ∷ put_where g (suc i) k

abbrev pub gathering_in_rounds : (own : ℕ → Slot) → (n : ℕ) → List Round
gathering_in_rounds own n =
    Each (λ r. (own r, Kept 0) ∷ []) ∷ (doubling n n 1 ++ Each (λ r. put_where (on n r) 0 n) ∷ [])

-- ---- alltoall: a block that has so many ranks to go goes on by each power of two in that number

-- the block for the member so many ranks on
abbrev pub turned : (own : ℕ → ℕ → Slot) → (n r : ℕ) → (place count : ℕ) → Pairs
turned own n r i zero = []
turned own n r i (suc k) = (own r (on n r i), Kept i) ∷ turned own n r (suc i) k

-- those blocks that go on by this distance
abbrev pub going : (distance place count : ℕ) → Pairs
going d i zero = []
going d i (suc k) = if i / d % 2 == 1 then (Kept i, Kept i) ∷ going d (suc i) k else going d (suc i) k

abbrev pub passing : (rounds : ℕ) → (n distance : ℕ) → List Round
passing zero n d = []
passing (suc k) n d = if nat_lt d n then Shift d (going d 0 n) ∷ passing k n (d + d) else []

abbrev pub exchanging_in_rounds : (own : ℕ → ℕ → Slot) → (n : ℕ) → List Round
exchanging_in_rounds own n =
    Each (λ r. turned own n r 0 n) ∷ (passing n n 1 ++ Each (λ r. put_where (λ i. on n r (n - i)) 0 n) ∷ [])

-- ---- plans of member r of n

abbrev pub round_allgather : (n r : ℕ) → List Step
round_allgather n r = in_rounds n r (gathering_in_rounds (λ x. Given 0) n)

abbrev pub round_alltoall : (n r : ℕ) → List Step
round_alltoall n r = in_rounds n r (exchanging_in_rounds (λ x. Given) n)

-- ---- what they give

-- Block j of each result is what member j handed in, also in place: there it stands where block j of its result comes
-- (5.7)
abbrev pub RoundAllgatherGives : Type 0
RoundAllgatherGives =
    (f : Folding) (n : ℕ) (given : ℕ → Memory) (r j : ℕ) → r < n → j < n →
    EndsAhead f n (round_allgather n) given r (Got j) (given j (Given 0)) ×
    EndsAhead f n (λ x. in_rounds n x (gathering_in_rounds Got n)) given r (Got j) (given j (Got j))

-- Block j of member r's result is what member j handed in for r, also in place (5.8)
abbrev pub RoundAlltoallGives : Type 0
RoundAlltoallGives =
    (f : Folding) (n : ℕ) (given : ℕ → Memory) (r j : ℕ) → r < n → j < n →
    EndsAhead f n (round_alltoall n) given r (Got j) (given j (Given r)) ×
    EndsAhead f n (λ x. in_rounds n x (exchanging_in_rounds (λ y. Got) n)) given r (Got j) (given j (Got r))
