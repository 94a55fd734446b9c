-- How many messages of an endpoint name one of its own sends: of those that wait, and of those that were taken out and
-- aren't received.
use Rattle.std.specs.Prelude.{◌≤◌, ℕ, ◌+◌, Bool, true, false, List, [], ◌∷◌, Some, None, ◌==◌}
use Rattle.proof_pure_network.specs.Core.{Core}
use Rattle.proof_pure_network.specs.WaitingMessages.{Body, Held, Own, Part, Whole}
use Rattle.proof_pure_network.specs.Jobs.{Closed, Collecting, Job, Offering, Over, Probed, Unmatched, Waiting}

-- 1 where a test holds
abbrev pub one : Bool → ℕ
one true = 1
one false = 0

-- how many pass a test
abbrev pub count : {A : Type 0} → (A → Bool) → List A → ℕ
count t [] = 0
count t (x ∷ xs) = one (t x) + count t xs

-- whether it is a message that was taken out and passes a test
abbrev pub taken_is : (Held → Bool) → Job → Bool
taken_is t (Waiting p) = false
taken_is t (Collecting p h got) = false
taken_is t (Offering d basic values) = false
taken_is t (Over o) = false
taken_is t Closed = false
taken_is t (Unmatched d) = false
taken_is t (Probed g None) = false
taken_is t (Probed g (Some h)) = t h

-- how many messages that wait or were taken out pass a test
abbrev pub all_of : (Held → Bool) → Core → ℕ
all_of t core = count t core.held + count (taken_is t) core.jobs

-- whether it is the message of the endpoint's own request k
abbrev pub is_own_body : ℕ → Body → Bool
is_own_body k (Whole values) = false
is_own_body k (Part j n) = false
is_own_body k (Own j values) = k == j

-- whether it came with that
abbrev pub is_own : ℕ → Held → Bool
is_own k h = is_own_body k h.body

-- how many name the endpoint's own request k
abbrev pub claims : ℕ → Core → ℕ
claims k core = all_of (is_own k) core

-- no two name the same one
abbrev pub ClaimsOnce : Core → Type 0
ClaimsOnce core = (k : ℕ) → claims k core ≤ 1
