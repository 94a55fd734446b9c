-- What was looked at is the same in both.
use Rattle.std.proofs.Common.{◌≡◌, ℕ, ◌<◌}
use Rattle.slab.specs.Slab.{get}
use Rattle.requests.proofs.standing.have_same_entries.Given as goal

abbrev pub invariant-loop-key : goal.invariant-loop-key
invariant-loop-key g l = (k : ℕ) → k < l.key → get l.these k ≡ get l.those k
