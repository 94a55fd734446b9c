-- Members that begin receives ahead: a receive is begun in its turn, and later steps are taken before its block has
-- come, as long as they don't name the slot that it comes into. So do the C library and every nonblocking collective.
use Rattle.std.specs.Prelude.{◌≡◌, ◌<◌, ℕ, zero, suc, ◌-◌, Bool, false, ◌||◌, List, [], ◌∷◌, ◌++◌, if◌then◌else◌, ◌==◌}
use Rattle.collective_plans.specs.declared.plan.Slot.{Slot}
use Rattle.collective_plans.specs.declared.plan.Slot.TheVariants.{Given, Got, Kept}
use Rattle.collective_plans.specs.declared.plan.Step.{Step}
use Rattle.collective_plans.specs.declared.plan.Step.TheVariants.{Copy, Send, Receive, Fold}
use Rattle.collective_plans.specs.Exchanges.{allgather, alltoall, exchange, folds, reduce_scatter_block, scan}
use Rattle.collective_plans.specs.Slots.{Block, Memory, is_slot, with_block}
use Rattle.collective_plans.specs.Networks.{Folding, with_queue}
use Rattle.collective_plans.specs.PlanLaws.{among, folded}

-- receives that were begun: from whom, and into which slot
abbrev pub Begun : Type 0
Begun = List (ℕ × Slot)

-- a member on its way: the receives that it has begun and whose blocks haven't come, the steps that are left, its slots
pub record Ahead : Type 0 where
  pub begun : Begun
  pub steps : List Step
  pub memory : Memory

pub record AheadNetwork : Type 0 where
  pub at : (rank : ℕ) → Ahead
  pub queue : (sender receiver : ℕ) → List Block

-- whether a step can't be taken before a receive has its block: it names the slot, or receives from the same sender
abbrev pub meets : Step → ℕ × Slot → Bool
meets (Copy from into) p = is_slot from p.1 || is_slot into p.1
meets (Send to from) p = is_slot from p.1
meets (Receive s into) p = (s == p.0) || is_slot into p.1
meets (Fold low high into) p = is_slot low p.1 || (is_slot high p.1 || is_slot into p.1)

abbrev pub meets_any : Step → Begun → Bool
meets_any x [] = false
meets_any x (p ∷ ps) = meets x p || meets_any x ps

abbrev pub with_ahead : (ℕ → Ahead) → (rank : ℕ) → Ahead → ℕ → Ahead
with_ahead at r c x = if x == r then c else at x

abbrev pub goes_ahead : AheadNetwork → (rank : ℕ) → Begun → List Step → Memory → AheadNetwork
goes_ahead net r bg rest m =
    record net { at = with_ahead net.at r (record { begun = bg; steps = rest; memory = m }) }

-- a member takes the first of these steps: a receive is begun; all else waits for the receives that it meets
abbrev pub steps_ahead : Folding → AheadNetwork → (rank : ℕ) → Begun → Memory → List Step → AheadNetwork
steps_ahead f net r bg m [] = net
steps_ahead f net r bg m (Receive s into ∷ rest) = goes_ahead net r (bg ++ (s, into) ∷ []) rest m
steps_ahead f net r bg m (Copy from into ∷ rest) =
    if meets_any (Copy from into) bg then net else goes_ahead net r bg rest (with_block m into (m from))
steps_ahead f net r bg m (Send to from ∷ rest) =
    if meets_any (Send to from) bg then net else record (goes_ahead net r bg rest m) {
      queue = with_queue net.queue r to (net.queue r to ++ m from ∷ []);
    }
steps_ahead f net r bg m (Fold low high into ∷ rest) =
    if meets_any (Fold low high into) bg then net
    else goes_ahead net r bg rest (with_block m into (f (m low) (m high)))

-- the next block of a queue, if there is one, comes to a receive that was begun
abbrev pub arrives : AheadNetwork → (rank : ℕ) → ℕ × Slot → (others : Begun) → Memory → List Step → List Block →
    AheadNetwork
arrives net r p bg m ss [] = net
arrives net r p bg m ss (b ∷ bs) =
    record (goes_ahead net r bg ss (with_block m p.1 b)) { queue = with_queue net.queue p.0 r bs }

-- a block comes to the receive at this place: of those from one sender, and of those into one slot, to the first
abbrev pub comes : AheadNetwork → (rank : ℕ) → (earlier later : Begun) → (place : ℕ) → Memory → List Step → AheadNetwork
comes net r earlier [] k m ss = net
comes net r earlier (p ∷ later) zero m ss =
    if meets_any (Receive p.0 p.1) earlier then net else arrives net r p (earlier ++ later) m ss (net.queue p.0 r)
comes net r earlier (p ∷ later) (suc k) m ss = comes net r (earlier ++ p ∷ []) later k m ss

-- a member takes its next step, or a block comes to a receive that it has begun
pub data Turn : Type 0 where
  Next : (rank : ℕ) → Turn
  Comes : (rank place : ℕ) → Turn

abbrev pub turn : Folding → AheadNetwork → Turn → AheadNetwork
turn f net (Next r) = steps_ahead f net r (net.at r).begun (net.at r).memory (net.at r).steps
turn f net (Comes r k) = comes net r [] (net.at r).begun k (net.at r).memory (net.at r).steps

abbrev pub after_turns : Folding → AheadNetwork → List Turn → AheadNetwork
after_turns f net [] = net
after_turns f net (t ∷ ts) = after_turns f (turn f net t) ts

abbrev pub opening_ahead : (plans : ℕ → List Step) → (given : ℕ → Memory) → AheadNetwork
opening_ahead plans given =
    record { at = λ r. record { begun = []; steps = plans r; memory = given r }; queue = λ s d. [] }

-- In whatever order n members go on and blocks come, once member r has no step left, and all has come, it has this
-- block in this slot
abbrev pub EndsAhead : Folding → (n : ℕ) → (plan : ℕ → List Step) → (given : ℕ → Memory) → (r : ℕ) → Slot → Block →
    Type 0
EndsAhead f n plan given r slot block =
    (turns : List Turn) → ((after_turns f (opening_ahead (among n plan) given) turns).at r).steps ≡ [] →
    ((after_turns f (opening_ahead (among n plan) given) turns).at r).begun ≡ [] →
    ((after_turns f (opening_ahead (among n plan) given) turns).at r).memory slot ≡ block

-- so it is in collectives that begin their receives ahead
abbrev pub AheadGives : Type 0
AheadGives =
    (f : Folding) (n : ℕ) (given : ℕ → Memory) (r j : ℕ) → r < n → j < n →
    EndsAhead f n (alltoall n) given r (Got j) (given j (Given r)) ×
    EndsAhead f n (allgather n) given r (Got j) (given j (Given 0)) ×
    EndsAhead f n (reduce_scatter_block n) given r (Got 0) (folded f (λ s. given s (Given r)) (n - 1)) ×
    EndsAhead f n (scan n) given r (Got 0) (folded f (λ s. given s (Given 0)) r)

-- The same in place (5.2): what is handed in stands where the result comes. As `Given` is where `Got` is, a plan in
-- place is the plan with the one for the other
abbrev pub InPlaceGives : Type 0
InPlaceGives =
    (f : Folding) (n : ℕ) (given : ℕ → Memory) (r j : ℕ) → r < n → j < n →
    EndsAhead f n (λ x. exchange n x Got Got []) given r (Got j) (given j (Got r)) ×
    EndsAhead f n (λ x. exchange n x (λ d. Got x) Got []) given r (Got j) (given j (Got j)) ×
    EndsAhead f n (λ x. exchange n x Got Kept (folds 0 (n - 1))) given r (Got 0)
    (folded f (λ s. given s (Got r)) (n - 1))
