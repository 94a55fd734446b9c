-- What a transport in memory shows.
use Rattle.std.specs.Prelude.{◌≡◌, ℕ, ◌+◌, ◌-◌, ◌<◌, min, List, [], ◌∷◌, ◌++◌, take, length}
use Rattle.event_loop.specs.declared.exchange.Exchange.{Exchange}
use Rattle.event_loop.specs.declared.exchange.Exchange.TheVariants.{Received, Nothing, Sent, Printed, Waited, Failed}

-- what passed, in order, and how often it failed; the datagrams that are still to come, in order; and how many calls it
-- will answer
pub record MemoryState : Type 0 where
  pub log : List Exchange
  pub failed : ℕ
  pub waiting : List (List ℕ)
  pub calls : ℕ

-- this passed, and one call less is left
abbrev pub HasPassed : MemoryState → Exchange → MemoryState → Type 0
HasPassed old exchange new =
    (0 < old.calls) × (new ≡ record old { log = old.log ++ exchange ∷ []; calls = old.calls - 1 })

-- it failed, and no call is left
abbrev pub HasFailed : MemoryState → MemoryState → Type 0
HasFailed old new = new ≡ record old { log = old.log ++ Failed ∷ []; failed = old.failed + 1; calls = 0 }

-- where this passed, the datagrams that were waiting came in their order, each one once and each one whole or a
-- beginning of it; nothing came only where none was waiting; and these are left
abbrev pub Comes : List (List ℕ) → List Exchange → List (List ℕ) → Type 0
Comes waiting [] left = left ≡ waiting
Comes [] (Received bytes ∷ exchanges) left = ⊥
Comes (datagram ∷ waiting) (Received bytes ∷ exchanges) left =
    (bytes ≡ take (length bytes) datagram) × Comes waiting exchanges left
Comes waiting (Nothing ∷ exchanges) left = (waiting ≡ []) × Comes waiting exchanges left
Comes waiting (Sent target bytes ∷ exchanges) left = Comes waiting exchanges left
Comes waiting (Printed line ∷ exchanges) left = Comes waiting exchanges left
Comes waiting (Waited most ∷ exchanges) left = Comes waiting exchanges left
Comes waiting (Failed ∷ exchanges) left = Comes waiting exchanges left

-- the next millisecond, up to the last one that 64 bits hold
abbrev pub later : ℕ → ℕ
later time = min (time + 1) 18446744073709551615
