-- The explorer's own row of receives that no engine knows yet, and what it says of those that are kept back.
use Rattle.std.specs.Prelude.{◌≡◌, ◌≢◌, ℕ, suc, false, List, [], ◌∷◌, ◌++◌, length, Option, Some, None}
use Rattle.late_receives.specs.Rows.{before, is_behind, waits, wanted, wildcard, without}
use Rattle.late_receives.specs.declared.row.LateReceive.{LateReceive}
use Rattle.perfect_queues.specs.Messages.{Message}
use Rattle.perfect_queues.specs.Receives.{Receive}
use Rattle.proof_late_posting.specs.Ties.{IsKept, NoneMeets, NoneWants, Row, told_of}
use Rattle.vocabulary.specs.declared.envelope.Source.{Source}
use Rattle.vocabulary.specs.declared.envelope.Source.TheVariants.{Any, Null, Rank}

-- the number of a source: a rank's own, or that of any
abbrev pub IsSource : (number : ℕ) → Source → Type 0
IsSource x Any = x ≡ wildcard
IsSource x (Rank r) = (x ≡ r) × (x ≢ wildcard)
IsSource x Null = ⊥

abbrev pub IsTag : (number : ℕ) → Option ℕ → Type 0
IsTag x None = x ≡ wildcard
IsTag x (Some t) = (x ≡ t) × (x ≢ wildcard)

-- a receive as the row has it: by the numbers of its communicator, whose ranks are those of world, its source and its
-- tag
pub record IsWritten (r : LateReceive) (p : Receive) : Type 0 where
  pub communicator : r.communicator ≡ p.context
  pub source : IsSource r.source p.source
  pub tag : IsTag r.tag p.tag

-- The row has the receives that are kept back, and no others, in the program's order; each with the number of its
-- operation, by its place among the program's requests
abbrev pub IsRowOf : (number : ℕ → ℕ) → (from : ℕ) → List LateReceive → Row → Type 0
IsRowOf number j [] [] = Unit {0}
IsRowOf number j (r ∷ rs) [] = ⊥
IsRowOf number j rs (None ∷ row) = IsRowOf number (suc j) rs row
IsRowOf number j [] (Some p ∷ row) = ⊥
IsRowOf number j (r ∷ rs) (Some p ∷ row) =
    (r.operation ≡ number j) × IsWritten r p × IsRowOf number (suc j) rs row

-- What the row says, which the explorer asks: of a receive that begins and needn't wait, that it may go to the engine
-- at once; of a message that none wants, that a probe may find it; of one that none wants which was begun before a
-- receive, that this one may be named for it; of a receive that isn't behind another one, that the engine may be told
-- of it. And so goes on what the row has: where a receive is kept back, where another request starts, where the engine
-- is told
pub record Says (number : ℕ → ℕ) (rs : List LateReceive) (row : Row) : Type 0 where
  pub at_once : (r : LateReceive) (p : Receive) → IsWritten r p → waits rs r ≡ false → NoneMeets row (length row) p
  pub finds : (m : Message) → wanted rs m.context m.sender.rank m.tag ≡ false → NoneWants row (length row) m
  pub names : (i : ℕ) (p : Receive) (m : Message) → IsKept row i p →
      wanted (before rs (number i)) m.context m.sender.rank m.tag ≡ false → NoneWants row i m
  pub tells : (i : ℕ) (p : Receive) → IsKept row i p → is_behind rs (number i) ≡ false → NoneMeets row i p
  pub keeps : (r : LateReceive) (p : Receive) → IsWritten r p → r.operation ≡ number (length row) →
      IsRowOf number 0 (rs ++ r ∷ []) (row ++ Some p ∷ [])
  pub starts : IsRowOf number 0 rs (row ++ None ∷ [])
  pub told : (i : ℕ) (p : Receive) → IsKept row i p → IsRowOf number 0 (without rs (number i)) (told_of row i)

-- each row of the explorer's says so, where no two operations have one number
abbrev pub RowsKeepTheRules : Type 0
RowsKeepTheRules =
    (number : ℕ → ℕ) (rs : List LateReceive) (row : Row) → ((j k : ℕ) → number j ≡ number k → j ≡ k) →
    IsRowOf number 0 rs row → Says number rs row
