-- What a rank of a C program says of a call that waits.
use Rattle.std.specs.Prelude.{◌≡◌, ℕ, List, ◌++◌, codes, Some}
use Rattle.numerals.specs.Numbers.{number_between}
use Rattle.rank_lines.specs.declared.cycle.Wait.{Wait}

-- the word is this rank in decimal digits
abbrev pub SpellsRank : List ℕ → ℕ → Type 0
SpellsRank word rank = number_between word 0 1023 ≡ Some rank

-- the text ends with this
abbrev pub EndsWith : List ℕ → List ℕ → Type 0
EndsWith text end = (front : List ℕ) × (text ≡ front ++ end)

-- the rank's own place begins the line: `rank R: MPI_`
abbrev pub BeginsWithPlace : List ℕ → ℕ → List ℕ → Type 0
BeginsWithPlace line rank call =
    (place : List ℕ) × (line ≡ codes "rank " ++ place ++ codes ": MPI_" ++ call) × SpellsRank place rank

-- behind what the call waits for stands `rank Q` and a blank
abbrev pub NamesRank : List ℕ → ℕ → Type 0
NamesRank items other =
    (name : List ℕ) × (rest : List ℕ) × EndsWith items (codes "rank " ++ name ++ codes " " ++ rest) × SpellsRank name other

-- the line says that the rank is in a call that waits, and behind ` waits for ` names the other one
pub record SaysWait (line : List ℕ) (wait : Wait) : Type 0 where
  pub call : List ℕ
  pub begun : List ℕ
  pub items : List ℕ
  pub begins : BeginsWithPlace line wait.rank call
  pub waits : call ≡ begun ++ codes " waits for " ++ items
  pub names : NamesRank items wait.other
