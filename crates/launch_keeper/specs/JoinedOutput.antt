-- The outputs of the ranks as one text.
use Rattle.std.specs.Prelude.{◌≡◌, ◌≢◌, ◌⊎◌, ℕ, ◌+◌, Bool, true, ◌==◌, List, [], ◌∷◌, ◌++◌, codes, if◌then◌else◌}
use Rattle.std.specs.List.{flat_map, AllByRecursion}
use Rattle.std.specs.Fmt.{decimal}

-- what stands before each line of a rank
abbrev pub mark_of : ℕ → List ℕ
mark_of rank = codes "[" ++ decimal rank ++ codes "] "

-- a line with its end
abbrev pub ended : List ℕ → List ℕ
ended line = line ++ 10 ∷ []

-- no line ends within it
abbrev pub IsLine : List ℕ → Type 0
IsLine line = AllByRecursion (λ byte. byte ≢ 10) line

-- The lines of an output: each stands before an end of line, but for a last one, which lacks its end
-- where it isn't empty.
abbrev pub AreLines : List ℕ → List (List ℕ) → Type 0
AreLines output [] = output ≡ []
AreLines output (line ∷ lines) =
    IsLine line × (((rest : List ℕ) × (output ≡ line ++ 10 ∷ rest) × AreLines rest lines)
    ⊎ ((output ≡ line) × (line ≢ []) × (lines ≡ [])))

-- The text by rising rank, from this one on: each line of the rank's output with its mark before it
-- and an end of line after it.
abbrev pub IsJoined : ℕ → List (List ℕ) → List ℕ → Type 0
IsJoined rank [] text = text ≡ []
IsJoined rank (output ∷ outputs) text =
    (lines : List (List ℕ)) × (rest : List ℕ) × AreLines output lines
    × (text ≡ flat_map (λ line. mark_of rank ++ ended line) lines ++ rest) × IsJoined (rank + 1) outputs rest

-- the bytes of an output with a mark before each line; fresh: a line begins here
abbrev pub marked : List ℕ → Bool → List ℕ → List ℕ
marked mark fresh [] = if fresh then [] else 10 ∷ []
marked mark fresh (byte ∷ bytes) = (if fresh then mark else []) ++ byte ∷ marked mark (byte == 10) bytes

-- the outputs from this rank on, one after the other
abbrev pub join_outputs : ℕ → List (List ℕ) → List ℕ
join_outputs rank [] = []
join_outputs rank (output ∷ outputs) = marked (mark_of rank) true output ++ join_outputs (rank + 1) outputs
