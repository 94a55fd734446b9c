-- In which order findings and results are told.
use Rattle.std.specs.Prelude.{ℕ, Bool, true, false, not, ◌&&◌, ◌||◌, ◌==◌, nat_lt, if◌then◌else◌}
use Rattle.rank_findings.specs.declared.finding.Finding.{Finding}
use Rattle.rank_findings.specs.declared.finding.Finding.TheVariants.{NeedsBuffer, Cycle, Differs}
use Rattle.rank_findings.specs.declared.order.Told.{Told}

-- 0: of no rank, told first; 1: of a rank; 2: of several, told last
abbrev pub chapter : Finding → ℕ
chapter NeedsBuffer = 0
chapter Cycle = 2
chapter f = 1

-- told in front of what else there is of its rank
abbrev pub is_in_front : Finding → Bool
is_in_front Differs = true
is_in_front f = false

-- 0 of what is told in front, else 1
abbrev pub place_in_rank : Finding → ℕ
place_in_rank f = if is_in_front f then 0 else 1

-- the rank, where ranks count
abbrev pub rank_in : Told → ℕ
rank_in t = if chapter t.finding == 1 then t.rank else 0

-- the first of two numbers decides, and where they are the same what is behind
abbrev pub by : (a b : ℕ) → Bool → Bool
by a b behind = if a == b then behind else nat_lt a b

-- By chapter, rank, what is in front, and as it was found
abbrev pub is_told_before : Told → Told → Bool
is_told_before a b =
    by (chapter a.finding) (chapter b.finding)
    (by (rank_in a) (rank_in b)
    (by (place_in_rank a.finding) (place_in_rank b.finding) (nat_lt a.number b.number)))

-- what weighs more is told before what weighs less, and of the same weight what was found first
abbrev pub is_result_before : (weight run other_weight other_run : ℕ) → Bool
is_result_before weight run other_weight other_run = by other_weight weight (nat_lt run other_run)
