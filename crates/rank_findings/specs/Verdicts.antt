-- How much runs weigh, and with which status the explorer ends.
use Rattle.std.specs.Prelude.{ℕ, Bool, true, false, not, ◌&&◌, ◌||◌, ◌==◌, ◌/◌, List, [], ◌∷◌, max, map, nat_lt}
use Rattle.std.specs.Prelude.{if◌then◌else◌}
use Rattle.std.specs.List.{list_any}
use Rattle.rank_findings.specs.Endings.{is_all_ended, is_unexplored}
use Rattle.rank_findings.specs.Findings.{weight_at}
use Rattle.rank_findings.specs.declared.ending.Ending.{Ending}

-- the largest of these numbers, or 0
abbrev pub heaviest : List ℕ → ℕ
heaviest [] = 0
heaviest (w ∷ ws) = max w (heaviest ws)

abbrev pub heaviest_finding : (findings : List ℕ) → ℕ
heaviest_finding findings = heaviest (map weight_at findings)

-- A run weighs as much as the heaviest of its findings; it is wrong where not all ranks ended, unless what can't be
-- explored ended it
abbrev pub weight_of_run : Ending → (findings : List ℕ) → ℕ
weight_of_run ending findings =
    if is_all_ended ending || is_unexplored ending then heaviest_finding findings else 3

-- A pass weighs as much as the heaviest of its runs; of one that went astray something is left over at least
abbrev pub weight_of_pass : (runs : List ℕ) → (is_astray : Bool) → ℕ
weight_of_pass runs is_astray = if is_astray then max (heaviest runs) 2 else heaviest runs

-- something is wrong or left over
abbrev pub is_told : (weight : ℕ) → Bool
is_told weight = not (nat_lt weight 2)

-- 1 where something is wrong or left over in some pass; else 7 where a call can't be explored; else 0
abbrev pub status_of : (passes : List ℕ) → (is_unexplored : Bool) → ℕ
status_of passes is_unexplored = if list_any is_told passes then 1 else if is_unexplored then 7 else 0

-- Of a run that was cut off when the time was over it is told where none came to its end, and where it made more than ten
-- times as many calls as any that did
abbrev pub is_cut_told : (ended calls most_calls : ℕ) → Bool
is_cut_told ended calls most_calls = (ended == 0) || nat_lt most_calls (calls / 10)

-- where the status is 0, and no other pass was asked for
abbrev pub is_hint_told : (passes : List ℕ) → (is_unexplored was_asked : Bool) → Bool
is_hint_told passes is_unexplored was_asked = not was_asked && (status_of passes is_unexplored == 0)
