-- What is so of what is told.
use Rattle.std.specs.Prelude.{◌≡◌, ◌⊎◌, ℕ, Bool, true, false, ◌||◌, List, [], ◌∷◌, map, Option, Some, None}
use Rattle.std.specs.Prelude.{if◌then◌else◌}
use Rattle.std.specs.List.{list_any}
use Rattle.rank_findings.specs.Endings.{ending_behind, ending_of_ranks, finding_of_end, is_all_ended, is_unexplored}
use Rattle.rank_findings.specs.Findings.{ends_job, finding_number, is_fault}
use Rattle.rank_findings.specs.Orders.{is_told_before}
use Rattle.rank_findings.specs.Verdicts.{is_told, status_of, weight_of_pass, weight_of_run}
use Rattle.rank_findings.specs.declared.ending.Ending.{Ending}
use Rattle.rank_findings.specs.declared.ending.Ending.TheVariants.{ByError, Unexplored}
use Rattle.rank_findings.specs.declared.ending.Exit.TheVariants.{Signal}
use Rattle.rank_findings.specs.declared.ending.ProcessEnd.{ProcessEnd}
use Rattle.rank_findings.specs.declared.finding.Finding.{Finding}
use Rattle.rank_findings.specs.declared.order.Told.{Told}

-- Of two findings not each is told before the other
abbrev pub IsOneWay : Type 0
IsOneWay = (a b : Told) → is_told_before a b ≡ true → is_told_before b a ≡ false

-- Of two that have other numbers one is told before the other
abbrev pub AreApart : Type 0
AreApart = (a b : Told) → (a.number ≡ b.number → ⊥) →
    (is_told_before a b ≡ true) ⊎ (is_told_before b a ≡ true)

-- What is told before one is told before what that is before
abbrev pub GoesAlong : Type 0
GoesAlong = (a b c : Told) → is_told_before a b ≡ true → is_told_before b c ≡ true → is_told_before a c ≡ true

-- A run is wrong where one of its findings is a fault
abbrev pub FaultsAreWrong : Type 0
FaultsAreWrong = (ending : Ending) (findings : List Finding) → list_any is_fault findings ≡ true →
    weight_of_run ending (map finding_number findings) ≡ 3

-- and where not all ranks ended, unless what can't be explored ended it
abbrev pub ErrorsAreWrong : Type 0
ErrorsAreWrong = (ending : Ending) (findings : List ℕ) → is_all_ended ending ≡ false → is_unexplored ending ≡ false →
    weight_of_run ending findings ≡ 3

-- A process that a signal kills, and one that ends of its own with neither MPI_Finalize nor an error that was told, ends
-- its run by an error, but for one whose record is over
abbrev pub DeathsAreErrors : Type 0
DeathsAreErrors = (p : ProcessEnd) (ending : Ending) → p.is_own ≡ true → p.is_played ≡ false →
    p.has_finalized || p.has_failed ≡ false →
    ending_behind ending (finding_of_end p ending) ≡ ByError

-- What ends the job ends the run, wherever the ranks are: by an error, or by what can't be explored
abbrev pub AbortsEndRuns : Type 0
AbortsEndRuns = (f : Finding) (is_unexplored goes_on : Bool) (has_ended : List Bool) → ends_job f goes_on ≡ true →
    ending_of_ranks is_unexplored (ends_job f goes_on) has_ended ≡ (if is_unexplored then Some Unexplored else Some ByError)

-- a pass: what its runs weigh, and whether it went astray
pub record Pass : Type 0 where
  pub runs : List ℕ
  pub is_astray : Bool

abbrev pub weighs : Pass → ℕ
weighs p = weight_of_pass p.runs p.is_astray

-- a run of it weighs 2 or more, or it went astray
abbrev pub tells : Pass → Bool
tells p = p.is_astray || list_any is_told p.runs

-- The status is 1 exactly where some pass tells of such a thing; of the others 7 where a call can't be explored
abbrev pub RunsGiveStatuses : Type 0
RunsGiveStatuses = (passes : List Pass) (is_unexplored : Bool) →
    (list_any tells passes ≡ true → status_of (map weighs passes) is_unexplored ≡ 1) ×
    (list_any tells passes ≡ false → status_of (map weighs passes) is_unexplored ≡ (if is_unexplored then 7 else 0))
