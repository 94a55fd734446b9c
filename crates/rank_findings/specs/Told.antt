-- Which findings there are.
use Rattle.std.specs.Prelude.{ℕ, Bool, true, false, not, ◌&&◌, ◌||◌, ◌==◌, ◌++◌, ◌∷◌, List, [], min, replicate}
use Rattle.std.specs.Prelude.{Option, Some, None, if◌then◌else◌}
use Rattle.std.specs.List.{list_any}
use Rattle.rank_findings.specs.Endings.{is_all_ended}
use Rattle.rank_findings.specs.declared.ending.Ending.{Ending}
use Rattle.rank_findings.specs.declared.finding.Finding.{Finding}
use Rattle.rank_findings.specs.declared.finding.Finding.TheVariants.{RequestLeft, CommunicatorLeft, TypesLeft}
use Rattle.rank_findings.specs.declared.finding.Finding.TheVariants.{MessagesTaken, Waits, AsksForEver, InFinalize}
use Rattle.rank_findings.specs.declared.told.Call.{Call}
use Rattle.rank_findings.specs.declared.told.Call.TheVariants.{Test, Probe, Other}
use Rattle.rank_findings.specs.declared.told.Leaks.{Leaks}
use Rattle.rank_findings.specs.declared.told.Wait.{Wait}

-- the call that a number names: 7 to 9 are tests, 10 is a probe
abbrev pub call_at : ℕ → Call
call_at n = if (n == 7) || ((n == 8) || (n == 9)) then Test else (if n == 10 then Probe else Other)

-- a test asks, and a probe that doesn't wait until something is there
abbrev pub call_asks : Call → (is_waiting : Bool) → Bool
call_asks Test is_waiting = true
call_asks Probe is_waiting = not is_waiting
call_asks Other is_waiting = false

abbrev pub asks : Wait → Bool
asks w = call_asks w.call w.is_waiting

-- What is told of a rank where nobody can go on: nothing of one that isn't waiting
abbrev pub finding_of_wait : Wait → Option Finding
finding_of_wait w =
    if w.is_blocked then
    Some (if w.has_finalized then InFinalize else (if asks w then AsksForEver else Waits))
    else None

-- Once, where there are some
abbrev pub once : Finding → (count : ℕ) → List Finding
once f count = if count == 0 then [] else f ∷ []

-- What is told of what a rank left behind: each request, each communicator and each type, and messages once
abbrev pub leaks : Leaks → List Finding
leaks l =
    replicate l.requests RequestLeft ++
    (replicate l.communicators CommunicatorLeft ++ (replicate l.types TypesLeft ++ once MessagesTaken l.messages))

-- How many sends are told, where nobody goes on unless one is buffered: eight at most, and once in a run
abbrev pub sends_told : (waiting : ℕ) → (only_buffers was_told : Bool) → ℕ
sends_told waiting only_buffers was_told = if only_buffers && not was_told then min waiting 8 else 0

-- That some member never entered a collective is told where no rank failed and nothing else was told of it
abbrev pub is_absence_told : (has_failed : List Bool) → (is_absent was_told : Bool) → Bool
is_absence_told has_failed is_absent was_told =
    is_absent && (not was_told && not (list_any (λ f. f) has_failed))

-- what nobody received, and who entered no collective, is told where all ranks ended
abbrev pub is_rest_told : Ending → Bool
is_rest_told ending = is_all_ended ending
