-- What a child's end says of its rank.
use Rattle.std.specs.Prelude.{◌≡◌, ◌≢◌, ◌⊎◌, ℕ, pos, List, [], Option, Some, None, MatchOption}
use Rattle.std.specs.Process.{exit_code}
use Rattle.std.specs.declared.process.status.ExitStatus.{ExitStatus}
use Rattle.launch_decisions.specs.Endings.{ending_of}
use Rattle.launch_keeper.specs.declared.ending.ProgramEnding.{ProgramEnding}
use Rattle.launch_keeper.specs.declared.report.Report.{Report}
use Rattle.launch_keeper.specs.Reports.{IsReport}

-- the program has ended, and so
abbrev pub HasEnded : Option ExitStatus → ProgramEnding → Type 0
HasEnded None ending = ⊥
HasEnded (Some status) ending = ending ≡ ending_of status

-- a keeper that ended with status 0 has the report that its bytes are, if there are any; one that failed has none
abbrev pub IsReportBehind : ExitStatus → (bytes : List ℕ) → Option Report → Type 0
IsReportBehind status bytes report =
    ((exit_code status ≡ Some (pos 0)) × MatchOption report (bytes ≡ []) (λ whole. IsReport bytes whole))
    ⊎ ((exit_code status ≢ Some (pos 0)) × (report ≡ None))

-- the keeper has ended, and this is its report
abbrev pub IsSettled : Option ExitStatus → (bytes : List ℕ) → Option Report → Type 0
IsSettled None bytes report = ⊥
IsSettled (Some status) bytes report = IsReportBehind status bytes report
