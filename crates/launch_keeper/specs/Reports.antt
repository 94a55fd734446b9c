-- What a keeper reports of its rank.
use Rattle.std.specs.Prelude.{◌≡◌, ℕ, List, [], ◌∷◌, ◌++◌}
use Rattle.launch_keeper.specs.declared.report.Report.{Report}

-- the bytes of a report: the rank's output, and its last status behind it
abbrev pub IsReport : List ℕ → Report → Type 0
IsReport bytes report = bytes ≡ report.output.items ++ report.status ∷ []
