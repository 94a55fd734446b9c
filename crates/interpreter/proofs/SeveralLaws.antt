-- Several requests, as loops go over them.
use Rattle.std.proofs.Common.{◌≡◌, ℕ, List, ◌++◌, Option}
use Rattle.std.specs.Prelude.{option_map}
use Rattle.requests.specs.declared.outcome.Outcome.{Outcome}
use Rattle.requests.specs.declared.table.Request.{Request}
use Rattle.statements.specs.declared.action.RequestName.{RequestName}
use Rattle.interpreter.specs.Answers.{behind, ended_each}
use Rattle.interpreter.specs.NamesState.{NamesState}

-- the requests that were found, before those of the rest
abbrev pub found_before : List (Option Request) → Option (List (Option Request)) → Option (List (Option Request))
found_before front rest = option_map (λ requests. front ++ requests) rest

-- some have ended with these errors, and with those that are left it comes to this
abbrev pub HaveEnded : List ℕ × NamesState → List ℕ → List RequestName → List Outcome → NamesState → Type 0
HaveEnded all errors rs os s = behind errors (ended_each rs os s) ≡ all
