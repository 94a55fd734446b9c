use Rattle.proof_late_posting.proofs.Example.{example_is_explored}
use Rattle.proof_late_posting.proofs.Numbers.{runs_have_numbers}
use Rattle.proof_late_posting.proofs.Playing.{happenings_are_followed}
use Rattle.proof_late_posting.proofs.WholeRuns.{posting_late}
use Rattle.proof_late_posting.proofs.Runs.{explored_runs_are_runs}
use Rattle.proof_late_posting.proofs.laws.posting_late_changes_nothing.Goals as goal

pub returns-clause-each : goal.returns-clause-each
returns-clause-each c = happenings_are_followed

pub returns-clause-example : goal.returns-clause-example
returns-clause-example c = example_is_explored

pub returns-clause-nothing : goal.returns-clause-nothing
returns-clause-nothing c = posting_late

pub returns-clause-numbers : goal.returns-clause-numbers
returns-clause-numbers c = runs_have_numbers

pub returns-clause-runs : goal.returns-clause-runs
returns-clause-runs c = explored_runs_are_runs
