-- What the engines are asked for is a run.
use Rattle.std.proofs.Common.{ℕ, List, [], ◌∷◌}
use Rattle.perfect_queues.specs.Runs.{IsRun}
use Rattle.perfect_queues.specs.State.{State, opening}
use Rattle.proof_late_posting.specs.Explored.{ExploredRunsAreRuns, Goes, Happening, IsExplored, Keeps, Names, Rows}
use Rattle.proof_late_posting.specs.Explored.{Ends, Peeks, Sees, Takes, Tells, Tries, events, no_rows}

runs_from : (n : ℕ) (hs : List Happening) (s : State) (rows : Rows) →
    IsExplored n s rows hs → IsRun n s (events s hs)
runs_from n [] s rows x = tt
runs_from n (Goes e call steps ∷ hs) s rows x = (x.0.0, runs_from n hs _ _ x.1)
runs_from n (Keeps e p ∷ hs) s rows x = runs_from n hs _ _ x.1
runs_from n (Names e i p earlier m later steps ∷ hs) s rows x = (x.0.0, runs_from n hs _ _ x.1)
runs_from n (Tells e i p steps ∷ hs) s rows x = (x.0.0, runs_from n hs _ _ x.1)
runs_from n (Sees e q earlier m later steps ∷ hs) s rows x = (x.0.0, runs_from n hs _ _ x.1)
runs_from n (Takes e q earlier m later steps ∷ hs) s rows x = (x.0.0, runs_from n hs _ _ x.1)
runs_from n (Peeks e q steps ∷ hs) s rows x = (x.0, runs_from n hs _ _ x.1)
runs_from n (Ends e k o steps ∷ hs) s rows x = (x.0.0, runs_from n hs _ _ x.1)
runs_from n (Tries e k steps ∷ hs) s rows x = (x.0.0, runs_from n hs _ _ x.1)

pub explored_runs_are_runs : ExploredRunsAreRuns
explored_runs_are_runs n limit hs x = runs_from n hs (opening limit) no_rows x
