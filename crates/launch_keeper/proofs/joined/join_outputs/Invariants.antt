use Rattle.std.proofs.Common.{◌≡◌, ◌++◌, drop, map}
use Rattle.launch_keeper.specs.JoinedOutput.{join_outputs}
use Rattle.launch_keeper.proofs.joined.join_outputs.Given as goal

abbrev pub invariant-loop-rank : goal.invariant-loop-rank
invariant-loop-rank l =
    l.text.items ++ join_outputs l.rank (map (λ output. output.items) (drop l.rank l.outputs)) ≡
    join_outputs 0 (map (λ output. output.items) l.outputs)
