use Rattle.std.proofs.Common.{◌≡◌, ◌++◌, drop, true}
use Rattle.launch_keeper.specs.JoinedOutput.{marked}
use Rattle.launch_keeper.proofs.joined.push_marked.Given as goal

abbrev pub invariant-loop-byte : goal.invariant-loop-byte
invariant-loop-byte l = l.text.items ++ marked l.mark l.fresh (drop l.byte-index l.output) ≡ l.fn.text.items ++
    marked l.mark true l.output
