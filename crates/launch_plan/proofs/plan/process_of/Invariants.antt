use Rattle.std.proofs.Common.{◌≡◌, drop}
use Rattle.std.specs.Prelude.{slice_get}
use Rattle.launch_plan.specs.Launches.{processes}
use Rattle.launch_plan.proofs.plan.process_of.Given as goal

abbrev pub invariant-loop-set : goal.invariant-loop-set
invariant-loop-set l = slice_get (processes (drop l.set-index l.sets)) l.left ≡ slice_get (processes l.sets) l.rank
