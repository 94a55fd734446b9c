-- The lines so far ran.
use Rattle.simulation.specs.Files.{LinesRun}
use Rattle.simulation.proofs.running.Simulation.run_all.Given as goal

abbrev pub invariant-loop-line : goal.invariant-loop-line
invariant-loop-line g l =
    LinesRun l.fn.self.scene l.yielded (g.W.Write.contents l.fn.out) (g.W.Write.contents l.out) l.self.scene
