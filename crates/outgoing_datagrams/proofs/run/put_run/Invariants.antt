use Rattle.outgoing_datagrams.proofs.RunSteps.{HasRun}
use Rattle.outgoing_datagrams.proofs.run.put_run.Given as goal

abbrev pub invariant-loop-place : goal.invariant-loop-place
invariant-loop-place l = HasRun l.list l.place l.run l.fn.into l.into
