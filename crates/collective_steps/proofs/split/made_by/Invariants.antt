-- The communicators of the parts so far.
use Rattle.std.proofs.Common.{◌≡◌, take}
use Rattle.collective_steps.specs.Steps.{made_by}
use Rattle.collective_steps.proofs.split.made_by.Given as goal

abbrev pub invariant-loop-place : goal.invariant-loop-place
invariant-loop-place l = l.made.items ≡ made_by l.contexts.state l.group 0 (take l.place l.plan)
