-- FOR SPEED ALONE: each goal here is proved without this file, too; with it a wrong body is refused soon.
use Rattle.std.proofs.Common.{rules}
use Rattle.event_loop.proofs.round.rest.Goals as goal

pub returns-then-ready-clause-passed : goal.returns-then-ready-clause-passed
returns-then-ready-clause-passed g c = search rules

pub returns-then-ready-clause-at_once : goal.returns-then-ready-clause-at_once
returns-then-ready-clause-at_once g c = search rules

pub returns-then-ready-clause-failures : goal.returns-then-ready-clause-failures
returns-then-ready-clause-failures g c = search rules

pub wait-requires : goal.wait-requires
wait-requires g c = search rules

pub returns-clause-passed : goal.returns-clause-passed
returns-clause-passed g c = search rules

pub returns-clause-at_once : goal.returns-clause-at_once
returns-clause-at_once g c = search rules

pub returns-clause-failures : goal.returns-clause-failures
returns-clause-failures g c = search rules
