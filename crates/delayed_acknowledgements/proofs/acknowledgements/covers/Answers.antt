-- FOR SPEED ALONE: each goal here is proved without this file, too; with it a wrong body is refused soon.
use Rattle.std.proofs.Common.{rules}
use Rattle.delayed_acknowledgements.proofs.acknowledgements.covers.Goals as goal

pub eq-requires : goal.eq-requires
eq-requires c = search rules

pub eq-requires-then-eq : goal.eq-requires-then-eq
eq-requires-then-eq c = search rules

pub returns-then-earlier-eq0 : goal.returns-then-earlier-eq0
returns-then-earlier-eq0 c = search rules

pub returns-else-earlier-eq0 : goal.returns-else-earlier-eq0
returns-else-earlier-eq0 c = search rules
