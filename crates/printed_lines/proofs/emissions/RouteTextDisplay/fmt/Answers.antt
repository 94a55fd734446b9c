-- FOR SPEED ALONE: each goal here is proved without this file, too; with it a wrong body is refused soon.
use Rattle.std.proofs.Common.{arith, rules}
use Rattle.std.proofs.lemmas.Grind.{common_steps}
use Rattle.printed_lines.proofs.emissions.RouteTextDisplay.fmt.Goals as goal

pub fact_in-write : goal.fact_in-write
fact_in-write g c = search rules

pub returns-clause-writes : goal.returns-clause-writes
returns-clause-writes g c = grind (arith, common_steps)

pub returns-clause-styled : goal.returns-clause-styled
returns-clause-styled g c = search rules
