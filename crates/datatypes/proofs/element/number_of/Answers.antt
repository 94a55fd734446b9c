use Rattle.std.proofs.Common.{rules}
use Rattle.datatypes.specs.Elements.{number_of_value}
use Rattle.datatypes.proofs.element.number_of.Goals as goal

pub returns-else-magnitude-largest-clause-number : goal.returns-else-magnitude-largest-clause-number
unfolding number_of_value
returns-else-magnitude-largest-clause-number c = search rules
