-- How a collective's end is seen.
use Rattle.perfect_groups.specs.Membership.{Comm, Ending, Failed, Left}
use Rattle.collective_steps.specs.declared.step.Ending as steps
use Rattle.collective_steps.specs.declared.step.Ending.TheVariants as endings

-- how a collective ends
abbrev pub ending_is : steps.Ending → Ending
ending_is (endings.Left b) = Left b
ending_is (endings.Comm place) = Comm place
ending_is endings.Replaced = Failed 11
ending_is endings.Mismatch = Failed 12
