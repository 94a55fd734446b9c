-- The numbers of the refusals.
use Rattle.std.specs.Prelude.{ℕ}
use Rattle.derived_types.specs.declared.refusal.LayoutRefusal.{LayoutRefusal}
use Rattle.derived_types.specs.declared.refusal.LayoutRefusal.TheVariants.{WrongType, TooShort, NotDefined, Limit}
use Rattle.derived_types.specs.declared.refusal.LayoutRefusal.TheVariants.{OutOfMemory}

-- the number of a refusal
abbrev pub number_of_refusal : LayoutRefusal → ℕ
number_of_refusal TooShort = 1
number_of_refusal WrongType = 2
number_of_refusal NotDefined = 9
number_of_refusal Limit = 13
number_of_refusal OutOfMemory = 14
