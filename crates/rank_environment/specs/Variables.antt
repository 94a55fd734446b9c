-- The variables that tell a rank its place.
use Rattle.std.specs.Prelude.{ℕ, List, [], ◌∷◌, ◌++◌, Option, Some, None, codes}
use Rattle.std.specs.Fmt.{decimal}
use Rattle.rank_environment.specs.declared.variables.Variable.{Variable}
use Rattle.rank_environment.specs.declared.place.RankPlace.{RankPlace}

-- a variable of an environment, as its name and its value
abbrev pub Setting : Type 0
Setting = List ℕ × List ℕ

-- the name of a variable, and its number in decimal digits
abbrev pub variable_text : Variable → Setting
variable_text variable = (variable.name.now, decimal variable.value)

-- the patience, where the launch says one
abbrev pub patience_setting : Option ℕ → List Setting
patience_setting None = []
patience_setting (Some patience) = (codes "KOMBAZILY_PATIENCE", decimal patience) ∷ []

-- the variables that tell a rank its place; the port is that of rank 0
abbrev pub variables_of : RankPlace → List Setting
variables_of place =
    (codes "KOMBAZILY_RANK", decimal place.rank)
    ∷ (codes "KOMBAZILY_SIZE", decimal place.size)
    ∷ (codes "KOMBAZILY_INCARNATION", decimal place.incarnation)
    ∷ (codes "KOMBAZILY_JOB", decimal place.job)
    ∷ (codes "KOMBAZILY_PORT", decimal place.base_port)
    ∷ patience_setting place.patience
