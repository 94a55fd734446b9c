-- Variables that a command sets.
use Rattle.std.proofs.Common.{◌≡◌, ◌≢◌, ℕ, ◌+◌, ◌<◌, ◌≤◌, Bool, true, false, List, [], ◌∷◌, length, get_or, drop, map, refl, sym, ap}
use Rattle.std.proofs.Common.{◌∙◌, Option, Some}
use Rattle.std.specs.Prelude.{bytes_eq, if◌then◌else◌}
use Rattle.std.proofs.lemmas.Slice.Eq.{bytes_eq-Decides}
use Rattle.std.proofs.lemmas.List.{at_drop_more, at_drop_all}
use Rattle.std.specs.Process.{command_var, SameOtherVars}
use Rattle.std.specs.declared.process.command.Command.{Command}
use Rattle.rank_environment.specs.Variables.{Setting, variable_text}
use Rattle.rank_environment.specs.declared.variables.Variable.{Variable}
use Rattle.process_commands.specs.Commands.{said_after, Sets}

-- one variable is set, and the others stay
pub one_set : {A : Type 0} (old new : Command A) (key value : List ℕ) → command_var new key ≡ Some (Some value) →
    SameOtherVars old new key → Sets old ((key, value) ∷ []) new
one_set old new key value set others name =
    let go : (t : Bool) → bytes_eq key name ≡ t → command_var new name ≡ (if t then Some (Some value) else command_var old name) =
    λ t. elim t as (λ t. bytes_eq key name ≡ t → command_var new name ≡ (if t then Some (Some value) else command_var old name)) [
      | true ↦ λ same. ap (command_var new) (sym ((bytes_eq-Decides key name).0 same)) ∙ set
      | false ↦ λ other. others name (λ e. let clash : false ≡ true = sym other ∙ (bytes_eq-Decides key name).1 (sym e) in absurd cc)
    ] in
    go (bytes_eq key name) refl

-- what is left to be set at a place of the variables: the one there, and those behind it
pub left_more : (variables : List Variable) (i : ℕ) (variable : Variable) → i < length variables →
    variable ≡ get_or variables i variable →
    map variable_text (drop i variables) ≡ variable_text variable ∷ map variable_text (drop (i + 1) variables)
left_more variables i variable lt is = at_drop_more (map variable_text) variables i variable lt ∙
    ap (λ (v : Variable). variable_text v ∷ map variable_text (drop (i + 1) variables)) (sym is)
