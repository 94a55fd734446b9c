-- Which words start a program, and with which variables.
use Rattle.std.specs.Prelude.{◌≡◌, ℕ, List, [], ◌∷◌, Option, Some, None, bytes_eq, if◌then◌else◌}
use Rattle.std.specs.Process.{command_args, command_program, command_var}
use Rattle.std.specs.declared.process.command.Command.{Command}
use Rattle.rank_environment.specs.Variables.{Setting}

-- the first of these words is the program of a command, and the others are its arguments, in their order
abbrev pub IsCommandOf : {A : Type 0} → List (List ℕ) → Command A → Type 0
IsCommandOf words command = words ≡ command_program command ∷ command_args command

-- the command leaves each variable as its program inherits it
abbrev pub SaysNothing : {A : Type 0} → Command A → Type 0
SaysNothing command = (name : List ℕ) → command_var command name ≡ None

-- what is said of a variable once these are set in their order, where this was said before
abbrev pub said_after : Option (Option (List ℕ)) → List ℕ → List Setting → Option (Option (List ℕ))
said_after said name [] = said
said_after said name (setting ∷ settings) =
    said_after (if bytes_eq setting.0 name then Some (Some setting.1) else said) name settings

-- the command sets these variables, in their order, and leaves all others as they were
abbrev pub Sets : {A : Type 0} → Command A → List Setting → Command A → Type 0
Sets old settings new = (name : List ℕ) → command_var new name ≡ said_after (command_var old name) name settings
