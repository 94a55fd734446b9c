-- What is left to be set makes of the command what all of it makes of the first one.
use Rattle.std.proofs.Common.{◌≡◌, ℕ, List, map, drop}
use Rattle.std.specs.Process.{command_var, SameProgramAndArgs}
use Rattle.rank_environment.specs.Variables.{variable_text}
use Rattle.process_commands.specs.Commands.{said_after}
use Rattle.process_commands.proofs.variables.set_variables.Given as goal

abbrev pub invariant-loop-variable : goal.invariant-loop-variable
invariant-loop-variable l = SameProgramAndArgs l.fn.command l.command
    × ((name : List ℕ) → said_after (command_var l.command name) name (map variable_text (drop l.variable-index l.variables))
    ≡ said_after (command_var l.fn.command name) name (map variable_text l.variables))
