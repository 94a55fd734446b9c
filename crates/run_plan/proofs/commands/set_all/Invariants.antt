-- What is left to be set makes of the command what all of it makes of the first one.
use Rattle.std.proofs.Common.{◌≡◌, ℕ, List, drop}
use Rattle.std.specs.Process.{command_var, SameProgramAndArgs}
use Rattle.process_commands.specs.Commands.{said_after}
use Rattle.run_plan.specs.Commands.{settings_at}
use Rattle.run_plan.proofs.commands.set_all.Given as goal

abbrev pub invariant-loop-place : goal.invariant-loop-place
invariant-loop-place l =
    SameProgramAndArgs l.fn.command l.command
    × ((name : List ℕ) →
    said_after (command_var l.command name) name (settings_at l.words (drop l.place-index l.places))
    ≡ said_after (command_var l.fn.command name) name (settings_at l.words l.places))
