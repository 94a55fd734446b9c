-- The arguments so far are added.
use Rattle.std.proofs.Common.{◌≡◌, ◌++◌, ℕ, List, take}
use Rattle.std.specs.Process.{command_args, command_program, command_var}
use Rattle.process_commands.proofs.commands.add_arguments.Given as goal

abbrev pub invariant-loop-word : goal.invariant-loop-word
invariant-loop-word l =
    (command_program l.command ≡ command_program l.fn.command) ×
    (command_args l.command ≡ command_args l.fn.command ++ take l.word-index l.words) ×
    ((name : List ℕ) → command_var l.command name ≡ command_var l.fn.command name)
