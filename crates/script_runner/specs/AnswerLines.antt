-- The lines that a script prints of what is told of an answer.
use Rattle.std.specs.Prelude.{ℕ, List, [], ◌∷◌}
use Rattle.printed_lines.specs.CommunicatorTexts.{comparison_text, members_text, position_text}
use Rattle.interpreter.specs.declared.steps.Told.{Told}
use Rattle.interpreter.specs.declared.steps.Told.TheVariants as tolds
use Rattle.printed_lines.specs.Lines.{error_line, error_lines, none_line, pending_line}
use Rattle.script_calls.specs.OutcomeTexts.{as_text}

-- `error N` for each, a line each
abbrev pub errors_lines : List ℕ → List ℕ
errors_lines [] = []
errors_lines (number ∷ numbers) = error_lines number numbers

-- the line, or the lines, of what is told
abbrev pub line_of : Told → List ℕ
line_of (tolds.Error number) = error_line number
line_of (tolds.Errors errors) = errors_lines errors
line_of tolds.Pending = pending_line
line_of tolds.NoMessage = none_line
line_of (tolds.Position rank size) = position_text rank size
line_of (tolds.Members ranks) = members_text ranks.items
line_of (tolds.Comparison comparison) = comparison_text (as_text comparison)
