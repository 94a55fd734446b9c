-- What a line of a script asks of its rank, what is made of the answer, and what is printed.
use Rattle.std.specs.Prelude.{ℕ, List, Option, Some, None}
use Rattle.datatypes.specs.Contents.{Contents}
use Rattle.printed_lines.specs.Answers.{count_text, status_text}
use Rattle.engine_calls.specs.declared.call.Call.{Call}
use Rattle.engine_calls.specs.declared.reply.Reply.{Reply}
use Rattle.event_loop.specs.declared.runner.RunnerStep.{RunnerStep}
use Rattle.event_loop.specs.declared.runner.RunnerStep.TheVariants as steps
use Rattle.script_files.specs.declared.script.RankLine.{RankLine}
use Rattle.script_files.specs.declared.script.ScriptStatement.{ScriptStatement}
use Rattle.script_files.specs.declared.script.ScriptStatement.TheVariants as statements
use Rattle.printed_lines.specs.Lines.{elements_line, words_line}
use Rattle.script_calls.specs.declared.pending.Pending.{Pending}
use Rattle.interpreter.specs.declared.steps.NextStep.{NextStep}
use Rattle.interpreter.specs.declared.steps.NextStep.TheVariants as nexts
use Rattle.interpreter.specs.StatementCalls as interpreted
use Rattle.interpreter.specs.Answers as heard
use Rattle.interpreter.specs.NamesState.{NamesState, here, no_names}
use Rattle.script_runner.specs.AnswerLines.{line_of}

-- what the names of a rank stand for, and what the answer to its last call is for, while it isn't here
pub record RankState : Type 0 where
  pub names : NamesState
  pub pending : Option Pending

-- a rank at the start of its script
abbrev pub opening : ℕ → RankState
opening own = record { names = no_names (Some own); pending = None }

-- what a rank does next, if that is more than a change of names, and what it then stands at
abbrev pub Acts : Type 0
Acts = Option RunnerStep × RankState

-- nothing more
abbrev pub goes_on : NamesState → Acts
goes_on names = (None, record { names = names; pending = None })

-- the line is faulty now that it is reached, and the script ends
abbrev pub stops : ℕ → NamesState → Acts
stops number names = (Some (steps.End 1 (Some number)), record { names = names; pending = None })

-- a line is printed
abbrev pub prints : List ℕ → NamesState → Acts
prints line names = (Some (steps.Print line), record { names = names; pending = None })

-- the rank is called, and its answer is for this
abbrev pub makes_call : Call → Pending → NamesState → Acts
makes_call call pending names = (Some (steps.Call call), record { names = names; pending = Some pending })

-- what comes next of a statement is done
abbrev pub follows : NextStep → NamesState → Acts
follows nexts.Nothing names = goes_on names
follows (nexts.Call made) names = makes_call made.call made.pending names
follows (nexts.Told told) names = prints (line_of told) names

abbrev pub follows_heard : heard.Hears → Acts
follows_heard made = follows made.0 made.1

-- the same of a statement of this line, unless it is faulty
abbrev pub does : ℕ → Option NextStep → NamesState → Acts
does number None names = stops number names
does number (Some next) names = follows next names

abbrev pub does_asked : ℕ → interpreted.Acts → Acts
does_asked number acted = does number acted.0 acted.1

-- ---- what asks for no call

-- this is done, and nothing is awaited
abbrev pub says : RunnerStep → NamesState → Acts
says step names = (Some step, record { names = names; pending = None })

-- `print`
abbrev pub prints_elements : ℕ → Option Contents → RunnerStep
prints_elements number None = steps.End 1 (Some number)
prints_elements number (Some buffer) = steps.Print (elements_line buffer)

-- `count`: how many whole copies of the layout the last status counts (MPI 3.1, 3.2.5)
abbrev pub prints_count : ℕ → Option (Option ℕ) → RunnerStep
prints_count number None = steps.End 1 (Some number)
prints_count number (Some copies) = steps.Print (count_text copies)

-- ---- lines

-- what the statement of this line asks for
abbrev pub states : ℕ → ScriptStatement → NamesState → Acts
states number (statements.Action action) names = does_asked number (interpreted.acts_on action names)
states number (statements.Send x) names = does_asked number (interpreted.sends_to_wait x names)
states number (statements.Recv x) names = does_asked number (interpreted.receives_to_wait x names)
states number (statements.Print name) names = says (prints_elements number (here names name)) names
states number statements.Status names = says (steps.Print (status_text names.last)) names
states number (statements.Count name) names = says (prints_count number (interpreted.count_of names name)) names
states number (statements.Say words) names = says (steps.Print (words_line words)) names
states number statements.Fail names = says (steps.End 5 None) names

-- it asks for no call: a line is printed, or the script ends
abbrev pub IsSpoken : ScriptStatement → Type 0
IsSpoken (statements.Action action) = ⊥
IsSpoken (statements.Send x) = ⊥
IsSpoken (statements.Recv x) = ⊥
IsSpoken (statements.Print name) = Unit {0}
IsSpoken statements.Status = Unit {0}
IsSpoken (statements.Count name) = Unit {0}
IsSpoken (statements.Say words) = Unit {0}
IsSpoken statements.Fail = Unit {0}

-- What a line asks for. A name that isn't set, or a buffer that is lent, ends the script with the line's number.
abbrev pub acts : RankLine → RankState → Acts
acts line s = states line.number line.statement s.names

-- what is made of the answer to the last call; of one that nothing is awaited for, nothing
abbrev pub heeds_by : Option Pending → Reply → NamesState → Acts
heeds_by None reply names = goes_on names
heeds_by (Some pending) reply names = follows_heard (heard.hears pending reply names)

abbrev pub heeds : Reply → RankState → Acts
heeds reply s = heeds_by s.pending reply s.names
