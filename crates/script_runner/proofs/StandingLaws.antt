-- A line ends the script exactly where one of its names isn't set, or its buffer is lent.
use Rattle.std.proofs.Common.{◌≡◌, ℕ, false, List, Option, Some, None, refl, ap}
use Rattle.std.specs.Prelude.{option_map, is_some, length}
use Rattle.datatypes.specs.Contents.{Contents}
use Rattle.datatypes.specs.Transfers.{whole_copies}
use Rattle.layouts.specs.Layouts.{Shape}
use Rattle.line_diagnostics.specs.declared.fault.LineFault.{LineFault}
use Rattle.line_diagnostics.specs.Lacks.{lack_of_action, lack_of_statement, lacks_buffer, lacks_layout, lacks_place}
use Rattle.interpreter.specs.declared.steps.NextStep.{NextStep}
use Rattle.interpreter.specs.declared.steps.NextStep.TheVariants as nexts
use Rattle.interpreter.specs.StatementCalls as interpreted
use Rattle.interpreter.specs.Faults.{FaultyWhere, is_faulty}
use Rattle.interpreter.specs.NamesState.{NamesState, here, holdings}
use Rattle.interpreter.proofs.FaultLaws.{Matches, action_faults, buffer_matches, layout_matches, waited_receive_faults}
use Rattle.interpreter.proofs.FaultLaws.{waited_send_faults}
use Rattle.script_calls.specs.Tables.{value_at}
use Rattle.event_loop.specs.declared.runner.RunnerStep.{RunnerStep}
use Rattle.event_loop.specs.declared.runner.RunnerStep.TheVariants as steps
use Rattle.script_runner.specs.ScriptRanks.{Acts, does, does_asked, prints_count, prints_elements, says, states, stops}
use Rattle.script_files.specs.declared.script.ScriptStatement.{ScriptStatement}
use Rattle.script_files.specs.declared.script.ScriptStatement.TheVariants as statements
use Rattle.script_runner.specs.Positions.{StopsWhere, is_stop}

-- what isn't faulty doesn't end the script
goes_on : (number : ℕ) (next : Option NextStep) (names : NamesState) → is_faulty next ≡ false →
    is_stop (does number next names).0 ≡ false
goes_on number None names e = absurd cc
goes_on number (Some nexts.Nothing) names e = refl
goes_on number (Some (nexts.Call made)) names e = refl
goes_on number (Some (nexts.Told told)) names e = refl

-- a statement that is faulty ends the script, and no other
asked_stops : (fault : Option LineFault) (number : ℕ) (acted : interpreted.Acts) (names : NamesState) →
    FaultyWhere fault acted names →
    StopsWhere fault number (does_asked number acted) names
asked_stops None number acted names h = goes_on number acted.0 acted.1 h
asked_stops (Some fault) number acted names h = ap (does_asked number) h

print_stops : (number : ℕ) (names : NamesState) (buffer : Option Contents) (fault : Option LineFault) →
    Matches fault buffer →
    StopsWhere fault number (says (prints_elements number buffer) names) names
print_stops number names None None m = absurd m
print_stops number names None (Some fault) m = refl
print_stops number names (Some buffer) None m = refl
print_stops number names (Some buffer) (Some fault) m = absurd m

count_stops : (number : ℕ) (names : NamesState) (layout : Option Shape) (fault : Option LineFault) →
    Matches fault layout →
    StopsWhere fault number
    (says (prints_count number
    (option_map (λ (l : Shape). whole_copies names.last.count (length l.offsets)) layout)) names) names
count_stops number names None None m = absurd m
count_stops number names None (Some fault) m = refl
count_stops number names (Some layout) None m = refl
count_stops number names (Some layout) (Some fault) m = absurd m

-- a line ends the script exactly where there is a fault, and then changes nothing
pub stops_where_lacking : (number : ℕ) (statement : ScriptStatement) (names : NamesState) →
    StopsWhere (lack_of_statement (holdings names) statement) number (states number statement names) names
stops_where_lacking number (statements.Action action) names =
    asked_stops (lack_of_action (holdings names) action) number (interpreted.acts_on action names) names
    (action_faults action names)
stops_where_lacking number (statements.Send x) names =
    asked_stops (lacks_place (holdings names) x.communicator x.through x.buffer) number
    (interpreted.sends_to_wait x names) names (waited_send_faults x names)
stops_where_lacking number (statements.Recv x) names =
    asked_stops (lacks_place (holdings names) x.communicator x.through x.buffer) number
    (interpreted.receives_to_wait x names) names (waited_receive_faults x names)
stops_where_lacking number (statements.Print name) names =
    print_stops number names (here names name) (lacks_buffer (holdings names) name) (buffer_matches names name)
stops_where_lacking number statements.Status names = refl
stops_where_lacking number (statements.Count name) names =
    count_stops number names (value_at names.layouts name) (lacks_layout (holdings names) name)
    (layout_matches names name)
stops_where_lacking number (statements.Say words) names = refl
stops_where_lacking number statements.Fail names = refl
