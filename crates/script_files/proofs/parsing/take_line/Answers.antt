use Rattle.script_files.proofs.ScriptSteps.{is_faulty_line, is_skipped_line, is_read_line}
use Rattle.script_files.proofs.parsing.take_line.Goals as goal

pub returns-in-Err-Faulty-clause-err : goal.returns-in-Err-Faulty-clause-err
returns-in-Err-Faulty-clause-err c =
    λ rest. is_faulty_line c.args.script.now c.args.number c.args.line.now rest c.in-Err-Faulty.field-0
    c.in-Err-Faulty.field-0-is c.in-Err-Faulty.ensures

pub returns-in-Ok-None-clause-ok : goal.returns-in-Ok-None-clause-ok
returns-in-Ok-None-clause-ok c =
    λ rest. is_skipped_line c.args.script.now c.args.number c.args.line.now rest c.in-Ok-None.field-0
    c.in-Ok-None.field-0-is c.in-Ok-None.ensures

pub returns-in_ok-push-in-Ok-Some-clause-ok : goal.returns-in_ok-push-in-Ok-Some-clause-ok
returns-in_ok-push-in-Ok-Some-clause-ok c =
    λ rest. rw c.in_ok-push-in-Ok-Some.ensures
    (is_read_line c.args.script.now c.args.number c.args.line.now rest c.in-Ok-Some.field-0 c.in-Ok-Some.item
    c.in-Ok-Some.field-0-is c.in-Ok-Some.ensures)
