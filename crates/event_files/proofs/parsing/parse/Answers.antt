use Rattle.event_files.proofs.FileLaws.{is_found, is_only}
use Rattle.event_files.proofs.parsing.parse.Goals as goal

pub returns-clause-found : goal.returns-clause-found
returns-clause-found c = is_found c.args.text.now c.file_of.result c.file_of.ensures

pub returns-clause-only : goal.returns-clause-only
returns-clause-only c = is_only c.args.text.now c.file_of.result c.file_of.ensures
