use Rattle.std.proofs.Common.{◌∙◌, ap}
use Rattle.script_calls.specs.Tables.{entries_of}
use Rattle.script_calls.proofs.TableLaws.{is_inserted}
use Rattle.script_calls.proofs.table.insert_new.Goals as goal

pub returns-in-Ok-clause-set : goal.returns-in-Ok-clause-set
returns-in-Ok-clause-set g c =
    ap entries_of c.in-Ok.ensures.entries
    ∙ is_inserted c.args.values.now.entries c.args.name.now c.in_ok-bytes.bytes c.args.value c.in_ok-bytes.ensures.items
