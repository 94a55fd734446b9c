use Rattle.std.proofs.Common.{◌∙◌, sym, ap}
use Rattle.std.specs.Option.{option_copied_mut}
use Rattle.script_calls.specs.Tables.{entries_of}
use Rattle.script_calls.proofs.TableLaws.{is_written, on_err, stands}
use Rattle.script_calls.proofs.table.Table.set.Goals as goal

pub returns-in-Some-clause-set : goal.returns-in-Some-clause-set
returns-in-Some-clause-set g c =
    ap entries_of (c.get_mut.follows.holds c.args.value).0
    ∙ is_written c.self.inside.values.entries c.as_bytes.result.now c.in-Some.there.now c.args.value c.self.view_is
    c.as_bytes.ensures
    (sym c.in-Some.ensures.value)

pub returns-clause-new : goal.returns-clause-new
returns-clause-new g c =
    on_err _ c.insert_new.result
    (sym (stands c.self.inside.values.entries c.as_bytes.result.now c.self.view_is c.as_bytes.ensures)
    ∙ sym c.get_mut.ensures.value ∙ ap option_copied_mut c.in_default.is)
