use Rattle.std.proofs.Common.{◌∙◌, sym, ap, Some}
use Rattle.script_calls.specs.Tables.{entries_of, with_value}
use Rattle.script_calls.proofs.TableLaws.{is_written, stands}
use Rattle.script_calls.proofs.table.Table.replace.Goals as goal

pub returns-in_err-there-clause-before : goal.returns-in_err-there-clause-before
returns-in_err-there-clause-before g c =
    c.from_residual.ensures
    ∙ c.in_err-there.ensures.value
    ∙ stands c.self.inside.values.entries c.as_bytes.result.now c.self.view_is c.as_bytes.ensures

pub returns-clause-before : goal.returns-clause-before
returns-clause-before g c =
    ap Some c.replace.ensures.value
    ∙ c.in_ok-there.ensures.value
    ∙ stands c.self.inside.values.entries c.as_bytes.result.now c.self.view_is c.as_bytes.ensures

pub returns-clause-after : goal.returns-clause-after
returns-clause-after g c =
    ap entries_of (c.get_mut.follows.holds c.replace.new.dest).0
    ∙ is_written c.self.inside.values.entries c.as_bytes.result.now c.in_ok-there.there.now c.replace.new.dest
    c.self.view_is c.as_bytes.ensures
    (sym c.in_ok-there.ensures.value)
    ∙ ap (λ (v : _). with_value c.args.self.now c.args.name.now v) c.replace.ensures.after
