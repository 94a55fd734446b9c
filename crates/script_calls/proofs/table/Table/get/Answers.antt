use Rattle.std.proofs.Common.{◌∙◌}
use Rattle.script_calls.proofs.TableLaws.{stands}
use Rattle.script_calls.proofs.table.Table.get.Goals as goal

pub returns : goal.returns
returns g c =
    c.get.ensures.value ∙ stands c.self.inside.values.entries c.as_bytes.result.now c.self.view_is c.as_bytes.ensures
