use Rattle.std.proofs.Common.{sym, ap, ◌∙◌}
use Rattle.std.specs.Prelude.{option_map}
use Rattle.engine.proofs.EntryFaults.{entry_ruled}
use Rattle.engine_calls.specs.Refusals.{of_rule}
use Rattle.engine.specs.Parts.{engine_with}
use Rattle.engine.proofs.engine.Engine.fault_of_entry.Goals as goal

pub returns-in-Some : goal.returns-in-Some
returns-in-Some c =
    rw (← c.self.view_is, c.of_rule.ensures)
    (ap (option_map of_rule) (sym c.in-Some.is)
    ∙ entry_ruled
    (engine_with c.self.inside.parts c.self.inside.ended) c.is_blocked-is_blocked.result
    c.incarnations-known.result.now c.place.result c.args.comm c.args.entry.now c.fault_of_entry.result
    c.is_blocked-is_blocked.ensures c.incarnations-known.ensures c.place.ensures.place c.fault_of_entry.ensures)

pub returns-in-None : goal.returns-in-None
returns-in-None c =
    rw (← c.self.view_is) (ap (option_map of_rule) (sym c.in-None.is)
    ∙ entry_ruled
    (engine_with c.self.inside.parts c.self.inside.ended) c.is_blocked-is_blocked.result
    c.incarnations-known.result.now c.place.result c.args.comm c.args.entry.now c.fault_of_entry.result
    c.is_blocked-is_blocked.ensures c.incarnations-known.ensures c.place.ensures.place c.fault_of_entry.ensures)
