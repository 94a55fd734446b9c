use Rattle.std.proofs.Common.{sym, ◌∙◌}
use Rattle.engine.proofs.EntryLaws.{entered_at, stays_out}
use Rattle.engine.specs.Parts.{PartsState, state_of}
use Rattle.engine.proofs.engine.Engine.enter.Goals.{in-Ok, in-Err}
use Rattle.engine.proofs.engine.Engine.enter.Goals as goal

pub returns-clause-exact : goal.returns-clause-exact
returns-clause-exact c =
    let s : PartsState = state_of c.self.inside.parts in
    let t : PartsState = state_of c.go_in.new.self in
    elim c.match-go_in.branch [
      | in-Ok w ↦ entered_at s t c.self.inside.ended c.args.self.now c.args.comm c.in-Some-comm.place c.args.entry
          w.in-Ok.ending w.reply_on_entry.result c.match-go_in.result c.self.view_is c.in-Some-comm.is w.result-is
          w.reply_on_entry.ensures (sym c.fault_of_entry.ensures ∙ c.in_default.is) w.in-Ok.ensures.exact
      | in-Err w ↦ stays_out s t c.self.inside.ended c.args.self.now c.args.comm c.in-Some-comm.place c.args.entry
          w.in-Err.back.value w.in-Err.back.refused c.match-go_in.result c.self.view_is c.in-Some-comm.is w.result-is
          w.in-Err.ensures.handed (sym c.fault_of_entry.ensures ∙ c.in_default.is) w.in-Err.ensures.exact
          w.in-Err.ensures.unchanged
    ]
