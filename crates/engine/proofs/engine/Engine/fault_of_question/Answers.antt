use Rattle.std.proofs.Common.{sym, ap, ◌∙◌}
use Rattle.std.specs.Prelude.{option_map}
use Rattle.engine.proofs.EntryFaults.{question_ruled}
use Rattle.engine_calls.specs.Refusals.{of_rule}
use Rattle.engine.specs.Parts.{engine_with}
use Rattle.engine.proofs.engine.Engine.fault_of_question.Goals as goal

pub returns-in-Some : goal.returns-in-Some
returns-in-Some c =
    rw (← c.self.view_is, c.of_rule.ensures)
    (ap (option_map of_rule) (sym c.in-Some.is)
    ∙ question_ruled
    (engine_with c.self.inside.parts c.self.inside.ended) c.is_blocked.result c.args.comm c.args.question
    c.fault_of_question.result
    c.is_blocked.ensures c.fault_of_question.ensures)

pub returns-in-None : goal.returns-in-None
returns-in-None c =
    rw (← c.self.view_is) (ap (option_map of_rule) (sym c.in-None.is)
    ∙ question_ruled
    (engine_with c.self.inside.parts c.self.inside.ended) c.is_blocked.result c.args.comm c.args.question
    c.fault_of_question.result
    c.is_blocked.ensures c.fault_of_question.ensures)
