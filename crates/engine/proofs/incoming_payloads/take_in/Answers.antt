use Rattle.std.proofs.Common.{[], sym, ◌∙◌}
use Rattle.engine.proofs.PayloadPieces.{limit_met, memory_wanting, none_for, on_ok}
use Rattle.engine.proofs.incoming_payloads.take_in.Goals as goal

pub returns-in-Some-clause-err : goal.returns-in-Some-clause-err
returns-in-Some-clause-err c =
    limit_met _ c.in-Some.limit (sym (c.limit_of.ensures [] (none_for c.args.heard.source.rank)) ∙ c.in-Some.is)

pub carry_out-requires-clause-limit : goal.carry_out-requires-clause-limit
carry_out-requires-clause-limit c = sym (c.limit_of.ensures [] (none_for c.args.heard.source.rank)) ∙ c.in_default.is

pub returns-clause-none : goal.returns-clause-none
returns-clause-none c =
    on_ok c.carry_out.result (sym (c.limit_of.ensures [] (none_for c.args.heard.source.rank)) ∙ c.in_default.is)

pub returns-clause-err : goal.returns-clause-err
returns-clause-err c =
    memory_wanting _ c.carry_out.result (sym (c.limit_of.ensures [] (none_for c.args.heard.source.rank)) ∙
    c.in_default.is) c.carry_out.ensures.err
