use Rattle.std.proofs.Common.{◌≡◌, ℕ, List, Ok, Err, sym, ap, ◌∙◌, subst}
use Rattle.engine_calls.specs.declared.call.Call.{Call}
use Rattle.script_players.proofs.CallLaws.{call_refused, call_taken, on_ok}
use Rattle.script_players.proofs.played.call.Goals as goal

-- src/played.rt:126:1
pub returns-in_ok-next-in-Ok : goal.returns-in_ok-next-in-Ok
returns-in_ok-next-in-Ok c = record {
  exact = (
    Ok c.in-Ok.stepped,
    λ s lines. call_taken c.args.world.now c.step.new.self c.args.rank c.args.call c.in-Ok.stepped c.in-Ok.ensures.exact
        c.index-history-stepped.result c.history.result.now c.history.ensures.entries c.index-history-stepped.is
        c.in_ok-told-in-Ok.told c.in_ok-told-in-Ok.ensures c.args.state.now c.replace.new.place
        c.args.refused.now.items
        (λ is. c.replace.ensures ∙ c.in_ok-next-in-Ok.ensures c.args.rank c.args.call is) s lines,
  );
}

-- src/played.rt:126:1
pub returns-in-Err : goal.returns-in-Err
returns-in-Err c = record {
  exact = on_ok c.hand_back.result _ _
      (λ back. (
        Err c.in-Err.failed,
        λ s lines. call_refused c.args.world.now c.step.new.self c.args.rank c.args.call c.in-Err.failed
            c.args.refused.now.items c.hand_back.new.refused.items c.args.state.now c.hand_back.new.state c.requires
            c.in-Err.ensures.exact back s lines,
      )) c.hand_back.ensures;
}
