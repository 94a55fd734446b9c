use Rattle.std.proofs.Common.{Ok}
use Rattle.script_plays.proofs.MoveLaws.{event_taken, on_ok}
use Rattle.script_plays.proofs.playing.happen.Goals as goal

-- src/playing.rt:35:1
pub returns-in-Ok-clause-exact : goal.returns-in-Ok-clause-exact
returns-in-Ok-clause-exact c =
    on_ok c.tell.result _ _
    (λ told. (
      Ok c.in-Ok.stepped,
      event_taken c.args.world.now c.step.new.self c.args.event c.in-Ok.stepped c.in-Ok.ensures.exact
          c.index-history-stepped.result c.history.result.now c.history.ensures.entries c.index-history-stepped.is
          c.args.players.now.items c.tell.new.players.items told,
    )) c.tell.ensures
