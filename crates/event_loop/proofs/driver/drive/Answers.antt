use Rattle.std.proofs.Common.{subst}
use Rattle.event_loop.specs.Drives.{Rounds}
use Rattle.event_loop.specs.declared.loop_state.LoopState.{LoopState}
use Rattle.event_loop.proofs.driver.drive.Goals as goal

pub returns-clause-exact : goal.returns-clause-exact
returns-clause-exact g c =
    let on = c.make_rounds.ensures.exact in
    record {
      start = c.now-start.result;
      times = on.times;
      now = on.now;
      course = on.course;
      state = c.make_rounds.new.rank.state;
      clock = (_, c.now-start.ensures, on.clock);
      rounds_on = subst
          (λ (s : LoopState). Rounds g.P.Runner.does g.T.Transport.passed g.T.Transport.waits c.args.patience
          (record {
            engine = c.args.rank.now.engine;
            runner = c.args.rank.now.runner;
            state = s;
            transport = c.args.transport.now;
          })
          on.times on.course) c.replace.ensures on.rounds_on;
      last = on.last;
    }
