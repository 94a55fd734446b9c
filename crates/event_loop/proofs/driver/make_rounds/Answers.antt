use Rattle.std.proofs.Common.{[], ◌∷◌, ◌++◌, ◌∙◌, refl}
use Rattle.event_loop.proofs.Runs.{rounds_more, tells_more}
use Rattle.event_loop.proofs.driver.make_rounds.Goals as goal

pub loop-init : goal.loop-init
loop-init g c = (tt, tt, refl, ([], refl, refl))

pub loop-preserved : goal.loop-preserved
loop-preserved g c =
    let driven = c.loop.invariant.3 in
    let exact = rw c.in-Ok-None.field-0-is at c.in-Ok-None.ensures.exact in (
      tt,
      tt,
      c.in-Ok-None.ensures.failures ∙ c.loop.invariant.2,
      (
        driven.0 ++ c.now-now.result ∷ [],
        tells_more g.C.Clock.told driven.0 _ _ _ _ driven.1 c.now-now.ensures,
        rounds_more g.P.Runner.does g.T.Transport.passed g.T.Transport.waits c.args.patience driven.0 _ _
            c.now-now.result
            (record {
              engine = c.make_round.new.rank.engine;
              runner = c.make_round.new.rank.runner;
              state =
                  c.make_round.new.rank.state;
              transport = c.make_round.new.transport;
            })
            driven.2 exact,
      ),
    )

pub returns-in-Ok-Some-clause-exact : goal.returns-in-Ok-Some-clause-exact
returns-in-Ok-Some-clause-exact g c =
    let driven = c.loop.invariant.3 in
    record {
      times = driven.0;
      now = c.now-now.result;
      course = record {
        engine = c.loop.rank.engine;
        runner = c.loop.rank.runner;
        state = c.loop.rank.state;
        transport =
            c.loop.transport;
      };
      clock = tells_more g.C.Clock.told driven.0 _ _ _ _ driven.1 c.now-now.ensures;
      rounds_on = driven.2;
      last = rw c.in-Ok-Some.field-0-is at c.in-Ok-Some.ensures.exact;
    }

pub returns-in-Err-clause-exact : goal.returns-in-Err-clause-exact
returns-in-Err-clause-exact g c =
    let driven = c.loop.invariant.3 in
    record {
      times = driven.0;
      now = c.now-now.result;
      course = record {
        engine = c.loop.rank.engine;
        runner = c.loop.rank.runner;
        state = c.loop.rank.state;
        transport =
            c.loop.transport;
      };
      clock = tells_more g.C.Clock.told driven.0 _ _ _ _ driven.1 c.now-now.ensures;
      rounds_on = driven.2;
      last = c.in-Err.ensures.exact;
    }
