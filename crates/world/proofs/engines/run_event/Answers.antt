use Rattle.std.proofs.Common.{arith}
use Rattle.world.proofs.Ranks.{ran_at, ready_there, there_by}
use Rattle.world.specs.Views.{gave_of}
use Rattle.world.proofs.engines.run_event.Goals as goal

pub happen-requires-clause-ready : goal.happen-requires-clause-ready
happen-requires-clause-ready c =
    ready_there c.args.engines.now.items c.args.rank c.index_mut-engine.result.now c.requires.world c.requires.placed
    (there_by c.args.engines.now.items c.args.rank c.index_mut-engine.result.now
    (omega (arith, c.requires.there, c.args.engines.now.ok.0)) c.index_mut-engine.ensures.value)

pub returns-clause-exact : goal.returns-clause-exact
returns-clause-exact c =
    ran_at c.args.datagrams.now c.args.event c.args.engines.now.items c.args.rank c.index_mut-engine.result.now
    c.happen.new.engine (gave_of c.happen.result) c.requires.target
    (there_by c.args.engines.now.items c.args.rank c.index_mut-engine.result.now
    (omega (arith, c.requires.there, c.args.engines.now.ok.0)) c.index_mut-engine.ensures.value)
    c.happen.ensures.exact
