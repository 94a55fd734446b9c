use Rattle.std.proofs.Common.{[], refl, arith}
use Rattle.world.proofs.Ranks.{ran_at, ready_there, there_by, world_after}
use Rattle.world.specs.Views.{gave_of}
use Rattle.world.specs.declared.event.Event.TheVariants as events
use Rattle.world.proofs.running.call_at.Goals as goal

pub call-requires : goal.call-requires
call-requires c =
    ready_there c.args.engines.now.items c.args.rank c.index_mut-engine.result.now c.requires.world c.requires.placed
    (there_by c.args.engines.now.items c.args.rank c.index_mut-engine.result.now
    (omega (arith, c.requires.there, c.args.engines.now.ok.0)) c.index_mut-engine.ensures.value)

pub returns-clause-exact : goal.returns-clause-exact
returns-clause-exact c =
    ran_at [] (events.Call c.args.rank c.args.asked) c.args.engines.now.items c.args.rank c.index_mut-engine.result.now
    c.call.new.engine (gave_of c.call.result) refl
    (there_by c.args.engines.now.items c.args.rank c.index_mut-engine.result.now
    (omega (arith, c.requires.there, c.args.engines.now.ok.0)) c.index_mut-engine.ensures.value)
    c.call.ensures.exact

pub returns-clause-world : goal.returns-clause-world
returns-clause-world c =
    world_after c.args.engines.now.items c.args.rank c.index_mut-engine.result.now c.call.new.engine c.requires.world
    c.requires.placed
    (there_by c.args.engines.now.items c.args.rank c.index_mut-engine.result.now
    (omega (arith, c.requires.there, c.args.engines.now.ok.0)) c.index_mut-engine.ensures.value)
    c.call.ensures.ready c.call.ensures.size
