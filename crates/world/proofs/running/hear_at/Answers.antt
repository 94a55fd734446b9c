use Rattle.std.proofs.Common.{[], ◌∷◌, refl, arith}
use Rattle.world.proofs.Ranks.{ran_at, ready_there, there_by}
use Rattle.world.specs.Views.{gave_of}
use Rattle.world.specs.declared.event.Event.TheVariants as events
use Rattle.world.proofs.running.hear_at.Goals as goal

pub deliver-requires : goal.deliver-requires
deliver-requires c =
    ready_there c.args.engines.now.items c.args.rank c.index_mut-engine.result.now c.requires.world c.requires.placed
    (there_by c.args.engines.now.items c.args.rank c.index_mut-engine.result.now
    (omega (arith, c.requires.there, c.args.engines.now.ok.0)) c.index_mut-engine.ensures.value)

pub returns-clause-exact : goal.returns-clause-exact
returns-clause-exact c =
    ran_at ((c.args.rank, c.args.bytes.now) ∷ []) (events.Deliver 0) c.args.engines.now.items c.args.rank
    c.index_mut-engine.result.now c.deliver.new.engine (gave_of c.deliver.result) refl
    (there_by c.args.engines.now.items c.args.rank c.index_mut-engine.result.now
    (omega (arith, c.requires.there, c.args.engines.now.ok.0)) c.index_mut-engine.ensures.value)
    c.deliver.ensures.exact
