use Rattle.std.proofs.Common.{[], refl}
use Rattle.port_transport.proofs.Steps.{stays}
use Rattle.rank_process.proofs.rank_transport.nothing_passes.Goals as goal

pub returns : goal.returns
returns g c =
    stays g.W.Wire.did c.args.ports.now c.args.ports.now [] [] [] (g.met.W.Wire.none c.args.ports.now.wire) refl refl refl
    refl refl
