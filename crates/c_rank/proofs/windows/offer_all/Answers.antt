use Rattle.std.proofs.Common.{sym, ap, ◌∙◌}
use Rattle.congestion_windows.specs.Flights.{WindowsState, after_offer}
use Rattle.port_transport.specs.Wires.{Parcel}
use Rattle.c_rank.proofs.WindowSteps.{offered_more}
use Rattle.c_rank.proofs.windows.offer_all.Goals as goal

pub loop-datagram-preserved : goal.loop-datagram-preserved
loop-datagram-preserved c =
    let p : Parcel = c.datagram-item.result in
    let one = rw c.as_slice.ensures at c.offer.ensures in
    one
    ∙ ap (λ (w : WindowsState). after_offer w p.1) c.loop-datagram.invariant
    ∙ sym (offered_more c.args.windows.now c.args.list.now c.loop-datagram.datagram-index p
    c.loop-datagram-test.true c.datagram-item.is)
