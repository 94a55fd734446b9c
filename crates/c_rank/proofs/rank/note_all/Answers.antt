use Rattle.std.proofs.Common.{List, sym, ap, ◌∙◌}
use Rattle.datagram.specs.ByteMeanings.{datagram_of}
use Rattle.port_transport.specs.Wires.{Parcel}
use Rattle.round_trips.specs.Trips.{after_sent}
use Rattle.round_trips.specs.declared.round_trip.RoundTrip.{RoundTrip}
use Rattle.c_rank.proofs.ClockSteps.{sent_more}
use Rattle.c_rank.proofs.rank.note_all.Goals as goal

pub loop-datagram-preserved : goal.loop-datagram-preserved
loop-datagram-preserved c =
    let p : Parcel = c.datagram-item.result in
    let one = rw c.as_slice.ensures at c.on_sent.ensures in
    one
    ∙ ap (λ (t : List RoundTrip). after_sent t (datagram_of p.1) c.args.now) c.loop-datagram.invariant
    ∙ sym (sent_more c.args.trips.now c.args.list.now c.loop-datagram.datagram-index p c.args.now
    c.loop-datagram-test.true c.datagram-item.is)
