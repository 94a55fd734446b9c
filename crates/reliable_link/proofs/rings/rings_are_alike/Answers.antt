-- One more place.
use Rattle.std.proofs.Common.{sym}
use Rattle.reliable_link.proofs.rings.rings_are_alike.Goals as goal
use Rattle.reliable_link.proofs.RingPlaces.{one_more}

pub loop-place-preserved : goal.loop-place-preserved
loop-place-preserved g c =
    one_more c.args.one.now.items c.args.other.now.items c.loop-place.place c.in-Some-Some.this.now
    c.in-Some-Some.that.now (sym c.in-Some-Some.ensures) (sym c.in-Some-Some.ensures')
    (c.stands_as.ensures c.if-not-stands_as.false) c.loop-place.invariant
