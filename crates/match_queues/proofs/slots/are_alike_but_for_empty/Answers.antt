use Rattle.std.proofs.Common.{length, take, ◌∙◌, refl, sym}
use Rattle.std.proofs.lemmas.Option.{slice_get_read}
use Rattle.match_queues.proofs.Standing.{one_more}
use Rattle.match_queues.proofs.slots.are_alike_but_for_empty.Goals as goal

pub loop-this-preserved : goal.loop-this-preserved
loop-this-preserved g c =
    one_more c.args.these.now (take c.loop-this.reached c.args.those.now) c.loop-this.this-index c.this-item.result
    (slice_get_read c.args.these.now (length c.args.these.now) c.loop-this.this-index c.this-item.result refl
    c.loop-this-test.true c.this-item.is)
    c.loop-this.invariant ∙ sym c.in-Some.ensures
