use Rattle.std.proofs.Common.{ap, length, take, ◌∙◌, arith}
use Rattle.std.proofs.lemmas.List.{take_all}
use Rattle.match_queues.specs.Slots.{somes}
use Rattle.match_queues.proofs.Standing.{no_more, none_more}
use Rattle.match_queues.proofs.slots.standing_from.Goals as goal

pub loop-place-preserved : goal.loop-place-preserved
loop-place-preserved g c =
    none_more c.args.slots.now (take c.args.from c.args.slots.now) c.loop-place.place
    (c.is_empty_at.ensures.0 c.if-not-is_empty_at.false) c.loop-place.invariant

pub returns : goal.returns
returns g c =
    ap somes (take_all (length c.args.slots.now) c.args.slots.now (omega arith))
    ∙ no_more c.args.slots.now (take c.args.from c.args.slots.now) c.loop-place.place c.loop-place-test.false c.loop-place.invariant
