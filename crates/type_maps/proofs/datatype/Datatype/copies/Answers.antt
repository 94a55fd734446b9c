use Rattle.type_maps.specs.Maps.{no_elements, joined, copied, places_of}
use Rattle.type_maps.specs.Refusals.{BoundsFit}
use Rattle.type_maps.specs.Summaries.{summary_of}
use Rattle.type_maps.specs.Types.{AddFits, CopiedFits}
use Rattle.type_maps.proofs.TypeLaws.{added_fits, makes_under, refused_under}
use Rattle.type_maps.proofs.datatype.Datatype.copies.Goals as goal

pub returns-in-Ok : goal.returns-in-Ok
returns-in-Ok c = λ m t. makes_under (BoundsFit (summary_of (copied (places_of c.args.at.now) m)))
    (CopiedFits c.args.at.now m)
    (copied (places_of c.args.at.now) m) c.finish.result (λ f. f.bounds)
    (c.finish.ensures (joined no_elements (copied (places_of c.args.at.now) m))
    (c.in-Ok.ensures no_elements m c.new-made.ensures t))

pub returns-in-Err : goal.returns-in-Err
returns-in-Err c = λ m t. refused_under (AddFits no_elements m c.args.at.now) (CopiedFits c.args.at.now m)
    c.in-Err.refusal
    (added_fits m c.args.at.now) (c.in-Err.ensures no_elements m c.new-made.ensures t)
