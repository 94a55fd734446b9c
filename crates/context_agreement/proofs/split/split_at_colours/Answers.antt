-- One more run, with a colour or without one.
use Rattle.context_agreement.proofs.RowParts.{cut_with, cut_without, colour_at, before_more}
use Rattle.context_agreement.proofs.split.split_at_colours.Goals as goal

pub loop-start-preserved-in_ok-push : goal.loop-start-preserved-in_ok-push
loop-start-preserved-in_ok-push c =
    let rows = c.args.sorted.now in
    let start = c.loop-start.start in
    let end = c.end_of_colour-end.result in
    let run = c.end_of_colour-end.ensures in
    let so_far = c.loop-start.invariant in
    record {
      done =
          rw (c.in_ok-push.ensures.items, c.in_ok-ranks.ensures)
          (cut_with rows start end c.in-Some.colour c.loop-start.plan.items run so_far.before
          (colour_at rows start _ _ c.loop-start-test.true c.in-Some.is) so_far.done);
      within = run.within;
      before = before_more rows start end c.requires run so_far.before;
    }

pub loop-start-preserved : goal.loop-start-preserved
loop-start-preserved c =
    let rows = c.args.sorted.now in
    let start = c.loop-start.start in
    let end = c.end_of_colour-end.result in
    let run = c.end_of_colour-end.ensures in
    let so_far = c.loop-start.invariant in
    record {
      done =
          cut_without rows start end c.loop-start.plan.items run
          (colour_at rows start _ _ c.loop-start-test.true c.in_default.is) so_far.done;
      within = run.within;
      before = before_more rows start end c.requires run so_far.before;
    }
