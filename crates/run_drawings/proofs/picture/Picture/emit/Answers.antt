use Rattle.std.proofs.Common.{refl}
use Rattle.run_drawings.proofs.PictureLaws.{on_ok}
use Rattle.run_drawings.proofs.picture.Picture.emit.Goals as goal

pub returns-clause-arrow : goal.returns-clause-arrow
returns-clause-arrow c =
    on_ok c.push_row.result (λ _. record {
      arrow = record {
        source = c.args.emission.source;
        target = c.args.emission.target;
        load = c.args.emission.load;
        words = c.args.emission.words;
        is_resent = c.if-is_frame.is_resent;
        row = c.len.result;
        arrivals = c.new.result;
      };
      added = c.in_ok-push_arrow.ensures;
      from = refl;
      to = refl;
      carries = refl;
      says = refl;
      begins = c.len.ensures;
      comes = c.new.ensures.items;
    }) c.push_row.ensures.added
