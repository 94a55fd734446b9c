-- More of those for whom the rank waits are known.
use Rattle.collective_progress.proofs.NoteLaws.{entered_kept}
use Rattle.collective_progress.proofs.progress.Progress.catch_up.Goals as goal

pub returns-clause-kept : goal.returns-clause-kept
returns-clause-kept c =
    entered_kept c.args.own c.args.inside.now c.args.notes.now
    (record {
      count = c.self.inside.count;
      places = c.self.inside.places.items;
      entered = c.self.inside.entered;
      differs = c.self.inside.differs;
      found = c.self.inside.found;
      result = c.self.inside.result;
    })
    c.look_at_all.new.progress c.first_known-entered.result c.self.view_is c.look_at_all.ensures.kept
    c.first_known-entered.ensures.first
