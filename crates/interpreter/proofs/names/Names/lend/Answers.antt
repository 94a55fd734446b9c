use Rattle.interpreter.proofs.EntryLaws.{lends}
use Rattle.interpreter.proofs.names.Names.lend.Goals as goal

pub returns : goal.returns
returns c =
    rw c.flatten.ensures
    (lends _ _ c.self.view_is c.args.name.now c.replace.result c.replace.new.self c.replace.ensures.before
    c.replace.ensures.after c.replace.ensures.unchanged)
