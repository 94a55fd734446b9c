use Rattle.std.proofs.Common.{◌∷◌}
use Rattle.type_maps.specs.declared.entry.Entry.TheVariants.{Copies}
use Rattle.type_maps.proofs.EntryLaws.{append_answer, whole_copied}
use Rattle.type_maps.proofs.entry.append_copies.Goals as goal

pub returns-in-Some : goal.returns-in-Some
returns-in-Some c = λ done items es h w. append_answer c.append_item.result c.args.entries.now.items
    c.append_item.new.entries.items
    (c.in-Some.first ∷ c.in-Some.rest.now) items done _ h (c.in-Some.ensures es w.spells) c.append_item.ensures

pub returns-in-None : goal.returns-in-None
returns-in-None c = λ done items es h w. append_answer c.append_item-in-None.result c.args.entries.now.items
    c.append_item-in-None.new.entries.items (Copies c.args.body c.args.at.now ∷ c.args.old.now) items done _ h
    (whole_copied c.args.body c.args.old.now es c.args.at.now w) c.append_item-in-None.ensures
