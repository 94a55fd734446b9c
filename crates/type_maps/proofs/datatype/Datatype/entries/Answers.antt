use Rattle.std.proofs.Common.{List, sym, subst}
use Rattle.type_maps.specs.declared.entry.Entry.{Entry}
use Rattle.type_maps.specs.Entries.{IsCommittedTo}
use Rattle.type_maps.proofs.EntryLaws.{entries_have_bytes}
use Rattle.type_maps.proofs.datatype.Datatype.entries.Goals as goal

pub returns-clause-committed : goal.returns-clause-committed
returns-clause-committed c = λ m t. subst (λ (xs : List Entry). IsCommittedTo m xs) (sym c.as_slice.ensures.value)
    (entries_have_bytes.committed m c.args.self.now.entries.items c.args.self.now.items t.spells)
