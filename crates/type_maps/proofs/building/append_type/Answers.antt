use Rattle.std.proofs.Common.{◌≡◌, ℕ, ◌+◌, ◌++◌, [], List, length, sym, ◌∙◌, subst, arith}
use Rattle.std.proofs.lemmas.List.{nil_from_length}
use Rattle.type_maps.specs.declared.entry.Entry.{Entry}
use Rattle.type_maps.specs.Entries.{IsWhole, Spells}
use Rattle.type_maps.specs.Maps.{copied_elements, places_of}
use Rattle.type_maps.proofs.EntryLaws.{none_appended}
use Rattle.type_maps.proofs.building.append_type.Goals as goal

pub returns-then-is_empty : goal.returns-then-is_empty
returns-then-is_empty c = λ done m s t.
    let short : length c.as_slice-old.result.now ≡ 0 = grind (arith, c.if-is_empty.ensures) in
    let empty : c.args.item.now.entries.items ≡ [] =
    sym c.as_slice-old.ensures.value ∙ nil_from_length c.as_slice-old.result.now short in
    none_appended c.args.entries.now.items c.args.item.now.entries.items c.args.items c.args.item.now.items done
    m.elements
    (places_of c.args.at.now) empty t.spells s

pub returns-in-Ok : goal.returns-in-Ok
returns-in-Ok c = λ done m s t.
    let whole = subst (λ (xs : List Entry). IsWhole c.body.result xs m.elements) (sym c.as_slice-old.ensures.value)
    (c.body.ensures m t) in
    let more : c.args.items + 1 ≡ c.in-Some.more = grind (arith, c.in-Some.ensures) in
    subst (λ (k : ℕ). Spells c.append_copies.new.entries.items k
    (done ++ copied_elements (places_of c.args.at.now) m.elements)) more
    (c.in-Ok.ensures done c.args.items m.elements s whole)
