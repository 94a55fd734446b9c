use Rattle.std.proofs.Common.{◌≡◌, length, List, ℕ, ap, ◌∙◌, sym}
use Rattle.std.proofs.lemmas.List.{take_at}
use Rattle.datatypes.specs.Combinations.{combined_values}
use Rattle.datatypes.specs.Contents.{values_of}
use Rattle.datatypes.proofs.combination.combine_bytes.Goals as goal

pub returns-clause-whole : goal.returns-clause-whole
returns-clause-whole g c =
    let new = c.combine_sized.new.all in
    let len : length new ≡ c.args.all.now.len = c.combine_sized.ensures.len ∙ ap length c.deref_mut.ensures.value ∙ sym c.args.all.now.ok.0 in
    rw (take_at new _ c.args.all.now.len len) c.combine_sized.ensures.whole

pub returns-clause-values : goal.returns-clause-values
returns-clause-values g c =
    let new = c.combine_sized.new.all in
    let len : length new ≡ c.args.all.now.len = c.combine_sized.ensures.len ∙ ap length c.deref_mut.ensures.value ∙ sym c.args.all.now.ok.0 in
    rw (take_at new _ c.args.all.now.len len)
    (c.combine_sized.ensures.values
    ∙ ap (λ (t : List ℕ). combined_values (g.P.PairOp.makes c.args.op.now) (values_of c.args.size t)
    (values_of c.args.size c.args.next.now)) c.deref_mut.ensures.value)
