use Rattle.std.proofs.Common.{ℕ, ltb, length, rules, sym, ap, ◌∙◌}
use Rattle.std.specs.Prelude.{nat_eq}
use Rattle.std.specs.Cmp.{nat_eq_equiv}
use Rattle.std.specs.HashSet.{IsFromIterResult}
use Rattle.std.proofs.lemmas.Map.Made.{hash_set_len-from_list}
use Rattle.derived_types.proofs.LayoutLaws.{has_repeats_is}
use Rattle.derived_types.proofs.construction.occurs_twice.Goals as goal

pub returns : goal.returns
returns c =
    let made : IsFromIterResult nat_eq c.args.offsets.now c.in_ok-kinds.kinds = search rules in
    ap (λ (n : ℕ). ltb n (length c.args.offsets.now))
    (c.len.ensures.len ∙ hash_set_len-from_list nat_eq_equiv c.args.offsets.now c.in_ok-kinds.kinds made)
    ∙ sym (has_repeats_is c.args.offsets.now)
