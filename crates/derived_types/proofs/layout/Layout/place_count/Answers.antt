use Rattle.std.proofs.Common.{◌≡◌, ℕ, ◌*◌, ◌-◌, ◌^◌, length, sym, ap, ◌∙◌}
use Rattle.std.specs.Prelude.{min}
use Rattle.derived_types.specs.Layouts.{Shape}
use Rattle.derived_types.proofs.LayoutLaws.{length-copies_at}
use Rattle.derived_types.proofs.layout.Layout.place_count.Goals as goal

pub returns : goal.returns
returns c =
    let offsets = c.args.self.now.offsets in
    let n : c.len.result ≡ length offsets =
    c.len.ensures ∙ c.self.inside.offsets.ok.0 ∙ ap (λ (s : Shape). length s.offsets) c.self.view_is
    in
    c.saturating_mul.ensures
    ∙ ap (λ (k : ℕ). min (c.args.copies * k) (2 ^ 64 - 1)) n
    ∙ ap (λ (k : ℕ). min k (2 ^ 64 - 1)) (sym (length-copies_at 0 c.args.copies offsets))
