use Rattle.std.proofs.Common.{ℕ, length, ltb, sym, ap, ◌∙◌}
use Rattle.std.proofs.lemmas.Bool.{eqb-true}
use Rattle.derived_types.specs.Layouts.{Shape, places}
use Rattle.layouts.specs.Buffers.{room_for}
use Rattle.derived_types.proofs.TransferLaws.{room_is-none, room_is-nil}
use Rattle.derived_types.proofs.layout.Layout.is_too_long.Goals as goal

pub returns-then-copies-eq0 : goal.returns-then-copies-eq0
returns-then-copies-eq0 c =
    sym (ap (λ (n : ℕ). ltb c.args.elements (room_for (places n c.args.self.now.offsets))) c.if-copies-eq0.true ∙
    room_is-none c.args.elements c.args.self.now.offsets)

pub returns-then-is_empty : goal.returns-then-is_empty
returns-then-is_empty c = sym (room_is-nil c.args.elements c.args.copies c.args.self.now.offsets
    (sym (ap (λ (s : Shape). length s.offsets) c.self.view_is) ∙ sym c.self.inside.offsets.ok.0 ∙
    eqb-true _ 0 (sym c.is_empty.ensures ∙ c.if-is_empty.true)))
