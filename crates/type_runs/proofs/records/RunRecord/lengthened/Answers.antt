use Rattle.std.proofs.Common.{rules, ◌≡◌, ◌+◌, sym, ◌∙◌, ap, w64, arith}
use Rattle.std.proofs.Math.IntN.{ℤ, pos, ◌+ℤ◌}
use Rattle.std.proofs.lemmas.Int.{to_z-of_z, ints}
use mir.Val.{SFits}
use Rattle.type_maps.proofs.Words.{same_word}
use Rattle.type_runs.proofs.RunLaws.{row_behind_row}
use Rattle.type_runs.proofs.records.RunRecord.lengthened.Goals as goal

pub returns : goal.returns
returns c = λ bodies bytes more a b.
    let f : SFits w64 c.args.self.now.at = search rules in
    let g : SFits w64 c.in_ok-checked_add.field-0 = search rules in
    let h : SFits w64 c.args.next.now.at = search rules in
    let sb : c.args.self.now.body ≡ 0 = search rules in
    let nb : c.args.next.now.body ≡ 0 = search rules in
    let sc : c.args.self.now.count ≡ 1 = search rules in
    let nc : c.args.next.now.count ≡ 1 = search rules in
    let long : c.in_ok-length.length ≡ c.args.self.now.length + c.args.next.now.length = search rules in
    let all : c.in_ok-checked_add.field-0 ≡ c.args.self.now.at +ℤ c.in-Ok.row =
    omega (arith, ints, c.in_ok-checked_add.ensures) in
    let next : c.args.next.now.at ≡ c.args.self.now.at +ℤ pos c.args.self.now.length =
    sym (same_word _ _ g h c.if-branch-next.false) ∙ all ∙ ap (λ (x : ℤ). c.args.self.now.at +ℤ x) c.in-Ok.ensures in
    row_behind_row bodies c.args.self.now c.args.next.now _ bytes more sb nb sc nc next
    (to_z-of_z w64 c.args.self.now.at f) long sc sb a b
