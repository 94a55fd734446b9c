use Rattle.std.proofs.Common.{rules, ◌≡◌, ◌*◌, refl, sym, ◌∙◌, w64}
use Rattle.std.proofs.Math.IntN.{pos}
use Rattle.std.proofs.lemmas.Int.{to_z-of_z}
use mir.Val.{SFits}
use Rattle.type_maps.proofs.Words.{same_word}
use Rattle.type_runs.proofs.RunLaws.{as_one_row}
use Rattle.type_runs.proofs.records.RunRecord.as_row.Goals as goal

pub returns-in-Some : goal.returns-in-Some
returns-in-Some c = λ bodies bytes is.
    let f : SFits w64 c.args.self.now.at = search rules in
    let g : SFits w64 c.in-Ok.step = search rules in
    let h : SFits w64 c.args.self.now.stride = search rules in
    let many : c.in-Some.length ≡ c.args.self.now.count * c.args.self.now.length = search rules in
    let touch : c.args.self.now.stride ≡ pos c.args.self.now.length =
    sym (same_word _ _ g h c.if-step-self.true) ∙ c.in-Ok.ensures in
    as_one_row bodies c.args.self.now _ bytes c.if-self-eq0.true touch (to_z-of_z w64 c.args.self.now.at f) many refl
    refl is
