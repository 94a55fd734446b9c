use Rattle.std.proofs.Common.{◌≡◌, ◌+◌, ◌<◌, ◌++◌, ◌∷◌, [], ℕ, List, length, get_or, sym, ap, ◌∙◌, arith}
use Rattle.std.specs.List.{range_with_len}
use Rattle.std.proofs.lemmas.List.{take_more}
use Rattle.datatypes.proofs.RunLaws.{range-append}
use Rattle.datatypes.proofs.packing.first_run.Goals as goal

pub loop-i-preserved : goal.loop-i-preserved
loop-i-preserved c =
    let xs = c.args.offsets.now in
    let i = c.loop-i.i in
    let first = get_or xs 0 0 in
    let lt : i < length xs = omega arith in
    let here : get_or xs i 0 ≡ first + i = omega (arith, c.from.ensures, c.from-first.ensures) in
    take_more xs i 0 lt
    ∙ ap (λ (t : List ℕ). t ++ get_or xs i 0 ∷ []) c.loop-i.invariant
    ∙ ap (λ (n : ℕ). range_with_len first i ++ n ∷ []) here
    ∙ sym (range-append first i 1)
