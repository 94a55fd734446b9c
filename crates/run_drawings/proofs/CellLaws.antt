-- One more character of a row.
use Rattle.std.proofs.Common.{◌≡◌, ℕ, ◌+◌, ◌-◌, ◌<◌, List, ◌∷◌, length, get_or, drop, drop-cons, refl, ap, arith, suc}
use Rattle.std.specs.Prelude.{slice_set}
use Rattle.run_drawings.specs.Cells.{character_of, filled, with_text}
use Rattle.run_drawings.specs.Layout.{plus}

pub filled_more : (row : List ℕ) (place count step character : ℕ) → step < count →
    filled row place (count - step) character ≡
    filled (slice_set row place character) (plus place 1) (count - (step + 1)) character
filled_more row place count step character h =
    let e : count - step ≡ suc (count - (step + 1)) = omega (arith, h) in
    rw e refl

pub text_more : (row : List ℕ) (place step : ℕ) (text : List ℕ) (d : ℕ) → step < length text →
    with_text row place (drop step text) ≡
    with_text (slice_set row place (character_of (get_or text step d))) (plus place 1) (drop (step + 1) text)
text_more row place step text d h =
    let e : step + 1 ≡ suc step = omega arith in
    rw (drop-cons text step d h, e) refl
