-- Signed numbers, and the words that hold them.
use Rattle.std.proofs.Common.{◌≡◌, ◌∙◌, sym, ap, w64, to_z, of_z}
use Rattle.std.proofs.Math.IntN.{ℤ, ◌*ℤ◌}
use Rattle.std.proofs.lemmas.Int.{to_z-of_z}
use mir.Val.{SFits}

pub same_word : (x y : ℤ) → SFits w64 x → SFits w64 y → of_z w64 x ≡ of_z w64 y → x ≡ y
same_word x y f g e = sym (to_z-of_z w64 x f) ∙ ap (to_z w64) e ∙ to_z-of_z w64 y g

-- what a product of words is
pub word_product : (z x y : ℤ) → SFits w64 x → SFits w64 y →
    z ≡ to_z w64 (of_z w64 x) *ℤ to_z w64 (of_z w64 y) → z ≡ x *ℤ y
word_product z x y f g e = e ∙ (λ t. to_z-of_z w64 x f t *ℤ to_z-of_z w64 y g t)
