-- One more place of two rings.
use Rattle.std.proofs.Common.{◌≡◌, ◌+◌, ◌∙◌, ℕ, List, Some, sym, take}
use Rattle.std.specs.Prelude.{slice_get}
use Rattle.std.proofs.lemmas.List.{take_more_same}
use Rattle.std.proofs.lemmas.Option.{get_or_from_slice_get, slice_get_within}

pub one_more : {X : Type 0} (xs ys : List X) (i : ℕ) (x y : X) → slice_get xs i ≡ Some x → slice_get ys i ≡ Some y →
    x ≡ y → take i xs ≡ take i ys → take (i + 1) xs ≡ take (i + 1) ys
one_more xs ys i x y here there same before =
    take_more_same xs ys i x (slice_get_within xs i x here) (slice_get_within ys i y there) before
    (get_or_from_slice_get xs i x x here ∙ same ∙ sym (get_or_from_slice_get ys i y x there))
