-- Steps of lists that the functions take.
use Rattle.std.proofs.Common.{◌≡◌, ◌<◌, ◌≤◌, ℕ, zero, suc, true, List, [], ◌∷◌, ◌++◌, length, set, refl, ap, arith}
use Rattle.std.proofs.lemmas.Grind.{common_steps}
use Rattle.std.proofs.lemmas.List.{length-append}
use Rattle.std.specs.List.{insert, remove}
use Rattle.std.specs.Prelude.{slice_index_or}
use Rattle.rendezvous.specs.Collections.{Collecting, is_next_data}

-- what was written at a place before it was removed doesn't matter
pub remove_set : {A : Type 0} (xs : List A) (i : ℕ) (y : A) → remove (set xs i y) i ≡ remove xs i
remove_set [] i y = refl
remove_set (x ∷ xs) zero y = refl
remove_set (x ∷ xs) (suc i) y = ap (λ t. x ∷ t) (remove_set xs i y)

-- a piece that is due fits behind what has come
pub fits_behind : (c : Collecting) (offset : ℕ) (piece : List ℕ) → is_next_data c offset piece ≡ true →
    length (c.bytes ++ piece) ≤ c.total
fits_behind c offset piece due = grind (arith, common_steps, length-append c.bytes piece, due)

-- what is removed and inserted again stands where it stood
pub insert_removed : {A : Type 0} (xs : List A) (i : ℕ) (x : A) → i < length xs → x ≡ slice_index_or xs i x →
    insert (remove xs i) i x ≡ xs
insert_removed [] i x there is = absurd (omega (arith, there))
insert_removed (y ∷ ys) zero x there is = ap (λ t. t ∷ ys) is
insert_removed (y ∷ ys) (suc i) x there is = ap (λ t. y ∷ t) (insert_removed ys i x (omega (arith, there)) is)
