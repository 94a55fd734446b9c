-- What is left of a list whose end is moved about.
use Rattle.std.proofs.Common.{◌≡◌, ℕ, ◌-◌, ◌≤◌, List, [], ◌++◌, length, take, drop, refl, sym, ap, subst, arith, ◌∙◌}
use Rattle.std.proofs.Common.{append-nil, IsPermutation}
use Rattle.std.proofs.lemmas.List.{length-drop, length-take-le, take_all, take-append-le, drop-append-le, drop_all}
use Rattle.std.specs.List.Sorted.{IsNonDecreasingBy}
use Rattle.sessions.specs.OutgoingOrder.{order_of, IsInOrder}
use borrow.Rule.Slice.PartMut.{mid_of, post_of}

module _ {X : Type 0} (from : ℕ) (old end : List X) (within : from ≤ length old) where
  -- nothing stands behind the end
  pub whole : take from old ++ (end ++ post_of from (length old - from) old) ≡ take from old ++ end
  whole =
      let none : drop (length old - from) (drop from old) ≡ [] = drop_all (length old - from) (drop from old) (let l = length-drop from old in omega (arith, l)) in
      ap (λ z. take from old ++ (end ++ z)) none ∙ ap (λ z. take from old ++ z) (append-nil end)

  -- the front stays
  pub front : take from (take from old ++ end) ≡ take from old
  front =
      let l = length-take-le from old within in
      take-append-le from (take from old) end (omega (arith, l)) ∙ take_all from (take from old) (omega (arith, l))

  -- and this is the end
  pub rest : drop from (take from old ++ end) ≡ end
  rest =
      let l = length-take-le from old within in
      drop-append-le from (take from old) end (omega (arith, l)) ∙
      ap (λ z. z ++ end) (drop_all from (take from old) (omega (arith, l)))

  pub middle : mid_of from (length old - from) old ≡ drop from old
  middle = take_all (length old - from) (drop from old) (let l = length-drop from old in omega (arith, l))

-- the end in its order
pub in_order : (from : ℕ) (old end new : List (ℕ × List ℕ)) → from ≤ length old → new ≡ take from old ++
    (end ++ post_of from (length old - from) old) →
    IsPermutation (mid_of from (length old - from) old) end → IsNonDecreasingBy order_of end → IsInOrder from old new
in_order from old end new within is moved order =
    let joined = is ∙ whole from old end within in
    let ends = ap (drop from) joined ∙ rest from old end within in
    record {
      front = ap (take from) joined ∙ front from old end within;
      moved = subst (λ l. IsPermutation (drop from old) l) (sym ends)
          (subst (λ l. IsPermutation l end) (middle from old end within) moved);
      order = subst (λ l. IsNonDecreasingBy order_of l) (sym ends) order;
    }
