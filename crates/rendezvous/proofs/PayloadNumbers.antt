-- The numbers of transfers once payloads are announced.
use Rattle.std.proofs.Common.{◌≡◌, ◌≢◌, ℕ, suc, ◌+◌, ◌-◌, ◌<◌, ◌≤◌, Bool, true, false, cond, List, [], ◌∷◌, ◌++◌, length}
use Rattle.std.proofs.Common.{set, get_or, drop, Option, Some, None, refl, sym, ap, ◌∙◌, arith, subst, inl, inr}
use Rattle.std.specs.Prelude.{◌==◌, option_map, slice_get}
use Rattle.std.proofs.lemmas.Bool.{eqb-true, eqb-false, eq-eqb, ne_eqb, cases_lt}
use Rattle.std.proofs.lemmas.List.{get_or-set_same, get_or-set_other, length-set, drop_all}
use Rattle.std.proofs.lemmas.List.Sums.{sum_by-cons}
use Rattle.std.proofs.lemmas.Option.{get_or_from_slice_get, slice_get-get_or, slice_get_past}
use Rattle.std.proofs.Math.Seq.{drop-cons}
use Rattle.rendezvous.specs.declared.transfers.Numbers.{Numbers}
use Rattle.rendezvous.specs.Payloads.{Announced}
use Rattle.rendezvous.specs.PayloadNumbers.{AreLeft, begun_at, count_to, counted, number_left, with_lesson}
use Rattle.rendezvous.specs.State.{fresh, has_none_to, is_full_to, most_transfers, next_to, with_begun}
use Rattle.rendezvous.proofs.NumberLaws.{full_to}
use Rattle.rendezvous.proofs.OfferLaws.{known_to, next_here, next_same}

-- ONE MORE TRANSFER

begun_length : (ns : List Numbers) (rank : ℕ) → length (with_begun ns rank) ≡ length ns
begun_length ns rank = length-set ns rank (record (get_or ns rank fresh) { begun = (get_or ns rank fresh).begun + 1 })

begun_more : (ns : List Numbers) (target rank : ℕ) → rank < length ns →
    next_to (with_begun ns target) rank ≡ next_to ns rank + cond (target == rank) 1 0
begun_more ns target rank lt = by (target == rank) refl
  where
    by : (b : Bool) → (target == rank) ≡ b → next_to (with_begun ns target) rank ≡ next_to ns rank + cond b 1 0
    by true e =
        let n : Numbers = record (get_or ns rank fresh) { begun = (get_or ns rank fresh).begun + 1 } in
        subst (λ (t : ℕ). next_to (with_begun ns t) rank ≡ next_to ns rank + 1) (sym (eqb-true target rank e))
        (next_here ns rank n lt)
    by false e =
        let n : Numbers = record (get_or ns target fresh) { begun = (get_or ns target fresh).begun + 1 } in
        let ne : rank ≢ target = λ (same : rank ≡ target). eqb-false target rank e (sym same) in
        let same : next_to (with_begun ns target) rank ≡ next_to ns rank = next_same ns target rank n ne in
        omega (arith, same)

-- a number that is left isn't the last one
below : (ns : List Numbers) (rank : ℕ) → rank < length ns → is_full_to ns rank ≡ false →
    next_to ns rank ≤ most_transfers → next_to ns rank < most_transfers
below ns rank lt left le =
    let ne : next_to ns rank ≢ most_transfers = eqb-false (next_to ns rank) most_transfers (sym (full_to ns rank lt) ∙
    left) in
    elim (cases_lt (next_to ns rank) most_transfers) [
      | inl less ↦ less
      | inr ge ↦ absurd (ne (omega (arith, ge, le)))
    ]

begun_below : (ns : List Numbers) (target rank : ℕ) → rank < length ns → is_full_to ns target ≡ false →
    next_to ns rank ≤ most_transfers → next_to (with_begun ns target) rank ≤ most_transfers
begun_below ns target rank lt left le = by (target == rank) refl
  where
    by : (b : Bool) → (target == rank) ≡ b → next_to (with_begun ns target) rank ≤ most_transfers
    by true e =
        let here : is_full_to ns rank ≡ false = subst (λ (t : ℕ). is_full_to ns t ≡ false) (eqb-true target rank e) left in
        let less : next_to ns rank < most_transfers = below ns rank lt here le in
        let more : next_to (with_begun ns target) rank ≡ next_to ns rank + 1 =
        begun_more ns target rank lt ∙ ap (λ (b : Bool). next_to ns rank + cond b 1 0) e in
        omega (arith, less, more)
    by false e =
        let more : next_to (with_begun ns target) rank ≡ next_to ns rank + 0 =
        begun_more ns target rank lt ∙ ap (λ (b : Bool). next_to ns rank + cond b 1 0) e in
        omega (arith, le, more)

-- ALL OF THESE

pub counted_length : (ns : List Numbers) (ps : List Announced) → length (counted ns ps) ≡ length ns
counted_length ns [] = refl
counted_length ns (p ∷ ps) = counted_length (with_begun ns p.target) ps ∙ begun_length ns p.target

still_there : (ns : List Numbers) (target rank : ℕ) → rank < length ns → rank < length (with_begun ns target)
still_there ns target rank lt = subst (λ (n : ℕ). rank < n) (sym (begun_length ns target)) lt

next_counted : (ns : List Numbers) (ps : List Announced) (rank : ℕ) → rank < length ns →
    next_to (counted ns ps) rank ≡ next_to ns rank + count_to rank ps
next_counted ns [] rank lt =
    let none : count_to rank [] ≡ 0 = refl in
    omega (arith, none)
next_counted ns (p ∷ ps) rank lt =
    let rest = next_counted (with_begun ns p.target) ps rank (still_there ns p.target rank lt) in
    let one = begun_more ns p.target rank lt in
    let step : count_to rank (p ∷ ps) ≡ cond (p.target == rank) 1 0 + count_to rank ps =
    sum_by-cons (λ (x : Announced). cond (x.target == rank) 1 0) p ps in
    omega (arith, rest, one, step)

counted_below : (ns : List Numbers) (ps : List Announced) (rank : ℕ) → rank < length ns →
    next_to ns rank ≤ most_transfers → AreLeft ns ps → next_to (counted ns ps) rank ≤ most_transfers
counted_below ns [] rank lt le left = le
counted_below ns (p ∷ ps) rank lt le left =
    counted_below (with_begun ns p.target) ps rank (still_there ns p.target rank lt)
    (begun_below ns p.target rank lt left.0 le) left.1

-- and one more
pub counted_snoc : (ns : List Numbers) (ps qs : List Announced) → counted ns (ps ++ qs) ≡ counted (counted ns ps) qs
counted_snoc ns [] qs = refl
counted_snoc ns (p ∷ ps) qs = counted_snoc (with_begun ns p.target) ps qs

-- THE NEXT NUMBER BEHIND THEM

nothing_is : {A : Type 0} (x : A) → Some x ≡ None → ⊥
nothing_is x is = cc

abbrev or_zero : Option ℕ → ℕ
or_zero None = 0
or_zero (Some n) = n

-- what was found of a rank
found_at : (ns : List Numbers) (rank begun : ℕ) → Some begun ≡ begun_at ns rank →
    (rank < length ns) × (begun ≡ next_to ns rank)
found_at ns rank begun is =
    elim (cases_lt rank (length ns)) [
      | inl lt ↦
          let found : begun_at ns rank ≡ Some (next_to ns rank) =
          ap (λ (o : Option Numbers). option_map (λ (n : Numbers). n.begun) o) (slice_get-get_or ns rank fresh lt) in
          (lt, ap or_zero (is ∙ found))
      | inr ge ↦
          let lost : begun_at ns rank ≡ None =
          ap (λ (o : Option Numbers). option_map (λ (n : Numbers). n.begun) o) (slice_get_past ns rank ge) in
          absurd (nothing_is begun (is ∙ lost))
    ]

full_counted : (ns : List Numbers) (ps : List Announced) (rank : ℕ) → rank < length ns →
    is_full_to (counted ns ps) rank ≡ (next_to (counted ns ps) rank == most_transfers)
full_counted ns ps rank lt =
    full_to (counted ns ps) rank (subst (λ (n : ℕ). rank < n) (sym (counted_length ns ps)) lt)

pub some_behind : (ns : List Numbers) (ps : List Announced) (rank begun count : ℕ) →
    Some begun ≡ begun_at ns rank → count ≡ count_to rank ps → count < most_transfers - begun →
    Some (begun + count) ≡ number_left (counted ns ps) rank
some_behind ns ps rank begun count is many few =
    let found = found_at ns rank begun is in
    let next : next_to (counted ns ps) rank ≡ begun + count =
    next_counted ns ps rank found.0 ∙ ap (λ (n : ℕ). n + count_to rank ps) (sym found.1) ∙ ap (λ (n : ℕ). begun + n)
    (sym many) in
    let ne : next_to (counted ns ps) rank ≢ most_transfers =
    λ (same : next_to (counted ns ps) rank ≡ most_transfers). omega (arith, few, next, same) in
    let left : is_full_to (counted ns ps) rank ≡ false = full_counted ns ps rank found.0 ∙ ne_eqb _ _ ne in
    ap Some (sym next) ∙ sym (ap (λ (b : Bool). cond b None (Some (next_to (counted ns ps) rank))) left)

pub none_behind : (ns : List Numbers) (ps : List Announced) (rank begun count : ℕ) →
    Some begun ≡ begun_at ns rank → begun ≤ most_transfers → AreLeft ns ps → count ≡ count_to rank ps →
    most_transfers - begun ≤ count →
    None ≡ number_left (counted ns ps) rank
none_behind ns ps rank begun count is le left many ge =
    let found = found_at ns rank begun is in
    let next : next_to (counted ns ps) rank ≡ begun + count =
    next_counted ns ps rank found.0 ∙ ap (λ (n : ℕ). n + count_to rank ps) (sym found.1) ∙ ap (λ (n : ℕ). begun + n)
    (sym many) in
    let low : next_to ns rank ≤ most_transfers = subst (λ (n : ℕ). n ≤ most_transfers) found.1 le in
    let most : next_to (counted ns ps) rank ≤ most_transfers = counted_below ns ps rank found.0 low left in
    let all : next_to (counted ns ps) rank ≡ most_transfers = omega (arith, most, next, ge) in
    let full : is_full_to (counted ns ps) rank ≡ true = full_counted ns ps rank found.0 ∙ eq-eqb _ _ all in
    sym (ap (λ (b : Bool). cond b None (Some (next_to (counted ns ps) rank))) full)

pub nobody_behind : (ns : List Numbers) (ps : List Announced) (rank : ℕ) → None ≡ begun_at ns rank →
    None ≡ number_left (counted ns ps) rank
nobody_behind ns ps rank is =
    elim (cases_lt rank (length ns)) [
      | inl lt ↦
          let found : begun_at ns rank ≡ Some (next_to ns rank) =
          ap (λ (o : Option Numbers). option_map (λ (n : Numbers). n.begun) o) (slice_get-get_or ns rank fresh lt) in
          absurd (nothing_is (next_to ns rank) (sym (is ∙ found)))
      | inr ge ↦
          let past : length (counted ns ps) ≤ rank = subst (λ (n : ℕ). n ≤ rank) (sym (counted_length ns ps)) ge in
          let full : is_full_to (counted ns ps) rank ≡ true = ap has_none_to (slice_get_past (counted ns ps) rank past) in
          sym (ap (λ (b : Bool). cond b None (Some (next_to (counted ns ps) rank))) full)
    ]

-- ONE AFTER THE OTHER

pub one_left : (ns : List Numbers) (ps : List Announced) (i : ℕ) (d : Announced) → i < length ps →
    AreLeft ns (drop i ps) →
    (is_full_to ns (get_or ps i d).target ≡ false) ×
    AreLeft (with_begun ns (get_or ps i d).target) (drop (i + 1) ps)
one_left ns ps i d lt left =
    let next : suc i ≡ i + 1 = omega arith in
    let both = subst (λ (qs : List Announced). AreLeft ns qs) (drop-cons ps i d lt) left in
    (both.0, subst (λ (k : ℕ). AreLeft (with_begun ns (get_or ps i d).target) (drop k ps)) next both.1)

pub one_counted : (ns : List Numbers) (ps : List Announced) (i : ℕ) (d : Announced) → i < length ps →
    counted (with_begun ns (get_or ps i d).target) (drop (i + 1) ps) ≡ counted ns (drop i ps)
one_counted ns ps i d lt =
    let next : i + 1 ≡ suc i = omega arith in
    ap (λ (k : ℕ). counted (with_begun ns (get_or ps i d).target) (drop k ps)) next
    ∙ sym (ap (λ (qs : List Announced). counted ns qs) (drop-cons ps i d lt))

pub all_counted : (ns : List Numbers) (ps : List Announced) (i : ℕ) → length ps ≤ i → counted ns (drop i ps) ≡ ns
all_counted ns ps i le = ap (λ (qs : List Announced). counted ns qs) (drop_all i ps le)

-- WHAT HAS BEGUN TO A RANK, WITH A LESSON

there_is : (ns : List Numbers) (rank : ℕ) (n : Numbers) → slice_get ns rank ≡ Some n →
    (rank < length ns) × (get_or ns rank fresh ≡ n)
there_is ns rank n is =
    elim (cases_lt rank (length ns)) [
      | inl lt ↦ (lt, get_or_from_slice_get ns rank n fresh is)
      | inr ge ↦
          absurd (nothing_is n (sym is ∙ slice_get_past ns rank ge))
    ]

found_begun : (ns : List Numbers) (rank : ℕ) (n : Numbers) → rank < length ns → get_or ns rank fresh ≡ n →
    Some n.begun ≡ begun_at ns rank
found_begun ns rank n lt is =
    sym (ap (λ (o : Option Numbers). option_map (λ (m : Numbers). m.begun) o) (slice_get-get_or ns rank fresh lt)
    ∙ ap (λ (m : Numbers). Some m.begun) is)

pub anew_at : (ns : List Numbers) (rank : ℕ) (n : Numbers) → slice_get ns rank ≡ Some n →
    Some 0 ≡ begun_at (with_lesson (Some rank) ns) rank
anew_at ns rank n is =
    let found = there_is ns rank n is in
    found_begun (set ns rank fresh) rank fresh (subst (λ (l : ℕ). rank < l) (sym (length-set ns rank fresh)) found.0)
    (get_or-set_same ns rank fresh fresh found.0)

pub other_at : (ns : List Numbers) (source rank : ℕ) (n : Numbers) → source ≢ rank → slice_get ns rank ≡ Some n →
    Some n.begun ≡ begun_at (with_lesson (Some source) ns) rank
other_at ns source rank n ne is =
    let found = there_is ns rank n is in
    let other : rank ≢ source = λ (e : rank ≡ source). ne (sym e) in
    found_begun (set ns source fresh) rank n
    (subst (λ (l : ℕ). rank < l) (sym (length-set ns source fresh)) found.0)
    (get_or-set_other ns source rank fresh fresh other ∙ found.1)

pub nobody_at : (ns : List Numbers) (lesson : Option ℕ) (rank : ℕ) → slice_get ns rank ≡ None →
    None ≡ begun_at (with_lesson lesson ns) rank
nobody_at ns None rank is = sym (ap (λ (o : Option Numbers). option_map (λ (m : Numbers). m.begun) o) is)
nobody_at ns (Some source) rank is =
    elim (cases_lt rank (length ns)) [
      | inl lt ↦
          absurd (nothing_is (get_or ns rank fresh) (sym (slice_get-get_or ns rank fresh lt) ∙ is))
      | inr ge ↦
          sym (ap (λ (o : Option Numbers). option_map (λ (m : Numbers). m.begun) o)
          (slice_get_past (set ns source fresh) rank
          (subst (λ (l : ℕ). l ≤ rank) (sym (length-set ns source fresh)) ge)))
    ]
