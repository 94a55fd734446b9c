-- Lemmas on groups with the same members.
use Rattle.std.proofs.Common.{◌≡◌, ℕ, ◌+◌, ◌<◌, ◌≤◌, Bool, true, false, List, [], ◌∷◌, length, get_or, nat_eq, refl}
use Rattle.std.proofs.Common.{sym, ◌∙◌, subst, arith, inl, inr}
use Rattle.std.specs.List.{All, list_all, AllByRecursion, list_any}
use Rattle.std.specs.Cmp.{nat_eq_equiv}
use Rattle.std.proofs.lemmas.Bool.{eqb-true, eq-eqb, cases_Bool, false_from_ne_true, or_cases, or_parts}
use Rattle.std.proofs.lemmas.List.Elements.{All-weaker, recursion_from_All, All-contains}
use Rattle.std.proofs.lemmas.List.Sums.{AllPass-from_list_all, list_all-from_AllPass}
use Rattle.std.proofs.lemmas.Map.Keys.{IsDistinct-cons}
use Rattle.std.proofs.lemmas.Map.Made.{length-le_from_is_member, length-from_same_keys, All-is_member}
use Rattle.std.proofs.lemmas.Map.Views.{Contains-from_any}
use lib.Pointwise.{pointwise}
use Rattle.groups.specs.Groups.{is_member, HasNoRepeats}
use Rattle.groups.specs.Comparisons.{HaveSameMembers}

-- each of the second is in the first
pub included : (first second : List ℕ) → list_all (is_member first) second ≡ true → (rank : ℕ)
    → is_member second rank ≡ true → is_member first rank ≡ true
included first second all rank here =
    All-contains (λ member. is_member first member ≡ true) second rank
    (AllPass-from_list_all (is_member first) second all)
    (Contains-from_any {eq = nat_eq} eqb-true rank second here)

-- a rank that a list lacks, put before it
HasNoRepeats-cons : (rank : ℕ) (ranks : List ℕ) → HasNoRepeats ranks → is_member ranks rank ≡ false →
    HasNoRepeats (rank ∷ ranks)
HasNoRepeats-cons rank ranks apart absent = IsDistinct-cons nat_eq rank ranks (all_differ ranks absent) apart
  where
    all_differ : (xs : List ℕ) → is_member xs rank ≡ false → AllByRecursion (λ y. nat_eq rank y ≡ false) xs
    all_differ [] h = tt
    all_differ (x ∷ xs) h = (
      (or_parts (nat_eq rank x) (is_member xs rank) h).0,
      all_differ xs (or_parts (nat_eq rank x) (is_member xs rank) h).1,
    )

-- as many, and each of the second in the first: the same members
pub HaveSameMembers-included : (first second : List ℕ) → HasNoRepeats first → HasNoRepeats second
    → length first ≡ length second → list_all (is_member first) second ≡ true → HaveSameMembers first second
HaveSameMembers-included first second one other long all rank =
    elim (cases_Bool (is_member second rank)) [
      | inl here ↦ included first second all rank here ∙ sym here
      | inr absent ↦ false_from_ne_true (is_member first rank) (λ there.
          let more : length (rank ∷ second) ≤ length first = length-le_from_is_member nat_eq_equiv (rank ∷ second) first
          (HasNoRepeats-cons rank second other absent)
          (λ q among. elim (or_cases (nat_eq q rank) (is_member second q) among) [
            | inl same ↦ subst (λ (r : ℕ). is_member first r ≡ true) (sym (eqb-true q rank same)) there
            | inr behind ↦ included first second all q behind
          ]) in
          omega arith) ∙ sym absent
    ]

-- with the same members, each of the second is in the first
pub list_all-same : (first second : List ℕ) → HaveSameMembers first second → list_all (is_member first) second ≡ true
list_all-same first second same =
    list_all-from_AllPass (is_member first) second
    (All-weaker (λ rank. is_member second rank ≡ true) (λ rank. is_member first rank ≡ true) (λ rank here. same rank ∙
    here) second
    (All-is_member nat_eq_equiv second))

-- with the same members, they are as many
pub length-same : (first second : List ℕ) → HasNoRepeats first → HasNoRepeats second → HaveSameMembers first second
    → length first ≡ length second
length-same first second one other same = length-from_same_keys nat_eq_equiv first second one other same

-- a list is itself, place by place
pub pointwise-same : (xs ys : List ℕ) → xs ≡ ys → pointwise nat_eq xs ys ≡ true
pointwise-same xs ys same = subst (λ (zs : List ℕ). pointwise nat_eq xs zs ≡ true) same (itself xs)
  where
    itself : (zs : List ℕ) → pointwise nat_eq zs zs ≡ true
    itself [] = refl
    itself (z ∷ zs) = rw (eq-eqb z z refl) (itself zs)
