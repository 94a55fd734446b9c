-- The first place of a bucket is the first one that was filed under the key and is still taken.
use Rattle.std.proofs.Common.{◌≡◌, ◌≢◌, ℕ, ◌+◌, ◌≤◌, ◌&&◌, ◌==◌, Bool, true, false, cond, List, map, Option, Some, None}
use Rattle.std.proofs.Common.{refl, sym, ap, ◌∙◌, arith, inl, inr, eq-eqb}
use Rattle.std.specs.Prelude.{slice_get, option_map, position}
use Rattle.std.specs.declared.result.Result.{Result}
use Rattle.std.specs.declared.result.Result.TheVariants.{Ok, Err}
use Rattle.std.specs.Result.{IsOk, OnOk, IfOk}
use Rattle.std.specs.HashMap.{HashMap}
use Rattle.std.specs.HashMap as hash
use Rattle.std.specs.HashMap.Eq.{lookup_congr}
use Rattle.std.specs.Cmp.{IsEquivalence}
use Rattle.std.proofs.lemmas.Bool.{cases_eq}
use Rattle.std.proofs.lemmas.Option.{slice_get-map, same_Some}
use Rattle.place_index.specs.declared.chains.Mark.{Mark}
use Rattle.place_index.specs.declared.chains.Bucket.{Bucket}
use Rattle.place_index.specs.Chains.{holds, is_live_in}
use Rattle.place_index.specs.Index.{IsIndex, seen}
use Rattle.place_index.proofs.Firsts.{first_same, first_position}
use Rattle.place_index.proofs.IndexChanges.{not_eqb}

-- equal keys have the same bucket
pub alike : {K S : Type 0} (eq : K → K → Bool) → IsEquivalence eq → (m : HashMap K ℕ S) (x y : K) → eq x y ≡ true →
    hash.get eq m x ≡ hash.get eq m y
alike eq laws m x y e = lookup_congr eq laws.congr m.entries x y e

-- what an `Ok` comes with
pub on_ok : {T E : Type 0} (r : Result T E) {P : Type 0} → IsOk r → OnOk r P → P
on_ok (Ok x) is p = p
on_ok (Err e) is p = let w : false ≡ true = is in absurd (cc)

pub if_ok : {T E : Type 0} (r : Result T E) {P : T → Type 0} {Q : Type 0} → IsOk r → IfOk r P → ((x : T) → P x → Q) → Q
if_ok (Ok x) is p q = q x p
if_ok (Err e) is p q = let w : false ≡ true = is in absurd (cc)

pub at_most_one : (b : Bool) (n m : ℕ) → n ≡ m + cond b 0 1 → n ≤ m + 1
at_most_one true n m e = omega arith
at_most_one false n m e = omega arith

module _ {K : Type 0} (eq : K → K → Bool) (ms : List (Mark K)) (ns : List (Option ℕ)) (bs : List Bucket) (name : K →
    Option ℕ) (named : ℕ) (h : IsIndex eq ms ns bs name named)
    (same : (x y : K) → eq x y ≡ true → name x ≡ name y) (k : K) where
  -- a key whose bucket is known is equal to the keys of the bucket, and to no other
  test_key : (b : ℕ) → name k ≡ Some b → (j : ℕ) (m : Mark K) → slice_get ms j ≡ Some m → (m.bucket == b) ≡ eq k m.key
  test_key b known j m at =
      elim (cases_eq m.bucket b) [
        | inl is ↦ eq-eqb m.bucket b is ∙ sym (h.alone k b known j m at is)
        | inr ne ↦ not_eqb m.bucket b ne ∙ sym (by_test (eq k m.key) refl ne)
      ]
    where
      by_test : (t : Bool) → eq k m.key ≡ t → m.bucket ≢ b → t ≡ false
      by_test false e ne = refl
      by_test true e ne =
          let w : Some b ≡ Some m.bucket = sym known ∙ same k m.key e ∙ h.names j m at in
          absurd (ne (sym (same_Some b m.bucket w)))

  by_live : (m : Mark K) (t l : Bool) → t ≡ eq k m.key → (t && l) ≡ holds (eq k) (cond l (Some m.key) None)
  by_live m true true e = e
  by_live m false true e = e
  by_live m true false e = refl
  by_live m false false e = refl

  test_mark : (b : ℕ) → name k ≡ Some b → (j : ℕ) (o : Option (Mark K)) → slice_get ms j ≡ o →
      holds (λ m. (m.bucket == b) && m.live) o ≡ holds (holds (eq k)) (option_map seen o)
  test_mark b known j None at = refl
  test_mark b known j (Some m) at = by_live m (m.bucket == b) m.live (test_key b known j m at)

  pub found : (b : ℕ) (e : Bucket) → name k ≡ Some b → slice_get bs b ≡ Some e →
      e.first ≡ position (holds (eq k)) (map seen ms)
  found b e known there =
      first_position (holds (eq k)) (map seen ms) e.first
      (first_same (is_live_in b ms) (λ j. holds (holds (eq k)) (slice_get (map seen ms) j))
      (λ j. test_mark b known j (slice_get ms j) refl ∙ ap (holds (holds (eq k))) (sym (slice_get-map seen ms j)))
      e.first (h.first b e there))

  none_live : (m : Mark K) (l : Bool) → eq k m.key ≡ false → holds (eq k) (cond l (Some m.key) None) ≡ false
  none_live m true e = e
  none_live m false e = refl

  none_mark : name k ≡ None → (j : ℕ) (o : Option (Mark K)) → slice_get ms j ≡ o →
      holds (holds (eq k)) (option_map seen o) ≡ false
  none_mark fresh j None at = refl
  none_mark fresh j (Some m) at = none_live m m.live (by_test (eq k m.key) refl)
    where
      by_test : (t : Bool) → eq k m.key ≡ t → t ≡ false
      by_test false e = refl
      by_test true e = let w : None ≡ Some m.bucket = sym fresh ∙ same k m.key e ∙ h.names j m at in absurd (cc)

  pub not_found : name k ≡ None → None ≡ position (holds (eq k)) (map seen ms)
  not_found fresh =
      first_position (holds (eq k)) (map seen ms) None (λ j. ap (holds (holds (eq k))) (slice_get-map seen ms j) ∙
      none_mark fresh j (slice_get ms j) refl)
