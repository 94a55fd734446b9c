-- What names stand for once one of them was set.
use Rattle.std.proofs.Common.{◌≡◌, ℕ, suc, ◌+◌, Bool, true, false, cond, List, [], ◌∷◌, Option, Some, None}
use Rattle.std.proofs.Common.{refl, sym, ap, ◌∙◌, arith}
use Rattle.std.specs.Prelude.{position, option_map}
use Rattle.std.specs.List.{position_from}
use Rattle.std.specs.Str.{bytes_eq}
use Rattle.std.proofs.lemmas.Iterator.Adapters.{position_from-zero}
use Rattle.std.proofs.lemmas.Slice.Eq.{bytes_eq-Decides}
use Rattle.script_calls.specs.Tables.{Entry, place_of, value_at, value_there, with_value, with_value_there}

later_by : (t : Bool) (i : ℕ) (o p : Option ℕ) → p ≡ option_map (λ k. k + 1) o →
    cond t (Some (i + 1)) p ≡ option_map (λ k. k + 1) (cond t (Some i) o)
later_by true i o p e = refl
later_by false i o p e = e

later : {X : Type 0} (p : X → Bool) (xs : List X) (i : ℕ) →
    position_from p (i + 1) xs ≡ option_map (λ k. k + 1) (position_from p i xs)
later p [] i = refl
later p (x ∷ xs) i = later_by (p x) i (position_from p (i + 1) xs) (position_from p (i + 1 + 1) xs) (later p xs (i + 1))

-- the place in a list is that of its first item, or else one behind the place in the rest
step : {X : Type 0} (p : X → Bool) (x : X) (xs : List X) →
    position p (x ∷ xs) ≡ cond (p x) (Some 0) (option_map (λ k. k + 1) (position p xs))
step p x xs =
    position_from-zero p (x ∷ xs)
    ∙ ap (cond (p x) (Some 0)) (later p xs 0 ∙ ap (option_map (λ k. k + 1)) (sym (position_from-zero p xs)))

differs : (t : Bool) (m name : List ℕ) → bytes_eq m name ≡ t → (m ≡ name → ⊥) → t ≡ false
differs true m name is apart = absurd (apart ((bytes_eq-Decides m name).0 is))
differs false m name is apart = refl

unequal : (m name : List ℕ) → (m ≡ name → ⊥) → bytes_eq m name ≡ false
unequal m name apart = differs (bytes_eq m name) m name refl apart

module _ {V : Type 0} where
  value_behind : (x : Entry V) (xs : List (Entry V)) (o : Option ℕ) → value_there (x ∷ xs) (option_map (λ k. k + 1) o) ≡
      value_there xs o
  value_behind x xs None = refl
  value_behind x xs (Some place) =
      let next : place + 1 ≡ suc place = omega arith in
      ap (λ k. value_there (x ∷ xs) (Some k)) next

  set_behind : (x : Entry V) (xs : List (Entry V)) (name : List ℕ) (v : V) (o : Option ℕ) →
      with_value_there (x ∷ xs) name v (option_map (λ k. k + 1) o) ≡ x ∷ with_value_there xs name v o
  set_behind x xs name v None = refl
  set_behind x xs name v (Some place) =
      let next : place + 1 ≡ suc place = omega arith in
      ap (λ k. with_value_there (x ∷ xs) name v (Some k)) next

  -- ---- a table with one entry more in front

  value_first : (t : Bool) (x : Entry V) (xs : List (Entry V)) (o : Option ℕ) →
      value_there (x ∷ xs) (cond t (Some 0) (option_map (λ k. k + 1) o)) ≡ cond t (Some x.value) (value_there xs o)
  value_first true x xs o = refl
  value_first false x xs o = value_behind x xs o

  pub value_step : (x : Entry V) (xs : List (Entry V)) (m : List ℕ) →
      value_at (x ∷ xs) m ≡ cond (bytes_eq m x.name) (Some x.value) (value_at xs m)
  value_step x xs m =
      ap (value_there (x ∷ xs)) (step (λ (e : Entry V). bytes_eq m e.name) x xs) ∙
      value_first (bytes_eq m x.name) x xs (place_of xs m)

  set_first : (t : Bool) (x : Entry V) (xs : List (Entry V)) (name : List ℕ) (v : V) (o : Option ℕ) →
      with_value_there (x ∷ xs) name v (cond t (Some 0) (option_map (λ k. k + 1) o)) ≡
      cond t (record { name = name; value = v } ∷ xs) (x ∷ with_value_there xs name v o)
  set_first true x xs name v o = refl
  set_first false x xs name v o = set_behind x xs name v o

  set_step : (x : Entry V) (xs : List (Entry V)) (name : List ℕ) (v : V) →
      with_value (x ∷ xs) name v ≡
      cond (bytes_eq name x.name) (record { name = name; value = v } ∷ xs) (x ∷ with_value xs name v)
  set_step x xs name v =
      ap (with_value_there (x ∷ xs) name v) (step (λ (e : Entry V). bytes_eq name e.name) x xs) ∙
      set_first (bytes_eq name x.name) x xs name v (place_of xs name)

  -- ---- what the names of a changed table stand for

  entry_found : (name : List ℕ) (v : V) (xs : List (Entry V)) →
      value_at (record { name = name; value = v } ∷ xs) name ≡ Some v
  entry_found name v xs =
      value_step (record { name = name; value = v }) xs name ∙
      ap (λ (t : Bool). cond t (Some v) (value_at xs name)) ((bytes_eq-Decides name name).1 refl)

  found_by : (t : Bool) (x : Entry V) (xs : List (Entry V)) (name : List ℕ) (v : V) → bytes_eq name x.name ≡ t →
      value_at (with_value xs name v) name ≡ Some v →
      value_at (cond t (record { name = name; value = v } ∷ xs) (x ∷ with_value xs name v)) name ≡ Some v
  found_by true x xs name v is so = entry_found name v xs
  found_by false x xs name v is so =
      value_step x (with_value xs name v) name ∙
      ap (λ (t : Bool). cond t (Some x.value) (value_at (with_value xs name v) name)) is ∙ so

  -- the name that was set stands for its value
  pub value_set : (t : List (Entry V)) (name : List ℕ) (v : V) → value_at (with_value t name v) name ≡ Some v
  value_set [] name v = entry_found name v []
  value_set (x ∷ xs) name v =
      ap (λ (t : List (Entry V)). value_at t name) (set_step x xs name v) ∙
      found_by (bytes_eq name x.name) x xs name v refl (value_set xs name v)

  other_by : (t : Bool) (x : Entry V) (xs : List (Entry V)) (name : List ℕ) (v : V) (m : List ℕ) →
      bytes_eq name x.name ≡ t → (m ≡ name → ⊥) → value_at (with_value xs name v) m ≡ value_at xs m →
      value_at (cond t (record { name = name; value = v } ∷ xs) (x ∷ with_value xs name v)) m ≡
      cond (bytes_eq m x.name) (Some x.value) (value_at xs m)
  other_by true x xs name v m is apart so =
      value_step (record { name = name; value = v }) xs m ∙
      ap (λ (t : Bool). cond t (Some v) (value_at xs m)) (unequal m name apart) ∙
      sym (ap (λ (t : Bool). cond t (Some x.value) (value_at xs m))
      (unequal m x.name (λ same. apart (same ∙ sym ((bytes_eq-Decides name x.name).0 is)))))
  other_by false x xs name v m is apart so =
      value_step x (with_value xs name v) m ∙
      ap (λ (r : Option V). cond (bytes_eq m x.name) (Some x.value) r) so

  -- any other one stands for what it stood for
  pub value_other : (t : List (Entry V)) (name : List ℕ) (v : V) (m : List ℕ) → (m ≡ name → ⊥) →
      value_at (with_value t name v) m ≡ value_at t m
  value_other [] name v m apart =
      value_step (record { name = name; value = v }) [] m ∙
      ap (λ (t : Bool). cond t (Some v) (value_at [] m)) (unequal m name apart)
  value_other (x ∷ xs) name v m apart =
      ap (λ (t : List (Entry V)). value_at t m) (set_step x xs name v) ∙
      other_by (bytes_eq name x.name) x xs name v m refl apart (value_other xs name v m apart) ∙
      sym (value_step x xs m)
