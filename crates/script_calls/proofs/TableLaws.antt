-- What is so of names and their entries.
use Rattle.std.proofs.Common.{◌≡◌, ℕ, suc, ◌+◌, Bool, true, false, cond, List, [], ◌∷◌, Option, Some, None, is_some}
use Rattle.std.proofs.Common.{unwrap_or, refl, sym, ap, ◌∙◌, arith, true≢false, Result, Ok, Err}
use Rattle.std.specs.Prelude.{position, option_map, OnErr}
use Rattle.std.specs.List.{position_from}
use Rattle.std.specs.Global.{Vec}
use Rattle.std.specs.Map.{lookup, set_value}
use Rattle.std.specs.Str.{bytes_eq}
use Rattle.std.proofs.lemmas.Iterator.Adapters.{position_from-zero}
use Rattle.std.proofs.lemmas.Slice.Eq.{bytes_eq-Decides}
use Rattle.indexmap.specs.IndexMap.{insert_entry}
use Rattle.script_calls.specs.Tables.{Entry, place_of, value_at, value_there, with_value, with_value_there, entry_of}
use Rattle.script_calls.specs.Tables.{entries_of}

-- a search that begins one place later answers one place later
later_by : (t : Bool) (i : ℕ) (o p : Option ℕ) → p ≡ option_map (λ k. k + 1) o →
    cond t (Some (i + 1)) p ≡ option_map (λ k. k + 1) (cond t (Some i) o)
later_by true i o p e = refl
later_by false i o p e = e

later : {X : Type 0} (p : X → Bool) (xs : List X) (i : ℕ) →
    position_from p (i + 1) xs ≡ option_map (λ k. k + 1) (position_from p i xs)
later p [] i = refl
later p (x ∷ xs) i = later_by (p x) i (position_from p (i + 1) xs) (position_from p (i + 1 + 1) xs) (later p xs (i + 1))

-- the place in a list is that of its first item, or else one behind the place in the rest
step : {X : Type 0} (p : X → Bool) (x : X) (xs : List X) →
    position p (x ∷ xs) ≡ cond (p x) (Some 0) (option_map (λ k. k + 1) (position p xs))
step p x xs =
    position_from-zero p (x ∷ xs)
    ∙ ap (cond (p x) (Some 0)) (later p xs 0 ∙ ap (option_map (λ k. k + 1)) (sym (position_from-zero p xs)))

-- what is so whatever the result is
pub on_err : {X E : Type 0} (P : Type 0) (r : Result X E) → P → OnErr r P
on_err P (Ok x) h = tt
on_err P (Err e) h = h

none_is_some : {X : Type 0} {x : X} → None ≡ Some x → ⊥
none_is_some e = true≢false (sym (ap is_some e))

module _ {V : Type 0} where
  -- ---- one entry more in front

  value_behind : (x : Entry V) (xs : List (Entry V)) (o : Option ℕ) → value_there (x ∷ xs) (option_map (λ k. k + 1) o) ≡
      value_there xs o
  value_behind x xs None = refl
  value_behind x xs (Some place) =
      let next : place + 1 ≡ suc place = omega arith in
      ap (λ k. value_there (x ∷ xs) (Some k)) next

  set_behind : (x : Entry V) (xs : List (Entry V)) (name : List ℕ) (v : V) (o : Option ℕ) →
      with_value_there (x ∷ xs) name v (option_map (λ k. k + 1) o) ≡ x ∷ with_value_there xs name v o
  set_behind x xs name v None = refl
  set_behind x xs name v (Some place) =
      let next : place + 1 ≡ suc place = omega arith in
      ap (λ k. with_value_there (x ∷ xs) name v (Some k)) next

  -- ---- what is found

  module _ (name : List ℕ) where
    found_by : (t : Bool) (x : Entry V) (xs : List (Entry V)) (o : Option ℕ) (r : Option V) → r ≡ value_there xs o →
        cond t (Some x.value) r ≡ value_there (x ∷ xs) (cond t (Some 0) (option_map (λ k. k + 1) o))
    found_by true x xs o r e = refl
    found_by false x xs o r e = e ∙ sym (value_behind x xs o)

    -- the map finds what the name stands for
    found : (es : List (Vec ℕ × V)) → lookup (λ k. bytes_eq name k.items) es ≡ value_at (entries_of es) name
    found [] = refl
    found (e ∷ es) =
        found_by (bytes_eq name e.0.items) (entry_of e) (entries_of es) (place_of (entries_of es) name) _ (found es)
        ∙ sym (ap (value_there (entries_of (e ∷ es)))
        (step (λ (x : Entry V). bytes_eq name x.name) (entry_of e) (entries_of es)))

    -- ---- what is set

    same_name : (t : Bool) (e : Vec ℕ × V) (v : V) (xs ys : List (Entry V)) (o : Option ℕ) →
        bytes_eq name e.0.items ≡ t →
        (t ≡ false → ys ≡ with_value_there xs name v o) →
        cond t (record { name = e.0.items; value = v } ∷ xs) (entry_of e ∷ ys)
        ≡ with_value_there (entry_of e ∷ xs) name v (cond t (Some 0) (option_map (λ k. k + 1) o))
    same_name true e v xs ys o is h =
        ap (λ (n : List ℕ). let x : Entry V = record { name = n; value = v } in x ∷ xs)
        (sym ((bytes_eq-Decides name e.0.items).0 is))
    same_name false e v xs ys o is h = ap (λ l. entry_of e ∷ l) (h refl) ∙ sym (set_behind (entry_of e) xs name v o)

    spread : (t : Bool) (e : Vec ℕ × V) (v : V) (es fs : List (Vec ℕ × V)) →
        entries_of (cond t ((e.0, v) ∷ es) (e ∷ fs)) ≡
        cond t (record { name = e.0.items; value = v } ∷ entries_of es) (entry_of e ∷ entries_of fs)
    spread true e v es fs = refl
    spread false e v es fs = refl

    -- a value that is written over stands where it stood
    set_is : (es : List (Vec ℕ × V)) (v w : V) → lookup (λ k. bytes_eq name k.items) es ≡ Some v →
        entries_of (set_value (λ k. bytes_eq name k.items) es w) ≡ with_value (entries_of es) name w
    set_is [] v w is = absurd (none_is_some is)
    set_is (e ∷ es) v w is =
        spread (bytes_eq name e.0.items) e w es (set_value (λ k. bytes_eq name k.items) es w)
        ∙ same_name (bytes_eq name e.0.items) e w (entries_of es) _ (place_of (entries_of es) name) refl
        (λ no. set_is es v w (sym (ap (λ t. cond t (Some e.1) (lookup (λ k. bytes_eq name k.items) es)) no) ∙ is))
        ∙ sym (ap (with_value_there (entries_of (e ∷ es)) name w)
        (step (λ (x : Entry V). bytes_eq name x.name) (entry_of e) (entries_of es)))

  -- ---- the same of a table, which is seen as s, and of a name whose bytes are those that the map is asked for

  pub stands : (es : List (Vec ℕ × V)) (bytes : List ℕ) {s : List (Entry V)} {name : List ℕ} → entries_of es ≡ s →
      bytes ≡ name →
      lookup (λ k. bytes_eq bytes k.items) es ≡ value_at s name
  stands es bytes seen same = found bytes es ∙ (λ i. value_at (seen i) (same i))

  pub is_written : (es : List (Vec ℕ × V)) (bytes : List ℕ) {s : List (Entry V)} {name : List ℕ} (v w : V) →
      entries_of es ≡ s → bytes ≡ name →
      lookup (λ k. bytes_eq bytes k.items) es ≡ Some v → entries_of (set_value (λ k. bytes_eq bytes k.items) es w) ≡
      with_value s name w
  is_written es bytes v w seen same is = set_is bytes es v w is ∙ (λ i. with_value (seen i) (same i) w)

  -- a name that is inserted stands for its value
  inserted : (es : List (Vec ℕ × V)) (k : Vec ℕ) (v : V) →
      entries_of (insert_entry (λ x y. bytes_eq x.items y.items) es k v) ≡ with_value (entries_of es) k.items v
  inserted [] k v = refl
  inserted (e ∷ es) k v =
      spread k.items (bytes_eq k.items e.0.items) e v es (insert_entry (λ x y. bytes_eq x.items y.items) es k v)
      ∙ same_name k.items (bytes_eq k.items e.0.items) e v (entries_of es) _ (place_of (entries_of es) k.items) refl
      (λ no. inserted es k v)
      ∙ sym (ap (with_value_there (entries_of (e ∷ es)) k.items v)
      (step (λ (x : Entry V). bytes_eq k.items x.name) (entry_of e) (entries_of es)))

  -- the same for a copy of the name's bytes
  pub is_inserted : (es : List (Vec ℕ × V)) (name : List ℕ) (k : Vec ℕ) (v : V) → k.items ≡ name →
      entries_of (insert_entry (λ x y. bytes_eq x.items y.items) es k v) ≡ with_value (entries_of es) name v
  is_inserted es name k v same = inserted es k v ∙ ap (λ (n : List ℕ). with_value (entries_of es) n v) same

  -- ---- a name that stands for a value already

  same_by : (name : List ℕ) (t : Bool) (x : Entry V) (xs : List (Entry V)) (v : V) (o : Option ℕ) →
      bytes_eq name x.name ≡ t →
      value_there (x ∷ xs) (cond t (Some 0) (option_map (λ k. k + 1) o)) ≡ Some v →
      (value_there xs o ≡ Some v → with_value_there xs name v o ≡ xs) →
      with_value_there (x ∷ xs) name v (cond t (Some 0) (option_map (λ k. k + 1) o)) ≡ x ∷ xs
  same_by name true x xs v o is value h =
      λ i. record { name = (bytes_eq-Decides name x.name).0 is i; value = unwrap_or (sym value i) x.value } ∷ xs
  same_by name false x xs v o is value h =
      set_behind x xs name v o ∙ ap (λ l. x ∷ l) (h (sym (value_behind x xs o) ∙ value))

  -- letting a name stand for what it stands for changes nothing
  pub set_same : (entries : List (Entry V)) (name : List ℕ) (v : V) → value_at entries name ≡ Some v →
      with_value entries name v ≡ entries
  set_same [] name v value = absurd (none_is_some value)
  set_same (x ∷ xs) name v value =
      let place = step (λ (e : Entry V). bytes_eq name e.name) x xs in
      ap (with_value_there (x ∷ xs) name v) place
      ∙ same_by name (bytes_eq name x.name) x xs v (place_of xs name) refl (sym (ap (value_there (x ∷ xs)) place) ∙
      value)
      (set_same xs name v)
