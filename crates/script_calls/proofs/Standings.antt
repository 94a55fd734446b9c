-- Tables whose entries are the same one by one.
use Rattle.std.proofs.Common.{◌≡◌, ℕ, suc, ◌+◌, List, [], ◌∷◌, ◌++◌, take, Option, Some, sym, ◌∙◌, ap, subst, arith}
use Rattle.std.specs.Prelude.{option_map, slice_get, get_or}
use Rattle.std.specs.Global.{Vec}
use Rattle.std.proofs.Math.Seq.{take-suc}
use Rattle.std.proofs.lemmas.Option.{get_or_from_slice_get, slice_get-map, slice_get_within}
use Rattle.script_calls.specs.Tables.{entries_of, entry_of}

-- one item more is the same
pub next_same : {X : Type 0} (xs ys : List X) (i : ℕ) (x y : X) → take i xs ≡ take i ys → slice_get xs i ≡ Some x →
    slice_get ys i ≡ Some y → x ≡ y → take (suc i) xs ≡ take (suc i) ys
next_same {X} xs ys i x y so a b same =
    let item : get_or xs i x ≡ get_or ys i x =
    get_or_from_slice_get xs i x x a ∙ same ∙ sym (get_or_from_slice_get ys i y x b)
    in
    take-suc xs i x (slice_get_within xs i x a) ∙ (λ t. so t ++ item t ∷ [])
    ∙ sym (take-suc ys i x (slice_get_within ys i y b))

after : (n : ℕ) → suc n ≡ n + 1
after n = omega arith

-- one entry more is the same
pub entry_more : {V : Type 0} (these those : List (Vec ℕ × V)) (place : ℕ) (name other : Vec ℕ) (value that : V) →
    take place (entries_of these) ≡ take place (entries_of those) →
    Some (name, value) ≡ slice_get these place → Some (other, that) ≡ slice_get those place →
    name.items ≡ other.items → value ≡ that →
    take (place + 1) (entries_of these) ≡ take (place + 1) (entries_of those)
entry_more {V} these those place name other value that so a b names values =
    subst (λ (n : ℕ). take n (entries_of these) ≡ take n (entries_of those)) (after place)
    (next_same (entries_of these) (entries_of those) place (entry_of (name, value)) (entry_of (other, that)) so
    (slice_get-map entry_of these place ∙ ap (λ (o : Option (Vec ℕ × V)). option_map entry_of o) (sym a))
    (slice_get-map entry_of those place ∙ ap (λ (o : Option (Vec ℕ × V)). option_map entry_of o) (sym b))
    (λ t. record { name = names t; value = values t }))
