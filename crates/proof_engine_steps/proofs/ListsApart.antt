-- Lists by their places: what stands in one that was changed, cut or sifted; and numbers of which no two are the same.
use Rattle.std.proofs.Common.{◌≡◌, ◌≢◌, ℕ, zero, suc, Bool, true, false, List, [], ◌∷◌, map, filter, remove, cond}
use Rattle.std.proofs.Common.{position, Option, Some, None, option_map, slice_get, slice_set, refl, sym, ap, ◌∙◌, subst}
use Rattle.std.proofs.Common.{arith, ◌⊎◌, inl, inr}
use Rattle.std.specs.List.{AllByRecursion}
use Rattle.std.proofs.lemmas.Bool.{cases_eq}
use Rattle.std.proofs.lemmas.Option.{none-some, same_Some, slice_get-map}
use Rattle.perfect_queues.proofs.ListLemmas.{get_set_other}
use Rattle.proof_pure_network.proofs.JobLemmas.{get_set_same}
use Rattle.proof_pure_network.specs.Announcements.{IsIn}
use Rattle.proof_engine_matching.proofs.Positions.{position_cons}
use Rattle.proof_engine_view.specs.UnderWay.{AreApart}

-- ---- each element

-- the one at a place
pub all_at : {A : Type 0} (P : A → Type 0) (xs : List A) (i : ℕ) (x : A) → AllByRecursion P xs →
    slice_get xs i ≡ Some x → P x
all_at P [] i x all h = absurd (grind arith)
all_at P (y ∷ ys) zero x all h = subst P (same_Some y x h) all.0
all_at P (y ∷ ys) (suc i) x all h = all_at P ys i x all.1 h

-- what holds at each place holds of each
pub all_from : {A : Type 0} (P : A → Type 0) (xs : List A) → ((i : ℕ) (x : A) → slice_get xs i ≡ Some x → P x) →
    AllByRecursion P xs
all_from P [] f = tt
all_from P (x ∷ xs) f = (f zero x refl, all_from P xs (λ i y h. f (suc i) y h))

-- ---- an element that changes

-- what stands in the changed list is the new one, or stood there
pub at_set : {A : Type 0} (xs : List A) (i j : ℕ) (y z x : A) → slice_get xs i ≡ Some z →
    slice_get (slice_set xs i y) j ≡ Some x → ((j ≡ i) × (y ≡ x)) ⊎ ((j ≢ i) × (slice_get xs j ≡ Some x))
at_set xs i j y z x there h = go (cases_eq j i)
  where
    go : (j ≡ i) ⊎ (j ≢ i) → ((j ≡ i) × (y ≡ x)) ⊎ ((j ≢ i) × (slice_get xs j ≡ Some x))
    go (inl e) =
        inl (e, same_Some y x (sym (get_set_same xs i z y there) ∙ (ap (slice_get (slice_set xs i y)) (sym e) ∙ h)))
    go (inr n) = inr (n, sym (get_set_other xs i j y (λ e. n (sym e))) ∙ h)

-- so each is as it should be where the new one is, and the others are
pub set_all : {A : Type 0} (P : A → Type 0) (xs : List A) (i : ℕ) (y z : A) → slice_get xs i ≡ Some z → P y →
    ((j : ℕ) (x : A) → j ≢ i → slice_get xs j ≡ Some x → P x) → AllByRecursion P (slice_set xs i y)
set_all P xs i y z there p f = all_from P (slice_set xs i y) (λ j x h. go j x (at_set xs i j y z x there h))
  where
    go : (j : ℕ) (x : _) → ((j ≡ i) × (y ≡ x)) ⊎ ((j ≢ i) × (slice_get xs j ≡ Some x)) → P x
    go j x (inl t) = subst P t.1 p
    go j x (inr t) = f j x t.0 t.1

-- writing what stands there changes nothing
pub set_still : {A : Type 0} (xs : List A) (i : ℕ) (x : A) → slice_get xs i ≡ Some x → slice_set xs i x ≡ xs
set_still [] i x h = absurd (grind arith)
set_still {A} (y ∷ ys) zero x h = ap (λ (z : A). z ∷ ys) (sym (same_Some y x h))
set_still {A} (y ∷ ys) (suc i) x h = ap (λ (zs : List A). y ∷ zs) (set_still ys i x h)

-- ---- an element that goes

-- what is left stood at another place
pub removed_at : {A : Type 0} (xs : List A) (i j : ℕ) (x : A) → slice_get (remove xs i) j ≡ Some x →
    (k : ℕ) × (k ≢ i) × (slice_get xs k ≡ Some x)
removed_at [] zero j x h = absurd (grind arith)
removed_at [] (suc i) j x h = absurd (grind arith)
removed_at (y ∷ ys) zero j x h = (suc j, λ e. absurd (grind arith), h)
removed_at (y ∷ ys) (suc i) zero x h = (zero, λ e. absurd (grind arith), h)
removed_at (y ∷ ys) (suc i) (suc j) x h = let r = removed_at ys i j x h in (suc r.0, λ e. r.1 (omega arith), r.2)

-- what stood at another place is left
pub left_in : {A : Type 0} (xs : List A) (i k : ℕ) (x : A) → k ≢ i → slice_get xs k ≡ Some x → IsIn x (remove xs i)
left_in [] i k x n h = absurd (grind arith)
left_in (y ∷ ys) zero zero x n h = absurd (n refl)
left_in (y ∷ ys) zero (suc k) x n h = (k, h)
left_in (y ∷ ys) (suc i) zero x n h = (zero, h)
left_in (y ∷ ys) (suc i) (suc k) x n h =
    let r : IsIn x (remove ys i) = left_in ys i k x (λ e. n (ap suc e)) h in (suc r.0, r.1)

-- each is as it should be where the others are
pub removed_all : {A : Type 0} (P : A → Type 0) (xs : List A) (i : ℕ) →
    ((j : ℕ) (x : A) → j ≢ i → slice_get xs j ≡ Some x → P x) → AllByRecursion P (remove xs i)
removed_all P xs i f = all_from P (remove xs i) (λ j x h. let r = removed_at xs i j x h in f r.0 x r.1 r.2)

-- what each has
pub map_removed : {A B : Type 0} (f : A → B) (xs : List A) (i : ℕ) → map f (remove xs i) ≡ remove (map f xs) i
map_removed f [] zero = refl
map_removed f [] (suc i) = refl
map_removed f (x ∷ xs) zero = refl
map_removed {A} {B} f (x ∷ xs) (suc i) = ap (λ (ys : List B). f x ∷ ys) (map_removed f xs i)

-- ---- elements that are kept

-- what is kept passes, and stood there
pub kept_at : {A : Type 0} (p : A → Bool) (xs : List A) (j : ℕ) (x : A) → slice_get (filter p xs) j ≡ Some x →
    (k : ℕ) × (slice_get xs k ≡ Some x) × (p x ≡ true)
kept_at p [] j x h = absurd (grind arith)
kept_at {A} p (y ∷ ys) j x h = go (p y) refl j h (λ n e. kept_at p ys n x e)
  where
    go : (b : Bool) → p y ≡ b → (j : ℕ) → slice_get (cond b (y ∷ filter p ys) (filter p ys)) j ≡ Some x
        → ((n : ℕ) → slice_get (filter p ys) n ≡ Some x → (k : ℕ) × (slice_get ys k ≡ Some x) × (p x ≡ true))
        → (k : ℕ) × (slice_get (y ∷ ys) k ≡ Some x) × (p x ≡ true)
    go true e zero h more = (zero, h, subst (λ (z : A). p z ≡ true) (same_Some y x h) e)
    go true e (suc j) h more = let r = more j h in (suc r.0, r.1, r.2)
    go false e j h more = let r = more j h in (suc r.0, r.1, r.2)

-- what passes is kept
pub kept_in : {A : Type 0} (p : A → Bool) (xs : List A) (k : ℕ) (x : A) → slice_get xs k ≡ Some x → p x ≡ true →
    IsIn x (filter p xs)
kept_in p [] k x h t = absurd (grind arith)
kept_in {A} p (y ∷ ys) zero x h t = go (p y) (ap p (same_Some y x h) ∙ t)
  where
    go : (b : Bool) → b ≡ true → IsIn x (cond b (y ∷ filter p ys) (filter p ys))
    go true e = (zero, h)
    go false e = absurd (grind arith)
kept_in {A} p (y ∷ ys) (suc k) x h t = go (p y) (kept_in p ys k x h t)
  where
    go : (b : Bool) → IsIn x (filter p ys) → IsIn x (cond b (y ∷ filter p ys) (filter p ys))
    go true r = (suc r.0, r.1)
    go false r = r

-- each is as it should be where those that pass are
pub kept_all : {A : Type 0} (P : A → Type 0) (p : A → Bool) (xs : List A) →
    ((k : ℕ) (x : A) → slice_get xs k ≡ Some x → p x ≡ true → P x) → AllByRecursion P (filter p xs)
kept_all P p xs f = all_from P (filter p xs) (λ j x h. let r = kept_at p xs j x h in f r.0 x r.1 r.2)

-- ---- what each has

-- what an element has is there
pub in_map : {A B : Type 0} (f : A → B) (xs : List A) (k : ℕ) (x : A) → slice_get xs k ≡ Some x →
    slice_get (map f xs) k ≡ Some (f x)
in_map {A} {B} f xs k x h = slice_get-map f xs k ∙ ap (λ (o : Option A). option_map f o) h

-- an element that has what is there
pub record HasIt {A B : Type 0} (f : A → B) (xs : List A) (k : ℕ) (y : B) : Type 0 where
  pub element : A
  pub there : slice_get xs k ≡ Some element
  pub has : f element ≡ y

pub of_map : {A B : Type 0} (f : A → B) (xs : List A) (k : ℕ) (y : B) → slice_get (map f xs) k ≡ Some y → HasIt f xs k y
of_map {A} {B} f xs k y h = go (slice_get xs k) refl (sym (slice_get-map f xs k) ∙ h)
  where
    go : (o : Option A) → slice_get xs k ≡ o → option_map f o ≡ Some y → HasIt f xs k y
    go None e g = absurd (none-some y g)
    go (Some x) e g = record { element = x; there = e; has = same_Some (f x) y g }

-- ---- no two the same

-- at two places stand two
pub apart_place : (xs : List ℕ) (i j x : ℕ) → AreApart xs → slice_get xs i ≡ Some x → slice_get xs j ≡ Some x → i ≡ j
apart_place [] i j x a h g = absurd (grind arith)
apart_place (y ∷ ys) zero zero x a h g = refl
apart_place (y ∷ ys) zero (suc j) x a h g = absurd (all_at (λ z. z ≡ y → ⊥) ys j x a.0 g (sym (same_Some y x h)))
apart_place (y ∷ ys) (suc i) zero x a h g = absurd (all_at (λ z. z ≡ y → ⊥) ys i x a.0 h (sym (same_Some y x g)))
apart_place (y ∷ ys) (suc i) (suc j) x a h g = ap suc (apart_place ys i j x a.1 h g)

-- where one goes, those that are left are
all_removed : {A : Type 0} (P : A → Type 0) (xs : List A) (i : ℕ) → AllByRecursion P xs → AllByRecursion P (remove xs i)
all_removed P [] zero a = tt
all_removed P [] (suc i) a = tt
all_removed P (x ∷ xs) zero a = a.1
all_removed P (x ∷ xs) (suc i) a = (a.0, all_removed P xs i a.1)

pub apart_removed : (xs : List ℕ) (i : ℕ) → AreApart xs → AreApart (remove xs i)
apart_removed [] zero a = tt
apart_removed [] (suc i) a = tt
apart_removed (x ∷ xs) zero a = a.1
apart_removed (x ∷ xs) (suc i) a = (all_removed (λ y. y ≡ x → ⊥) xs i a.0, apart_removed xs i a.1)

-- where some are kept, they are
all_kept : {A B : Type 0} (P : B → Type 0) (f : A → B) (p : A → Bool) (xs : List A) → AllByRecursion P (map f xs) →
    AllByRecursion P (map f (filter p xs))
all_kept P f p [] a = tt
all_kept P f p (x ∷ xs) a = go (p x) (all_kept P f p xs a.1)
  where
    go : (b : Bool) → AllByRecursion P (map f (filter p xs)) →
        AllByRecursion P (map f (cond b (x ∷ filter p xs) (filter p xs)))
    go true rest = (a.0, rest)
    go false rest = rest

pub apart_kept : {A : Type 0} (f : A → ℕ) (p : A → Bool) (xs : List A) → AreApart (map f xs) →
    AreApart (map f (filter p xs))
apart_kept f p [] a = tt
apart_kept f p (x ∷ xs) a = go (p x) (apart_kept f p xs a.1)
  where
    go : (b : Bool) → AreApart (map f (filter p xs)) → AreApart (map f (cond b (x ∷ filter p xs) (filter p xs)))
    go true rest = (all_kept (λ y. y ≡ f x → ⊥) f p xs a.0, rest)
    go false rest = rest

-- ---- the first that passes

-- what stands at the place that was found passes
pub record Passes {A : Type 0} (p : A → Bool) (xs : List A) (i : ℕ) : Type 0 where
  pub element : A
  pub there : slice_get xs i ≡ Some element
  pub passes : p element ≡ true

pub position_passes : {A : Type 0} (p : A → Bool) (xs : List A) (i : ℕ) → position p xs ≡ Some i → Passes p xs i
position_passes p [] i h = absurd (grind arith)
position_passes {A} p (x ∷ xs) i h =
    go (p x) refl (position p xs) refl (sym (position_cons p x xs) ∙ h) (λ j e. position_passes p xs j e)
  where
    later : (j : ℕ) → suc j ≡ i → Passes p xs j → Passes p (x ∷ xs) i
    later j e r =
        subst (λ (k : ℕ). Passes p (x ∷ xs) k) e (record { element = r.element; there = r.there; passes = r.passes })

    go : (b : Bool) → p x ≡ b → (o : Option ℕ) → position p xs ≡ o → cond b (Some 0) (option_map suc o) ≡ Some i →
        ((j : ℕ) → position p xs ≡ Some j → Passes p xs j) → Passes p (x ∷ xs) i
    go true e o f g more =
        subst (λ (k : ℕ). Passes p (x ∷ xs) k) (same_Some 0 i g) (record { element = x; there = refl; passes = e })
    go false e None f g more = absurd (none-some i g)
    go false e (Some j) f g more = later j (same_Some (suc j) i g) (more j f)
