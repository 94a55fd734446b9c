-- Where something stands first, in a list that grew.
use Rattle.std.proofs.Common.{◌≡◌, ◌≤◌, ◌+◌, ℕ, zero, suc, Bool, true, false, cond, not, ◌||◌, List, [], ◌∷◌, ◌++◌}
use Rattle.std.proofs.Common.{length, take, drop, position, nat_lt, slice_get, Option, Some, None, if◌then◌else◌}
use Rattle.std.proofs.Common.{option_map, refl, sym, ap, ◌∙◌, arith}
use Rattle.std.specs.Prelude.{find, is_some}
use Rattle.std.specs.List.{list_any, position_or_len}
use Rattle.std.proofs.lemmas.List.{take-append-drop}
use Rattle.std.proofs.lemmas.List.Folds.{find_at, list_any-append}
use Rattle.std.proofs.lemmas.Option.{slice_get_past}
use Rattle.collective_progress.specs.Progress.{or_here}

-- ---- one more behind

behind : (b : Bool) (q : ℕ) → cond b (Some (1 + q)) None ≡ option_map (λ x. 1 + x) (cond b (Some q) None)
behind true q = refl
behind false q = refl

one_more : (q l : ℕ) → nat_lt (1 + q) (suc l) ≡ nat_lt q l
one_more q l = grind arith

-- the place behind one more
pub next : {X : Type 0} (p : X → Bool) (y : X) (ys : List X) → position p (y ∷ ys) ≡
    (if p y then Some 0 else option_map (λ x. 1 + x) (position p ys))
next p y ys = by (p y)
  where
    first : (l : ℕ) → nat_lt 0 (suc l) ≡ true
    first l = grind arith

    by : (b : Bool) →
        cond (nat_lt (cond (not b) (1 + position_or_len p ys) 0) (suc (length ys)))
        (Some (cond (not b) (1 + position_or_len p ys) 0)) None
        ≡ (if b then Some 0 else option_map (λ x. 1 + x) (position p ys))
    by true = ap (λ (t : Bool). cond t (Some 0) None) (first (length ys))
    by false =
        ap (λ (t : Bool). cond t (Some (1 + position_or_len p ys)) None) (one_more (position_or_len p ys) (length ys))
        ∙ behind (nat_lt (position_or_len p ys) (length ys)) (position_or_len p ys)

shifted : (o : Option ℕ) (b : Bool) (l : ℕ) → option_map (λ x. 1 + x) (or_here o b l) ≡
    or_here (option_map (λ x. 1 + x) o) b (1 + l)
shifted (Some q) b l = refl
shifted None true l = refl
shifted None false l = refl

more : (l : ℕ) → 1 + l ≡ suc l
more l = omega arith

-- a note more
pub position_grows : {X : Type 0} (p : X → Bool) (xs : List X) (x : X) →
    position p (xs ++ x ∷ []) ≡ or_here (position p xs) (p x) (length xs)
position_grows p [] x = next p x [] ∙ by (p x)
  where
    by : (b : Bool) → (if b then Some 0 else option_map (λ x. 1 + x) None) ≡ or_here None b 0
    by true = refl
    by false = refl
position_grows p (y ∷ ys) x =
    next p y (ys ++ x ∷ []) ∙
    (ap (λ (o : Option ℕ). if p y then Some 0 else option_map (λ x. 1 + x) o) (position_grows p ys x)
    ∙ (by (p y) ∙ ap (λ (o : Option ℕ). or_here o (p x) (suc (length ys))) (sym (next p y ys))))
  where
    by : (b : Bool) → (if b then Some 0 else option_map (λ x. 1 + x) (or_here (position p ys) (p x) (length ys)))
        ≡ or_here (if b then Some 0 else option_map (λ x. 1 + x) (position p ys)) (p x) (suc (length ys))
    by true = refl
    by false = shifted (position p ys) (p x) (length ys) ∙
        ap (or_here (option_map (λ x. 1 + x) (position p ys)) (p x)) (more (length ys))

or_nothing : (a : Bool) → (a || false) ≡ a
or_nothing true = refl
or_nothing false = refl

pub any_grows : {X : Type 0} (p : X → Bool) (xs : List X) (x : X) → list_any p (xs ++ x ∷ []) ≡ (list_any p xs || p x)
any_grows p xs x = list_any-append p xs (x ∷ []) ∙ ap (λ (b : Bool). list_any p xs || b) (or_nothing (p x))

-- ---- a front that was looked at, and the rest

pub any_behind : {X : Type 0} (p : X → Bool) (xs : List X) (n : ℕ) → list_any p xs ≡
    (list_any p (take n xs) || list_any p (drop n xs))
any_behind p xs n = ap (list_any p) (sym (take-append-drop n xs)) ∙ list_any-append p (take n xs) (drop n xs)

added : (n : ℕ) (o : Option ℕ) → option_map (λ x. 1 + x) (option_map (λ x. n + x) o) ≡ option_map (λ x. suc n + x) o
added n None = refl
added n (Some x) = ap (λ (y : ℕ). Some y) sum
  where
    sum : 1 + (n + x) ≡ suc n + x
    sum = omega arith

nothing_added : (o : Option ℕ) → o ≡ option_map (λ x. 0 + x) o
nothing_added None = refl
nothing_added (Some x) = ap (λ (y : ℕ). Some y) sum
  where
    sum : x ≡ 0 + x
    sum = omega arith

-- the place of what stands behind a first one, by whether that passes
passed : {X : Type 0} (p : X → Bool) (x : X) (xs : List X) (t : Bool) → p x ≡ t → position p (x ∷ xs) ≡
    (if t then Some 0 else option_map (λ x. 1 + x) (position p xs))
passed p x xs t e = next p x xs ∙ ap (λ (u : Bool). if u then Some 0 else option_map (λ x. 1 + x) (position p xs)) e

some_moved : (o : Option ℕ) (q : ℕ) → option_map (λ x. 1 + x) o ≡ Some q → (r : ℕ) × (o ≡ Some r)
some_moved None q h = absurd cc
some_moved (Some r) q h = (r, refl)

some_none : (q : ℕ) → Some q ≡ None → ⊥
some_none q h = absurd cc

none_moved : (o : Option ℕ) → option_map (λ x. 1 + x) o ≡ None → o ≡ None
none_moved None h = refl
none_moved (Some r) h = absurd cc

front_step : {X : Type 0} (p : X → Bool) (x : X) (xs ys : List X) (q : ℕ) (t : Bool) → p x ≡ t
    → ((r : ℕ) → position p ys ≡ Some r → position p xs ≡ Some r) → position p (x ∷ ys) ≡ Some q →
    position p (x ∷ xs) ≡ Some q
front_step p x xs ys q true e rest is = passed p x xs true e ∙ (sym (passed p x ys true e) ∙ is)
front_step p x xs ys q false e rest is =
    let at : option_map (λ x. 1 + x) (position p ys) ≡ Some q = sym (passed p x ys false e) ∙ is in
    let found = some_moved (position p ys) q at in
    passed p x xs false e ∙ (ap (option_map (λ x. 1 + x)) (rest found.0 found.1 ∙ sym found.1) ∙ at)

-- it stands in the front where it stands there
pub position_front : {X : Type 0} (p : X → Bool) (xs : List X) (n q : ℕ) → position p (take n xs) ≡ Some q →
    position p xs ≡ Some q
position_front p [] zero q is = is
position_front p [] (suc n) q is = is
position_front p (x ∷ xs) zero q is = absurd cc
position_front p (x ∷ xs) (suc n) q is =
    front_step p x xs (take n xs) q (p x) refl (λ r h. position_front p xs n r h) is

behind_step : {X : Type 0} (p : X → Bool) (x : X) (xs ys : List X) (o : Option ℕ) (t : Bool) → p x ≡ t
    → (position p ys ≡ None → position p xs ≡ o) → position p (x ∷ ys) ≡ None →
    position p (x ∷ xs) ≡ option_map (λ x. 1 + x) o
behind_step p x xs ys o true e rest is = absurd (some_none 0 (sym (passed p x ys true e) ∙ is))
behind_step p x xs ys o false e rest is =
    passed p x xs false e ∙
    ap (option_map (λ x. 1 + x)) (rest (none_moved (position p ys) (sym (passed p x ys false e) ∙ is)))

-- and else behind it
pub position_behind : {X : Type 0} (p : X → Bool) (xs : List X) (n : ℕ) → n ≤ length xs → position p (take n xs) ≡ None
    → position p xs ≡ option_map (λ x. n + x) (position p (drop n xs))
position_behind p xs zero le is = nothing_added (position p xs)
position_behind p [] (suc n) le is = absurd (omega arith)
position_behind p (x ∷ xs) (suc n) le is =
    behind_step p x xs (take n xs) (option_map (λ x. n + x) (position p (drop n xs))) (p x) refl
    (λ h. position_behind p xs n (omega arith) h) is
    ∙ added n (position p (drop n xs))

-- ---- one passes just where it has a place

-- it stands somewhere, or nowhere
abbrev pub Stands : Bool → Option ℕ → Type 0
Stands true o = (q : ℕ) × (o ≡ Some q)
Stands false o = o ≡ None

-- one is told of where it has a place
pub told_by : {X : Type 0} (p : X → Bool) (xs : List X) → (b : Bool) → list_any p xs ≡ b → Stands b (position p xs)
told_by p [] true h = absurd cc
told_by p [] false h = refl
told_by p (x ∷ xs) b h = by (p x) refl (λ g. told_by p xs b g)
  where
    by : (t : Bool) → p x ≡ t → (list_any p xs ≡ b → Stands b (position p xs)) → Stands b (position p (x ∷ xs))
    by true is rest = at b (sym (ap (λ (u : Bool). u || list_any p xs) is) ∙ h)
      where
        at : (d : Bool) → true ≡ d → Stands d (position p (x ∷ xs))
        at true g =
            (0, next p x xs ∙ ap (λ (u : Bool). if u then Some 0 else option_map (λ x. 1 + x) (position p xs)) is)
        at false g = absurd cc
    by false is rest = at b (rest (sym (ap (λ (u : Bool). u || list_any p xs) is) ∙ h))
      where
        at : (d : Bool) → Stands d (position p xs) → Stands d (position p (x ∷ xs))
        at true g = (
          1 + g.0,
          next p x xs ∙
              (ap (λ (u : Bool). if u then Some 0 else option_map (λ x. 1 + x) (position p xs)) is ∙
              ap (option_map (λ x. 1 + x)) g.1),
        )
        at false g = next p x xs ∙
            (ap (λ (u : Bool). if u then Some 0 else option_map (λ x. 1 + x) (position p xs)) is ∙
            ap (option_map (λ x. 1 + x)) g)

pub told_place : {X : Type 0} (p : X → Bool) (xs : List X) → is_some (position p xs) ≡ list_any p xs
told_place p xs = by (list_any p xs) (told_by p xs (list_any p xs) refl)
  where
    by : (b : Bool) → Stands b (position p xs) → is_some (position p xs) ≡ b
    by true at = ap is_some at.1
    by false at = ap is_some at

-- the first one that passes stands at its place
pub found_there : {X : Type 0} (p : X → Bool) (xs : List X) (q : ℕ) → position p xs ≡ Some q →
    find p xs ≡ slice_get xs q
found_there p xs q is = find_at p xs ∙ ap (slice_get xs) (by (nat_lt (position_or_len p xs) (length xs)) is)
  where
    by : (b : Bool) → cond b (Some (position_or_len p xs)) None ≡ Some q → position_or_len p xs ≡ q
    by true h = cc
    by false h = absurd cc

pub found_nowhere : {X : Type 0} (p : X → Bool) (xs : List X) → position p xs ≡ None → find p xs ≡ None
found_nowhere p xs is = find_at p xs ∙ by (nat_lt (position_or_len p xs) (length xs)) refl is
  where
    by : (b : Bool) → nat_lt (position_or_len p xs) (length xs) ≡ b → cond b (Some (position_or_len p xs)) None ≡ None →
        slice_get xs (position_or_len p xs) ≡ None
    by true e h = absurd (some_none (position_or_len p xs) h)
    by false e h = slice_get_past xs (position_or_len p xs) (grind (arith, e))
