-- What is put at places, and what stands there afterwards.
use Rattle.std.proofs.Common.{◌≡◌, ◌≢◌, ℕ, zero, suc, ◌<◌, ◌≤◌, Bool, true, false, ◌||◌, List, [], ◌∷◌, length, take}
use Rattle.std.proofs.Common.{Some, nat_eq, slice_get, slice_set, refl, ap, ap₂, ◌∙◌, subst, arith}
use Rattle.std.specs.Set.{is_member}
use Rattle.std.proofs.lemmas.Bool.{eqb-false}
use Rattle.std.proofs.lemmas.List.{length-set}
use Rattle.std.proofs.lemmas.Option.{get_or_from_slice_get}
use Rattle.layouts.specs.Buffers.{put_at, room_for}
use Rattle.layouts.specs.Laws.{WritesItsPlaces, WhatWasSentIsReceived}
use Rattle.layouts.specs.Layouts.{has_repeats}

get_set : (xs : List ℕ) (k y : ℕ) → k < length xs → slice_get (slice_set xs k y) k ≡ Some y
get_set [] k y h = absurd (omega arith)
get_set (x ∷ xs) zero y h = refl
get_set (x ∷ xs) (suc k) y h = get_set xs k y (omega arith)

get_set_other : (xs : List ℕ) (k j y : ℕ) → j ≢ k → slice_get (slice_set xs k y) j ≡ slice_get xs j
get_set_other [] k j y h = refl
get_set_other (x ∷ xs) zero zero y h = absurd (h refl)
get_set_other (x ∷ xs) zero (suc j) y h = refl
get_set_other (x ∷ xs) (suc k) zero y h = refl
get_set_other (x ∷ xs) (suc k) (suc j) y h = get_set_other xs k j y (λ e. h (ap suc e))

pub neither : (a b : Bool) → (a || b) ≡ false → (a ≡ false) × (b ≡ false)
neither false b h = (refl, h)
neither true b h = absurd (grind arith)

pub both_false : (a b : Bool) → a ≡ false → b ≡ false → (a || b) ≡ false
both_false false b h k = k
both_false true b h k = absurd (grind arith)

-- what isn't in a list isn't in its beginning
none_of_first : (o n : ℕ) (xs : List ℕ) → is_member nat_eq xs o ≡ false → is_member nat_eq (take n xs) o ≡ false
none_of_first o zero [] h = refl
none_of_first o (suc n) [] h = refl
none_of_first o zero (x ∷ xs) h = refl
none_of_first o (suc n) (x ∷ xs) h =
    let q = neither (nat_eq o x) (is_member nat_eq xs o) h in
    both_false (nat_eq o x) (is_member nat_eq (take n xs) o) q.0 (none_of_first o n xs q.1)

put_length : (at buffer values : List ℕ) → length (put_at buffer at values) ≡ length buffer
put_length at buffer [] = refl
put_length [] buffer (x ∷ xs) = refl
put_length (o ∷ os) buffer (x ∷ xs) = put_length os (slice_set buffer o x) xs ∙ length-set buffer o x

put_others : (at buffer values : List ℕ) (o : ℕ) → is_member nat_eq (take (length values) at) o ≡ false →
    slice_get (put_at buffer at values) o ≡ slice_get buffer o
put_others at buffer [] o h = refl
put_others [] buffer (x ∷ xs) o h = refl
put_others (p ∷ ps) buffer (x ∷ xs) o h =
    let n = neither (nat_eq o p) (is_member nat_eq (take (length xs) ps) o) h in
    put_others ps (slice_set buffer p x) xs o n.1 ∙ get_set_other buffer p o x (eqb-false o p n.0)

-- the first place holds the first value
put_first : (p : ℕ) (ps buffer : List ℕ) (x : ℕ) (xs : List ℕ) → has_repeats (p ∷ ps) ≡ false → p < length buffer →
    slice_get (put_at buffer (p ∷ ps) (x ∷ xs)) p ≡ Some x
put_first p ps buffer x xs d b =
    let n = neither (is_member nat_eq ps p) (has_repeats ps) d in
    put_others ps (slice_set buffer p x) xs p (none_of_first p (length xs) ps n.0) ∙ get_set buffer p x b

put_own : (at buffer values : List ℕ) (j o x : ℕ) → has_repeats at ≡ false → o < length buffer →
    slice_get at j ≡ Some o →
    slice_get values j ≡ Some x → slice_get (put_at buffer at values) o ≡ Some x
put_own [] buffer values j o x d b p v = absurd (grind arith)
put_own (q ∷ qs) buffer [] j o x d b p v = absurd (grind arith)
put_own (q ∷ qs) buffer (y ∷ ys) zero o x d b p v =
    let e : q ≡ o = grind arith in
    let f : y ≡ x = grind arith in
    subst (λ (z : ℕ). slice_get (put_at buffer (q ∷ qs) (y ∷ ys)) o ≡ Some z) f
    (subst (λ (z : ℕ). slice_get (put_at buffer (q ∷ qs) (y ∷ ys)) z ≡ Some y) e
    (put_first q qs buffer y ys d (omega arith)))
put_own (q ∷ qs) buffer (y ∷ ys) (suc j) o x d b p v =
    let n = neither (is_member nat_eq qs q) (has_repeats qs) d in
    let l : length (slice_set buffer q y) ≡ length buffer = length-set buffer q y in
    put_own qs (slice_set buffer q y) ys j o x n.1 (omega arith) p v

pub writes_its_places : (at buffer values : List ℕ) → WritesItsPlaces at buffer values
writes_its_places at buffer values =
    record {
      length_is = put_length at buffer values;
      others = put_others at buffer values;
      own_places = put_own at buffer values;
    }

-- room for all places is room for all but the first
less_room : (o : ℕ) (os : List ℕ) (n : ℕ) → room_for (o ∷ os) ≤ n → room_for os ≤ n
less_room o [] n h = omega arith
less_room o (p ∷ ps) n h = omega arith

pub received_as_sent : WhatWasSentIsReceived
received_as_sent [] buffer [] d room e = refl
received_as_sent [] buffer (x ∷ xs) d room e = absurd (omega arith)
received_as_sent (o ∷ os) buffer [] d room e = absurd (omega arith)
received_as_sent (o ∷ os) buffer (x ∷ xs) d room e =
    let n = neither (is_member nat_eq os o) (has_repeats os) d in
    let long : length (slice_set buffer o x) ≡ length buffer = length-set buffer o x in
    let room_left : room_for os ≤ length (slice_set buffer o x) = omega (arith, less_room o os (length buffer) room) in
    ap₂ (λ (y : ℕ) (ys : List ℕ). y ∷ ys)
    (get_or_from_slice_get (put_at buffer (o ∷ os) (x ∷ xs)) o x 0 (put_first o os buffer x xs d (omega arith)))
    (received_as_sent os (slice_set buffer o x) xs n.1 room_left (omega arith))

-- a place that a buffer has room for is within it
pub place_within : (at : List ℕ) (size j o : ℕ) → room_for at ≤ size → slice_get at j ≡ Some o → o < size
place_within [] size j o room h = absurd (grind arith)
place_within (p ∷ ps) size zero o room h = let e : p ≡ o = grind arith in omega arith
place_within (p ∷ ps) size (suc j) o room h = place_within ps size j o (less_room p ps size room) h
