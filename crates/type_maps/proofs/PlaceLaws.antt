-- Copies of copies: places, and what is moved to them.
use Rattle.std.proofs.Common.{◌≡◌, ℕ, zero, suc, ◌+◌, ◌*◌, refl, sym, ◌∙◌, ap, List, [], ◌∷◌, ◌++◌}
use Rattle.std.proofs.Common.{arith}
use Rattle.std.proofs.Math.IntN.{ℤ, pos, ◌+ℤ◌, ◌*ℤ◌, +ℤ_assoc, +ℤ_idr, zero-*ℤ, suc_ℤ-*ℤ}
use Rattle.std.proofs.lemmas.Int.{ints}
use Rattle.std.proofs.lemmas.List.{map-append, append-nil}
use Rattle.std.proofs.lemmas.List.Concat.{flat_map-append}
use Rattle.type_maps.specs.declared.places.Places.{Places}
use Rattle.type_maps.specs.Maps.{Element, moved, moved_numbers, copied_elements, copied_numbers, places, places_of}

pub moved_moved : (a b : ℤ) (es : List Element) → moved a (moved b es) ≡ moved (a +ℤ b) es
moved_moved a b [] = refl
moved_moved a b (e ∷ es) = λ t.
    record { basic = e.basic; at = sym (+ℤ_assoc a b e.at) t } ∷ moved_moved a b es t

pub moved_numbers_twice : (a b : ℤ) (xs : List ℤ) → moved_numbers a (moved_numbers b xs) ≡ moved_numbers (a +ℤ b) xs
moved_numbers_twice a b [] = refl
moved_numbers_twice a b (x ∷ xs) = λ t. sym (+ℤ_assoc a b x) t ∷ moved_numbers_twice a b xs t

-- copies that are moved stand at the places moved
pub moved_copies : (a : ℤ) (ps : List ℤ) (es : List Element) →
    moved a (copied_elements ps es) ≡ copied_elements (moved_numbers a ps) es
moved_copies a [] es = refl
moved_copies a (p ∷ ps) es =
    map-append (λ (e : Element). record { basic = e.basic; at = a +ℤ e.at }) (moved p es) (copied_elements ps es) ∙
    (λ t. moved_moved a p es t ++ moved_copies a ps es t)

pub moved_number_copies : (a : ℤ) (ps : List ℤ) (xs : List ℤ) →
    moved_numbers a (copied_numbers ps xs) ≡ copied_numbers (moved_numbers a ps) xs
moved_number_copies a [] xs = refl
moved_number_copies a (p ∷ ps) xs =
    map-append (λ x. a +ℤ x) (moved_numbers p xs) (copied_numbers ps xs) ∙
    (λ t. moved_numbers_twice a p xs t ++ moved_number_copies a ps xs t)

pub copied_append : (ps qs : List ℤ) (es : List Element) →
    copied_elements (ps ++ qs) es ≡ copied_elements ps es ++ copied_elements qs es
copied_append ps qs es = flat_map-append (λ p. moved p es) ps qs

pub copied_numbers_append : (ps qs : List ℤ) (xs : List ℤ) →
    copied_numbers (ps ++ qs) xs ≡ copied_numbers ps xs ++ copied_numbers qs xs
copied_numbers_append ps qs xs = flat_map-append (λ p. moved_numbers p xs) ps qs

-- copies of copies are copies at the places of the places
pub copies_of_copies : (ps qs : List ℤ) (es : List Element) →
    copied_elements ps (copied_elements qs es) ≡ copied_elements (copied_numbers ps qs) es
copies_of_copies [] qs es = refl
copies_of_copies (p ∷ ps) qs es =
    (λ t. moved_copies p qs es t ++ copies_of_copies ps qs es t) ∙
    sym (copied_append (moved_numbers p qs) (copied_numbers ps qs) es)

swap_last : (a b s : ℤ) → (a +ℤ s) +ℤ b ≡ (a +ℤ b) +ℤ s
swap_last a b s = omega (arith, ints)

-- one place, copied
pub one_place_copied : (a : ℤ) (n : ℕ) (s b : ℤ) → copied_numbers (places a n s) (b ∷ []) ≡ places (a +ℤ b) n s
one_place_copied a zero s b = refl
one_place_copied a (suc n) s b = λ t.
    (a +ℤ b) ∷ (one_place_copied (a +ℤ s) n s b ∙ ap (λ x. places x n s) (swap_last a b s)) t

-- places, moved
pub places_moved : (a b : ℤ) (n : ℕ) (s : ℤ) → moved_numbers a (places b n s) ≡ places (a +ℤ b) n s
places_moved a b zero s = refl
places_moved a b (suc n) s = λ t.
    (a +ℤ b) ∷ (places_moved a (b +ℤ s) n s ∙ ap (λ x. places x n s) (sym (+ℤ_assoc a b s))) t

pub times_suc : (n : ℕ) (s : ℤ) → pos (suc n) *ℤ s ≡ pos n *ℤ s +ℤ s
times_suc n s = suc_ℤ-*ℤ (pos n) s

step_along : (x y s : ℤ) → (x +ℤ s) +ℤ y ≡ x +ℤ (y +ℤ s)
step_along x y s = omega (arith, ints)

zero_plus : (d : ℕ) → zero + d ≡ d
zero_plus d = omega arith

suc_plus : (c d : ℕ) → suc c + d ≡ suc (c + d)
suc_plus c d = omega arith

no_times : (c : ℕ) → zero ≡ zero * c
no_times c = omega arith

-- so many places, and as many more where the next one would be
pub places_append : (c d : ℕ) (x t : ℤ) → places x (c + d) t ≡ places x c t ++ places (x +ℤ (pos c *ℤ t)) d t
places_append zero d x t =
    ap (λ n. places x n t) (zero_plus d) ∙
    sym (ap (λ y. places y d t) (ap (λ z. x +ℤ z) (zero-*ℤ t) ∙ +ℤ_idr x))
places_append (suc c) d x t =
    ap (λ n. places x n t) (suc_plus c d) ∙
    (λ i. x ∷ places_append c d (x +ℤ t) t i) ∙
    (λ i. x ∷ (places (x +ℤ t) c t ++ places (next i) d t))
  where
    next : (x +ℤ t) +ℤ (pos c *ℤ t) ≡ x +ℤ (pos (suc c) *ℤ t)
    next = step_along x (pos c *ℤ t) t ∙ ap (λ z. x +ℤ z) (sym (times_suc c t))

-- rows that touch are one row
pub rows_copied : (a : ℤ) (n : ℕ) (b : ℤ) (c : ℕ) (t : ℤ) →
    copied_numbers (places a n (pos c *ℤ t)) (places b c t) ≡ places (a +ℤ b) (n * c) t
rows_copied a zero b c t = ap (λ n. places (a +ℤ b) n t) (no_times c)
rows_copied a (suc n) b c t =
    (λ i. places_moved a b c t i ++ rows_copied (a +ℤ (pos c *ℤ t)) n b c t i) ∙
    (λ i. places (a +ℤ b) c t ++ places (swap_last a b (pos c *ℤ t) i) (n * c) t) ∙
    sym (places_append c (n * c) (a +ℤ b) t) ∙ ap (λ n. places (a +ℤ b) n t) (many n c)
  where
    many : (n c : ℕ) → c + n * c ≡ suc n * c
    many n c = omega arith

-- ---- the same of records of places

made_places : (a b : ℤ) (m n : ℕ) (s t : ℤ) → a ≡ b → m ≡ n → s ≡ t → places a m s ≡ places b n t
made_places a b m n s t p q r = λ i. places (p i) (q i) (r i)

pub at_one_place : (p q r : Places) → q.count ≡ 1 → r.at ≡ p.at +ℤ q.at → r.count ≡ p.count → r.stride ≡ p.stride →
    copied_numbers (places_of p) (places_of q) ≡ places_of r
at_one_place p q r one at count stride =
    ap (λ n. copied_numbers (places_of p) (places q.at n q.stride)) one ∙
    one_place_copied p.at p.count p.stride q.at ∙
    sym (made_places r.at (p.at +ℤ q.at) r.count p.count r.stride p.stride at count stride)

pub at_a_single_place : (p q r : Places) → p.count ≡ 1 → r.at ≡ p.at +ℤ q.at → r.count ≡ q.count → r.stride ≡ q.stride →
    copied_numbers (places_of p) (places_of q) ≡ places_of r
at_a_single_place p q r one at count stride =
    ap (λ n. copied_numbers (places p.at n p.stride) (places_of q)) one ∙
    append-nil (moved_numbers p.at (places_of q)) ∙
    places_moved p.at q.at q.count q.stride ∙
    sym (made_places r.at (p.at +ℤ q.at) r.count q.count r.stride q.stride at count stride)

pub in_one_row : (p q r : Places) → p.stride ≡ pos q.count *ℤ q.stride → r.at ≡ p.at +ℤ q.at → r.count ≡ p.count *
    q.count →
    r.stride ≡ q.stride → copied_numbers (places_of p) (places_of q) ≡ places_of r
in_one_row p q r touch at count stride =
    ap (λ s. copied_numbers (places p.at p.count s) (places_of q)) touch ∙
    rows_copied p.at p.count q.at q.count q.stride ∙
    sym (made_places r.at (p.at +ℤ q.at) r.count (p.count * q.count) r.stride q.stride at count stride)
