-- What a map is told by: of joined maps, and of copies.
use Rattle.std.proofs.Common.{◌≡◌, ℕ, zero, suc, ◌+◌, ◌-◌, ◌<◌, ◌*◌, ◌==◌, max, refl, sym, ◌∙◌, ap, subst, Bool, true}
use Rattle.std.proofs.Common.{false, cond, Option, None, Some, ◌⊎◌, inl, inr, List, [], ◌∷◌, ◌++◌, length, arith}
use Rattle.std.proofs.Common.{eq-eqb}
use Rattle.std.proofs.Math.IntN.{ℤ, pos, negsuc, ◌+ℤ◌, ◌*ℤ◌, +ℤ_assoc, zero-*ℤ, pos-*ℤ-pos, pos-*ℤ-negsuc}
use Rattle.std.proofs.Math.IntN.{neg_ℤ}
use Rattle.std.specs.Prelude.{◌≤ℤ◌}
use Rattle.std.specs.Int.{int_min, int_max}
use Rattle.std.proofs.lemmas.Int.{ints, clamps}
use Rattle.std.proofs.lemmas.List.{append-nil, length-append, length-map}
use Rattle.type_maps.specs.declared.places.Places.{Places}
use Rattle.type_maps.specs.declared.places.Span.{Span}
use Rattle.type_maps.specs.declared.summary.Summary.{Summary}
use Rattle.type_maps.specs.declared.summary.Content.{Content}
use Rattle.type_maps.specs.declared.summary.Content.TheVariants.{Nothing, One, Mixed}
use Rattle.type_maps.specs.Maps.{Element, Map, moved, moved_numbers, copied_elements, copied_numbers, places}
use Rattle.type_maps.specs.Maps.{places_of, joined, copied}
use Rattle.type_maps.specs.Summaries.{lesser, greater, least, greatest, joined_spans, span_of, size_of, alignment_of}
use Rattle.type_maps.specs.Summaries.{joined_content, content_of, summary_of, joined_summaries, hull, raised}
use Rattle.type_maps.specs.Summaries.{spread_span, spread, copied_summary}
use Rattle.type_maps.proofs.PlaceLaws.{times_suc}

-- ---- two maps

min_assoc : (a b c : ℤ) → int_min a (int_min b c) ≡ int_min (int_min a b) c
min_assoc a b c = omega (arith, ints, clamps)

max_assoc : (a b c : ℤ) → int_max a (int_max b c) ≡ int_max (int_max a b) c
max_assoc a b c = omega (arith, ints, clamps)

lesser_assoc : (x y z : Option ℤ) → lesser x (lesser y z) ≡ lesser (lesser x y) z
lesser_assoc None y z = refl
lesser_assoc (Some x) None z = refl
lesser_assoc (Some x) (Some y) None = refl
lesser_assoc (Some x) (Some y) (Some z) = λ t. Some (min_assoc x y z t)

greater_assoc : (x y z : Option ℤ) → greater x (greater y z) ≡ greater (greater x y) z
greater_assoc None y z = refl
greater_assoc (Some x) None z = refl
greater_assoc (Some x) (Some y) None = refl
greater_assoc (Some x) (Some y) (Some z) = λ t. Some (max_assoc x y z t)

spans_assoc : (x y z : Option Span) → joined_spans x (joined_spans y z) ≡ joined_spans (joined_spans x y) z
spans_assoc None y z = refl
spans_assoc (Some x) None z = refl
spans_assoc (Some x) (Some y) None = refl
spans_assoc (Some x) (Some y) (Some z) = λ t. Some (record {
  lower = min_assoc x.lower y.lower z.lower t;
  upper = max_assoc x.upper y.upper z.upper t;
})

content_assoc : (x y z : Content) → joined_content x (joined_content y z) ≡ joined_content (joined_content x y) z
content_assoc Nothing y z = refl
content_assoc (One a) Nothing z = refl
content_assoc (One a) Mixed z = refl
content_assoc Mixed y z = refl
content_assoc (One a) (One b) Nothing = go (a == b)
  where
    go : (v : Bool) → cond v (One a) Mixed ≡ joined_content (cond v (One a) Mixed) Nothing
    go true = refl
    go false = refl
content_assoc (One a) (One b) Mixed = go (a == b)
  where
    go : (v : Bool) → Mixed ≡ joined_content (cond v (One a) Mixed) Mixed
    go true = refl
    go false = refl
content_assoc (One a) (One b) (One c) = go (a == b) refl (b == c) refl
  where
    go : (v : Bool) → (a == b) ≡ v → (w : Bool) → (b == c) ≡ w →
        joined_content (One a) (cond w (One b) Mixed) ≡ joined_content (cond v (One a) Mixed) (One c)
    go true h true k =
        let e : a ≡ b = grind (arith, h) in let f : b ≡ c = grind (arith, k) in
        ap (λ x. cond x (One a) Mixed) (h ∙ sym (eq-eqb a c (e ∙ f)))
    go true h false k =
        let e : a ≡ b = grind (arith, h) in
        ap (λ x. cond x (One a) Mixed) (sym (subst (λ (x : ℕ). (x == c) ≡ false) (sym e) k))
    go false h true k = ap (λ x. cond x (One a) Mixed) h
    go false h false k = refl

least_append : (xs ys : List ℤ) → least (xs ++ ys) ≡ lesser (least xs) (least ys)
least_append [] ys = refl
least_append (x ∷ xs) ys = ap (λ o. lesser (Some x) o) (least_append xs ys) ∙ lesser_assoc (Some x) (least xs)
    (least ys)

greatest_append : (xs ys : List ℤ) → greatest (xs ++ ys) ≡ greater (greatest xs) (greatest ys)
greatest_append [] ys = refl
greatest_append (x ∷ xs) ys =
    ap (λ o. greater (Some x) o) (greatest_append xs ys) ∙ greater_assoc (Some x) (greatest xs) (greatest ys)

span_append : (xs ys : List Element) → span_of (xs ++ ys) ≡ joined_spans (span_of xs) (span_of ys)
span_append [] ys = refl
span_append (x ∷ xs) ys =
    ap (λ o. joined_spans (Some (record { lower = x.at; upper = x.at +ℤ pos x.basic.size })) o) (span_append xs ys) ∙
    spans_assoc (Some (record { lower = x.at; upper = x.at +ℤ pos x.basic.size })) (span_of xs) (span_of ys)

plus_assoc : (a b c : ℕ) → a + (b + c) ≡ a + b + c
plus_assoc a b c = omega arith

zero_plus : (d : ℕ) → d ≡ 0 + d
zero_plus d = omega arith

pub size_append : (xs ys : List Element) → size_of (xs ++ ys) ≡ size_of xs + size_of ys
size_append [] ys = zero_plus (size_of ys)
size_append (x ∷ xs) ys =
    ap (λ n. x.basic.size + n) (size_append xs ys) ∙ plus_assoc x.basic.size (size_of xs) (size_of ys)

most_assoc : (a b c : ℕ) → max a (max b c) ≡ max (max a b) c
most_assoc a b c = omega arith

alignment_some : (xs : List Element) → alignment_of xs ≡ max 1 (alignment_of xs)
alignment_some [] = refl
alignment_some (x ∷ xs) = above x.basic.alignment (alignment_of xs) (alignment_some xs)
  where
    above : (a b : ℕ) → b ≡ max 1 b → max a b ≡ max 1 (max a b)
    above a b h = omega arith

alignment_append : (xs ys : List Element) → alignment_of (xs ++ ys) ≡ max (alignment_of xs) (alignment_of ys)
alignment_append [] ys = alignment_some ys
alignment_append (x ∷ xs) ys =
    ap (λ n. max x.basic.alignment n) (alignment_append xs ys) ∙
    most_assoc x.basic.alignment (alignment_of xs) (alignment_of ys)

content_append : (xs ys : List Element) → content_of (xs ++ ys) ≡ joined_content (content_of xs) (content_of ys)
content_append [] ys = refl
content_append (x ∷ xs) ys =
    ap (λ c. joined_content (One x.basic.code) c) (content_append xs ys) ∙
    content_assoc (One x.basic.code) (content_of xs) (content_of ys)

pub summary_joined : (m n : Map) → summary_of (joined m n) ≡ joined_summaries (summary_of m) (summary_of n)
summary_joined m n = λ t. record {
  size = size_append m.elements n.elements t;
  elements = length-append m.elements n.elements t;
  span = span_append m.elements n.elements t;
  lower_mark = least_append m.lower_marks n.lower_marks t;
  upper_mark = greatest_append m.upper_marks n.upper_marks t;
  alignment = alignment_append m.elements n.elements t;
  content = content_append m.elements n.elements t;
}

-- ---- moved

raised_lesser : (a : ℤ) (x y : Option ℤ) → raised a (lesser x y) ≡ lesser (raised a x) (raised a y)
raised_lesser a None y = refl
raised_lesser a (Some x) None = refl
raised_lesser a (Some x) (Some y) = λ t. Some (low a x y t)
  where
    low : (a x y : ℤ) → a +ℤ int_min x y ≡ int_min (a +ℤ x) (a +ℤ y)
    low a x y = omega (arith, ints, clamps)

raised_greater : (a : ℤ) (x y : Option ℤ) → raised a (greater x y) ≡ greater (raised a x) (raised a y)
raised_greater a None y = refl
raised_greater a (Some x) None = refl
raised_greater a (Some x) (Some y) = λ t. Some (high a x y t)
  where
    high : (a x y : ℤ) → a +ℤ int_max x y ≡ int_max (a +ℤ x) (a +ℤ y)
    high a x y = omega (arith, ints, clamps)

least_moved : (a : ℤ) (xs : List ℤ) → least (moved_numbers a xs) ≡ raised a (least xs)
least_moved a [] = refl
least_moved a (x ∷ xs) =
    ap (λ o. lesser (Some (a +ℤ x)) o) (least_moved a xs) ∙ sym (raised_lesser a (Some x) (least xs))

greatest_moved : (a : ℤ) (xs : List ℤ) → greatest (moved_numbers a xs) ≡ raised a (greatest xs)
greatest_moved a [] = refl
greatest_moved a (x ∷ xs) =
    ap (λ o. greater (Some (a +ℤ x)) o) (greatest_moved a xs) ∙ sym (raised_greater a (Some x) (greatest xs))

abbrev here : ℤ → Span
here a = record { lower = a; upper = a }

spread_joined : (a : ℤ) (x y : Option Span) →
    spread_span (here a) (joined_spans x y) ≡ joined_spans (spread_span (here a) x) (spread_span (here a) y)
spread_joined a None y = refl
spread_joined a (Some x) None = refl
spread_joined a (Some x) (Some y) = λ t. Some (record {
  lower = low a x.lower y.lower t;
  upper = high a x.upper
      y.upper t;
})
  where
    low : (a x y : ℤ) → a +ℤ int_min x y ≡ int_min (a +ℤ x) (a +ℤ y)
    low a x y = omega (arith, ints, clamps)

    high : (a x y : ℤ) → a +ℤ int_max x y ≡ int_max (a +ℤ x) (a +ℤ y)
    high a x y = omega (arith, ints, clamps)

span_moved : (a : ℤ) (es : List Element) → span_of (moved a es) ≡ spread_span (here a) (span_of es)
span_moved a [] = refl
span_moved a (e ∷ es) =
    (λ t. joined_spans (Some (record { lower = a +ℤ e.at; upper = +ℤ_assoc a e.at (pos e.basic.size) t }))
    (span_moved a es t)) ∙
    sym (spread_joined a (Some (record { lower = e.at; upper = e.at +ℤ pos e.basic.size })) (span_of es))

pub size_moved : (a : ℤ) (es : List Element) → size_of (moved a es) ≡ size_of es
size_moved a [] = refl
size_moved a (e ∷ es) = ap (λ n. e.basic.size + n) (size_moved a es)

alignment_moved : (a : ℤ) (es : List Element) → alignment_of (moved a es) ≡ alignment_of es
alignment_moved a [] = refl
alignment_moved a (e ∷ es) = ap (λ n. max e.basic.alignment n) (alignment_moved a es)

content_moved : (a : ℤ) (es : List Element) → content_of (moved a es) ≡ content_of es
content_moved a [] = refl
content_moved a (e ∷ es) = ap (λ c. joined_content (One e.basic.code) c) (content_moved a es)

-- ---- copies

-- so many strides go the way of the stride
way : (k : ℕ) (s : ℤ) → ((pos 0 ≤ℤ s) × (pos 0 ≤ℤ (pos k *ℤ s))) ⊎ ((s ≤ℤ pos 0) × ((pos k *ℤ s) ≤ℤ pos 0))
way k (pos n) = inl (omega (arith, ints), subst (λ (z : ℤ). pos 0 ≤ℤ z) (sym (pos-*ℤ-pos k n)) (omega (arith, ints)))
way k (negsuc n) = inr (
  omega (arith, ints),
  subst (λ (z : ℤ). z ≤ℤ pos 0) (sym (pos-*ℤ-negsuc k n)) (negated (k * suc n)),
)
  where
    negated : (n : ℕ) → neg_ℤ (pos n) ≤ℤ pos 0
    negated n = omega (arith, ints)

low_over : (a s w v l : ℤ) → v ≡ w +ℤ s →
    ((pos 0 ≤ℤ s) × (pos 0 ≤ℤ w)) ⊎ ((s ≤ℤ pos 0) × (w ≤ℤ pos 0)) →
    int_min (a +ℤ l) (int_min (a +ℤ s) ((a +ℤ s) +ℤ w) +ℤ l) ≡ int_min a (a +ℤ v) +ℤ l
low_over a s w v l e (inl h) = let p = h.0 in let q = h.1 in omega (arith, ints, clamps)
low_over a s w v l e (inr h) = let p = h.0 in let q = h.1 in omega (arith, ints, clamps)

high_over : (a s w v l : ℤ) → v ≡ w +ℤ s →
    ((pos 0 ≤ℤ s) × (pos 0 ≤ℤ w)) ⊎ ((s ≤ℤ pos 0) × (w ≤ℤ pos 0)) →
    int_max (a +ℤ l) (int_max (a +ℤ s) ((a +ℤ s) +ℤ w) +ℤ l) ≡ int_max a (a +ℤ v) +ℤ l
high_over a s w v l e (inl h) = let p = h.0 in let q = h.1 in omega (arith, ints, clamps)
high_over a s w v l e (inr h) = let p = h.0 in let q = h.1 in omega (arith, ints, clamps)

abbrev lowest : ℤ → ℕ → ℤ → ℤ
lowest a k s = int_min a (a +ℤ (pos k *ℤ s))

abbrev highest : ℤ → ℕ → ℤ → ℤ
highest a k s = int_max a (a +ℤ (pos k *ℤ s))

alone_low : (a s : ℤ) → a ≡ lowest a 0 s
alone_low a s = let e = zero-*ℤ s in at (pos 0 *ℤ s) e
  where
    at : (w : ℤ) → w ≡ pos 0 → a ≡ int_min a (a +ℤ w)
    at w e = omega (arith, ints, clamps)

alone_high : (a s : ℤ) → a ≡ highest a 0 s
alone_high a s = let e = zero-*ℤ s in at (pos 0 *ℤ s) e
  where
    at : (w : ℤ) → w ≡ pos 0 → a ≡ int_max a (a +ℤ w)
    at w e = omega (arith, ints, clamps)

least_copied : (k : ℕ) (a s : ℤ) (xs : List ℤ) →
    least (copied_numbers (places a (suc k) s) xs) ≡ raised (lowest a k s) (least xs)
least_copied zero a s xs =
    ap least (append-nil (moved_numbers a xs)) ∙ least_moved a xs ∙ ap (λ x. raised x (least xs)) (alone_low a s)
least_copied (suc k) a s xs =
    least_append (moved_numbers a xs) (copied_numbers (places (a +ℤ s) (suc k) s) xs) ∙
    (λ t. lesser (least_moved a xs t) (least_copied k (a +ℤ s) s xs t)) ∙ go (least xs)
  where
    go : (o : Option ℤ) → lesser (raised a o) (raised (lowest (a +ℤ s) k s) o) ≡ raised (lowest a (suc k) s) o
    go None = refl
    go (Some l) = λ t. Some (low_over a s (pos k *ℤ s) (pos (suc k) *ℤ s) l (times_suc k s) (way k s) t)

greatest_copied : (k : ℕ) (a s : ℤ) (xs : List ℤ) →
    greatest (copied_numbers (places a (suc k) s) xs) ≡ raised (highest a k s) (greatest xs)
greatest_copied zero a s xs =
    ap greatest (append-nil (moved_numbers a xs)) ∙ greatest_moved a xs ∙ ap (λ x. raised x (greatest xs))
    (alone_high a s)
greatest_copied (suc k) a s xs =
    greatest_append (moved_numbers a xs) (copied_numbers (places (a +ℤ s) (suc k) s) xs) ∙
    (λ t. greater (greatest_moved a xs t) (greatest_copied k (a +ℤ s) s xs t)) ∙ go (greatest xs)
  where
    go : (o : Option ℤ) → greater (raised a o) (raised (highest (a +ℤ s) k s) o) ≡ raised (highest a (suc k) s) o
    go None = refl
    go (Some l) = λ t. Some (high_over a s (pos k *ℤ s) (pos (suc k) *ℤ s) l (times_suc k s) (way k s) t)

span_copied : (k : ℕ) (a s : ℤ) (es : List Element) →
    span_of (copied_elements (places a (suc k) s) es) ≡ spread_span (hull a k s) (span_of es)
span_copied zero a s es =
    ap span_of (append-nil (moved a es)) ∙ span_moved a es ∙
    (λ t. spread_span (record { lower = alone_low a s t; upper = alone_high a s t }) (span_of es))
span_copied (suc k) a s es =
    span_append (moved a es) (copied_elements (places (a +ℤ s) (suc k) s) es) ∙
    (λ t. joined_spans (span_moved a es t) (span_copied k (a +ℤ s) s es t)) ∙ go (span_of es)
  where
    go : (o : Option Span) →
        joined_spans (spread_span (here a) o) (spread_span (hull (a +ℤ s) k s) o) ≡ spread_span (hull a (suc k) s) o
    go None = refl
    go (Some d) = λ t. Some (record {
      lower = low_over a s (pos k *ℤ s) (pos (suc k) *ℤ s) d.lower (times_suc k s) (way k s) t;
      upper = high_over a s (pos k *ℤ s) (pos (suc k) *ℤ s) d.upper (times_suc k s) (way k s) t;
    })

one_more : (k n : ℕ) → n + k * n ≡ suc k * n
one_more k n = omega arith

none_of : (n : ℕ) → 0 ≡ 0 * n
none_of n = omega arith

pub size_copied : (k : ℕ) (a s : ℤ) (es : List Element) → size_of (copied_elements (places a k s) es) ≡ k * size_of es
size_copied zero a s es = none_of (size_of es)
size_copied (suc k) a s es =
    size_append (moved a es) (copied_elements (places (a +ℤ s) k s) es) ∙
    (λ t. size_moved a es t + size_copied k (a +ℤ s) s es t) ∙ one_more k (size_of es)

pub length_copied : (k : ℕ) (a s : ℤ) (es : List Element) → length (copied_elements (places a k s) es) ≡ k * length es
length_copied zero a s es = none_of (length es)
length_copied (suc k) a s es =
    length-append (moved a es) (copied_elements (places (a +ℤ s) k s) es) ∙
    (λ t. length-map {B = Element} es (λ (e : Element). record { basic = e.basic; at = a +ℤ e.at }) t + length_copied
    k (a +ℤ s) s es t) ∙
    one_more k (length es)

alignment_copied : (k : ℕ) (a s : ℤ) (es : List Element) →
    alignment_of (copied_elements (places a (suc k) s) es) ≡ alignment_of es
alignment_copied zero a s es = ap alignment_of (append-nil (moved a es)) ∙ alignment_moved a es
alignment_copied (suc k) a s es =
    alignment_append (moved a es) (copied_elements (places (a +ℤ s) (suc k) s) es) ∙
    (λ t. max (alignment_moved a es t) (alignment_copied k (a +ℤ s) s es t)) ∙ twice (alignment_of es)
  where
    twice : (n : ℕ) → max n n ≡ n
    twice n = omega arith

content_copied : (k : ℕ) (a s : ℤ) (es : List Element) →
    content_of (copied_elements (places a (suc k) s) es) ≡ content_of es
content_copied zero a s es = ap content_of (append-nil (moved a es)) ∙ content_moved a es
content_copied (suc k) a s es =
    content_append (moved a es) (copied_elements (places (a +ℤ s) (suc k) s) es) ∙
    (λ t. joined_content (content_moved a es t) (content_copied k (a +ℤ s) s es t)) ∙ twice (content_of es)
  where
    twice : (c : Content) → joined_content c c ≡ c
    twice Nothing = refl
    twice (One a) = ap (λ v. cond v (One a) Mixed) (eq-eqb a a refl)
    twice Mixed = refl

pub summary_copied : (n : ℕ) (a s : ℤ) (m : Map) →
    summary_of (copied (places a n s) m) ≡ copied_summary a n s (summary_of m)
summary_copied zero a s m = refl
summary_copied (suc k) a s m = λ t. record {
  size = size_copied (suc k) a s m.elements t;
  elements = length_copied (suc k) a s m.elements t;
  span = span_copied k a s m.elements t;
  lower_mark = least_copied k a s m.lower_marks t;
  upper_mark = greatest_copied k a s m.upper_marks t;
  alignment = alignment_copied k a s m.elements t;
  content = content_copied k a s m.elements t;
}

-- copies are told by the hull of their places
pub copied_is_spread : (n : ℕ) (a s : ℤ) (t : Summary) → 0 < n → spread (hull a (n - 1) s) n t ≡ copied_summary a n s t
copied_is_spread zero a s t h = absurd (omega (arith, h))
copied_is_spread (suc k) a s t h = ap (λ j. spread (hull a j s) (suc k) t) (one_less k)
  where
    one_less : (k : ℕ) → suc k - 1 ≡ k
    one_less k = omega arith

pub summary_added : (m n : Map) (p : Places) (s t c r : Summary) → s ≡ summary_of m → t ≡ summary_of n →
    c ≡ copied_summary p.at p.count p.stride t → r ≡ joined_summaries s c →
    r ≡ summary_of (joined m (copied (places_of p) n))
summary_added m n p s t c r si ti ci ri =
    ri ∙ (λ i. joined_summaries (si i) (copies i)) ∙ sym (summary_joined m (copied (places_of p) n))
  where
    copies : c ≡ summary_of (copied (places_of p) n)
    copies = ci ∙ ap (copied_summary p.at p.count p.stride) ti ∙ sym (summary_copied p.count p.at p.stride n)

pub copied_told : (n : Map) (p : Places) (t : Summary) → t ≡ summary_of n →
    summary_of (copied (places_of p) n) ≡ copied_summary p.at p.count p.stride t
copied_told n p t is = summary_copied p.count p.at p.stride n ∙ sym (ap (copied_summary p.at p.count p.stride) is)
