-- What numbers and runs stand for once copies were added.
use Rattle.std.proofs.Common.{◌≡◌, ℕ, zero, suc, ◌+◌, refl, sym, ◌∙◌, ap, subst, List, [], ◌∷◌, ◌++◌}
use Rattle.std.proofs.Common.{length, take, arith, inl, inr, Bool, true, false, ◌==◌, if◌then◌else◌}
use Rattle.std.proofs.lemmas.Bool.{ne_eqb}
use Rattle.std.specs.Prelude.{Some, None}
use Rattle.std.proofs.Math.IntN.{ℤ, pos, ◌+ℤ◌, ◌*ℤ◌}
use Rattle.std.proofs.lemmas.Int.{ints}
use Rattle.std.proofs.lemmas.List.{append-nil, length-append, nil_from_length}
use Rattle.type_maps.specs.declared.places.Places.{Places}
use Rattle.type_maps.specs.Maps.{Element, Map, bytes_of, copied, copied_elements, copied_numbers, joined, moved_numbers}
use Rattle.type_maps.specs.Maps.{no_elements, places, places_of, row}
use Rattle.type_maps.specs.Summaries.{size_of, summary_of}
use Rattle.type_maps.proofs.EntryLaws.{bytes_append, bytes_copied}
use Rattle.type_runs.specs.declared.adding.Added.{Added}
use Rattle.type_runs.specs.declared.adding.Added.TheVariants as answers
use Rattle.type_runs.specs.declared.records.TypeRecord.{TypeRecord}
use Rattle.type_runs.specs.declared.records.RunRecord.{RunRecord}
use Rattle.type_runs.specs.Making.{AddGives, AddTells, Asked, IsAdded, IsShared, ResizeFits}
use Rattle.type_runs.specs.Making.{number_of, step_in, with_copies}
use Rattle.type_maps.specs.Constructors.{resized}
use Rattle.type_runs.specs.Records.{content_meant, meant}
use Rattle.type_runs.specs.Runs.{Are, Bodies, bytes_of_runs}
use Rattle.type_runs.proofs.RunLaws.{length_places}

pub whole_bytes : (m n : Map) (p : Places) → bytes_of (with_copies m n p).elements ≡ bytes_of m.elements ++
    copied_numbers (places_of p) (bytes_of n.elements)
whole_bytes m n p = bytes_append m.elements (copied_elements (places_of p) n.elements) ∙
    ap (λ xs. bytes_of m.elements ++ xs) (bytes_copied (places_of p) n.elements)

pub bytes_long : (es : List Element) → length (bytes_of es) ≡ size_of es
bytes_long [] = refl
bytes_long (e ∷ es) = length-append (row e.at e.basic.size) (bytes_of es) ∙
    (λ t. length_places e.at e.basic.size (pos 1) t + bytes_long es t)

joined_none : (m : Map) → joined m no_elements ≡ m
joined_none m = λ t. record {
  elements = append-nil m.elements t;
  lower_marks = append-nil m.lower_marks t;
  upper_marks = append-nil m.upper_marks t;
}

-- no copy changes nothing
pub no_copies : (m n : Map) (a s : ℤ) (k : ℕ) → k ≡ 0 → joined m (copied (places a k s) n) ≡ m
no_copies m n a s k none = ap (λ j. joined m (copied (places a j s) n)) none ∙ joined_none m

no_numbers : (ps : List ℤ) → copied_numbers ps [] ≡ []
no_numbers [] = refl
no_numbers (p ∷ ps) = no_numbers ps

-- copies of what has no runs have no bytes
pub without_runs : (bodies : Bodies) (m n : Map) (p : Places) (row runs : List RunRecord) → length runs ≡ 0 → Are bodies
    runs (bytes_of n.elements) → Are bodies row (bytes_of m.elements) → Are bodies row (bytes_of (with_copies m n
    p).elements)
without_runs bodies m n p row runs empty b a = subst (λ (xs : List ℤ). Are bodies row xs) (sym (whole_bytes m n p ∙
    ap (λ xs. bytes_of m.elements ++ xs) (ap (copied_numbers (places_of p)) nothing ∙ no_numbers (places_of p)) ∙
    append-nil (bytes_of m.elements))) a
  where
    nothing : bytes_of n.elements ≡ []
    nothing = sym b.bytes_are ∙ (λ t. bytes_of_runs bodies (nil_from_length runs empty t))

moved_none : (xs : List ℤ) → moved_numbers (pos 0) xs ≡ xs
moved_none [] = refl
moved_none (x ∷ xs) = λ t. zero_plus x t ∷ moved_none xs t
  where
    zero_plus : (x : ℤ) → pos 0 +ℤ x ≡ x
    zero_plus x = omega (arith, ints)

one_copy : (a s : ℤ) (k : ℕ) (xs : List ℤ) → k ≡ 1 → copied_numbers (places a k s) xs ≡ moved_numbers a xs
one_copy a s k xs one = ap (λ j. copied_numbers (places a j s) xs) one ∙ append-nil (moved_numbers a xs)

-- one copy at a place is moved
pub moved_once : (p : Places) (xs : List ℤ) → p.count ≡ 1 → copied_numbers (places_of p) xs ≡ moved_numbers p.at xs
moved_once p xs one = one_copy p.at p.stride p.count xs one

-- one copy at 0 behind nothing has the bytes of what is copied
pub shared_bytes : (bodies : Bodies) (m n : Map) (p : Places) (runs : List RunRecord) (used : ℕ) → used ≡ 0 → p.at ≡ pos
    0 → p.count ≡ 1 → Are bodies (take used runs) (bytes_of m.elements) →
    bytes_of (with_copies m n p).elements ≡ bytes_of
    n.elements
shared_bytes bodies m n p runs used none at one a = whole_bytes m n p ∙
    (λ t. nothing t ++ moved_once p (bytes_of n.elements) one t) ∙
    ap (λ x. moved_numbers x (bytes_of n.elements)) at ∙ moved_none (bytes_of n.elements)
  where
    nothing : bytes_of m.elements ≡ []
    nothing = sym a.bytes_are ∙ ap (λ k. bytes_of_runs bodies (take k runs)) none

-- what is given for copies is given for the same ones that are told in other words
pub add_under : (bodies : Bodies) (fits other : Type 0) (whole same n : Map) (needed : ℕ) (old new : Asked)
    (a : Added) → (other → fits) → whole ≡ same → AddGives bodies fits whole n needed old new a →
    AddGives bodies other same
    n needed old new a
add_under bodies fits other whole same n needed old new answers.Appended f e h =
    subst (λ (x : Map). IsAdded bodies x new) e h
add_under bodies fits other whole same n needed old new answers.Shared f e h =
    subst (λ (x : Map). IsShared x n old new) e h
add_under bodies fits other whole same n needed old new answers.NoRoom f e h = h
add_under bodies fits other whole same n needed old new answers.TooLarge f e h =
    record { same = h.same; why = λ g. h.why (f g) }

pub told : (bodies : Bodies) (fits : Type 0) (whole n : Map) (needed : ℕ) (old new : Asked) (a : Added) →
    AddGives bodies
    fits whole n needed old new a → AddTells bodies fits whole n needed old new (number_of a)
told bodies fits whole n needed old new answers.Appended h = inl (refl, h)
told bodies fits whole n needed old new answers.Shared h = inr (inl (refl, h))
told bodies fits whole n needed old new answers.NoRoom h = inr (inr (inl (refl, h)))
told bodies fits whole n needed old new answers.TooLarge h = inr (inr (inr (refl, h)))

-- one copy has its place alone
pub same_rows : (a s u : ℤ) (k : ℕ) → places a k (step_in k s u) ≡ places a k (s *ℤ u)
same_rows a s u zero = refl
same_rows a s u (suc zero) = refl
same_rows a s u (suc (suc k)) = ap (λ (b : Bool). places a (suc (suc k)) (if b then pos 0 else s *ℤ u)) (not_one k)
  where
    not_one : (k : ℕ) → (suc (suc k) == 1) ≡ false
    not_one k = ne_eqb (suc (suc k)) 1 (λ e. omega (arith, e))

-- both bounds marked anew
pub resized_told : (r s : TypeRecord) (m : Map) (l e : ℤ) → s.size ≡ r.size → s.elements ≡ r.elements → s.true_lower ≡
    r.true_lower → s.true_upper ≡ r.true_upper → s.lower_mark ≡ l → s.upper_mark ≡ l +ℤ e → s.alignment ≡ r.alignment →
    s.kinds ≡ r.kinds → s.kind ≡ r.kind → s.has_data ≡ r.has_data → s.has_lower ≡ true → s.has_upper ≡ true →
    meant r ≡ summary_of m → meant s ≡ summary_of (resized l e m)
resized_told r s m l e size elements lower upper low high alignment kinds kind some has_low has_high h = λ t. record {
  size = (size ∙ (λ i. (h i).size)) t;
  elements = (elements ∙ (λ i. (h i).elements)) t;
  span = ((λ i. if some i then Some (record { lower = lower i; upper = upper i }) else None) ∙ (λ i. (h i).span)) t;
  lower_mark = if has_low t then Some (low t) else None;
  upper_mark = if has_high t then Some (high t) else None;
  alignment = (alignment ∙ (λ i. (h i).alignment)) t;
  content = ((λ i. content_meant (kinds i) (kind i)) ∙ (λ i. (h i).content)) t;
}

pub same_resize : (l c u x y z : ℤ) → l ≡ x → c ≡ y → u ≡ z → ResizeFits l c u → ResizeFits x y z
same_resize l c u x y z p q r f =
    subst (λ (a : ℤ). ResizeFits a y z) p (subst (λ (a : ℤ). ResizeFits l a z) q
    (subst (λ (a : ℤ). ResizeFits l c a) r f))
