-- What entries spell: behind one another, as a body, at other places; and their bytes.
use Rattle.std.proofs.Common.{◌≡◌, ℕ, suc, ◌+◌, ◌*◌, ◌≤◌, refl, sym, ◌∙◌, ap, subst, List, [], ◌∷◌, ◌++◌, map}
use Rattle.std.proofs.Common.{length, take, drop, arith}
use Rattle.std.proofs.Math.IntN.{ℤ, pos, ◌+ℤ◌, ◌*ℤ◌, *ℤ-one, one}
use Rattle.std.specs.Prelude.{Result, Ok, Err, IfOk}
use Rattle.std.proofs.lemmas.Int.{ints}
use Rattle.std.proofs.lemmas.List.{map-append, append-nil, take-append-le, drop-append-le, take_all, drop_all}
use Rattle.std.proofs.lemmas.List.{length-append, take-map, drop-map, nil_from_length}
use Rattle.std.proofs.lemmas.List.Concat.{flat_map-append}
use Rattle.type_maps.specs.declared.basic.Basic.{Basic}
use Rattle.type_maps.specs.declared.places.Places.{Places}
use Rattle.type_maps.specs.declared.entry.Body.{Body}
use Rattle.type_maps.specs.declared.entry.Entry.{Entry}
use Rattle.type_maps.specs.declared.entry.Entry.TheVariants.{Elements, Copies}
use Rattle.type_maps.specs.Maps.{Element, one_of, moved, moved_numbers, places, places_of, copied_elements}
use Rattle.type_maps.specs.Maps.{copied_numbers, row, bytes_of}
use Rattle.type_maps.specs.Summaries.{size_of}
use Rattle.type_maps.specs.Entries.{all_of, places_in, with_places, placed_by, behind, spelled, IsBody, IsRight}
use Rattle.type_maps.specs.Entries.{IsClosed, IsWhole, Spells}
use Rattle.type_maps.specs.Entries.{bytes_placed, bytes_spelled, EntriesHaveBytes}
use Rattle.type_maps.proofs.PlaceLaws.{copies_of_copies, places_moved, rows_copied}

-- ---- entries behind one another

abbrev headed : List Element → List (List Element) → List (List Element)
headed x xs = x ∷ xs

spelled_append : (p q : List Entry) → IsClosed p → spelled (p ++ q) ≡ spelled p ++ spelled q
spelled_append [] q c = refl
spelled_append (Elements b at ∷ es) q c =
    ap (λ xs. headed (copied_elements (places_of at) (one_of b)) xs) (spelled_append es q c.1)
spelled_append (Copies body at ∷ es) q c =
    (λ t. copied_elements (places_of at) (all_of (take body.items (spelled_append es q c.1 t))) ∷
    drop body.items (spelled_append es q c.1 t)) ∙
    (λ t. copied_elements (places_of at) (all_of (take-append-le body.items (spelled es) (spelled q) c.0.within t)) ∷
    drop-append-le body.items (spelled es) (spelled q) c.0.within t)

body_append : (body : Body) (xs ys : List (List Element)) → IsBody body xs → IsBody body (xs ++ ys)
body_append body xs ys h = record {
  within = longer body.items (length xs) (length ys) (length (xs ++ ys)) h.within (length-append xs ys);
  length_is = h.length_is ∙ sym (ap (λ zs. size_of (all_of zs)) (take-append-le body.items xs ys h.within));
  elements_is = h.elements_is ∙ sym (ap (λ zs. length (all_of zs)) (take-append-le body.items xs ys h.within));
}
  where
    longer : (k m n o : ℕ) → k ≤ m → o ≡ m + n → k ≤ o
    longer k m n o h e = omega arith

closed_append : (p q : List Entry) → IsClosed p → IsClosed q → IsClosed (p ++ q)
closed_append [] q c d = d
closed_append (Elements b at ∷ es) q c d = (tt, closed_append es q c.1 d)
closed_append (Copies body at ∷ es) q c d = (
  subst (λ xs. IsBody body xs) (sym (spelled_append es q c.1)) (body_append body (spelled es) (spelled q) c.0),
  closed_append es q c.1 d,
)

all_append : (xs ys : List (List Element)) → all_of (xs ++ ys) ≡ all_of xs ++ all_of ys
all_append xs ys = flat_map-append (λ x. x) xs ys

pub spells_append : (p q : List Entry) (i j : ℕ) (d e : List Element) → Spells p i d → Spells q j e →
    Spells (p ++ q) (i + j) (d ++ e)
spells_append p q i j d e h k = record {
  closed = closed_append p q h.closed k.closed;
  items_is = ap length (spelled_append p q h.closed) ∙ length-append (spelled p) (spelled q) ∙
      (λ t. h.items_is t + k.items_is t);
  elements_is = ap all_of (spelled_append p q h.closed) ∙ all_append (spelled p) (spelled q) ∙
      (λ t. h.elements_is t ++ k.elements_is t);
}

pub spells_nothing : Spells [] 0 []
spells_nothing = record { closed = tt; items_is = refl; elements_is = refl }

pub spells_basic : (b : Basic) (s : ℤ) → Spells (Elements b (record { at = pos 0; count = 1; stride = s }) ∷ []) 1
    (one_of b)
spells_basic b s = record { closed = (tt, tt); items_is = refl; elements_is = refl }

-- ---- an entry in front of its body

all_taken : (xs : List (List Element)) (k : ℕ) → length xs ≡ k → take k xs ≡ xs
all_taken xs k e = let h : length xs ≤ k = omega (arith, e) in take_all k xs h

none_left : (xs : List (List Element)) (k : ℕ) → length xs ≡ k → drop k xs ≡ []
none_left xs k e = let h : length xs ≤ k = omega (arith, e) in drop_all k xs h

pub spells_copies : (old : List Entry) (k : ℕ) (e : List Element) (p : Places) (body : Body) → Spells old k e →
    body.items ≡ k → body.length ≡ size_of e → body.elements ≡ length e →
    Spells (Copies body p ∷ old) 1 (copied_elements (places_of p) e)
spells_copies old k e p body h items size elements = record {
  closed = (
    record {
      within = most (length (spelled old)) k body.items h.items_is items;
      length_is = size ∙ ap size_of whole;
      elements_is = elements ∙ ap length whole;
    },
    h.closed,
  );
  items_is = ap (λ xs. suc (length xs)) none;
  elements_is =
      (λ t. copied_elements (places_of p) (sym whole t) ++ all_of (none t)) ∙ append-nil
      (copied_elements (places_of p) e);
}
  where
    most : (l k i : ℕ) → l ≡ k → i ≡ k → i ≤ l
    most l k i a b = omega arith

    same : length (spelled old) ≡ body.items
    same = h.items_is ∙ sym items

    whole : e ≡ all_of (take body.items (spelled old))
    whole = sym (ap all_of (all_taken (spelled old) body.items same) ∙ h.elements_is)

    none : drop body.items (spelled old) ≡ []
    none = none_left (spelled old) body.items same

-- ---- one item at other places

same_body : (r : Places) (e : Entry) (xs : List (List Element)) → placed_by (with_places r e) xs ≡ placed_by e xs
same_body r (Elements b p) xs = refl
same_body r (Copies body p) xs = refl

same_behind : (r : Places) (e : Entry) (xs : List (List Element)) → behind (with_places r e) xs ≡ behind e xs
same_behind r (Elements b p) xs = refl
same_behind r (Copies body p) xs = refl

same_right : (r : Places) (e : Entry) (xs : List (List Element)) → IsRight e xs → IsRight (with_places r e) xs
same_right r (Elements b p) xs h = h
same_right r (Copies body p) xs h = h

new_places : (r : Places) (e : Entry) → places_in (with_places r e) ≡ r
new_places r (Elements b p) = refl
new_places r (Copies body p) = refl

pub spells_elsewhere : (e : Entry) (rest : List Entry) (es : List Element) (p r : Places) → Spells (e ∷ rest) 1 es →
    copied_numbers (places_of p) (places_of (places_in e)) ≡ places_of r →
    Spells (with_places r e ∷ rest) 1 (copied_elements (places_of p) es)
spells_elsewhere e rest es p r h same = record {
  closed = (same_right r e (spelled rest) h.closed.0, h.closed.1);
  items_is = ap (λ xs. suc (length xs)) (same_behind r e (spelled rest)) ∙ h.items_is;
  elements_is =
      (λ t. copied_elements (places_of (new_places r e t)) (same_body r e (spelled rest) t) ++
      all_of (same_behind r e (spelled rest) t)) ∙
      (λ t. copied_elements (places_of r) inside ++ all_of (none t)) ∙
      append-nil (copied_elements (places_of r) inside) ∙
      sym (copies_of_copies (places_of p) (places_of (places_in e)) inside ∙ ap (λ ps. copied_elements ps inside)
      same) ∙
      ap (λ xs. copied_elements (places_of p) xs) here;
}
  where
    inside : List Element
    inside = placed_by e (spelled rest)

    short : (n : ℕ) → suc n ≡ 1 → n ≡ 0
    short n h = omega arith

    none : behind e (spelled rest) ≡ []
    none = nil_from_length (behind e (spelled rest)) (short (length (behind e (spelled rest))) h.items_is)

    here : copied_elements (places_of (places_in e)) inside ≡ es
    here = sym (append-nil (copied_elements (places_of (places_in e)) inside)) ∙
        (λ t. copied_elements (places_of (places_in e)) inside ++ all_of (sym none t)) ∙ h.elements_is

-- ---- bytes

pub bytes_append : (xs ys : List Element) → bytes_of (xs ++ ys) ≡ bytes_of xs ++ bytes_of ys
bytes_append xs ys = flat_map-append (λ (e : Element). row e.at e.basic.size) xs ys

map_numbers_append : (a : ℤ) (xs ys : List ℤ) → moved_numbers a (xs ++ ys) ≡ moved_numbers a xs ++ moved_numbers a ys
map_numbers_append a xs ys = map-append (λ x. a +ℤ x) xs ys

bytes_moved : (a : ℤ) (es : List Element) → bytes_of (moved a es) ≡ moved_numbers a (bytes_of es)
bytes_moved a [] = refl
bytes_moved a (e ∷ es) =
    (λ t. sym (places_moved a e.at e.basic.size (pos 1)) t ++ bytes_moved a es t) ∙
    sym (map_numbers_append a (row e.at e.basic.size) (bytes_of es))

pub bytes_copied : (ps : List ℤ) (es : List Element) → bytes_of (copied_elements ps es) ≡ copied_numbers ps (bytes_of es)
bytes_copied [] es = refl
bytes_copied (p ∷ ps) es =
    bytes_append (moved p es) (copied_elements ps es) ∙ (λ t. bytes_moved p es t ++ bytes_copied ps es t)

bytes_all : (xss : List (List Element)) → bytes_of (all_of xss) ≡ all_of (map bytes_of xss)
bytes_all [] = refl
bytes_all (xs ∷ xss) = bytes_append xs (all_of xss) ∙ ap (λ ys. bytes_of xs ++ ys) (bytes_all xss)

bytes_inside : (e : Entry) (xss : List (List Element)) → bytes_placed e (map bytes_of xss) ≡ bytes_of (placed_by e xss)
bytes_inside (Elements b p) xss = sym (append-nil (row (pos 0) b.size))
bytes_inside (Copies body p) xss =
    ap (all_of {X = ℤ}) (take-map bytes_of body.items xss) ∙ sym (bytes_all (take body.items xss))

bytes_behind : (e : Entry) (xss : List (List Element)) → behind e (map bytes_of xss) ≡ map bytes_of (behind e xss)
bytes_behind (Elements b p) xss = refl
bytes_behind (Copies body p) xss = drop-map bytes_of body.items xss

bytes_same : (entries : List Entry) → bytes_spelled entries ≡ map bytes_of (spelled entries)
bytes_same [] = refl
bytes_same (e ∷ es) =
    (λ t. copied_numbers (places_of (places_in e)) (bytes_placed e (bytes_same es t)) ∷ behind e (bytes_same es t)) ∙
    (λ t. copied_numbers (places_of (places_in e)) (bytes_inside e (spelled es) t) ∷ bytes_behind e (spelled es) t) ∙
    (λ t. sym (bytes_copied (places_of (places_in e)) (placed_by e (spelled es))) t ∷
    map bytes_of (behind e (spelled es)))

once : (m : ℤ) → m ≡ m *ℤ pos 1
unfolding one
once m = sym (*ℤ-one m)

pub entries_have_bytes : EntriesHaveBytes
entries_have_bytes = record {
  committed = λ m entries items h.
      ap (all_of {X = ℤ}) (bytes_same entries) ∙ sym (bytes_all (spelled entries)) ∙ ap bytes_of h.elements_is;
  one_row = λ at count size.
      (λ t. copied_numbers (places at count (once (pos size) t)) (row (pos 0) size)) ∙
      rows_copied at count (pos 0) size (pos 1) ∙ (λ t. row (at_zero at t) (count * size));
}
  where
    at_zero : (at : ℤ) → at +ℤ pos 0 ≡ at
    at_zero at = omega (arith, ints)

-- ---- what the code appends

pub at_other_places : (old : List Entry) (first e : Entry) (rest : List Entry) (items : ℕ) (p q r : Places) →
    old ≡ first ∷ rest → items ≡ 1 → q ≡ places_in first →
    copied_numbers (places_of p) (places_of q) ≡ places_of r → e ≡ with_places r first →
    (es : List Element) → Spells old items es → Spells (e ∷ rest) 1 (copied_elements (places_of p) es)
at_other_places old first e rest items p q r oi ii qi same ei es h =
    subst (λ (x : Entry). Spells (x ∷ rest) 1 (copied_elements (places_of p) es)) (sym ei)
    (spells_elsewhere first rest es p r
    (subst (λ (k : ℕ). Spells (first ∷ rest) k es) ii (subst (λ (xs : List Entry). Spells xs items es) oi h))
    (subst (λ (x : Places). copied_numbers (places_of p) (places_of x) ≡ places_of r) qi same))

spells_appended : (old new more : List Entry) (i : ℕ) (d e : List Element) → Spells old i d → Spells more 1 e →
    new ≡ old ++ more → Spells new (i + 1) (d ++ e)
spells_appended old new more i d e h k is =
    subst (λ (xs : List Entry). Spells xs (i + 1) (d ++ e)) (sym is) (spells_append old more i 1 d e h k)

-- where an answer is good, what follows from what it says
pub on_good : {T E : Type 0} (r : Result T E) (P Q : Type 0) → (P → Q) → IfOk r (λ _. P) → IfOk r (λ _. Q)
on_good (Ok x) P Q f h = f h
on_good (Err e) P Q f h = h

pub append_answer : {E : Type 0} (r : Result (Unit {0}) E) (old new more : List Entry) (i : ℕ) (d e : List Element) →
    Spells old i d → Spells more 1 e → IfOk r (λ _. new ≡ old ++ more) → IfOk r (λ _. Spells new (i + 1) (d ++ e))
append_answer r old new more i d e h k is =
    on_good r (new ≡ old ++ more) (Spells new (i + 1) (d ++ e)) (spells_appended old new more i d e h k) is

pub whole_copied : (body : Body) (old : List Entry) (es : List Element) (p : Places) → IsWhole body old es →
    Spells (Copies body p ∷ old) 1 (copied_elements (places_of p) es)
whole_copied body old es p w = spells_copies old body.items es p body w.spells refl w.length_is w.elements_is

copies_of_none : (ps : List ℤ) → copied_elements ps [] ≡ []
copies_of_none [] = refl
copies_of_none (p ∷ ps) = copies_of_none ps

pub none_appended : (entries old : List Entry) (i k : ℕ) (d es : List Element) (ps : List ℤ) → old ≡ [] → Spells old k
    es →
    Spells entries i d → Spells entries i (d ++ copied_elements ps es)
none_appended entries old i k d es ps empty h s =
    subst (λ (xs : List Element). Spells entries i xs) (sym (ap (λ xs. d ++ xs) gone ∙ append-nil d)) s
  where
    no_element : [] ≡ es
    no_element = sym (ap (λ xs. all_of (spelled xs)) empty) ∙ h.elements_is

    gone : copied_elements ps es ≡ []
    gone = ap (λ xs. copied_elements ps xs) (sym no_element) ∙ copies_of_none ps
