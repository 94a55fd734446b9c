-- What is kept beside the notes stays right when a note is looked at, and says what they say.
use Rattle.std.proofs.Common.{◌≡◌, ◌≢◌, ◌≤◌, ◌<◌, ◌+◌, ◌==◌, ℕ, zero, suc, Bool, true, false, ◌&&◌, ◌||◌, List, [], ◌∷◌}
use Rattle.std.proofs.Common.{◌++◌, length, take, drop, set, replicate, get_or, position, slice_get, Option, Some, None}
use Rattle.std.proofs.Common.{if◌then◌else◌, option_map, refl, sym, ap, ◌∙◌, subst, arith, inl, inr}
use Rattle.std.specs.List.{list_all, list_any}
use Rattle.std.proofs.lemmas.Bool.{eqb-true}
use Rattle.std.proofs.lemmas.Bool.Decides.{eqb_tells}
use Rattle.std.proofs.lemmas.List.{length-append, length-replicate, replicate_more, take_all, take_more, take_more_set}
use Rattle.std.proofs.lemmas.List.Folds.{list_all_more, list_any-append}
use Rattle.std.proofs.lemmas.Option.{slice_get_within}
use Rattle.collective_messages.specs.Notes.{differs_in, found_in, have_entered, is_differing, is_entry, is_found}
use Rattle.collective_messages.specs.Notes.{is_known, is_of, member_at, result_place, tells_entry, tells_result}
use Rattle.collective_messages.specs.declared.entry.Inside.{Inside}
use Rattle.collective_messages.specs.declared.note.Note.{Note}
use Rattle.collective_progress.specs.Progress.{AreFirst, IsKept, IsOf, IsProgress, Seen, filled, filled_at, is_that}
use Rattle.collective_progress.specs.Progress.{looked, or_here, slot, unseen}
use Rattle.collective_progress.proofs.Places.{any_behind, any_grows, next, position_front, position_grows}
use Rattle.vocabulary.specs.Endpoints.{is_same}
use Rattle.vocabulary.specs.declared.endpoint.Endpoint.{Endpoint}

-- ---- slots

-- at the place of the first that passes stands one that passes
abbrev Passes : {X : Type 0} → (X → Bool) → Option X → Type 0
Passes p None = ⊥
Passes p (Some x) = p x ≡ true

passes : {X : Type 0} (p : X → Bool) (xs : List X) (s : ℕ) → position p xs ≡ Some s → Passes p (slice_get xs s)
passes p [] s is = absurd cc
passes p (x ∷ xs) s is = by (p x) refl (λ r h. passes p xs r h) (sym (next p x xs) ∙ is)
  where
    by : (t : Bool) → p x ≡ t → ((r : ℕ) → position p xs ≡ Some r → Passes p (slice_get xs r)) →
        (if p x then Some 0 else option_map (λ x. 1 + x) (position p xs)) ≡ Some s
        → Passes p (slice_get (x ∷ xs) s)
    by true e rest h =
        at s (sym (ap (λ (t : Bool). if t then Some 0 else option_map (λ x. 1 + x) (position p xs)) e) ∙ h)
      where
        at : (s : ℕ) → Some 0 ≡ Some s → Passes p (slice_get (x ∷ xs) s)
        at zero g = e
        at (suc n) g = absurd cc
    by false e rest h =
        at (position p xs) refl s
        (sym (ap (λ (t : Bool). if t then Some 0 else option_map (λ x. 1 + x) (position p xs)) e) ∙ h)
      where
        at : (o : Option ℕ) → position p xs ≡ o → (s : ℕ) → option_map (λ x. 1 + x) o ≡ Some s →
            Passes p (slice_get (x ∷ xs) s)
        at None f s g = absurd cc
        at (Some r) f zero g = absurd (omega (arith, some_is g))
          where
            some_is : Some (1 + r) ≡ Some 0 → 1 + r ≡ 0
            some_is h = cc
        at (Some r) f (suc n) g = subst (λ n. Passes p (slice_get xs n)) (same (some_is g)) (rest r f)
          where
            some_is : Some (1 + r) ≡ Some (suc n) → 1 + r ≡ suc n
            some_is h = cc

            same : 1 + r ≡ suc n → r ≡ n
            same h = omega arith

that_one : (r : ℕ) (o : Option ℕ) → Passes (λ x. x == r) o → o ≡ Some r
that_one r None is = absurd is
that_one r (Some x) is = ap (λ (y : ℕ). Some y) (eqb-true x r is)

is_that_one : (r : ℕ) (o : Option ℕ) → is_that r o ≡ true → o ≡ Some r
is_that_one r None is = absurd cc
is_that_one r (Some x) is = ap (λ (y : ℕ). Some y) (eqb-true x r is)

-- the rank stands at its slot
pub slot_holds : (ranks : List ℕ) (r s : ℕ) → slot ranks r ≡ Some s → slice_get ranks s ≡ Some r
slot_holds ranks r s is = by (is_that r (slice_get ranks r)) refl is
  where
    by : (t : Bool) → is_that r (slice_get ranks r) ≡ t → (if t then Some r else position (λ x. x == r) ranks) ≡
        Some s → slice_get ranks s ≡ Some r
    by true e h = subst (λ s. slice_get ranks s ≡ Some r) same (is_that_one r (slice_get ranks r) e)
      where
        same : r ≡ s
        same = cc
    by false e h = that_one r (slice_get ranks s) (passes (λ x. x == r) ranks s h)

-- ---- places

at_set_other : {A : Type 0} (xs : List A) (i : ℕ) (y : A) (j : ℕ) → j ≢ i → slice_get (set xs i y) j ≡ slice_get xs j
at_set_other [] i y j ne = refl
at_set_other (x ∷ xs) zero y zero ne = absurd (ne refl)
at_set_other (x ∷ xs) zero y (suc j) ne = refl
at_set_other (x ∷ xs) (suc i) y zero ne = refl
at_set_other (x ∷ xs) (suc i) y (suc j) ne = at_set_other xs i y j (λ e. ne (ap (λ n. suc n) e))

at_set_here : {A : Type 0} (xs : List A) (i : ℕ) (x y : A) → slice_get xs i ≡ Some x → slice_get (set xs i y) i ≡ Some y
at_set_here [] i x y is = absurd cc
at_set_here (x ∷ xs) zero z y is = refl
at_set_here (x ∷ xs) (suc i) z y is = at_set_here xs i z y is

-- a place that is taken or was
filled_here : (s at : ℕ) (o : Option ℕ) (ps : List (Option ℕ)) → slice_get ps s ≡ Some o →
    slice_get (filled s at (slice_get ps s) ps) s ≡ Some (or_here o true at)
filled_here s at (Some q) ps is = ap (λ (t : Option (Option ℕ)). slice_get (filled s at t ps) s) is ∙ is
filled_here s at None ps is = ap (λ (t : Option (Option ℕ)). slice_get (filled s at t ps) s) is ∙
    at_set_here ps s None (Some at) is

filled_other : (s at j : ℕ) (t : Option (Option ℕ)) (ps : List (Option ℕ)) → j ≢ s → slice_get (filled s at t ps) j ≡
    slice_get ps j
filled_other s at j None ps ne = refl
filled_other s at j (Some None) ps ne = at_set_other ps s (Some at) j ne
filled_other s at j (Some (Some q)) ps ne = refl

same_some : (o : Option ℕ) (r u : ℕ) → o ≡ Some r → o ≡ Some u → r ≡ u
same_some o r u a b = by (sym a ∙ b)
  where
    by : Some r ≡ Some u → r ≡ u
    by h = cc

-- the slot of another rank is as it was
others : (fs : List ℕ) (u r s at : ℕ) (ps : List (Option ℕ)) → r ≢ u → slot fs r ≡ Some s →
    slice_get (filled_at (slot fs u) at ps) s ≡ slice_get ps s
others fs u r s at ps ne is = by (slot fs u) refl
  where
    by : (o : Option ℕ) → slot fs u ≡ o → slice_get (filled_at o at ps) s ≡ slice_get ps s
    by None h = refl
    by (Some v) h = filled_other v at s (slice_get ps v) ps apart
      where
        apart : s ≢ v
        apart e =
            ne (same_some (slice_get fs v) r u (subst (λ v. slice_get fs v ≡ Some r) e (slot_holds fs r s is))
            (slot_holds fs u v h))

-- a note of another sender doesn't tell that a member has entered
tells_other : (c k inc r : ℕ) (n : Note) → r ≢ n.sender.rank → tells_entry c k (member_at inc r) n ≡ false
tells_other c k inc r n ne = by (n.sender.rank == r) refl
  where
    none : (a b d : Bool) → (a && ((false && b) && d)) ≡ false
    none true b d = refl
    none false b d = refl

    by : (t : Bool) → (n.sender.rank == r) ≡ t →
        (is_of c k n && (((n.sender.rank == r) && (n.sender.incarnation == inc)) && is_entry n.said)) ≡ false
    by true h = absurd (ne (sym (eqb-true n.sender.rank r h)))
    by false h = ap (λ (t : Bool). is_of c k n && ((t && (n.sender.incarnation == inc)) && is_entry n.said)) h ∙
        none (is_of c k n) (n.sender.incarnation == inc) (is_entry n.said)

nothing_here : (o : Option ℕ) (at : ℕ) → o ≡ or_here o false at
nothing_here None at = refl
nothing_here (Some q) at = refl

-- the place of a rank once one more note was looked at
place_grows : (u r s at : ℕ) (fs : List ℕ) (ps : List (Option ℕ)) (o : Option ℕ) (mine told : Bool)
    → (r ≡ u → mine ≡ told) → (r ≢ u → mine ≡ false)
    → slot fs r ≡ Some s → slice_get ps s ≡ Some o
    → slice_get (if told then filled_at (slot fs u) at ps else ps) s ≡ Some (or_here o mine at)
place_grows u r s at fs ps o mine told same other is place =
    elim (eqb_tells r u) [
      | inl h ↦ here h.1
      | inr h ↦ apart h.1
    ]
  where
    apart : r ≢ u → slice_get (if told then filled_at (slot fs u) at ps else ps) s ≡ Some (or_here o mine at)
    apart ne = by told ∙
        (place ∙ ap (λ (x : Option ℕ). Some x) (nothing_here o at ∙ ap (λ (b : Bool). or_here o b at) (sym (other ne))))
      where
        by : (b : Bool) → slice_get (if b then filled_at (slot fs u) at ps else ps) s ≡ slice_get ps s
        by true = others fs u r s at ps ne is
        by false = refl

    here : r ≡ u → slice_get (if told then filled_at (slot fs u) at ps else ps) s ≡ Some (or_here o mine at)
    here e = by told (same e)
      where
        by : (b : Bool) → mine ≡ b → slice_get (if b then filled_at (slot fs u) at ps else ps) s ≡
            Some (or_here o mine at)
        by true h =
            ap (λ (t : Option ℕ). slice_get (filled_at t at ps) s) (sym (ap (slot fs) e) ∙ is)
            ∙ (filled_here s at o ps place ∙ ap (λ (b : Bool). Some (or_here o b at)) (sym h))
        by false h =
            place ∙ ap (λ (x : Option ℕ). Some x) (nothing_here o at ∙ ap (λ (b : Bool). or_here o b at) (sym h))

at_set_none : {A : Type 0} (xs : List A) (i : ℕ) (y : A) (j : ℕ) → slice_get xs j ≡ None →
    slice_get (set xs i y) j ≡ None
at_set_none [] i y j is = is
at_set_none (x ∷ xs) zero y zero is = absurd cc
at_set_none (x ∷ xs) zero y (suc j) is = is
at_set_none (x ∷ xs) (suc i) y zero is = absurd cc
at_set_none (x ∷ xs) (suc i) y (suc j) is = at_set_none xs i y j is

filled_none : (o : Option ℕ) (at j : ℕ) (ps : List (Option ℕ)) → slice_get ps j ≡ None →
    slice_get (filled_at o at ps) j ≡ None
filled_none None at j ps is = is
filled_none (Some s) at j ps is = by (slice_get ps s)
  where
    by : (t : Option (Option ℕ)) → slice_get (filled s at t ps) j ≡ None
    by None = is
    by (Some None) = at_set_none ps s (Some at) j is
    by (Some (Some q)) = is

some_same : (x y : Option ℕ) (t : Option (Option ℕ)) → t ≡ Some x → t ≡ Some y → x ≡ y
some_same x y t a b = by (sym a ∙ b)
  where
    by : Some x ≡ Some y → x ≡ y
    by h = cc

never : (x : Option ℕ) (t : Option (Option ℕ)) → t ≡ None → t ≡ Some x → ⊥
never x t a b = by (sym a ∙ b)
  where
    by : None ≡ Some x → ⊥
    by h = absurd cc

-- what stands at a slot once one more note was looked at
place_told : (u r s at : ℕ) (fs : List ℕ) (ps : List (Option ℕ)) (place : Option ℕ) (mine told : Bool)
    → (r ≡ u → mine ≡ told) → (r ≢ u → mine ≡ false)
    → slot fs r ≡ Some s → ((o : Option ℕ) → slice_get ps s ≡ Some o → place ≡ o)
    → (now_there : Option ℕ) → slice_get (if told then filled_at (slot fs u) at ps else ps) s ≡ Some now_there →
    or_here place mine at ≡ now_there
place_told u r s at fs ps place mine told same other is before now_there here = by (slice_get ps s) refl
  where
    by : (t : Option (Option ℕ)) → slice_get ps s ≡ t → or_here place mine at ≡ now_there
    by None e =
        absurd (never now_there (slice_get (if told then filled_at (slot fs u) at ps else ps) s) (nothing told) here)
      where
        nothing : (b : Bool) → slice_get (if b then filled_at (slot fs u) at ps else ps) s ≡ None
        nothing true = filled_none (slot fs u) at s ps e
        nothing false = e
    by (Some o) e =
        ap (λ (o : Option ℕ). or_here o mine at) (before o e)
        ∙ some_same (or_here o mine at) now_there (slice_get (if told then filled_at (slot fs u) at ps else ps) s)
        (place_grows u r s at fs ps o mine told same other is e) here

-- ---- one more note

-- what is kept of these notes and one more
pub looked_of : (i : Inside) (notes : List Note) (n : Note) (p : Seen) → IsOf i notes p →
    IsOf i (notes ++ n ∷ []) (looked i n p)
looked_of i notes n p is =
    record {
      count = count;
      places = λ r s o at here.
          position_grows (tells_entry i.context i.number (member_at i.incarnation r)) notes n
          ∙ (ap (λ (l : ℕ). or_here (position (tells_entry i.context i.number (member_at i.incarnation r)) notes)
          (tells_entry i.context i.number (member_at i.incarnation r) n) l) (sym is.count)
          ∙ place_told n.sender.rank r s p.count i.role.feeders p.places
          (position (tells_entry i.context i.number (member_at i.incarnation r)) notes)
          (tells_entry i.context i.number (member_at i.incarnation r) n)
          (tells_entry i.context i.number (member_at i.incarnation n.sender.rank) n)
          (λ e. ap (λ r. tells_entry i.context i.number (member_at i.incarnation r) n) e)
          (λ ne. tells_other i.context i.number i.incarnation r n ne)
          at (λ o. is.places r s o at) o here);
      differs = ap (λ (b : Bool). b || (is_of i.context i.number n && is_differing i.entry n)) is.differs
          ∙ sym (any_grows (λ n. is_of i.context i.number n && is_differing i.entry n) notes n);
      found = ap (λ (b : Bool). b || (is_of i.context i.number n && is_found i.entry n)) is.found
          ∙ sym (any_grows (λ n. is_of i.context i.number n && is_found i.entry n) notes n);
      result = ap (λ (o : Option ℕ). or_here o (tells_result i.context i.number n) p.count) is.result
          ∙ (ap (λ (l : ℕ). or_here (result_place i.context i.number notes) (tells_result i.context i.number n) l)
          is.count
          ∙ sym (position_grows (tells_result i.context i.number) notes n));
    }
  where
    count : p.count + 1 ≡ length (notes ++ n ∷ [])
    count = omega (arith, length-append notes (n ∷ []), is.count)

-- the next note was looked at
pub looked_next : (own : Endpoint) (i : Inside) (notes : List Note) (n : Note) (p : Seen) → p.count < length notes →
    n ≡ get_or notes p.count n
    → IsKept own i notes p → IsKept own i notes (looked i n p)
looked_next own i notes n p lt at is =
    record {
      progress = record {
        within = omega arith;
        seen = subst (λ (xs : List Note). IsOf i xs (looked i n p)) more
            (looked_of i (take p.count notes) n p is.progress.seen);
      };
      first = is.first;
    }
  where
    more : (take p.count notes ++ n ∷ []) ≡ take (p.count + 1) notes
    more = ap (λ (m : Note). take p.count notes ++ m ∷ []) at ∙ sym (take_more notes p.count n lt)

free : (n s : ℕ) (o : Option ℕ) → slice_get {X = Option ℕ} (replicate n None) s ≡ Some o → None ≡ o
free zero s o is = absurd (never o None refl is)
free (suc n) zero o is = some_same None o (Some None) refl is
free (suc n) (suc s) o is = free n s o is

-- nothing was looked at of no notes
pub unseen_of : (i : Inside) (slots : ℕ) → IsOf i [] (unseen slots)
unseen_of i slots = record {
  count = refl;
  places = λ r s o at here. free slots s o here;
  differs = refl;
  found = refl;
  result = refl;
}

-- a rank that has just entered has looked at nothing
pub unseen_kept : (own : Endpoint) (i : Inside) (notes : List Note) (slots : ℕ) → IsKept own i notes (unseen slots)
unseen_kept own i notes slots =
    record {
      progress = record { within = omega arith; seen = unseen_of i slots };
      first = record { within = omega arith; known = refl };
    }

-- ---- notes behind

-- what was looked at of a list was looked at of a longer one
front_taken : {A : Type 0} (n : ℕ) (xs ys : List A) → n ≤ length xs → take n (xs ++ ys) ≡ take n xs
front_taken zero xs ys le = refl
front_taken (suc n) [] ys le = absurd (omega arith)
front_taken (suc n) (x ∷ xs) ys le = λ t. x ∷ front_taken n xs ys (omega arith) t

pub progress_behind : (i : Inside) (notes more : List Note) (p : Seen) → IsProgress i notes p →
    IsProgress i (notes ++ more) p
progress_behind i notes more p is =
    record {
      within = omega (arith, length-append notes more, is.within);
      seen = subst (λ (xs : List Note). IsOf i xs p) (sym (front_taken p.count notes more is.within)) is.seen;
    }

known_behind : (own : Endpoint) (c k : ℕ) (notes more : List Note) (x : Endpoint) → is_known own c k notes x ≡ true →
    is_known own c k (notes ++ more) x ≡ true
known_behind own c k notes more x is =
    ap (λ (b : Bool). is_same x own || b) (list_any-append (tells_entry c k x) notes more) ∙
    by (is_same x own) (list_any (tells_entry c k x) notes) (list_any (tells_entry c k x) more) is
  where
    by : (a b d : Bool) → (a || b) ≡ true → (a || (b || d)) ≡ true
    by true b d h = refl
    by false true d h = refl
    by false false d h = absurd cc

all_behind : (own : Endpoint) (inc c k : ℕ) (notes more : List Note) (rs : List ℕ) → have_entered own inc c k notes rs ≡
    true → have_entered own inc c k (notes ++ more) rs ≡ true
all_behind own inc c k notes more [] is = refl
all_behind own inc c k notes more (r ∷ rs) is =
    by (is_known own c k notes (member_at inc r)) refl is (λ h. all_behind own inc c k notes more rs h)
  where
    by : (t : Bool) → is_known own c k notes (member_at inc r) ≡ t →
        (is_known own c k notes (member_at inc r) && have_entered own inc c k notes rs) ≡ true
        → (have_entered own inc c k notes rs ≡ true → have_entered own inc c k (notes ++ more) rs ≡ true)
        → (is_known own c k (notes ++ more) (member_at inc r) && have_entered own inc c k (notes ++ more) rs) ≡ true
    by true e h rest =
        ap (λ (b : Bool). b && have_entered own inc c k (notes ++ more) rs)
        (known_behind own c k notes more (member_at inc r) e)
        ∙ rest (sym (ap (λ (b : Bool). b && have_entered own inc c k notes rs) e) ∙ h)
    by false e h rest = absurd (none (sym (ap (λ (b : Bool). b && have_entered own inc c k notes rs) e) ∙ h))
      where
        none : false ≡ true → ⊥
        none h = absurd cc

-- what is kept beside notes stays right where others are kept behind them
pub kept_behind : (own : Endpoint) (i : Inside) (notes more : List Note) (p : Seen) → IsKept own i notes p →
    IsKept own i (notes ++ more) p
kept_behind own i notes more p is =
    record {
      progress = progress_behind i notes more p is.progress;
      first = record {
        within = is.first.within;
        known = all_behind own i.incarnation i.context i.number notes more (take p.entered i.role.feeders)
            is.first.known;
      };
    }

-- ---- free slots

-- one more is free
pub freed_more : (xs : List (Option ℕ)) (k : ℕ) → k < length xs → take k xs ≡ replicate k None →
    take (k + 1) (set xs k None) ≡ replicate (k + 1) None
freed_more xs k lt is = take_more_set xs k None lt ∙
    (ap (λ (ys : List (Option ℕ)). ys ++ None ∷ []) is ∙ replicate_more k None)

-- all are free
pub freed_all : (xs : List (Option ℕ)) (k n : ℕ) → length xs ≡ n → n ≤ k → take k xs ≡ replicate k None →
    xs ≡ replicate n None
freed_all xs k n len le is = all ∙ ap (λ k. replicate k None) same
  where
    whole : length xs ≤ k
    whole = omega (arith, len)

    all : xs ≡ replicate k None
    all = sym (take_all k xs whole) ∙ is

    same : k ≡ n
    same = sym (length-replicate k None) ∙ (sym (ap length all) ∙ len)

-- ---- the collective that a rank is in

-- so many of those for whom a rank waits are known to have entered
pub entered_kept : (own : Endpoint) (i : Inside) (notes : List Note) (p q : Seen) (k : ℕ) → p ≡ q →
    IsKept own i notes q → AreFirst own i notes k
    → IsKept own i notes (record p { entered = k })
entered_kept own i notes p q k same is first =
    let kept : IsKept own i notes p = subst (λ (p : Seen). IsKept own i notes p) (sym same) is in
    record {
      progress = record {
        within = kept.progress.within;
        seen = record {
          count = kept.progress.seen.count;
          places = kept.progress.seen.places;
          differs = kept.progress.seen.differs;
          found = kept.progress.seen.found;
          result = kept.progress.seen.result;
        };
      };
      first = first;
    }

-- what is kept beside the notes is the same once the rank has told
pub told_kept : (own : Endpoint) (i : Inside) (notes : List Note) (p : Seen) → IsKept own i notes p →
    IsKept own (record i { told = true }) notes p
told_kept own i notes p is =
    record {
      progress = record {
        within = is.progress.within;
        seen = record {
          count = is.progress.seen.count;
          places = is.progress.seen.places;
          differs = is.progress.seen.differs;
          found = is.progress.seen.found;
          result = is.progress.seen.result;
        };
      };
      first = record { within = is.first.within; known = is.first.known };
    }

-- ---- what it says

pub differs_is : (i : Inside) (notes : List Note) (p : Seen) → IsProgress i notes p
    → differs_in i.context i.number i.entry notes ≡
    (p.differs || differs_in i.context i.number i.entry (drop p.count notes))
differs_is i notes p is =
    any_behind (λ n. is_of i.context i.number n && is_differing i.entry n) notes p.count
    ∙ ap (λ (b : Bool). b || differs_in i.context i.number i.entry (drop p.count notes)) (sym is.seen.differs)

pub found_is : (i : Inside) (notes : List Note) (p : Seen) → IsProgress i notes p
    → found_in i.context i.number i.entry notes ≡ (p.found || found_in i.context i.number i.entry (drop p.count notes))
found_is i notes p is =
    any_behind (λ n. is_of i.context i.number n && is_found i.entry n) notes p.count
    ∙ ap (λ (b : Bool). b || found_in i.context i.number i.entry (drop p.count notes)) (sym is.seen.found)

pub result_is : (i : Inside) (notes : List Note) (p : Seen) (q : ℕ) → IsProgress i notes p → p.result ≡ Some q →
    result_place i.context i.number notes ≡ Some q
result_is i notes p q is at = position_front (tells_result i.context i.number) notes p.count q (sym is.seen.result ∙ at)

-- what stands at a slot
pub slot_is : (i : Inside) (notes : List Note) (p : Seen) (r s : ℕ) (o : Option ℕ) → IsProgress i notes p →
    slot i.role.feeders r ≡ Some s → slice_get p.places s ≡ Some o
    → position (tells_entry i.context i.number (member_at i.incarnation r)) (take p.count notes) ≡ o
slot_is i notes p r s o is at here = is.seen.places r s o at here

pub slot_taken : (i : Inside) (notes : List Note) (p : Seen) (r s q : ℕ) → IsProgress i notes p →
    slot i.role.feeders r ≡ Some s → slice_get p.places s ≡ Some (Some q)
    → position (tells_entry i.context i.number (member_at i.incarnation r)) notes ≡ Some q
slot_taken i notes p r s q is at here =
    position_front (tells_entry i.context i.number (member_at i.incarnation r)) notes p.count q
    (slot_is i notes p r s (Some q) is at here)

-- ---- who has entered

-- one is not known
pub stuck : {X : Type 0} (p : X → Bool) (xs : List X) (k : ℕ) (d : X) → k < length xs → p (get_or xs k d) ≡ false →
    list_all p xs ≡ false
stuck p [] k d lt is = absurd (omega arith)
stuck p (x ∷ xs) zero d lt is = ap (λ (b : Bool). b && list_all p xs) is
stuck p (x ∷ xs) (suc k) d lt is = ap (λ (b : Bool). p x && b) (stuck p xs k d (omega arith) is) ∙ none (p x)
  where
    none : (b : Bool) → (b && false) ≡ false
    none true = refl
    none false = refl

-- one more is known
pub first_more : (own : Endpoint) (i : Inside) (notes : List Note) (k d : ℕ) → AreFirst own i notes k →
    k < length i.role.feeders
    → is_known own i.context i.number notes (member_at i.incarnation (get_or i.role.feeders k d)) ≡ true →
    AreFirst own i notes (k + 1)
first_more own i notes k d is lt here =
    record {
      within = omega arith;
      known = list_all_more (λ r. is_known own i.context i.number notes (member_at i.incarnation r)) i.role.feeders k d
          lt
          ∙ (ap (λ (b : Bool). b &&
          is_known own i.context i.number notes (member_at i.incarnation (get_or i.role.feeders k d))) is.known ∙
          here);
    }

-- all are known
pub all_first : (own : Endpoint) (i : Inside) (notes : List Note) (k : ℕ) → AreFirst own i notes k →
    length i.role.feeders ≤ k
    → have_entered own i.incarnation i.context i.number notes i.role.feeders ≡ true
all_first own i notes k is le =
    ap (λ (rs : List ℕ). have_entered own i.incarnation i.context i.number notes rs)
    (sym (take_all k i.role.feeders le)) ∙ is.known
