-- Lemmas on sorted rows that are cut into parts.
use Rattle.std.proofs.Common.{◌≡◌, ◌≢◌, ℕ, ◌+◌, ◌-◌, ◌<◌, ◌≤◌, suc, Bool, true, false, List, [], ◌∷◌, ◌++◌, Option}
use Rattle.std.proofs.Common.{Some, None, length, get_or, take, drop, filter, map, refl, sym, ◌∙◌, ap, subst, arith}
use Rattle.std.proofs.Common.{inl, inr, length-append, append-nil}
use Rattle.std.specs.List.{All, slice_range}
use Rattle.std.specs.List.Sorted.{IsStrictlyIncreasing, IsNonDecreasingBy}
use Rattle.std.proofs.Math.Seq.{take-add, get_or-append_seam}
use Rattle.std.proofs.lemmas.Bool.{eq-eqb, ne_eqb, cases_lt}
use Rattle.std.proofs.lemmas.List.{map-append, length-map, get_or_default, get_or_append_left, length_push, get_or-take}
use Rattle.std.proofs.lemmas.List.{get_or-drop, length-take, length-drop}
use Rattle.std.proofs.lemmas.List.Elements.{All-append, All-weaker, All-push, All-map, filter-append}
use Rattle.std.proofs.lemmas.List.Elements.{Contains-append_left, Contains-push, All-tail, All-head}
use Rattle.context_agreement.specs.declared.split.SplitRow.{SplitRow}
use Rattle.context_agreement.specs.Parts.{SplitPart}
use Rattle.context_agreement.specs.Splits.{is_given, has_colour, HasPart, IsCut, IsRun, colour_number}

-- a filter that nothing passes
filter_none : (p : SplitRow → Bool) (xs : List SplitRow) → All (λ x. p x ≡ false) xs → filter p xs ≡ []
filter_none p [] none = refl
filter_none p (x ∷ xs) none =
    rw (All-head (λ y. p y ≡ false) x xs none) (filter_none p xs (All-tail (λ y. p y ≡ false) x xs none))

-- a filter that everything passes
filter_all : (p : SplitRow → Bool) (xs : List SplitRow) → All (λ x. p x ≡ true) xs → filter p xs ≡ xs
filter_all p [] all = refl
filter_all p (x ∷ xs) all =
    rw (All-head (λ y. p y ≡ true) x xs all) (ap (λ ys. x ∷ ys) (filter_all p xs (All-tail (λ y. p y ≡ true) x xs all)))

-- one more number above all others
rising_push : (xs : List ℕ) (y : ℕ) → IsStrictlyIncreasing xs → All (λ x. x < y) xs →
    IsStrictlyIncreasing (xs ++ y ∷ [])
rising_push xs y up below k within =
    let short : k < length xs = omega (arith, within, length_push xs y) in
    elim (cases_lt (k + 1) (length xs)) [
      | inl inside ↦ rw (get_or_append_left xs (y ∷ []) 0 k short, get_or_append_left xs (y ∷ []) 0 (k + 1) inside)
          (up k inside)
      | inr past ↦ let last : k + 1 ≡ length xs = omega arith in
          rw (get_or_append_left xs (y ∷ []) 0 k short, last, get_or-append_seam xs y [] 0) (below k 0 short)
    ]

-- a colour that comes before isn't the one
not_given : (colour : ℕ) (given : Option ℕ) → colour_number given < suc colour → is_given colour given ≡ false
not_given colour None below = refl
not_given colour (Some other) below = ne_eqb other colour (λ same. omega arith)

-- nor is one that comes after
given_other : (colour other : ℕ) (given : Option ℕ) → given ≡ Some other → colour < other →
    is_given colour given ≡ false
given_other colour other given is below = rw is (ne_eqb other colour (λ same. omega arith))

-- a row without a colour has none
given_none : (colour : ℕ) (given : Option ℕ) → given ≡ None → is_given colour given ≡ false
given_none colour given is = rw is refl

-- a part that is there is there when others come behind
HasPart-append : (plan more : List SplitPart) (given : Option ℕ) → HasPart plan given → HasPart (plan ++ more) given
HasPart-append plan more None here = tt
HasPart-append plan more (Some colour) here =
    rw map-append (Contains-append_left (map (λ part. part.colour) plan) (map (λ part. part.colour) more) colour here)

-- the last part is there
HasPart-push : (plan : List SplitPart) (part : SplitPart) (given : Option ℕ) → given ≡ Some part.colour
    → HasPart (plan ++ part ∷ []) given
HasPart-push plan part given is =
    rw (is, map-append) (Contains-push (map (λ p. p.colour) plan) part.colour)

-- no row is cut into no part
pub IsCut-nil : IsCut [] []
IsCut-nil = record {
  parts = λ k d within. absurd (omega arith);
  present = λ k d within. absurd (omega arith);
  rising = λ k within. absurd (omega arith);
  complete = λ k d within. absurd (omega arith);
  below = λ bound rows k d within. absurd (omega arith);
}

-- rows without a colour come behind
pub IsCut-without : (front run : List SplitRow) (plan : List SplitPart) → All (λ row. row.colour ≡ None) run
    → IsCut front plan → IsCut (front ++ run) plan
IsCut-without front run plan none cut = record {
  parts = All-weaker (λ (part : SplitPart). part.ranks ≡ map (λ row. row.rank) (filter (has_colour part.colour) front))
      (λ part. part.ranks ≡ map (λ row. row.rank) (filter (has_colour part.colour) (front ++ run)))
      (λ part is. is ∙ ap (map (λ (row : SplitRow). row.rank)) (sym (same part.colour))) plan cut.parts;
  present = cut.present;
  rising = cut.rising;
  complete = All-append (λ (row : SplitRow). HasPart plan row.colour) front run cut.complete
      (All-weaker (λ (row : SplitRow). row.colour ≡ None) (λ row. HasPart plan row.colour) (λ row is. rw is tt) run
      none);
  below = λ bound rows. cut.below bound (λ k d within.
      subst (λ (row : SplitRow). colour_number row.colour < bound) (get_or_append_left front run d k within)
      (rows k d (omega (arith, length-append front run))));
}
  where
    same : (colour : ℕ) → filter (has_colour colour) (front ++ run) ≡ filter (has_colour colour) front
    same colour =
        filter-append (has_colour colour) front run
        ∙ ap (λ rows. filter (has_colour colour) front ++ rows)
        (filter_none (has_colour colour) run
        (All-weaker (λ (row : SplitRow). row.colour ≡ None) (λ row. has_colour colour row ≡ false)
        (λ row is. given_none colour row.colour is) run none))
        ∙ append-nil (filter (has_colour colour) front)

-- the part of some rows
abbrev pub part_of : ℕ → List SplitRow → SplitPart
part_of colour run = record { colour = colour; ranks = map (λ row. row.rank) run }

-- what bounds all rows bounds the colour of the last ones
above_last : (front run : List SplitRow) (colour bound : ℕ) → All (λ row. row.colour ≡ Some colour) run → 0 < length run
    → All (λ row. colour_number row.colour < bound) (front ++ run) → suc colour < bound
above_last front [] colour bound all some rows = absurd (omega arith)
above_last front (row ∷ run) colour bound all some rows =
    let bounded : colour_number row.colour < bound =
    subst (λ (r : SplitRow). colour_number r.colour < bound) (get_or-append_seam front row run row)
    (rows (length front) row (omega (arith, length-append front (row ∷ run)))) in
    rw (All-head (λ (r : SplitRow). r.colour ≡ Some colour) row run all) at bounded

-- rows of a colour above all others come behind
pub IsCut-with : (front run : List SplitRow) (plan : List SplitPart) (colour : ℕ) →
    All (λ row. row.colour ≡ Some colour) run
    → 0 < length run → All (λ row. colour_number row.colour < suc colour) front → IsCut front plan
    → IsCut (front ++ run) (plan ++ part_of colour run ∷ [])
IsCut-with front run plan colour all some above cut =
    let lower = cut.below (suc colour) above in
    record {
      parts = All-push (λ (part : SplitPart). part.ranks ≡
          map (λ row. row.rank) (filter (has_colour part.colour) (front ++ run))) plan (part_of colour run)
          (λ k d within. cut.parts k d within ∙
          ap (map (λ (row : SplitRow). row.rank)) (sym (old (get_or plan k d).colour (lower k d within))))
          (ap (map (λ (row : SplitRow). row.rank)) (sym new));
      present =
          All-push (λ (part : SplitPart). 0 < length part.ranks) plan (part_of colour run) cut.present
          (omega (arith, length-map run (λ (row : SplitRow). row.rank)));
      rising = rw map-append (rising_push (map (λ (part : SplitPart). part.colour) plan) colour cut.rising
          (All-map (λ (c : ℕ). c < colour) (λ (part : SplitPart). part.colour) plan
          (All-weaker (λ (part : SplitPart). suc part.colour < suc colour) (λ part. part.colour < colour)
          (λ part h. omega arith) plan lower)));
      complete = All-append (λ (row : SplitRow). HasPart (plan ++ part_of colour run ∷ []) row.colour) front run
          (All-weaker (λ (row : SplitRow). HasPart plan row.colour)
          (λ row. HasPart (plan ++ part_of colour run ∷ []) row.colour)
          (λ row here. HasPart-append plan (part_of colour run ∷ []) row.colour here) front cut.complete)
          (All-weaker (λ (row : SplitRow). row.colour ≡ Some colour)
          (λ row. HasPart (plan ++ part_of colour run ∷ []) row.colour)
          (λ row is. HasPart-push plan (part_of colour run) row.colour is) run all);
      below = λ bound rows. All-push (λ (part : SplitPart). suc part.colour < bound) plan (part_of colour run)
          (cut.below bound (λ k d within.
          subst (λ (row : SplitRow). colour_number row.colour < bound) (get_or_append_left front run d k within)
          (rows k d (omega (arith, length-append front run)))))
          (last bound rows);
    }
  where
    old : (c : ℕ) → suc c < suc colour → filter (has_colour c) (front ++ run) ≡ filter (has_colour c) front
    old c lower =
        filter-append (has_colour c) front run
        ∙ ap (λ rows. filter (has_colour c) front ++ rows)
        (filter_none (has_colour c) run
        (All-weaker (λ (row : SplitRow). row.colour ≡ Some colour) (λ row. has_colour c row ≡ false)
        (λ row is. given_other c colour row.colour is (omega arith)) run all))
        ∙ append-nil (filter (has_colour c) front)

    new : filter (has_colour colour) (front ++ run) ≡ run
    new =
        filter-append (has_colour colour) front run
        ∙ ap (λ rows. rows ++ filter (has_colour colour) run)
        (filter_none (has_colour colour) front
        (All-weaker (λ (row : SplitRow). colour_number row.colour < suc colour) (λ row. has_colour colour row ≡
        false) (λ row h. not_given colour row.colour h) front above))
        ∙ filter_all (has_colour colour) run
        (All-weaker (λ (row : SplitRow). row.colour ≡ Some colour) (λ row. has_colour colour row ≡ true)
        (λ row is. rw is (eq-eqb colour colour refl)) run all)

    last : (bound : ℕ) → All (λ row. colour_number row.colour < bound) (front ++ run) → suc colour < bound
    last bound rows = above_last front run colour bound all some rows

-- the rows up to the end of a run are those before it and the run
pub take_run : (rows : List SplitRow) (start end : ℕ) → start ≤ end → take end rows ≡ take start rows ++
    slice_range rows start end
take_run rows start end le =
    let sum : end ≡ start + (end - start) = omega arith in
    ap (λ n. take n rows) sum ∙ take-add start (end - start) rows

-- the rows of a run have one colour
pub run_all : (rows : List SplitRow) (start end : ℕ) (given : Option ℕ) → IsRun rows start end
    → ((d : SplitRow) → (get_or rows start d).colour ≡ given) →
    All (λ row. row.colour ≡ given) (slice_range rows start end)
run_all rows start end given run is = λ k d within.
    let short : k < end - start = omega (arith, within, length-take (end - start) (drop start rows)) in
    let inside : start + k < end = omega arith in
    rw (get_or-take (end - start) (drop start rows) k d short, get_or-drop start rows k d)
    (run.same (start + k) d (omega arith) inside ∙ is d)

-- a run has a row
pub run_some : (rows : List SplitRow) (start end : ℕ) → IsRun rows start end → 0 < length (slice_range rows start end)
run_some rows start end run =
    let later = run.later in
    let within = run.within in
    omega (arith, length-take (end - start) (drop start rows), length-drop start rows)

-- the number tells the colour
same_colour : (a b : Option ℕ) → colour_number a ≡ colour_number b → a ≡ b
same_colour None None same = refl
same_colour None (Some b) same = absurd (omega arith)
same_colour (Some a) None same = absurd (omega arith)
same_colour (Some a) (Some b) same = let equal : a ≡ b = omega arith in ap (λ c. Some c) equal

-- the rows before the next run come before it by their colours
pub before_more : (rows : List SplitRow) (start end : ℕ) → IsNonDecreasingBy (λ row. colour_number row.colour) rows →
    IsRun rows start end
    → ((k : ℕ) (d : SplitRow) → k < start → start < length rows →
    colour_number (get_or rows k d).colour < colour_number (get_or rows start d).colour)
    → (k : ℕ) (d : SplitRow) → k < end → end < length rows →
    colour_number (get_or rows k d).colour < colour_number (get_or rows end d).colour
before_more rows start end sorted run before k d below within =
    let later = run.later in
    let first : start < length rows = omega arith in
    let no_lower = sorted start end d (omega arith) within in
    let differ : colour_number (get_or rows end d).colour ≢ colour_number (get_or rows start d).colour =
    λ same. run.other d within (same_colour _ _ same) in
    let higher : colour_number (get_or rows start d).colour < colour_number (get_or rows end d).colour = omega (arith, no_lower, differ) in
    elim (cases_lt k start) [
      | inl early ↦ omega (arith, before k d early first, higher)
      | inr late ↦ rw (run.same k d late below) higher
    ]

-- the rows before a run of a colour come before it
pub front_above : (rows : List SplitRow) (start colour : ℕ) → start < length rows
    → ((k : ℕ) (d : SplitRow) → k < start → start < length rows →
    colour_number (get_or rows k d).colour < colour_number (get_or rows start d).colour)
    → ((d : SplitRow) → (get_or rows start d).colour ≡ Some colour)
    → All (λ row. colour_number row.colour < suc colour) (take start rows)
front_above rows start colour first before is = λ k d within.
    let early : k < start = omega (arith, within, length-take start rows) in
    let lower : colour_number (get_or rows k d).colour < suc colour =
    subst (λ (given : Option ℕ). colour_number (get_or rows k d).colour < colour_number given) (is d)
    (before k d early first) in
    rw (get_or-take start rows k d early) lower

-- a run of a colour is cut
pub cut_with : (rows : List SplitRow) (start end colour : ℕ) (plan : List SplitPart) → IsRun rows start end
    → ((k : ℕ) (d : SplitRow) → k < start → start < length rows →
    colour_number (get_or rows k d).colour < colour_number (get_or rows start d).colour)
    → ((d : SplitRow) → (get_or rows start d).colour ≡ Some colour)
    → IsCut (take start rows) plan → IsCut (take end rows) (plan ++ part_of colour (slice_range rows start end) ∷ [])
cut_with rows start end colour plan run before is cut =
    let later = run.later in
    let within = run.within in
    rw (take_run rows start end (omega arith))
    (IsCut-with (take start rows) (slice_range rows start end) plan colour (run_all rows start end (Some colour) run is)
    (run_some rows start end run) (front_above rows start colour (omega arith) before is) cut)

-- a run without a colour is left out
pub cut_without : (rows : List SplitRow) (start end : ℕ) (plan : List SplitPart) → IsRun rows start end
    → ((d : SplitRow) → (get_or rows start d).colour ≡ None)
    → IsCut (take start rows) plan → IsCut (take end rows) plan
cut_without rows start end plan run is cut =
    let later = run.later in
    rw (take_run rows start end (omega arith))
    (IsCut-without (take start rows) (slice_range rows start end) plan (run_all rows start end None run is) cut)

-- what a place has, it has whatever is read past the end
pub colour_at : (rows : List SplitRow) (i : ℕ) (e : SplitRow) (given : Option ℕ) → i < length rows
    → (get_or rows i e).colour ≡ given → (d : SplitRow) → (get_or rows i d).colour ≡ given
colour_at rows i e given within is d = rw (get_or_default rows i d e within) is
