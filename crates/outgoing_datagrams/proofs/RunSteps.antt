-- Steps of putting datagrams into a slice.
use Rattle.std.proofs.Common.{◌≡◌, ◌≢◌, ℕ, zero, suc, ◌+◌, ◌≤◌, ◌<◌, false, List, [], ◌∷◌, ◌++◌, length, get_or}
use Rattle.std.proofs.Common.{take, drop, refl, sym, ap, subst, ◌∙◌, arith, inl, inr}
use Rattle.std.specs.Prelude.{◌⊎◌, slice_get, Some, IfSome}
use Rattle.std.proofs.lemmas.Bool.{ltb-false}
use Rattle.std.proofs.lemmas.List.{length-append, take_at, drop_at, drop-drop}
use mathlib.Core.Bool.{false≢true}
use Rattle.port_transport.specs.Wires.{Parcel}
use Rattle.outgoing_datagrams.specs.Runs.{AreEven, AreFor, AreLong, IsFor, IsRun, NoneIsShort, RunGoesOn, bytes_in, joined}
use Rattle.outgoing_datagrams.specs.declared.run.Run.{Run}

-- a piece more behind those that are there
pub put_step : (front piece old into new : List ℕ) →
    into ≡ front ++ drop (length front) old →
    new ≡ take (length front) into ++ piece ++ drop (length front + length piece) into →
    new ≡ (front ++ piece) ++ drop (length front + length piece) old
put_step front piece old into new is made =
    let n = length front in
    let rest = drop n old in
    let first : take n into ≡ front = ap (take n) is ∙ take_at front rest n refl in
    let last : drop (n + length piece) into ≡ drop (n + length piece) old =
    ap (drop (n + length piece)) is
    ∙ sym (drop-drop (length piece) n (front ++ rest))
    ∙ ap (drop (length piece)) (drop_at front rest n refl)
    ∙ drop-drop (length piece) n old
    in
    made
    ∙ ap (λ (t : List ℕ). t ++ piece ++ drop (n + length piece) into) first
    ∙ ap (λ (t : List ℕ). front ++ piece ++ t) last

-- the datagram at a place
pub at_place : (ds : List Parcel) (place : ℕ) (d : Parcel) → place < length ds → d ≡ get_or ds place d →
    slice_get ds place ≡ Some d
at_place [] place d within is = absurd (omega (arith, within))
at_place (e ∷ ds) zero d within is = ap Some (sym is)
at_place (e ∷ ds) (suc place) d within is = at_place ds place d (omega (arith, within)) is

-- how far a run is behind so many places: while it isn't over, all of them are in it; it is like the first datagram, and
-- has that, if it fits
pub record HasRun (list : List Parcel) (place : ℕ) (r : Run) (old new : List ℕ) : Type 0 where
  pub count : r.count ≤ place
  pub open_count : r.is_over ≡ false → r.count ≡ place
  pub len : r.len ≡ length (joined list r.count)
  pub bytes : new ≡ joined list r.count ++ drop r.len old
  pub room : length new ≡ length old
  pub within : r.len ≤ length old
  pub targets : AreFor r.target list r.count
  pub lengths : AreEven r.each list r.count
  pub long : r.is_over ≡ false → AreLong r.each list r.count
  pub plain : NoneIsShort list r.count
  pub like : IfSome (slice_get list 0) (λ d. (r.target ≡ d.0) × (r.each ≡ length d.1))
  pub begun : ((place ≡ 0) × (r.is_over ≡ false) × (r.len ≡ 0)) ⊎
      ((1 ≤ r.count) ⊎ (length old < length (bytes_in (slice_get list 0))))

-- a run at its start
pub run_opens : (list : List Parcel) (r : Run) (old : List ℕ) → r.count ≡ 0 → r.len ≡ 0 → r.is_over ≡ false →
    IfSome (slice_get list 0) (λ d. (r.target ≡ d.0) × (r.each ≡ length d.1)) → HasRun list 0 r old old
run_opens list r old none empty not_over like =
    record {
      count = omega (arith, none);
      open_count = λ e. none;
      len = empty ∙ ap (λ (n : ℕ). length (joined list n)) (sym none);
      bytes = sym (ap (λ (n : ℕ). joined list n ++ drop r.len old) none ∙ ap (λ (n : ℕ). drop n old) empty);
      room = refl;
      within = omega (arith, empty);
      targets = subst (AreFor r.target list) (sym none) tt;
      lengths = subst (AreEven r.each list) (sym none) tt;
      long = λ e. subst (AreLong r.each list) (sym none) tt;
      plain = subst (NoneIsShort list) (sym none) tt;
      like = like;
      begun = inl (refl, not_over, empty);
    }

-- what a step says of the first datagram: it is in the run, if it fits
abbrev pub TakesFirst : (target : ℕ) → (bytes old : List ℕ) → Run → Run → Type 0
TakesFirst target bytes old before after =
    before.is_over ≡ false → before.count ≡ 0 → target ≡ before.target → length bytes ≤ before.each →
    before.len + length bytes ≤ length old → after.count ≡ 1

compare_on : (n m : ℕ) → (n ≤ m) ⊎ (m < n) → (suc n ≤ suc m) ⊎ (suc m < suc n)
compare_on n m (inl le) = inl (omega (arith, le))
compare_on n m (inr lt) = inr (omega (arith, lt))

-- a number is below another one, or isn't
compare : (n m : ℕ) → (n ≤ m) ⊎ (m < n)
compare zero m = inl (omega arith)
compare (suc n) zero = inr (omega arith)
compare (suc n) (suc m) = compare_on n m (compare n m)

first_cases : (size room count first : ℕ) → first ≡ size → (size ≤ room → count ≡ 1) → (size ≤ room) ⊎ (room < size) →
    (1 ≤ count) ⊎ (room < first)
first_cases size room count first same fits (inl le) = let one = fits le in inl (omega (arith, one))
first_cases size room count first same fits (inr lt) = inr (omega (arith, lt, same))

first_by : (size room count first : ℕ) → first ≡ size → (size ≤ room → count ≡ 1) → (1 ≤ count) ⊎ (room < first)
first_by size room count first same fits = first_cases size room count first same fits (compare size room)

begun_by : (list : List Parcel) (k : ℕ) (r s : Run) (d : Parcel) (old into : List ℕ) → slice_get list k ≡ Some d →
    HasRun list k r old into → TakesFirst d.0 d.1 into r s → r.count ≤ s.count →
    (((k ≡ 0) × (r.is_over ≡ false) × (r.len ≡ 0)) ⊎
    ((1 ≤ r.count) ⊎ (length old < length (bytes_in (slice_get list 0))))) →
    (1 ≤ s.count) ⊎ (length old < length (bytes_in (slice_get list 0)))
begun_by list k r s d old into at is takes more (inr (inl has)) = inl (omega (arith, has, more))
begun_by list k r s d old into at is takes more (inr (inr long)) = inr long
begun_by list k r s d old into at is takes more (inl start) =
    let here : slice_get list 0 ≡ Some d = ap (slice_get list) (sym start.0) ∙ at in
    let like = subst (λ o. IfSome o (λ e. (r.target ≡ e.0) × (r.each ≡ length e.1))) here is.like in
    let size : length (bytes_in (slice_get list 0)) ≡ length d.1 = ap (λ o. length (bytes_in o)) here in
    first_by (length d.1) (length old) s.count (length (bytes_in (slice_get list 0))) size
    (λ fits. takes start.1 (is.open_count start.1 ∙ start.0) (sym like.0) (omega (arith, like.1))
    (omega (arith, start.2, fits, is.room)))

-- a run that has begun stays so
begun_on : (list : List Parcel) (k : ℕ) (r s : Run) (d : Parcel) (old into : List ℕ) → slice_get list k ≡ Some d →
    HasRun list k r old into → TakesFirst d.0 d.1 into r s → r.count ≤ s.count →
    (1 ≤ s.count) ⊎ (length old < length (bytes_in (slice_get list 0)))
begun_on list k r s d old into at is takes more =
    begun_by list k r s d old into at is takes more is.begun

-- the run behind one more place
pub run_step : (list : List Parcel) (k : ℕ) (r s : Run) (d : Parcel) (old into new : List ℕ) →
    slice_get list k ≡ Some d → length new ≡ length into → HasRun list k r old into →
    RunGoesOn r d.0 d.1 into s new → TakesFirst d.0 d.1 into r s → HasRun list (k + 1) s old new
run_step list k r s d old into new at keeps is (inl stays) takes =
    let same : s.count ≡ r.count = ap (λ (x : Run). x.count) stays.0 in
    let begun = begun_on list k r s d old into at is takes (omega (arith, same)) in
    subst (λ (x : Run). HasRun list (k + 1) x old new) (sym stays.0)
    (record {
      count = omega (arith, is.count);
      open_count = λ e. absurd (false≢true (sym e));
      len = is.len;
      bytes = stays.1 ∙ is.bytes;
      room = ap length stays.1 ∙ is.room;
      within = is.within;
      targets = is.targets;
      lengths = is.lengths;
      long = λ e. absurd (false≢true (sym e));
      plain = is.plain;
      like = is.like;
      begun = inr (subst (λ (n : ℕ). (1 ≤ n) ⊎ (length old < length (bytes_in (slice_get list 0)))) same begun);
    })
run_step list k r s d old into new at keeps is (inr g) takes =
    let m = r.count in
    let here : m ≡ k = is.open_count g.0 in
    let found : slice_get list m ≡ Some d = ap (slice_get list) here ∙ at in
    let piece : bytes_in (slice_get list m) ≡ d.1 = ap bytes_in found in
    let front = joined list m in
    let next : m + 1 ≡ suc m = omega arith in
    let more : joined list (m + 1) ≡ front ++ d.1 = ap (joined list) next ∙ ap (λ (t : List ℕ). front ++ t) piece in
    let size : r.len + length d.1 ≡ length (joined list (m + 1)) =
    omega (arith, is.len, length-append front d.1, ap length more)
    in
    let put : new ≡ (front ++ d.1) ++ drop (length front + length d.1) old =
    put_step front d.1 old into new (is.bytes ∙ ap (λ (n : ℕ). front ++ drop n old) is.len)
    (g.6 ∙ ap (λ (n : ℕ). take n into ++ d.1 ++ drop (n + length d.1) into) is.len)
    in
    subst (λ (x : Run). HasRun list (k + 1) x old new) (sym g.5)
    (record {
      count = omega (arith, here);
      open_count = λ e. omega (arith, here);
      len = size;
      bytes =
          put
          ∙ ap (λ (t : List ℕ). t ++ drop (length front + length d.1) old) (sym more)
          ∙ ap (λ (n : ℕ). joined list (m + 1) ++ drop (n + length d.1) old) (sym is.len);
      room = keeps ∙ is.room;
      within = omega (arith, g.4, is.room);
      targets = subst (AreFor r.target list) (sym next) (is.targets, subst (IsFor r.target) (sym found) g.1);
      lengths = subst (AreEven r.each list) (sym next)
          (is.long g.0, subst (λ (t : List ℕ). length t ≤ r.each) (sym piece) g.2);
      long = λ e. subst (AreLong r.each list) (sym next)
          (is.long g.0, ap length piece ∙ omega (arith, g.2, ltb-false (length d.1) r.each e));
      plain = subst (NoneIsShort list) (sym next)
          (is.plain, subst (λ (t : List ℕ). (m ≡ 0) ⊎ (length t ≢ 40)) (sym piece) g.3);
      like = is.like;
      begun = inr (inl (omega arith));
    })

no_place : {A : Type 0} (list : List A) → length list ≤ 0 → list ≡ []
no_place [] le = refl
no_place (x ∷ xs) le = absurd (omega (arith, le))

some_of : (most : ℕ) (list : List Parcel) (k : ℕ) (r : Run) (old : List ℕ) → r.count ≡ 0 →
    ((most ≤ k) ⊎ (length list ≤ k)) →
    (((k ≡ 0) × (r.is_over ≡ false) × (r.len ≡ 0)) ⊎
    ((1 ≤ r.count) ⊎ (length old < length (bytes_in (slice_get list 0))))) →
    (most ≡ 0) ⊎ ((list ≡ []) ⊎ (length old < length (bytes_in (slice_get list 0))))
some_of most list k r old none (inl le) (inl start) = let z = start.0 in inl (omega (arith, le, z))
some_of most list k r old none (inr le) (inl start) = let z = start.0 in inr (inl (no_place list (omega (arith, le, z))))
some_of most list k r old none all (inr (inl has)) = absurd (omega (arith, has, none))
some_of most list k r old none all (inr (inr long)) = inr (inr long)

-- what a run is in the end
pub run_ends : (most : ℕ) (list : List Parcel) (k : ℕ) (r : Run) (old new : List ℕ) → k ≤ length list → k ≤ most →
    ((most ≤ k) ⊎ (length list ≤ k)) → HasRun list k r old new → IsRun most list r old new
run_ends most list k r old new le few all is =
    record {
      count = omega (arith, is.count, le);
      few = omega (arith, is.count, few);
      len = is.len;
      bytes = is.bytes;
      targets = is.targets;
      lengths = is.lengths;
      plain = is.plain;
      some = λ none. some_of most list k r old none all is.begun;
    }
