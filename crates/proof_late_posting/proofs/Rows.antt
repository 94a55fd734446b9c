-- What the explorer's row says of receives that are kept back.
use Rattle.std.proofs.Common.{◌≡◌, ℕ, zero, suc, ◌+◌, ◌<◌, Bool, true, false, cond, ◌&&◌, ◌||◌, ◌==◌, List, [], ◌∷◌}
use Rattle.std.proofs.Common.{◌++◌, length, Option, Some, None, slice_get, refl, sym, ap, ap₂, ◌∙◌, subst, arith}
use Rattle.std.specs.Prelude.{option_map}
use Rattle.std.specs.List.{list_any, position_from}
use Rattle.std.proofs.lemmas.Bool.{and_parts, eq-eqb, eqb-true, ne_eqb, or_parts}
use Rattle.std.proofs.lemmas.Iterator.Adapters.{position_from-zero}
use Rattle.std.proofs.lemmas.Option.{none-some, same_Some}
use Rattle.late_receives.specs.Rows.{at_place, before, before_place, clash, clashes_with, is_behind, is_met, may_meet}
use Rattle.late_receives.specs.Rows.{place_of, takes, waits, wanted, wildcard, without, without_place}
use Rattle.late_receives.specs.declared.row.LateReceive.{LateReceive}
use Rattle.perfect_queues.specs.Messages.{Message}
use Rattle.perfect_queues.specs.Receives.{Receive, accepts, has_tag, is_from}
use Rattle.proof_late_posting.specs.Ties.{IsApart, Row, told_of}
use Rattle.proof_late_posting.specs.Written.{IsRowOf, IsSource, IsTag, IsWritten, RowsKeepTheRules, Says}
use Rattle.vocabulary.specs.declared.envelope.Source.{Source}
use Rattle.vocabulary.specs.declared.envelope.Source.TheVariants.{Any, Null, Rank}

-- ONE RECEIVE

first_holds : (a b : Bool) → a ≡ true → (a || b) ≡ true
first_holds true b h = refl
first_holds false b h = absurd cc

first_fails : (a b : Bool) → a ≡ false → (a || b) ≡ b
first_fails true b h = absurd cc
first_fails false b h = refl

source_met : (x : ℕ) (s : Source) (r : ℕ) → IsSource x s → is_met x r ≡ is_from s r
source_met x Any r h = first_holds (x == wildcard) (x == r) (eq-eqb x wildcard h)
source_met x (Rank y) r h =
    first_fails (x == wildcard) (x == r) (ne_eqb x wildcard h.1) ∙ ap (λ v. v == r) h.0
source_met x Null r h = absurd h

tag_met : (x : ℕ) (t : Option ℕ) (y : ℕ) → IsTag x t → is_met x y ≡ has_tag t y
tag_met x None y h = first_holds (x == wildcard) (x == y) (eq-eqb x wildcard h)
tag_met x (Some t) y h =
    first_fails (x == wildcard) (x == y) (ne_eqb x wildcard h.1) ∙ ap (λ v. v == y) h.0

-- the row's test is the machine's
takes_accepts : (r : LateReceive) (p : Receive) (m : Message) → IsWritten r p →
    takes r m.context m.sender.rank m.tag ≡ accepts p m
takes_accepts r p m h =
    ap₂ (λ c b. (c == m.context) && b) h.communicator
    (ap₂ (λ a b. a && b) (source_met r.source p.source m.sender.rank h.source) (tag_met r.tag p.tag m.tag h.tag))

-- two numbers that some number meets may meet
both_met : (a b x : ℕ) → is_met a x ≡ true → is_met b x ≡ true → may_meet a b ≡ true
both_met a b x f g = go (a == wildcard) (b == wildcard) refl refl
  where
    go : (u v : Bool) → (a == wildcard) ≡ u → (b == wildcard) ≡ v → (u || (v || (a == b))) ≡ true
    go true v h k = refl
    go false true h k = refl
    go false false h k =
        let one : (a == x) ≡ true = sym (first_fails (a == wildcard) (a == x) h) ∙ f in
        let two : (b == x) ≡ true = sym (first_fails (b == wildcard) (b == x) k) ∙ g in
        eq-eqb a b (eqb-true a x one ∙ sym (eqb-true b x two))

-- where both take a message, they clash
both_take : (a b : LateReceive) (c s t : ℕ) → takes a c s t ≡ true → takes b c s t ≡ true → clash a b ≡ true
both_take a b c s t f g =
    let fa = and_parts (a.communicator == c) (is_met a.source s && is_met a.tag t) f in
    let ga = and_parts (b.communicator == c) (is_met b.source s && is_met b.tag t) g in
    let fb = and_parts (is_met a.source s) (is_met a.tag t) fa.1 in
    let gb = and_parts (is_met b.source s) (is_met b.tag t) ga.1 in
    all (a.communicator == b.communicator) (may_meet a.source b.source) (may_meet a.tag b.tag)
    (eq-eqb a.communicator b.communicator (eqb-true a.communicator c fa.0 ∙ sym (eqb-true b.communicator c ga.0)))
    (both_met a.source b.source s fb.0 gb.0)
    (both_met a.tag b.tag t fb.1 gb.1)
  where
    all : (x y z : Bool) → x ≡ true → y ≡ true → z ≡ true → (x && (y && z)) ≡ true
    all true true true f g h = refl
    all true true false f g h = absurd cc
    all true false z f g h = absurd cc
    all false y z f g h = absurd cc

no_clash : (a b : LateReceive) (p q : Receive) → IsWritten a p → IsWritten b q → clash a b ≡ false → IsApart p q
no_clash a b p q f g h m k =
    other (accepts p m)
    (λ e.
    clashes (both_take a b m.context m.sender.rank m.tag (takes_accepts a p m f ∙ e) (takes_accepts b q m g ∙ k)))
  where
    other : (x : Bool) → (x ≡ true → ⊥) → x ≡ false
    other true n = absurd (n refl)
    other false n = refl

    clashes : clash a b ≡ true → ⊥
    clashes e = absurd cc

-- PLACES IN THE ROW

abbrev is_it : (operation : ℕ) → LateReceive → Bool
is_it operation r = r.operation == operation

one_further : (b : Bool) (i : ℕ) (there here : Option ℕ) → there ≡ option_map (λ k. suc k) here →
    cond b (Some (suc i)) there ≡ option_map (λ k. suc k) (cond b (Some i) here)
one_further true i there here h = refl
one_further false i there here h = h

shifted : (f : LateReceive → Bool) (rs : List LateReceive) (i : ℕ) →
    position_from f (suc i) rs ≡ option_map (λ k. suc k) (position_from f i rs)
shifted f [] i = refl
shifted f (r ∷ rs) i =
    let same : suc i + 1 ≡ suc (i + 1) = omega arith in
    one_further (f r) i (position_from f (suc i + 1) rs) (position_from f (i + 1) rs)
    (ap (λ v. position_from f v rs) same ∙ shifted f rs (i + 1))

place_behind : (r : LateReceive) (rs : List LateReceive) (op : ℕ) →
    place_of (r ∷ rs) op ≡ cond (r.operation == op) (Some 0) (option_map (λ k. suc k) (place_of rs op))
place_behind r rs op =
    position_from-zero (is_it op) (r ∷ rs)
    ∙ ap (λ o. cond (r.operation == op) (Some 0) o)
    (shifted (is_it op) rs 0 ∙ ap (option_map (λ k. suc k)) (sym (position_from-zero (is_it op) rs)))

before_behind : (r : LateReceive) (rs : List LateReceive) (op : ℕ) →
    before (r ∷ rs) op ≡ cond (r.operation == op) [] (r ∷ before rs op)
before_behind r rs op =
    ap (before_place (r ∷ rs)) (place_behind r rs op) ∙ go (r.operation == op) (place_of rs op)
  where
    go : (b : Bool) (o : Option ℕ) →
        before_place (r ∷ rs) (cond b (Some 0) (option_map (λ k. suc k) o)) ≡ cond b [] (r ∷ before_place rs o)
    go true o = refl
    go false None = refl
    go false (Some k) = refl

at_behind : (r : LateReceive) (rs : List LateReceive) (op : ℕ) →
    at_place (r ∷ rs) (place_of (r ∷ rs) op)
    ≡ cond (r.operation == op) (Some r) (at_place rs (place_of rs op))
at_behind r rs op =
    ap (at_place (r ∷ rs)) (place_behind r rs op) ∙ go (r.operation == op) (place_of rs op)
  where
    go : (b : Bool) (o : Option ℕ) →
        at_place (r ∷ rs) (cond b (Some 0) (option_map (λ k. suc k) o)) ≡ cond b (Some r) (at_place rs o)
    go true o = refl
    go false None = refl
    go false (Some k) = refl

without_behind : (r : LateReceive) (rs : List LateReceive) (op : ℕ) →
    without (r ∷ rs) op ≡ cond (r.operation == op) rs (r ∷ without rs op)
without_behind r rs op =
    ap (without_place (r ∷ rs)) (place_behind r rs op) ∙ go (r.operation == op) (place_of rs op)
  where
    go : (b : Bool) (o : Option ℕ) →
        without_place (r ∷ rs) (cond b (Some 0) (option_map (λ k. suc k) o)) ≡ cond b rs (r ∷ without_place rs o)
    go true o = refl
    go false None = refl
    go false (Some k) = refl

-- WHAT A TEST OF THE ROW SAYS

module _ (number : ℕ → ℕ) (apart : (j k : ℕ) → number j ≡ number k → j ≡ k) where
  other_one : (r : LateReceive) (j i : ℕ) → r.operation ≡ number j → (r.operation == number (j + suc i)) ≡ false
  other_one r j i h =
      ne_eqb r.operation (number (j + suc i))
      (λ e. let same : j ≡ j + suc i = apart j (j + suc i) (sym h ∙ e) in absurd (omega arith))

  next : (j i : ℕ) → j + suc i ≡ suc j + i
  next j i = omega arith

  none_of_row : (T : LateReceive → Bool) (P : Receive → Type 0) →
      ((r : LateReceive) (q : Receive) → IsWritten r q → T r ≡ false → P q) → (row : Row) (rs : List LateReceive)
      (j : ℕ) → IsRowOf number j rs row → list_any T rs ≡ false → (i : ℕ) (q : Receive) →
      slice_get row i ≡ Some (Some q) →
      P q
  none_of_row T P one [] rs j is none i q h = absurd (none-some (Some q) h)
  none_of_row T P one (None ∷ row) rs j is none zero q h = absurd (none-some q (same_Some None (Some q) h))
  none_of_row T P one (None ∷ row) [] j is none (suc i) q h = none_of_row T P one row [] (suc j) is none i q h
  none_of_row T P one (None ∷ row) (r ∷ rs) j is none (suc i) q h =
      none_of_row T P one row (r ∷ rs) (suc j) is none i q h
  none_of_row T P one (Some p ∷ row) [] j is none i q h = absurd is
  none_of_row T P one (Some p ∷ row) (r ∷ rs) j is none zero q h =
      subst P (same_Some p q (same_Some (Some p) (Some q) h)) (one r p is.1 (or_parts (T r) (list_any T rs) none).0)
  none_of_row T P one (Some p ∷ row) (r ∷ rs) j is none (suc i) q h =
      none_of_row T P one row rs (suc j) is.2 (or_parts (T r) (list_any T rs) none).1 i q h

  none_before : (T : LateReceive → Bool) (P : Receive → Type 0) →
      ((r : LateReceive) (q : Receive) → IsWritten r q → T r ≡ false → P q) → (row : Row) (rs : List LateReceive)
      (j : ℕ) → IsRowOf number j rs row → (i : ℕ) → list_any T (before rs (number (j + i))) ≡ false →
      (k : ℕ) (q : Receive) → k < i → slice_get row k ≡ Some (Some q) →
      P q
  none_before T P one row rs j is zero none k q less h = absurd (omega arith)
  none_before T P one [] rs j is (suc i) none k q less h = absurd (none-some (Some q) h)
  none_before T P one (None ∷ row) rs j is (suc i) none zero q less h =
      absurd (none-some q (same_Some None (Some q) h))
  none_before T P one (None ∷ row) [] j is (suc i) none (suc k) q less h =
      none_before T P one row [] (suc j) is i
      (subst (λ v. list_any T (before [] (number v)) ≡ false) (next j i) none) k q (omega arith) h
  none_before T P one (None ∷ row) (r ∷ rs) j is (suc i) none (suc k) q less h =
      none_before T P one row (r ∷ rs) (suc j) is i
      (subst (λ v. list_any T (before (r ∷ rs) (number v)) ≡ false) (next j i) none) k q (omega arith) h
  none_before T P one (Some p ∷ row) [] j is (suc i) none k q less h = absurd is
  none_before T P one (Some p ∷ row) (r ∷ rs) j is (suc i) none k q less h =
      let behind : before (r ∷ rs) (number (j + suc i)) ≡ r ∷ before rs (number (j + suc i)) =
      before_behind r rs (number (j + suc i))
      ∙ ap (λ b. cond b [] (r ∷ before rs (number (j + suc i)))) (other_one r j i is.0) in
      let parts =
      or_parts (T r) (list_any T (before rs (number (j + suc i))))
      (subst (λ l. list_any T l ≡ false) behind none) in
      go k less h parts.0
      (λ v less h.
      none_before T P one row rs (suc j) is.2 i
      (subst (λ v. list_any T (before rs (number v)) ≡ false) (next j i) parts.1) v q less h)
    where
      go : (k : ℕ) → k < suc i → slice_get (Some p ∷ row) k ≡ Some (Some q) → T r ≡ false →
          ((v : ℕ) → v < i → slice_get row v ≡ Some (Some q) → P q) →
          P q
      go zero less h f g = subst P (same_Some p q (same_Some (Some p) (Some q) h)) (one r p is.1 f)
      go (suc k) less h f g = g k (omega arith) h

  -- the row has the receive that is kept back
  kept_at : (row : Row) (rs : List LateReceive) (j : ℕ) → IsRowOf number j rs row → (i : ℕ) (p : Receive) →
      slice_get row i ≡ Some (Some p) →
      (r : LateReceive) × (at_place rs (place_of rs (number (j + i))) ≡ Some r) × IsWritten r p
  kept_at [] rs j is i p h = absurd (none-some (Some p) h)
  kept_at (None ∷ row) rs j is zero p h = absurd (none-some p (same_Some None (Some p) h))
  kept_at (None ∷ row) [] j is (suc i) p h =
      subst
      (λ v.
      (r : LateReceive) × (at_place [] (place_of [] (number v)) ≡ Some r) × IsWritten r p)
      (sym (next j i))
      (kept_at row [] (suc j) is i p h)
  kept_at (None ∷ row) (x ∷ xs) j is (suc i) p h =
      subst
      (λ v.
      (r : LateReceive) × (at_place (x ∷ xs) (place_of (x ∷ xs) (number v)) ≡ Some r) × IsWritten r p)
      (sym (next j i))
      (kept_at row (x ∷ xs) (suc j) is i p h)
  kept_at (Some q ∷ row) [] j is i p h = absurd is
  kept_at (Some q ∷ row) (x ∷ xs) j is zero p h =
      let here : j ≡ j + zero = omega arith in
      let test : (x.operation == number (j + zero)) ≡ true =
      eq-eqb x.operation (number (j + zero)) (is.0 ∙ ap number here) in (
        x,
        at_behind x xs (number (j + zero))
            ∙ ap (λ b. cond b (Some x) (at_place xs (place_of xs (number (j + zero))))) test,
        subst (λ v. IsWritten x v) (same_Some q p (same_Some (Some q) (Some p) h)) is.1,
      )
  kept_at (Some q ∷ row) (x ∷ xs) j is (suc i) p h =
      let its = kept_at row xs (suc j) is.2 i p h in (
        its.0,
        at_behind x xs (number (j + suc i))
            ∙ ap (λ b. cond b (Some x) (at_place xs (place_of xs (number (j + suc i))))) (other_one x j i is.0)
            ∙ ap (λ v. at_place xs (place_of xs (number v))) (next j i) ∙ its.1,
        its.2,
      )

  -- THE ROW GOES ON

  one_kept : (row : Row) (rs : List LateReceive) (j : ℕ) (r : LateReceive) (p : Receive) → IsRowOf number j rs row →
      IsWritten r p → r.operation ≡ number (j + length row) →
      IsRowOf number j (rs ++ r ∷ []) (row ++ Some p ∷ [])
  one_kept [] [] j r p is h e =
      let here : j + 0 ≡ j = omega arith in (e ∙ ap number here, h, tt)
  one_kept [] (x ∷ xs) j r p is h e = absurd is
  one_kept (None ∷ row) [] j r p is h e = one_kept row [] (suc j) r p is h (e ∙ ap number (next j (length row)))
  one_kept (None ∷ row) (x ∷ xs) j r p is h e =
      one_kept row (x ∷ xs) (suc j) r p is h (e ∙ ap number (next j (length row)))
  one_kept (Some q ∷ row) [] j r p is h e = absurd is
  one_kept (Some q ∷ row) (x ∷ xs) j r p is h e =
      (is.0, is.1, one_kept row xs (suc j) r p is.2 h (e ∙ ap number (next j (length row))))

  one_started : (row : Row) (rs : List LateReceive) (j : ℕ) → IsRowOf number j rs row →
      IsRowOf number j rs (row ++ None ∷ [])
  one_started [] [] j is = tt
  one_started [] (x ∷ xs) j is = absurd is
  one_started (None ∷ row) [] j is = one_started row [] (suc j) is
  one_started (None ∷ row) (x ∷ xs) j is = one_started row (x ∷ xs) (suc j) is
  one_started (Some q ∷ row) [] j is = absurd is
  one_started (Some q ∷ row) (x ∷ xs) j is = (is.0, is.1, one_started row xs (suc j) is.2)

  one_told : (row : Row) (rs : List LateReceive) (j : ℕ) → IsRowOf number j rs row → (i : ℕ) (p : Receive) →
      slice_get row i ≡ Some (Some p) →
      IsRowOf number j (without rs (number (j + i))) (told_of row i)
  one_told [] rs j is i p h = absurd (none-some (Some p) h)
  one_told (None ∷ row) rs j is zero p h = absurd (none-some p (same_Some None (Some p) h))
  one_told (None ∷ row) [] j is (suc i) p h = told_none [] (one_told row [] (suc j) is i p h)
    where
      told_none : (rs : List LateReceive) → IsRowOf number (suc j) (without rs (number (suc j + i))) (told_of row i) →
          IsRowOf number j (without rs (number (j + suc i))) (None ∷ told_of row i)
      told_none rs g = none_first _ (subst (λ v. IsRowOf number (suc j) (without rs (number v)) (told_of row i))
          (sym (next j i)) g)
        where
          none_first : (ys : List LateReceive) → IsRowOf number (suc j) ys (told_of row i) →
              IsRowOf number j ys (None ∷ told_of row i)
          none_first [] g = g
          none_first (y ∷ ys) g = g
  one_told (None ∷ row) (x ∷ xs) j is (suc i) p h = told_none (x ∷ xs) (one_told row (x ∷ xs) (suc j) is i p h)
    where
      told_none : (rs : List LateReceive) → IsRowOf number (suc j) (without rs (number (suc j + i))) (told_of row i) →
          IsRowOf number j (without rs (number (j + suc i))) (None ∷ told_of row i)
      told_none rs g = none_first (without rs (number (j + suc i)))
          (subst (λ v. IsRowOf number (suc j) (without rs (number v)) (told_of row i)) (sym (next j i)) g)
        where
          none_first : (ys : List LateReceive) → IsRowOf number (suc j) ys (told_of row i) →
              IsRowOf number j ys (None ∷ told_of row i)
          none_first [] g = g
          none_first (y ∷ ys) g = g
  one_told (Some q ∷ row) [] j is i p h = absurd is
  one_told (Some q ∷ row) (x ∷ xs) j is zero p h =
      let here : j ≡ j + zero = omega arith in
      let test : (x.operation == number (j + zero)) ≡ true =
      eq-eqb x.operation (number (j + zero)) (is.0 ∙ ap number here) in
      let rest : without (x ∷ xs) (number (j + zero)) ≡ xs =
      without_behind x xs (number (j + zero))
      ∙ ap (λ b. cond b xs (x ∷ without xs (number (j + zero)))) test in
      subst (λ ys. IsRowOf number j ys (None ∷ row)) (sym rest) (none_first xs is.2)
    where
      none_first : (ys : List LateReceive) → IsRowOf number (suc j) ys row → IsRowOf number j ys (None ∷ row)
      none_first [] g = g
      none_first (y ∷ ys) g = g
  one_told (Some q ∷ row) (x ∷ xs) j is (suc i) p h =
      let rest : without (x ∷ xs) (number (j + suc i)) ≡ x ∷ without xs (number (j + suc i)) =
      without_behind x xs (number (j + suc i))
      ∙ ap (λ b. cond b xs (x ∷ without xs (number (j + suc i)))) (other_one x j i is.0) in
      subst (λ ys. IsRowOf number j ys (Some q ∷ told_of row i)) (sym rest) (
        is.0,
        is.1,
        subst (λ v. IsRowOf number (suc j) (without xs (number v)) (told_of row i)) (sym (next j i))
            (one_told row xs (suc j) is.2 i p h),
      )

  from_zero : (i : ℕ) → i ≡ 0 + i
  from_zero i = omega arith

  says : (rs : List LateReceive) (row : Row) → IsRowOf number 0 rs row → Says number rs row
  says rs row is =
      record {
        at_once = λ r p w no j q less h.
            none_of_row (λ b. clash b r) (λ q. IsApart q p) (λ b q v f. no_clash b r q p v w f) row rs 0 is
            (waits_not r no) j q h;
        finds = λ m no j q less h.
            none_of_row (λ r. takes r m.context m.sender.rank m.tag) (λ q. accepts q m ≡ false)
            (λ r q v f. sym (takes_accepts r q m v) ∙ f) row rs 0 is no j q h;
        names = λ i p m k no j q less h.
            none_before (λ r. takes r m.context m.sender.rank m.tag) (λ q. accepts q m ≡ false)
            (λ r q v f. sym (takes_accepts r q m v) ∙ f) row rs 0 is i
            (subst (λ v. wanted (before rs (number v)) m.context m.sender.rank m.tag ≡ false) (from_zero i) no)
            j q less h;
        tells = λ i p k no j q less h.
            let its = kept_at row rs 0 is i p k in
            none_before (λ b. clash b its.0) (λ q. IsApart q p) (λ b q v f. no_clash b its.0 q p v its.2 f) row rs 0
            is i
            (subst (λ o. clashes_with (before rs (number (0 + i))) o ≡ false) its.1
            (subst (λ v. is_behind rs (number v) ≡ false) (from_zero i) no))
            j q less h;
        keeps = λ r p w e. one_kept row rs 0 r p is w (e ∙ ap number (from_zero (length row)));
        starts = one_started row rs 0 is;
        told = λ i p k.
            subst (λ v. IsRowOf number 0 (without rs (number v)) (told_of row i)) (sym (from_zero i))
            (one_told row rs 0 is i p k);
      }
    where
      waits_not : (r : LateReceive) → waits rs r ≡ false → list_any (λ b. clash b r) rs ≡ false
      waits_not r h = (or_parts (r.source == wildcard) (list_any (λ b. clash b r) rs) h).1

pub rows_keep_the_rules : RowsKeepTheRules
rows_keep_the_rules number rs row apart is = says number apart rs row is
