-- Lemmas on the members at positions.
use Rattle.std.proofs.Common.{◌≡◌, ℕ, ◌+◌, ◌<◌, ◌≤◌, Bool, true, false, cond, not, List, [], ◌∷◌, ◌++◌, length, get_or}
use Rattle.std.proofs.Common.{nat_eq, zero, suc, refl, sym, ◌∙◌, ap, arith, map, filter, add-one, append-nil}
use Rattle.std.specs.List.{All, range_with_len}
use Rattle.std.proofs.lemmas.Bool.{eqb-true, eqb-false, ne_eqb}
use Rattle.std.proofs.lemmas.List.{get_or-map, length-map, map-append}
use Rattle.std.proofs.lemmas.List.Elements.{filter-append, All-filter, All-get_or}
use Rattle.std.proofs.lemmas.List.FromFn.{get_or-range_with_len, length-range_with_len}
use Rattle.std.proofs.lemmas.Map.Keys.{IsDistinct-from_apart, apart_from_distinct}
use Rattle.groups.specs.Groups.{is_member, HasNoRepeats, ArePositions, members_at, other_positions, members_elsewhere}
use Rattle.groups.proofs.Repeats.{HasNoRepeats-filter, HasNoRepeats-range_with_len, apart_at}

-- the members at positions that are there, none of them twice
pub HasNoRepeats-members_at : (group positions : List ℕ) → HasNoRepeats group → ArePositions group positions
    → HasNoRepeats positions → HasNoRepeats (members_at group positions)
HasNoRepeats-members_at group positions apart there once =
    IsDistinct-from_apart nat_eq (members_at group positions) (λ i j d i<j j<len.
    let within : j < length positions = omega (arith, j<len, length-map positions (λ position. get_or group position 0)) in
    let inside : i < length positions = omega arith in
    let at_i = get_or-map (λ position. get_or group position 0) positions i 0 d inside in
    let at_j = get_or-map (λ position. get_or group position 0) positions j 0 d within in
    ne_eqb _ _ (λ same. apart_at group (get_or positions i 0) (get_or positions j 0) apart
    (λ equal. eqb-false _ _ (apart_from_distinct nat_eq positions i j 0 once i<j within) equal)
    (there i 0 inside) (there j 0 within) (sym at_i ∙ same ∙ at_j)))

-- the positions that aren't listed are there
ArePositions-other_positions : (group positions : List ℕ) → ArePositions group (other_positions group positions)
ArePositions-other_positions group positions =
    All-filter (λ position. not (is_member positions position)) (λ position. position < length group)
    (range_with_len 0 (length group))
    (λ k d k<len.
    let within : k < length group = omega (arith, k<len, length-range_with_len 0 (length group)) in
    rw (get_or-range_with_len 0 (length group) k d within) (omega arith))

-- the members at all other positions
pub HasNoRepeats-members_elsewhere : (group positions : List ℕ) → HasNoRepeats group
    → HasNoRepeats (members_elsewhere group positions)
HasNoRepeats-members_elsewhere group positions apart =
    HasNoRepeats-members_at group (other_positions group positions) apart (ArePositions-other_positions group positions)
    (HasNoRepeats-filter (λ position. not (is_member positions position)) (range_with_len 0 (length group))
    (HasNoRepeats-range_with_len 0 (length group)))

-- one more number in a range
pub range_with_len-suc : (a n : ℕ) → range_with_len a (suc n) ≡ range_with_len a n ++ (a + n) ∷ []
range_with_len-suc a zero = let same : a ≡ a + 0 = omega arith in ap (λ k. k ∷ []) same
range_with_len-suc a (suc n) =
    let same : a + 1 + n ≡ a + suc n = omega arith in
    ap (λ xs. a ∷ xs) (range_with_len-suc (a + 1) n ∙ ap (λ k. range_with_len (a + 1) n ++ k ∷ []) same)

-- one more number in a range from zero
range_with_len-more : (n : ℕ) → range_with_len 0 (n + 1) ≡ range_with_len 0 n ++ n ∷ []
range_with_len-more n =
    let zero_plus : 0 + n ≡ n = omega arith in
    rw add-one (range_with_len-suc 0 n ∙ ap (λ k. range_with_len 0 n ++ k ∷ []) zero_plus)

-- the positions below this one that aren't listed
abbrev pub unlisted : List ℕ → ℕ → List ℕ
unlisted positions n = filter (λ position. not (is_member positions position)) (range_with_len 0 n)

-- one more position, which is listed or isn't
elsewhere_more : (ranks : List ℕ) (p : ℕ → Bool) (i : ℕ)
    → members_at ranks (filter p (range_with_len 0 (i + 1))) ≡ members_at ranks (filter p (range_with_len 0 i)) ++
    cond (p i) (get_or ranks i 0 ∷ []) []
elsewhere_more ranks p i =
    ap (λ positions. members_at ranks (filter p positions)) (range_with_len-more i)
    ∙ ap (members_at ranks) (filter-append p (range_with_len 0 i) (i ∷ []))
    ∙ map-append (λ position. get_or ranks position 0) (filter p (range_with_len 0 i)) (filter p (i ∷ []))
    ∙ ap (λ last. members_at ranks (filter p (range_with_len 0 i)) ++ last) (one (p i))
  where
    one : (b : Bool) → map (λ position. get_or ranks position 0) (cond b (i ∷ []) []) ≡
        cond b (get_or ranks i 0 ∷ []) []
    one true = refl
    one false = refl

-- a position that isn't listed
pub pushed_elsewhere : (ranks positions : List ℕ) (i : ℕ) → is_member positions i ≡ false
    → members_at ranks (unlisted positions i) ++ get_or ranks i 0 ∷ [] ≡ members_at ranks (unlisted positions (i + 1))
pushed_elsewhere ranks positions i absent =
    sym (elsewhere_more ranks (λ p. not (is_member positions p)) i
    ∙ ap (λ b. members_at ranks (unlisted positions i) ++ cond (not b) (get_or ranks i 0 ∷ []) []) absent)

-- a position that is listed
pub passed_over : (ranks positions : List ℕ) (i : ℕ) → is_member positions i ≡ true
    → members_at ranks (unlisted positions i) ≡ members_at ranks (unlisted positions (i + 1))
passed_over ranks positions i listed =
    sym (elsewhere_more ranks (λ p. not (is_member positions p)) i
    ∙ ap (λ b. members_at ranks (unlisted positions i) ++ cond (not b) (get_or ranks i 0 ∷ []) []) listed
    ∙ append-nil (members_at ranks (unlisted positions i)))
