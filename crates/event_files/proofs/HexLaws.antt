-- Bytes in hexadecimal digits: reading and the grammar agree; and reading them by pairs, as a loop does.
use Rattle.std.proofs.Common.{◌≡◌, ℕ, zero, suc, ◌+◌, ◌-◌, ◌*◌, ◌<◌, ◌≤◌, Bool, true, false, leb, List, [], ◌∷◌, ◌++◌}
use Rattle.std.proofs.Common.{length, get_or, drop, Option, Some, None, refl, sym, ap, ◌∙◌, arith, inl, inr}
use Rattle.std.proofs.Common.{append_assoc}
use Rattle.std.specs.Prelude.{◌&&◌}
use Rattle.std.proofs.lemmas.Bool.{leb-true, le-leb}
use Rattle.std.proofs.lemmas.List.{append-nil, at_drop_more, at_drop_all}
use Rattle.tokens.specs.declared.fault.LineError.{LineError}
use Rattle.tokens.specs.declared.fault.LineError.TheVariants as errors
use Rattle.tokens.specs.Grammar.{Word}
use Rattle.tokens.specs.Results.{◌>>=◌, Fails}
use Rattle.tokens.proofs.WordLaws.{bind_ok, made, pick, and_true, no_test}
use Rattle.event_files.specs.Grammar.{IsDigit, AreBytes}
use Rattle.event_files.specs.LineWords.{digit_of, bytes_of}

both : (a b : Bool) → (a && b) ≡ true → (a ≡ true) × (b ≡ true)
both true b e = (refl, e)
both false b e = absurd cc

digit_takes : (byte value : ℕ) → digit_of byte ≡ Some value → IsDigit byte value
unfolding digit_of
digit_takes byte value e =
    pick (IsDigit byte) (leb 48 byte && leb byte 57) _ _ value
    (λ t f. let p = both (leb 48 byte) (leb byte 57) t in
    let low : 48 ≤ byte = leb-true _ _ p.0 in let high : byte ≤ 57 = leb-true _ _ p.1 in
    made (IsDigit byte) (byte - 48) value (inl (omega arith, omega arith)) f)
    (λ _ g. pick (IsDigit byte) (leb 97 byte && leb byte 102) _ _ value
    (λ t f. let p = both (leb 97 byte) (leb byte 102) t in
    let low : 97 ≤ byte = leb-true _ _ p.0 in let high : byte ≤ 102 = leb-true _ _ p.1 in
    made (IsDigit byte) (byte - 87) value (inr (omega arith, omega arith, omega arith)) f)
    (λ _ f. absurd cc) g) e

digit_again : (byte value : ℕ) → IsDigit byte value → digit_of byte ≡ Some value
unfolding digit_of
digit_again byte value (inl h) =
    let t : (leb 48 byte && leb byte 57) ≡ true = and_true (leb 48 byte) (leb byte 57) (le-leb _ _ (omega (arith, h.0))) (le-leb _ _ (omega (arith, h.0, h.1))) in
    let is : byte - 48 ≡ value = omega (arith, h.0) in
    rw t (ap (λ (n : ℕ). Some n) is)
digit_again byte value (inr h) =
    let t0 : (leb 48 byte && leb byte 57) ≡ false = no_test (leb 48 byte && leb byte 57) (λ e. let p = both (leb 48 byte) (leb byte 57) e in let le : byte ≤ 57 = leb-true _ _ p.1 in omega (arith, h.0, h.1)) in
    let t1 : (leb 97 byte && leb byte 102) ≡ true = and_true (leb 97 byte) (leb byte 102) (le-leb _ _ (omega (arith, h.0, h.1))) (le-leb _ _ (omega (arith, h.0, h.2))) in
    let is : byte - 87 ≡ value = omega (arith, h.0) in
    rw (t0, t1) (ap (λ (n : ℕ). Some n) is)

pub bytes_take : (word : Word) (bytes : List ℕ) → bytes_of word ≡ Some bytes → AreBytes word bytes
unfolding bytes_of
bytes_take [] bytes e = made (AreBytes []) [] bytes tt e
bytes_take (a ∷ []) bytes e = absurd cc
bytes_take (a ∷ b ∷ word) bytes e =
    let h = bind_ok (digit_of a) (λ high. digit_of b >>= λ low. bytes_of word >>= λ rest. Some ((16 * high + low) ∷ rest)) bytes e in
    let l = bind_ok (digit_of b) (λ low. bytes_of word >>= λ rest. Some ((16 * h.0 + low) ∷ rest)) bytes h.2 in
    let r = bind_ok (bytes_of word) (λ rest. Some ((16 * h.0 + l.0) ∷ rest)) bytes l.2 in
    made (AreBytes (a ∷ b ∷ word)) ((16 * h.0 + l.0) ∷ r.0) bytes (
      h.0,
      l.0,
      digit_takes a h.0 h.1,
      digit_takes b l.0 l.1,
      refl,
      bytes_take word r.0 r.1,
    ) r.2

pub bytes_again : (word : Word) (bytes : List ℕ) → AreBytes word bytes → bytes_of word ≡ Some bytes
unfolding bytes_of
bytes_again [] [] h = refl
bytes_again [] (x ∷ xs) h = absurd h
bytes_again (a ∷ []) bytes h = absurd h
bytes_again (a ∷ b ∷ word) [] h = absurd h
bytes_again (a ∷ b ∷ word) (x ∷ xs) h =
    let t0 = digit_again a h.0 h.2 in
    let t1 = digit_again b h.1 h.3 in
    let t2 = bytes_again word xs h.5 in
    rw (t0, t1, t2) (ap (λ (y : ℕ). Some (y ∷ xs)) (sym h.4))

-- ---- by pairs

nothing : (h l : Option ℕ) (read : Option (List ℕ)) → read ≡ None →
    (h >>= λ high. l >>= λ low. read >>= λ rest. Some ((16 * high + low) ∷ rest)) ≡ None
nothing None l read e = refl
nothing (Some x) None read e = refl
nothing (Some x) (Some y) read e = rw e refl

-- an odd number of digits spells nothing
pub odd : (word : Word) (k : ℕ) → length word ≡ k + k + 1 → bytes_of word ≡ None
unfolding bytes_of
odd [] k e = absurd (omega (arith, e))
odd (a ∷ []) k e = refl
odd (a ∷ b ∷ word) zero e = absurd (let q : length (b ∷ word) ≡ 0 = omega (arith, e) in (let r : ⊥ = absurd cc in r))
odd (a ∷ b ∷ word) (suc k) e =
    let shorter : length word ≡ k + k + 1 = omega (arith, e) in
    nothing (digit_of a) (digit_of b) (bytes_of word) (odd word k shorter)

-- bytes that were read, and those that are still read
abbrev pub with_bytes : List ℕ → Option (List ℕ) → Option (List ℕ)
with_bytes front read = read >>= λ rest. Some (front ++ rest)

regroup : (front : List ℕ) (x : ℕ) (read : Option (List ℕ)) → with_bytes (front ++ x ∷ []) read ≡
    with_bytes front (read >>= λ rest. Some (x ∷ rest))
regroup front x (Some xs) = ap (λ (ys : List ℕ). Some ys) (simp append_assoc)
regroup front x None = refl

-- the digits at a place
pair_here : (word : Word) (i : ℕ) → 2 * i + 1 < length word → drop (2 * i) word ≡ get_or word (2 * i) 0 ∷
    get_or word (2 * i + 1) 0 ∷ drop (2 * (i + 1)) word
pair_here word i lt =
    let first : 2 * i < length word = omega (arith, lt) in
    let next : 2 * i + 1 + 1 ≡ 2 * (i + 1) = omega arith in
    at_drop_more (λ (ws : Word). ws) word (2 * i) 0 first
    ∙ ap (λ (ws : Word). get_or word (2 * i) 0 ∷ ws) (at_drop_more (λ (ws : Word). ws) word (2 * i + 1) 0 lt)
    ∙ ap (λ (n : ℕ). get_or word (2 * i) 0 ∷ get_or word (2 * i + 1) 0 ∷ drop n word) next

pair_read : (front : List ℕ) (a b high low : ℕ) (word : Word) → digit_of a ≡ Some high → digit_of b ≡ Some low →
    with_bytes (front ++ (16 * high + low) ∷ []) (bytes_of word) ≡ with_bytes front (bytes_of (a ∷ b ∷ word))
unfolding bytes_of
pair_read front a b high low word ea eb = rw (ea, eb) (regroup front (16 * high + low) (bytes_of word))

pub pair_goes_on : (front : List ℕ) (high low : ℕ) (word : Word) (i : ℕ) → 2 * i + 1 < length word →
    digit_of (get_or word (2 * i) 0) ≡ Some high → digit_of (get_or word (2 * i + 1) 0) ≡ Some low
    → with_bytes front (bytes_of (drop (2 * i) word)) ≡ bytes_of word →
    with_bytes (front ++ (16 * high + low) ∷ []) (bytes_of (drop (2 * (i + 1)) word)) ≡ bytes_of word
pair_goes_on front high low word i lt ea eb so_far =
    pair_read front (get_or word (2 * i) 0) (get_or word (2 * i + 1) 0) high low (drop (2 * (i + 1)) word) ea eb
    ∙ ap (λ (ws : Word). with_bytes front (bytes_of ws)) (sym (pair_here word i lt)) ∙ so_far

no_first : (front : List ℕ) (a b : ℕ) (word : Word) → digit_of a ≡ None → with_bytes front (bytes_of (a ∷ b ∷ word)) ≡
    None
unfolding bytes_of
no_first front a b word e = rw e refl

no_next : (h l : Option ℕ) (read : Option (List ℕ)) → l ≡ None →
    (h >>= λ high. l >>= λ low. read >>= λ rest. Some ((16 * high + low) ∷ rest)) ≡ None
no_next None l read e = refl
no_next (Some x) l read e = rw e refl

no_second : (front : List ℕ) (a b : ℕ) (word : Word) → digit_of b ≡ None → with_bytes front (bytes_of (a ∷ b ∷ word)) ≡
    None
unfolding bytes_of
no_second front a b word e = ap (with_bytes front) (no_next (digit_of a) (digit_of b) (bytes_of word) e)

fails_on : {Y Z : Type 0} (e : LineError) (read : Option Y) (next : Option Z) → (read ≡ None → next ≡ None) →
    Fails e read → Fails e next
fails_on errors.OutOfMemory read next go h = tt
fails_on errors.Faulty read next go h = go h

pub first_ends : (e : LineError) (front : List ℕ) (word : Word) (i : ℕ) → 2 * i + 1 < length word →
    Fails e (digit_of (get_or word (2 * i) 0))
    → with_bytes front (bytes_of (drop (2 * i) word)) ≡ bytes_of word → Fails e (bytes_of word)
first_ends e front word i lt fails so_far =
    fails_on e (digit_of (get_or word (2 * i) 0)) (bytes_of word)
    (λ h. sym so_far ∙ ap (λ (ws : Word). with_bytes front (bytes_of ws)) (pair_here word i lt) ∙
    no_first front (get_or word (2 * i) 0) (get_or word (2 * i + 1) 0) (drop (2 * (i + 1)) word) h) fails

pub second_ends : (e : LineError) (front : List ℕ) (word : Word) (i : ℕ) → 2 * i + 1 < length word →
    Fails e (digit_of (get_or word (2 * i + 1) 0))
    → with_bytes front (bytes_of (drop (2 * i) word)) ≡ bytes_of word → Fails e (bytes_of word)
second_ends e front word i lt fails so_far =
    fails_on e (digit_of (get_or word (2 * i + 1) 0)) (bytes_of word)
    (λ h. sym so_far ∙ ap (λ (ws : Word). with_bytes front (bytes_of ws)) (pair_here word i lt) ∙
    no_second front (get_or word (2 * i) 0) (get_or word (2 * i + 1) 0) (drop (2 * (i + 1)) word) h) fails

nothing_left : (front : List ℕ) → with_bytes front (bytes_of []) ≡ Some front
unfolding bytes_of
nothing_left front = ap (λ (xs : List ℕ). Some xs) (append-nil front)

pub pairs_done : (front : List ℕ) (word : Word) (i : ℕ) → length word ≤ 2 * i →
    with_bytes front (bytes_of (drop (2 * i) word)) ≡ bytes_of word → bytes_of word ≡ Some front
pairs_done front word i le so_far =
    sym so_far ∙ ap (λ (ws : Word). with_bytes front (bytes_of ws)) (at_drop_all (λ (ws : Word). ws) word (2 * i) le) ∙
    nothing_left front
