-- Lines and the ends of lines.
use Rattle.std.proofs.Common.{◌≡◌, ◌⊎◌, ℕ, zero, suc, ◌+◌, ◌-◌, ◌<◌, ◌≤◌, Bool, true, false, List, [], ◌∷◌, ◌++◌, length, take, drop}
use Rattle.std.proofs.Common.{refl, sym, ap, subst, ◌∙◌, append_assoc, inl, inr, arith}
use Rattle.std.specs.Prelude.{slice_index, ◌==◌}
use Rattle.launch_keeper.specs.JoinedOutput.{IsLine, ended}
use Rattle.rank_lines.specs.Lines.{AreEnded, IsWholeLength, IsTaken}

line_at : (bytes : List ℕ) (n : ℕ) → n < length bytes → (slice_index bytes n ≡ 10 → ⊥) → IsLine (drop (suc n) bytes) →
    IsLine (drop n bytes)
line_at [] n lt other rest = absurd (omega (arith, lt))
line_at (byte ∷ bytes) zero lt other rest = (other, rest)
line_at (byte ∷ bytes) (suc n) lt other rest = line_at bytes n (omega (arith, lt)) other rest

ends_at : (bytes : List ℕ) (n : ℕ) → n < length bytes → slice_index bytes n ≡ 10 →
    take (suc n) bytes ≡ ended (take n bytes)
ends_at [] n lt is = absurd (omega (arith, lt))
ends_at (byte ∷ bytes) zero lt is = ap (λ (b : ℕ). b ∷ []) is
ends_at (byte ∷ bytes) (suc n) lt is = ap (λ (l : List ℕ). byte ∷ l) (ends_at bytes n (omega (arith, lt)) is)

-- no line ends at the byte in front of this place
pub rest_longer : (bytes : List ℕ) (place : ℕ) → 0 < place → place ≤ length bytes →
    (slice_index bytes (place - 1) ≡ 10 → ⊥) → IsLine (drop place bytes) → IsLine (drop (place - 1) bytes)
rest_longer bytes zero some within other rest = absurd (omega (arith, some))
rest_longer bytes (suc n) some within other rest =
    let e : n ≡ suc n - 1 = omega arith in
    subst (λ (k : ℕ). IsLine (drop k bytes)) e
    (line_at bytes n (omega (arith, within)) (λ is. other (ap (λ (k : ℕ). slice_index bytes k) (sym e) ∙ is)) rest)

-- a line ends there
pub ends_there : (bytes : List ℕ) (place : ℕ) → 0 < place → place ≤ length bytes → slice_index bytes (place - 1) ≡ 10 →
    AreEnded (take place bytes)
ends_there bytes zero some within is = absurd (omega (arith, some))
ends_there bytes (suc n) some within is =
    let e : n ≡ suc n - 1 = omega arith in
    inr (take n bytes, ends_at bytes n (omega (arith, within)) (ap (λ (k : ℕ). slice_index bytes k) e ∙ is))

-- nothing stands behind all bytes
pub line_end : (bytes : List ℕ) → IsLine (drop (length bytes) bytes)
line_end [] = tt
line_end (byte ∷ bytes) = line_end bytes

pub joined_line : (a b : List ℕ) → IsLine a → IsLine b → IsLine (a ++ b)
joined_line [] b la lb = lb
joined_line (x ∷ a) b la lb = (la.0, joined_line a b la.1 lb)

-- behind the beginning of a line
pub joined_ended : (old lines : List ℕ) → AreEnded lines → (lines ≡ [] → ⊥) → AreEnded (old ++ lines)
joined_ended old lines (inl none) some = absurd (some none)
joined_ended old lines (inr e) some = inr (old ++ e.0, ap (λ (l : List ℕ). old ++ l) e.1 ∙ sym (append_assoc old e.0 (10 ∷ [])))

-- what comes is whole lines, and the beginning of one
both_parts : (bytes : List ℕ) (n : ℕ) → bytes ≡ take n bytes ++ drop n bytes
both_parts [] zero = refl
both_parts [] (suc n) = refl
both_parts (byte ∷ bytes) zero = refl
both_parts (byte ∷ bytes) (suc n) = ap (λ (l : List ℕ). byte ∷ l) (both_parts bytes n)

-- where no line ends in what comes, all is kept
pub taken_none : (old more : List ℕ) (n : ℕ) → IsWholeLength more n → take n more ≡ [] → IsLine old →
    IsTaken (old ++ more) [] (old ++ drop n more)
taken_none old more n is none line = record {
  nothing_lost = ap (λ (l : List ℕ). old ++ l) (both_parts more n ∙ ap (λ (l : List ℕ). l ++ drop n more) none);
  are_whole = inl refl;
  rest_is_line = joined_line old (drop n more) line is.rest;
}

-- where one does, what was kept stands in front of the lines
pub taken_some : (old more : List ℕ) (n : ℕ) → IsWholeLength more n → (take n more ≡ [] → ⊥) →
    IsTaken (old ++ more) (old ++ take n more) (drop n more)
taken_some old more n is some = record {
  nothing_lost =
      ap (λ (l : List ℕ). old ++ l) (both_parts more n) ∙ sym (append_assoc old (take n more) (drop n more));
  are_whole = joined_ended old (take n more) is.lines some;
  rest_is_line = is.rest;
}

some_bytes : (bytes : List ℕ) → (length bytes == 0) ≡ false → bytes ≡ [] → ⊥
some_bytes [] e none = absurd cc
some_bytes (byte ∷ bytes) e none = absurd cc

-- the same, as the function knows it
pub taken_by : (old more whole rest lines left before : List ℕ) (n : ℕ) → IsWholeLength more n → whole ≡ take n more →
    rest ≡ drop n more → (length whole == 0) ≡ false → before ≡ old → lines ≡ before ++ whole → left ≡ rest →
    IsTaken (old ++ more) lines left
taken_by old more whole rest lines left before n is whole_is rest_is some before_is lines_are left_is =
    let taken = taken_some old more n is (λ none. some_bytes whole some (whole_is ∙ none)) in
    let lines_of : old ++ take n more ≡ lines =
    sym (lines_are ∙ ap (λ (l : List ℕ). l ++ whole) before_is ∙ ap (λ (l : List ℕ). old ++ l) whole_is) in
    let left_of : drop n more ≡ left = sym (left_is ∙ rest_is) in
    subst (λ (l : List ℕ). IsTaken (old ++ more) lines l) left_of
    (subst (λ (l : List ℕ). IsTaken (old ++ more) l (drop n more)) lines_of taken)
