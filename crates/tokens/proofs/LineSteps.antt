-- Lines one after the other, as a loop reads them.
use Rattle.std.proofs.Common.{◌≡◌, ℕ, ◌+◌, ◌≤◌, List, [], ◌∷◌, ◌++◌, length, drop, Option, Some, None, Result, Ok, Err}
use Rattle.std.proofs.Common.{refl, sym, ap, subst, ◌∙◌, append_assoc}
use Rattle.std.proofs.lemmas.List.{append-nil}
use Rattle.std.specs.Borrow.{Bor}
use Rattle.tokens.specs.declared.fault.LineError.{LineError}
use Rattle.tokens.specs.declared.fault.LineError.TheVariants as errors
use Rattle.tokens.specs.Grammar.{Word}
use Rattle.tokens.specs.Results.{◌>>=◌, Fails}
use Rattle.tokens.specs.Lines.{said_in, item_in, line_of, with_front, lines_from}
use Rattle.tokens.proofs.Lists.{shown, shown_all}

regroup : {A : Type 0} (front more : List A) (read : Result (List A) ℕ) → with_front (front ++ more) read ≡
    with_front front (with_front more read)
regroup {A} front more (Ok x) = ap (λ (xs : List A). Ok xs) (simp append_assoc)
regroup front more (Err n) = refl

pub no_lines : {A : Type 0} (read : Result (List A) ℕ) → with_front [] read ≡ read
no_lines (Ok x) = refl
no_lines (Err n) = refl

-- the line says nothing that is in the language
pub line_faulty : {A : Type 0} (read : ℕ → List Word → Option A) (front : List A) (number : ℕ) (line : List ℕ)
    (rest : List (List ℕ)) (e : LineError) → e ≡ errors.Faulty → Fails e (line_of (read number) line)
    → with_front front (lines_from read number (line ∷ rest)) ≡ Err number
unfolding lines_from
line_faulty {A} read front number line rest error is h =
    let e : line_of (read number) line ≡ None = subst (λ (f : LineError). Fails f (line_of (read number) line)) is h in
    rw e refl

-- the line is skipped
pub line_skipped : {A : Type 0} (read : ℕ → List Word → Option A) (front : List A) (number : ℕ) (line : List ℕ)
    (rest : List (List ℕ)) (item : Option A) → item ≡ None → line_of (read number) line ≡ Some item
    → with_front front (lines_from read (number + 1) rest) ≡ with_front front (lines_from read number (line ∷ rest))
unfolding lines_from
line_skipped {A} read front number line rest item is h =
    let e : line_of (read number) line ≡ Some None = h ∙ ap (λ (o : Option A). Some o) is in rw e
    (ap (with_front front) (sym (no_lines (lines_from read (number + 1) rest))))

-- the line says an item
pub line_read : {A : Type 0} (read : ℕ → List Word → Option A) (front : List A) (number : ℕ) (line : List ℕ) (item : A)
    (rest : List (List ℕ)) → line_of (read number) line ≡ Some (Some item)
    → with_front (front ++ item ∷ []) (lines_from read (number + 1) rest) ≡
    with_front front (lines_from read number (line ∷ rest))
unfolding lines_from
line_read {A} read front number line item rest e = rw e (regroup front (item ∷ []) (lines_from read (number + 1) rest))

nothing_left : {A : Type 0} (read : ℕ → List Word → Option A) (front : List A) (number : ℕ) →
    with_front front (lines_from read number []) ≡ Ok front
unfolding lines_from
nothing_left {A} read front number = ap (λ (xs : List A). Ok xs) (append-nil front)

-- a loop over lines that is at its end
pub all_read : {A : Type 0} (read : ℕ → List Word → Option A) (front : List A) (number i : ℕ)
    (items : List (Bor (List ℕ))) (gave : Result (List A) ℕ) → length items ≤ i
    → with_front front (lines_from read number (shown (drop i items))) ≡ gave → gave ≡ Ok front
all_read {A} read front number i items gave le so_far =
    sym so_far ∙ ap (λ (ls : List (List ℕ)). with_front front (lines_from read number ls)) (shown_all items i le) ∙
    nothing_left read front number

-- ---- a line that is read first, and then gets its number

made_by : {A B : Type 0} (read : List Word → Option A) (make : A → B) (said : Option (Option (List Word)))
    (item : Option (Option A)) → (said >>= λ s. item_in read s) ≡ item
    → (said >>= λ s. item_in (λ words. read words >>= λ x. Some (make x)) s) ≡
    (item >>= λ o. Some (o >>= λ x. Some (make x)))
made_by read make None None e = refl
made_by read make None (Some o) e = absurd cc
made_by read make (Some None) (Some None) e = refl
made_by read make (Some None) (Some (Some x)) e = absurd cc
made_by read make (Some None) None e = absurd cc
made_by {A} {B} read make (Some (Some words)) item e = go (read words) item e where
  go : (r : Option A) (i : Option (Option A)) → (r >>= λ x. Some (Some x)) ≡ i →
      (r >>= (λ x. Some (make x)) >>= λ y. Some (Some y)) ≡ (i >>= λ o. Some (o >>= λ x. Some (make x)))
  go None None e = refl
  go None (Some o) e = absurd cc
  go (Some x) None e = absurd cc
  go (Some x) (Some None) e = absurd cc
  go (Some x) (Some (Some y)) e = let same : x ≡ y = cc in ap (λ (z : A). Some (Some (make z))) same

-- what is read of a line, where each item that its words spell is made into another
pub line_made : {A B : Type 0} (read : List Word → Option A) (make : A → B) (line : List ℕ) (item : Option (Option A)) →
    line_of read line ≡ item
    → line_of (λ words. read words >>= λ x. Some (make x)) line ≡ (item >>= λ o. Some (o >>= λ x. Some (make x)))
unfolding line_of
line_made read make line item e = made_by read make (said_in line) item e
