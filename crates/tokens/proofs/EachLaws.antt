-- What the words give one after the other, as a loop reads them.
use Rattle.std.proofs.Common.{◌≡◌, ℕ, ◌+◌, ◌<◌, ◌≤◌, List, [], ◌∷◌, ◌++◌, length, get_or, drop, Option, Some, None}
use Rattle.std.proofs.Common.{refl, sym, ap, ◌∙◌, append_assoc}
use Rattle.std.proofs.lemmas.List.{append-nil, at_drop_more, at_drop_all}
use Rattle.tokens.specs.declared.fault.LineError.{LineError}
use Rattle.tokens.specs.declared.fault.LineError.TheVariants as errors
use Rattle.tokens.specs.Grammar.{Word, StandFor}
use Rattle.tokens.specs.Results.{◌>>=◌, Fails}
use Rattle.tokens.proofs.WordLaws.{bind_ok, made}
use Rattle.tokens.specs.Fields.{each, one}

-- what was read before, and what is still read
abbrev pub with_more : {A : Type 0} → List A → Option (List A) → Option (List A)
with_more front read = read >>= λ rest. Some (front ++ rest)

regroup : {A : Type 0} (front more : List A) (read : Option (List A)) →
    with_more front (read >>= λ rest. Some (more ++ rest)) ≡ with_more (front ++ more) read
regroup {A} front more (Some x) = ap (λ (xs : List A). Some xs) (simp append_assoc)
regroup front more None = refl

one_more : {A : Type 0} (read : Word → Option (List A)) (front more : List A) (word : Word) (words : List Word) →
    read word ≡ Some more → with_more front (each read (word ∷ words)) ≡ with_more (front ++ more) (each read words)
unfolding each
one_more read front more word words e = rw e (regroup front more (each read words))

no_more : {A : Type 0} (read : Word → Option (List A)) (front : List A) (word : Word) (words : List Word) →
    read word ≡ None → with_more front (each read (word ∷ words)) ≡ None
unfolding each
no_more read front word words e = rw e refl

item_here : (words : List Word) (i : ℕ) (word : Word) → i < length words → word ≡ get_or words i word →
    drop i words ≡ word ∷ drop (i + 1) words
item_here words i word lt is = at_drop_more (λ (ws : List Word). ws) words i word lt ∙
    ap (λ (w : Word). w ∷ drop (i + 1) words) (sym is)

-- the word at this place gave more
pub each_goes_on : {A : Type 0} (read : Word → Option (List A)) (front more : List A) (words : List Word) (i : ℕ)
    (word : Word) → i < length words → word ≡ get_or words i word → read word ≡ Some more
    → with_more front (each read (drop i words)) ≡ each read words →
    with_more (front ++ more) (each read (drop (i + 1) words)) ≡ each read words
each_goes_on {A} read front more words i word lt is e so_far =
    let here = item_here words i word lt is in
    sym (one_more read front more word (drop (i + 1) words) e) ∙
    ap (λ (ws : List Word). with_more front (each read ws)) (sym here) ∙ so_far

-- a line that failed fails so too
fails_on : {Y Z : Type 0} (e : LineError) (read : Option Y) (next : Option Z) → (read ≡ None → next ≡ None) →
    Fails e read → Fails e next
fails_on errors.OutOfMemory read next go h = tt
fails_on errors.Faulty read next go h = go h

-- the word at this place gave nothing
pub each_ends : {A : Type 0} (read : Word → Option (List A)) (e : LineError) (front : List A) (words : List Word)
    (i : ℕ) (word : Word) → i < length words → word ≡ get_or words i word → Fails e (read word)
    → with_more front (each read (drop i words)) ≡ each read words → Fails e (each read words)
each_ends read e front words i word lt is fails so_far =
    let here = item_here words i word lt is in
    fails_on e (read word) (each read words)
    (λ h. sym so_far ∙ ap (λ (ws : List Word). with_more front (each read ws)) here ∙
    no_more read front word (drop (i + 1) words) h) fails

nothing_left : {A : Type 0} (read : Word → Option (List A)) (front : List A) → with_more front (each read []) ≡
    Some front
unfolding each
nothing_left {A} read front = ap (λ (xs : List A). Some xs) (append-nil front)

pub each_is_done : {A : Type 0} (read : Word → Option (List A)) (front : List A) (words : List Word) (i : ℕ) →
    length words ≤ i → with_more front (each read (drop i words)) ≡ each read words → each read words ≡ Some front
each_is_done read front words i le so_far =
    sym so_far ∙
    ap (λ (ws : List Word). with_more front (each read ws)) (at_drop_all (λ (ws : List Word). ws) words i le) ∙
    nothing_left read front

-- ---- one item for each word

pub bind_fails : {A B : Type 0} (e : LineError) (read : Option A) (f : A → Option B) → Fails e read →
    Fails e (read >>= f)
bind_fails {A} {B} errors.OutOfMemory read f h = tt
bind_fails {A} {B} errors.Faulty read f h = ap (λ (r : Option A). r >>= f) h

pub one_fails : {A : Type 0} (read : Word → Option A) (e : LineError) (bytes word : Word) → bytes ≡ word →
    Fails e (read bytes) → Fails e (one read word)
one_fails {A} read e bytes word is h = bind_fails e (read word) (λ (item : A). Some (item ∷ [])) (rw (sym is) h)

pub one_is : {A : Type 0} (read : Word → Option A) (item : A) (bytes word : Word) → bytes ≡ word →
    read bytes ≡ Some item → one read word ≡ Some (item ∷ [])
one_is read item bytes word is h = let e : read word ≡ Some item = ap read (sym is) ∙ h in rw e refl

pub all_take : {A : Type 0} (Is : Word → A → Type 0) (read : Word → Option A) →
    ((word : Word) (x : A) → read word ≡ Some x → Is word x) → (words : List Word) (xs : List A) →
    each (one read) words ≡ Some xs → StandFor Is words xs
unfolding each
all_take Is read takes [] [] e = tt
all_take Is read takes [] (x ∷ xs) e = absurd cc
all_take {A} Is read takes (w ∷ ws) xs e =
    let a = bind_ok (one read w) (λ front. each (one read) ws >>= λ rest. Some (front ++ rest)) xs e in
    let q = bind_ok (read w) (λ (item : A). Some (item ∷ [])) a.0 a.1 in
    let b = bind_ok (each (one read) ws) (λ rest. Some (a.0 ++ rest)) xs a.2 in
    let there : StandFor Is (w ∷ ws) (q.0 ∷ b.0) = (takes w q.0 q.1, all_take Is read takes ws b.0 b.1) in
    let front : a.0 ≡ q.0 ∷ [] = made (λ x. x ≡ q.0 ∷ []) (q.0 ∷ []) a.0 refl q.2 in
    made (StandFor Is (w ∷ ws)) (q.0 ∷ b.0) xs there (ap (λ (x : List A). Some (x ++ b.0)) (sym front) ∙ b.2)

pub all_again : {A : Type 0} (Is : Word → A → Type 0) (read : Word → Option A) →
    ((word : Word) (x : A) → Is word x → read word ≡ Some x) → (words : List Word) (xs : List A) →
    StandFor Is words xs → each (one read) words ≡ Some xs
unfolding each
all_again Is read again [] [] h = refl
all_again Is read again [] (x ∷ xs) h = absurd h
all_again Is read again (w ∷ ws) [] h = absurd h
all_again Is read again (w ∷ ws) (x ∷ xs) h = rw (again w x h.0, all_again Is read again ws xs h.1) refl
