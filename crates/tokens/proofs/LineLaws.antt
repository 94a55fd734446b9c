-- Lines: where reading one line and its grammar agree, so do reading a text and the grammar of texts.
use Rattle.std.proofs.Common.{◌≡◌, ℕ, ◌+◌, Bool, true, false, cond, leb, List, [], ◌∷◌, ◌++◌, get_or, Option, Some}
use Rattle.std.proofs.Common.{None, Result, Ok, Err, refl, sym, ap, subst, ◌∙◌, inl, inr}
use Rattle.std.specs.Prelude.{◌&&◌}
use Rattle.std.specs.List.{list_all}
use Rattle.std.proofs.lemmas.Bool.{eqb-true, eq-eqb, leb-true, le-leb, false≢true}
use Rattle.tokens.specs.Grammar.{Word}
use Rattle.tokens.specs.Results.{◌>>=◌}
use Rattle.tokens.specs.Lines.{is_text_byte, tokens_of, is_skipped, said_in, item_in, line_of, numbered, with_front}
use Rattle.tokens.specs.Lines.{and_then, lines_from}
use Rattle.tokens.specs.Texts.{IsText, IsSkipped, IsMeant, LineSays, LinesSay, IsFaulty, IsFirstFault}
use Rattle.tokens.proofs.WordLaws.{no_test}

both : (a b : Bool) → (a && b) ≡ true → (a ≡ true) × (b ≡ true)
both true b e = (refl, e)
both false b e = absurd cc

and_true : (a b : Bool) → a ≡ true → b ≡ true → (a && b) ≡ true
and_true true b e f = f
and_true false b e f = absurd (false≢true e)

text_takes : (line : List ℕ) → list_all is_text_byte line ≡ true → IsText line
text_takes [] e = tt
text_takes (b ∷ bs) e =
    let p = both (is_text_byte b) (list_all is_text_byte bs) e in
    let q = both (leb 32 b) (leb b 126) p.0 in
    ((leb-true 32 b q.0, leb-true b 126 q.1), text_takes bs p.1)

text_again : (line : List ℕ) → IsText line → list_all is_text_byte line ≡ true
text_again [] h = refl
text_again (b ∷ bs) h =
    and_true (is_text_byte b) (list_all is_text_byte bs)
    (and_true (leb 32 b) (leb b 126) (le-leb _ _ h.0.0) (le-leb _ _ h.0.1)) (text_again bs h.1)

skipped_takes : (words : List Word) → is_skipped words ≡ true → IsSkipped words
unfolding is_skipped
skipped_takes [] e = tt
skipped_takes (w ∷ ws) e = eqb-true (get_or w 0 0) 35 e

skipped_again : (words : List Word) → IsSkipped words → is_skipped words ≡ true
unfolding is_skipped
skipped_again [] h = refl
skipped_again (w ∷ ws) h = eq-eqb (get_or w 0 0) 35 h

-- ---- one line

-- the words of a line, by its tests
said_by : (text skipped : Bool) (words : List Word) → Option (Option (List Word))
said_by text skipped words = cond text (cond skipped (Some None) (Some (Some words))) None

skips : (t s : Bool) (words : List Word) → said_by t s words ≡ Some None → (t ≡ true) × (s ≡ true)
unfolding said_by
skips true true words e = (refl, refl)
skips true false words e = absurd cc
skips false s words e = absurd cc

means : (t s : Bool) (words said : List Word) → said_by t s words ≡ Some (Some said) →
    (t ≡ true) × (s ≡ false) × (words ≡ said)
unfolding said_by
means true true words said e = absurd cc
means true false words said e = (refl, refl, cc)
means false s words said e = absurd cc

-- a line that is skipped
pub said_nothing : (line : List ℕ) → said_in line ≡ Some None → IsText line × IsSkipped (tokens_of line)
unfolding said_in said_by
said_nothing line e =
    let p = skips (list_all is_text_byte line) (is_skipped (tokens_of line)) (tokens_of line) e in
    (text_takes line p.0, skipped_takes (tokens_of line) p.1)

-- a line that isn't skipped
pub said_words : (line : List ℕ) (said : List Word) → said_in line ≡ Some (Some said) → IsMeant line ×
    (tokens_of line ≡ said)
unfolding said_in said_by
said_words line said e =
    let p = means (list_all is_text_byte line) (is_skipped (tokens_of line)) (tokens_of line) said e in
    ((text_takes line p.0, λ k. false≢true (sym p.1 ∙ skipped_again (tokens_of line) k)), p.2)

pub nothing_again : (line : List ℕ) → IsText line → IsSkipped (tokens_of line) → said_in line ≡ Some None
unfolding said_in
nothing_again line text skipped =
    let t0 : list_all is_text_byte line ≡ true = text_again line text in
    let t1 : is_skipped (tokens_of line) ≡ true = skipped_again (tokens_of line) skipped in
    rw (t0, t1) refl

pub words_again : (line : List ℕ) → IsMeant line → said_in line ≡ Some (Some (tokens_of line))
unfolding said_in
words_again line meant =
    let t0 : list_all is_text_byte line ≡ true = text_again line meant.0 in
    let t1 : is_skipped (tokens_of line) ≡ false = no_test (is_skipped (tokens_of line)) (λ k. meant.1 (skipped_takes (tokens_of line) k)) in
    rw (t0, t1) refl

item_skipped : {A : Type 0} (read : List Word → Option A) (said : Option (List Word)) → item_in read said ≡ Some None →
    said ≡ None
item_skipped read None e = refl
item_skipped {A} read (Some words) e = go (read words) e where
  go : (o : Option A) → (o >>= λ item. Some (Some item)) ≡ Some None → Some words ≡ None
  go None e = absurd cc
  go (Some x) e = absurd cc

item_read : {A : Type 0} (read : List Word → Option A) (said : Option (List Word)) (item : A) →
    item_in read said ≡ Some (Some item) → (words : List Word) × (said ≡ Some words) × (read words ≡ Some item)
item_read read None item e = absurd cc
item_read {A} read (Some words) item e = go (read words) refl e where
  go : (o : Option A) → read words ≡ o → (o >>= λ item. Some (Some item)) ≡ Some (Some item) →
      (ws : List Word) × (Some words ≡ Some ws) × (read ws ≡ Some item)
  go None is e = absurd cc
  go (Some x) is e = (words, refl, let same : x ≡ item = cc in is ∙ ap (λ (y : A). Some y) same)

after : {A B : Type 0} (r : Option A) (f : A → Option B) (y : B) → (r >>= f) ≡ Some y →
    (x : A) × (r ≡ Some x) × (f x ≡ Some y)
after (Some x) f y e = (x, refl, e)
after None f y e = absurd cc

-- what reading one line says of its grammar
pub line_skipped : {A : Type 0} (Says : ℕ → List Word → A → Type 0) (read : List Word → Option A) (number : ℕ)
    (line : List ℕ) → line_of read line ≡ Some None → LineSays Says number line []
unfolding line_of
line_skipped Says read number line e =
    let p = after (said_in line) (λ said. item_in read said) None e in
    said_nothing line (p.1 ∙ ap (λ (o : Option (List Word)). Some o) (item_skipped read p.0 p.2))

pub line_said : {A : Type 0} (Says : ℕ → List Word → A → Type 0) (read : List Word → Option A) (number : ℕ)
    (line : List ℕ) (item : A)
    → ((words : List Word) → read words ≡ Some item → Says number words item) → line_of read line ≡ Some (Some item) →
    LineSays Says number line (item ∷ [])
unfolding line_of
line_said Says read number line item takes e =
    let p = after (said_in line) (λ said. item_in read said) (Some item) e in
    let q = item_read read p.0 item p.2 in
    let m = said_words line q.0 (p.1 ∙ ap (λ (o : Option (List Word)). Some o) q.1) in
    (m.0, subst (λ (ws : List Word). Says number ws item) (sym m.1) (takes q.0 q.2))

pub line_again : {A : Type 0} (Says : ℕ → List Word → A → Type 0) (read : List Word → Option A) (number : ℕ)
    (line : List ℕ) (said : List A)
    → ((words : List Word) (item : A) → Says number words item → read words ≡ Some item) →
    LineSays Says number line said → numbered number (line_of read line) ≡ Ok said
unfolding line_of
line_again Says read number line [] again h = let t : said_in line ≡ Some None = nothing_again line h.0 h.1 in rw t refl
line_again Says read number line (item ∷ []) again h =
    let t : said_in line ≡ Some (Some (tokens_of line)) = words_again line h.0 in
    let r : read (tokens_of line) ≡ Some item = again (tokens_of line) item h.1 in
    rw (t, r) refl
line_again Says read number line (a ∷ b ∷ ls) again h = absurd h

failed : {A : Type 0} (number : ℕ) (said : List A) (o : Option (Option A)) → o ≡ None → numbered number o ≡ Ok said → ⊥
failed number said None e h = absurd cc
failed number said (Some x) e h = absurd cc

pub line_faulty : {A : Type 0} (Says : ℕ → List Word → A → Type 0) (read : List Word → Option A) (number : ℕ)
    (line : List ℕ)
    → ((words : List Word) (item : A) → Says number words item → read words ≡ Some item) → line_of read line ≡ None →
    IsFaulty Says number line
line_faulty Says read number line again e =
    λ said h. failed number said (line_of read line) e (line_again Says read number line said again h)

-- ---- lines

with_ok : {A : Type 0} (front said : List A) (read : Result (List A) ℕ) → with_front front read ≡ Ok said →
    (rest : List A) × (read ≡ Ok rest) × (said ≡ front ++ rest)
with_ok front said (Ok rest) e = (rest, refl, cc)
with_ok front said (Err n) e = absurd cc

with_err : {A : Type 0} (front : List A) (k : ℕ) (read : Result (List A) ℕ) → with_front front read ≡ Err k →
    read ≡ Err k
with_err front k (Ok rest) e = absurd cc
with_err front k (Err n) e = cc

-- each item that is read is one that the words say, and the other way round
pub record Agree {A : Type 0} (Says : ℕ → List Word → A → Type 0) (read : ℕ → List Word → Option A) : Type 0 where
  pub takes : (number : ℕ) (words : List Word) (item : A) → read number words ≡ Some item → Says number words item
  pub again : (number : ℕ) (words : List Word) (item : A) → Says number words item → read number words ≡ Some item

take_at : {A : Type 0} (Says : ℕ → List Word → A → Type 0) (read : ℕ → List Word → Option A) (agree : Agree Says read)
    (number : ℕ) (line : List ℕ) (lines : List (List ℕ)) (said : List A) (gave : Result (List A) ℕ)
    (o : Option (Option A))
    → line_of (read number) line ≡ o → ((rest : List A) → gave ≡ Ok rest → LinesSay Says (number + 1) lines rest) →
    and_then (numbered number o) gave ≡ Ok said → LinesSay Says number (line ∷ lines) said
take_at Says read agree number line lines said gave None is after e = absurd cc
take_at Says read agree number line lines said gave (Some None) is after e =
    let p = with_ok [] said gave e in ([], p.0, line_skipped Says (read number) number line is, after p.0 p.1, p.2)
take_at Says read agree number line lines said gave (Some (Some x)) is after e =
    let p = with_ok (x ∷ []) said gave e in (
      x ∷
          [],
      p.0,
      line_said Says (read number) number line x (λ words h. agree.takes number words x h) is,
      after p.0 p.1,
      p.2,
    )

pub lines_take : {A : Type 0} (Says : ℕ → List Word → A → Type 0) (read : ℕ → List Word → Option A)
    (agree : Agree Says read) (number : ℕ) (lines : List (List ℕ)) (said : List A)
    → lines_from read number lines ≡ Ok said → LinesSay Says number lines said
unfolding lines_from
lines_take Says read agree number [] [] e = refl
lines_take Says read agree number [] (l ∷ ls) e = absurd cc
lines_take Says read agree number (line ∷ lines) said e =
    take_at Says read agree number line lines said (lines_from read (number + 1) lines) (line_of (read number) line)
    refl (λ rest h. lines_take Says read agree (number + 1) lines rest h) e

pub lines_again : {A : Type 0} (Says : ℕ → List Word → A → Type 0) (read : ℕ → List Word → Option A)
    (agree : Agree Says read) (number : ℕ) (lines : List (List ℕ)) (said : List A)
    → LinesSay Says number lines said → lines_from read number lines ≡ Ok said
unfolding lines_from
lines_again {A} Says read agree number [] said h = ap (λ (ls : List A). Ok ls) (sym h)
lines_again {A} Says read agree number (line ∷ lines) said h =
    let t0 : numbered number (line_of (read number) line) ≡ Ok h.0 = line_again Says (read number) number line h.0 (λ words item k. agree.again number words item k) h.2 in
    let t1 : lines_from read (number + 1) lines ≡ Ok h.1 = lines_again Says read agree (number + 1) lines h.1 h.3 in
    rw (t0, t1) (ap (λ (ls : List A). Ok ls) (sym h.4))

fault_at : {A : Type 0} (Says : ℕ → List Word → A → Type 0) (read : ℕ → List Word → Option A) (agree : Agree Says read)
    (number k : ℕ) (line : List ℕ) (lines : List (List ℕ)) (gave : Result (List A) ℕ) (o : Option (Option A))
    → line_of (read number) line ≡ o → (gave ≡ Err k → IsFirstFault Says (number + 1) lines k) →
    and_then (numbered number o) gave ≡ Err k → IsFirstFault Says number (line ∷ lines) k
fault_at Says read agree number k line lines gave None is after e =
    inl (cc, line_faulty Says (read number) number line (λ words item h. agree.again number words item h) is)
fault_at Says read agree number k line lines gave (Some None) is after e =
    inr ([], line_skipped Says (read number) number line is, after (with_err [] k gave e))
fault_at Says read agree number k line lines gave (Some (Some x)) is after e =
    inr (
      x ∷ [],
      line_said Says (read number) number line x (λ words h. agree.takes number words x h) is,
      after (with_err (x ∷ []) k gave e),
    )

pub lines_fault : {A : Type 0} (Says : ℕ → List Word → A → Type 0) (read : ℕ → List Word → Option A)
    (agree : Agree Says read) (number : ℕ) (lines : List (List ℕ)) (k : ℕ)
    → lines_from read number lines ≡ Err k → IsFirstFault Says number lines k
unfolding lines_from
lines_fault Says read agree number [] k e = absurd cc
lines_fault Says read agree number (line ∷ lines) k e =
    fault_at Says read agree number k line lines (lines_from read (number + 1) lines) (line_of (read number) line) refl
    (λ h. lines_fault Says read agree (number + 1) lines k h) e
