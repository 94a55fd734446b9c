-- What is said of communicators: reading and the grammar agree.
use Rattle.std.proofs.Common.{◌≡◌, ℕ, zero, suc, ◌-◌, false, eqb, List, [], ◌∷◌, get_or, drop, Option, Some, None, refl}
use Rattle.std.proofs.Common.{sym, ap, subst, ◌∙◌, arith, inl, inr, ℤ, pos, negsuc}
use Rattle.std.specs.Prelude.{codes, neg_ℤ}
use Rattle.std.specs.Str.{bytes_eq}
use Rattle.std.proofs.lemmas.Bool.{eqb-true}
use Rattle.statements.specs.declared.action.CommunicatorName.{CommunicatorName}
use Rattle.statements.specs.declared.action.Splitting.{Splitting}
use Rattle.statements.specs.declared.action.Action.TheVariants as actions
use Rattle.statements.specs.Grammar.{IsColour, IsCommunicator, IsKey, IsSplitting, Spells}
use Rattle.tokens.specs.Grammar.{Word, NamesIt}
use Rattle.tokens.specs.Numbers.{number_up_to}
use Rattle.tokens.specs.Fields.{first, end_of_line, name_of}
use Rattle.statements.specs.LineWords.{colour_of, communicator_alone, communicator_of, dup_of, key_below, key_of}
use Rattle.statements.specs.LineWords.{split_of, two_communicators}
use Rattle.tokens.proofs.FieldLaws.{named_takes, named_again}
use Rattle.tokens.proofs.WordLaws.{bind_ok, made, pick, no_test, same_word, no_letters, bounded_takes, bounded_again}
use Rattle.statements.proofs.FieldSteps.{two, four}
use Rattle.statements.proofs.FieldLaws.{communicator_takes, communicator_again}
use Rattle.statements.proofs.ElementLaws.{dash_front, digit_front}

-- ---- colours and keys

pub colour_takes : (word : Word) (c : Option ℕ) → colour_of word ≡ Some c → IsColour word c
unfolding colour_of
colour_takes word c e =
    pick (IsColour word) (bytes_eq word (codes "undefined")) _ _ c
    (λ t. made (IsColour word) None c (same_word word (codes "undefined") t)) (λ _ f.
    let b = bind_ok (number_up_to 4294967295 word) (λ n. Some (Some n)) c f in
    made (IsColour word) (Some b.0) c (bounded_takes 4294967295 word b.0 b.1) b.2) e

pub colour_again : (word : Word) (c : Option ℕ) → IsColour word c → colour_of word ≡ Some c
unfolding colour_of
colour_again word None h = ap colour_of h
colour_again word (Some n) h =
    let t0 : bytes_eq word (codes "undefined") ≡ false = no_letters word (codes "undefined") n refl h.0 in
    let t1 : number_up_to 4294967295 word ≡ Some n = bounded_again 4294967295 word n h.0 h.1 in
    rw (t0, t1) refl

key_below_is : (m : ℕ) → key_below m ≡ neg_ℤ (pos m)
key_below_is zero = refl
key_below_is (suc m) =
    let some : eqb (suc m) 0 ≡ false = no_test (eqb (suc m) 0) (λ e. let z : suc m ≡ 0 = eqb-true (suc m) 0 e in omega arith) in
    let less : suc m - 1 ≡ m = omega arith in
    rw some (ap negsuc less)

pub key_takes : (word : Word) (key : ℤ) → key_of word ≡ Some key → IsKey word key
unfolding key_of
key_takes word key e =
    pick (IsKey word) (eqb (get_or word 0 0) 45) _ _ key
    (λ t f.
    let b = bind_ok (number_up_to 2147483648 (drop 1 word)) (λ magnitude. Some (key_below magnitude)) key f in
    let p = bounded_takes 2147483648 (drop 1 word) b.0 b.1 in
    made (IsKey word) (key_below b.0) key
    (inl (record {
      digits = drop 1 word;
      magnitude = b.0;
      spelled = dash_front word (eqb-true (get_or word 0 0) 45 t);
      numeral = p.0;
      range = p.1;
      key_is = key_below_is b.0;
    })) b.2)
    (λ t f.
    let b = bind_ok (number_up_to 2147483647 word) (λ magnitude. Some (pos magnitude)) key f in
    let p = bounded_takes 2147483647 word b.0 b.1 in
    made (IsKey word) (pos b.0) key (inr (record { magnitude = b.0; numeral = p.0; range = p.1; key_is = refl })) b.2)
    e

dashed_key : (digits : Word) (m : ℕ) (key : ℤ) → number_up_to 2147483648 digits ≡ Some m → key_below m ≡ key →
    key_of (45 ∷ digits) ≡ Some key
unfolding key_of
dashed_key digits m key e is = rw e (ap (λ (z : ℤ). Some z) is)

plain_key : (word : Word) (m : ℕ) (key : ℤ) → eqb (get_or word 0 0) 45 ≡ false → number_up_to 2147483647 word ≡ Some m →
    pos m ≡ key → key_of word ≡ Some key
unfolding key_of
plain_key word m key t e is = rw (t, e) (ap (λ (z : ℤ). Some z) is)

pub key_again : (word : Word) (key : ℤ) → IsKey word key → key_of word ≡ Some key
key_again word key (inl h) =
    ap key_of h.spelled
    ∙ dashed_key h.digits h.magnitude key (bounded_again 2147483648 h.digits h.magnitude h.numeral h.range)
    (key_below_is h.magnitude ∙ sym h.key_is)
key_again word key (inr h) =
    plain_key word h.magnitude key (digit_front word h.magnitude h.numeral)
    (bounded_again 2147483647 word h.magnitude h.numeral h.range) (sym h.key_is)

-- ---- one communicator

alone_takes : (words : List Word) (c : CommunicatorName) → communicator_alone words ≡ Some c →
    (word : Word) × (words ≡ word ∷ []) × IsCommunicator word c
unfolding communicator_alone first end_of_line
alone_takes [] c e = absurd cc
alone_takes (a ∷ []) c e = (a, refl, communicator_takes a c e)
alone_takes (a ∷ b ∷ ws) c e = absurd cc

-- a line of one communicator
pub asks_takes : (P : List Word → Type 0) (words : List Word) (c : CommunicatorName) →
    ((word : Word) → IsCommunicator word c → P (word ∷ [])) → communicator_alone words ≡ Some c → P words
asks_takes P words c makes e = let p = alone_takes words c e in subst P (sym p.1) (makes p.0 p.2)

alone_from : (word : Word) (c : CommunicatorName) → communicator_of word ≡ Some c → communicator_alone (word ∷ []) ≡
    Some c
unfolding communicator_alone first end_of_line
alone_from word c e = e

pub asks_again : (word : Word) (c : CommunicatorName) → IsCommunicator word c → communicator_alone (word ∷ []) ≡ Some c
asks_again word c h = alone_from word c (communicator_again word c h)

-- ---- two communicators

compared : CommunicatorName → CommunicatorName → CommunicatorName × CommunicatorName
compared c d = (c, d)

pub compare_takes : (words : List Word) (m : CommunicatorName × CommunicatorName) → two_communicators words ≡ Some m →
    Spells (codes "compare" ∷ words) (actions.Compare m.0 m.1)
unfolding two_communicators first end_of_line compared
compare_takes [] m e = absurd cc
compare_takes (a ∷ []) m e = absurd cc
compare_takes (a ∷ b ∷ c ∷ rest) m e = absurd cc
compare_takes (a ∷ b ∷ []) m e =
    let p = two (communicator_of a) (communicator_of b) compared m e in
    subst (λ (m : CommunicatorName × CommunicatorName). Spells (codes "compare" ∷ a ∷ b ∷ []) (actions.Compare m.0 m.1))
    p.4
    (a, b, refl, communicator_takes a p.0 p.2, communicator_takes b p.1 p.3)

two_from : (a b : Word) (c d : CommunicatorName) → communicator_of a ≡ Some c → communicator_of b ≡ Some d →
    two_communicators (a ∷ b ∷ []) ≡ Some (c, d)
unfolding two_communicators first end_of_line
two_from a b c d p q = rw (p, q) refl

pub compare_again : (a b : Word) (c d : CommunicatorName) → IsCommunicator a c → IsCommunicator b d →
    two_communicators (a ∷ b ∷ []) ≡ Some (c, d)
compare_again a b c d h k = two_from a b c d (communicator_again a c h) (communicator_again b d k)

-- ---- new communicators

named_dup : Word → CommunicatorName → Word × CommunicatorName
named_dup n c = (n, c)

pub dup_takes : (words : List Word) (m : Word × CommunicatorName) → dup_of words ≡ Some m →
    Spells (codes "dup" ∷ words) (actions.Dup m.0 m.1)
unfolding dup_of first end_of_line named_dup
dup_takes [] m e = absurd cc
dup_takes (a ∷ []) m e = absurd cc
dup_takes (a ∷ b ∷ c ∷ rest) m e = absurd cc
dup_takes (a ∷ b ∷ []) m e =
    let p = two (name_of a) (communicator_of b) named_dup m e in
    subst (λ (m : Word × CommunicatorName). Spells (codes "dup" ∷ a ∷ b ∷ []) (actions.Dup m.0 m.1)) p.4
    (a, b, refl, named_takes a p.0 p.2, communicator_takes b p.1 p.3)

dup_from : (a b n : Word) (c : CommunicatorName) → name_of a ≡ Some n → communicator_of b ≡ Some c →
    dup_of (a ∷ b ∷ []) ≡ Some (n, c)
unfolding dup_of first end_of_line
dup_from a b n c p q = rw (p, q) refl

pub dup_again : (a b n : Word) (c : CommunicatorName) → NamesIt a n → IsCommunicator b c →
    dup_of (a ∷ b ∷ []) ≡ Some (n, c)
dup_again a b n c h k = dup_from a b n c (named_again a n h) (communicator_again b c k)

named_split : Word → CommunicatorName → Option ℕ → ℤ → Word × Splitting
named_split n c o k = (n, record { communicator = c; colour = o; key = k })

pub split_takes : (words : List Word) (m : Word × Splitting) → split_of words ≡ Some m →
    Spells (codes "split" ∷ words) (actions.Split m.0 m.1)
unfolding split_of first end_of_line named_split
split_takes [] m e = absurd cc
split_takes (a ∷ []) m e = absurd cc
split_takes (a ∷ b ∷ []) m e = absurd cc
split_takes (a ∷ b ∷ c ∷ []) m e = absurd cc
split_takes (a ∷ b ∷ c ∷ d ∷ f ∷ rest) m e = absurd cc
split_takes (a ∷ b ∷ c ∷ d ∷ []) m e =
    let p = four (name_of a) (communicator_of b) (colour_of c) (key_of d) named_split m e in
    subst (λ (m : Word × Splitting). Spells (codes "split" ∷ a ∷ b ∷ c ∷ d ∷ []) (actions.Split m.0 m.1)) p.8 (
      a,
      b ∷ c ∷ d ∷ [],
      refl,
      named_takes a p.0 p.4,
      (b, c, d, refl, communicator_takes b p.1 p.5, colour_takes c p.2 p.6, key_takes d p.3 p.7),
    )

split_from : (a b c d n : Word) (split : Splitting) → name_of a ≡ Some n → communicator_of b ≡ Some split.communicator →
    colour_of c ≡ Some split.colour → key_of d ≡ Some split.key
    → split_of (a ∷ b ∷ c ∷ d ∷ []) ≡ Some (n, split)
unfolding split_of first end_of_line
split_from a b c d n split p q r s = rw (p, q, r, s) refl

pub split_again : (a : Word) (rest : List Word) (n : Word) (split : Splitting) → NamesIt a n → IsSplitting rest split →
    split_of (a ∷ rest) ≡ Some (n, split)
split_again a rest n split k h =
    ap (λ (ws : List Word). split_of (a ∷ ws)) h.3
    ∙ split_from a h.0 h.1 h.2 n split (named_again a n k) (communicator_again h.0 split.communicator h.4)
    (colour_again h.1 split.colour h.5) (key_again h.2 split.key h.6)
