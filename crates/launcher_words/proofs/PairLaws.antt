-- A text and the first byte at which it is cut.
use Rattle.std.proofs.Common.{◌≡◌, ℕ, ◌<◌, Bool, true, false, cond, List, [], ◌∷◌, ◌++◌, length, All, Option}
use Rattle.std.proofs.Common.{Some, None, refl, sym, ap, ◌∙◌, subst, arith, eq-eqb}
use Rattle.std.specs.List.{slice_split, onto_first, join_with_byte}
use Rattle.std.specs.Option.{option_copied}
use Rattle.std.proofs.lemmas.List.Elements.{All-nil, All-cons}
use Rattle.std.proofs.lemmas.List.Splits.{length-slice_split, slice_split_at, join_with_byte-slice_split}
use Rattle.launcher_words.specs.declared.cut.Cut.{Cut}
use Rattle.launcher_words.specs.Cuts.{IsFirst, IsPair, IsUncut, IsWithout, is_byte, parts_left}

-- the first of some parts, and the others
abbrev front_of : List (List ℕ) → List ℕ
front_of [] = []
front_of (part ∷ parts) = part

abbrev others_of : List (List ℕ) → List (List ℕ)
others_of [] = []
others_of (part ∷ parts) = parts

front_more : (byte : ℕ) (parts : List (List ℕ)) → front_of (onto_first byte parts) ≡ byte ∷ front_of parts
front_more byte [] = refl
front_more byte (part ∷ parts) = refl

-- no cut stands in the first part
front_clean : (p : ℕ → Bool) (text : List ℕ) → All (λ byte. p byte ≡ false) (front_of (slice_split p text))
front_clean p [] = All-nil (λ byte. p byte ≡ false)
front_clean p (byte ∷ text) =
    let P : ℕ → Type 0 = λ byte. p byte ≡ false in
    let go : (t : Bool) → p byte ≡ t →
    All P (front_of (cond t ([] ∷ slice_split p text) (onto_first byte (slice_split p text)))) =
    λ t. elim t as (λ t. p byte ≡ t →
    All P (front_of (cond t ([] ∷ slice_split p text) (onto_first byte (slice_split p text))))) [
      | true ↦ λ is. All-nil P
      | false ↦ λ is.
          subst (λ (l : List ℕ). All P l) (sym (front_more byte (slice_split p text)))
          (All-cons P byte (front_of (slice_split p text)) is (front_clean p text))
    ] in
    go (p byte) refl

-- parts, joined by the byte at which they were cut
joined : (end : ℕ) (part : List ℕ) (parts : List (List ℕ)) → 0 < length parts →
    join_with_byte end (part ∷ parts) ≡ part ++ end ∷ join_with_byte end parts
joined end part [] some = absurd (omega (arith, some))
joined end part (next ∷ parts) some = refl

some_parts : (p : ℕ → Bool) (text : List ℕ) → 0 < length (slice_split p text)
some_parts p text = let len = length-slice_split p text in omega (arith, len)

-- a text whose parts are this one and those of what stands behind it
pair_of : (end : ℕ) (text front behind : List ℕ) →
    slice_split (is_byte end) text ≡ front ∷ slice_split (is_byte end) behind → IsPair end text front behind
pair_of end text front behind parts =
    record {
      spelled =
          sym (join_with_byte-slice_split end text) ∙
          ap (λ (l : List (List ℕ)). join_with_byte end l) parts ∙
          joined end front (slice_split (is_byte end) behind) (some_parts (is_byte end) behind) ∙
          ap (λ (l : List ℕ). front ++ end ∷ l) (join_with_byte-slice_split end behind);
      first =
          subst (λ (l : List ℕ). IsWithout end l) (ap front_of parts) (front_clean (is_byte end) text);
    }

is_itself : (end : ℕ) → is_byte end end ≡ true
is_itself end = eq-eqb end end refl

parts_of : (end : ℕ) (text front behind : List ℕ) → IsPair end text front behind →
    slice_split (is_byte end) text ≡ front ∷ slice_split (is_byte end) behind
parts_of end text front behind is =
    ap (λ (l : List ℕ). slice_split (is_byte end) l) is.spelled ∙
    slice_split_at (is_byte end) front end behind is.first (is_itself end)

-- there is one way alone
pub same_pair : (end : ℕ) (text a b x y : List ℕ) → IsPair end text a b → IsPair end text x y → (a ≡ x) × (b ≡ y)
same_pair end text a b x y one other =
    let same : a ∷ slice_split (is_byte end) b ≡ x ∷ slice_split (is_byte end) y =
    sym (parts_of end text a b one) ∙ parts_of end text x y other in
    let left = ap others_of same in (
      ap front_of same,
      sym (join_with_byte-slice_split end b) ∙
          ap (λ (l : List (List ℕ)). join_with_byte end l) left ∙
          join_with_byte-slice_split end y,
    )

alone : (end : ℕ) (text part : List ℕ) → slice_split (is_byte end) text ≡ part ∷ [] → IsUncut end text
alone end text part parts front behind is =
    let same : part ∷ [] ≡ front ∷ slice_split (is_byte end) behind = sym parts ∙ parts_of end text front behind is in
    let none : 0 ≡ length (slice_split (is_byte end) behind) =
    ap (λ (l : List (List ℕ)). length (others_of l)) same in
    absurd (omega (arith, none, some_parts (is_byte end) behind))

pub uncut_by : (end : ℕ) (text : List ℕ) (cut : Cut) → option_copied cut.rest ≡ None →
    IsFirst (is_byte end) text cut → IsUncut end text
uncut_by end text cut none is =
    alone end text cut.part.now
    (is.parts ∙ ap (λ (r : Option (List ℕ)). cut.part.now ∷ parts_left (is_byte end) r) none)

pub pair_by : (end : ℕ) (text : List ℕ) (cut : Cut) (rest : List ℕ) → option_copied cut.rest ≡ Some rest →
    IsFirst (is_byte end) text cut → IsPair end text cut.part.now rest
pair_by end text cut rest some is =
    pair_of end text cut.part.now rest
    (is.parts ∙ ap (λ (r : Option (List ℕ)). cut.part.now ∷ parts_left (is_byte end) r) some)
