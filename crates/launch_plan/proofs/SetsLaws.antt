-- What is read is in the grammar, and what is in the grammar is read: sets apart by `:`.
use Rattle.std.proofs.Common.{◌≡◌, ◌≢◌, ◌<◌, Bool, true, false, cond, List, [], ◌∷◌, ◌++◌, length, All, Ok, refl, sym}
use Rattle.std.proofs.Common.{ap, subst, ◌∙◌, arith}
use Rattle.std.specs.Prelude.{codes}
use Rattle.std.specs.List.{slice_split, onto_first, AllByRecursion}
use Rattle.std.specs.Str.{all_ascii_digits}
use Rattle.std.specs.Fmt.{decimal}
use Rattle.std.proofs.lemmas.Bool.{false≢true}
use Rattle.std.proofs.lemmas.List.Elements.{All-from_recursion}
use Rattle.std.proofs.lemmas.List.Splits.{slice_split_none, slice_split_at, length-slice_split}
use Rattle.launch_plan.specs.declared.process_set.ProcessSet.{ProcessSet}
use Rattle.launch_keeper.specs.Words.{Word}
use Rattle.launch_plan.specs.Symbols.{is_separator}
use Rattle.launch_plan.specs.Sets.{sets_of}
use Rattle.launch_plan.specs.Grammar.{colon, IsSet, AreSets, AreLineSets}
use Rattle.numerals.proofs.Numerals.{decimal_is}
use Rattle.launch_plan.proofs.SymbolLaws.{same_word, other_word, differs}
use Rattle.launch_plan.proofs.GrammarLaws.{HasNoColon, lines_take, lines_again}

-- ---- the sets of the words, which stand apart by `:`

abbrev pub parts_of : List Word → List (List Word)
parts_of words = slice_split is_separator words

some_part : (parts : List (List Word)) → 0 < length parts → (first : List Word) × (others : List (List Word)) ×
    (parts ≡ first ∷ others)
some_part [] some = absurd (omega (arith, some))
some_part (first ∷ others) some = (first, others, refl)

pub has_part : (words : List Word) → (first : List Word) × (others : List (List Word)) ×
    (parts_of words ≡ first ∷ others)
has_part words = some_part (parts_of words) (omega (arith, length-slice_split is_separator words))

-- the first part is all the words where it is the only one, and else a `:` stands behind it
record IsFirst (words first : List Word) (others : List (List Word)) : Type 0 where
  whole : others ≡ [] → words ≡ first
  cut : (next : List Word) (more : List (List Word)) → others ≡ next ∷ more →
      (rest : List Word) × (words ≡ first ++ colon ∷ rest) × (parts_of rest ≡ next ∷ more)

first_here : (word : Word) (words first : List Word) (others : List (List Word)) → word ≡ colon →
    [] ∷ parts_of words ≡ first ∷ others → IsFirst (word ∷ words) first others
first_here word words first others is e =
    let nothing : first ≡ [] = cc in
    let left : parts_of words ≡ others = cc in
    let p = has_part words in record {
      whole = λ none. let h : p.0 ∷ p.1 ≡ [] = sym p.2 ∙ left ∙ none in absurd cc;
      cut = λ next more h. (
        words,
        ap (λ (w : Word). w ∷ words) is ∙
            ap (λ (f : List Word). f ++ colon ∷ words) (sym nothing),
        left ∙ h,
      );
    }

first_later : (word : Word) (words first f : List Word) (others o : List (List Word)) →
    (word ∷ f) ∷ o ≡ first ∷ others → IsFirst words f o → IsFirst (word ∷ words) first others
first_later word words first f others o e rest =
    let first_is : word ∷ f ≡ first = cc in
    let others_is : o ≡ others = cc in record {
      whole = λ none. ap (λ (w : List Word). word ∷ w) (rest.whole (others_is ∙ none)) ∙ first_is;
      cut = λ next more h.
          let c = rest.cut next more (others_is ∙ h) in
          (c.0, ap (λ (w : List Word). word ∷ w) c.1 ∙ ap (λ (w : List Word). w ++ colon ∷ c.0) first_is, c.2);
    }

first_part : (words first : List Word) (others : List (List Word)) → parts_of words ≡ first ∷ others →
    IsFirst words first others
first_part [] first others e =
    let nothing : [] ≡ first = cc in
    let none : [] ≡ others = cc in
    record { whole = λ h. nothing; cut = λ next more h. let clash : [] ≡ next ∷ more = none ∙ h in absurd cc }
first_part (word ∷ words) first others e =
    let p = has_part words in
    let ih = first_part words p.0 p.1 p.2 in
    let go : (t : Bool) → is_separator word ≡ t → cond t ([] ∷ parts_of words) (onto_first word (parts_of words)) ≡ first ∷ others → IsFirst (word ∷ words) first others =
    λ t. elim t as (λ t. is_separator word ≡ t → cond t ([] ∷ parts_of words) (onto_first word (parts_of words)) ≡
    first ∷ others → IsFirst (word ∷ words) first others) [
      | true ↦ λ s h. first_here word words first others (same_word word colon s) h
      | false ↦ λ s h. first_later word words first p.0 others p.1 (ap (onto_first word) (sym p.2) ∙ h) ih
    ] in
    go (is_separator word) refl e

no_lines : (lines : List (List Word)) → AreLineSets lines [] → lines ≡ []
no_lines [] are = refl
no_lines (line ∷ lines) are = absurd are

some_lines : (lines : List (List Word)) (set : ProcessSet) (sets : List ProcessSet) → AreLineSets lines (set ∷ sets) →
    (line : List Word) × (more : List (List Word)) × (lines ≡ line ∷ more)
some_lines [] set sets are = absurd are
some_lines (line ∷ lines) set sets are = (line, lines, refl)

sets_take : (words : List Word) (sets : List ProcessSet) → AreLineSets (parts_of words) sets → AreSets words sets
sets_take words [] are = let p = has_part words in subst (λ (parts : List (List Word)). AreLineSets parts []) p.2 are
sets_take words (set ∷ []) are =
    let p = has_part words in
    let there = subst (λ (parts : List (List Word)). AreLineSets parts (set ∷ [])) p.2 are in
    subst (λ (w : List Word). IsSet w set) (sym ((first_part words p.0 p.1 p.2).whole (no_lines p.1 there.1))) there.0
sets_take words (set ∷ next ∷ sets) are =
    let p = has_part words in
    let there = subst (λ (parts : List (List Word)). AreLineSets parts (set ∷ next ∷ sets)) p.2 are in
    let more = some_lines p.1 next sets there.1 in
    let c = (first_part words p.0 p.1 p.2).cut more.0 more.1 more.2 in (
      p.0,
      c.0,
      c.1,
      there.0,
      sets_take c.0 (next ∷ sets)
          (subst (λ (parts : List (List Word)). AreLineSets parts (next ∷ sets)) (more.2 ∙ sym c.2) there.1),
    )

uncut : (words : List Word) → HasNoColon words → AllByRecursion (λ word. is_separator word ≡ false) words
uncut [] h = tt
uncut (word ∷ words) h = (other_word word colon h.0, uncut words h.1)

set_uncut : (words : List Word) (set : ProcessSet) → IsSet words set → HasNoColon words
set_uncut words set is =
    let number : decimal set.count ≢ colon = λ e. false≢true (sym (ap all_ascii_digits e) ∙ (decimal_is set.count (omega (arith, is.most))).digits) in
    let there : HasNoColon (codes "-n" ∷ decimal set.count ∷ set.program ∷ set.arguments) = (differs (codes "-n") colon refl, (number, (is.program.apart, is.arguments))) in
    subst (λ (w : List Word). HasNoColon w) (sym is.spelled) there

all_uncut : (words : List Word) (set : ProcessSet) → IsSet words set → All (λ word. is_separator word ≡ false) words
all_uncut words set is =
    All-from_recursion (λ word. is_separator word ≡ false) words (uncut words (set_uncut words set is))

sets_again : (words : List Word) (sets : List ProcessSet) → AreSets words sets → AreLineSets (parts_of words) sets
sets_again words [] are = absurd are
sets_again words (set ∷ []) are =
    subst (λ (parts : List (List Word)). AreLineSets parts (set ∷ []))
    (sym (slice_split_none is_separator words (all_uncut words set are))) (are, tt)
sets_again words (set ∷ next ∷ sets) are =
    let first = are.0 in
    let rest = are.1 in
    let cut : parts_of words ≡ first ∷ parts_of rest = ap parts_of are.2 ∙ slice_split_at is_separator first colon rest (all_uncut first set are.3) refl in
    subst (λ (parts : List (List Word)). AreLineSets parts (set ∷ next ∷ sets)) (sym cut)
    (are.3, sets_again rest (next ∷ sets) are.4)

set_begins : (words : List Word) (set : ProcessSet) → IsSet words set → (value : Word) × (rest : List Word) ×
    (words ≡ codes "-n" ∷ value ∷ rest)
set_begins words set is = (decimal set.count, set.program ∷ set.arguments, is.spelled)

pub sets_begin : (words : List Word) (sets : List ProcessSet) → AreSets words sets →
    (value : Word) × (rest : List Word) × (words ≡ codes "-n" ∷ value ∷ rest)
sets_begin words [] are = absurd are
sets_begin words (set ∷ []) are = set_begins words set are
sets_begin words (set ∷ next ∷ sets) are =
    let b = set_begins are.0 set are.3 in
    (b.0, b.1 ++ colon ∷ are.1, are.2 ∙ ap (λ (w : List Word). w ++ colon ∷ are.1) b.2)

pub sets_of_take : (words : List Word) (sets : List ProcessSet) → sets_of words ≡ Ok sets → AreSets words sets
sets_of_take words sets e = sets_take words sets (lines_take (parts_of words) sets e)

pub sets_of_again : (words : List Word) (sets : List ProcessSet) → AreSets words sets → sets_of words ≡ Ok sets
sets_of_again words sets are = lines_again (parts_of words) sets (sets_again words sets are)
