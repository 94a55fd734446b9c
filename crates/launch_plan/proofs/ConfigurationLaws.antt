-- Reading the lines of a configuration file one after the other, as a loop does.
use Rattle.std.proofs.Common.{◌≡◌, ℕ, ◌-◌, ◌<◌, Bool, true, false, cond, List, [], ◌∷◌, ◌++◌, length, take, map, refl}
use Rattle.std.proofs.Common.{sym, ap, ◌∙◌, append_assoc, arith}
use Rattle.std.specs.Prelude.{not, ◌&&◌, filter}
use Rattle.std.specs.List.{slice_split, onto_first}
use Rattle.std.proofs.lemmas.List.{append-nil}
use Rattle.std.proofs.lemmas.List.Elements.{filter-append}
use Rattle.std.proofs.lemmas.List.Splits.{length-slice_split}
use Rattle.launch_keeper.specs.Words.{Word}
use Rattle.launch_plan.specs.Configuration.{is_blank, is_nonempty, words_of, is_comment, goes_on, with_space}
use Rattle.launch_plan.specs.Configuration.{before_first_line, joined_lines, onto, pending}

onto_first_append : {A : Type 0} (x : A) (parts others : List (List A)) → 0 < length parts →
    onto_first x (parts ++ others) ≡ onto_first x parts ++ others
onto_first_append x [] others some = absurd (omega (arith, some))
onto_first_append x (first ∷ parts) others some = refl

has_parts : (line : List ℕ) → 0 < length (slice_split is_blank line)
has_parts line = omega (arith, length-slice_split is_blank line)

-- a blank parts what stands before it from what stands behind it
split_at_blank : (front back : List ℕ) → slice_split is_blank (front ++ 32 ∷ back) ≡ slice_split is_blank front ++
    slice_split is_blank back
split_at_blank [] back = refl
split_at_blank (x ∷ front) back =
    let rest = split_at_blank front back in
    let go : (t : Bool) → cond t ([] ∷ slice_split is_blank (front ++ 32 ∷ back)) (onto_first x (slice_split is_blank (front ++ 32 ∷ back))) ≡ cond t ([] ∷ slice_split is_blank front) (onto_first x (slice_split is_blank front)) ++ slice_split is_blank back =
    λ t. elim t as
    (λ t. cond t ([] ∷ slice_split is_blank (front ++ 32 ∷ back))
    (onto_first x (slice_split is_blank (front ++ 32 ∷ back))) ≡
    cond t ([] ∷ slice_split is_blank front) (onto_first x (slice_split is_blank front)) ++
    slice_split is_blank back) [
      | true ↦ ap (λ (parts : List (List ℕ)). [] ∷ parts) rest
      | false ↦ ap (onto_first x) rest ∙ onto_first_append x (slice_split is_blank front) (slice_split is_blank back)
          (has_parts front)
    ] in
    go (is_blank x)

pub words_at_blank : (front back : List ℕ) → words_of (front ++ 32 ∷ back) ≡ words_of front ++ words_of back
unfolding words_of
words_at_blank front back =
    ap (filter is_nonempty) (split_at_blank front back) ∙
    filter-append is_nonempty (slice_split is_blank front) (slice_split is_blank back)

pub no_words : words_of [] ≡ []
unfolding words_of
no_words = refl

pub take_skipped : (lines : List (List Word)) (begun : Bool) (words : List Word) (line : List ℕ)
    (rest : List (List ℕ)) → true ≡ (not begun && is_comment line)
    → lines ++ pending false words rest ≡ lines ++ pending begun words (line ∷ rest)
unfolding joined_lines
take_skipped lines begun words line rest skipped =
    let test : (not begun && is_comment line) ≡ true = sym skipped in rw test refl

onto_joined : (words : List Word) (line : List ℕ) (lines : List (List ℕ)) →
    onto words (map words_of (before_first_line (with_space line) lines)) ≡
    onto (words ++ words_of (take (length line - 1) line)) (map words_of lines)
onto_joined words line [] =
    let front = take (length line - 1) line in
    let e : words_of (with_space line) ≡ words_of front = words_at_blank front [] ∙ ap (λ (w : List Word). words_of front ++ w) no_words ∙ append-nil (words_of front) in
    ap (λ (w : List Word). (words ++ w) ∷ []) e
onto_joined words line (next ∷ lines) =
    let front = take (length line - 1) line in
    let e : words_of (with_space line ++ next) ≡ words_of front ++ words_of next = ap words_of (append_assoc front (32 ∷ []) next) ∙ words_at_blank front next in
    ap (λ (w : List Word). w ∷ map words_of lines) (ap (λ (w : List Word). words ++ w) e ∙
    sym (append_assoc words (words_of front) (words_of next)))

pending_on : (begun : Bool) (words : List Word) (line : List ℕ) (lines : List (List ℕ)) →
    (not begun && is_comment line) ≡ false → goes_on line ≡ true
    → pending begun words (line ∷ lines) ≡ pending true (words ++ words_of (take (length line - 1) line)) lines
unfolding joined_lines
pending_on begun words line lines plain on =
    rw (plain, on) (ap (filter is_nonempty) (onto_joined words line (joined_lines true lines)))

onto_none : (lines : List (List Word)) → filter is_nonempty (onto [] lines) ≡ filter is_nonempty lines
onto_none [] = refl
onto_none (line ∷ lines) = refl

pending_end : (begun : Bool) (words : List Word) (line : List ℕ) (lines : List (List ℕ)) →
    (not begun && is_comment line) ≡ false → goes_on line ≡ false
    → pending begun words (line ∷ lines) ≡ filter is_nonempty ((words ++ words_of line) ∷ []) ++ pending false [] lines
unfolding joined_lines
pending_end begun words line lines plain on =
    let rest = map words_of (joined_lines false lines) in
    rw (plain, on) (filter-append is_nonempty ((words ++ words_of line) ∷ []) rest ∙
    ap (λ (w : List (List Word)). filter is_nonempty ((words ++ words_of line) ∷ []) ++ w) (sym (onto_none rest)))

pending_none : (begun : Bool) (words : List Word) → pending begun words [] ≡ filter is_nonempty (words ∷ [])
unfolding joined_lines
pending_none true words =
    ap (λ (w : List Word). filter is_nonempty (w ∷ [])) (ap (λ (w : List Word). words ++ w) no_words ∙ append-nil words)
pending_none false words = refl

pub take_on : (lines : List (List Word)) (begun : Bool) (words pushed : List Word) (line front : List ℕ)
    (rest : List (List ℕ)) → false ≡ (not begun && is_comment line) → goes_on line ≡ true →
    front ≡ take (length line - 1) line
    → pushed ≡ words ++ words_of front → lines ++ pending true pushed rest ≡ lines ++ pending begun words (line ∷ rest)
take_on lines begun words pushed line front rest plain on front_is pushed_is =
    ap (λ (w : List Word). lines ++ pending true w rest) (pushed_is ∙ ap (λ (f : List ℕ). words ++ words_of f) front_is)
    ∙ ap (λ (w : List (List Word)). lines ++ w) (sym (pending_on begun words line rest (sym plain) on))

pub take_end : (lines ended : List (List Word)) (begun : Bool) (words pushed fresh : List Word) (line : List ℕ)
    (rest : List (List ℕ)) → false ≡ (not begun && is_comment line) → goes_on line ≡ false
    → pushed ≡ words ++ words_of line → ended ≡ lines ++ filter is_nonempty (pushed ∷ []) → fresh ≡ [] →
    ended ++ pending false fresh rest ≡ lines ++ pending begun words (line ∷ rest)
take_end lines ended begun words pushed fresh line rest plain on pushed_is ended_is fresh_is =
    ap (λ (w : List Word). ended ++ pending false w rest) fresh_is
    ∙ ap (λ (w : List (List Word)). w ++ pending false [] rest)
    (ended_is ∙ ap (λ (w : List Word). lines ++ filter is_nonempty (w ∷ [])) pushed_is)
    ∙ append_assoc lines (filter is_nonempty ((words ++ words_of line) ∷ [])) (pending false [] rest)
    ∙ ap (λ (w : List (List Word)). lines ++ w) (sym (pending_end begun words line rest (sym plain) on))

pub all_taken : (lines ended total : List (List Word)) (begun : Bool) (words : List Word) (left : List (List ℕ)) →
    left ≡ [] → ended ≡ lines ++ filter is_nonempty (words ∷ []) → lines ++ pending begun words left ≡ total →
    ended ≡ total
all_taken lines ended total begun words left left_is ended_is so_far =
    ended_is ∙ ap (λ (w : List (List Word)). lines ++ w) (sym (pending_none begun words)) ∙
    ap (λ (l : List (List ℕ)). lines ++ pending begun words l) (sym left_is) ∙ so_far
