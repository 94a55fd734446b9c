-- That a fault is the first one from the left: no word behind it matters.
use Rattle.std.proofs.Common.{◌≡◌, ◌⊎◌, ℕ, Bool, true, false, cond, List, [], ◌∷◌, ◌++◌, Option, Some, None, Result, Ok}
use Rattle.std.proofs.Common.{Err, refl, sym, ap, subst, ◌∙◌, inl, inr}
use Rattle.std.specs.Prelude.{◌||◌}
use Rattle.std.specs.List.{list_any, slice_split, onto_first}
use Rattle.launch_plan.specs.declared.refusal.LaunchRefusal.{LaunchRefusal}
use Rattle.launch_plan.specs.declared.refusal.LaunchRefusal.TheVariants as refusals
use Rattle.launch_plan.specs.declared.symbol.Symbol.{Symbol}
use Rattle.launch_plan.specs.declared.symbol.Symbol.TheVariants as symbols
use Rattle.launch_plan.specs.declared.given_options.GivenOptions.{GivenOptions}
use Rattle.launch_plan.specs.declared.process_set.ProcessSet.{ProcessSet}
use Rattle.numerals.specs.Numbers.{number_between}
use Rattle.launch_keeper.specs.Words.{Word}
use Rattle.launch_plan.specs.Symbols.{is_separator, symbol_of}
use Rattle.launch_plan.specs.Results.{◌>>=◌, required}
use Rattle.launch_plan.specs.Sets.{program_with, where_program, program_of, counted, where_set, set_of, each_set}
use Rattle.launch_plan.specs.Sets.{sets_of}
use Rattle.launch_plan.specs.Options.{nothing_given, is_given, with_value, Opening, at_sets, at_file, where_last}
use Rattle.launch_plan.specs.Options.{where_option, opening_of}
use Rattle.launch_plan.specs.Configuration.{sets_of_file}
use Rattle.launch_plan.specs.Launches.{Launch, is_within_limits, launch_with, limited}
use Rattle.launch_plan.specs.Plans.{if_ended, sets_where, sets_behind, launch_of}
use Rattle.launch_plan.specs.Faults.{IsOfAWord}
use Rattle.launch_plan.proofs.SetsLaws.{has_part}

abbrev failed : {A : Type 0} → LaunchRefusal → Result A LaunchRefusal
failed e = Err e

err_is : {A : Type 0} (d e : LaunchRefusal) → failed {A = A} d ≡ Err e → d ≡ e
err_is d e h = cc

-- a fault of a missing word is no fault of a word
missing : {A : Type 0} (d e : LaunchRefusal) → (IsOfAWord d → ⊥) → IsOfAWord e → failed {A = A} d ≡ Err e → ⊥
missing {A} d e h is same = h (subst IsOfAWord (sym (err_is {A = A} d e same)) is)

-- a step that failed
bind_err : {A B : Type 0} (r : Result A LaunchRefusal) (f : A → Result B LaunchRefusal) (e : LaunchRefusal) →
    (r >>= f) ≡ Err e → (r ≡ Err e) ⊎ ((x : A) × (r ≡ Ok x) × (f x ≡ Err e))
bind_err (Ok x) f e h = inr (x, refl, h)
bind_err {A} {B} (Err d) f e h = inl (ap (λ (d : LaunchRefusal). failed {A = A} d) (err_is {A = B} d e h))

-- ---- one set

any_stays : (words more : List Word) → list_any is_separator words ≡ true → list_any is_separator (words ++ more) ≡ true
any_stays [] more e = absurd cc
any_stays (word ∷ words) more e =
    let go : (t : Bool) → (t || list_any is_separator words) ≡ true → (t || list_any is_separator (words ++ more)) ≡ true =
    λ t. elim t as (λ t. (t || list_any is_separator words) ≡ true →
    (t || list_any is_separator (words ++ more)) ≡ true)
    [ true ↦ λ h. refl | false ↦ λ h. any_stays words more h ] in
    go (is_separator word) e

with_stays : (fault : LaunchRefusal) (count : ℕ) (word : Word) (rest more : List Word) → program_with count word rest ≡
    Err fault → program_with count word (rest ++ more) ≡ Err fault
with_stays fault count word rest more e =
    let go : (t : Bool) → list_any is_separator rest ≡ t → cond t (Err refusals.WrongOption) (Ok (record { count = count; program = word; arguments = rest })) ≡ failed {A = ProcessSet} fault → program_with count word (rest ++ more) ≡ Err fault =
    λ t. elim t as (λ t. list_any is_separator rest ≡ t →
    cond t (Err refusals.WrongOption) (Ok (record { count = count; program = word; arguments = rest })) ≡
    failed {A = ProcessSet} fault → program_with count word (rest ++ more) ≡ Err fault) [
      | true ↦ λ any h. let there : list_any is_separator (rest ++ more) ≡ true = any_stays rest more any in rw there h
      | false ↦ λ any h. absurd cc
    ] in
    go (list_any is_separator rest) refl e

where_stays : (symbol : Symbol) (fault : LaunchRefusal) (count : ℕ) (word : Word) (rest more : List Word) →
    where_program symbol count word rest ≡ Err fault → where_program symbol count word (rest ++ more) ≡ Err fault
where_stays symbols.Program fault count word rest more e = with_stays fault count word rest more e
where_stays symbols.LeftOut fault count word rest more e = e
where_stays symbols.Count fault count word rest more e = e
where_stays symbols.File fault count word rest more e = e
where_stays symbols.Unknown fault count word rest more e = e
where_stays symbols.Separator fault count word rest more e = e
where_stays (symbols.Own option) fault count word rest more e = e

program_stays : (fault : LaunchRefusal) (is : IsOfAWord fault) (count : ℕ) (words more : List Word) →
    program_of count words ≡ Err fault → program_of count (words ++ more) ≡ Err fault
unfolding program_of
program_stays fault is count [] more e = absurd (missing {A = ProcessSet} refusals.NoProgram fault (λ h. h) is e)
program_stays fault is count (word ∷ rest) more e = where_stays (symbol_of word) fault count word rest more e

required_fails : {A : Type 0} (o : Option A) (fault : LaunchRefusal) → IsOfAWord fault →
    required o refusals.WrongValue ≡ Err fault → ⊥
required_fails (Some x) fault is e = absurd cc
required_fails {A} None fault is e = missing {A = A} refusals.WrongValue fault (λ h. h) is e

counted_stays : (fault : LaunchRefusal) (is : IsOfAWord fault) (words more : List Word) → counted words ≡ Err fault →
    counted (words ++ more) ≡ Err fault
unfolding counted
counted_stays fault is [] more e = absurd (missing {A = ProcessSet} refusals.WrongValue fault (λ h. h) is e)
counted_stays fault is (value ∷ rest) more e =
    let number = required (number_between value 1 1024) refusals.WrongValue in
    elim (bind_err number (λ count. program_of count rest) fault e) [
      | inl h ↦ absurd (required_fails (number_between value 1 1024) fault is h)
      | inr p ↦ ap (λ (r : Result ℕ LaunchRefusal). r >>= λ count. program_of count (rest ++ more)) p.1 ∙
          program_stays fault is p.0 rest more p.2
    ]

at_set_stays : (symbol : Symbol) (fault : LaunchRefusal) (is : IsOfAWord fault) (rest more : List Word) →
    where_set symbol rest ≡ Err fault → where_set symbol (rest ++ more) ≡ Err fault
at_set_stays symbols.Count fault is rest more e = counted_stays fault is rest more e
at_set_stays symbols.LeftOut fault is rest more e = e
at_set_stays symbols.Program fault is rest more e = e
at_set_stays symbols.File fault is rest more e = e
at_set_stays symbols.Unknown fault is rest more e = e
at_set_stays symbols.Separator fault is rest more e = e
at_set_stays (symbols.Own option) fault is rest more e = e

set_stays : (fault : LaunchRefusal) (is : IsOfAWord fault) (words more : List Word) → set_of words ≡ Err fault →
    set_of (words ++ more) ≡ Err fault
unfolding set_of
set_stays fault is [] more e = absurd (missing {A = ProcessSet} refusals.NoSet fault (λ h. h) is e)
set_stays fault is (word ∷ rest) more e = at_set_stays (symbol_of word) fault is rest more e

-- ---- sets apart by `:`

abbrev parts_of : List Word → List (List Word)
parts_of words = slice_split is_separator words

-- the same parts, but for the last, which may be longer, and with others behind it
abbrev Extends : List (List Word) → List (List Word) → Type 0
Extends [] other = ⊥
Extends (part ∷ []) other = (more : List Word) × (others : List (List Word)) × (other ≡ (part ++ more) ∷ others)
Extends (part ∷ next ∷ parts) other = (others : List (List Word)) × (other ≡ part ∷ others) ×
    Extends (next ∷ parts) others

extends_cons : (part : List Word) (parts other : List (List Word)) → Extends parts other →
    Extends (part ∷ parts) (part ∷ other)
extends_cons part [] other e = absurd e
extends_cons part (next ∷ parts) other e = (other, refl, e)

extends_onto : (word : Word) (parts other : List (List Word)) → Extends parts other →
    Extends (onto_first word parts) (onto_first word other)
extends_onto word [] other e = absurd e
extends_onto word (part ∷ []) other e = (e.0, e.1, ap (onto_first word) e.2)
extends_onto word (part ∷ next ∷ parts) other e = (e.0, ap (onto_first word) e.1, e.2)

parts_extend : (words more : List Word) → Extends (parts_of words) (parts_of (words ++ more))
parts_extend [] more = let p = has_part more in (p.0, p.1, p.2)
parts_extend (word ∷ words) more =
    let rest = parts_extend words more in
    let go : (t : Bool) → Extends (cond t ([] ∷ parts_of words) (onto_first word (parts_of words))) (cond t ([] ∷ parts_of (words ++ more)) (onto_first word (parts_of (words ++ more)))) =
    λ t. elim t as
    (λ t. Extends (cond t ([] ∷ parts_of words) (onto_first word (parts_of words)))
    (cond t ([] ∷ parts_of (words ++ more)) (onto_first word (parts_of (words ++ more))))) [
      | true ↦ extends_cons [] (parts_of words) (parts_of (words ++ more)) rest
      | false ↦ extends_onto word (parts_of words) (parts_of (words ++ more)) rest
    ] in
    go (is_separator word)

each_fails : (fault : LaunchRefusal) (line : List Word) (lines : List (List Word)) → set_of line ≡ Err fault →
    each_set (line ∷ lines) ≡ Err fault
unfolding each_set
each_fails fault line lines e = rw e refl

each_later : (fault : LaunchRefusal) (line : List Word) (lines : List (List Word)) (set : ProcessSet) →
    set_of line ≡ Ok set → each_set lines ≡ Err fault → each_set (line ∷ lines) ≡ Err fault
unfolding each_set
each_later fault line lines set e h = rw (e, h) refl

-- the set that failed is the first, or one behind it
each_split : (fault : LaunchRefusal) (line : List Word) (lines : List (List Word)) →
    each_set (line ∷ lines) ≡ Err fault →
    (set_of line ≡ Err fault) ⊎ ((set : ProcessSet) × (set_of line ≡ Ok set) × (each_set lines ≡ Err fault))
unfolding each_set
each_split fault line lines e =
    elim (bind_err (set_of line) (λ set. each_set lines >>= λ others. Ok (set ∷ others)) fault e) [
      | inl h ↦ inl h
      | inr p ↦
          elim (bind_err (each_set lines) (λ others. Ok (p.0 ∷ others)) fault p.2) [
            | inl h ↦ inr (p.0, p.1, h)
            | inr q ↦ absurd (let clash : Ok (p.0 ∷ q.0) ≡ failed {A = List ProcessSet} fault = q.2 in cc)
          ]
    ]

none_fail : (fault : LaunchRefusal) → each_set [] ≡ Err fault → ⊥
unfolding each_set
none_fail fault e = absurd cc

each_stays : (fault : LaunchRefusal) (is : IsOfAWord fault) (parts other : List (List Word)) → Extends parts other →
    each_set parts ≡ Err fault → each_set other ≡ Err fault
each_stays fault is [] other ext e = absurd ext
each_stays fault is (part ∷ []) other ext e =
    elim (each_split fault part [] e) [
      | inl h ↦ ap each_set ext.2 ∙ each_fails fault (part ++ ext.0) ext.1 (set_stays fault is part ext.0 h)
      | inr p ↦ absurd (none_fail fault p.2)
    ]
each_stays fault is (part ∷ next ∷ parts) other ext e =
    elim (each_split fault part (next ∷ parts) e) [
      | inl h ↦ ap each_set ext.1 ∙ each_fails fault part ext.0 h
      | inr p ↦ ap each_set ext.1 ∙
          each_later fault part ext.0 p.0 p.1 (each_stays fault is (next ∷ parts) ext.0 ext.2 p.2)
    ]

sets_stay : (fault : LaunchRefusal) (is : IsOfAWord fault) (words more : List Word) → sets_of words ≡ Err fault →
    sets_of (words ++ more) ≡ Err fault
sets_stay fault is words more e =
    each_stays fault is (parts_of words) (parts_of (words ++ more)) (parts_extend words more) e

-- ---- the own options

-- what a word leads to, with these words behind it
abbrev opening_at : Symbol → GivenOptions → Word → List Word → Result Opening LaunchRefusal
opening_at symbol given word [] = where_last symbol given word
opening_at symbol given word (value ∷ rest) = where_option symbol given word value rest (λ next. opening_of next rest)

opening_is : (given : GivenOptions) (word : Word) (rest : List Word) → opening_of given (word ∷ rest) ≡
    opening_at (symbol_of word) given word rest
unfolding opening_of
opening_is given word [] = refl
opening_is given word (value ∷ rest) = refl

abbrev last_own : Bool → Result Opening LaunchRefusal
last_own given = cond given (Err refusals.WrongOption) (Err refusals.WrongValue)

last_own_stays : (given : Bool) (fault : LaunchRefusal) (next : Result Opening LaunchRefusal) → IsOfAWord fault →
    last_own given ≡ Err fault → cond given (Err refusals.WrongOption) next ≡ Err fault
last_own_stays true fault next is e = e
last_own_stays false fault next is e = absurd (missing {A = Opening} refusals.WrongValue fault (λ h. h) is e)

last_stays : (symbol : Symbol) (fault : LaunchRefusal) (is : IsOfAWord fault) (given : GivenOptions) (word : Word)
    (more : List Word) → where_last symbol given word ≡ Err fault → opening_at symbol given word more ≡ Err fault
last_stays symbol fault is given word [] e = e
last_stays (symbols.Own option) fault is given word (value ∷ more) e =
    last_own_stays (is_given option given) fault (with_value option given value >>= λ next. opening_of next more) is e
last_stays symbols.File fault is given word (value ∷ more) e =
    absurd (missing {A = Opening} refusals.WrongValue fault (λ h. h) is e)
last_stays symbols.Count fault is given word (value ∷ more) e = absurd cc
last_stays symbols.LeftOut fault is given word (value ∷ more) e = absurd cc
last_stays symbols.Unknown fault is given word (value ∷ more) e = absurd cc
last_stays symbols.Separator fault is given word (value ∷ more) e = absurd cc
last_stays symbols.Program fault is given word (value ∷ more) e = absurd cc

own_stays : (given : Bool) (fault : LaunchRefusal) (value : Result GivenOptions LaunchRefusal)
    (next more : GivenOptions → Result Opening LaunchRefusal) →
    ((g : GivenOptions) → next g ≡ Err fault → more g ≡ Err fault)
    → cond given (Err refusals.WrongOption) (value >>= next) ≡ Err fault →
    cond given (Err refusals.WrongOption) (value >>= more) ≡ Err fault
own_stays true fault value next more stays e = e
own_stays false fault (Ok g) next more stays e = stays g e
own_stays false fault (Err d) next more stays e = e

option_stays : (symbol : Symbol) (fault : LaunchRefusal) (given : GivenOptions) (word value : Word)
    (rest more : List Word) →
    ((g : GivenOptions) → opening_of g rest ≡ Err fault → opening_of g (rest ++ more) ≡ Err fault)
    → where_option symbol given word value rest (λ next. opening_of next rest) ≡ Err fault →
    where_option symbol given word value (rest ++ more) (λ next. opening_of next (rest ++ more)) ≡ Err fault
option_stays (symbols.Own option) fault given word value rest more stays e =
    own_stays (is_given option given) fault (with_value option given value) (λ next. opening_of next rest)
    (λ next. opening_of next (rest ++ more)) stays e
option_stays symbols.File fault given word value rest more stays e = absurd cc
option_stays symbols.Count fault given word value rest more stays e = absurd cc
option_stays symbols.LeftOut fault given word value rest more stays e = absurd cc
option_stays symbols.Unknown fault given word value rest more stays e = absurd cc
option_stays symbols.Separator fault given word value rest more stays e = absurd cc
option_stays symbols.Program fault given word value rest more stays e = absurd cc

opening_stays : (fault : LaunchRefusal) (is : IsOfAWord fault) (given : GivenOptions) (words more : List Word) →
    opening_of given words ≡ Err fault → opening_of given (words ++ more) ≡ Err fault
unfolding opening_of
opening_stays fault is given [] more e = absurd cc
opening_stays fault is given (word ∷ []) more e =
    opening_is given word more ∙ last_stays (symbol_of word) fault is given word more e
opening_stays fault is given (word ∷ value ∷ rest) more e =
    option_stays (symbol_of word) fault given word value rest more (λ g h. opening_stays fault is g rest more h) e

-- the opening, with more words behind it
abbrev longer : Opening → List Word → Opening
longer opening more = record { given = opening.given; file = opening.file; rest = opening.rest ++ more }

-- a file is named, or a set has begun
abbrev HasBegun : Option Word → List Word → Type 0
HasBegun None [] = ⊥
HasBegun None (word ∷ rest) = Unit {0}
HasBegun (Some name) rest = Unit {0}

abbrev Grows : Result Opening LaunchRefusal → Result Opening LaunchRefusal → List Word → Type 0
Grows read other more = (opening : Opening) → read ≡ Ok opening → HasBegun opening.file opening.rest →
    other ≡ Ok (longer opening more)

abbrev read_as : Opening → Result Opening LaunchRefusal
read_as opening = Ok opening

-- an opening that is read so grows so
grows_to : (made : Opening) (other : Result Opening LaunchRefusal) (more : List Word) →
    (HasBegun made.file made.rest → other ≡ Ok (longer made more)) → Grows (read_as made) other more
grows_to made other more h = λ opening e begun.
    let same : made ≡ opening = cc in
    h (subst (λ (o : Opening). HasBegun o.file o.rest) (sym same) begun) ∙
    ap (λ (o : Opening). read_as (longer o more)) same

fails_grow : (d : LaunchRefusal) (other : Result Opening LaunchRefusal) (more : List Word) → Grows (failed d) other more
fails_grow d other more = λ opening e begun. absurd cc

last_own_grows : (given : Bool) (other : Result Opening LaunchRefusal) (more : List Word) →
    Grows (last_own given) other more
last_own_grows true other more = fails_grow refusals.WrongOption other more
last_own_grows false other more = fails_grow refusals.WrongValue other more

last_grows : (symbol : Symbol) (given : GivenOptions) (word : Word) (more : List Word) →
    Grows (where_last symbol given word) (opening_at symbol given word more) more
last_grows symbols.Count given word [] = grows_to (at_sets given (word ∷ [])) _ [] (λ h. refl)
last_grows symbols.LeftOut given word [] = grows_to (at_sets given (word ∷ [])) _ [] (λ h. refl)
last_grows symbols.Unknown given word [] = grows_to (at_sets given (word ∷ [])) _ [] (λ h. refl)
last_grows symbols.Separator given word [] = grows_to (at_sets given (word ∷ [])) _ [] (λ h. refl)
last_grows symbols.Program given word [] = grows_to (at_sets given (word ∷ [])) _ [] (λ h. refl)
last_grows symbols.Count given word (value ∷ more) = grows_to (at_sets given (word ∷ [])) _ (value ∷ more) (λ h. refl)
last_grows symbols.LeftOut given word (value ∷ more) = grows_to (at_sets given (word ∷ [])) _ (value ∷ more) (λ h. refl)
last_grows symbols.Unknown given word (value ∷ more) = grows_to (at_sets given (word ∷ [])) _ (value ∷ more) (λ h. refl)
last_grows symbols.Separator given word (value ∷ more) =
    grows_to (at_sets given (word ∷ [])) _ (value ∷ more) (λ h. refl)
last_grows symbols.Program given word (value ∷ more) = grows_to (at_sets given (word ∷ [])) _ (value ∷ more) (λ h. refl)
last_grows symbols.File given word more = fails_grow refusals.WrongValue _ more
last_grows (symbols.Own option) given word more = last_own_grows (is_given option given) _ more

own_grows : (given : Bool) (value : Result GivenOptions LaunchRefusal) (next longer_next : GivenOptions →
    Result Opening LaunchRefusal) (more : List Word) → ((g : GivenOptions) → Grows (next g) (longer_next g) more)
    → Grows (cond given (Err refusals.WrongOption) (value >>= next))
    (cond given (Err refusals.WrongOption) (value >>= longer_next)) more
own_grows true value next longer_next more grow = fails_grow refusals.WrongOption _ more
own_grows false (Ok g) next longer_next more grow = grow g
own_grows false (Err d) next longer_next more grow = fails_grow d _ more

option_grows : (symbol : Symbol) (given : GivenOptions) (word value : Word) (rest more : List Word) →
    ((g : GivenOptions) → Grows (opening_of g rest) (opening_of g (rest ++ more)) more)
    → Grows (where_option symbol given word value rest (λ next. opening_of next rest))
    (where_option symbol given word value (rest ++ more) (λ next. opening_of next (rest ++ more))) more
option_grows (symbols.Own option) given word value rest more grow =
    own_grows (is_given option given) (with_value option given value) (λ next. opening_of next rest)
    (λ next. opening_of next (rest ++ more)) more grow
option_grows symbols.File given word value rest more grow = grows_to (at_file given value rest) _ more (λ h. refl)
option_grows symbols.Count given word value rest more grow =
    grows_to (at_sets given (word ∷ value ∷ rest)) _ more (λ h. refl)
option_grows symbols.LeftOut given word value rest more grow =
    grows_to (at_sets given (word ∷ value ∷ rest)) _ more (λ h. refl)
option_grows symbols.Unknown given word value rest more grow =
    grows_to (at_sets given (word ∷ value ∷ rest)) _ more (λ h. refl)
option_grows symbols.Separator given word value rest more grow =
    grows_to (at_sets given (word ∷ value ∷ rest)) _ more (λ h. refl)
option_grows symbols.Program given word value rest more grow =
    grows_to (at_sets given (word ∷ value ∷ rest)) _ more (λ h. refl)

opening_grows : (given : GivenOptions) (words more : List Word) →
    Grows (opening_of given words) (opening_of given (words ++ more)) more
unfolding opening_of
opening_grows given [] more = grows_to (at_sets given []) _ more (λ h. absurd h)
opening_grows given (word ∷ []) more = λ opening e begun. opening_is given word more ∙
    last_grows (symbol_of word) given word more opening e begun
opening_grows given (word ∷ value ∷ rest) more =
    option_grows (symbol_of word) given word value rest more (λ g. opening_grows g rest more)

-- ---- all the words

ended_stays : (rest more : List Word) (sets : List ProcessSet) (fault : LaunchRefusal) →
    if_ended rest sets ≡ Err fault → if_ended (rest ++ more) sets ≡ Err fault
ended_stays [] more sets fault e = absurd cc
ended_stays (word ∷ rest) more sets fault e = e

file_stays : (read : Result (List ProcessSet) LaunchRefusal) (rest more : List Word) (fault : LaunchRefusal) →
    (read >>= if_ended rest) ≡ Err fault → (read >>= if_ended (rest ++ more)) ≡ Err fault
file_stays (Ok sets) rest more fault e = ended_stays rest more sets fault e
file_stays (Err d) rest more fault e = e

sets_where_stay : (file : Option Word) (rest more : List Word) (config : Option (List ℕ)) (fault : LaunchRefusal) →
    IsOfAWord fault → sets_where file rest config ≡ Err fault → sets_where file (rest ++ more) config ≡ Err fault
sets_where_stay None rest more config fault is e = sets_stay fault is rest more e
sets_where_stay (Some name) rest more config fault is e = file_stays (sets_of_file config) rest more fault e

no_sets : sets_of [] ≡ Err refusals.NoSet
unfolding each_set set_of
no_sets = refl

has_begun : (file : Option Word) (rest : List Word) (config : Option (List ℕ)) (fault : LaunchRefusal) →
    IsOfAWord fault → sets_where file rest config ≡ Err fault → HasBegun file rest
has_begun None [] config fault is e = missing {A = List ProcessSet} refusals.NoSet fault (λ h. h) is (sym no_sets ∙ e)
has_begun None (word ∷ rest) config fault is e = tt
has_begun (Some name) rest config fault is e = tt

behind_begun : (opening : Opening) (config : Option (List ℕ)) (fault : LaunchRefusal) → IsOfAWord fault →
    sets_behind opening config ≡ Err fault → HasBegun opening.file opening.rest
unfolding sets_behind
behind_begun opening config fault is e = has_begun opening.file opening.rest config fault is e

behind_stays : (opening : Opening) (more : List Word) (config : Option (List ℕ)) (fault : LaunchRefusal) →
    IsOfAWord fault → sets_behind opening config ≡ Err fault → sets_behind (longer opening more) config ≡ Err fault
unfolding sets_behind
behind_stays opening more config fault is e = sets_where_stay opening.file opening.rest more config fault is e

limited_fails : (launch : Launch) (fault : LaunchRefusal) → IsOfAWord fault → limited launch ≡ Err fault → ⊥
unfolding limited
limited_fails launch fault is e =
    let go : (t : Bool) → cond t (Ok launch) (Err refusals.OverLimit) ≡ failed {A = Launch} fault → ⊥ =
    λ t. elim t as (λ t. cond t (Ok launch) (Err refusals.OverLimit) ≡ failed {A = Launch} fault →
    ⊥) [ true ↦ λ h. absurd cc | false ↦ λ h. missing {A = Launch} refusals.OverLimit fault (λ x. x) is h ] in
    go (is_within_limits launch) e

launch_fails : (words : List Word) (config : Option (List ℕ)) (fault : LaunchRefusal) → opening_of nothing_given words ≡
    Err fault → launch_of words config ≡ Err fault
unfolding launch_of
launch_fails words config fault e = rw e refl

launch_fails_later : (words : List Word) (config : Option (List ℕ)) (fault : LaunchRefusal) (opening : Opening) →
    opening_of nothing_given words ≡ Ok opening → sets_behind opening config ≡ Err fault →
    launch_of words config ≡ Err fault
unfolding launch_of
launch_fails_later words config fault opening o e = rw (o, e) refl

pub faults_stay : (front rest : List Word) (config : Option (List ℕ)) (fault : LaunchRefusal) → IsOfAWord fault →
    launch_of front config ≡ Err fault → launch_of (front ++ rest) config ≡ Err fault
unfolding launch_of
faults_stay front rest config fault is e =
    elim (bind_err (opening_of nothing_given front)
    (λ opening. sets_behind opening config >>= λ sets. limited (launch_with opening.given sets)) fault e) [
      | inl h ↦ launch_fails (front ++ rest) config fault (opening_stays fault is nothing_given front rest h)
      | inr p ↦
          elim (bind_err (sets_behind p.0 config) (λ sets. limited (launch_with p.0.given sets)) fault p.2) [
            | inl h ↦ launch_fails_later (front ++ rest) config fault (longer p.0 rest)
                (opening_grows nothing_given front rest p.0 p.1 (behind_begun p.0 config fault is h))
                (behind_stays p.0 rest config fault is h)
            | inr q ↦ absurd (limited_fails (launch_with p.0.given q.0) fault is q.2)
          ]
    ]
