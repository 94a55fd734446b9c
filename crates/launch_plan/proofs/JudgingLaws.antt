-- What judging the words finds is what reading them gives.
use Rattle.std.proofs.Common.{◌≡◌, ◌≢◌, ℕ, ◌+◌, ◌-◌, ◌≤◌, ◌<◌, Bool, true, false, cond, leb, List, [], ◌∷◌, ◌++◌}
use Rattle.std.proofs.Common.{length, take, map, Option, Some, None, Result, Ok, Err, refl, sym, ap, subst, ◌∙◌}
use Rattle.std.proofs.Common.{append_assoc, inl, inr, arith}
use Rattle.std.specs.Prelude.{filter, not, ◌&&◌, ◌||◌, codes, nat_le, unwrap_or, ◌⊎◌, IfOk}
use Rattle.std.specs.List.{slice_split, onto_first, list_any}
use Rattle.std.specs.Fmt.{decimal}
use Rattle.std.proofs.lemmas.List.Sums.{sum_by-cons}
use Rattle.std.proofs.lemmas.Bool.{leb-true, leb-false, lt-leb}
use Rattle.std.proofs.lemmas.Bool.Decides.{eqb_tells}
use Rattle.launch_plan.specs.declared.refusal.LaunchRefusal.{LaunchRefusal}
use Rattle.launch_plan.specs.declared.refusal.LaunchRefusal.TheVariants as refusals
use Rattle.launch_plan.specs.declared.symbol.Symbol.{Symbol}
use Rattle.launch_plan.specs.declared.symbol.Symbol.TheVariants as symbols
use Rattle.launch_plan.specs.declared.stage.Stage.{Stage}
use Rattle.launch_plan.specs.declared.stage.Stage.TheVariants as stages
use Rattle.launch_plan.specs.declared.validation.Tally.{Tally}
use Rattle.launch_plan.specs.declared.process_set.ProcessSet.{ProcessSet}
use Rattle.numerals.specs.Numbers.{number_between}
use Rattle.launch_keeper.specs.Words.{Word}
use Rattle.launch_plan.specs.Symbols.{is_separator, symbol_of}
use Rattle.launch_plan.specs.Results.{◌>>=◌, Fails, GivesExactly, required}
use Rattle.launch_plan.proofs.SetLoop.{fails_with}
use Rattle.launch_plan.specs.Sets.{where_program, program_of, counted, where_set, set_of, each_set, sets_of}
use Rattle.launch_plan.specs.Configuration.{is_line_end, is_nonempty, words_of, is_comment, goes_on, with_space}
use Rattle.launch_plan.specs.Configuration.{before_first_line, joined_lines, lines_of, sets_of_lines, sets_of_file}
use Rattle.launch_plan.specs.declared.given_options.GivenOptions.{GivenOptions}
use Rattle.launch_plan.specs.Options.{Opening}
use Rattle.launch_plan.specs.Launches.{Launch, rank_count, launch_with, limited}
use Rattle.launch_plan.specs.Plans.{if_ended, sets_behind}
use Rattle.launch_plan.specs.SetFaults.{total_with, stage_after_first, stage_after_program, stage_after, stage_behind}
use Rattle.launch_plan.specs.SetFaults.{count_at, count_of, IsCounted, total_or_none, total, count_ranks, tally_on}
use Rattle.launch_plan.specs.SetFaults.{tally_end, tally_line, tally_lines, nothing_tallied, ranks_of, size_behind}
use Rattle.launch_plan.proofs.ConfigurationLaws.{words_at_blank, no_words}
use Rattle.launch_plan.specs.Grammar.{AreLineSets}
use Rattle.launch_plan.proofs.GrammarLaws.{bind_ok, ok_is, set_takes, lines_take}
use Rattle.launch_plan.proofs.SetsLaws.{has_part}

-- ---- steps

bind_assoc : {A B C : Type 0} (r : Result A LaunchRefusal) (f : A → Result B LaunchRefusal) (g : B →
    Result C LaunchRefusal) → ((r >>= f) >>= g) ≡ (r >>= λ x. f x >>= g)
bind_assoc (Ok x) f g = refl
bind_assoc (Err e) f g = refl

bind_same : {A B : Type 0} (r : Result A LaunchRefusal) (f g : A → Result B LaunchRefusal) → ((x : A) → f x ≡ g x) →
    (r >>= f) ≡ (r >>= g)
bind_same (Ok x) f g same = same x
bind_same (Err e) f g same = refl

-- what a set that was read counts for
abbrev pub with_set : Result ProcessSet LaunchRefusal → (ℕ → Result ℕ LaunchRefusal) → Result ℕ LaunchRefusal
with_set read next = read >>= λ set. next set.count

-- ---- one set

-- at a set's end: what follows where it has no words, the fault of what is missing, or what its count gives
abbrev pub at_end : Result ℕ LaunchRefusal → (ℕ → Result ℕ LaunchRefusal) → Stage → Result ℕ LaunchRefusal
at_end empty next stages.Empty = empty
at_end empty next stages.Count = Err refusals.WrongValue
at_end empty next (stages.Program count) = Err refusals.NoProgram
at_end empty next (stages.Arguments count) = next count

arguments_count : (empty : Result ℕ LaunchRefusal) (next : ℕ → Result ℕ LaunchRefusal) (count : ℕ) (program : Word)
    (words all : List Word) →
    (stage_behind (stages.Arguments count) words >>= at_end empty next) ≡
    cond (list_any is_separator words) (Err refusals.WrongOption) (next count)
unfolding stage_after
arguments_count empty next count program [] all = refl
arguments_count empty next count program (word ∷ words) all =
    let ih = arguments_count empty next count program words all in
    let go : (t : Bool) → ((cond t (Err refusals.WrongOption) (Ok (stages.Arguments count)) >>= λ s. stage_behind s words) >>= at_end empty next) ≡ cond (t || list_any is_separator words) (Err refusals.WrongOption) (next count) =
    λ t. elim t as
    (λ t. ((cond t (Err refusals.WrongOption) (Ok (stages.Arguments count)) >>= λ s. stage_behind s words) >>=
    at_end empty next) ≡ cond (t || list_any is_separator words) (Err refusals.WrongOption) (next count)) [
      | true ↦ refl
      | false ↦ ih
    ] in
    go (is_separator word)

with_program : (next : ℕ → Result ℕ LaunchRefusal) (count : ℕ) (word : Word) (t : Bool) (rest : List Word) →
    with_set (cond t (Err refusals.WrongOption) (Ok (record { count = count; program = word; arguments = rest }))) next
    ≡ cond t (Err refusals.WrongOption) (next count)
with_program next count word true rest = refl
with_program next count word false rest = refl

named_count : (empty : Result ℕ LaunchRefusal) (next : ℕ → Result ℕ LaunchRefusal) (count : ℕ) (symbol : Symbol)
    (word : Word) (rest : List Word) →
    ((stage_after_program count symbol >>= λ s. stage_behind s rest) >>= at_end empty next) ≡
    with_set (where_program symbol count word rest) next
named_count empty next count symbols.Program word rest = arguments_count empty next count word rest rest ∙
    sym (with_program next count word (list_any is_separator rest) rest)
named_count empty next count symbols.LeftOut word rest = refl
named_count empty next count symbols.Count word rest = refl
named_count empty next count symbols.File word rest = refl
named_count empty next count symbols.Unknown word rest = refl
named_count empty next count symbols.Separator word rest = refl
named_count empty next count (symbols.Own option) word rest = refl

program_count : (empty : Result ℕ LaunchRefusal) (next : ℕ → Result ℕ LaunchRefusal) (count : ℕ) (words : List Word) →
    (stage_behind (stages.Program count) words >>= at_end empty next) ≡ with_set (program_of count words) next
unfolding stage_after program_of
program_count empty next count [] = refl
program_count empty next count (word ∷ rest) = named_count empty next count (symbol_of word) word rest

value_count : (empty : Result ℕ LaunchRefusal) (next : ℕ → Result ℕ LaunchRefusal) (value : Option ℕ)
    (rest : List Word) →
    (((required value refusals.WrongValue >>= λ count. Ok (stages.Program count)) >>= λ s. stage_behind s rest) >>=
    at_end empty next)
    ≡ with_set (required value refusals.WrongValue >>= λ count. program_of count rest) next
value_count empty next (Some count) rest = program_count empty next count rest
value_count empty next None rest = refl

counted_count : (empty : Result ℕ LaunchRefusal) (next : ℕ → Result ℕ LaunchRefusal) (words : List Word) →
    (stage_behind stages.Count words >>= at_end empty next) ≡ with_set (counted words) next
unfolding stage_after counted
counted_count empty next [] = refl
counted_count empty next (value ∷ rest) = value_count empty next (number_between value 1 1024) rest

begun_count : (empty : Result ℕ LaunchRefusal) (next : ℕ → Result ℕ LaunchRefusal) (symbol : Symbol)
    (rest : List Word) →
    ((stage_after_first symbol >>= λ s. stage_behind s rest) >>= at_end empty next) ≡
    with_set (where_set symbol rest) next
begun_count empty next symbols.Count rest = counted_count empty next rest
begun_count empty next symbols.LeftOut rest = refl
begun_count empty next symbols.Program rest = refl
begun_count empty next symbols.File rest = refl
begun_count empty next symbols.Unknown rest = refl
begun_count empty next symbols.Separator rest = refl
begun_count empty next (symbols.Own option) rest = refl

-- the stages of a set's words end with its count, or with its fault
pub set_count : (empty : Result ℕ LaunchRefusal) (next : ℕ → Result ℕ LaunchRefusal) (word : Word) (rest : List Word) →
    (stage_behind stages.Empty (word ∷ rest) >>= at_end empty next) ≡ with_set (set_of (word ∷ rest)) next
unfolding stage_after set_of
set_count empty next word rest = begun_count empty next (symbol_of word) rest

-- the same, where a set without words is a fault
pub any_count : (next : ℕ → Result ℕ LaunchRefusal) (words : List Word) →
    (stage_behind stages.Empty words >>= at_end (Err refusals.NoSet) next) ≡ with_set (set_of words) next
unfolding set_of
any_count next [] = refl
any_count next (word ∷ rest) = set_count (Err refusals.NoSet) next word rest

-- what the words of a set with this count are
pub counted_set : (words : List Word) (count : ℕ) → with_set (set_of words) (λ n. Ok n) ≡ Ok count →
    IsCounted words count
counted_set words count h =
    let b = bind_ok (set_of words) (λ set. Ok set.count) count h in
    let set = b.0 in
    let is = set_takes words set b.1 in
    let count_is : set.count ≡ count = ok_is set.count count b.2 in
    let there : IsCounted (codes "-n" ∷ decimal set.count ∷ set.program ∷ set.arguments) set.count = record { long = omega arith; read = sym (ap set_of is.spelled) ∙ b.1 } in
    subst (λ (w : List Word). IsCounted w count) (sym is.spelled)
    (subst (λ (n : ℕ). IsCounted (codes "-n" ∷ decimal set.count ∷ set.program ∷ set.arguments) n) count_is there)

count_is : (stage : Stage) → count_at stage ≡ at_end (Err refusals.NoSet) (λ n. Ok n) stage
count_is stages.Empty = refl
count_is stages.Count = refl
count_is (stages.Program count) = refl
count_is (stages.Arguments count) = refl

pub count_tally : (words : List Word) → (stage_behind stages.Empty words >>= count_at) ≡ count_of words
count_tally words =
    bind_same (stage_behind stages.Empty words) count_at (at_end (Err refusals.NoSet) (λ n. Ok n)) count_is ∙
    any_count (λ n. Ok n) words

pub counted_if : (words : List Word) (r : Result ℕ LaunchRefusal) → GivesExactly (λ count. count) r (count_of words) →
    IfOk r (λ count. IsCounted words count)
counted_if words (Ok count) given = counted_set words count given
counted_if words (Err e) given = tt

bind_fault : {A B : Type 0} (read : Result A LaunchRefusal) (f : A → B) (e : LaunchRefusal) →
    (read >>= λ x. Ok (f x)) ≡ Err e → read ≡ Err e
bind_fault (Ok x) f e h = absurd cc
bind_fault (Err d) f e h = cc

pub count_fault : (words : List Word) (e : LaunchRefusal) → count_of words ≡ Err e → Fails e (set_of words)
count_fault words e h = fails_with e (set_of words) (bind_fault (set_of words) (λ set. set.count) e h)

-- ---- sets one after the other

added_more : (a b c : ℕ) → total_with (total_with a b) c ≡ total_with a (b + c)
added_more a b c = omega arith

added_none : (a b : ℕ) → total_with (total_with a b) 0 ≡ total_with a b
added_none a b = omega arith

-- the ranks of a first set and those of the others
abbrev pub ranks_with : ℕ → Result ProcessSet LaunchRefusal → Result (List ProcessSet) LaunchRefusal →
    Result ℕ LaunchRefusal
ranks_with ranks first others = with_set first (λ count. ranks_of (total_with ranks count) others)

ranks_first : (ranks : ℕ) (first : Result ProcessSet LaunchRefusal) (others : Result (List ProcessSet) LaunchRefusal) →
    ranks_of ranks (first >>= λ set. others >>= λ sets. Ok (set ∷ sets)) ≡ ranks_with ranks first others
ranks_first ranks (Ok set) (Ok sets) =
    ap (λ (n : ℕ). Ok (total_with ranks n)) (sum_by-cons (λ s. s.count) set sets) ∙
    ap (λ (n : ℕ). Ok n) (sym (added_more ranks set.count (rank_count sets)))
ranks_first ranks (Ok set) (Err e) = refl
ranks_first ranks (Err e) others = refl

ranks_each : (ranks : ℕ) (words : List Word) (others : List (List Word)) →
    ranks_of ranks (each_set (words ∷ others)) ≡ ranks_with ranks (set_of words) (each_set others)
unfolding each_set
ranks_each ranks words others = ranks_first ranks (set_of words) (each_set others)

-- ---- the sets of the words

-- the ranks of sets of which the first goes on at a stage
abbrev pub ranks_from : ℕ → Stage → List (List Word) → Result ℕ LaunchRefusal
ranks_from ranks stage [] = total ranks stage
ranks_from ranks stage (words ∷ others) =
    (stage_behind stage words >>= total ranks) >>= λ more. ranks_of more (each_set others)

closed_later : (ranks : ℕ) (later : ℕ → Result ℕ LaunchRefusal) (stage : Stage) →
    (total ranks stage >>= later) ≡ at_end (Err refusals.NoSet) (λ count. later (total_with ranks count)) stage
closed_later ranks later stages.Empty = refl
closed_later ranks later stages.Count = refl
closed_later ranks later (stages.Program count) = refl
closed_later ranks later (stages.Arguments count) = refl

ranks_at_start : (ranks : ℕ) (words : List Word) (others : List (List Word)) →
    ranks_from ranks stages.Empty (words ∷ others) ≡ ranks_of ranks (each_set (words ∷ others))
ranks_at_start ranks words others =
    let later : ℕ → Result ℕ LaunchRefusal = λ more. ranks_of more (each_set others) in
    bind_assoc (stage_behind stages.Empty words) (total ranks) later
    ∙ bind_same (stage_behind stages.Empty words) (λ s. total ranks s >>= later)
    (at_end (Err refusals.NoSet) (λ count. later (total_with ranks count))) (closed_later ranks later)
    ∙ any_count (λ count. later (total_with ranks count)) words
    ∙ sym (ranks_each ranks words others)

ranks_at_sets : (ranks : ℕ) (words : List Word) →
    ranks_from ranks stages.Empty (slice_split is_separator words) ≡ ranks_of ranks (sets_of words)
ranks_at_sets ranks words =
    let p = has_part words in
    ap (ranks_from ranks stages.Empty) p.2 ∙ ranks_at_start ranks p.0 p.1
    ∙ ap (λ (parts : List (List Word)). ranks_of ranks (each_set parts)) (sym p.2)

closed_done : (ranks : ℕ) (stage : Stage) → total ranks stage ≡ (total ranks stage >>= λ more. Ok (total_with more 0))
closed_done ranks stages.Empty = refl
closed_done ranks stages.Count = refl
closed_done ranks (stages.Program count) = refl
closed_done ranks (stages.Arguments count) = ap (λ (n : ℕ). Ok n) (sym (added_none ranks count))

none_left : (ranks : ℕ) (stage : Stage) → total ranks stage ≡ ranks_from ranks stage ([] ∷ [])
unfolding each_set
none_left ranks stage = closed_done ranks stage

-- a word before the first part
regroup : (ranks : ℕ) (first : List Word) (later : ℕ → Result ℕ LaunchRefusal) (after : Result Stage LaunchRefusal) →
    (after >>= λ next. (stage_behind next first >>= total ranks) >>= later) ≡
    (((after >>= λ next. stage_behind next first) >>= total ranks) >>= later)
regroup ranks first later (Ok next) = refl
regroup ranks first later (Err e) = refl

word_before : (ranks : ℕ) (stage : Stage) (word : Word) (parts : List (List Word)) (first : List Word)
    (others : List (List Word)) → parts ≡ first ∷ others →
    (stage_after stage word >>= λ next. ranks_from ranks next parts) ≡ ranks_from ranks stage (onto_first word parts)
word_before ranks stage word parts first others is =
    subst (λ (p : List (List Word)). (stage_after stage word >>= λ next. ranks_from ranks next p) ≡
    ranks_from ranks stage (onto_first word p)) (sym is)
    (regroup ranks first (λ more. ranks_of more (each_set others)) (stage_after stage word))

words_are : (ranks : ℕ) (stage : Stage) (words : List Word) → count_ranks ranks stage words ≡
    ranks_from ranks stage (slice_split is_separator words)
words_are ranks stage [] = none_left ranks stage
words_are ranks stage (word ∷ words) =
    let p = has_part words in
    let go : (t : Bool) → cond t (total ranks stage >>= λ more. count_ranks more stages.Empty words) (stage_after stage word >>= λ next. count_ranks ranks next words) ≡ ranks_from ranks stage (cond t ([] ∷ slice_split is_separator words) (onto_first word (slice_split is_separator words))) =
    λ t. elim t as
    (λ t. cond t (total ranks stage >>= λ more. count_ranks more stages.Empty words)
    (stage_after stage word >>= λ next. count_ranks ranks next words) ≡
    ranks_from ranks stage
    (cond t ([] ∷ slice_split is_separator words) (onto_first word (slice_split is_separator words)))) [
      | true ↦ bind_same (total ranks stage) (λ more. count_ranks more stages.Empty words)
          (λ more. ranks_of more (sets_of words)) (λ more. words_are more stages.Empty words ∙ ranks_at_sets more words)
      | false ↦ bind_same (stage_after stage word) (λ next. count_ranks ranks next words)
          (λ next. ranks_from ranks next (slice_split is_separator words)) (λ next. words_are ranks next words) ∙
          word_before ranks stage word (slice_split is_separator words) p.0 p.1 p.2
    ] in
    go (is_separator word)

pub words_tally : (words : List Word) → count_ranks 0 stages.Empty words ≡ ranks_of 0 (sets_of words)
words_tally words = words_are 0 stages.Empty words ∙ ranks_at_sets 0 words

-- ---- the lines of a file

behind_append : (stage : Stage) (words more : List Word) → stage_behind stage (words ++ more) ≡
    (stage_behind stage words >>= λ next. stage_behind next more)
behind_append stage [] more = refl
behind_append stage (word ∷ words) more =
    bind_same (stage_after stage word) (λ next. stage_behind next (words ++ more))
    (λ next. stage_behind next words >>= λ last. stage_behind last more) (λ next. behind_append next words more)
    ∙ sym (bind_assoc (stage_after stage word) (λ next. stage_behind next words) (λ last. stage_behind last more))

-- the ranks of lines of words
abbrev pub ranks_of_lines : ℕ → List (List Word) → Result ℕ LaunchRefusal
ranks_of_lines ranks [] = Ok ranks
ranks_of_lines ranks (line ∷ lines) =
    (stage_behind stages.Empty line >>= total_or_none ranks) >>= λ more. ranks_of_lines more lines

-- the same, where the first line goes on at a stage
abbrev pub ranks_on : ℕ → Stage → List (List Word) → Result ℕ LaunchRefusal
ranks_on ranks stage [] = total_or_none ranks stage
ranks_on ranks stage (line ∷ lines) =
    (stage_behind stage line >>= total_or_none ranks) >>= λ more. ranks_of_lines more lines

on_at_start : (ranks : ℕ) (lines : List (List Word)) → ranks_on ranks stages.Empty lines ≡ ranks_of_lines ranks lines
on_at_start ranks [] = refl
on_at_start ranks (line ∷ lines) = refl

front_words : (front : List ℕ) → words_of (front ++ 32 ∷ []) ≡ words_of front ++ []
front_words front = words_at_blank front [] ∙ ap (λ (w : List Word). words_of front ++ w) no_words

ended_done : (ranks : ℕ) (stage : Stage) → (total_or_none ranks stage >>= λ more. Ok more) ≡ total_or_none ranks stage
ended_done ranks stages.Empty = refl
ended_done ranks stages.Count = refl
ended_done ranks (stages.Program count) = refl
ended_done ranks (stages.Arguments count) = refl

bind_end : (ranks : ℕ) (read : Result Stage LaunchRefusal) →
    (((read >>= λ next. Ok next) >>= total_or_none ranks) >>= λ more. Ok more) ≡
    (read >>= λ next. total_or_none ranks next)
bind_end ranks (Ok stage) = ended_done ranks stage
bind_end ranks (Err e) = refl

bind_on : (ranks : ℕ) (words : List Word) (lines : List (List Word)) (read : Result Stage LaunchRefusal) →
    (((read >>= λ s. stage_behind s words) >>= total_or_none ranks) >>= λ more. ranks_of_lines more lines) ≡
    (read >>= λ s. ranks_on ranks s (words ∷ lines))
bind_on ranks words lines (Ok stage) = refl
bind_on ranks words lines (Err e) = refl

going_on : (ranks : ℕ) (stage : Stage) (line : List ℕ) (lines : List (List ℕ)) →
    (stage_behind stage (words_of (take (length line - 1) line)) >>= λ next. ranks_on ranks next (map words_of lines))
    ≡ ranks_on ranks stage (map words_of (before_first_line (with_space line) lines))
going_on ranks stage line [] =
    let front = take (length line - 1) line in
    let e : stage_behind stage (words_of (with_space line)) ≡ (stage_behind stage (words_of front) >>= λ next. stage_behind next []) = ap (stage_behind stage) (front_words front) ∙ behind_append stage (words_of front) [] in
    sym (ap (λ (r : Result Stage LaunchRefusal). (r >>= total_or_none ranks) >>= λ more. ranks_of_lines more []) e
    ∙ bind_end ranks (stage_behind stage (words_of front)))
going_on ranks stage line (next ∷ lines) =
    let front = take (length line - 1) line in
    let e : stage_behind stage (words_of (with_space line ++ next)) ≡ (stage_behind stage (words_of front) >>= λ s. stage_behind s (words_of next)) =
    ap (stage_behind stage) (ap words_of (append_assoc front (32 ∷ []) next) ∙ words_at_blank front next) ∙
    behind_append stage (words_of front) (words_of next) in
    sym (ap (λ (r : Result Stage LaunchRefusal). (r >>= total_or_none ranks) >>= λ more. ranks_of_lines more
    (map words_of lines)) e
    ∙ bind_on ranks (words_of next) (map words_of lines) (stage_behind stage (words_of front)))

line_ends : (ranks : ℕ) (stage : Stage) (words : List Word) (lines : List (List Word)) (next : Tally →
    Result ℕ LaunchRefusal) →
    ((n : ℕ) → next (record { ranks = n; stage = stages.Empty; begun = false }) ≡ ranks_on n stages.Empty lines) →
    ((stage_behind stage words >>= λ s. total_or_none ranks s >>= λ n. Ok
    (record { ranks = n; stage = stages.Empty; begun = false })) >>= next) ≡ ranks_on ranks stage (words ∷ lines)
line_ends ranks stage words lines next is =
    bind_assoc (stage_behind stage words)
    (λ s. total_or_none ranks s >>= λ n. Ok (record { ranks = n; stage = stages.Empty; begun = false })) next
    ∙ bind_same (stage_behind stage words)
    (λ s. (total_or_none ranks s >>= λ n. Ok (record { ranks = n; stage = stages.Empty; begun = false })) >>= next)
    (λ s. total_or_none ranks s >>= λ more. ranks_of_lines more lines)
    (λ s. bind_assoc (total_or_none ranks s) (λ n. Ok (record { ranks = n; stage = stages.Empty; begun = false })) next
    ∙ bind_same (total_or_none ranks s) (λ n. next (record { ranks = n; stage = stages.Empty; begun = false }))
    (λ more. ranks_of_lines more lines) (λ n. is n ∙ on_at_start n lines))
    ∙ sym (bind_assoc (stage_behind stage words) (total_or_none ranks) (λ more. ranks_of_lines more lines))

-- a line that isn't skipped
line_by : (ranks : ℕ) (stage : Stage) (begun : Bool) (line : List ℕ) (lines : List (List ℕ)) (last : Bool)
    → ((s : Stage) → tally_lines (record { ranks = ranks; stage = s; begun = true }) lines ≡
    ranks_on ranks s (map words_of (joined_lines true lines)))
    → ((n : ℕ) → tally_lines (record { ranks = n; stage = stages.Empty; begun = false }) lines ≡
    ranks_on n stages.Empty (map words_of (joined_lines false lines)))
    → (cond last (tally_on (record { ranks = ranks; stage = stage; begun = begun }) (take (length line - 1) line))
    (tally_end (record { ranks = ranks; stage = stage; begun = begun }) line) >>= λ next. tally_lines next lines)
    ≡ ranks_on ranks stage
    (map words_of
    (cond last (before_first_line (with_space line) (joined_lines true lines)) (line ∷ joined_lines false lines)))
line_by ranks stage begun line lines true on off =
    bind_assoc (stage_behind stage (words_of (take (length line - 1) line)))
    (λ s. Ok (record { ranks = ranks; stage = s; begun = true })) (λ next. tally_lines next lines)
    ∙ bind_same (stage_behind stage (words_of (take (length line - 1) line)))
    (λ s. tally_lines (record { ranks = ranks; stage = s; begun = true }) lines)
    (λ s. ranks_on ranks s (map words_of (joined_lines true lines))) on
    ∙ going_on ranks stage line (joined_lines true lines)
line_by ranks stage begun line lines false on off =
    line_ends ranks stage (words_of line) (map words_of (joined_lines false lines)) (λ next. tally_lines next lines) off

lines_are : (ranks : ℕ) (stage : Stage) (begun : Bool) (lines : List (List ℕ)) →
    tally_lines (record { ranks = ranks; stage = stage; begun = begun }) lines ≡
    ranks_on ranks stage (map words_of (joined_lines begun lines))
unfolding joined_lines tally_line words_of
lines_are ranks stage true [] = sym (ended_done ranks stage)
lines_are ranks stage false [] = refl
lines_are ranks stage true (line ∷ lines) =
    line_by ranks stage true line lines (goes_on line) (λ s. lines_are ranks s true lines)
    (λ n. lines_are n stages.Empty false lines)
lines_are ranks stage false (line ∷ lines) =
    let tally : Tally = record { ranks = ranks; stage = stage; begun = false } in
    let rest : cond (goes_on line) (tally_on tally (take (length line - 1) line)) (tally_end tally line) >>= (λ next. tally_lines next lines) ≡ ranks_on ranks stage (map words_of (cond (goes_on line) (before_first_line (with_space line) (joined_lines true lines)) (line ∷ joined_lines false lines))) =
    line_by ranks stage false line lines (goes_on line) (λ s. lines_are ranks s true lines)
    (λ n. lines_are n stages.Empty false lines) in
    let go : (skip : Bool) → (cond skip (Ok tally) (cond (goes_on line) (tally_on tally (take (length line - 1) line)) (tally_end tally line)) >>= λ next. tally_lines next lines)
    ≡ ranks_on ranks stage
    (map words_of
    (cond skip (joined_lines false lines)
    (cond (goes_on line) (before_first_line (with_space line) (joined_lines true lines))
    (line ∷ joined_lines false lines)))) =
    λ t. elim t as
    (λ t. (cond t (Ok tally)
    (cond (goes_on line) (tally_on tally (take (length line - 1) line)) (tally_end tally line)) >>= λ next.
    tally_lines next lines)
    ≡ ranks_on ranks stage
    (map words_of
    (cond t (joined_lines false lines)
    (cond (goes_on line) (before_first_line (with_space line) (joined_lines true lines))
    (line ∷ joined_lines false lines))))) [
      | true ↦ lines_are ranks stage false lines
      | false ↦ rest
    ] in
    go (is_comment line)

pub lines_tally : (bytes : List ℕ) → tally_lines nothing_tallied (slice_split is_line_end bytes) ≡
    ranks_of_lines 0 (map words_of (joined_lines false (slice_split is_line_end bytes)))
lines_tally bytes = lines_are 0 stages.Empty false (slice_split is_line_end bytes) ∙
    on_at_start 0 (map words_of (joined_lines false (slice_split is_line_end bytes)))

-- ---- the sets of a file

ended_later : (ranks : ℕ) (later : ℕ → Result ℕ LaunchRefusal) (stage : Stage) →
    (total_or_none ranks stage >>= later) ≡ at_end (later ranks) (λ count. later (total_with ranks count)) stage
ended_later ranks later stages.Empty = refl
ended_later ranks later stages.Count = refl
ended_later ranks later (stages.Program count) = refl
ended_later ranks later (stages.Arguments count) = refl

few_added : (a b : ℕ) → total_with a b ≤ 1025
few_added a b = omega arith

none_added : (n : ℕ) → n ≤ 1025 → n ≡ total_with n 0
none_added n few = omega (arith, few)

kept : (word : Word) (words : List Word) (lines : List (List Word)) → filter is_nonempty ((word ∷ words) ∷ lines) ≡
    (word ∷ words) ∷ filter is_nonempty lines
kept word words lines =
    let t : is_nonempty (word ∷ words) ≡ true = elim (eqb_tells (length (word ∷ words)) 0) [
      | inl same ↦ let no : length (word ∷ words) ≡ 0 = same.1 in absurd (omega (arith, no))
      | inr other ↦ ap not other.0
    ] in
    rw t refl

lines_read : (ranks : ℕ) (lines : List (List Word)) → ranks ≤ 1025 →
    ranks_of_lines ranks lines ≡ ranks_of ranks (each_set (filter is_nonempty lines))
unfolding each_set
lines_read ranks [] few = ap (λ (n : ℕ). Ok n) (none_added ranks few)
lines_read ranks ([] ∷ lines) few = lines_read ranks lines few
lines_read ranks ((word ∷ words) ∷ lines) few =
    let later : ℕ → Result ℕ LaunchRefusal = λ more. ranks_of_lines more lines in
    let set = set_of (word ∷ words) in
    bind_assoc (stage_behind stages.Empty (word ∷ words)) (total_or_none ranks) later
    ∙ bind_same (stage_behind stages.Empty (word ∷ words)) (λ s. total_or_none ranks s >>= later)
    (at_end (later ranks) (λ count. later (total_with ranks count))) (ended_later ranks later)
    ∙ set_count (later ranks) (λ count. later (total_with ranks count)) word words
    ∙ bind_same set (λ one. later (total_with ranks one.count))
    (λ one. ranks_of (total_with ranks one.count) (each_set (filter is_nonempty lines)))
    (λ one. lines_read (total_with ranks one.count) lines (few_added ranks one.count))
    ∙ sym (ap (λ (read : List (List Word)). ranks_of ranks (each_set read)) (kept word words lines) ∙
    ranks_each ranks (word ∷ words) (filter is_nonempty lines))

pub file_tally : (bytes : List ℕ) → tally_lines nothing_tallied (slice_split is_line_end bytes) ≡
    ranks_of 0 (each_set (lines_of bytes))
file_tally bytes = lines_tally bytes ∙ lines_read 0 (map words_of (joined_lines false (slice_split is_line_end bytes)))
    (omega arith)

file_fault : (lines : List (List Word)) (e : LaunchRefusal) → ranks_of 0 (each_set lines) ≡ Err e →
    ranks_of 0 (sets_of_lines lines) ≡ Err e
unfolding each_set
file_fault [] e h = absurd cc
file_fault (line ∷ lines) e h = h

file_some : (lines : List (List Word)) (n : ℕ) → n ≢ 0 → ranks_of 0 (each_set lines) ≡ Ok n →
    ranks_of 0 (sets_of_lines lines) ≡ Ok n
unfolding each_set
file_some [] n some h = let e : 0 ≡ n = ok_is 0 n h in absurd (some (sym e))
file_some (line ∷ lines) n some h = h

some_ranks : (lines : List (List Word)) (line : List Word) (sets : List ProcessSet) → AreLineSets (line ∷ lines) sets →
    1 ≤ rank_count sets
some_ranks lines line [] are = absurd are
some_ranks lines line (set ∷ sets) are =
    let least : 1 ≤ set.count = are.0.least in let sum = sum_by-cons (λ (s : ProcessSet). s.count) set sets in omega
    (arith, least, sum)

file_none : (lines : List (List Word)) → ranks_of 0 (each_set lines) ≡ Ok 0 → ranks_of 0 (sets_of_lines lines) ≡
    Err refusals.NoSet
file_none [] h = refl
file_none (line ∷ lines) h =
    let b = bind_ok (each_set (line ∷ lines)) (λ sets. Ok (total_with 0 (rank_count sets))) 0 h in
    let some = some_ranks lines line b.0 (lines_take (line ∷ lines) b.0 b.1) in
    let none : total_with 0 (rank_count b.0) ≡ 0 = ok_is (total_with 0 (rank_count b.0)) 0 b.2 in
    absurd (omega (arith, some, none))

pub file_of_fault : (bytes : List ℕ) (e : LaunchRefusal) → tally_lines nothing_tallied (slice_split is_line_end bytes) ≡
    Err e → ranks_of 0 (sets_of_file (Some bytes)) ≡ Err e
file_of_fault bytes e h = file_fault (lines_of bytes) e (sym (file_tally bytes) ∙ h)

pub file_of_some : (bytes : List ℕ) (n : ℕ) → n ≢ 0 → tally_lines nothing_tallied (slice_split is_line_end bytes) ≡
    Ok n → ranks_of 0 (sets_of_file (Some bytes)) ≡ Ok n
file_of_some bytes n some h = file_some (lines_of bytes) n some (sym (file_tally bytes) ∙ h)

pub file_of_none : (bytes : List ℕ) → tally_lines nothing_tallied (slice_split is_line_end bytes) ≡ Ok 0 →
    ranks_of 0 (sets_of_file (Some bytes)) ≡ Err refusals.NoSet
file_of_none bytes h = file_none (lines_of bytes) (sym (file_tally bytes) ∙ h)

-- ---- what stands behind the own options

named_fault : (name : Word) (rest : List Word) (read : Result (List ProcessSet) LaunchRefusal) (e : LaunchRefusal) →
    ranks_of 0 read ≡ Err e → ranks_of 0 (read >>= if_ended rest) ≡ Err e
named_fault name rest (Ok sets) e h = absurd cc
named_fault name rest (Err f) e h = h

named_alone : (rest : List Word) (read : Result (List ProcessSet) LaunchRefusal) (n : ℕ) → length rest ≡ 0 →
    ranks_of 0 read ≡ Ok n → ranks_of 0 (read >>= if_ended rest) ≡ Ok n
named_alone [] (Ok sets) n is h = h
named_alone [] (Err e) n is h = absurd cc
named_alone (word ∷ rest) read n is h = absurd (omega (arith, is))

named_more : (rest : List Word) (read : Result (List ProcessSet) LaunchRefusal) (n : ℕ) → rest ≢ [] →
    ranks_of 0 read ≡ Ok n → ranks_of 0 (read >>= if_ended rest) ≡ Err refusals.WrongOption
named_more [] read n more h = absurd (more refl)
named_more (word ∷ rest) (Ok sets) n more h = refl
named_more (word ∷ rest) (Err e) n more h = absurd cc

pub behind_words : (opening : Opening) (config : Option (List ℕ)) → opening.file ≡ None →
    ranks_of 0 (sets_behind opening config) ≡ ranks_of 0 (sets_of opening.rest)
unfolding sets_behind
behind_words opening config file = rw file refl

pub behind_fault : (opening : Opening) (config : Option (List ℕ)) (name : Word) (e : LaunchRefusal) →
    opening.file ≡ Some name → ranks_of 0 (sets_of_file config) ≡ Err e → ranks_of 0 (sets_behind opening config) ≡
    Err e
unfolding sets_behind
behind_fault opening config name e file h = rw file (named_fault name opening.rest (sets_of_file config) e h)

pub behind_alone : (opening : Opening) (config : Option (List ℕ)) (name : Word) (n : ℕ) → opening.file ≡ Some name →
    length opening.rest ≡ 0 → ranks_of 0 (sets_of_file config) ≡ Ok n → ranks_of 0 (sets_behind opening config) ≡ Ok n
unfolding sets_behind
behind_alone opening config name n file rest h = rw file (named_alone opening.rest (sets_of_file config) n rest h)

pub behind_more : (opening : Opening) (config : Option (List ℕ)) (name : Word) (n : ℕ) → opening.file ≡ Some name →
    opening.rest ≢ [] → ranks_of 0 (sets_of_file config) ≡ Ok n → ranks_of 0 (sets_behind opening config) ≡
    Err refusals.WrongOption
unfolding sets_behind
behind_more opening config name n file more h = rw file (named_more opening.rest (sets_of_file config) n more h)

-- ---- the limits

-- whether so many ranks are within the limits
abbrev pub fits : ℕ → ℕ → Bool
fits base ranks = nat_le ranks 1024 && nat_le (base + ranks) 65536

by_test : (test : Bool) (count : ℕ) (launch : Launch) → rank_count launch.sets ≡ count →
    (cond test (Ok launch) (Err refusals.OverLimit) >>= λ l. Ok (rank_count l.sets)) ≡
    cond test (Ok count) (Err refusals.OverLimit)
by_test true count launch is = ap (λ (n : ℕ). Ok n) is
by_test false count launch is = refl

le_or_lt : (a b : ℕ) → (a ≤ b) ⊎ (b < a)
le_or_lt a b =
    let go : (t : Bool) → leb a b ≡ t → (a ≤ b) ⊎ (b < a) = λ t. elim t as (λ t. leb a b ≡ t → (a ≤ b) ⊎ (b < a)) [
      | true ↦ λ h. inl (leb-true a b h)
      | false ↦ λ h. inr (leb-false a b h)
    ] in
    go (leb a b) refl

limit_by : (count n : ℕ) (launch : Launch) → (count ≤ 1024) ⊎ (1024 < count) → n ≡ total_with 0 count →
    rank_count launch.sets ≡ count →
    (limited launch >>= λ l. Ok (rank_count l.sets)) ≡ cond (fits launch.base_port n) (Ok n) (Err refusals.OverLimit)
unfolding limited
limit_by count n launch (inl few) n_is count_is =
    let same : n ≡ count = omega (arith, few, n_is) in
    rw (same, count_is) (by_test (fits launch.base_port count) count launch count_is)
limit_by count n launch (inr many) n_is count_is =
    let top : n ≡ 1025 = omega (arith, many, n_is) in
    let over : nat_le count 1024 ≡ false = lt-leb count 1024 many in
    rw (top, count_is, over) refl

size_by : (given : GivenOptions) (read : Result (List ProcessSet) LaunchRefusal) (n : ℕ) → ranks_of 0 read ≡ Ok n →
    (read >>= λ sets. limited (launch_with given sets) >>= λ l. Ok (rank_count l.sets)) ≡
    cond (fits (unwrap_or given.base_port 47000) n) (Ok n) (Err refusals.OverLimit)
size_by given (Ok sets) n h =
    limit_by (rank_count sets) n (launch_with given sets) (le_or_lt (rank_count sets) 1024)
    (sym (ok_is (total_with 0 (rank_count sets)) n h)) refl
size_by given (Err e) n h = absurd cc

pub size_fits : (opening : Opening) (config : Option (List ℕ)) (n : ℕ) → ranks_of 0 (sets_behind opening config) ≡
    Ok n → true ≡ fits (unwrap_or opening.given.base_port 47000) n → size_behind opening config ≡ Ok n
size_fits opening config n h fit = size_by opening.given (sets_behind opening config) n h ∙
    ap (λ (t : Bool). cond t (Ok n) (Err refusals.OverLimit)) (sym fit)

pub size_over : (opening : Opening) (config : Option (List ℕ)) (n : ℕ) → ranks_of 0 (sets_behind opening config) ≡
    Ok n → false ≡ fits (unwrap_or opening.given.base_port 47000) n →
    size_behind opening config ≡ Err refusals.OverLimit
size_over opening config n h over = size_by opening.given (sets_behind opening config) n h ∙
    ap (λ (t : Bool). cond t (Ok n) (Err refusals.OverLimit)) (sym over)

size_fault_by : (given : GivenOptions) (read : Result (List ProcessSet) LaunchRefusal) (e : LaunchRefusal) →
    ranks_of 0 read ≡ Err e →
    (read >>= λ sets. limited (launch_with given sets) >>= λ l. Ok (rank_count l.sets)) ≡ Err e
size_fault_by given (Ok sets) e h = absurd cc
size_fault_by given (Err f) e h = cc

pub size_fault : (opening : Opening) (config : Option (List ℕ)) (e : LaunchRefusal) →
    ranks_of 0 (sets_behind opening config) ≡ Err e → size_behind opening config ≡ Err e
size_fault opening config e h = size_fault_by opening.given (sets_behind opening config) e h
