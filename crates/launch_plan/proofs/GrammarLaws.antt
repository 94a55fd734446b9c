-- What is read is in the grammar, and what is in the grammar is read: sets.
use Rattle.std.proofs.Common.{◌≡◌, ◌≢◌, ℕ, ◌≤◌, Bool, true, false, cond, List, [], ◌∷◌, Option, Some, None, Result, Ok}
use Rattle.std.proofs.Common.{Err, refl, sym, ap, subst, ◌∙◌, arith}
use Rattle.std.specs.Prelude.{codes, ◌||◌}
use Rattle.std.specs.List.{list_any, AllByRecursion}
use Rattle.std.specs.Fmt.{decimal}
use Rattle.std.proofs.lemmas.Bool.{false≢true}
use Rattle.launch_plan.specs.declared.refusal.LaunchRefusal.{LaunchRefusal}
use Rattle.launch_plan.specs.declared.refusal.LaunchRefusal.TheVariants as refusals
use Rattle.launch_plan.specs.declared.symbol.Symbol.{Symbol}
use Rattle.launch_plan.specs.declared.symbol.Symbol.TheVariants as symbols
use Rattle.launch_plan.specs.declared.process_set.ProcessSet.{ProcessSet}
use Rattle.numerals.specs.Numbers.{number_between}
use Rattle.launch_keeper.specs.Words.{Word}
use Rattle.launch_plan.specs.Symbols.{is_separator, symbol_of}
use Rattle.launch_plan.specs.Results.{◌>>=◌, required}
use Rattle.launch_plan.specs.Sets.{where_program, program_of, counted, where_set, set_of, each_set}
use Rattle.launch_plan.specs.Grammar.{colon, IsProgram, IsSet, AreLineSets}
use Rattle.numerals.proofs.Numerals.{number_takes, number_again}
use Rattle.launch_plan.proofs.SymbolLaws.{other_word, differs, Means, means, program_again, count_again}

-- ---- steps that did not fail

pub bind_ok : {A B : Type 0} (r : Result A LaunchRefusal) (f : A → Result B LaunchRefusal) (y : B) → (r >>= f) ≡ Ok y →
    (x : A) × (r ≡ Ok x) × (f x ≡ Ok y)
bind_ok (Ok x) f y e = (x, refl, e)
bind_ok (Err d) f y e = absurd cc

abbrev pub done : {A : Type 0} → A → Result A LaunchRefusal
done x = Ok x

pub ok_is : {A : Type 0} (x y : A) → done x ≡ done y → x ≡ y
ok_is x y e = cc

pub required_ok : {A : Type 0} (o : Option A) (d : LaunchRefusal) (y : A) → required o d ≡ Ok y → o ≡ Some y
required_ok (Some x) d y e = cc
required_ok None d y e = absurd cc

-- ---- words without `:`

abbrev pub HasNoColon : List Word → Type 0
HasNoColon words = AllByRecursion (λ word. word ≢ colon) words

pub no_colon : (words : List Word) → list_any is_separator words ≡ false → HasNoColon words
no_colon [] e = tt
no_colon (word ∷ words) e =
    let go : (t : Bool) → is_separator word ≡ t → (t || list_any is_separator words) ≡ false → HasNoColon (word ∷ words) =
    λ t. elim t as (λ t. is_separator word ≡ t → (t || list_any is_separator words) ≡ false → HasNoColon (word ∷ words)) [
      | true ↦ λ s h. absurd (false≢true (sym h))
      | false ↦ λ s h. (differs word colon s, no_colon words h)
    ] in
    go (is_separator word) refl e

pub any_colon : (words : List Word) → HasNoColon words → list_any is_separator words ≡ false
any_colon [] h = refl
any_colon (word ∷ words) h = let t : is_separator word ≡ false = other_word word colon h.0 in rw t (any_colon words h.1)

-- ---- one set

guard_ok : {A : Type 0} (b : Bool) (d : LaunchRefusal) (x y : A) → cond b (Err d) (Ok x) ≡ Ok y → (b ≡ false) × (x ≡ y)
guard_ok true d x y e = absurd cc
guard_ok false d x y e = (refl, cc)

program_takes_at : (symbol : Symbol) (count : ℕ) (word : Word) (rest : List Word) (set : ProcessSet) →
    Means symbol word → where_program symbol count word rest ≡ Ok set
    → IsProgram word × HasNoColon rest × (record { count = count; program = word; arguments = rest } ≡ set)
program_takes_at symbols.Program count word rest set is e = let g = guard_ok (list_any is_separator rest) refusals.WrongOption (record { count = count; program = word; arguments = rest }) set e in (is, no_colon rest g.0, g.1)
program_takes_at symbols.LeftOut count word rest set is e = absurd cc
program_takes_at symbols.Count count word rest set is e = absurd cc
program_takes_at symbols.File count word rest set is e = absurd cc
program_takes_at symbols.Unknown count word rest set is e = absurd cc
program_takes_at symbols.Separator count word rest set is e = absurd cc
program_takes_at (symbols.Own option) count word rest set is e = absurd cc

-- the words that give this set, behind its count
record IsRun (count : ℕ) (words : List Word) (set : ProcessSet) : Type 0 where
  spelled : words ≡ set.program ∷ set.arguments
  count_is : count ≡ set.count
  program : IsProgram set.program
  arguments : HasNoColon set.arguments

program_takes : (count : ℕ) (words : List Word) (set : ProcessSet) → program_of count words ≡ Ok set →
    IsRun count words set
unfolding program_of
program_takes count [] set e = absurd cc
program_takes count (word ∷ rest) set e =
    let p = program_takes_at (symbol_of word) count word rest set (means word) e in
    let made : ProcessSet = record { count = count; program = word; arguments = rest } in
    let there : IsRun count (word ∷ rest) made = record { spelled = refl; count_is = refl; program = p.0; arguments = p.1 } in
    subst (λ (s : ProcessSet). IsRun count (word ∷ rest) s) p.2 there

counted_takes : (words : List Word) (set : ProcessSet) → counted words ≡ Ok set → IsSet (codes "-n" ∷ words) set
unfolding counted
counted_takes [] set e = absurd cc
counted_takes (value ∷ rest) set e =
    let b = bind_ok (required (number_between value 1 1024) refusals.WrongValue) (λ count. program_of count rest) set e in
    let n = number_takes value 1 1024 b.0 (omega arith) (required_ok (number_between value 1 1024) refusals.WrongValue b.0 b.1) in
    let p = program_takes b.0 rest set b.2 in
    let value_is : value ≡ decimal set.count = n.spelled ∙ ap decimal p.count_is in
    record {
      spelled =
          ap (λ (w : List Word). codes "-n" ∷ w) (ap (λ (v : Word). v ∷ rest) value_is ∙
          ap (λ (r : List Word). decimal set.count ∷ r) p.spelled);
      least = subst (λ (c : ℕ). 1 ≤ c) p.count_is n.least;
      most = subst (λ (c : ℕ). c ≤ 1024) p.count_is n.most;
      program = p.program;
      arguments = p.arguments;
    }

set_takes_at : (symbol : Symbol) (word : Word) (rest : List Word) (set : ProcessSet) → Means symbol word →
    where_set symbol rest ≡ Ok set → IsSet (word ∷ rest) set
set_takes_at symbols.Count word rest set is e =
    subst (λ (w : Word). IsSet (w ∷ rest) set) (sym is) (counted_takes rest set e)
set_takes_at symbols.LeftOut word rest set is e = absurd cc
set_takes_at symbols.Program word rest set is e = absurd cc
set_takes_at symbols.File word rest set is e = absurd cc
set_takes_at symbols.Unknown word rest set is e = absurd cc
set_takes_at symbols.Separator word rest set is e = absurd cc
set_takes_at (symbols.Own option) word rest set is e = absurd cc

pub set_takes : (words : List Word) (set : ProcessSet) → set_of words ≡ Ok set → IsSet words set
unfolding set_of
set_takes [] set e = absurd cc
set_takes (word ∷ rest) set e = set_takes_at (symbol_of word) word rest set (means word) e

program_from : (count : ℕ) (program : Word) (arguments : List Word) → IsProgram program → HasNoColon arguments →
    program_of count (program ∷ arguments) ≡ Ok (record { count = count; program = program; arguments = arguments })
unfolding program_of
program_from count program arguments is plain = rw (program_again program is, any_colon arguments plain) refl

counted_from : (set : ProcessSet) (n : ℕ) → number_between (decimal set.count) 1 1024 ≡ Some set.count →
    program_of set.count (set.program ∷ set.arguments) ≡ Ok set →
    counted (decimal set.count ∷ set.program ∷ set.arguments) ≡ Ok set
unfolding counted
counted_from set n number program = rw (number, program) refl

set_from : (words : List Word) (set : ProcessSet) → counted words ≡ Ok set → set_of (codes "-n" ∷ words) ≡ Ok set
unfolding set_of
set_from words set e = rw (count_again) e

pub set_again : (words : List Word) (set : ProcessSet) → IsSet words set → set_of words ≡ Ok set
set_again words set is =
    let p = program_from set.count set.program set.arguments is.program is.arguments in
    let c = counted_from set 0 (number_again 1 1024 set.count (omega arith) is.least is.most) p in
    ap set_of is.spelled ∙ set_from (decimal set.count ∷ set.program ∷ set.arguments) set c

-- ---- lines

pub lines_take : (lines : List (List Word)) (sets : List ProcessSet) → each_set lines ≡ Ok sets → AreLineSets lines sets
unfolding each_set
lines_take [] [] e = tt
lines_take [] (set ∷ sets) e = absurd cc
lines_take (line ∷ lines) sets e =
    let a = bind_ok (set_of line) (λ set. each_set lines >>= λ others. Ok (set ∷ others)) sets e in
    let b = bind_ok (each_set lines) (λ others. Ok (a.0 ∷ others)) sets a.2 in
    subst (λ (s : List ProcessSet). AreLineSets (line ∷ lines) s) (ok_is (a.0 ∷ b.0) sets b.2) (
      set_takes line a.0 a.1,
      lines_take lines b.0 b.1,
    )

pub lines_again : (lines : List (List Word)) (sets : List ProcessSet) → AreLineSets lines sets →
    each_set lines ≡ Ok sets
unfolding each_set
lines_again [] [] are = refl
lines_again [] (set ∷ sets) are = absurd are
lines_again (line ∷ lines) [] are = absurd are
lines_again (line ∷ lines) (set ∷ sets) are = rw (set_again line set are.0, lines_again lines sets are.1) refl
