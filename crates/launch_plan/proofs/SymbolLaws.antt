-- What a word is where an option may stand, and which word it is.
use Rattle.std.proofs.Common.{◌≡◌, ◌≢◌, ℕ, Bool, true, false, cond, eqb, get_or, refl, sym, ap, ◌∙◌}
use Rattle.std.specs.Prelude.{codes, ◌||◌}
use Rattle.std.specs.Str.{bytes_eq}
use Rattle.std.proofs.lemmas.Bool.{eqb-true, eq-eqb, false≢true}
use Rattle.std.proofs.lemmas.Slice.Eq.{bytes_eq-Decides}
use Rattle.launch_plan.specs.declared.symbol.OwnOption.{OwnOption}
use Rattle.launch_plan.specs.declared.symbol.OwnOption.TheVariants.{Job, BasePort, Restart, Patience}
use Rattle.launch_plan.specs.declared.symbol.Symbol.{Symbol}
use Rattle.launch_plan.specs.declared.symbol.Symbol.TheVariants as symbols
use Rattle.launch_keeper.specs.Words.{Word}
use Rattle.launch_plan.specs.Symbols.{is_separator, is_left_out, is_dashed, symbol_of}
use Rattle.launch_plan.specs.Grammar.{colon, IsProgram, name_of, file_option}

pub same_word : (word name : Word) → bytes_eq word name ≡ true → word ≡ name
same_word word name e = (bytes_eq-Decides word name).0 e

pub is_same : (word name : Word) → word ≡ name → bytes_eq word name ≡ true
is_same word name e = (bytes_eq-Decides word name).1 e

no_test : (b : Bool) → (b ≡ true → ⊥) → b ≡ false
no_test true h = absurd (h refl)
no_test false h = refl

pub other_word : (word name : Word) → word ≢ name → bytes_eq word name ≡ false
other_word word name h = no_test (bytes_eq word name) (λ e. h (same_word word name e))

pub differs : (word name : Word) → bytes_eq word name ≡ false → word ≢ name
differs word name e h = false≢true (sym e ∙ is_same word name h)

-- the word that this symbol stands for
abbrev pub Means : Symbol → Word → Type 0
Means (symbols.Own option) word = word ≡ name_of option
Means symbols.File word = word ≡ file_option
Means symbols.Count word = word ≡ codes "-n"
Means symbols.LeftOut word = Unit {0}
Means symbols.Unknown word = Unit {0}
Means symbols.Separator word = Unit {0}
Means symbols.Program word = IsProgram word

step : (b : Bool) (x y : Symbol) (word : Word) → (b ≡ true → Means x word) → (b ≡ false → Means y word) →
    Means (cond b x y) word
step true x y word taken passed = taken refl
step false x y word taken passed = passed refl

pub means : (word : Word) → Means (symbol_of word) word
unfolding symbol_of
means word =
    step (bytes_eq word (codes "-job")) _ _ word (same_word word (codes "-job")) (λ _.
    step (bytes_eq word (codes "-baseport")) _ _ word (same_word word (codes "-baseport")) (λ _.
    step (bytes_eq word (codes "-restart")) _ _ word (same_word word (codes "-restart")) (λ _.
    step (bytes_eq word (codes "-patience")) _ _ word (same_word word (codes "-patience")) (λ _.
    step (bytes_eq word (codes "-configfile")) _ _ word (same_word word (codes "-configfile")) (λ _.
    step (bytes_eq word (codes "-n")) _ _ word (same_word word (codes "-n")) (λ _.
    step (is_left_out word) _ _ word (λ _. tt) (λ _.
    step (is_dashed word) _ _ word (λ _. tt) (λ dashed.
    step (is_separator word) _ _ word (λ _. tt) (λ separator.
    record {
      plain = λ e. false≢true (sym dashed ∙ eq-eqb (get_or word 0 0) 45 e);
      apart =
          differs word colon separator;
    })))))))))

-- a program is none of the words that begin with `-`
dashless : (word name : Word) → IsProgram word → get_or name 0 0 ≡ 45 → bytes_eq word name ≡ false
dashless word name program dashed =
    other_word word name (λ e. program.plain (ap (λ (w : Word). get_or w 0 0) e ∙ dashed))

or_false : (a b : Bool) → a ≡ false → b ≡ false → (a || b) ≡ false
or_false true b e f = absurd (false≢true (sym e))
or_false false b e f = f

no_dash : (n : ℕ) → n ≢ 45 → eqb n 45 ≡ false
no_dash n h = no_test (eqb n 45) (λ e. h (eqb-true n 45 e))

pub program_again : (word : Word) → IsProgram word → symbol_of word ≡ symbols.Program
unfolding symbol_of
program_again word program =
    let t0 : bytes_eq word (codes "-job") ≡ false = dashless word (codes "-job") program refl in
    let t1 : bytes_eq word (codes "-baseport") ≡ false = dashless word (codes "-baseport") program refl in
    let t2 : bytes_eq word (codes "-restart") ≡ false = dashless word (codes "-restart") program refl in
    let t3 : bytes_eq word (codes "-patience") ≡ false = dashless word (codes "-patience") program refl in
    let t4 : bytes_eq word (codes "-configfile") ≡ false = dashless word (codes "-configfile") program refl in
    let t5 : bytes_eq word (codes "-n") ≡ false = dashless word (codes "-n") program refl in
    let t6 : bytes_eq word (codes "-soft") ≡ false = dashless word (codes "-soft") program refl in
    let t7 : bytes_eq word (codes "-host") ≡ false = dashless word (codes "-host") program refl in
    let t8 : bytes_eq word (codes "-arch") ≡ false = dashless word (codes "-arch") program refl in
    let t9 : bytes_eq word (codes "-wdir") ≡ false = dashless word (codes "-wdir") program refl in
    let t10 : bytes_eq word (codes "-path") ≡ false = dashless word (codes "-path") program refl in
    let t11 : bytes_eq word (codes "-file") ≡ false = dashless word (codes "-file") program refl in
    let t12 : eqb (get_or word 0 0) 45 ≡ false = no_dash (get_or word 0 0) program.plain in
    let t13 : bytes_eq word (codes ":") ≡ false = other_word word colon program.apart in
    rw (t0, t1, t2, t3, t4, t5, t6, t7, t8, t9, t10, t11, t12, t13) refl

pub count_again : symbol_of (codes "-n") ≡ symbols.Count
unfolding symbol_of
count_again = refl

pub file_again : symbol_of file_option ≡ symbols.File
unfolding symbol_of
file_again = refl

pub own_again : (option : OwnOption) → symbol_of (name_of option) ≡ symbols.Own option
unfolding symbol_of
own_again Job = refl
own_again BasePort = refl
own_again Restart = refl
own_again Patience = refl
