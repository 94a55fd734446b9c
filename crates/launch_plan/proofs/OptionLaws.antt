-- What is read is in the grammar, and what is in the grammar is read: the launcher's own options.
use Rattle.std.proofs.Common.{◌≡◌, ℕ, ◌^◌, ◌<◌, Bool, true, false, cond, List, [], ◌∷◌, ◌++◌, Option, Some, None}
use Rattle.std.proofs.Common.{Result, Ok, Err, refl, sym, ap, subst, ◌∙◌, arith}
use Rattle.std.specs.Prelude.{codes, is_some, IfSome}
use Rattle.std.specs.Option.{option_copied}
use Rattle.std.specs.Borrow.{Bor}
use Rattle.launch_plan.specs.declared.refusal.LaunchRefusal.{LaunchRefusal}
use Rattle.launch_plan.specs.declared.refusal.LaunchRefusal.TheVariants as refusals
use Rattle.launch_plan.specs.declared.symbol.OwnOption.{OwnOption}
use Rattle.launch_plan.specs.declared.symbol.OwnOption.TheVariants.{Job, BasePort, Restart, Patience}
use Rattle.launch_plan.specs.declared.symbol.Symbol.{Symbol}
use Rattle.launch_plan.specs.declared.symbol.Symbol.TheVariants as symbols
use Rattle.launch_plan.specs.declared.given_options.GivenOptions.{GivenOptions}
use Rattle.numerals.specs.Numbers.{number_between}
use Rattle.launch_keeper.specs.Words.{Word}
use Rattle.launch_plan.specs.Symbols.{symbol_of, least_of, greatest_of}
use Rattle.launch_plan.specs.Results.{◌>>=◌, required}
use Rattle.launch_plan.specs.Options.{nothing_given, given_of, is_given, with_number, with_value, Opening, at_sets}
use Rattle.launch_plan.specs.Options.{at_file, where_last, where_option, opening_of, name_in}
use Rattle.launch_plan.specs.Grammar.{IsOption, AreOptions, file_option, ReachesFile}
use Rattle.numerals.proofs.Numerals.{Spells, number_takes, number_again}
use Rattle.launch_plan.proofs.SymbolLaws.{Means, means, file_again, count_again, own_again}
use Rattle.launch_plan.proofs.GrammarLaws.{bind_ok, done, ok_is, required_ok}
use Rattle.launch_plan.proofs.OpeningLaws.{goes_on}

-- the words that stand behind the own options
abbrev pub behind_of : Option Word → List Word → List Word
behind_of None rest = rest
behind_of (Some name) rest = file_option ∷ name ∷ rest

-- these words are own options, and then what the opening has behind them
pub record IsOpened (given : GivenOptions) (words : List Word) (opening : Opening) : Type 0 where
  pub own : List Word
  pub spelled : words ≡ own ++ behind_of opening.file opening.rest
  pub options : AreOptions given own opening.given

stops : (given : GivenOptions) (words : List Word) (opening : Opening) → done (at_sets given words) ≡ done opening →
    IsOpened given words opening
stops given words opening e =
    let there : IsOpened given words (at_sets given words) = record { own = []; spelled = refl; options = refl } in
    subst (λ (o : Opening). IsOpened given words o) (ok_is (at_sets given words) opening e) there

last_takes : (symbol : Symbol) (given : GivenOptions) (word : Word) (opening : Opening) → where_last symbol given word ≡
    Ok opening → IsOpened given (word ∷ []) opening
last_takes (symbols.Own option) given word opening e =
    let go : (t : Bool) → cond t (Err refusals.WrongOption) (Err refusals.WrongValue) ≡ done opening → IsOpened given (word ∷ []) opening =
    λ t. elim t as (λ t. cond t (Err refusals.WrongOption) (Err refusals.WrongValue) ≡ done opening →
    IsOpened given (word ∷ []) opening) [ true ↦ λ h. absurd cc | false ↦ λ h. absurd cc ] in
    go (is_given option given) e
last_takes symbols.File given word opening e = absurd cc
last_takes symbols.Count given word opening e = stops given (word ∷ []) opening e
last_takes symbols.LeftOut given word opening e = stops given (word ∷ []) opening e
last_takes symbols.Unknown given word opening e = stops given (word ∷ []) opening e
last_takes symbols.Separator given word opening e = stops given (word ∷ []) opening e
last_takes symbols.Program given word opening e = stops given (word ∷ []) opening e

fits : (option : OwnOption) → greatest_of option < 2 ^ 64
fits Job = omega arith
fits BasePort = omega arith
fits Restart = omega arith
fits Patience = omega arith

not_given : (o : Option ℕ) → is_some o ≡ false → o ≡ None
not_given None e = refl
not_given (Some n) e = absurd cc

is_fresh : (o : Option ℕ) → o ≡ None → is_some o ≡ false
is_fresh o e = ap (λ (x : Option ℕ). is_some x) e

unless : {A : Type 0} (b : Bool) (d : LaunchRefusal) (next : Result A LaunchRefusal) (y : A) →
    cond b (Err d) next ≡ Ok y → (b ≡ false) × (next ≡ Ok y)
unless true d next y e = absurd cc
unless false d next y e = (refl, e)

value_takes : (option : OwnOption) (given next : GivenOptions) (value : Word) → with_value option given value ≡
    Ok next → (n : ℕ) × Spells value (least_of option) (greatest_of option) n × (with_number option given n ≡ next)
unfolding with_value
value_takes option given next value e =
    let b = bind_ok (required (number_between value (least_of option) (greatest_of option)) refusals.WrongValue) (λ n. Ok (with_number option given n)) next e in (
      b.0,
      number_takes value (least_of option) (greatest_of option) b.0 (fits option)
          (required_ok (number_between value (least_of option) (greatest_of option)) refusals.WrongValue b.0 b.1),
      ok_is (with_number option given b.0) next b.2,
    )

option_takes : (symbol : Symbol) (given : GivenOptions) (word value : Word) (rest : List Word) (opening : Opening) →
    Means symbol word → ((next : GivenOptions) → opening_of next rest ≡ Ok opening → IsOpened next rest opening)
    → where_option symbol given word value rest (λ next. opening_of next rest) ≡ Ok opening →
    IsOpened given (word ∷ value ∷ rest) opening
option_takes (symbols.Own option) given word value rest opening is ih e =
    let u = unless (is_given option given) refusals.WrongOption (with_value option given value >>= λ next. opening_of next rest) opening e in
    let b = bind_ok (with_value option given value) (λ next. opening_of next rest) opening u.1 in
    let v = value_takes option given b.0 value b.1 in
    let more = ih b.0 b.2 in
    record {
      own = word ∷ value ∷ more.own;
      spelled = ap (λ (w : List Word). word ∷ value ∷ w) more.spelled;
      options = (
        option,
        v.0,
        record { name_is = is; spelled = v.1.spelled; least = v.1.least; greatest = v.1.most },
        not_given (given_of option given) u.0,
        subst (λ (g : GivenOptions). AreOptions g more.own opening.given)
            (sym v.2) more.options,
      );
    }
option_takes symbols.File given word value rest opening is ih e =
    let there : IsOpened given (word ∷ value ∷ rest) (at_file given value rest) = record { own = []; spelled = ap (λ (w : Word). w ∷ value ∷ rest) is; options = refl } in
    subst (λ (o : Opening). IsOpened given (word ∷ value ∷ rest) o) (ok_is (at_file given value rest) opening e) there
option_takes symbols.Count given word value rest opening is ih e = stops given (word ∷ value ∷ rest) opening e
option_takes symbols.LeftOut given word value rest opening is ih e = stops given (word ∷ value ∷ rest) opening e
option_takes symbols.Unknown given word value rest opening is ih e = stops given (word ∷ value ∷ rest) opening e
option_takes symbols.Separator given word value rest opening is ih e = stops given (word ∷ value ∷ rest) opening e
option_takes symbols.Program given word value rest opening is ih e = stops given (word ∷ value ∷ rest) opening e

pub opening_takes : (given : GivenOptions) (words : List Word) (opening : Opening) →
    opening_of given words ≡ Ok opening → IsOpened given words opening
unfolding opening_of
opening_takes given [] opening e = stops given [] opening e
opening_takes given (word ∷ []) opening e = last_takes (symbol_of word) given word opening e
opening_takes given (word ∷ value ∷ rest) opening e =
    option_takes (symbol_of word) given word value rest opening (means word) (λ next. opening_takes next rest opening) e

value_again : (option : OwnOption) (given : GivenOptions) (number : ℕ) (name value : Word) →
    IsOption option number name value → with_value option given value ≡ Ok (with_number option given number)
unfolding with_value
value_again option given number name value is =
    let n : number_between value (least_of option) (greatest_of option) ≡ Some number = ap (λ (w : Word). number_between w (least_of option) (greatest_of option)) is.spelled ∙ number_again (least_of option) (greatest_of option) number (fits option) is.least is.greatest in
    rw n refl

-- behind own options reading goes on
pub options_again : (given : GivenOptions) (own : List Word) (after : GivenOptions) (rest : List Word) →
    AreOptions given own after → opening_of given (own ++ rest) ≡ opening_of after rest
options_again given [] after rest are = ap (λ (g : GivenOptions). opening_of g rest) are
options_again given (name ∷ []) after rest are = absurd are
options_again given (name ∷ value ∷ own) after rest are =
    let option = are.0 in
    let number = are.1 in
    let next = with_number option given number in
    goes_on given next option name value (own ++ rest) (ap symbol_of are.2.name_is ∙ own_again option)
    (is_fresh (given_of option given) are.3) (value_again option given number name value are.2)
    ∙ options_again next own after rest are.4

pub file_opens : (given : GivenOptions) (name : Word) (rest : List Word) →
    opening_of given (file_option ∷ name ∷ rest) ≡ Ok (at_file given name rest)
unfolding opening_of
file_opens given name rest = rw file_again refl

pub sets_open : (given : GivenOptions) (value : Word) (rest : List Word) →
    opening_of given (codes "-n" ∷ value ∷ rest) ≡ Ok (at_sets given (codes "-n" ∷ value ∷ rest))
unfolding opening_of
sets_open given value rest = rw count_again refl

-- ---- the configuration file's name

reaches : (words : List Word) (opening : Opening) → opening_of nothing_given words ≡ Ok opening →
    (name : Word) → opening.file ≡ Some name → ReachesFile words name
reaches words opening e name is =
    let o = opening_takes nothing_given words opening e in
    record {
      own = o.own;
      rest = opening.rest;
      given = opening.given;
      spelled =
          o.spelled ∙ ap (λ (f : Option Word). o.own ++ behind_of f opening.rest) is;
      options = o.options;
    }

name_at : (words : List Word) (read : Result Opening LaunchRefusal) → opening_of nothing_given words ≡ read →
    (name : Word) → name_in read ≡ Some name → ReachesFile words name
name_at words (Ok opening) e name is = reaches words opening e name is
name_at words (Err fault) e name is = absurd cc

pub name_takes : (words : List Word) (name : Word) → name_in (opening_of nothing_given words) ≡ Some name →
    ReachesFile words name
name_takes words name e = name_at words (opening_of nothing_given words) refl name e

pub name_again : (words : List Word) (name : Word) → ReachesFile words name → name_in (opening_of nothing_given words) ≡
    Some name
name_again words name r =
    let opened : opening_of nothing_given words ≡ Ok (at_file r.given name r.rest) = ap (opening_of nothing_given) r.spelled ∙ options_again nothing_given r.own r.given (file_option ∷ name ∷ r.rest) r.options ∙ file_opens r.given name r.rest in
    ap name_in opened

pub is_reached : (words : List Word) (r : Option (Bor Word)) →
    option_copied r ≡ name_in (opening_of nothing_given words) → IfSome r (λ name. ReachesFile words name.now)
is_reached words None e = tt
is_reached words (Some name) e = name_takes words name.now (sym e)
