-- The words before the first set.
use Rattle.std.proofs.Common.{◌≡◌, false, List, ◌∷◌, Result, Ok, refl, sym, ap, ◌∙◌}
use Rattle.launch_plan.specs.declared.refusal.LaunchRefusal.{LaunchRefusal}
use Rattle.launch_plan.specs.declared.symbol.OwnOption.{OwnOption}
use Rattle.launch_plan.specs.declared.symbol.Symbol.TheVariants as symbols
use Rattle.launch_plan.specs.declared.given_options.GivenOptions.{GivenOptions}
use Rattle.launch_keeper.specs.Words.{Word}
use Rattle.launch_plan.specs.Symbols.{symbol_of}
use Rattle.launch_plan.specs.Options.{is_given, with_value, Opening, opening_of}

-- behind an option and its value reading goes on
pub goes_on : (given next : GivenOptions) (option : OwnOption) (word value : Word) (rest : List Word) →
    symbol_of word ≡ symbols.Own option → is_given option given ≡ false → with_value option given value ≡ Ok next
    → opening_of given (word ∷ value ∷ rest) ≡ opening_of next rest
unfolding opening_of
goes_on given next option word value rest symbol fresh read = rw (symbol, fresh, read) refl

-- the same, as a loop knows it
pub loop_goes_on : (words after : List Word) (given next : GivenOptions) (option : OwnOption) (word value : Word)
    (rest : List Word) (word_bytes value_bytes : Word) (total : Result Opening LaunchRefusal)
    → words ≡ word ∷ after → after ≡ value ∷ rest → word_bytes ≡ word → value_bytes ≡ value →
    symbols.Own option ≡ symbol_of word_bytes → false ≡ is_given option given →
    with_value option given value_bytes ≡ Ok next
    → opening_of given words ≡ total → opening_of next rest ≡ total
loop_goes_on words after given next option word value rest word_bytes value_bytes total first second word_is value_is
    symbol fresh read so_far =
    let whole : words ≡ word ∷ value ∷ rest = first ∙ ap (λ (t : List Word). word ∷ t) second in
    let step = goes_on given next option word value rest (ap symbol_of (sym word_is) ∙ sym symbol) (sym fresh) (ap (with_value option given) (sym value_is) ∙ read) in
    sym step ∙ ap (opening_of given) (sym whole) ∙ so_far
