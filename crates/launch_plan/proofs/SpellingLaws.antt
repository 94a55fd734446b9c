-- The words with the sets of a file in place of its name ask for the same launch.
use Rattle.std.proofs.Common.{◌≡◌, ◌≢◌, ℕ, ◌-◌, List, [], ◌∷◌, ◌++◌, length, take, Option, Some, Ok, refl, sym, ap}
use Rattle.std.proofs.Common.{subst, ◌∙◌, inl, inr, arith}
use Rattle.std.proofs.Math.Seq.{take-append_seam}
use Rattle.std.proofs.lemmas.List.{append-nil, length-append}
use Rattle.launch_plan.specs.declared.process_set.ProcessSet.{ProcessSet}
use Rattle.launch_keeper.specs.Words.{Word}
use Rattle.launch_plan.specs.Options.{nothing_given, at_sets, at_file, opening_of, name_in}
use Rattle.launch_plan.specs.Configuration.{lines_of}
use Rattle.launch_plan.specs.Launches.{Launch}
use Rattle.launch_plan.specs.Grammar.{IsSet, AreSets, AreLineSets, file_option, AskFor}
use Rattle.launch_plan.specs.WordLists.{sets_joined, spelled_by, spelled_out}
use Rattle.launch_plan.proofs.GrammarLaws.{done}
use Rattle.launch_plan.proofs.SetsLaws.{sets_begin}
use Rattle.launch_plan.proofs.OptionLaws.{options_again, file_opens, sets_open}

-- ---- the lines of a file as sets of words

one_set : (line : List Word) (lines : List (List Word)) (set : ProcessSet) → IsSet line set → AreLineSets lines [] →
    IsSet (sets_joined (line ∷ lines)) set
one_set line [] set is are = subst (λ (w : List Word). IsSet w set) (sym (append-nil line)) is
one_set line (next ∷ lines) set is are = absurd are

joined_sets : (lines : List (List Word)) (sets : List ProcessSet) → sets ≢ [] → AreLineSets lines sets →
    AreSets (sets_joined lines) sets
joined_sets lines [] some are = absurd (some refl)
joined_sets [] (set ∷ sets) some are = absurd are
joined_sets (line ∷ lines) (set ∷ []) some are = one_set line lines set are.0 are.1
joined_sets (line ∷ []) (set ∷ next ∷ sets) some are = absurd are.1
joined_sets (line ∷ other ∷ lines) (set ∷ next ∷ sets) some are =
    (line, sets_joined (other ∷ lines), refl, are.0, joined_sets (other ∷ lines) (next ∷ sets) (λ e. absurd cc) are.1)

-- ---- what stands in front of the file's name

own_words : (own : List Word) (name : Word) →
    take (length (own ++ file_option ∷ name ∷ []) - 2) (own ++ file_option ∷ name ∷ []) ≡ own
own_words own name =
    let len = length-append own (file_option ∷ name ∷ []) in
    let two : length (own ++ file_option ∷ name ∷ []) - 2 ≡ length own = omega (arith, len) in
    ap (λ (n : ℕ). take n (own ++ file_option ∷ name ∷ [])) two ∙ take-append_seam own (file_option ∷ name ∷ [])

pub spelled_same : (words : List Word) (config other : Option (List ℕ)) (launch : Launch) → AskFor words config launch →
    AskFor (spelled_out words config) other launch
spelled_same words config other launch ask =
    let start : opening_of nothing_given words ≡ opening_of ask.given ask.rest = ap (opening_of nothing_given) ask.spelled ∙ options_again nothing_given ask.own ask.given ask.rest ask.options in
    elim ask.sets [
      | inl are ↦
          let b = sets_begin ask.rest launch.sets are in
          let opened : opening_of nothing_given words ≡ Ok (at_sets ask.given ask.rest) = start ∙ ap (opening_of ask.given) b.2 ∙ sets_open ask.given b.0 b.1 ∙ ap (λ (w : List Word). done (at_sets ask.given w)) (sym b.2) in
          let there : AskFor words other launch = record {
            own = ask.own;
            rest = ask.rest;
            given = ask.given;
            spelled = ask.spelled;
            options = ask.options;
            sets = inl are;
            values = ask.values;
            limits = ask.limits;
          } in
          let same : spelled_out words config ≡ words = ap (λ (n : Option Word). spelled_by n words config) (ap name_in opened) in
          subst (λ (w : List Word). AskFor w other launch) (sym same) there
      | inr f ↦
          let opened : opening_of nothing_given words ≡ Ok (at_file ask.given f.0 []) = start ∙ ap (opening_of ask.given) f.2 ∙ file_opens ask.given f.0 [] in
          let joined = sets_joined (lines_of f.1) in
          let words_are : words ≡ ask.own ++ file_option ∷ f.0 ∷ [] = ask.spelled ∙ ap (λ (w : List Word). ask.own ++ w) f.2 in
          let there : AskFor (ask.own ++ joined) other launch = record {
            own = ask.own;
            rest = joined;
            given = ask.given;
            spelled = refl;
            options = ask.options;
            sets = inl (joined_sets (lines_of f.1) launch.sets f.4.some f.4.each);
            values = ask.values;
            limits = ask.limits;
          } in
          let front : take (length words - 2) words ≡ ask.own = ap (λ (w : List Word). take (length w - 2) w) words_are ∙ own_words ask.own f.0 in
          let same : spelled_out words config ≡ ask.own ++ joined =
          ap (λ (n : Option Word). spelled_by n words config) (ap name_in opened)
          ∙ ap (λ (c : Option (List ℕ)). spelled_by (Some f.0) words c) f.3
          ∙ ap (λ (w : List Word). w ++ joined) front in
          subst (λ (w : List Word). AskFor w other launch) (sym same) there
    ]
