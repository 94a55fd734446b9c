-- What is read is in the grammar, and what is in the grammar is read: all the words.
use Rattle.std.proofs.Common.{◌≡◌, ◌≢◌, ℕ, ◌+◌, Bool, true, false, cond, leb, List, [], ◌∷◌, Option, Some, None, Result}
use Rattle.std.proofs.Common.{Ok, Err, refl, sym, ap, subst, ◌∙◌, inl, inr}
use Rattle.std.specs.Prelude.{◌&&◌, IfOk}
use Rattle.std.proofs.lemmas.Bool.{leb-true, le-leb}
use Rattle.launch_plan.specs.declared.refusal.LaunchRefusal.{LaunchRefusal}
use Rattle.launch_plan.specs.declared.refusal.LaunchRefusal.TheVariants as refusals
use Rattle.launch_plan.specs.declared.process_set.ProcessSet.{ProcessSet}
use Rattle.launch_keeper.specs.Words.{Word}
use Rattle.launch_plan.specs.declared.given_options.GivenOptions.{GivenOptions}
use Rattle.launch_plan.specs.SetFaults.{size_behind}
use Rattle.launch_plan.specs.Results.{◌>>=◌, HasNoFault, Fails, Gives}
use Rattle.launch_plan.proofs.SetLoop.{fails_with, fails_on}
use Rattle.launch_plan.specs.Options.{nothing_given, Opening, at_sets, at_file, opening_of}
use Rattle.launch_plan.specs.Configuration.{lines_of, sets_of_lines, sets_of_file}
use Rattle.launch_plan.specs.Launches.{Launch, rank_count, launch_with, IsWithinLimits, limited}
use Rattle.launch_plan.specs.Plans.{if_ended, sets_where, sets_behind, launch_of}
use Rattle.launch_plan.specs.Grammar.{AreLineSets, AreSets, IsFile, file_option, Names, AskFor}
use Rattle.launch_plan.proofs.GrammarLaws.{bind_ok, done, ok_is, lines_take, lines_again}
use Rattle.launch_plan.proofs.SetsLaws.{sets_begin, sets_of_take, sets_of_again}
use Rattle.launch_plan.proofs.OptionLaws.{behind_of, opening_takes, options_again, file_opens, sets_open}

-- ---- the configuration file

no_set : (line : List Word) (lines : List (List Word)) (sets : List ProcessSet) → AreLineSets (line ∷ lines) sets →
    sets ≢ []
no_set line lines [] are e = are
no_set line lines (set ∷ sets) are e = absurd cc

-- a file of these lines of words
record IsLines (lines : List (List Word)) (sets : List ProcessSet) : Type 0 where
  some : sets ≢ []
  each : AreLineSets lines sets

file_lines_take : (lines : List (List Word)) (sets : List ProcessSet) → sets_of_lines lines ≡ Ok sets →
    IsLines lines sets
file_lines_take [] sets e = absurd cc
file_lines_take (line ∷ lines) sets e =
    let are = lines_take (line ∷ lines) sets e in record { some = no_set line lines sets are; each = are }

none_made : (sets : List ProcessSet) → AreLineSets [] sets → sets ≡ []
none_made [] are = refl
none_made (set ∷ sets) are = absurd are

file_lines_again : (lines : List (List Word)) (sets : List ProcessSet) → sets ≢ [] → AreLineSets lines sets →
    sets_of_lines lines ≡ Ok sets
file_lines_again [] sets some are = absurd (some (none_made sets are))
file_lines_again (line ∷ lines) sets some are = lines_again (line ∷ lines) sets are

file_takes : (config : Option (List ℕ)) (sets : List ProcessSet) → sets_of_file config ≡ Ok sets →
    (bytes : List ℕ) × (config ≡ Some bytes) × IsFile bytes sets
file_takes None sets e = absurd cc
file_takes (Some bytes) sets e =
    let l = file_lines_take (lines_of bytes) sets e in (bytes, refl, record { some = l.some; each = l.each })

ended_takes : (rest : List Word) (sets others : List ProcessSet) → if_ended rest sets ≡ Ok others →
    (rest ≡ []) × (sets ≡ others)
ended_takes [] sets others e = (refl, cc)
ended_takes (word ∷ rest) sets others e = absurd cc

where_takes : (file : Option Word) (rest : List Word) (config : Option (List ℕ)) (sets : List ProcessSet) →
    sets_where file rest config ≡ Ok sets → Names (behind_of file rest) config sets
where_takes None rest config sets e = inl (sets_of_take rest sets e)
where_takes (Some name) rest config sets e =
    let b = bind_ok (sets_of_file config) (if_ended rest) sets e in
    let d = ended_takes rest b.0 sets b.2 in
    let f = file_takes config sets (b.1 ∙ ap done d.1) in
    inr (name, f.0, ap (λ (r : List Word). file_option ∷ name ∷ r) d.0, f.1, f.2)

behind_takes : (opening : Opening) (config : Option (List ℕ)) (sets : List ProcessSet) →
    sets_behind opening config ≡ Ok sets → Names (behind_of opening.file opening.rest) config sets
unfolding sets_behind
behind_takes opening config sets e = where_takes opening.file opening.rest config sets e

-- ---- the limits

both : (a b : Bool) (x y : Launch) → cond (a && b) (Ok x) (Err refusals.OverLimit) ≡ done y →
    (a ≡ true) × (b ≡ true) × (x ≡ y)
both true true x y e = (refl, refl, cc)
both true false x y e = absurd cc
both false b x y e = absurd cc

limited_takes : (made launch : Launch) → limited made ≡ Ok launch → IsWithinLimits made × (made ≡ launch)
unfolding limited
limited_takes made launch e =
    let p = both (leb (rank_count made.sets) 1024) (leb (made.base_port + rank_count made.sets) 65536) made launch e in
    (record { ranks = leb-true _ _ p.0; ports = leb-true _ _ p.1 }, p.2)

limited_again : (launch : Launch) → IsWithinLimits launch → limited launch ≡ Ok launch
unfolding limited
limited_again launch limits =
    let t0 : leb (rank_count launch.sets) 1024 ≡ true = le-leb _ _ limits.ranks in
    let t1 : leb (launch.base_port + rank_count launch.sets) 65536 ≡ true = le-leb _ _ limits.ports in
    rw (t0, t1) refl

-- ---- all the words

pub launch_takes : (words : List Word) (config : Option (List ℕ)) (launch : Launch) →
    launch_of words config ≡ Ok launch → AskFor words config launch
unfolding launch_of
launch_takes words config launch e =
    let a = bind_ok (opening_of nothing_given words) (λ opening. sets_behind opening config >>= λ sets. limited (launch_with opening.given sets)) launch e in
    let opening = a.0 in
    let b = bind_ok (sets_behind opening config) (λ sets. limited (launch_with opening.given sets)) launch a.2 in
    let sets = b.0 in
    let l = limited_takes (launch_with opening.given sets) launch b.2 in
    let o = opening_takes nothing_given words opening a.1 in
    let there : AskFor words config (launch_with opening.given sets) = record {
      own = o.own;
      rest = behind_of opening.file opening.rest;
      given = opening.given;
      spelled = o.spelled;
      options = o.options;
      sets = behind_takes opening config sets b.1;
      values = refl;
      limits = l.0;
    } in
    subst (λ (x : Launch). AskFor words config x) l.1 there

from_sets : (rest : List Word) (config : Option (List ℕ)) (opening : Opening) (sets : List ProcessSet) →
    opening ≡ at_sets opening.given rest → AreSets rest sets → sets_behind opening config ≡ Ok sets
unfolding sets_behind
from_sets rest config opening sets is are = ap (λ (o : Opening). sets_where o.file o.rest config) is ∙
    sets_of_again rest sets are

from_file : (config : Option (List ℕ)) (opening : Opening) (name : Word) (bytes : List ℕ) (sets : List ProcessSet) →
    opening ≡ at_file opening.given name [] → config ≡ Some bytes → IsFile bytes sets →
    sets_behind opening config ≡ Ok sets
unfolding sets_behind
from_file config opening name bytes sets is config_is file =
    let read : sets_of_file config ≡ Ok sets = ap sets_of_file config_is ∙ file_lines_again (lines_of bytes) sets file.some file.each in
    ap (λ (o : Opening). sets_where o.file o.rest config) is ∙
    ap (λ (r : Result (List ProcessSet) LaunchRefusal). r >>= if_ended []) read

launch_from : (words : List Word) (config : Option (List ℕ)) (opening : Opening) (launch : Launch) →
    opening_of nothing_given words ≡ Ok opening → sets_behind opening config ≡ Ok launch.sets →
    launch ≡ launch_with opening.given launch.sets
    → IsWithinLimits launch → launch_of words config ≡ Ok launch
unfolding launch_of
launch_from words config opening launch opened sets values limits =
    rw (opened, sets) (ap limited (sym values) ∙ limited_again launch limits)

pub launch_again : (words : List Word) (config : Option (List ℕ)) (launch : Launch) → AskFor words config launch →
    launch_of words config ≡ Ok launch
launch_again words config launch ask =
    let start : opening_of nothing_given words ≡ opening_of ask.given ask.rest = ap (opening_of nothing_given) ask.spelled ∙ options_again nothing_given ask.own ask.given ask.rest ask.options in
    elim ask.sets [
      | inl are ↦
          let b = sets_begin ask.rest launch.sets are in
          let opened : opening_of nothing_given words ≡ Ok (at_sets ask.given ask.rest) = start ∙ ap (opening_of ask.given) b.2 ∙ sets_open ask.given b.0 b.1 ∙ ap (λ (w : List Word). done (at_sets ask.given w)) (sym b.2) in
          launch_from words config (at_sets ask.given ask.rest) launch opened
          (from_sets ask.rest config (at_sets ask.given ask.rest) launch.sets refl are) ask.values ask.limits
      | inr f ↦
          let opened : opening_of nothing_given words ≡ Ok (at_file ask.given f.0 []) = start ∙ ap (opening_of ask.given) f.2 ∙ file_opens ask.given f.0 [] in
          launch_from words config (at_file ask.given f.0 []) launch opened
          (from_file config (at_file ask.given f.0 []) f.0 f.1 launch.sets refl f.3 f.4) ask.values ask.limits
    ]

-- ---- what judging says of it

-- the sets that were judged, where they are so many ranks
record IsSized (opening : Opening) (config : Option (List ℕ)) (size : ℕ) : Type 0 where
  sets : List ProcessSet
  read : sets_behind opening config ≡ Ok sets
  limits : IsWithinLimits (launch_with opening.given sets)
  size_is : rank_count sets ≡ size

judged : (opening : Opening) (config : Option (List ℕ)) (size : ℕ) → size_behind opening config ≡ Ok size →
    IsSized opening config size
judged opening config size e =
    let a = bind_ok (sets_behind opening config) (λ sets. limited (launch_with opening.given sets) >>= λ launch. Ok (rank_count launch.sets)) size e in
    let made = launch_with opening.given a.0 in
    let b = bind_ok (limited made) (λ launch. Ok (rank_count launch.sets)) size a.2 in
    let l = limited_takes made b.0 b.1 in
    record {
      sets = a.0;
      read = a.1;
      limits = l.0;
      size_is = ap (λ (launch : Launch). rank_count launch.sets) l.1 ∙
          ok_is (rank_count b.0.sets) size b.2;
    }

same_sets : (opening : Opening) (config : Option (List ℕ)) (size : ℕ) (sets : List ProcessSet)
    (is : IsSized opening config size) → sets_behind opening config ≡ Ok sets → is.sets ≡ sets
same_sets opening config size sets is e = ok_is is.sets sets (sym is.read ∙ e)

pub no_fault : (opening : Opening) (config : Option (List ℕ)) (size : ℕ) → size_behind opening config ≡ Ok size →
    HasNoFault (sets_behind opening config)
no_fault opening config size e = let is = judged opening config size e in rw is.read tt

pub is_sized : (opening : Opening) (config : Option (List ℕ)) (size : ℕ) (sets : List ProcessSet) →
    size_behind opening config ≡ Ok size → sets_behind opening config ≡ Ok sets → size ≡ rank_count sets
is_sized opening config size sets e read = let is = judged opening config size e in sym is.size_is ∙
    ap rank_count (same_sets opening config size sets is read)

pub is_limited : (opening : Opening) (config : Option (List ℕ)) (size : ℕ) (sets : List ProcessSet) →
    size_behind opening config ≡ Ok size → sets_behind opening config ≡ Ok sets →
    IsWithinLimits (launch_with opening.given sets)
is_limited opening config size sets e read =
    let is = judged opening config size e in
    subst (λ (s : List ProcessSet). IsWithinLimits (launch_with opening.given s))
    (same_sets opening config size sets is read) is.limits

pub is_planned : (words : List Word) (config : Option (List ℕ)) (opening : Opening) (size : ℕ)
    (sets : List ProcessSet) → opening_of nothing_given words ≡ Ok opening → size_behind opening config ≡ Ok size →
    sets_behind opening config ≡ Ok sets
    → launch_of words config ≡ Ok (launch_with opening.given sets)
unfolding launch_of
is_planned words config opening size sets opened e read =
    rw (opened, read) (limited_again (launch_with opening.given sets) (is_limited opening config size sets e read))

pub opening_fails : (words : List Word) (config : Option (List ℕ)) (e : LaunchRefusal) →
    opening_of nothing_given words ≡ Err e → Fails e (launch_of words config)
unfolding launch_of
opening_fails words config e opened = fails_with e (launch_of words config) (rw opened refl)

launch_fault : (read : Result Launch LaunchRefusal) (e : LaunchRefusal) →
    (read >>= λ launch. Ok (rank_count launch.sets)) ≡ Err e → read ≡ Err e
launch_fault (Ok launch) e h = absurd cc
launch_fault (Err f) e h = cc

size_fault : (sets : Result (List ProcessSet) LaunchRefusal) (given : GivenOptions) (e : LaunchRefusal) →
    (sets >>= λ s. limited (launch_with given s) >>= λ launch. Ok (rank_count launch.sets)) ≡ Err e →
    (sets >>= λ s. limited (launch_with given s)) ≡ Err e
size_fault (Ok sets) given e h = launch_fault (limited (launch_with given sets)) e h
size_fault (Err f) given e h = cc

pub size_fails : (words : List Word) (config : Option (List ℕ)) (opening : Opening) (e : LaunchRefusal) →
    opening_of nothing_given words ≡ Ok opening → size_behind opening config ≡ Err e → Fails e (launch_of words config)
unfolding launch_of
size_fails words config opening e opened h =
    fails_with e (launch_of words config) (rw opened (size_fault (sets_behind opening config) opening.given e h))

pub sets_fail : (words : List Word) (config : Option (List ℕ)) (opening : Opening) (size : ℕ) (e : LaunchRefusal) →
    opening_of nothing_given words ≡ Ok opening → size_behind opening config ≡ Ok size →
    Fails e (sets_behind opening config) → Fails e (launch_of words config)
sets_fail words config opening size e opened h fails =
    let is = judged opening config size h in
    let planned = is_planned words config opening size is.sets opened h is.read in
    fails_on e (sets_behind opening config) (launch_of words config) (rw planned tt)
    (λ f. let clash : Ok is.sets ≡ Err e = sym is.read ∙ f in absurd cc) fails

-- ---- what is answered

pub is_found : (words : List Word) (config : Option (List ℕ)) (r : Result Launch LaunchRefusal) →
    Gives (λ plan. plan) r (launch_of words config) → IfOk r (λ plan. AskFor words config plan)
is_found words config (Ok launch) given = launch_takes words config launch given
is_found words config (Err e) given = tt

pub is_only : (words : List Word) (config : Option (List ℕ)) (r : Result Launch LaunchRefusal) →
    Gives (λ plan. plan) r (launch_of words config) → (launch : Launch) → AskFor words config launch →
    Gives (λ plan. plan) r (Ok launch)
is_only words config r given launch ask =
    subst (λ (read : Result Launch LaunchRefusal). Gives (λ plan. plan) r read) (launch_again words config launch ask)
    given
