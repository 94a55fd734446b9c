-- What is so of a run of lines.
use Rattle.std.proofs.Common.{◌≡◌, ◌≢◌, ℕ, zero, suc, ◌+◌, ◌-◌, ◌<◌, ◌==◌, nat_lt, Bool, true, false, List, [], ◌∷◌}
use Rattle.std.proofs.Common.{length, drop, Option, Some, None, Result, Ok, Err, refl, sym, ◌∙◌, ap, arith}
use Rattle.std.specs.Prelude.{OnErr, if◌then◌else◌, slice_get}
use Rattle.std.proofs.lemmas.Bool.{eq-eqb, eqb-true, false≢true, lt-ltb}
use Rattle.script_files.specs.declared.script.RankLine.{RankLine}
use Rattle.script_files.specs.Selections.{FirstOf}
use Rattle.event_loop.specs.declared.runner.RunnerStep.{RunnerStep}
use Rattle.event_loop.specs.declared.runner.RunnerStep.TheVariants as steps
use Rattle.script_runner.specs.ScriptRanks.{Acts, RankState, acts}
use Rattle.script_runner.specs.ScriptSteps.{Does, along, does_by, does_or}
use Rattle.script_runner.specs.Positions.{numbered, taken_last}

-- what is so is so where there is an error
pub on_err : {X E : Type 0} (r : Result X E) (p : Type 0) → p → OnErr r p
on_err (Ok x) p is = tt
on_err (Err e) p is = is

-- the first line is done, and then as it says
pub along_first : (lines : List RankLine) (names : RankState) (line : RankLine) (rest : List RankLine)
    (step : Option RunnerStep) (after : RankState) →
    lines ≡ line ∷ rest → acts line names ≡ (step, after) →
    along lines names ≡ does_by rest step after (along rest after)
unfolding along
along_first lines names line rest step after is acted =
    ap (λ (l : List RankLine). along l names) is ∙ ap (λ (a : Acts). does_or rest a (along rest a.1)) acted

-- behind the last line the script ends
pub along_none : (lines : List RankLine) (names : RankState) (rest : List RankLine) → lines ≡ [] → rest ≡ [] →
    along lines names ≡ (steps.End 0 None, record { lines = rest; rank = names })
unfolding along
along_none lines names rest is left =
    ap (λ (l : List RankLine). along l names) is ∙
    ap (λ (l : List RankLine). let d : Does = (steps.End 0 None, record { lines = l; rank = names }) in d)
    (sym left)

-- the first line has the number, or those behind it are looked through
pub numbered_first : (number : ℕ) (lines : List RankLine) (line : RankLine) (rest : List RankLine) →
    lines ≡ line ∷ rest →
    numbered number lines ≡ (if line.number == number then Some line else numbered number rest)
unfolding numbered
numbered_first number lines line rest is = ap (λ (l : List RankLine). numbered number l) is

-- among no lines none has it
pub numbered_none : (number : ℕ) (lines : List RankLine) → lines ≡ [] → numbered number lines ≡ None
unfolding numbered
numbered_none number lines is = ap (λ (l : List RankLine). numbered number l) is

-- the first line has the number
pub numbered_here : (number : ℕ) (lines : List RankLine) (line : RankLine) (rest : List RankLine) →
    lines ≡ line ∷ rest → line.number ≡ number →
    numbered number lines ≡ Some line
numbered_here number lines line rest is same =
    numbered_first number lines line rest is
    ∙ ap (λ (b : Bool). if b then Some line else numbered number rest) (eq-eqb line.number number same)

otherwise_behind : (b : Bool) (line : RankLine) (other : Option RankLine) → (b ≡ true → ⊥) →
    (if b then Some line else other) ≡ other
otherwise_behind true line other never = absurd (never refl)
otherwise_behind false line other never = refl

-- it has another one
pub numbered_behind : (number : ℕ) (lines : List RankLine) (line : RankLine) (rest : List RankLine) →
    lines ≡ line ∷ rest → line.number ≢ number →
    numbered number lines ≡ numbered number rest
numbered_behind number lines line rest is other =
    numbered_first number lines line rest is
    ∙ otherwise_behind (line.number == number) line (numbered number rest)
    (λ same. other (eqb-true line.number number same))

-- ---- lines that are taken and dropped

first_got : (lines : List RankLine) (first : Option RankLine) (rest : List RankLine) → FirstOf lines first rest →
    first ≡ slice_get lines 0
first_got lines None rest got = sym (ap (λ (l : List RankLine). slice_get l 0) got.0)
first_got lines (Some line) rest got = sym (ap (λ (l : List RankLine). slice_get l 0) got)

first_left : (lines : List RankLine) (first : Option RankLine) (rest : List RankLine) → FirstOf lines first rest →
    rest ≡ drop 1 lines
first_left lines None rest got = got.1 ∙ sym (ap (λ (l : List RankLine). drop 1 l) got.0)
first_left lines (Some line) rest got = sym (ap (λ (l : List RankLine). drop 1 l) got)

none_left : (count : ℕ) → drop {A = RankLine} count [] ≡ []
none_left zero = refl
none_left (suc n) = refl

one_more : (count : ℕ) (lines : List RankLine) → drop 1 (drop count lines) ≡ drop (count + 1) lines
one_more zero lines = refl
one_more (suc n) [] = sym (none_left (suc n + 1))
one_more (suc n) (line ∷ lines) =
    let e : suc (n + 1) ≡ suc n + 1 = omega arith in one_more n lines ∙ ap (λ (k : ℕ). drop k (line ∷ lines)) e

first_behind : (count : ℕ) (lines : List RankLine) → slice_get (drop count lines) 0 ≡ slice_get lines count
first_behind zero lines = refl
first_behind (suc n) [] = refl
first_behind (suc n) (line ∷ lines) = first_behind n lines

-- one more is dropped
pub dropped_more : (count : ℕ) (lines left : List RankLine) (first : Option RankLine) (rest : List RankLine) →
    left ≡ drop count lines →
    FirstOf left first rest → rest ≡ drop (count + 1) lines
dropped_more count lines left first rest is got =
    first_left left first rest got ∙ ap (λ (l : List RankLine). drop 1 l) is ∙ one_more count lines

where_fewer : (b : Bool) (found : Option RankLine) → b ≡ true → found ≡ (if b then found else None)
where_fewer true found fewer = refl
where_fewer false found fewer = absurd (false≢true fewer)

-- behind those that are dropped stands the one behind which so many are left
pub taken_there : (left : ℕ) (lines behind : List RankLine) (first : Option RankLine) (rest : List RankLine) →
    left < length lines →
    behind ≡ drop (length lines - left - 1) lines → FirstOf behind first rest → first ≡ taken_last left lines
taken_there left lines behind first rest fewer is got =
    first_got behind first rest got ∙ ap (λ (l : List RankLine). slice_get l 0) is ∙
    first_behind (length lines - left - 1) lines
    ∙ where_fewer (nat_lt left (length lines)) (slice_get lines (length lines - left - 1))
    (lt-ltb left (length lines) fewer)
