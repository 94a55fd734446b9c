-- Laws of ranks that run by themselves.
use Rattle.std.specs.Prelude.{◌≡◌, ℕ, true, List, [], ◌∷◌, ◌++◌, Option}
use Rattle.one_meaning.specs.Courses.{AreMeant, Course, Courses, Lead, Process, Step, Told, at_start}

-- a process as a function of all that it was told
abbrev pub Telling : Type 0
Telling = (rank : ℕ) × List (Option Told)

abbrev pub by_telling : ((rank : ℕ) → List (Option Told) → Step) → Process Telling
by_telling f h t = (f h.0 (h.1 ++ t ∷ []), (h.0, h.1 ++ t ∷ []))

-- what a rank has printed on its way is a beginning of all that it prints, and all of it once it has ended
pub record IsOnTheWay {P : Type 0} (c end : Course P) : Type 0 where
  pub lines : (rest : List (List ℕ)) × (end.lines ≡ c.lines ++ rest)
  pub whole : c.ended ≡ true → end.lines ≡ c.lines

-- whatever order they go on in, ranks are on their way to the one end
abbrev pub EveryWayLeadsThere : Type 0
EveryWayLeadsThere =
    (f : (rank : ℕ) → List (Option Told) → Step) (n : ℕ) (ranks : List ℕ) (now end : Courses Telling) →
    Lead (by_telling f) (at_start n (λ r. (r, []))) ranks now → AreMeant (by_telling f) n (λ r. (r, [])) end →
    (r : ℕ) → IsOnTheWay (now r) (end r)

-- there is one such end
abbrev pub TheEndIsOne : Type 0
TheEndIsOne =
    (f : (rank : ℕ) → List (Option Told) → Step) (n : ℕ) (one other : Courses Telling) →
    AreMeant (by_telling f) n (λ r. (r, [])) one → AreMeant (by_telling f) n (λ r. (r, [])) other → one ≡ other
