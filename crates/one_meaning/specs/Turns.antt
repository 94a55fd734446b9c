-- The one meaning as a function: ranks in turn, each going as far as it can, turn after turn.
use Rattle.std.specs.Prelude.{◌≡◌, ℕ, zero, suc, ◌+◌, ◌<◌, List, [], Option, Some, None, if◌then◌else◌}
use Rattle.one_meaning.specs.Accounts.{Waiting}
use Rattle.one_meaning.specs.CourseLaws.{Telling, by_telling}
use Rattle.one_meaning.specs.Courses.{AreMeant, Course, Courses, Ends, Process, Step, Told, at_start, goes_on}
use Rattle.one_meaning.specs.Courses.{with_course}

-- a rank goes on, if it may
abbrev pub stays_or : {P : Type 0} → Courses P → (rank : ℕ) → Option (Course P) → Courses P
stays_or all r None = all
stays_or all r (Some c) = with_course all r c

-- a rank goes as far as it can, within so many steps
abbrev pub far : {P : Type 0} → Process P → (steps : ℕ) → (rank : ℕ) → Courses P → Courses P
far next zero r all = all
far next (suc k) r all = far next k r (stays_or all r (goes_on next all r))

-- a turn: each rank does, the lowest first
abbrev pub turn : {P : Type 0} → Process P → (steps n : ℕ) → Courses P → Courses P
turn next steps zero all = all
turn next steps (suc m) all = far next steps m (turn next steps m all)

-- so many turns
abbrev pub turns : {P : Type 0} → Process P → (steps n count : ℕ) → Courses P → Courses P
turns next steps n zero all = all
turns next steps n (suc t) all = turns next steps n t (turn next steps n all)

-- ---- a bound on all steps, where each process has one on its own

abbrev pub one_if_waiting : Option Waiting → ℕ
one_if_waiting None = 0
one_if_waiting (Some w) = 1

-- how many steps a rank has before it at most, where its process has so many
abbrev pub weight : {P : Type 0} → (measure : P → ℕ) → Course P → ℕ
weight measure c = if c.ended then 0 else suc (measure c.process + measure c.process + one_if_waiting c.account.waiting)

-- and all n ranks together
abbrev pub total : {P : Type 0} → (measure : P → ℕ) → (n : ℕ) → Courses P → ℕ
total measure zero all = 0
total measure (suc m) all = total measure m all + weight measure (all m)

-- each step of a process but an end is one of so many
abbrev pub Falls : {P : Type 0} → Process P → (measure : P → ℕ) → Type 0
Falls {P = P} next measure = (p : P) (t : Option Told) → ((s : ℕ) → (next p t).0 ≡ Ends s → ⊥) →
    measure (next p t).1 < measure p

-- The one meaning of n processes: in turns, as many as there are steps
abbrev pub one_meaning : {P : Type 0} → Process P → (measure : P → ℕ) → (n : ℕ) → (processes : ℕ → P) → Courses P
one_meaning next measure n processes =
    turns next (suc (total measure n (at_start n processes))) n (total measure n (at_start n processes))
    (at_start n processes)

-- it is where they come to
abbrev pub TurnsComeToTheEnd : Type 0
TurnsComeToTheEnd =
    (f : (rank : ℕ) → List (Option Told) → Step) (measure : Telling → ℕ) (n : ℕ) → Falls (by_telling f) measure →
    AreMeant (by_telling f) n (λ r. (r, [])) (one_meaning (by_telling f) measure n (λ r. (r, [])))
