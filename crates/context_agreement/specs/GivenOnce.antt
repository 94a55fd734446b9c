-- No context is given twice: a law over whole lists of calls.
use Rattle.std.specs.Prelude.{◌≡◌, ◌≢◌, ℕ, zero, suc, ◌+◌, ◌^◌, ◌<◌, ◌≤◌, List, [], ◌∷◌, ◌++◌, Result, Ok, Err, All}
use Rattle.std.specs.Prelude.{AllPairs}
use Rattle.context_agreement.specs.declared.context.Context.{Context}
use Rattle.context_agreement.specs.declared.communicator.Communicator.{Communicator}
use Rattle.context_agreement.specs.declared.refusal.ContextRefusal.{ContextRefusal}
use Rattle.context_agreement.specs.Communicators.{ContextsState, NextGives, after_draw, after_install, coming_context}
use Rattle.context_agreement.specs.Communicators.{next_context, opening, world_and_self}

-- a call that may change the state: a context was asked for, with the answer, or a communicator installed
pub data Call : Type 0 where
  asked : Result Context ContextRefusal → Call
  installed : Communicator → Call

-- what the call did
abbrev pub CallGives : ContextsState → Call → ContextsState → Type 0
CallGives old (asked answer) new = NextGives old answer new
CallGives old (installed communicator) new = new ≡ after_install old communicator

-- calls in turn, each with the state that it left
abbrev pub IsRun : ContextsState → List (Call × ContextsState) → Type 0
IsRun s [] = Unit {0}
IsRun s (e ∷ es) = CallGives s e.0 e.1 × IsRun e.1 es

-- the context that a call gave, if it gave one
abbrev pub given_by : Call → List Context
given_by (asked (Ok context)) = context ∷ []
given_by (asked (Err refused)) = []
given_by (installed communicator) = []

-- the contexts that the calls gave, in their order
abbrev pub given : List (Call × ContextsState) → List Context
given [] = []
given (e ∷ es) = given_by e.0 ++ given es

-- the contexts are this creator's, and each serial is above all that were given before
pub record AreGivenOnce (s : ContextsState) (contexts : List Context) : Type 0 where
  pub creator : All (λ c. (c.rank ≡ s.rank) × (c.incarnation ≡ s.incarnation)) contexts
  pub unused : All (λ c. s.next_serial ≤ c.serial) contexts
  pub rising : AllPairs (λ a b. a.serial < b.serial) contexts
  pub apart : AllPairs (λ a b. a ≢ b) contexts

-- whatever calls are made, no context is given twice
abbrev pub NoneTwice : Type 0
NoneTwice =
    (s : ContextsState) (run : List (Call × ContextsState)) → IsRun s run
    → AreGivenOnce s (given run)

-- nor do two creators give the same one
abbrev pub NoneOfTwo : Type 0
NoneOfTwo =
    (s t : ContextsState) (run other : List (Call × ContextsState)) → IsRun s run → IsRun t other
    → (s.rank ≡ t.rank → s.incarnation ≡ t.incarnation → ⊥)
    → All (λ a. All (λ b. a ≢ b) (given other)) (given run)

-- nor is the context of any rank's world or self given
abbrev pub NoneOfTheFirst : Type 0
NoneOfTheFirst =
    (rank incarnation size : ℕ) (run : List (Call × ContextsState))
    → IsRun (opening rank incarnation size) run
    → (other_rank other_incarnation other_size : ℕ)
    → All (λ c. All (λ held. c ≢ held.context)
    (world_and_self other_rank other_incarnation other_size)) (given run)

-- the contexts that come once so many others were given, in turn
abbrev pub coming_from : ContextsState → (further count : ℕ) → List Context
coming_from s further zero = []
coming_from s further (suc count) = coming_context s further ∷ coming_from s (suc further) count

-- so many calls for a context, each of which was answered
abbrev pub asked_often : ContextsState → (count : ℕ) → List (Call × ContextsState)
asked_often s zero = []
asked_often s (suc count) = (asked (Ok (next_context s)), after_draw s 1) ∷ asked_often (after_draw s 1) count

-- the state that calls leave
abbrev pub final_state : ContextsState → List (Call × ContextsState) → ContextsState
final_state s [] = s
final_state s (e ∷ es) = final_state e.1 es

-- to draw several contexts is to ask for as many, one after another: those that were to come are given
abbrev pub DrawsAreAsked : Type 0
DrawsAreAsked =
    (s : ContextsState) (count : ℕ) → s.next_serial + count ≤ 2 ^ 32
    → IsRun s (asked_often s count)
    × (final_state s (asked_often s count) ≡ after_draw s count)
    × (given (asked_often s count) ≡ coming_from s 0 count)
