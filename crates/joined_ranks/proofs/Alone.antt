-- How joined ranks go on alone: not at all, by a datagram that comes, and by one after the other.
use Rattle.std.proofs.Common.{◌≡◌, ◌⊎◌, ℕ, ap, inl, inr, List, [], ◌∷◌, ◌++◌, Option, Some, None, Result, Ok, Err, sym}
use Rattle.std.proofs.Common.{subst, ◌∙◌}
use Rattle.std.proofs.lemmas.List.{append_assoc, append-nil}
use Rattle.std.specs.List.{AllByRecursion}
use Rattle.perfect_groups.specs.Events as machine
use Rattle.world.specs.EventByEvent.{IsWithoutCall}
use Rattle.world.specs.RunningSteps.{GoesOnByNext, HasComeBy, IsWhyNot, RunningState}
use Rattle.world.specs.declared.answered.Came.{Came}
use Rattle.world.specs.declared.refusal.WorldRefusal.{WorldRefusal}
use Rattle.joined_ranks.specs.Goings.{GoesOnAlone, HasNoCall, number_told}

abbrev NoCalls : List machine.Event → Type 0
NoCalls more = AllByRecursion HasNoCall more

-- no event of either, none of both
both_alone : (a b : List machine.Event) → NoCalls a → NoCalls b → NoCalls (a ++ b)
both_alone [] b p q = q
both_alone (e ∷ a) b p q = (p.0, both_alone a b p.1 q)

pub stays_alone : (w : RunningState) → GoesOnAlone w w
stays_alone w run_events has =
    ([], tt, subst (λ (x : List machine.Event). HasComeBy w x) (sym (append-nil run_events)) has)

same_alone : (a b : RunningState) → b ≡ a → GoesOnAlone a b
same_alone a b is = subst (λ (w : RunningState). GoesOnAlone a w) (sym is) (stays_alone a)

pub goes_further : {a b c : RunningState} → GoesOnAlone a b → GoesOnAlone b c → GoesOnAlone a c
goes_further {a} {b} {c} first second run_events has =
    let one = first run_events has in
    let two = second (run_events ++ one.0) one.2 in (
      one.0 ++ two.0,
      both_alone one.0 two.0 one.1 two.1,
      subst (λ (x : List machine.Event). HasComeBy c x) (append_assoc run_events one.0 two.0) two.2,
    )

-- none, or one without a call
without_call : (more : List machine.Event) → IsWithoutCall more → NoCalls more
without_call [] p = tt
without_call (machine.At e None moves ∷ []) p = (tt, tt)
without_call (machine.At e (Some d) moves ∷ []) p = absurd p
without_call (machine.Restart r ∷ []) p = absurd p
without_call (v ∷ (u ∷ vs)) p = absurd p

pub next_alone : (a b : RunningState) (answer : Result (Option Came) WorldRefusal) → GoesOnByNext a answer b →
    GoesOnAlone a b
next_alone a b (Ok None) is = same_alone a b is
next_alone a b (Ok (Some c)) goes =
    λ run_events has. let g = goes run_events has in (g.0, without_call g.0 g.1, g.2)
next_alone a b (Err refused) is = same_alone a b is

-- the number of why a datagram doesn't come
pub number_of_why : (s : RunningState) (refused : WorldRefusal) (number : ℕ) → number ≡ number_told refused →
    IsWhyNot s refused → (number ≡ 14) ⊎ (number ≡ 5)
number_of_why s refused number is (inl memory) = inl (is ∙ ap number_told memory)
number_of_why s refused number is (inr nobody) = inr (is ∙ ap number_told nobody.0)
