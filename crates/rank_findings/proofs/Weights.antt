-- The heaviest of some findings.
use Rattle.std.proofs.Common.{◌≡◌, ℕ, ◌≤◌, Bool, true, false, ◌||◌, List, [], ◌∷◌, map, refl, sym, ap, ◌∙◌, subst, arith}
use Rattle.std.specs.Prelude.{if◌then◌else◌, max}
use Rattle.std.specs.List.{list_any}
use Rattle.rank_findings.specs.Endings.{is_all_ended, is_unexplored}
use Rattle.rank_findings.specs.Findings.{finding_number, is_fault, is_left, weight, weight_at}
use Rattle.rank_findings.specs.Laws.{FaultsAreWrong}
use Rattle.rank_findings.specs.Verdicts.{heaviest}
use Rattle.rank_findings.specs.declared.finding.Finding.{Finding}
use Rattle.rank_findings.specs.declared.finding.Finding.TheVariants.{RequestLeft, CommunicatorLeft, TypesLeft}
use Rattle.rank_findings.specs.declared.finding.Finding.TheVariants.{MessagesTaken, NeverReceived, NeedsBuffer, Waits}
use Rattle.rank_findings.specs.declared.finding.Finding.TheVariants.{AsksForEver, InFinalize, Cycle, Differs}
use Rattle.rank_findings.specs.declared.finding.Finding.TheVariants.{NeverEntered, CallFailed, ErrorReturned, Aborted}
use Rattle.rank_findings.specs.declared.finding.Finding.TheVariants.{Silent, Killed, NoFinalize, OtherStatus}
use Rattle.rank_findings.specs.declared.finding.Finding.TheVariants.{RecordEnds, CancelRaces, BufferMisused, StoodThere}
use Rattle.rank_findings.specs.declared.finding.Finding.TheVariants.{CantExplore, ReadyEarly}

-- one more number is looked at
pub largest_next : (most w h all : ℕ) → max most (max w h) ≡ all → max (max w most) h ≡ all
largest_next most w h all is = omega arith

weight_is : (f : Finding) → weight_at (finding_number f) ≡ weight f
weight_is RequestLeft = refl
weight_is CommunicatorLeft = refl
weight_is TypesLeft = refl
weight_is MessagesTaken = refl
weight_is NeverReceived = refl
weight_is NeedsBuffer = refl
weight_is Waits = refl
weight_is AsksForEver = refl
weight_is InFinalize = refl
weight_is Cycle = refl
weight_is Differs = refl
weight_is NeverEntered = refl
weight_is CallFailed = refl
weight_is ErrorReturned = refl
weight_is Aborted = refl
weight_is Silent = refl
weight_is Killed = refl
weight_is NoFinalize = refl
weight_is OtherStatus = refl
weight_is RecordEnds = refl
weight_is CancelRaces = refl
weight_is BufferMisused = refl
weight_is StoodThere = refl
weight_is CantExplore = refl
weight_is ReadyEarly = refl

at_most_three : (a b : Bool) → (if a then 3 else (if b then 2 else 1)) ≤ 3
at_most_three true b = omega arith
at_most_three false true = omega arith
at_most_three false false = omega arith

three : (t : Bool) (x : ℕ) → t ≡ true → (if t then 3 else x) ≡ 3
three true x is = refl
three false x is = absurd cc

-- the number of a finding has its weight
bounded : (f : Finding) → weight_at (finding_number f) ≤ 3
bounded f = subst (λ (w : ℕ). w ≤ 3) (sym (weight_is f)) (at_most_three (is_fault f) (is_left f))

faults_weigh : (f : Finding) → is_fault f ≡ true → weight_at (finding_number f) ≡ 3
faults_weigh f is = weight_is f ∙ three (is_fault f) (if is_left f then 2 else 1) is

max_bound : (a b : ℕ) → a ≤ 3 → b ≤ 3 → max a b ≤ 3
max_bound a b p q = omega arith

all_bounded : (fs : List Finding) → heaviest (map weight_at (map finding_number fs)) ≤ 3
all_bounded [] = omega arith
all_bounded (f ∷ fs) =
    max_bound (weight_at (finding_number f)) (heaviest (map weight_at (map finding_number fs))) (bounded f) (all_bounded fs)

of_either : (t r : Bool) (a b : ℕ) → (t ≡ true → a ≡ 3) → (r ≡ true → b ≡ 3) → a ≤ 3 → b ≤ 3 → t || r ≡ true →
    max a b ≡ 3
of_either true r a b first rest p q is = let e : a ≡ 3 = first refl in omega arith
of_either false r a b first rest p q is = let e : b ≡ 3 = rest is in omega arith

fault_is_heaviest : (fs : List Finding) → list_any is_fault fs ≡ true →
    heaviest (map weight_at (map finding_number fs)) ≡ 3
fault_is_heaviest [] is = absurd cc
fault_is_heaviest (f ∷ fs) is =
    of_either (is_fault f) (list_any is_fault fs) (weight_at (finding_number f))
    (heaviest (map weight_at (map finding_number fs))) (faults_weigh f) (fault_is_heaviest fs) (bounded f)
    (all_bounded fs) is

either : (t : Bool) (x : ℕ) → x ≡ 3 → (if t then x else 3) ≡ 3
either true x is = is
either false x is = refl

pub faults_are_wrong : FaultsAreWrong
faults_are_wrong ending fs is = either (is_all_ended ending || is_unexplored ending) _ (fault_is_heaviest fs is)
