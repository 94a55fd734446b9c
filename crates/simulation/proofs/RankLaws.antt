-- What a rank makes of answers.
use Rattle.std.proofs.Common.{◌≡◌, Bool, true, false, Option, Some, None, refl, sym, ap, subst, ◌∙◌, if◌then◌else◌}
use Rattle.engine_calls.specs.declared.reply.Fact.{Fact}
use Rattle.engine_calls.specs.declared.reply.Fact.TheVariants as facts
use Rattle.engine_calls.specs.declared.reply.Reply.{Reply}
use Rattle.engine_calls.specs.declared.reply.Reply.TheVariants as replies
use Rattle.interpreter.specs.Answers.{Hears, hears}
use Rattle.interpreter.specs.NamesState.{NamesState}
use Rattle.interpreter.specs.declared.steps.NextStep.{NextStep}
use Rattle.replies.specs.Copies.{IsCopyOf, IsCopyOfFact}
use Rattle.script_calls.specs.declared.pending.Pending.{Pending}
use Rattle.simulation.specs.RankAnswers.{IsMade, Made, blocks, heeded, is_blocked, made_by}
use Rattle.simulation.specs.RankAnswers.{takes_reply}
use Rattle.simulation.specs.declared.ranks.RankNames.{RankNames}

state_is : (new : RankNames) (names : NamesState) (blocked : Option Pending) → new.names ≡ names →
    new.blocked ≡ blocked → new ≡ record { names = names; blocked = blocked }
state_is new names blocked p q =
    let one : new ≡ record { names = new.names; blocked = blocked } =
    subst (λ (b : Option Pending). new ≡ record { names = new.names; blocked = b }) q refl in
    subst (λ (n : NamesState). new ≡ record { names = n; blocked = blocked }) p one

-- ---- copies of answers

-- the names make of a copy what they make of the answer itself, but for the members of a communicator, of which nothing
-- is heeded
abbrev IsHeardAs : (copy reply : Reply) → Type 0
IsHeardAs copy reply = (pending : Pending) (names : NamesState) →
    (heeded (hears pending copy names).0 ≡ heeded (hears pending reply names).0)
    × ((hears pending copy names).1 ≡ (hears pending reply names).1)

same_heard : (copy reply : Reply) → copy ≡ reply → IsHeardAs copy reply
same_heard copy reply same pending names = (
  ap (λ (r : Reply). heeded (hears pending r names).0) same,
  ap (λ (r : Reply). (hears pending r names).1) same,
)

fact_heard : (fact copy : Fact) → IsCopyOfFact fact copy → IsHeardAs (replies.Fact copy) (replies.Fact fact)
fact_heard (facts.Number n) copy is =
    same_heard (replies.Fact copy) (replies.Fact (facts.Number n)) (ap replies.Fact is)
fact_heard (facts.Compares c) copy is =
    same_heard (replies.Fact copy) (replies.Fact (facts.Compares c)) (ap replies.Fact is)
fact_heard (facts.Ranks ranks) (facts.Ranks copy) is = λ pending names. (refl, refl)
fact_heard (facts.Ranks ranks) (facts.Number n) is =
    same_heard (replies.Fact (facts.Number n)) (replies.Fact (facts.Ranks ranks)) (ap replies.Fact is)
fact_heard (facts.Ranks ranks) (facts.Compares c) is =
    same_heard (replies.Fact (facts.Compares c)) (replies.Fact (facts.Ranks ranks)) (ap replies.Fact is)

told_heard : (fact : Fact) (copy : Reply) → IsCopyOf (replies.Fact fact) copy → IsHeardAs copy (replies.Fact fact)
told_heard fact (replies.Fact copy) is = fact_heard fact copy is
told_heard fact (replies.Started q) is = same_heard (replies.Started q) (replies.Fact fact) is
told_heard fact (replies.Done a) is = same_heard (replies.Done a) (replies.Fact fact) is
told_heard fact replies.Pending is = same_heard replies.Pending (replies.Fact fact) is
told_heard fact replies.Accepted is = same_heard replies.Accepted (replies.Fact fact) is
told_heard fact replies.Blocked is = same_heard replies.Blocked (replies.Fact fact) is
told_heard fact (replies.Left e) is = same_heard (replies.Left e) (replies.Fact fact) is
told_heard fact (replies.Probed found) is = same_heard (replies.Probed found) (replies.Fact fact) is
told_heard fact (replies.Matched found) is = same_heard (replies.Matched found) (replies.Fact fact) is
told_heard fact (replies.Refused why call) is = same_heard (replies.Refused why call) (replies.Fact fact) is

copy_heard : (reply copy : Reply) → IsCopyOf reply copy → IsHeardAs copy reply
copy_heard (replies.Fact fact) copy is = told_heard fact copy is
copy_heard (replies.Started q) copy is = same_heard copy (replies.Started q) is
copy_heard (replies.Done a) copy is = same_heard copy (replies.Done a) is
copy_heard replies.Pending copy is = same_heard copy replies.Pending is
copy_heard replies.Accepted copy is = same_heard copy replies.Accepted is
copy_heard replies.Blocked copy is = same_heard copy replies.Blocked is
copy_heard (replies.Left e) copy is = same_heard copy (replies.Left e) is
copy_heard (replies.Probed found) copy is = same_heard copy (replies.Probed found) is
copy_heard (replies.Matched found) copy is = same_heard copy (replies.Matched found) is
copy_heard (replies.Refused why call) copy is = same_heard copy (replies.Refused why call) is

-- what is heard as the answer was heard
heard_made : (pending : Pending) (copy reply : Reply) (old new : RankNames) (blocked : Option Pending)
    (heard : NextStep) → IsHeardAs copy reply → hears pending copy old.names ≡ (heard, new.names) →
    new.blocked ≡ blocked → IsMade (made_by (hears pending reply old.names) blocked) heard new
heard_made pending copy reply old new blocked heard alike e b = (
  ap (λ (p : Hears). heeded p.0) (sym e) ∙ (alike pending old.names).0,
  state_is new (hears pending reply old.names).1 blocked
      (ap (λ (p : Hears). p.1) (sym e) ∙ (alike pending old.names).1) b,
)

-- the answer itself
pub same_made : (pending : Pending) (copy reply : Reply) (old new : RankNames) (blocked : Option Pending)
    (heard : NextStep) → copy ≡ reply → hears pending copy old.names ≡ (heard, new.names) →
    new.blocked ≡ blocked → IsMade (made_by (hears pending reply old.names) blocked) heard new
same_made pending copy reply old new blocked heard same e b =
    heard_made pending copy reply old new blocked heard (same_heard copy reply same) e b

-- an answer that is here
pub reply_made : (pending : Pending) (copy reply : Reply) (old new : RankNames) (heard : NextStep) →
    is_blocked reply ≡ false → IsCopyOf reply copy → hears pending copy old.names ≡ (heard, new.names) →
    new.blocked ≡ old.blocked → IsMade (takes_reply pending reply old) heard new
reply_made pending copy reply old new heard here is e b =
    subst (λ (t : Bool). IsMade (if t then blocks pending old else made_by (hears pending reply old.names) old.blocked)
    heard new) (sym here) (heard_made pending copy reply old new old.blocked heard (copy_heard reply copy is) e b)

-- an answer that is yet to come
pub blocked_made : (pending : Pending) (reply : Reply) (old new : RankNames) (heard : NextStep) →
    is_blocked reply ≡ true → IsMade (blocks pending old) heard new → IsMade (takes_reply pending reply old) heard new
blocked_made pending reply old new heard is made =
    subst (λ (t : Bool). IsMade (if t then blocks pending old else made_by (hears pending reply old.names) old.blocked)
    heard new) (sym is) made
