-- The parts that calls and statements make.
use Rattle.std.proofs.Common.{◌≡◌, ℕ, Bool, true, false, List, [], ◌∷◌, ◌++◌, Option, Some, None, Result, Ok, Err, refl, sym, ap, subst, ◌∙◌}
use Rattle.interpreter.specs.StatementCalls.{acts_on}
use Rattle.interpreter.specs.declared.steps.NextStep.{NextStep}
use Rattle.interpreter.specs.declared.steps.NextStep.TheVariants as nexts
use Rattle.interpreter.specs.declared.steps.PendingCall.{PendingCall}
use Rattle.interpreter.specs.declared.steps.Told.{Told}
use Rattle.line_diagnostics.specs.declared.fault.LineFault.{LineFault}
use Rattle.script_calls.specs.declared.pending.Pending.{Pending}
use Rattle.simulation.specs.Parts.{ActGives, AskGives, CallGives, CallsGive, FollowingGives, FurtherCall, FurtherGives}
use Rattle.simulation.specs.Parts.{Part, Standing, call_lines, call_makes, joined, no_part, printed_part, standing, step_part, taken_lines}
use Rattle.simulation.specs.StepLines.{refused_lines, stepped_lines, told_lines}
use Rattle.simulation.specs.Output.{CutsOff, Prints}
use Rattle.simulation.specs.RankAnswers.{Heeded, IsFaulty, IsMade, heeded, is_silent, made_in, takes_back, with_names}
use Rattle.simulation.specs.Turns.{ActRuns, AskRuns, CallRuns, CallsRun, FollowingRuns, FurtherRuns, Runs, TakenGives}
use Rattle.simulation.specs.declared.error.SimulateError.{SimulateError}
use Rattle.simulation.specs.declared.calls.Acted.{Acted}
use Rattle.simulation.specs.declared.calls.Acted.TheVariants as acted
use Rattle.simulation.specs.declared.ranks.RankNames.{RankNames}
use Rattle.statements.specs.declared.action.Action.{Action}
use Rattle.world.specs.Headline.{IsRunOfMachine}
use Rattle.world.specs.Steps.{StepGives}
use Rattle.world.specs.WorldState.{WorldState}
use Rattle.world.specs.declared.event.Event.{Event}
use Rattle.world.specs.declared.event.Event.TheVariants as events
use Rattle.world.specs.declared.event.Failed.{Failed}
use Rattle.world.specs.declared.event.Stepped.{Stepped}
use Rattle.simulation.proofs.PrintLaws.{prints_more, prints_none}

-- what a question answered
pub question_made : (w : WorldState) (added : Stepped) (pending : Pending) (from to : RankNames) (heard : NextStep)
    (next : Option PendingCall) (old new : Option (List ℕ)) → IsMade (made_in w added pending from) heard to →
    Prints old new (heeded heard).told → next ≡ (heeded heard).next →
    Prints old new (made_in w added pending from).0.told × (next ≡ (made_in w added pending from).0.next)
    × (to ≡ (made_in w added pending from).1)
question_made w added pending from to heard next old new made prints is = (
  subst (λ (h : Heeded). Prints old new h.told) made.0 prints,
  is ∙ ap (λ (h : Heeded). h.next) made.0,
  made.1,
)

-- a call whose answer isn't printed by itself
pub question_taken : (w : WorldState) (added : Stepped) (pending : Pending) (from to : RankNames)
    (next : Option PendingCall) (old new : Option (List ℕ)) → is_silent pending ≡ true →
    Prints old new (made_in w added pending from).0.told → next ≡ (made_in w added pending from).0.next →
    to ≡ (made_in w added pending from).1 → TakenGives w added pending from old new next to
question_taken w added pending from to next old new silent prints is goes = (
  subst (λ (b : Bool). Prints old new (taken_lines b (made_in w added pending from).0.told (stepped_lines w added)))
      (sym silent) prints,
  is,
  goes,
)

-- a call whose answer is
pub step_taken : (w : WorldState) (added : Stepped) (pending : Pending) (from to : RankNames) (heard : NextStep)
    (next : Option PendingCall) (old new : Option (List ℕ)) → is_silent pending ≡ false →
    Prints old new (stepped_lines w added) → IsMade (made_in w added pending from) heard to →
    next ≡ (heeded heard).next → TakenGives w added pending from old new next to
step_taken w added pending from to heard next old new silent prints made is = (
  subst (λ (b : Bool). Prints old new (taken_lines b (made_in w added pending from).0.told (stepped_lines w added)))
      (sym silent) prints,
  is ∙ ap (λ (h : Heeded). h.next) made.0,
  made.1,
)

pub question_cut : (e : SimulateError) (w : WorldState) (added : Stepped) (pending : Pending) (from : RankNames)
    (old new : Option (List ℕ)) → is_silent pending ≡ true → CutsOff e old new (made_in w added pending from).0.told →
    CutsOff e old new (taken_lines (is_silent pending) (made_in w added pending from).0.told (stepped_lines w added))
question_cut e w added pending from old new silent cut =
    subst (λ (b : Bool). CutsOff e old new (taken_lines b (made_in w added pending from).0.told (stepped_lines w added)))
    (sym silent) cut

pub step_cut : (e : SimulateError) (w : WorldState) (added : Stepped) (pending : Pending) (from : RankNames)
    (old new : Option (List ℕ)) → is_silent pending ≡ false → CutsOff e old new (stepped_lines w added) →
    CutsOff e old new (taken_lines (is_silent pending) (made_in w added pending from).0.told (stepped_lines w added))
step_cut e w added pending from old new silent cut =
    subst (λ (b : Bool). CutsOff e old new (taken_lines b (made_in w added pending from).0.told (stepped_lines w added)))
    (sym silent) cut

-- a call that is taken
pub call_taken : (rank : ℕ) (asks : PendingCall) (w v : WorldState) (s t : RankNames) (added : Stepped)
    (old new : Option (List ℕ)) (next : Option PendingCall) → StepGives w (events.Call rank asks.call) (Ok added) v →
    IsRunOfMachine v → TakenGives v added asks.pending s old new next t →
    CallRuns rank asks (standing w s) old new next (standing v t)
call_taken rank asks w v s t added old new next gives seen taken = record {
  part = step_part (events.Call rank asks.call) (Ok added) (call_lines asks.pending (Ok added) v s);
  gives = record {
    answer = Ok added;
    stepped = gives;
    seen = seen;
    does = refl;
    follows = taken.1;
    names = taken.2;
  };
  prints = taken.0;
}

-- a call that is refused
pub call_refused : (rank : ℕ) (asks : PendingCall) (w v : WorldState) (s t : RankNames) (failed : Failed)
    (old new : Option (List ℕ)) → StepGives w (events.Call rank asks.call) (Err failed) v → IsRunOfMachine v →
    Prints old new (refused_lines v failed) → t ≡ with_names s (takes_back asks.pending failed.event s.names) →
    CallRuns rank asks (standing w s) old new None (standing v t)
call_refused rank asks w v s t failed old new gives seen prints is = record {
  part = step_part (events.Call rank asks.call) (Err failed) (refused_lines v failed);
  gives = record {
    answer = Err failed;
    stepped = gives;
    seen = seen;
    does = refl;
    follows = refl;
    names = is;
  };
  prints = prints;
}

-- no call
pub further_none : (rank : ℕ) (at : Standing) (old : Option (List ℕ)) → FurtherRuns rank None at old old at
further_none rank at old = record { part = no_part; gives = (refl, refl); prints = prints_none old }

pub further_one : (rank : ℕ) (asks : PendingCall) (from to : Standing) (old new : Option (List ℕ))
    (ignored : Option PendingCall) → CallRuns rank asks from old new ignored to →
    FurtherRuns rank (Some asks) from old new to
further_one rank asks from to old new ignored r = record {
  part = r.part;
  gives = record { ignored = ignored; call = r.gives };
  prints = r.prints;
}

-- a call, and the further one
pub calls_both : (rank : ℕ) (asks : PendingCall) (from mid to : Standing) (old between new : Option (List ℕ))
    (next : Option PendingCall) → CallRuns rank asks from old between next mid →
    FurtherRuns rank next mid between new to → CallsRun rank asks from old new to
calls_both rank asks from mid to old between new next a b = record {
  part = joined a.part b.part;
  gives = record {
    first = a.part;
    next = next;
    between = mid;
    second = b.part;
    called = a.gives;
    further = b.gives;
    both = refl;
  };
  prints = prints_more old between new a.part.printed b.part.printed a.prints b.prints;
}

pub following_none : (rank : ℕ) (at : Standing) (old : Option (List ℕ)) → FollowingRuns rank None at old old at
following_none rank at old = record { part = no_part; gives = (refl, refl); prints = prints_none old }

pub following_some : (rank : ℕ) (asks : PendingCall) (from to : Standing) (old new : Option (List ℕ)) →
    CallsRun rank asks from old new to → FollowingRuns rank (Some asks) from old new to
following_some rank asks from to old new r = record { part = r.part; gives = r.gives; prints = r.prints }

-- ---- statements

pub asked_nothing : (rank : ℕ) (at : Standing) (old : Option (List ℕ)) →
    AskRuns rank (Some nexts.Nothing) at old old acted.Done at
asked_nothing rank at old = record { part = no_part; gives = (refl, refl); prints = prints_none old }

pub asked_told : (rank : ℕ) (told : Told) (at : Standing) (old new : Option (List ℕ)) →
    Prints old new (told_lines told) → AskRuns rank (Some (nexts.Told told)) at old new acted.Done at
asked_told rank told at old new prints = record {
  part = printed_part (told_lines told);
  gives = (refl, refl);
  prints = prints;
}

pub asked_calls : (rank : ℕ) (asks : PendingCall) (from to : Standing) (old new : Option (List ℕ)) →
    CallsRun rank asks from old new to → AskRuns rank (Some (nexts.Call asks)) from old new acted.Done to
asked_calls rank asks from to old new r = record { part = r.part; gives = r.gives; prints = r.prints }

pub asked_faulty : (rank : ℕ) (from to : Standing) (old : Option (List ℕ)) →
    AskRuns rank None from old old (acted.Faulty None) to
asked_faulty rank from to old = (refl, refl, prints_none old)

-- a statement that can't be followed
pub act_lacks : (rank : ℕ) (action : Action) (fault : Option LineFault) (from to : Standing) (old : Option (List ℕ)) →
    IsFaulty fault action from.names.names → ActRuns rank action from old old (acted.Faulty fault) to
act_lacks rank action fault from to old faulty = (faulty, prints_none old)

-- a statement that is followed
pub act_asks : (rank : ℕ) (action : Action) (w v : WorldState) (s mid t : RankNames) (next : Option NextStep)
    (done : Acted) (old new : Option (List ℕ)) →
    next ≡ (acts_on action s.names).0 → mid ≡ with_names s (acts_on action s.names).1 →
    AskRuns rank next (standing w mid) old new done (standing v t) →
    ActRuns rank action (standing w s) old new done (standing v t)
act_asks rank action w v s mid t next acted.Done old new is goes r =
    let at : AskRuns rank (acts_on action s.names).0 (standing w mid) old new acted.Done (standing v t) =
    subst (λ (c : Option NextStep). AskRuns rank c (standing w mid) old new acted.Done (standing v t)) is r in
    let there : AskRuns rank (acts_on action s.names).0 (standing w (with_names s (acts_on action s.names).1)) old new
    acted.Done (standing v t) =
    subst (λ (n : RankNames). AskRuns rank (acts_on action s.names).0 (standing w n) old new acted.Done (standing v t))
    goes at in
    record { part = there.part; gives = there.gives; prints = there.prints }
act_asks rank action w v s mid t next (acted.Faulty fault) old new is goes r =
    let why : IsFaulty None action s.names = (sym is ∙ r.0, tt) in
    (subst (λ (f : Option LineFault). IsFaulty f action s.names) (sym r.1) why, r.2)
