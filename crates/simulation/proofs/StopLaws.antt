-- What is begun of a line that is cut off.
use Rattle.std.proofs.Common.{◌≡◌, ◌⊎◌, inl, inr, ℕ, List, [], ◌∷◌, ◌++◌, Option, Some, None, Result, Ok, Err, refl, sym, ap}
use Rattle.std.proofs.Common.{subst, ◌∙◌}
use Rattle.std.proofs.lemmas.List.{append-nil}
use Rattle.engine_calls.specs.declared.reply.Completion.{Completion}
use Rattle.event_files.specs.declared.file.EventLine.{EventLine}
use Rattle.event_files.specs.declared.file.EventStatement.{EventStatement}
use Rattle.event_files.specs.declared.file.EventStatement.TheVariants as statements
use Rattle.interpreter.specs.StatementCalls.{acts_on}
use Rattle.interpreter.specs.declared.steps.NextStep.{NextStep}
use Rattle.interpreter.specs.declared.steps.NextStep.TheVariants as nexts
use Rattle.interpreter.specs.declared.steps.PendingCall.{PendingCall}
use Rattle.line_diagnostics.specs.declared.fault.LineFault.{LineFault}
use Rattle.simulation.specs.Beginnings.{ActBegins, AskBegins, BreaksOff, CallMade, CallsBegin, CompletionBegins, EntryBegins}
use Rattle.simulation.specs.Beginnings.{EventBegins, FollowingBegins, FurtherBegins, LineBegins, Starts}
use Rattle.simulation.specs.Courses.{IsFaultyLine, IsSame, Ranks, Scene, found_at, names_at, or_fresh, scene}
use Rattle.simulation.specs.Files.{LineStops, SimulationState}
use Rattle.simulation.specs.Parts.{CallGives, Part, Standing, call_lines, joined, no_part, standing, step_part, taken_lines}
use Rattle.simulation.specs.StepLines.{refused_lines, stepped_lines}
use Rattle.simulation.specs.Output.{CutsOff, Prints}
use Rattle.simulation.specs.RankAnswers.{Heeded, IsMade, entry_in, heeded, is_silent, made_in, takes_back, takes_completion}
use Rattle.simulation.specs.RankAnswers.{with_names}
use Rattle.simulation.specs.Turns.{CallRuns, LineActed}
use Rattle.simulation.specs.declared.calls.Acted.TheVariants as acted
use Rattle.simulation.specs.declared.error.SimulateError.{SimulateError}
use Rattle.simulation.specs.declared.error.SimulateError.TheVariants as errors
use Rattle.simulation.specs.declared.ranks.RankNames.{RankNames}
use Rattle.statements.specs.declared.action.Action.{Action}
use Rattle.world.specs.Headline.{IsRunOfMachine}
use Rattle.world.specs.Steps.{StepGives}
use Rattle.world.specs.WorldState.{WorldState}
use Rattle.world.specs.declared.event.Event.{Event}
use Rattle.world.specs.declared.event.Event.TheVariants as events
use Rattle.world.specs.declared.event.Failed.{Failed}
use Rattle.world.specs.declared.event.HistoryEntry.{HistoryEntry}
use Rattle.world.specs.declared.event.Stepped.{Stepped}
use Rattle.simulation.proofs.BreakLaws.{breaks_behind, breaks_first, breaks_in, breaks_output, breaks_wider}

-- ---- calls

-- printing a call that was taken was cut off
pub taken_breaks : (e : SimulateError) (rank : ℕ) (asks : PendingCall) (w v : WorldState) (s : RankNames)
    (added : Stepped) (old new : Option (List ℕ)) → StepGives w (events.Call rank asks.call) (Ok added) v →
    IsRunOfMachine v → CutsOff e old new
    (taken_lines (is_silent asks.pending) (made_in v added asks.pending s).0.told (stepped_lines v added)) →
    BreaksOff e (λ part. CallMade rank asks (standing w s) part) old new
taken_breaks e rank asks w v s added old new gives seen cut =
    let part : Part = step_part (events.Call rank asks.call) (Ok added) (call_lines asks.pending (Ok added) v s) in
    let made : CallMade rank asks (standing w s) part = record {
      next = (made_in v added asks.pending s).0.next;
      to = standing v (made_in v added asks.pending s).1;
      call = record {
        answer = Ok added;
        stepped = gives;
        seen = seen;
        does = refl;
        follows = refl;
        names = refl;
      };
    } in
    breaks_in e (λ p. CallMade rank asks (standing w s) p) part old new made cut

-- the same of one that was refused
pub refused_breaks : (e : SimulateError) (rank : ℕ) (asks : PendingCall) (w v : WorldState) (s : RankNames)
    (failed : Failed) (old new : Option (List ℕ)) → StepGives w (events.Call rank asks.call) (Err failed) v →
    IsRunOfMachine v → CutsOff e old new (refused_lines v failed) →
    BreaksOff e (λ part. CallMade rank asks (standing w s) part) old new
refused_breaks e rank asks w v s failed old new gives seen cut =
    let part : Part = step_part (events.Call rank asks.call) (Err failed) (refused_lines v failed) in
    let made : CallMade rank asks (standing w s) part = record {
      next = None;
      to = standing v (with_names s (takes_back asks.pending failed.event s.names));
      call = record {
        answer = Err failed;
        stepped = gives;
        seen = seen;
        does = refl;
        follows = refl;
        names = refl;
      };
    } in
    breaks_in e (λ p. CallMade rank asks (standing w s) p) part old new made cut

-- the first call of a statement is cut off
pub first_breaks : (e : SimulateError) (rank : ℕ) (asks : PendingCall) (from : Standing) (old new : Option (List ℕ)) →
    BreaksOff e (λ part. CallMade rank asks from part) old new →
    BreaksOff e (λ part. CallsBegin rank asks from part) old new
first_breaks e rank asks from old new b =
    breaks_wider e (λ p. CallMade rank asks from p) (λ p. CallsBegin rank asks from p) old new (λ p made. inl made) b

both_made : (rank : ℕ) (asks : PendingCall) (from mid : Standing) (first second : Part) (next : Option PendingCall) →
    CallGives rank asks from first next mid → FurtherBegins rank next mid second →
    CallsBegin rank asks from (joined first second)
both_made rank asks from mid first second None call further = absurd further
both_made rank asks from mid first second (Some other) call further = inr (
  further.to,
  record {
    first = first;
    next = Some other;
    between = mid;
    second = second;
    called = call;
    further = record { ignored = further.next; call = further.call };
    both = refl;
  },
)

-- the further one is
pub second_breaks : (e : SimulateError) (rank : ℕ) (asks : PendingCall) (from mid : Standing)
    (next : Option PendingCall) (x y z : Option (List ℕ)) → CallRuns rank asks from x y next mid →
    BreaksOff e (λ part. FurtherBegins rank next mid part) y z → BreaksOff e (λ part. CallsBegin rank asks from part) x z
second_breaks e rank asks from mid next x y z r b =
    breaks_behind e (λ p. FurtherBegins rank next mid p) (λ p. CallsBegin rank asks from p) r.part x y z
    (λ p further. both_made rank asks from mid r.part p next r.gives further) r.prints b

-- ---- statements

-- the calls that a statement asks for are cut off
pub ask_breaks : (e : SimulateError) (rank : ℕ) (asks : PendingCall) (from : Standing) (old new : Option (List ℕ)) →
    BreaksOff e (λ part. CallsBegin rank asks from part) old new →
    BreaksOff e (λ part. AskBegins rank (Some (nexts.Call asks)) from part) old new
ask_breaks e rank asks from old new b =
    breaks_wider e (λ p. CallsBegin rank asks from p) (λ p. AskBegins rank (Some (nexts.Call asks)) from p) old new
    (λ p begins. begins) b

-- memory was wanting to say what a statement asks for
pub act_first : (e : SimulateError) (rank : ℕ) (action : Action) (from : Standing) (old : Option (List ℕ)) →
    e ≡ errors.OutOfMemory → BreaksOff e (λ part. ActBegins rank action from part) old old
act_first e rank action from old is = breaks_first e (λ p. ActBegins rank action from p) old is (inl refl)

-- or to do it
pub act_breaks : (e : SimulateError) (rank : ℕ) (action : Action) (w : WorldState) (s mid : RankNames)
    (next : Option NextStep) (old new : Option (List ℕ)) → next ≡ (acts_on action s.names).0 →
    mid ≡ with_names s (acts_on action s.names).1 →
    BreaksOff e (λ part. AskBegins rank next (standing w mid) part) old new →
    BreaksOff e (λ part. ActBegins rank action (standing w s) part) old new
act_breaks e rank action w s mid next old new is goes b =
    breaks_wider e (λ p. AskBegins rank next (standing w mid) p) (λ p. ActBegins rank action (standing w s) p) old new
    (λ p begins. inr (subst (λ (n : RankNames). AskBegins rank (acts_on action s.names).0 (standing w n) p) goes
    (subst (λ (c : Option NextStep). AskBegins rank c (standing w mid) p) is begins))) b

-- ---- among all ranks

named_at : (size : ℕ) (ranks : Ranks) (rank : ℕ) (found : RankNames) →
    found_at ranks rank ≡ Some found → names_at size ranks rank ≡ found
named_at size ranks rank found is = ap (λ (f : Option RankNames). or_fresh size rank f) is

pub act_at_breaks : (e : SimulateError) (size rank : ℕ) (action : Action) (w : WorldState) (ranks : Ranks)
    (s : RankNames) (old new : Option (List ℕ)) → found_at ranks rank ≡ Some s →
    BreaksOff e (λ part. ActBegins rank action (standing w s) part) old new →
    BreaksOff e (λ part. ActBegins rank action (standing w (names_at size ranks rank)) part) old new
act_at_breaks e size rank action w ranks s old new there b =
    subst (λ (n : RankNames). BreaksOff e (λ part. ActBegins rank action (standing w n) part) old new)
    (sym (named_at size ranks rank s there)) b

-- the same, where the rank came into the table before
act_begun_breaks : (e : SimulateError) (size rank : ℕ) (action : Action) (w : WorldState)
    (ranks mid : Ranks) (old new : Option (List ℕ)) → IsSame size ranks mid →
    BreaksOff e (λ part. ActBegins rank action (standing w (names_at size mid rank)) part) old new →
    BreaksOff e (λ part. ActBegins rank action (standing w (names_at size ranks rank)) part) old new
act_begun_breaks e size rank action w ranks mid old new same b =
    subst (λ (n : RankNames). BreaksOff e (λ part. ActBegins rank action (standing w n) part) old new) (same rank) b

-- ---- completions

of_found : (found : Option HistoryEntry) (entry : HistoryEntry) (old : Scene) (part : Part) → found ≡ Some entry →
    EntryBegins (Some entry) old part → EntryBegins found old part
of_found found entry old part is b = subst (λ (f : Option HistoryEntry). EntryBegins f old part) (sym is) b

of_completion : (found : Option HistoryEntry) (entry : HistoryEntry) (completion : Completion) (old : Scene)
    (part : Part) → found ≡ Some entry → entry.completion ≡ Some completion →
    CompletionBegins entry.endpoint.rank (Some completion) old part → EntryBegins found old part
of_completion found entry completion old part is completes b =
    of_found found entry old part is
    (subst (λ (c : Option Completion). CompletionBegins entry.endpoint.rank c old part) (sym completes) b)

-- memory was wanting for the names to take the answer
pub complete_first : (e : SimulateError) (size : ℕ) (w : WorldState) (ranks : Ranks)
    (found : Option HistoryEntry) (entry : HistoryEntry) (completion : Completion) (old : Option (List ℕ)) →
    found ≡ Some entry → entry.completion ≡ Some completion → e ≡ errors.OutOfMemory →
    BreaksOff e (λ part. EntryBegins found (scene size w ranks) part) old old
complete_first e size w ranks found entry completion old is completes wants =
    breaks_first e (λ p. EntryBegins found (scene size w ranks) p) old wants
    (of_completion found entry completion (scene size w ranks) no_part is completes (inl refl))

-- what follows is cut off
pub complete_breaks : (e : SimulateError) (size : ℕ) (w : WorldState) (ranks : Ranks)
    (found : Option HistoryEntry) (entry : HistoryEntry) (completion : Completion) (s mid : RankNames)
    (heard : NextStep) (next : Option PendingCall) (x y : Option (List ℕ)) → found ≡ Some entry →
    entry.completion ≡ Some completion → found_at ranks entry.endpoint.rank ≡ Some s →
    IsMade (takes_completion completion s) heard mid → next ≡ (heeded heard).next →
    BreaksOff e (λ part. FollowingBegins entry.endpoint.rank next (standing w mid) part) x y →
    BreaksOff e (λ part. EntryBegins found (scene size w ranks) part) x y
complete_breaks e size w ranks found entry completion s mid heard next x y is completes there made follows b =
    let rank : ℕ = entry.endpoint.rank in
    let asks : next ≡ (takes_completion completion s).0.next = follows ∙ ap (λ (h : Heeded). h.next) made.0 in
    let named : names_at size ranks rank ≡ s = named_at size ranks rank s there in
    breaks_wider e (λ p. FollowingBegins rank next (standing w mid) p) (λ p. EntryBegins found (scene size w ranks) p) x y
    (λ p begins. of_completion found entry completion (scene size w ranks) p is completes (inr (subst (λ (n : RankNames).
    FollowingBegins rank (takes_completion completion n).0.next (standing w (takes_completion completion n).1) p)
    (sym named) (subst (λ (n : RankNames). FollowingBegins rank (takes_completion completion s).0.next (standing w n) p)
    made.1 (subst (λ (n : Option PendingCall). FollowingBegins rank n (standing w mid) p) asks begins))))) b

-- ---- events that are no calls

completion_none : (rank : ℕ) (completion : Option Completion) (old : Scene) →
    CompletionBegins rank completion old no_part
completion_none rank None old = refl
completion_none rank (Some completion) old = inl refl

entry_none : (entry : Option HistoryEntry) (old : Scene) → EntryBegins entry old no_part
entry_none None old = refl
entry_none (Some entry) old = completion_none entry.endpoint.rank entry.completion old

-- printing an event that was taken was cut off
pub event_cut : (e : SimulateError) (size : ℕ) (w v : WorldState) (ranks : Ranks) (event : Event)
    (added : Stepped) (x y : Option (List ℕ)) → StepGives w event (Ok added) v → IsRunOfMachine v →
    CutsOff e x y (stepped_lines v added) →
    BreaksOff e (λ part. EventBegins event (scene size w ranks) part) x y
event_cut e size w v ranks event added x y gives seen cut =
    let part : Part = joined (step_part event (Ok added) (stepped_lines v added)) no_part in
    let begins : EventBegins event (scene size w ranks) part = record {
      answer = Ok added;
      world = v;
      stepped = gives;
      seen = seen;
      further = no_part;
      behind = entry_none (entry_in v added) (scene size v ranks);
      both = refl;
    } in
    breaks_in e (λ p. EventBegins event (scene size w ranks) p) part x y begins
    (subst (λ (lines : List (List ℕ)). CutsOff e x y lines) (sym (append-nil (stepped_lines v added))) cut)

-- what follows from it is cut off
pub event_breaks : (e : SimulateError) (size : ℕ) (w v : WorldState) (ranks : Ranks) (event : Event)
    (added : Stepped) (x y z : Option (List ℕ)) → StepGives w event (Ok added) v → IsRunOfMachine v →
    Prints x y (stepped_lines v added) →
    BreaksOff e (λ part. EntryBegins (entry_in v added) (scene size v ranks) part) y z →
    BreaksOff e (λ part. EventBegins event (scene size w ranks) part) x z
event_breaks e size w v ranks event added x y z gives seen prints b =
    breaks_behind e (λ p. EntryBegins (entry_in v added) (scene size v ranks) p)
    (λ p. EventBegins event (scene size w ranks) p) (step_part event (Ok added) (stepped_lines v added)) x y z
    (λ p begins. record {
      answer = Ok added;
      world = v;
      stepped = gives;
      seen = seen;
      further = p;
      behind = begins;
      both = refl;
    }) prints b

-- ---- lines

pub line_breaks : (e : SimulateError) (fault : Option LineFault) (from : Scene) (line : EventLine)
    (old new : Option (List ℕ)) → BreaksOff e (λ part. LineBegins line.statement from part) old new →
    LineStops e fault from line old new
line_breaks (errors.Line number) fault from line old new b = absurd b
line_breaks errors.OutOfMemory fault from line old new b = b
line_breaks errors.Output fault from line old new b = tt

-- memory was wanting for the names of a rank
pub line_first : (e : SimulateError) (fault : Option LineFault) (from : Scene) (line : EventLine)
    (old : Option (List ℕ)) → e ≡ errors.OutOfMemory → LineBegins line.statement from no_part →
    LineStops e fault from line old old
line_first e fault from line old is begins =
    line_breaks e fault from line old old (breaks_first e (λ p. LineBegins line.statement from p) old is begins)

-- a statement of a rank that came into the table before is cut off
pub act_line_breaks : (e : SimulateError) (size rank : ℕ) (action : Action) (w : WorldState) (ranks mid : Ranks)
    (old new : Option (List ℕ)) → IsSame size ranks mid →
    BreaksOff e (λ part. ActBegins rank action (standing w (names_at size mid rank)) part) old new →
    BreaksOff e (λ part. LineBegins (statements.Rank rank action) (scene size w ranks) part) old new
act_line_breaks e size rank action w ranks mid old new same b =
    breaks_wider e (λ p. ActBegins rank action (standing w (names_at size ranks rank)) p)
    (λ p. LineBegins (statements.Rank rank action) (scene size w ranks) p) old new (λ p begins. begins)
    (act_begun_breaks e size rank action w ranks mid old new same b)

-- or memory was wanting for its rank
pub act_line_first : (size rank : ℕ) (action : Action) (w : WorldState) (ranks : Ranks) (old : Option (List ℕ)) →
    BreaksOff errors.OutOfMemory (λ part. LineBegins (statements.Rank rank action) (scene size w ranks) part) old old
act_line_first size rank action w ranks old =
    breaks_first errors.OutOfMemory (λ p. LineBegins (statements.Rank rank action) (scene size w ranks) p) old refl
    (inl refl)

-- the line of a rank's statement is cut off
pub line_cut : (e : SimulateError) (fault : Option LineFault) (from : Scene) (number : ℕ) (statement : EventStatement)
    (old new : Option (List ℕ)) → BreaksOff e (λ part. LineBegins statement from part) old new →
    LineStops e fault from (record { number = number; statement = statement }) old new
line_cut e fault from number statement old new b =
    line_breaks e fault from (record { number = number; statement = statement }) old new b

-- it can't be followed; the value is that of its fields, and why is what was kept
pub line_faulty : (t s : SimulationState) (fault lack : Option LineFault) (number rank : ℕ) (action : Action)
    (to : Scene) (old new : Option (List ℕ)) → t ≡ s → lack ≡ fault →
    LineActed rank action t.scene old new (acted.Faulty fault) to →
    LineStops (errors.Line number) lack s.scene (record { number = number; statement = statements.Rank rank action })
    old new
line_faulty t s fault lack number rank action to old new same is r =
    let there : LineActed rank action s.scene old new (acted.Faulty fault) to =
    subst (λ (v : SimulationState). LineActed rank action v.scene old new (acted.Faulty fault) to) same r in (
      refl,
      subst (λ (f : Option LineFault). IsFaultyLine f s.scene (statements.Rank rank action)) (sym is) there.0,
      there.1,
    )
