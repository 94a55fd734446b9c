-- The steps that the world makes in the lines of a file are a run of the world.
use Rattle.std.proofs.Common.{◌≡◌, ◌⊎◌, inl, inr, ℕ, List, [], ◌∷◌, ◌++◌, map, Option, Some, None, Result, Ok, Err, refl, sym, ap}
use Rattle.std.proofs.Common.{subst, ◌∙◌}
use Rattle.std.proofs.lemmas.List.{append-nil, append_assoc}
use Rattle.engine_calls.specs.declared.reply.Completion.{Completion}
use Rattle.event_files.specs.Files.{FileSays, IsFirstFaultOfFile}
use Rattle.event_files.specs.declared.file.EventFile.{EventFile}
use Rattle.event_files.specs.declared.file.EventLine.{EventLine}
use Rattle.event_files.specs.declared.file.EventStatement.{EventStatement}
use Rattle.event_files.specs.declared.file.EventStatement.TheVariants as statements
use Rattle.interpreter.specs.StatementCalls.{acts_on}
use Rattle.interpreter.specs.declared.steps.NextStep.{NextStep}
use Rattle.interpreter.specs.declared.steps.NextStep.TheVariants as nexts
use Rattle.interpreter.specs.declared.steps.PendingCall.{PendingCall}
use Rattle.line_diagnostics.specs.declared.fault.LineFault.{LineFault}
use Rattle.simulation.specs.Courses.{BehindEvent, CompletedBy, CompletedIn, Course, EventGives, IsOpening, LineGives, RestartGives, Scene, scene}
use Rattle.simulation.specs.Files.{FileRuns, FileStops, LinesRun, RunsWhole, Stops, StopsBy, answers_of, events_of}
use Rattle.simulation.specs.Parts.{AskGives, CallGives, CallsGive, FollowingGives, FurtherGives, Happening, Part, Standing, joined, no_part}
use Rattle.simulation.specs.Output.{Prints}
use Rattle.simulation.specs.RankAnswers.{entry_in}
use Rattle.simulation.specs.declared.error.SimulateError.{SimulateError}
use Rattle.simulation.specs.declared.error.SimulateError.TheVariants as errors
use Rattle.tokens.specs.Lines.{lines_of}
use Rattle.world.specs.Headline.{IsRunOfMachine}
use Rattle.world.specs.Steps.{RunGives, StepGives}
use Rattle.world.specs.WorldState.{WorldState, opening_world}
use Rattle.world.specs.declared.event.Event.{Event}
use Rattle.world.specs.declared.event.HistoryEntry.{HistoryEntry}
use Rattle.world.specs.declared.event.Stepped.{Stepped}
use Rattle.world.specs.declared.event.Failed.{Failed}
use Rattle.simulation.proofs.PrintLaws.{prints_none}

-- from this world, whatever then runs to an end, these steps before it run to that end
abbrev Leads : WorldState → List Happening → WorldState → Type 0
Leads w steps v = (others : List Happening) (to : WorldState) → (IsRunOfMachine v →
    RunGives v (events_of others) (answers_of others) to) → IsRunOfMachine w →
    RunGives w (events_of (steps ++ others)) (answers_of (steps ++ others)) to

leads_none : (w v : WorldState) (steps : List Happening) → steps ≡ [] → v ≡ w → Leads w steps v
leads_none w v steps none same = λ others to runs seen.
    let there : RunGives w (events_of others) (answers_of others) to =
    subst (λ (u : WorldState). RunGives u (events_of others) (answers_of others) to) same
    (runs (subst (λ (u : WorldState). IsRunOfMachine u) (sym same) seen)) in
    subst (λ (hs : List Happening). RunGives w (events_of (hs ++ others)) (answers_of (hs ++ others)) to) (sym none) there

leads_one : (w v : WorldState) (event : Event) (answer : Result Stepped Failed) → StepGives w event answer v →
    IsRunOfMachine v → Leads w (record { event = event; answer = answer } ∷ []) v
leads_one w v event answer gives seen = λ others to runs here. (here, (v, gives, runs seen))

leads_both : (w m v : WorldState) (a b : List Happening) → Leads w a m → Leads m b v → Leads w (a ++ b) v
leads_both w m v a b first second = λ others to runs seen.
    let there : RunGives w (events_of (a ++ (b ++ others))) (answers_of (a ++ (b ++ others))) to =
    first (b ++ others) to (λ mid. second others to runs mid) seen in
    subst (λ (hs : List Happening). RunGives w (events_of hs) (answers_of hs) to) (sym (append_assoc a b others)) there

-- the same of parts
abbrev PartLeads : WorldState → Part → WorldState → Type 0
PartLeads w part v = Leads w part.steps v

part_at : (w v : WorldState) (p q : Part) → p ≡ q → PartLeads w q v → PartLeads w p v
part_at w v p q is l = subst (λ (x : Part). PartLeads w x v) (sym is) l

stays : (w v : WorldState) (part : Part) (printed : List (List ℕ)) → part ≡ record { steps = []; printed = printed } →
    v ≡ w → PartLeads w part v
stays w v part printed is same = leads_none w v part.steps (ap (λ (p : Part). p.steps) is) same

of_call : (rank : ℕ) (asks : PendingCall) (from : Standing) (part : Part) (next : Option PendingCall) (to : Standing) →
    CallGives rank asks from part next to → PartLeads from.world part to.world
of_call rank asks from part next to c =
    part_at from.world to.world part _ c.does (leads_one from.world to.world _ c.answer c.stepped c.seen)

of_further : (rank : ℕ) (next : Option PendingCall) (from : Standing) (part : Part) (to : Standing) →
    FurtherGives rank next from part to → PartLeads from.world part to.world
of_further rank None from part to c = stays from.world to.world part [] c.0 (ap (λ (s : Standing). s.world) c.1)
of_further rank (Some asks) from part to c = of_call rank asks from part c.ignored to c.call

of_calls : (rank : ℕ) (asks : PendingCall) (from : Standing) (part : Part) (to : Standing) →
    CallsGive rank asks from part to → PartLeads from.world part to.world
of_calls rank asks from part to c =
    part_at from.world to.world part (joined c.first c.second) c.both
    (leads_both from.world c.between.world to.world c.first.steps c.second.steps
    (of_call rank asks from c.first c.next c.between c.called)
    (of_further rank c.next c.between c.second to c.further))

of_following : (rank : ℕ) (next : Option PendingCall) (from : Standing) (part : Part) (to : Standing) →
    FollowingGives rank next from part to → PartLeads from.world part to.world
of_following rank None from part to c = stays from.world to.world part [] c.0 (ap (λ (s : Standing). s.world) c.1)
of_following rank (Some asks) from part to c = of_calls rank asks from part to c

of_ask : (rank : ℕ) (next : Option NextStep) (from : Standing) (part : Part) (to : Standing) →
    AskGives rank next from part to → PartLeads from.world part to.world
of_ask rank None from part to c = absurd c
of_ask rank (Some nexts.Nothing) from part to c =
    stays from.world to.world part [] c.0 (ap (λ (s : Standing). s.world) c.1)
of_ask rank (Some (nexts.Call asks)) from part to c = of_calls rank asks from part to c
of_ask rank (Some (nexts.Told told)) from part to c =
    stays from.world to.world part _ c.0 (ap (λ (s : Standing). s.world) c.1)

world_at : (w v u : WorldState) (part : Part) → v ≡ u → PartLeads w part u → PartLeads w part v
world_at w v u part is l = subst (λ (x : WorldState). PartLeads w part x) (sym is) l

of_completed : (rank : ℕ) (completion : Option Completion) (old : Scene) (part : Part) (new : Scene) →
    CompletedBy rank completion old part new → PartLeads old.world part new.world
of_completed rank None old part new c = stays old.world new.world part [] c.0 (ap (λ (s : Scene). s.world) c.1)
of_completed rank (Some completion) old part new c =
    world_at old.world new.world c.to.world part c.world (of_following rank _ _ part c.to c.gives)

of_entry : (entry : Option HistoryEntry) (old : Scene) (part : Part) (new : Scene) → CompletedIn entry old part new →
    PartLeads old.world part new.world
of_entry None old part new c = stays old.world new.world part [] c.0 (ap (λ (s : Scene). s.world) c.1)
of_entry (Some entry) old part new c = of_completed entry.endpoint.rank entry.completion old part new c

of_behind : (answer : Result Stepped Failed) (old : Scene) (part : Part) (new : Scene) →
    BehindEvent answer old part new → PartLeads old.world part new.world
of_behind (Ok added) old part new c = of_entry (entry_in old.world added) old part new c
of_behind (Err failed) old part new c = stays old.world new.world part [] c.0 (ap (λ (s : Scene). s.world) c.1)

of_event : (event : Event) (old : Scene) (part : Part) (new : Scene) → EventGives event old part new →
    PartLeads old.world part new.world
of_event event old part new c =
    part_at old.world new.world part _ c.both
    (leads_both old.world c.world new.world (record { event = event; answer = c.answer } ∷ []) c.further.steps
    (leads_one old.world c.world event c.answer c.stepped c.seen)
    (of_behind c.answer (scene old.size c.world old.ranks) c.further new c.behind))

of_restart : (rank : ℕ) (old : Scene) (part : Part) (new : Scene) → RestartGives rank old part new →
    PartLeads old.world part new.world
of_restart rank old part new c =
    part_at old.world new.world part _ c.does (leads_one old.world new.world _ c.answer c.stepped c.seen)

of_line : (statement : EventStatement) (old : Scene) (part : Part) (new : Scene) → LineGives statement old part new →
    PartLeads old.world part new.world
of_line (statements.Rank rank action) old part new c =
    world_at old.world new.world c.to.world part c.world (of_ask rank _ _ part c.to c.gives)
of_line (statements.Deliver number) old part new c = of_event _ old part new c
of_line (statements.Tick rank now) old part new c = of_event _ old part new c
of_line (statements.Stray rank bytes) old part new c = of_event _ old part new c
of_line (statements.Restart rank) old part new c = of_restart rank old part new c

of_course : (from : Scene) (lines : List EventLine) (part : Part) (to : Scene) → Course from lines part to →
    PartLeads from.world part to.world
of_course from [] part to c = stays from.world to.world part [] c.0 (ap (λ (s : Scene). s.world) c.1)
of_course from (line ∷ lines) part to c =
    part_at from.world to.world part (joined c.1 c.2) c.5
    (leads_both from.world c.0.world to.world c.1.steps c.2.steps (of_line line.statement from c.1 c.0 c.3)
    (of_course c.0 lines c.2 to c.4))

-- the steps of lines are a run of the world
course_runs : (from : Scene) (lines : List EventLine) (part : Part) (to : Scene) → IsRunOfMachine from.world →
    Course from lines part to → RunGives from.world (events_of part.steps) (answers_of part.steps) to.world
course_runs from lines part to seen c =
    let all : RunGives from.world (events_of (part.steps ++ [])) (answers_of (part.steps ++ [])) to.world =
    of_course from lines part to c [] to.world (λ there. (refl, there)) seen in
    subst (λ (hs : List Happening). RunGives from.world (events_of hs) (answers_of hs) to.world) (append-nil part.steps) all

-- a file that runs to its end
pub file_runs : (file : EventFile) (from to : Scene) (lines : List EventLine) (old new : Option (List ℕ)) →
    IsOpening file.size from → IsRunOfMachine from.world → lines ≡ file.lines → LinesRun from lines old new to →
    FileRuns file old new
file_runs file from to lines old new opening seen is r =
    let run : LinesRun from file.lines old new to =
    record { part = r.part; course = subst (λ (ls : List EventLine). Course from ls r.part to) is r.course; prints = r.prints } in
    record {
      from = from;
      opening = opening;
      to = to;
      run = run;
      world_run = subst (λ (w : WorldState). RunGives w (events_of r.part.steps) (answers_of r.part.steps) to.world)
          opening.1 (course_runs from file.lines r.part to seen run.course);
    }

pub file_stops : (file : EventFile) (e : SimulateError) (fault : Option LineFault) (from : Scene)
    (lines : List EventLine) (old new : Option (List ℕ)) → IsOpening file.size from → lines ≡ file.lines →
    StopsBy e fault from lines old new → FileStops file e fault old new
file_stops file (errors.Line number) fault from lines old new opening is s = record {
  from = from;
  opening = opening;
  stops = subst (λ (ls : List EventLine). StopsBy (errors.Line number) fault from ls old new) is s;
}
file_stops file errors.OutOfMemory fault from lines old new opening is s = inr (record {
  from = from;
  opening = opening;
  stops = subst (λ (ls : List EventLine). StopsBy errors.OutOfMemory fault from ls old new) is s;
})
file_stops file errors.Output fault from lines old new opening is s = tt

-- memory was wanting for a world
pub file_first : (file : EventFile) (e : SimulateError) (old : Option (List ℕ)) → e ≡ errors.OutOfMemory →
    FileStops file e None old old
file_first file e old is =
    subst (λ (x : SimulateError). FileStops file x None old old) (sym is) (inl (prints_none old))

-- the text says this file
pub text_runs : (text : List ℕ) (file : EventFile) (old new : Option (List ℕ)) → FileSays 1 (lines_of text) file →
    FileRuns file old new → RunsWhole text old new
text_runs text file old new says runs = record { file = file; says = says; runs = runs }

pub text_stops : (text : List ℕ) (file : EventFile) (e : SimulateError) (fault : Option LineFault)
    (old new : Option (List ℕ)) → FileSays 1 (lines_of text) file → FileStops file e fault old new →
    Stops text e fault old new
text_stops text file (errors.Line number) fault old new says s = inr (record { file = file; says = says; stops = s })
text_stops text file errors.OutOfMemory fault old new says s = inr (record { file = file; says = says; stops = s })
text_stops text file errors.Output fault old new says s = tt

-- its first faulty line
pub text_faulty : (text : List ℕ) (number : ℕ) (old : Option (List ℕ)) →
    IsFirstFaultOfFile 1 (lines_of text) number → Stops text (errors.Line number) None old old
text_faulty text number old is = inl (refl, is, prints_none old)

pub text_first : (text : List ℕ) (old : Option (List ℕ)) → Stops text errors.OutOfMemory None old old
text_first text old = inl (prints_none old)
