-- Lines, one after the other.
use Rattle.std.proofs.Common.{◌≡◌, ℕ, suc, ◌+◌, ◌<◌, List, [], ◌∷◌, ◌++◌, drop, get_or, length, map, take, Option, Some, None}
use Rattle.std.proofs.Common.{refl, sym, ap, subst, ◌∙◌, arith}
use Rattle.std.proofs.Math.Seq.{drop-cons}
use Rattle.std.proofs.lemmas.List.{append-nil, append_assoc, map-id, take-append-drop}
use Rattle.event_files.specs.declared.file.EventLine.{EventLine}
use Rattle.line_diagnostics.specs.declared.fault.LineFault.{LineFault}
use Rattle.simulation.specs.Courses.{Course, IsFaultyLine, LineGives, Scene}
use Rattle.simulation.specs.Files.{LineStops, LinesRun, StopsBy}
use Rattle.simulation.specs.Parts.{Happening, Part, joined, no_part}
use Rattle.simulation.specs.Output.{Prints}
use Rattle.simulation.specs.Turns.{LineRuns}
use Rattle.simulation.specs.declared.error.SimulateError.{SimulateError}
use Rattle.simulation.specs.declared.error.SimulateError.TheVariants as errors
use Rattle.simulation.proofs.PrintLaws.{begins_more, prints_more, prints_none}

abbrev part_of : List Happening → List (List ℕ) → Part
part_of steps printed = record { steps = steps; printed = printed }

part_is : (steps more : List Happening) (lines others : List (List ℕ)) → steps ≡ more → lines ≡ others →
    part_of steps lines ≡ part_of more others
part_is steps more lines others e f =
    ap (λ (s : List Happening). part_of s lines) e ∙ ap (λ (ls : List (List ℕ)). part_of more ls) f

joined_none : (p : Part) → joined p no_part ≡ p
joined_none p = part_is (p.steps ++ []) p.steps (p.printed ++ []) p.printed (append-nil p.steps) (append-nil p.printed)

joined_three : (p q r : Part) → joined (joined p q) r ≡ joined p (joined q r)
joined_three p q r = part_is ((p.steps ++ q.steps) ++ r.steps) (p.steps ++ (q.steps ++ r.steps))
    ((p.printed ++ q.printed) ++ r.printed) (p.printed ++ (q.printed ++ r.printed))
    (append_assoc p.steps q.steps r.steps) (append_assoc p.printed q.printed r.printed)

-- one line more, at the end
course_more : (from : Scene) (lines : List EventLine) (part : Part) (mid : Scene) (line : EventLine) (last : Part)
    (to : Scene) → Course from lines part mid → LineGives line.statement mid last to →
    Course from (lines ++ line ∷ []) (joined part last) to
course_more from [] part mid line last to c g =
    let start : LineGives line.statement from last to =
    subst (λ (s : Scene). LineGives line.statement s last to) c.1 g in
    let none : joined part last ≡ last = ap (λ (p : Part). joined p last) c.0 in
    (to, last, no_part, start, (refl, refl), none ∙ sym (joined_none last))
course_more from (first ∷ lines) part mid line last to c g = (
  c.0,
  c.1,
  joined c.2 last,
  c.3,
  course_more c.0 lines c.2 mid line last to c.4 g,
  ap (λ (p : Part). joined p last) c.5 ∙ joined_three c.1 c.2 last,
)

-- the lines so far, the next one, and what is left
pub lines_split : (all before : List EventLine) (line : EventLine) → map (λ (l : EventLine). l) before ≡
    take (length before) all → length before < length all → line ≡ get_or all (length before) line →
    all ≡ before ++ line ∷ drop (length before + 1) all
lines_split all before line taken less is =
    let i : ℕ = length before in
    let next : suc i ≡ i + 1 = omega arith in
    let behind : drop i all ≡ line ∷ drop (i + 1) all =
    drop-cons all i line less ∙ ap (λ (l : EventLine). l ∷ drop (suc i) all) (sym is)
    ∙ ap (λ (n : ℕ). line ∷ drop n all) next in
    let front : take i all ≡ before = sym taken ∙ map-id before in
    sym (take-append-drop i all) ∙ ap (λ (ls : List EventLine). ls ++ drop i all) front
    ∙ ap (λ (ls : List EventLine). before ++ ls) behind

-- no line at all
pub lines_none : (from : Scene) (old : Option (List ℕ)) → LinesRun from [] old old from
lines_none from old = record { part = no_part; course = (refl, refl); prints = prints_none old }

-- one line more
pub lines_more : (from mid to : Scene) (lines : List EventLine) (line : EventLine) (x y z : Option (List ℕ)) →
    LinesRun from lines x y mid → LineRuns line.statement mid y z to → LinesRun from (lines ++ line ∷ []) x z to
lines_more from mid to lines line x y z a b = record {
  part = joined a.part b.part;
  course = course_more from lines a.part mid line b.part to a.course b.gives;
  prints = prints_more x y z a.part.printed b.part.printed a.prints b.prints;
}

-- a line that stops behind others
pub lines_stop : (e : SimulateError) (fault : Option LineFault) (from mid : Scene) (all before behind : List EventLine)
    (line : EventLine) (x y z : Option (List ℕ)) → all ≡ before ++ line ∷ behind → LinesRun from before x y mid →
    LineStops e fault mid line y z → StopsBy e fault from all x z
lines_stop (errors.Line number) fault from mid all before behind line x y z is run s = record {
  before = before;
  line = line;
  behind = behind;
  all = is;
  numbered = s.0;
  at = mid;
  run = record {
    part = run.part;
    course = run.course;
    prints = subst (λ (lines : List (List ℕ)). Prints x z lines) (append-nil run.part.printed)
        (prints_more x y z run.part.printed [] run.prints s.2);
  };
  faulty = s.1;
}
lines_stop errors.OutOfMemory fault from mid all before behind line x y z is run s = record {
  before = before;
  line = line;
  behind = behind;
  all = is;
  part = run.part;
  at = mid;
  course = run.course;
  begun = s.part;
  begins = s.begins;
  prints = begins_more x y z run.part.printed s.part.printed run.prints s.prints;
}
lines_stop errors.Output fault from mid all before behind line x y z is run s = tt
