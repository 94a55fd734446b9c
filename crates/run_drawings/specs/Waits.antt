-- The arrows of a cycle in an SVG.
use Rattle.std.specs.Prelude.{ℕ, ◌==◌, List, [], ◌∷◌, if◌then◌else◌}
use Rattle.std.specs.List.{flat_map}
use Rattle.run_drawings.specs.Layout.{at, below, right_of}
use Rattle.run_drawings.specs.declared.elements.Element.{Element}
use Rattle.run_drawings.specs.declared.elements.Element.TheVariants as elements
use Rattle.run_drawings.specs.declared.elements.Ink.{Ink}
use Rattle.run_drawings.specs.declared.elements.Ink.TheVariants as inks
use Rattle.run_drawings.specs.declared.layout.Layout.{Layout}
use Rattle.run_drawings.specs.declared.layout.Point.{Point}
use Rattle.run_drawings.specs.declared.picture.CycleWait.{CycleWait}

-- a straight line
abbrev pub line : (ink : Ink) (from to : Point) → Element
line ink from to = elements.Stroke (record { ink = ink; from = from; to = to })

-- from a rank's line of life to that of one for which it waits; of a rank that waits for itself out and back
abbrev pub wait_strokes : (l : Layout) (rank row other : ℕ) → List Element
wait_strokes l rank row other =
    let here = at l rank row in
    let out = right_of here 24 in
    if rank == other then
    line inks.Turn here out ∷ line inks.Turn out (below out 8) ∷ line inks.Awaits (below out 8) (below here 8) ∷ []
    else line inks.Awaits here (at l other row) ∷ []

-- one for each for which it waits
abbrev pub waits_of : (l : Layout) (row : ℕ) (wait : CycleWait) → List Element
waits_of l row wait = flat_map (λ other. wait_strokes l wait.rank row other) wait.whom.items
