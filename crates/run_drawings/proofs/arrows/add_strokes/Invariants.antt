use Rattle.std.proofs.Common.{◌≡◌, ◌++◌, map, take}
use Rattle.run_drawings.specs.Strokes.{stroke_to}
use Rattle.run_drawings.specs.declared.elements.Element.TheVariants as elements
use Rattle.run_drawings.proofs.arrows.add_strokes.Given as goal

abbrev pub invariant-loop-arrival : goal.invariant-loop-arrival
invariant-loop-arrival l =
    l.elements.items ≡
    l.initial.elements.items ++
    map (λ arrival. elements.Stroke (stroke_to l.layout l.arrow arrival)) (take l.arrival-index l.arrow.arrivals.items)
