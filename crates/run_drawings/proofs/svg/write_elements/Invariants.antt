use Rattle.std.proofs.Common.{◌≡◌, ◌++◌, take, string_bytes}
use Rattle.run_drawings.specs.Elements.{lines_text}
use Rattle.run_drawings.proofs.svg.write_elements.Given as goal

abbrev pub invariant-loop-element : goal.invariant-loop-element
invariant-loop-element l =
    string_bytes l.out ≡ string_bytes l.initial.out ++ lines_text (take l.element-index l.elements)
