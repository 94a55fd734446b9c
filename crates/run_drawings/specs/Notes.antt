-- What stands beside the lines of life of an SVG.
use Rattle.std.specs.Prelude.{ℕ, ◌==◌, List, ◌++◌, codes, length, if◌then◌else◌}
use Rattle.run_drawings.specs.Elements.{answer_span, call_class, most_shown}
use Rattle.run_drawings.specs.Labels.{shortened}
use Rattle.run_drawings.specs.Layout.{left_of, right_of}
use Rattle.run_drawings.specs.declared.elements.Ink.{Ink}
use Rattle.run_drawings.specs.declared.elements.Ink.TheVariants as inks
use Rattle.run_drawings.specs.declared.elements.Stroke.{Stroke}
use Rattle.run_drawings.specs.declared.layout.Point.{Point}
use Rattle.run_drawings.specs.declared.picture.Change.{Change}
use Rattle.run_drawings.specs.declared.picture.Change.TheVariants as changes
use Rattle.run_drawings.specs.declared.picture.Tone.{Tone}
use Rattle.run_drawings.specs.declared.picture.Tone.TheVariants as tones

-- the text of a note, byte by byte: its call alone, the answer of an earlier call, or both
abbrev pub note_label : (call answer : List ℕ) (tone : Tone) → List ℕ
note_label call answer tone =
    if length answer == 0 then shortened call most_shown
    else if length call == 0 then answer_span answer tone
    else shortened call most_shown ++ codes " " ++ answer_span answer tone

-- a note that stands alone tells by its class what it is about
abbrev pub note_class : (answer : List ℕ) (tone : Tone) → List ℕ
note_class answer tone = if length answer == 0 then call_class tone else codes "call"

-- what the mark of a note shows: a failure, an end, or that something happened
abbrev pub mark_ink : (tone : Tone) (change : Change) → Ink
mark_ink tones.Fails change = inks.Failure
mark_ink tone changes.Ends = inks.End
mark_ink tone change = inks.Event

-- the mark of a note, across the line of life
abbrev pub mark : (here : Point) (tone : Tone) (change : Change) → Stroke
mark here tone change = record { ink = mark_ink tone change; from = left_of here 5; to = right_of here 5 }
