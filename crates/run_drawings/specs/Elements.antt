-- The elements of an SVG, byte by byte.
use Rattle.std.specs.Prelude.{ℕ, List, [], ◌++◌, codes}
use Rattle.std.specs.List.{flat_map}
use Rattle.std.specs.Fmt.{decimal}
use Rattle.run_drawings.specs.Labels.{arrow_label_text, shortened}
use Rattle.run_drawings.specs.declared.elements.Element.{Element}
use Rattle.run_drawings.specs.declared.elements.Element.TheVariants as elements
use Rattle.run_drawings.specs.declared.elements.Ink.{Ink}
use Rattle.run_drawings.specs.declared.elements.Ink.TheVariants as inks
use Rattle.run_drawings.specs.declared.elements.Label.{Label}
use Rattle.run_drawings.specs.declared.elements.Label.TheVariants as labels
use Rattle.run_drawings.specs.declared.elements.Side.{Side}
use Rattle.run_drawings.specs.declared.elements.Side.TheVariants as sides
use Rattle.run_drawings.specs.declared.elements.Stroke.{Stroke}
use Rattle.run_drawings.specs.declared.elements.Text.{Text}
use Rattle.run_drawings.specs.declared.layout.Point.{Point}
use Rattle.run_drawings.specs.declared.picture.Tone.{Tone}
use Rattle.run_drawings.specs.declared.picture.Tone.TheVariants as tones

-- `X,Y`
abbrev pub point_text : Point → List ℕ
point_text p = decimal p.x ++ codes "," ++ decimal p.y

abbrev pub ink_class : Ink → List ℕ
ink_class inks.Life = codes "life"
ink_class inks.Over = codes "over"
ink_class inks.Blocked = codes "blocked"
ink_class inks.Stuck = codes "stuck"
ink_class inks.Break = codes "break"
ink_class inks.Event = codes "event"
ink_class inks.Failure = codes "fault"
ink_class inks.End = codes "end"
ink_class inks.Taken = codes "taken"
ink_class inks.Refused = codes "refused"
ink_class inks.Lost = codes "lost"
ink_class inks.Awaits = codes "awaits"
ink_class inks.Turn = codes "turn"

-- a straight line
abbrev pub stroke_text : Stroke → List ℕ
stroke_text s =
    codes "<path class=\"" ++ ink_class s.ink ++ codes "\" d=\"M" ++ point_text s.from ++ codes " L" ++
    point_text s.to ++ codes "\"/>"

-- how many bytes of a call or an answer are shown
abbrev pub most_shown : ℕ
most_shown = 64

-- the class of a call that stands alone
abbrev pub call_class : Tone → List ℕ
call_class tones.Plain = codes "call"
call_class tones.Prints = codes "printed"
call_class tones.Fails = codes "failure"

-- the class of an answer
abbrev pub answer_class : Tone → List ℕ
answer_class tones.Plain = codes "answer"
answer_class tones.Prints = codes "printed"
answer_class tones.Fails = codes "failure"

-- what stands behind an arrow
abbrev pub answer_span : (answer : List ℕ) (tone : Tone) → List ℕ
answer_span answer tone =
    codes "<tspan class=\"" ++ answer_class tone ++ codes "\">&#8594; " ++ shortened answer most_shown ++
    codes "</tspan>"

abbrev pub label_text : Label → List ℕ
label_text (labels.Rank rank) = codes "rank " ++ decimal rank
label_text (labels.Call bytes tone) = shortened bytes.now most_shown
label_text (labels.Answered call answer tone) =
    shortened call.now most_shown ++ codes " " ++ answer_span answer.now tone
label_text (labels.Answer bytes tone) = answer_span bytes.now tone
label_text (labels.Arrow arrow) = arrow_label_text arrow.number arrow.load arrow.words.now arrow.is_resent
label_text (labels.Refusal bytes) = shortened bytes.now most_shown

abbrev pub label_class : Label → List ℕ
label_class (labels.Rank rank) = codes "rank"
label_class (labels.Call bytes tone) = call_class tone
label_class (labels.Answered call answer tone) = codes "call"
label_class (labels.Answer bytes tone) = codes "call"
label_class (labels.Arrow arrow) = codes "datagram"
label_class (labels.Refusal bytes) = codes "refusal"

abbrev pub anchor : Side → List ℕ
anchor sides.Right = codes "start"
anchor sides.Left = codes "end"
anchor sides.Middle = codes "middle"

-- `x="X" y="Y"`
unfoldable pub coordinates_text : Point → List ℕ
coordinates_text at = codes "x=\"" ++ decimal at.x ++ codes "\" y=\"" ++ decimal at.y ++ codes "\""

-- `text-anchor="SIDE"`
abbrev pub anchor_text : Side → List ℕ
anchor_text side = codes "text-anchor=\"" ++ anchor side ++ codes "\""

-- where a text stands
abbrev pub stand_text : (at : Point) (side : Side) → List ℕ
stand_text at side = coordinates_text at ++ codes " " ++ anchor_text side

abbrev pub text_text : Text → List ℕ
text_text t =
    codes "<text class=\"" ++ label_class t.label ++ codes "\" " ++ stand_text t.at t.side ++ codes ">" ++
    label_text t.label ++ codes "</text>"

abbrev pub element_text : Element → List ℕ
element_text (elements.Stroke stroke) = stroke_text stroke
element_text (elements.Text text) = text_text text

-- a line for each element
abbrev pub lines_text : List Element → List ℕ
lines_text es = flat_map (λ e. element_text e ++ codes "\n") es

-- the first line of a drawing: its width and its height
abbrev pub opening_text : Point → List ℕ
opening_text corner =
    codes "<svg xmlns=\"http://www.w3.org/2000/svg\" width=\"" ++ decimal corner.x ++ codes "\" height=\"" ++
    decimal corner.y ++ codes "\">"
