-- The joined text is that of the lines of the outputs.
use Rattle.std.proofs.Common.{◌≡◌, ◌≢◌, ℕ, ◌+◌, ◌<◌, Bool, true, false, eqb, List, [], ◌∷◌, ◌++◌, length, refl, sym, ap}
use Rattle.std.proofs.Common.{subst, ◌∙◌, append_assoc, inl, inr, arith, length-append}
use Rattle.std.specs.List.{flat_map}
use Rattle.std.proofs.lemmas.Bool.{eqb-true, eq-eqb, false≢true}
use Rattle.std.proofs.lemmas.List.{append-nil}
use Rattle.std.proofs.lemmas.List.Concat.{flat_map-cons}
use Rattle.launch_keeper.specs.JoinedOutput.{mark_of, ended, IsLine, AreLines, IsJoined, marked, join_outputs}

-- a line as it is printed
abbrev text_of : List ℕ → List ℕ → List ℕ
text_of mark line = mark ++ ended line

-- the text is that of the output's lines
record IsMarked (mark text output : List ℕ) : Type 0 where
  lines : List (List ℕ)
  are : AreLines output lines
  text_is : text ≡ flat_map (text_of mark) lines

-- what is written of these bytes, where a line begins at them and where they stand within one
record Marks (mark bytes : List ℕ) : Type 0 where
  fresh : IsMarked mark (marked mark true bytes) bytes
  within : (front : List ℕ) → IsLine front → 0 < length front →
      IsMarked mark (mark ++ (front ++ marked mark false bytes)) (front ++ bytes)

not_ended : (byte : ℕ) → eqb byte 10 ≡ false → byte ≢ 10
not_ended byte e is = false≢true (sym e ∙ eq-eqb byte 10 is)

line_push : (front : List ℕ) (byte : ℕ) → IsLine front → byte ≢ 10 → IsLine (front ++ byte ∷ [])
line_push [] byte is plain = (plain, tt)
line_push (b ∷ front) byte is plain = (is.0, line_push front byte is.1 plain)

is_some : (front : List ℕ) → 0 < length front → front ≢ []
is_some [] some e = absurd (omega (arith, some))
is_some (b ∷ front) some e = absurd cc

marks_none : (mark : List ℕ) → Marks mark []
marks_none mark = record {
  fresh = record { lines = []; are = refl; text_is = refl };
  within = λ front is some. record {
    lines = front ∷ [];
    are = (is, inr (append-nil front, is_some front some, refl));
    text_is = sym (flat_map-cons (text_of mark) front [] ∙ append-nil (text_of mark front));
  };
}

-- an end of line behind the line so far
ends_here : (mark front bytes : List ℕ) (byte : ℕ) → byte ≡ 10 → IsLine front →
    IsMarked mark (marked mark true bytes) bytes →
    IsMarked mark (mark ++ (front ++ byte ∷ marked mark true bytes)) (front ++ byte ∷ bytes)
ends_here mark front bytes byte b_is is rest =
    let f = text_of mark in
    let more = flat_map f rest.lines in record {
      lines = front ∷ rest.lines;
      are = (is, inl (bytes, ap (λ (x : ℕ). front ++ x ∷ bytes) b_is, rest.are));
      text_is = ap (λ (x : ℕ). mark ++ (front ++ x ∷ marked mark true bytes)) b_is ∙
          ap (λ (r : List ℕ). mark ++ (front ++ 10 ∷ r)) rest.text_is ∙
          ap (λ (r : List ℕ). mark ++ r) (sym (append_assoc front (10 ∷ []) more))
          ∙ sym (append_assoc mark (ended front) more) ∙ sym (flat_map-cons f front rest.lines);
    }

marks_more : (mark : List ℕ) (byte : ℕ) (bytes : List ℕ) → Marks mark bytes → (t : Bool) → eqb byte 10 ≡ t →
    IsMarked mark (mark ++ byte ∷ marked mark t bytes) (byte ∷ bytes)
marks_more mark byte bytes rest true e = ends_here mark [] bytes byte (eqb-true byte 10 e) tt rest.fresh
marks_more mark byte bytes rest false e = rest.within (byte ∷ []) (not_ended byte e, tt) (omega arith)

within_more : (mark : List ℕ) (byte : ℕ) (bytes : List ℕ) → Marks mark bytes → (t : Bool) → eqb byte 10 ≡ t →
    (front : List ℕ) → IsLine front → 0 < length front
    → IsMarked mark (mark ++ (front ++ byte ∷ marked mark t bytes)) (front ++ byte ∷ bytes)
within_more mark byte bytes rest true e front is some =
    ends_here mark front bytes byte (eqb-true byte 10 e) is rest.fresh
within_more mark byte bytes rest false e front is some =
    let there = rest.within (front ++ byte ∷ []) (line_push front byte is (not_ended byte e)) (omega (arith, length-append front (byte ∷ []))) in
    subst (λ (o : List ℕ). IsMarked mark (mark ++ (front ++ byte ∷ marked mark false bytes)) o)
    (append_assoc front (byte ∷ []) bytes)
    (subst (λ (t : List ℕ). IsMarked mark (mark ++ t) ((front ++ byte ∷ []) ++ bytes))
    (append_assoc front (byte ∷ []) (marked mark false bytes)) there)

marks : (mark bytes : List ℕ) → Marks mark bytes
marks mark [] = marks_none mark
marks mark (byte ∷ bytes) =
    let rest = marks mark bytes in
    record {
      fresh = marks_more mark byte bytes rest (eqb byte 10) refl;
      within =
          within_more mark byte bytes rest (eqb byte 10) refl;
    }

pub is_joined : (rank : ℕ) (outputs : List (List ℕ)) → IsJoined rank outputs (join_outputs rank outputs)
is_joined rank [] = refl
is_joined rank (output ∷ outputs) =
    let first = (marks (mark_of rank) output).fresh in
    let rest = join_outputs (rank + 1) outputs in
    (first.lines, rest, first.are, ap (λ (t : List ℕ). t ++ rest) first.text_is, is_joined (rank + 1) outputs)
