-- The lines of a script, as loops go over them.
use Rattle.std.proofs.Common.{map, ◌≡◌, ℕ, ◌+◌, Bool, true, List, [], ◌∷◌, ◌++◌, Option, Some, None, Err, refl, sym, ap}
use Rattle.std.proofs.Common.{subst, ◌∙◌, append_assoc}
use Rattle.std.proofs.lemmas.List.{append-nil}
use Rattle.tokens.specs.declared.fault.LineError.{LineError}
use Rattle.tokens.specs.declared.fault.LineError.TheVariants as errors
use Rattle.tokens.specs.Results.{Fails}
use Rattle.tokens.specs.Lines.{line_of, with_front, lines_from}
use Rattle.tokens.proofs.LineSteps.{line_made, line_faulty, line_skipped, line_read as takes_line}
use Rattle.script_files.specs.declared.script.Item.{Item}
use Rattle.script_files.specs.declared.script.Item.TheVariants as items
use Rattle.script_files.specs.declared.script.ScriptLine.{ScriptLine}
use Rattle.script_files.specs.declared.script.RankLine.{RankLine}
use Rattle.script_files.specs.LineWords.{item_of, line_read}
use Rattle.script_files.specs.declared.script.ScriptStatement.{ScriptStatement}
use Rattle.script_files.specs.declared.audience.Audience.{Audience}
use Rattle.script_files.specs.Audiences.{includes}
use Rattle.script_files.specs.Selections.{kept, said_for}
use Rattle.script_files.proofs.ScriptLaws.{read_line}

pub is_faulty_line : (front : List ScriptLine) (number : ℕ) (line : List ℕ) (rest : List (List ℕ)) (e : LineError) →
    e ≡ errors.Faulty → Fails e (line_of item_of line) → with_front front (lines_from line_read number (line ∷ rest)) ≡
    Err number
is_faulty_line front number line rest error which fails =
    let e : line_of item_of line ≡ None = subst (λ (f : LineError). Fails f (line_of item_of line)) which fails in
    line_faulty line_read front number line rest errors.Faulty refl (line_made item_of (read_line number) line None e)

pub is_skipped_line : (front : List ScriptLine) (number : ℕ) (line : List ℕ) (rest : List (List ℕ))
    (item : Option Item) → item ≡ None → line_of item_of line ≡ Some item
    → with_front front (lines_from line_read (number + 1) rest) ≡
    with_front front (lines_from line_read number (line ∷ rest))
is_skipped_line front number line rest item none e =
    let skipped : line_of item_of line ≡ Some None = e ∙ ap (λ (o : Option Item). Some o) none in
    line_skipped line_read front number line rest None refl
    (line_made item_of (read_line number) line (Some None) skipped)

pub is_read_line : (front : List ScriptLine) (number : ℕ) (line : List ℕ) (rest : List (List ℕ)) (found : Option Item)
    (item : Item) → found ≡ Some item → line_of item_of line ≡ Some found
    → with_front (front ++ read_line number item ∷ []) (lines_from line_read (number + 1) rest) ≡
    with_front front (lines_from line_read number (line ∷ rest))
is_read_line front number line rest found item which e =
    let said : line_of item_of line ≡ Some (Some item) = e ∙ ap (λ (o : Option Item). Some o) which in
    takes_line line_read front number line (read_line number item) rest
    (line_made item_of (read_line number) line (Some (Some item)) said)

-- ---- the lines for one rank

-- `on` is no line for a rank, and says whom those behind it are for
pub on_line : (rank incarnation : ℕ) (here meant : Bool) (front : List RankLine) (line : ScriptLine)
    (audience : Audience) (rest : List ScriptLine) → line.item ≡ items.On audience →
    meant ≡ includes rank incarnation audience
    → front ++ said_for rank incarnation meant rest ≡ front ++ said_for rank incarnation here (line ∷ rest)
unfolding said_for
on_line rank incarnation here meant front line audience rest is same = rw (is, same) refl

-- another line is for the rank where lines are
pub does_line : (rank incarnation : ℕ) (here : Bool) (front new : List RankLine) (line : ScriptLine)
    (statement : ScriptStatement) (rest : List ScriptLine) → line.item ≡ items.Does statement
    → new ≡ front ++ kept here (record { number = line.number; statement = statement }) →
    new ++ said_for rank incarnation here rest ≡ front ++ said_for rank incarnation here (line ∷ rest)
unfolding said_for
does_line rank incarnation here front new line statement rest is grown = rw (is, grown) (simp append_assoc)

-- what was taken and what the rest asks for is what all lines ask for
abbrev pub AreTaken : (rank incarnation : ℕ) → List ScriptLine → Bool → List RankLine → Type 0
AreTaken rank incarnation taken here found = (rest : List ScriptLine) → found ++ said_for rank incarnation here rest ≡
    said_for rank incarnation true (taken ++ rest)

pub none_taken : (rank incarnation : ℕ) (found : List RankLine) → found ≡ [] → AreTaken rank incarnation [] true found
none_taken rank incarnation found none =
    λ rest. ap (λ (ls : List RankLine). ls ++ said_for rank incarnation true rest) none

pub one_taken : (rank incarnation : ℕ) (taken : List ScriptLine) (line : ScriptLine) (here next : Bool)
    (found new : List RankLine) → AreTaken rank incarnation taken here found
    → ((rest : List ScriptLine) → new ++ said_for rank incarnation next rest ≡ found ++
    said_for rank incarnation here (line ∷ rest)) → AreTaken rank incarnation (taken ++ line ∷ []) next new
one_taken rank incarnation taken line here next found new so_far step =
    λ rest. let whole : taken ++ line ∷ rest ≡ (taken ++ line ∷ []) ++ rest = simp append_assoc in step rest ∙
    so_far (line ∷ rest) ∙ ap (said_for rank incarnation true) whole

pub all_taken : (rank incarnation : ℕ) (taken lines : List ScriptLine) (here : Bool) (found : List RankLine) →
    AreTaken rank incarnation taken here found → taken ≡ lines → found ≡ said_for rank incarnation true lines
unfolding said_for
all_taken rank incarnation taken lines here found so_far all =
    sym (append-nil found) ∙ so_far [] ∙ ap (said_for rank incarnation true) (append-nil taken ∙ all)

-- items that are shown as they are
pub shown_as_is : {A : Type 0} (items : List A) → map (λ item. item) items ≡ items
shown_as_is [] = refl
shown_as_is {A} (x ∷ xs) = ap (λ (ys : List A). x ∷ ys) (shown_as_is xs)
