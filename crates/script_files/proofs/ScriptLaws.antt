-- Scripts: reading and the grammar agree.
use Rattle.std.proofs.Common.{◌≡◌, ℕ, List, Some, Result, Ok, Err, refl, sym, ap, ◌∙◌}
use Rattle.tokens.specs.declared.fault.ParseError.{ParseError}
use Rattle.tokens.specs.declared.fault.ParseError.TheVariants as errors
use Rattle.tokens.specs.Grammar.{Word}
use Rattle.tokens.specs.Lines.{lines_of, lines_from}
use Rattle.tokens.specs.Results.{GivesLines}
use Rattle.tokens.specs.Texts.{LinesSay}
use Rattle.tokens.proofs.WordLaws.{bind_ok, made}
use Rattle.tokens.proofs.LineLaws.{Agree, lines_take, lines_again, lines_fault}
use Rattle.script_files.specs.declared.script.Item.{Item}
use Rattle.script_files.specs.declared.script.ScriptLine.{ScriptLine}
use Rattle.script_files.specs.declared.script.Script.{Script}
use Rattle.script_files.specs.LineWords.{item_of, line_read}
use Rattle.script_files.specs.Scripts.{Says, Answers, IsAnsweredBy}
use Rattle.script_files.proofs.ItemLaws.{item_takes, item_again}

abbrev pub read_line : ℕ → Item → ScriptLine
read_line number item = record { number = number; item = item }

line_takes : (number : ℕ) (words : List Word) (line : ScriptLine) → line_read number words ≡ Some line →
    Says number words line
line_takes number words line e =
    let p = bind_ok (item_of words) (λ said. Some (read_line number said)) line e in
    made (Says number words) (read_line number p.0) line (item_takes words p.0 p.1, refl) p.2

line_is : (number : ℕ) (words : List Word) (line : ScriptLine) → Says number words line →
    line_read number words ≡ Some line
line_is number words line h =
    let t : item_of words ≡ Some line.item = item_again words line.item h.0 in
    rw t (ap (λ (n : ℕ). Some (read_line n line.item)) (sym h.1))

agree : Agree Says line_read
agree = record { takes = line_takes; again = line_is }

pub is_found : (text : List ℕ) (result : Result Script ParseError) →
    GivesLines (λ x. x) result (lines_from line_read 1 (lines_of text)) → Answers text result
is_found text (Ok script) h = lines_take Says line_read agree 1 (lines_of text) script h
is_found text (Err (errors.Line k)) h = lines_fault Says line_read agree 1 (lines_of text) k h
is_found text (Err errors.OutOfMemory) h = tt

pub is_only : (text : List ℕ) (result : Result Script ParseError) →
    GivesLines (λ x. x) result (lines_from line_read 1 (lines_of text)) → (said : List ScriptLine) →
    LinesSay Says 1 (lines_of text) said → IsAnsweredBy said result
is_only text (Ok script) h said says =
    let e : Ok said ≡ Ok script = sym (lines_again Says line_read agree 1 (lines_of text) said says) ∙ h in cc
is_only text (Err (errors.Line k)) h said says =
    let e = sym (lines_again Says line_read agree 1 (lines_of text) said says) ∙ h in absurd cc
is_only text (Err errors.OutOfMemory) h said says = tt
