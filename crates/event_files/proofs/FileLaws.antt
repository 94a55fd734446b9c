-- Files of events: reading and the grammar agree.
use Rattle.std.proofs.Common.{◌≡◌, ℕ, ◌+◌, List, [], ◌∷◌, Option, Some, None, Result, Ok, Err, refl, sym, ap, subst}
use Rattle.std.proofs.Common.{◌∙◌, inl, inr}
use Rattle.tokens.specs.declared.fault.ParseError.{ParseError}
use Rattle.tokens.specs.declared.fault.ParseError.TheVariants as errors
use Rattle.tokens.specs.Grammar.{Word}
use Rattle.tokens.specs.Lines.{lines_of, line_of, numbered, lines_from}
use Rattle.tokens.specs.Results.{GivesLines}
use Rattle.tokens.specs.Texts.{LineSays}
use Rattle.tokens.proofs.WordLaws.{bind_ok, made}
use Rattle.tokens.proofs.LineLaws.{Agree, line_skipped, line_said, line_again, line_faulty, lines_take, lines_again}
use Rattle.tokens.proofs.LineLaws.{lines_fault}
use Rattle.event_files.specs.declared.file.EventStatement.{EventStatement}
use Rattle.event_files.specs.declared.file.EventLine.{EventLine}
use Rattle.event_files.specs.declared.file.EventFile.{EventFile}
use Rattle.event_files.specs.LineWords.{statement_of, size_of, line_read}
use Rattle.event_files.specs.Files.{Says, SaysSize, FileSays, IsFirstFaultOfFile, Answers, IsAnsweredBy}
use Rattle.event_files.specs.Starts.{with_size, started, file_from}
use Rattle.event_files.proofs.EventLaws.{statement_takes, statement_again, size_takes, size_again}

abbrev pub read_line : ℕ → EventStatement → EventLine
read_line number statement = record { number = number; statement = statement }

line_takes : (number : ℕ) (words : List Word) (line : EventLine) → line_read number words ≡ Some line →
    Says number words line
line_takes number words line e =
    let p = bind_ok (statement_of words) (λ asked. Some (read_line number asked)) line e in
    made (Says number words) (read_line number p.0) line (statement_takes words p.0 p.1, refl) p.2

line_is : (number : ℕ) (words : List Word) (line : EventLine) → Says number words line →
    line_read number words ≡ Some line
line_is number words line h =
    let t : statement_of words ≡ Some line.statement = statement_again words line.statement h.0 in
    rw t (ap (λ (n : ℕ). Some (read_line n line.statement)) (sym h.1))

agree : Agree Says line_read
agree = record { takes = line_takes; again = line_is }

-- ---- the start

with_size_ok : (size : ℕ) (behind : Result (List EventLine) ℕ) (file : EventFile) → with_size size behind ≡ Ok file →
    (size ≡ file.size) × (behind ≡ Ok file.lines)
with_size_ok size (Ok lines) file e = (cc, cc)
with_size_ok size (Err n) file e = absurd cc

with_size_err : (size : ℕ) (behind : Result (List EventLine) ℕ) (k : ℕ) → with_size size behind ≡ Err k → behind ≡ Err k
with_size_err size (Ok lines) k e = absurd cc
with_size_err size (Err n) k e = cc

take_at : (number : ℕ) (line : List ℕ) (lines : List (List ℕ)) (file : EventFile) (later : Result EventFile ℕ)
    (o : Option (Option ℕ)) → line_of size_of line ≡ o
    → (later ≡ Ok file → FileSays (number + 1) lines file) →
    started number o later (lines_from line_read (number + 1) lines) ≡ Ok file → FileSays number (line ∷ lines) file
take_at number line lines file later None is after e = absurd cc
take_at number line lines file later (Some None) is after e =
    inl (line_skipped SaysSize size_of number line is, after e)
take_at number line lines file later (Some (Some size)) is after e =
    let p = with_size_ok size (lines_from line_read (number + 1) lines) file e in
    inr (
      subst (λ (n : ℕ). LineSays SaysSize number line (n ∷ [])) p.0
          (line_said SaysSize size_of number line size (λ words h. size_takes words size h) is),
      lines_take Says line_read agree (number + 1) lines file.lines p.1,
    )

file_take : (number : ℕ) (lines : List (List ℕ)) (file : EventFile) → file_from number lines ≡ Ok file →
    FileSays number lines file
unfolding file_from
file_take number [] file e = absurd cc
file_take number (line ∷ lines) file e =
    take_at number line lines file (file_from (number + 1) lines) (line_of size_of line) refl
    (λ h. file_take (number + 1) lines file h) e

numbered_nothing : (number : ℕ) (o : Option (Option ℕ)) → numbered number o ≡ Ok [] → o ≡ Some None
numbered_nothing number None e = absurd cc
numbered_nothing number (Some None) e = refl
numbered_nothing number (Some (Some x)) e = absurd cc

numbered_item : (number : ℕ) (o : Option (Option ℕ)) (x : ℕ) → numbered number o ≡ Ok (x ∷ []) → o ≡ Some (Some x)
numbered_item number None x e = absurd cc
numbered_item number (Some None) x e = absurd cc
numbered_item number (Some (Some y)) x e = let same : y ≡ x = cc in ap (λ (n : ℕ). Some (Some n)) same

skipped_line : (number : ℕ) (line : List ℕ) → LineSays SaysSize number line [] → line_of size_of line ≡ Some None
skipped_line number line h =
    numbered_nothing number (line_of size_of line)
    (line_again SaysSize size_of number line [] (λ words size k. size_again words size k) h)

size_line : (number : ℕ) (line : List ℕ) (size : ℕ) → LineSays SaysSize number line (size ∷ []) →
    line_of size_of line ≡ Some (Some size)
size_line number line size h =
    numbered_item number (line_of size_of line) size
    (line_again SaysSize size_of number line (size ∷ []) (λ words n k. size_again words n k) h)

file_again : (number : ℕ) (lines : List (List ℕ)) (file : EventFile) → FileSays number lines file →
    file_from number lines ≡ Ok file
unfolding file_from
file_again number [] file h = absurd h
file_again number (line ∷ lines) file (inl h) =
    let t : line_of size_of line ≡ Some None = skipped_line number line h.0 in rw t
    (file_again (number + 1) lines file h.1)
file_again number (line ∷ lines) file (inr h) =
    let t : line_of size_of line ≡ Some (Some file.size) = size_line number line file.size h.0 in
    let r : lines_from line_read (number + 1) lines ≡ Ok file.lines = lines_again Says line_read agree (number + 1) lines file.lines h.1 in
    rw (t, r) refl

fault_at : (number k : ℕ) (line : List ℕ) (lines : List (List ℕ)) (later : Result EventFile ℕ) (o : Option (Option ℕ)) →
    line_of size_of line ≡ o
    → (later ≡ Err k → IsFirstFaultOfFile (number + 1) lines k) →
    started number o later (lines_from line_read (number + 1) lines) ≡ Err k →
    IsFirstFaultOfFile number (line ∷ lines) k
fault_at number k line lines later None is after e =
    inl (cc, line_faulty SaysSize size_of number line (λ words size h. size_again words size h) is)
fault_at number k line lines later (Some None) is after e =
    inr (inl (line_skipped SaysSize size_of number line is, after e))
fault_at number k line lines later (Some (Some size)) is after e =
    inr (inr (
      size,
      line_said SaysSize size_of number line size (λ words h. size_takes words size h) is,
      lines_fault Says line_read agree (number + 1) lines k
          (with_size_err size (lines_from line_read (number + 1) lines) k e),
    ))

file_fault : (number : ℕ) (lines : List (List ℕ)) (k : ℕ) → file_from number lines ≡ Err k →
    IsFirstFaultOfFile number lines k
unfolding file_from
file_fault number [] k e = cc
file_fault number (line ∷ lines) k e =
    fault_at number k line lines (file_from (number + 1) lines) (line_of size_of line) refl
    (λ h. file_fault (number + 1) lines k h) e

-- ---- a text

pub is_found : (text : List ℕ) (result : Result EventFile ParseError) →
    GivesLines (λ x. x) result (file_from 1 (lines_of text)) → Answers text result
is_found text (Ok file) h = file_take 1 (lines_of text) file h
is_found text (Err (errors.Line k)) h = file_fault 1 (lines_of text) k h
is_found text (Err errors.OutOfMemory) h = tt

pub is_only : (text : List ℕ) (result : Result EventFile ParseError) →
    GivesLines (λ x. x) result (file_from 1 (lines_of text)) → (said : EventFile) → FileSays 1 (lines_of text) said →
    IsAnsweredBy said result
is_only text (Ok file) h said says = let e : Ok said ≡ Ok file = sym (file_again 1 (lines_of text) said says) ∙ h in cc
is_only text (Err (errors.Line k)) h said says = let e = sym (file_again 1 (lines_of text) said says) ∙ h in absurd cc
is_only text (Err errors.OutOfMemory) h said says = tt
