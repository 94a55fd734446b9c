-- The lines before `world N`, as a loop reads them.
use Rattle.std.proofs.Common.{◌≡◌, ℕ, zero, suc, ◌+◌, ◌<◌, ◌≤◌, List, [], ◌∷◌, ◌++◌, length, get_or, drop, Option, Some}
use Rattle.std.proofs.Common.{None, Err, refl, sym, ap, subst, ◌∙◌, arith}
use Rattle.std.specs.Borrow.{Bor}
use Rattle.tokens.specs.declared.fault.LineError.{LineError}
use Rattle.tokens.specs.declared.fault.LineError.TheVariants as errors
use Rattle.tokens.specs.Results.{Fails}
use Rattle.tokens.specs.Lines.{line_of, with_front, lines_from}
use Rattle.tokens.proofs.LineSteps.{no_lines, line_made, line_faulty, line_skipped, line_read as takes_line}
use Rattle.std.proofs.lemmas.List.{at_drop_more}
use Rattle.tokens.proofs.Lists.{shown, shown_all}
use Rattle.event_files.specs.declared.file.EventLine.{EventLine}
use Rattle.event_files.specs.declared.file.EventStatement.{EventStatement}
use Rattle.event_files.proofs.FileLaws.{read_line}
use Rattle.event_files.specs.LineWords.{statement_of, size_of, line_read}
use Rattle.event_files.specs.Starts.{with_size, file_from}

-- what is left of a list that is shown
pub drop_shown : {A : Type 0} (n : ℕ) (items : List (Bor A)) → drop n (shown items) ≡ shown (drop n items)
drop_shown zero items = refl
drop_shown (suc n) [] = refl
drop_shown (suc n) (x ∷ xs) = drop_shown n xs

one_more : (number : ℕ) (line : List ℕ) (rest : List (List ℕ)) → line_of size_of line ≡ Some None →
    file_from number (line ∷ rest) ≡ file_from (number + 1) rest
unfolding file_from
one_more number line rest e = rw e refl

-- a line that is skipped
pub goes_on : (items : List (Bor (List ℕ))) (i : ℕ) (d : Bor (List ℕ)) (item : Option ℕ) → i < length items →
    item ≡ None → line_of size_of (get_or items i d).now ≡ Some item
    → file_from (i + 1) (shown (drop i items)) ≡ file_from 1 (shown items) →
    file_from (i + 1 + 1) (shown (drop (i + 1) items)) ≡ file_from 1 (shown items)
goes_on items i d item lt none e so_far =
    let skipped : line_of size_of (get_or items i d).now ≡ Some None = e ∙ ap (λ (o : Option ℕ). Some o) none in
    sym (one_more (i + 1) (get_or items i d).now (shown (drop (i + 1) items)) skipped) ∙
    ap (file_from (i + 1)) (sym (at_drop_more shown items i d lt)) ∙ so_far

faulty : (number : ℕ) (line : List ℕ) (rest : List (List ℕ)) → line_of size_of line ≡ None →
    file_from number (line ∷ rest) ≡ Err number
unfolding file_from
faulty number line rest e = rw e refl

-- a line that is neither skipped nor `world N`
pub is_faulty : (items : List (Bor (List ℕ))) (i : ℕ) (d : Bor (List ℕ)) (e : LineError) → i < length items →
    e ≡ errors.Faulty → Fails e (line_of size_of (get_or items i d).now)
    → file_from (i + 1) (shown (drop i items)) ≡ file_from 1 (shown items) → file_from 1 (shown items) ≡ Err (i + 1)
is_faulty items i d error lt which fails so_far =
    let e : line_of size_of (get_or items i d).now ≡ None = subst (λ (f : LineError). Fails f (line_of size_of (get_or items i d).now)) which fails in
    sym so_far ∙ ap (file_from (i + 1)) (at_drop_more shown items i d lt) ∙
    faulty (i + 1) (get_or items i d).now (shown (drop (i + 1) items)) e

starts : (number : ℕ) (line : List ℕ) (rest : List (List ℕ)) (size : ℕ) → line_of size_of line ≡ Some (Some size) →
    file_from number (line ∷ rest) ≡ with_size size (lines_from line_read (number + 1) rest)
unfolding file_from
starts number line rest size e = rw e refl

-- the line `world N`
pub is_start : (items : List (Bor (List ℕ))) (i : ℕ) (d : Bor (List ℕ)) (item : Option ℕ) (size : ℕ) →
    i < length items → item ≡ Some size → line_of size_of (get_or items i d).now ≡ Some item
    → file_from (i + 1) (shown (drop i items)) ≡ file_from 1 (shown items) →
    file_from 1 (shown items) ≡ with_size size (lines_from line_read (i + 1 + 1) (drop (i + 1) (shown items)))
is_start items i d item size lt which e so_far =
    let found : line_of size_of (get_or items i d).now ≡ Some (Some size) = e ∙ ap (λ (o : Option ℕ). Some o) which in
    sym so_far ∙ ap (file_from (i + 1)) (at_drop_more shown items i d lt) ∙
    starts (i + 1) (get_or items i d).now (shown (drop (i + 1) items)) size found
    ∙ ap (λ (ls : List (List ℕ)). with_size size (lines_from line_read (i + 1 + 1) ls)) (sym (drop_shown (i + 1) items))

nothing_left : (number : ℕ) → file_from number [] ≡ Err number
unfolding file_from
nothing_left number = refl

-- no line is `world N`
pub has_no_start : (items : List (Bor (List ℕ))) (i : ℕ) → length items ≤ i → i ≤ length items →
    file_from (i + 1) (shown (drop i items)) ≡ file_from 1 (shown items) →
    file_from 1 (shown items) ≡ Err (length items + 1)
has_no_start items i le most so_far =
    let end : i ≡ length items = omega (arith, le, most) in
    sym so_far ∙ ap (file_from (i + 1)) (shown_all items i le) ∙ nothing_left (i + 1) ∙ ap (λ (n : ℕ). Err (n + 1)) end

-- ---- the lines behind it

pub begins : (from : ℕ) (items : List (Bor (List ℕ))) (read : List EventLine) → read ≡ [] →
    with_front read (lines_from line_read (from + 1) (shown (drop from items))) ≡
    lines_from line_read (from + 1) (drop from (shown items))
begins from items read none =
    ap (λ (ls : List EventLine). with_front ls (lines_from line_read (from + 1) (shown (drop from items)))) none
    ∙ no_lines (lines_from line_read (from + 1) (shown (drop from items))) ∙
    ap (lines_from line_read (from + 1)) (sym (drop_shown from items))

pub is_faulty_line : (front : List EventLine) (number : ℕ) (line : List ℕ) (rest : List (List ℕ)) (e : LineError) →
    e ≡ errors.Faulty → Fails e (line_of statement_of line) →
    with_front front (lines_from line_read number (line ∷ rest)) ≡ Err number
is_faulty_line front number line rest error which fails =
    let e : line_of statement_of line ≡ None = subst (λ (f : LineError). Fails f (line_of statement_of line)) which fails in
    line_faulty line_read front number line rest errors.Faulty refl
    (line_made statement_of (read_line number) line None e)

pub is_skipped_line : (front : List EventLine) (number : ℕ) (line : List ℕ) (rest : List (List ℕ))
    (item : Option EventStatement) → item ≡ None → line_of statement_of line ≡ Some item
    → with_front front (lines_from line_read (number + 1) rest) ≡
    with_front front (lines_from line_read number (line ∷ rest))
is_skipped_line front number line rest item none e =
    let skipped : line_of statement_of line ≡ Some None = e ∙ ap (λ (o : Option EventStatement). Some o) none in
    line_skipped line_read front number line rest None refl
    (line_made statement_of (read_line number) line (Some None) skipped)

pub is_read_line : (front : List EventLine) (number : ℕ) (line : List ℕ) (rest : List (List ℕ))
    (item : Option EventStatement) (statement : EventStatement) → item ≡ Some statement →
    line_of statement_of line ≡ Some item
    → with_front (front ++ read_line number statement ∷ []) (lines_from line_read (number + 1) rest) ≡
    with_front front (lines_from line_read number (line ∷ rest))
is_read_line front number line rest item statement which e =
    let found : line_of statement_of line ≡ Some (Some statement) = e ∙ ap (λ (o : Option EventStatement). Some o) which in
    takes_line line_read front number line (read_line number statement) rest
    (line_made statement_of (read_line number) line (Some (Some statement)) found)
