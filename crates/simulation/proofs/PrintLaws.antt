-- Lines that are printed one after the other.
use Rattle.std.proofs.Common.{◌≡◌, ℕ, zero, suc, ◌+◌, ◌-◌, ◌≤◌, List, [], ◌∷◌, ◌++◌, Option, Some, None, Result, Ok, Err, refl, sym, ap}
use Rattle.std.proofs.Common.{subst, ◌∙◌, arith}
use Rattle.std.specs.Prelude.{IfErr, slice_get}
use Rattle.std.specs.List.{flat_map, range_with_len}
use Rattle.std.proofs.lemmas.Grind.{flat_map-append}
use Rattle.std.proofs.lemmas.List.{append-nil, append_assoc}
use Rattle.simulation.specs.Output.{CutsOff, Prints, PrintsBeginning, text_of}
use Rattle.simulation.specs.declared.error.SimulateError.{SimulateError}
use Rattle.simulation.specs.declared.error.SimulateError.TheVariants as errors
use Rattle.simulation.specs.StepLines.{lines_at, lines_between}

pub prints_none : (old : Option (List ℕ)) → Prints old old []
prints_none None = tt
prints_none (Some xs) = sym (append-nil xs)

pub prints_more : (old mid new : Option (List ℕ)) (xs ys : List (List ℕ)) → Prints old mid xs → Prints mid new ys →
    Prints old new (xs ++ ys)
prints_more None mid new xs ys a b = tt
prints_more (Some o) None new xs ys a b = absurd a
prints_more (Some o) (Some m) None xs ys a b = absurd b
prints_more (Some o) (Some m) (Some n) xs ys a b =
    b ∙ ap (λ (zs : List ℕ). zs ++ text_of ys) a ∙ append_assoc o (text_of xs) (text_of ys)
    ∙ ap (λ (zs : List ℕ). o ++ zs) (sym (flat_map-append (λ (line : List ℕ). line ++ 10 ∷ []) xs ys))

pub begins_none : (old : Option (List ℕ)) (lines : List (List ℕ)) → PrintsBeginning old old lines
begins_none old lines = ([], lines, refl, prints_none old)

pub begins_whole : (old new : Option (List ℕ)) (lines : List (List ℕ)) → Prints old new lines →
    PrintsBeginning old new lines
begins_whole old new lines prints = (lines, [], sym (append-nil lines), prints)

-- some lines, and a beginning of others
pub begins_more : (old mid new : Option (List ℕ)) (xs ys : List (List ℕ)) → Prints old mid xs →
    PrintsBeginning mid new ys → PrintsBeginning old new (xs ++ ys)
begins_more old mid new xs ys a b = (
  xs ++ b.0,
  b.1,
  ap (λ (zs : List (List ℕ)). xs ++ zs) b.2 ∙ sym (append_assoc xs b.0 b.1),
  prints_more old mid new xs b.0 a b.3,
)

-- a beginning of the first lines is one of all
pub begins_front : (old new : Option (List ℕ)) (xs ys : List (List ℕ)) → PrintsBeginning old new xs →
    PrintsBeginning old new (xs ++ ys)
begins_front old new xs ys b =
    (b.0, b.1 ++ ys, ap (λ (zs : List (List ℕ)). zs ++ ys) b.2 ∙ append_assoc b.0 b.1 ys, b.3)

-- memory is wanting behind all of these lines
pub cuts_behind : (e : SimulateError) (old new : Option (List ℕ)) (lines : List (List ℕ)) → e ≡ errors.OutOfMemory →
    Prints old new lines → CutsOff e old new lines
cuts_behind e old new lines is prints =
    subst (λ (x : SimulateError). CutsOff x old new lines) (sym is) (begins_whole old new lines prints)

-- memory is wanting before them
pub cuts_before : (e : SimulateError) (old : Option (List ℕ)) (lines : List (List ℕ)) → e ≡ errors.OutOfMemory →
    CutsOff e old old lines
cuts_before e old lines is = subst (λ (x : SimulateError). CutsOff x old old lines) (sym is) (begins_none old lines)

-- the output failed
pub cuts_output : (e : SimulateError) (old new : Option (List ℕ)) (lines : List (List ℕ)) → e ≡ errors.Output →
    CutsOff e old new lines
cuts_output e old new lines is = subst (λ (x : SimulateError). CutsOff x old new lines) (sym is) tt

-- printing the first lines was cut off
pub cuts_front : (e : SimulateError) (old new : Option (List ℕ)) (xs ys : List (List ℕ)) → CutsOff e old new xs →
    CutsOff e old new (xs ++ ys)
cuts_front (errors.Line line) old new xs ys c = c
cuts_front errors.OutOfMemory old new xs ys c = begins_front old new xs ys c
cuts_front errors.Output old new xs ys c = tt

-- printing the others was cut off
pub cuts_more : (e : SimulateError) (old mid new : Option (List ℕ)) (xs ys : List (List ℕ)) → Prints old mid xs →
    CutsOff e mid new ys → CutsOff e old new (xs ++ ys)
cuts_more (errors.Line line) old mid new xs ys a c = c
cuts_more errors.OutOfMemory old mid new xs ys a c = begins_more old mid new xs ys a c
cuts_more errors.Output old mid new xs ys a c = tt

-- printing the first line was cut off
pub cuts_line : (e : SimulateError) (old new : Option (List ℕ)) (line : List ℕ) (more : List (List ℕ)) →
    CutsOff e old new (line ∷ []) → CutsOff e old new (line ∷ more)
cuts_line e old new line more c = cuts_front e old new (line ∷ []) more c

-- printing was cut off behind an answer and what went out
pub cuts_entry : (e : SimulateError) (old mid between new : Option (List ℕ)) (line : List ℕ)
    (emitted completed : List (List ℕ)) → Prints old mid (line ∷ []) → Prints mid between emitted →
    CutsOff e between new completed → CutsOff e old new (line ∷ (emitted ++ completed))
cuts_entry e old mid between new line emitted completed a b c =
    cuts_more e old mid new (line ∷ []) (emitted ++ completed) a (cuts_more e mid between new emitted completed b c)

-- what follows for each error follows for the result of a call
pub err_more : {T E : Type 0} (r : Result T E) (P Q : E → Type 0) → ((e : E) → P e → Q e) → IfErr r P → IfErr r Q
err_more (Ok x) P Q more h = tt
err_more (Err e) P Q more h = more e h

-- where a call answers this error, what is said of it is said of the result
pub err_same : {T E : Type 0} (r : Result T E) (e : E) (P : E → Type 0) → r ≡ Err e → P e → IfErr r P
err_same r e P is h = subst (λ (x : Result _ _). IfErr x P) (sym is) h

-- ---- datagrams

-- no datagram stands between a number and itself
pub between_none : (datagrams : List (ℕ × List ℕ)) (n : ℕ) → lines_between datagrams n n ≡ []
between_none datagrams n =
    let none : n - n ≡ 0 = omega arith in
    ap (λ (k : ℕ). flat_map (λ (number : ℕ). lines_at number (slice_get datagrams number)) (range_with_len n k)) none

range_suc : (a n : ℕ) → range_with_len a (suc n) ≡ range_with_len a n ++ (a + n) ∷ []
range_suc a zero = ap (λ (x : ℕ). x ∷ []) (omega arith)
range_suc a (suc n) =
    ap (λ (t : List ℕ). a ∷ t) (range_suc (a + 1) n ∙ ap (λ (x : ℕ). range_with_len (a + 1) n ++ x ∷ []) (omega arith))

range_next : (first n : ℕ) → first ≤ n → range_with_len first (n + 1 - first) ≡ range_with_len first (n - first) ++ n ∷
    []
range_next first n le =
    let more : n + 1 - first ≡ suc (n - first) = omega arith in
    let last : first + (n - first) ≡ n = omega arith in
    ap (λ (k : ℕ). range_with_len first k) more ∙ range_suc first (n - first) ∙
    ap (λ (k : ℕ). range_with_len first (n - first) ++ k ∷ []) last

-- one more
pub between_more : (datagrams : List (ℕ × List ℕ)) (first n : ℕ) → first ≤ n
    → lines_between datagrams first (n + 1) ≡ lines_between datagrams first n ++ lines_at n (slice_get datagrams n)
between_more datagrams first n le =
    let f : ℕ → List (List ℕ) = λ number. lines_at number (slice_get datagrams number) in
    ap (λ (ns : List ℕ). flat_map f ns) (range_next first n le)
    ∙ flat_map-append f (range_with_len first (n - first)) (n ∷ [])
    ∙ ap (λ (ls : List (List ℕ)). flat_map f (range_with_len first (n - first)) ++ ls) (append-nil (f n))
