use Rattle.std.proofs.Common.{◌≡◌, ◌+◌, ◌*◌, ◌<◌, ◌≤◌, ℕ, length, get_or, sym, ap, subst, ◌∙◌, arith}
use Rattle.std.proofs.Math.Nat.{add-mul, mul-le-mul_left}
use Rattle.std.proofs.lemmas.Bool.{eqb-true, eqb-false}
use Rattle.datatypes.specs.Contents.{values_of, AreWhole}
use Rattle.derived_types.specs.Layouts.{places}
use Rattle.datatypes.specs.Transfers.{elements_at}
use Rattle.datatypes.proofs.RunLaws.{AreRun, run_fits, room_in_bytes, run_gathered, none_gathered, nil_gathered, if_ok}
use Rattle.datatypes.proofs.packing.pack_bytes.Goals as goal

pub returns-then-copies-eq0-clause-values : goal.returns-then-copies-eq0-clause-values
returns-then-copies-eq0-clause-values c =
    let a = c.args in
    let vs = values_of a.strided.now.size a.bytes.now in
    ap (values_of a.strided.now.size) c.new.ensures.items
    ∙ none_gathered a.strided.now.size vs a.strided.now.offsets.now a.strided.now.low
    ∙ ap (λ (k : ℕ). elements_at vs (places k a.strided.now.offsets.now)) (sym c.if-copies-eq0.true)

pub returns-then-is_empty-clause-values : goal.returns-then-is_empty-clause-values
returns-then-is_empty-clause-values c =
    let a = c.args in
    let none : length a.strided.now.offsets.now ≡ 0 = eqb-true _ 0 (sym c.is_empty.ensures ∙ c.if-is_empty.true) in
    ap (values_of a.strided.now.size) c.new-then-is_empty.ensures.items
    ∙ nil_gathered a.strided.now.size a.copies (values_of a.strided.now.size a.bytes.now) a.strided.now.offsets.now a.strided.now.low none

pub overflow_mul-first : goal.overflow_mul-first
overflow_mul-first c =
    let a = c.args in
    let size = a.strided.now.size in
    let xs = a.strided.now.offsets.now in
    let l = length xs in
    let first = get_or xs 0 0 in
    let ne = eqb-false l 0 (sym c.is_empty.ensures ∙ c.if-is_empty.false) in
    let p : 0 < l = omega arith in
    let some : 0 < a.copies = omega arith in
    let run : AreRun xs = c.is_run.ensures c.if-is_run.true in
    let fits = run_fits size a.copies xs (length a.bytes.now) some p run (room_in_bytes size a.bytes.now (places a.copies xs) c.requires.bytes c.requires.near) in
    let wide : a.copies * l * 1 ≤ a.copies * l * size = mul-le-mul_left (a.copies * l) a.strided.now.low in
    let split : (first + a.copies * l) * size ≡ first * size + a.copies * l * size = add-mul first (a.copies * l) size in
    omega arith

pub overflow_mul-count : goal.overflow_mul-count
overflow_mul-count c =
    let a = c.args in
    let size = a.strided.now.size in
    let xs = a.strided.now.offsets.now in
    let l = length xs in
    let first = get_or xs 0 0 in
    let ne = eqb-false l 0 (sym c.is_empty.ensures ∙ c.if-is_empty.false) in
    let p : 0 < l = omega arith in
    let some : 0 < a.copies = omega arith in
    let run : AreRun xs = c.is_run.ensures c.if-is_run.true in
    let fits = run_fits size a.copies xs (length a.bytes.now) some p run (room_in_bytes size a.bytes.now (places a.copies xs) c.requires.bytes c.requires.near) in
    let wide : a.copies * l * 1 ≤ a.copies * l * size = mul-le-mul_left (a.copies * l) a.strided.now.low in
    let split : (first + a.copies * l) * size ≡ first * size + a.copies * l * size = add-mul first (a.copies * l) size in
    omega arith

pub overflow_mul-count-then-is_run : goal.overflow_mul-count-then-is_run
overflow_mul-count-then-is_run c =
    let a = c.args in
    let size = a.strided.now.size in
    let xs = a.strided.now.offsets.now in
    let l = length xs in
    let first = get_or xs 0 0 in
    let ne = eqb-false l 0 (sym c.is_empty.ensures ∙ c.if-is_empty.false) in
    let p : 0 < l = omega arith in
    let some : 0 < a.copies = omega arith in
    let run : AreRun xs = c.is_run.ensures c.if-is_run.true in
    let fits = run_fits size a.copies xs (length a.bytes.now) some p run (room_in_bytes size a.bytes.now (places a.copies xs) c.requires.bytes c.requires.near) in
    let split : (first + a.copies * l) * size ≡ first * size + a.copies * l * size = add-mul first (a.copies * l) size in
    omega arith

pub run-requires : goal.run-requires
run-requires c =
    let a = c.args in
    let size = a.strided.now.size in
    let xs = a.strided.now.offsets.now in
    let l = length xs in
    let first = get_or xs 0 0 in
    let ne = eqb-false l 0 (sym c.is_empty.ensures ∙ c.if-is_empty.false) in
    let p : 0 < l = omega arith in
    let some : 0 < a.copies = omega arith in
    let run : AreRun xs = c.is_run.ensures c.if-is_run.true in
    let fits = run_fits size a.copies xs (length a.bytes.now) some p run (room_in_bytes size a.bytes.now (places a.copies xs) c.requires.bytes c.requires.near) in
    let split : (first + a.copies * l) * size ≡ first * size + a.copies * l * size = add-mul first (a.copies * l) size in
    omega arith

pub returns-then-is_run-clause-whole : goal.returns-then-is_run-clause-whole
returns-then-is_run-clause-whole c =
    let a = c.args in
    let xs = a.strided.now.offsets.now in
    let ne = eqb-false (length xs) 0 (sym c.is_empty.ensures ∙ c.if-is_empty.false) in
    let p : 0 < length xs = omega arith in
    let run : AreRun xs = c.is_run.ensures c.if-is_run.true in
    let are = run_gathered a.strided.now.size a.copies a.bytes.now xs a.strided.now.low c.requires.bytes p run c.requires.near in
    if_ok c.from_slice.result (λ out e. subst (AreWhole a.strided.now.size) (sym (e ∙ c.run.ensures)) are.0)
    c.from_slice.ensures.items

pub returns-then-is_run-clause-values : goal.returns-then-is_run-clause-values
returns-then-is_run-clause-values c =
    let a = c.args in
    let xs = a.strided.now.offsets.now in
    let ne = eqb-false (length xs) 0 (sym c.is_empty.ensures ∙ c.if-is_empty.false) in
    let p : 0 < length xs = omega arith in
    let run : AreRun xs = c.is_run.ensures c.if-is_run.true in
    let are = run_gathered a.strided.now.size a.copies a.bytes.now xs a.strided.now.low c.requires.bytes p run c.requires.near in
    if_ok c.from_slice.result (λ out e. ap (values_of a.strided.now.size) (e ∙ c.run.ensures) ∙ are.1) c.from_slice.ensures.items
