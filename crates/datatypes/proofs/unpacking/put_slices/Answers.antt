use Rattle.std.proofs.Common.{◌≡◌, ◌+◌, ◌*◌, ◌/◌, ◌<◌, ◌≤◌, ℕ, List, length, get_or, sym, ap, subst, ◌∙◌, arith}
use Rattle.std.specs.List.{range_with_len}
use Rattle.std.proofs.Math.Nat.{mul-le-mul_right}
use Rattle.datatypes.specs.Contents.{values_of, AreWhole}
use Rattle.datatypes.specs.ContentLaws.{whole, length-values_of}
use Rattle.datatypes.specs.Transfers.{put_at}
use Rattle.datatypes.proofs.RunLaws.{AreRun, run_near, first_run, with_run-is}
use Rattle.datatypes.proofs.BlockLaws.{with_run-len}
use Rattle.datatypes.proofs.unpacking.put_slices.Goals as goal

pub overflow_mul-strided : goal.overflow_mul-strided
overflow_mul-strided c =
    let a = c.args in
    let size = a.strided.now.size in
    let xs = a.strided.now.offsets.now in
    let l = length xs in
    let first = get_or xs 0 0 in
    let some : 0 < a.count = omega arith in
    let p : 0 < l = c.requires.some some in
    let run : AreRun xs = c.is_run.ensures c.if-is_run.true in
    let elements = length (values_of size a.bytes.now) in
    let le = run_near a.count elements xs some p run c.requires.near in
    let m : (first + a.count) * size ≤ elements * size = mul-le-mul_right size le in
    let bytes = whole size a.bytes.now c.requires.bytes.no_rest in
    let counted = ap (λ (k : ℕ). k * size) (length-values_of size a.bytes.now) in
    let long = whole size a.message.now c.requires.message.no_rest in
    let same : a.count * size ≡ length a.message.now / size * size = ap (λ (k : ℕ). k * size) (c.requires.count ∙ length-values_of size a.message.now) in
    let fits : first * size + length a.message.now ≤ length a.bytes.now = omega arith in
    omega arith

pub copy_within-requires : goal.copy_within-requires
copy_within-requires c =
    let a = c.args in
    let size = a.strided.now.size in
    let xs = a.strided.now.offsets.now in
    let l = length xs in
    let first = get_or xs 0 0 in
    let some : 0 < a.count = omega arith in
    let p : 0 < l = c.requires.some some in
    let run : AreRun xs = c.is_run.ensures c.if-is_run.true in
    let elements = length (values_of size a.bytes.now) in
    let le = run_near a.count elements xs some p run c.requires.near in
    let m : (first + a.count) * size ≤ elements * size = mul-le-mul_right size le in
    let bytes = whole size a.bytes.now c.requires.bytes.no_rest in
    let counted = ap (λ (k : ℕ). k * size) (length-values_of size a.bytes.now) in
    let long = whole size a.message.now c.requires.message.no_rest in
    let same : a.count * size ≡ length a.message.now / size * size = ap (λ (k : ℕ). k * size) (c.requires.count ∙ length-values_of size a.message.now) in
    let fits : first * size + length a.message.now ≤ length a.bytes.now = omega arith in
    fits

pub returns-then-is_run-clause-len : goal.returns-then-is_run-clause-len
returns-then-is_run-clause-len c =
    let a = c.args in
    let size = a.strided.now.size in
    let xs = a.strided.now.offsets.now in
    let l = length xs in
    let first = get_or xs 0 0 in
    let some : 0 < a.count = omega arith in
    let p : 0 < l = c.requires.some some in
    let run : AreRun xs = c.is_run.ensures c.if-is_run.true in
    let elements = length (values_of size a.bytes.now) in
    let le = run_near a.count elements xs some p run c.requires.near in
    let m : (first + a.count) * size ≤ elements * size = mul-le-mul_right size le in
    let bytes = whole size a.bytes.now c.requires.bytes.no_rest in
    let counted = ap (λ (k : ℕ). k * size) (length-values_of size a.bytes.now) in
    let long = whole size a.message.now c.requires.message.no_rest in
    let same : a.count * size ≡ length a.message.now / size * size = ap (λ (k : ℕ). k * size) (c.requires.count ∙ length-values_of size a.message.now) in
    let fits : first * size + length a.message.now ≤ length a.bytes.now = omega arith in
    ap length c.copy_within.ensures ∙ with_run-len (first * size) a.bytes.now a.message.now fits

pub returns-then-is_run-clause-whole : goal.returns-then-is_run-clause-whole
returns-then-is_run-clause-whole c =
    let a = c.args in
    let size = a.strided.now.size in
    let xs = a.strided.now.offsets.now in
    let l = length xs in
    let first = get_or xs 0 0 in
    let some : 0 < a.count = omega arith in
    let p : 0 < l = c.requires.some some in
    let run : AreRun xs = c.is_run.ensures c.if-is_run.true in
    let elements = length (values_of size a.bytes.now) in
    let le = run_near a.count elements xs some p run c.requires.near in
    let m : (first + a.count) * size ≤ elements * size = mul-le-mul_right size le in
    let bytes = whole size a.bytes.now c.requires.bytes.no_rest in
    let counted = ap (λ (k : ℕ). k * size) (length-values_of size a.bytes.now) in
    let long = whole size a.message.now c.requires.message.no_rest in
    let same : a.count * size ≡ length a.message.now / size * size = ap (λ (k : ℕ). k * size) (c.requires.count ∙ length-values_of size a.message.now) in
    let fits : first * size + length a.message.now ≤ length a.bytes.now = omega arith in
    let step = with_run-is size a.bytes.now a.message.now first a.strided.now.low c.requires.bytes c.requires.message fits in
    subst (AreWhole size) (sym c.copy_within.ensures) step.0

pub returns-then-is_run-clause-values : goal.returns-then-is_run-clause-values
returns-then-is_run-clause-values c =
    let a = c.args in
    let size = a.strided.now.size in
    let xs = a.strided.now.offsets.now in
    let l = length xs in
    let first = get_or xs 0 0 in
    let some : 0 < a.count = omega arith in
    let p : 0 < l = c.requires.some some in
    let run : AreRun xs = c.is_run.ensures c.if-is_run.true in
    let elements = length (values_of size a.bytes.now) in
    let le = run_near a.count elements xs some p run c.requires.near in
    let m : (first + a.count) * size ≤ elements * size = mul-le-mul_right size le in
    let bytes = whole size a.bytes.now c.requires.bytes.no_rest in
    let counted = ap (λ (k : ℕ). k * size) (length-values_of size a.bytes.now) in
    let long = whole size a.message.now c.requires.message.no_rest in
    let same : a.count * size ≡ length a.message.now / size * size = ap (λ (k : ℕ). k * size) (c.requires.count ∙ length-values_of size a.message.now) in
    let fits : first * size + length a.message.now ≤ length a.bytes.now = omega arith in
    let old = values_of size a.bytes.now in
    let ms = values_of size a.message.now in
    let step = with_run-is size a.bytes.now a.message.now first a.strided.now.low c.requires.bytes c.requires.message fits in
    ap (values_of size) c.copy_within.ensures
    ∙ step.1
    ∙ ap (λ (k : ℕ). put_at old (range_with_len first k) ms) (sym c.requires.count)
    ∙ ap (λ (t : List ℕ). put_at old t ms) (sym (first_run a.count xs p run))
