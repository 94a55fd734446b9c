use Rattle.std.proofs.Common.{◌≡◌, ◌*◌, ◌++◌, ◌+◌, length, ℕ, List, take, drop, sym, ap, subst, ◌∙◌, arith}
use Rattle.std.proofs.Math.Nat.{zero-mul}
use Rattle.std.proofs.lemmas.List.{take_at}
use Rattle.byteorder.specs.Endian.{big_bytes}
use Rattle.byteorder.specs.Numbers.{length-bytes_high_first}
use Rattle.datatypes.specs.Contents.{values_of, AreWhole}
use Rattle.datatypes.proofs.BufferSteps.{element_fits}
use Rattle.datatypes.proofs.PlaceLaws.{with_piece, with_number-is}
use Rattle.datatypes.proofs.bytes.put_number_at.Goals as goal

pub overflow_mul-place : goal.overflow_mul-place
overflow_mul-place c =
    let a = c.args in
    let fits = element_fits a.size a.bytes.now a.place c.requires.bytes c.requires.place in
    omega arith

pub copy_within-requires : goal.copy_within-requires
copy_within-requires c =
    let a = c.args in
    let piece : c.piece.result.now ≡ big_bytes a.size a.number =
    c.piece.ensures
    ∙ ap (λ (n : ℕ). take a.size (drop n c.write_number.new.bytes)) (zero-mul a.size)
    ∙ ap (take a.size) c.write_number.ensures
    ∙ take_at (big_bytes a.size a.number) _ a.size (length-bytes_high_first a.size a.number)
    in
    let len : length c.piece.result.now ≡ a.size = ap length piece ∙ length-bytes_high_first a.size a.number in
    let fits = element_fits a.size a.bytes.now a.place c.requires.bytes c.requires.place in
    rw len (omega arith)

pub returns-clause-whole : goal.returns-clause-whole
returns-clause-whole c =
    let a = c.args in
    let piece : c.piece.result.now ≡ big_bytes a.size a.number =
    c.piece.ensures
    ∙ ap (λ (n : ℕ). take a.size (drop n c.write_number.new.bytes)) (zero-mul a.size)
    ∙ ap (take a.size) c.write_number.ensures
    ∙ take_at (big_bytes a.size a.number) _ a.size (length-bytes_high_first a.size a.number)
    in
    let len : length c.piece.result.now ≡ a.size = ap length piece ∙ length-bytes_high_first a.size a.number in
    let put : c.copy_within.new.bytes ≡ with_piece a.size a.bytes.now a.place (big_bytes a.size a.number) =
    c.copy_within.ensures
    ∙ ap (λ (n : ℕ). take (a.place * a.size) a.bytes.now ++ c.piece.result.now ++
    drop (a.place * a.size + n) a.bytes.now) len
    ∙ ap (λ (t : List ℕ). take (a.place * a.size) a.bytes.now ++ t ++ drop (a.place * a.size + a.size) a.bytes.now)
    piece
    in
    let step = with_number-is a.size a.bytes.now a.place a.number c.requires.low c.requires.fits c.requires.bytes c.requires.place in
    subst (AreWhole a.size) (sym put) step.0

pub returns-clause-values : goal.returns-clause-values
returns-clause-values c =
    let a = c.args in
    let piece : c.piece.result.now ≡ big_bytes a.size a.number =
    c.piece.ensures
    ∙ ap (λ (n : ℕ). take a.size (drop n c.write_number.new.bytes)) (zero-mul a.size)
    ∙ ap (take a.size) c.write_number.ensures
    ∙ take_at (big_bytes a.size a.number) _ a.size (length-bytes_high_first a.size a.number)
    in
    let len : length c.piece.result.now ≡ a.size = ap length piece ∙ length-bytes_high_first a.size a.number in
    let put : c.copy_within.new.bytes ≡ with_piece a.size a.bytes.now a.place (big_bytes a.size a.number) =
    c.copy_within.ensures
    ∙ ap (λ (n : ℕ). take (a.place * a.size) a.bytes.now ++ c.piece.result.now ++
    drop (a.place * a.size + n) a.bytes.now) len
    ∙ ap (λ (t : List ℕ). take (a.place * a.size) a.bytes.now ++ t ++ drop (a.place * a.size + a.size) a.bytes.now)
    piece
    in
    let step = with_number-is a.size a.bytes.now a.place a.number c.requires.low c.requires.fits c.requires.bytes c.requires.place in
    ap (values_of a.size) put ∙ step.1
