-- Both rows have equally many elements, and the fold fills the second one.
use Rattle.std.proofs.Common.{◌≡◌, ◌%◌, ℕ, List, length, inl, refl, sym, ap, ◌∙◌, arith}
use Rattle.datatypes.specs.Contents.{bytes_of}
use Rattle.datatypes.specs.Combinations.{combined_values}
use Rattle.vocabulary.specs.BasicTypes.{size_of}
use Rattle.reductions.specs.Operations.{combined}
use Rattle.c_rank.specs.Elements.{elements_of, other_order}
use Rattle.c_folds.proofs.FoldSteps.{length-folded, put_over_all, rows_are_like}
use Rattle.c_folds.proofs.fold.fold_whole.Goals as goal

pub accumulate-requires-clause-like : goal.accumulate-requires-clause-like
accumulate-requires-clause-like c =
    rw (c.in-Ok.ensures, c.in-Ok-elements_in.ensures)
    (rows_are_like c.args.basic c.args.low.now c.args.high.now c.requires.len c.requires.whole)

pub turn_elements-requires : goal.turn_elements-requires
turn_elements-requires c =
    let e : length c.as_bytes.result.now ≡ length c.args.high.now =
    rw (c.as_bytes.ensures.bytes, c.into_whole-whole.ensures, c.accumulate.ensures, c.in-Ok.ensures, c.in-Ok-elements_in.ensures)
    (length-folded (combined c.args.reduction.now.operation c.args.reduction.now.basic) c.args.basic c.args.low.now
    c.args.high.now c.requires.len c.requires.whole) in
    omega (arith, e)

pub returns : goal.returns
returns c =
    let f : ℕ → ℕ → ℕ = combined c.args.reduction.now.operation c.args.basic in
    let bytes : c.as_bytes.result.now ≡ bytes_of (size_of c.args.basic)
    (combined_values f (elements_of c.args.basic c.args.low.now).values (elements_of c.args.basic c.args.high.now).values) =
    rw (
      c.as_bytes.ensures.bytes,
      c.into_whole-whole.ensures,
      c.accumulate.ensures,
      c.in-Ok.ensures,
      c.in-Ok-elements_in.ensures,
      sym c.requires.basic,
    ) refl in
    let len : length c.as_bytes.result.now ≡ length c.args.high.now =
    ap (λ (t : List ℕ). length t) bytes
    ∙ length-folded f c.args.basic c.args.low.now c.args.high.now c.requires.len c.requires.whole in
    inl (
      refl,
      put_over_all (size_of c.args.basic) c.as_bytes.result.now c.args.high.now c.turn_elements.new.into _
          (ap (λ (n : ℕ). n % size_of c.args.basic) (len ∙ sym c.requires.len) ∙ c.requires.whole) len
          c.turn_elements.ensures.len c.turn_elements.ensures.front
          ∙ ap (λ (t : List ℕ). other_order (size_of c.args.basic) t) bytes,
    )
