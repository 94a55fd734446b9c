use Rattle.std.proofs.Common.{◌≡◌, ap, rules, arith}
use Rattle.derived_types.specs.Layouts.{lowest_of, highest_of}
use Rattle.derived_types.specs.declared.span.Span.{Span}
use Rattle.derived_types.proofs.LayoutLaws.{within_of, lowest_of-le-highest_of}
use Rattle.derived_types.proofs.layout.Layout.with_span.Goals as goal

pub overflow_cast-result : goal.overflow_cast-result
overflow_cast-result c =
    let w = within_of c.args.offsets.items c.requires.within in
    let l : c.args.span.lowest ≡ lowest_of c.args.offsets.items = ap (λ (s : Span). s.lowest) c.requires.span in
    let le = lowest_of-le-highest_of c.args.offsets.items in
    omega arith

pub overflow_cast-result-2 : goal.overflow_cast-result-2
overflow_cast-result-2 c =
    let w = within_of c.args.offsets.items c.requires.within in
    let h : c.args.span.highest ≡ highest_of c.args.offsets.items = ap (λ (s : Span). s.highest) c.requires.span in
    omega arith

pub invariant_of-result : goal.invariant_of-result
invariant_of-result c = record {
  lowest_is = ap (λ (s : Span). s.lowest) c.requires.span;
  highest_is = ap (λ (s : Span). s.highest) c.requires.span;
  repeats_is = search rules;
  within = within_of c.args.offsets.items c.requires.within;
}
