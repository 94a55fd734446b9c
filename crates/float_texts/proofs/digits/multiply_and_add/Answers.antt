use Rattle.std.proofs.Common.{arith, rules}
use Rattle.float_texts.proofs.Products.{at_start, one_more, at_end, carry_small}
use Rattle.float_texts.proofs.digits.multiply_and_add.Goals as goal

pub loop-place-init : goal.loop-place-init
loop-place-init c =
    record {
      small = c.requires.more;
      done = λ number are. at_start number c.args.factor c.args.more c.args.digits.now are;
    }

pub loop-place-preserved : goal.loop-place-preserved
loop-place-preserved c =
    record {
      small = first_of (search (rules, carry_small), grind (arith, carry_small));
      done =
          λ number are.
          one_more _ c.args.factor c.loop-place.place c.loop-place.carry c.from.result c.loop-place.digits (omega arith)
          c.from.ensures
          (c.loop-place.invariant.done number are);
    }

pub returns : goal.returns
returns c =
    λ number are.
    at_end _ c.args.factor c.loop-place.place c.loop-place.carry c.loop-place.digits
    (c.loop-place.invariant.done number are) (omega arith)
