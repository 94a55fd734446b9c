use Rattle.float_texts.proofs.Products.{digits_by_eights}
use Rattle.float_texts.proofs.digits.multiply_by_power.Goals as goal

pub returns : goal.returns
returns c =
    λ number are.
    digits_by_eights number c.args.factor c.args.eighth c.args.exponent c.multiply_times-2.new.digits c.requires.is
    (c.multiply_times-2.ensures _ (c.multiply_times.ensures number are))
