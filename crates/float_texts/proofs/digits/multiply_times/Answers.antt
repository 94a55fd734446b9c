use Rattle.float_texts.proofs.Products.{digits_of_more, digits_of_none}
use Rattle.float_texts.proofs.digits.multiply_times.Goals as goal

pub loop-init : goal.loop-init
loop-init c = λ number are. digits_of_none number c.args.factor c.args.digits.now are

pub loop-preserved : goal.loop-preserved
loop-preserved c =
    λ number are.
    digits_of_more number c.args.factor c.loop.counter c.multiply_and_add.new.digits
    (c.multiply_and_add.ensures _ (c.loop.invariant number are))
