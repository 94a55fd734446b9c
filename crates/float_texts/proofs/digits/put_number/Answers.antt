use Rattle.std.proofs.Common.{length}
use Rattle.float_texts.proofs.Products.{digits_among_zeros}
use Rattle.float_texts.proofs.digits.put_number.Goals as goal

pub returns : goal.returns
returns c =
    digits_among_zeros c.args.number (length c.args.digits.now) c.fill.new.self c.multiply_and_add.new.digits
    (c.fill.ensures.after (λ y is. is)) (c.multiply_and_add.ensures 0)
