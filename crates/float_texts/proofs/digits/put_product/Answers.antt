use Rattle.std.proofs.Common.{◌∙◌, ap, ◌^◌, ◌*◌, ℕ}
use Rattle.float_texts.specs.Digits.{low_digits}
use Rattle.float_texts.proofs.digits.put_product.Goals as goal

pub returns : goal.returns
returns c =
    c.multiply_by_power-2.ensures _ (c.multiply_by_power.ensures _ c.put_number.ensures)
