use Rattle.std.proofs.Common.{◌*◌, ◌∙◌}
use Rattle.reductions.specs.OperationLaws.{mod_mod}
use Rattle.reductions.proofs.operation.wrapped_product.Goals as goal

pub returns : goal.returns
returns c =
    c.modulo_type.ensures ∙ mod_mod c.args.basic (c.args.first * c.args.second)
