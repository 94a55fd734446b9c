use Rattle.reductions.specs.OperationLaws.{combined-within}
use Rattle.reductions.proofs.operation.ReductionReduceOp.combine.Goals as goal

pub returns-clause-within : goal.returns-clause-within
returns-clause-within c =
    let r = c.args.self.now in
    rw c.combine_numbers.ensures
    (combined-within r.operation r.basic c.args.first c.args.second r.defined c.requires.first c.requires.second)
