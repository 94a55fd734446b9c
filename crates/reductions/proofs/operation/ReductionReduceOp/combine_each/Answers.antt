-- FOR SPEED ALONE: each goal here is proved without this file, too; with it a wrong body is refused soon.
use Rattle.std.proofs.Common.{rules}
use Rattle.reductions.proofs.operation.ReductionReduceOp.combine_each.Goals as goal

pub combine_by-requires-clause-defined : goal.combine_by-requires-clause-defined
combine_by-requires-clause-defined c = search rules

pub combine_by-requires-clause-basic : goal.combine_by-requires-clause-basic
combine_by-requires-clause-basic c = search rules

pub combine_by-requires-clause-like : goal.combine_by-requires-clause-like
combine_by-requires-clause-like c = search rules

pub combine_by-requires-in-Min-clause-defined : goal.combine_by-requires-in-Min-clause-defined
combine_by-requires-in-Min-clause-defined c = search rules

pub combine_by-requires-in-Min-clause-basic : goal.combine_by-requires-in-Min-clause-basic
combine_by-requires-in-Min-clause-basic c = search rules

pub combine_by-requires-in-Min-clause-like : goal.combine_by-requires-in-Min-clause-like
combine_by-requires-in-Min-clause-like c = search rules

pub combine_by-requires-in-Sum-clause-defined : goal.combine_by-requires-in-Sum-clause-defined
combine_by-requires-in-Sum-clause-defined c = search rules

pub combine_by-requires-in-Sum-clause-basic : goal.combine_by-requires-in-Sum-clause-basic
combine_by-requires-in-Sum-clause-basic c = search rules

pub combine_by-requires-in-Sum-clause-like : goal.combine_by-requires-in-Sum-clause-like
combine_by-requires-in-Sum-clause-like c = search rules

pub combine_by-requires-in-Prod-clause-defined : goal.combine_by-requires-in-Prod-clause-defined
combine_by-requires-in-Prod-clause-defined c = search rules

pub combine_by-requires-in-Prod-clause-basic : goal.combine_by-requires-in-Prod-clause-basic
combine_by-requires-in-Prod-clause-basic c = search rules

pub combine_by-requires-in-Prod-clause-like : goal.combine_by-requires-in-Prod-clause-like
combine_by-requires-in-Prod-clause-like c = search rules

pub combine_by-requires-in-Land-clause-defined : goal.combine_by-requires-in-Land-clause-defined
combine_by-requires-in-Land-clause-defined c = search rules

pub combine_by-requires-in-Land-clause-basic : goal.combine_by-requires-in-Land-clause-basic
combine_by-requires-in-Land-clause-basic c = search rules

pub combine_by-requires-in-Land-clause-like : goal.combine_by-requires-in-Land-clause-like
combine_by-requires-in-Land-clause-like c = search rules

pub combine_by-requires-in-Lor-clause-defined : goal.combine_by-requires-in-Lor-clause-defined
combine_by-requires-in-Lor-clause-defined c = search rules

pub combine_by-requires-in-Lor-clause-basic : goal.combine_by-requires-in-Lor-clause-basic
combine_by-requires-in-Lor-clause-basic c = search rules

pub combine_by-requires-in-Lor-clause-like : goal.combine_by-requires-in-Lor-clause-like
combine_by-requires-in-Lor-clause-like c = search rules

pub combine_by-requires-in-Lxor-clause-defined : goal.combine_by-requires-in-Lxor-clause-defined
combine_by-requires-in-Lxor-clause-defined c = search rules

pub combine_by-requires-in-Lxor-clause-basic : goal.combine_by-requires-in-Lxor-clause-basic
combine_by-requires-in-Lxor-clause-basic c = search rules

pub combine_by-requires-in-Lxor-clause-like : goal.combine_by-requires-in-Lxor-clause-like
combine_by-requires-in-Lxor-clause-like c = search rules

pub combine_by-requires-in-Band-clause-defined : goal.combine_by-requires-in-Band-clause-defined
combine_by-requires-in-Band-clause-defined c = search rules

pub combine_by-requires-in-Band-clause-basic : goal.combine_by-requires-in-Band-clause-basic
combine_by-requires-in-Band-clause-basic c = search rules

pub combine_by-requires-in-Band-clause-like : goal.combine_by-requires-in-Band-clause-like
combine_by-requires-in-Band-clause-like c = search rules

pub combine_by-requires-in-Bor-clause-defined : goal.combine_by-requires-in-Bor-clause-defined
combine_by-requires-in-Bor-clause-defined c = search rules

pub combine_by-requires-in-Bor-clause-basic : goal.combine_by-requires-in-Bor-clause-basic
combine_by-requires-in-Bor-clause-basic c = search rules

pub combine_by-requires-in-Bor-clause-like : goal.combine_by-requires-in-Bor-clause-like
combine_by-requires-in-Bor-clause-like c = search rules

pub combine_by-requires-in-Bxor-clause-defined : goal.combine_by-requires-in-Bxor-clause-defined
combine_by-requires-in-Bxor-clause-defined c = search rules

pub combine_by-requires-in-Bxor-clause-basic : goal.combine_by-requires-in-Bxor-clause-basic
combine_by-requires-in-Bxor-clause-basic c = search rules

pub combine_by-requires-in-Bxor-clause-like : goal.combine_by-requires-in-Bxor-clause-like
combine_by-requires-in-Bxor-clause-like c = search rules

pub combine_by-requires-in-Affine-clause-basic : goal.combine_by-requires-in-Affine-clause-basic
combine_by-requires-in-Affine-clause-basic c = search rules

pub combine_by-requires-in-Affine-clause-like : goal.combine_by-requires-in-Affine-clause-like
combine_by-requires-in-Affine-clause-like c = search rules

pub returns-in-Max : goal.returns-in-Max
returns-in-Max c = search rules

pub returns-in-Min : goal.returns-in-Min
returns-in-Min c = search rules

pub returns-in-Sum : goal.returns-in-Sum
returns-in-Sum c = search rules

pub returns-in-Prod : goal.returns-in-Prod
returns-in-Prod c = search rules

pub returns-in-Land : goal.returns-in-Land
returns-in-Land c = search rules

pub returns-in-Lor : goal.returns-in-Lor
returns-in-Lor c = search rules

pub returns-in-Lxor : goal.returns-in-Lxor
returns-in-Lxor c = search rules

pub returns-in-Band : goal.returns-in-Band
returns-in-Band c = search rules

pub returns-in-Bor : goal.returns-in-Bor
returns-in-Bor c = search rules

pub returns-in-Bxor : goal.returns-in-Bxor
returns-in-Bxor c = search rules

pub returns-in-Affine : goal.returns-in-Affine
returns-in-Affine c = search rules
