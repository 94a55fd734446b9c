use Rattle.std.proofs.Common.{rules, refl}
use Rattle.c_rank.proofs.HandingSteps.{nothing_first}
use Rattle.c_rank.proofs.rank.Rank.hand_out.Goals as goal

pub returns-then-is_through-2-clause-went : goal.returns-then-is_through-2-clause-went
returns-then-is_through-2-clause-went c =
    nothing_first c.args.self.now c.args.most _ c.args.into.now (search rules) (search rules) refl refl
