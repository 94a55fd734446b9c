use Rattle.std.proofs.Common.{refl, arith}
use Rattle.c_rank.proofs.HandingSteps.{kept_first, stays_back}
use Rattle.c_rank.proofs.rank.Rank.hand_out_all.Goals as goal

pub returns-clause-went : goal.returns-clause-went
returns-clause-went c =
    kept_first c.args.self.now c.hand_out-len.new.self _ _ c.args.most c.hand_out-len.result c.hand_out_kept.result
    c.args.kept_too c.hand_out-len.new.outgoing c.hand_out_kept.new.outgoing _ _ _ c.hand_out-len.ensures.went
    (omega (arith, c.if-outgoing-gt0.false)) c.self.view_is c.hand_out_kept.ensures.went refl refl refl refl refl

pub returns-clause-back : goal.returns-clause-back
returns-clause-back c =
    stays_back c.args.self.now c.hand_out-len.new.self _ c.hand_out_kept.new.self c.args.kept_too
    c.hand_out-len.new.outgoing c.hand_out_kept.new.outgoing c.hand_out-len.ensures.stays c.self.view_is
    c.hand_out_kept.ensures.stays
