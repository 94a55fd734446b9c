use Rattle.std.proofs.Common.{suc, arith}
use Rattle.engine.proofs.TurnLaws.{arranged_within, forget}
use Rattle.engine.proofs.engine.Engine.take_following.Goals as goal

pub returns-clause-within : goal.returns-clause-within
returns-clause-within c =
    omega (
      arith,
      c.follow-why.ensures.within,
      arranged_within (suc c.args.at) c.follow-why.new.self.sessions c.arrange.new.self.sessions
          c.arrange.ensures.arranged,
    )

pub returns-clause-exact : goal.returns-clause-exact
returns-clause-exact c =
    record {
      last = c.follow-why.new.self;
      turns = forget c.follow-why.result 64 c.args.at c.args.source c.args.self.now c.follow-why.new.self
          c.follow-why.ensures.exact;
      same = c.arrange.ensures.same;
      arranged = c.arrange.ensures.arranged;
    }
