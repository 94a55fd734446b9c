use Rattle.engine.proofs.engine.Engine.+follow.Given as goal

abbrev pub decreases-follow : goal.decreases-follow
decreases-follow l = l.turns
