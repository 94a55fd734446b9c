-- No bit is set in words of zeros.
use Rattle.groups.proofs.RankSetLemmas.{is_marked-zeros}
use Rattle.groups.proofs.rank_set.RankSet.new.Goals as goal

pub returns : goal.returns
returns c = λ rank. is_marked-zeros 1024 rank
