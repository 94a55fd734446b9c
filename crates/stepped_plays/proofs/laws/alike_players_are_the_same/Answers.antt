use Rattle.stepped_plays.proofs.LastLines.{alike_players_are_the_same}
use Rattle.stepped_plays.proofs.laws.alike_players_are_the_same.Goals as goal

pub returns : goal.returns
returns c = alike_players_are_the_same
