use Rattle.rendezvous.proofs.PieceLaws.{pieces, elements}
use Rattle.rendezvous.proofs.laws.pieces_are_whole.Goals as goal

pub returns-clause-pieces : goal.returns-clause-pieces
returns-clause-pieces c = pieces

pub returns-clause-elements : goal.returns-clause-elements
returns-clause-elements c = elements
