-- All data of a payload go to the rank that spoke.
use Rattle.engine.proofs.PayloadPieces.{data_go_at}
use Rattle.engine.specs.Datagrams.{data_sent}
use Rattle.engine.proofs.refused_turns.limit_of_data.Goals as goal

pub returns : goal.returns
returns c =
    let r = c.args.heard.source.rank in
    c.limit_of.ensures (data_sent c.args.sessions.now.place.message_limit r c.args.transfer c.args.bytes.now)
    (data_go_at c.place.result c.args.sessions.now.place r c.args.transfer c.count_of.result c.args.bytes.now
    c.place.ensures.place c.count_of.ensures)
