use Rattle.datatypes.proofs.RunLaws.{if_ok}
use Rattle.engine.proofs.PayloadPieces.{data_are}
use Rattle.engine.proofs.outgoing_payloads.data_frames.Goals as goal

pub returns-clause-ok : goal.returns-clause-ok
returns-clause-ok c =
    if_ok c.frames_of.result
    (λ fs made. data_are c.args.limit c.args.rank c.args.transfer fs.items c.in-Ok.pieces.items c.deref.result.now c.args.bytes.now
    made c.deref.ensures.value c.in-Ok.ensures)
    c.frames_of.ensures.ok
