use Rattle.std.proofs.Common.{arith}
use Rattle.sessions.proofs.Due.{at_place, on_error}
use Rattle.sessions.proofs.peers.due_frames.Goals as goal

pub returns-in_err-add_due_frames-clause-memory : goal.returns-in_err-add_due_frames-clause-memory
returns-in_err-add_due_frames-clause-memory c =
    on_error c.from_residual.result (
      c.loop-rank.rank,
      c.index-peers-rank.result,
      at_place c.args.peers.now c.loop-rank.rank c.index-peers-rank.result (omega arith) c.index-peers-rank.is,
      c.in_err-add_due_frames.ensures.memory,
    )
