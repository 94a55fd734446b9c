use Rattle.std.proofs.Common.{◌≡◌, map}
use Rattle.sessions.specs.Events.{sendings}
use Rattle.engine_calls.specs.Frames.{by_rank}
use Rattle.engine_calls.specs.Steps.{written}
use Rattle.engine_calls.proofs.frames.frames_rank_for_rank.Given as goal

abbrev pub invariant-loop-rank : goal.invariant-loop-rank
invariant-loop-rank l = sendings l.frames.items ≡ by_rank l.rank (map written l.messages)
