use Rattle.std.proofs.Common.{◌≡◌, ◌++◌, ◌==◌, map, take, filter}
use Rattle.sessions.specs.Events.{sendings}
use Rattle.engine_calls.specs.Steps.{written}
use Rattle.engine_calls.proofs.frames.add_for.Given as goal

abbrev pub invariant-loop-message : goal.invariant-loop-message
invariant-loop-message l =
    sendings l.frames.items ≡ sendings l.fn.frames.items ++
    filter (λ f. f.target == l.rank) (map written (take l.message-index l.messages))
