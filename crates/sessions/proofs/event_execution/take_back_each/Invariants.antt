use Rattle.std.proofs.Common.{◌≡◌, ◌-◌, length, drop}
use Rattle.sessions.specs.Events.{sendings}
use Rattle.sessions.specs.EventExecution.{all_taken_back}
use Rattle.sessions.proofs.event_execution.take_back_each.Given as goal

abbrev pub invariant-loop-done : goal.invariant-loop-done
invariant-loop-done l =
    l.peers.items ≡ all_taken_back l.fn.peers.items (sendings (drop (length l.frames - l.done) l.frames))
