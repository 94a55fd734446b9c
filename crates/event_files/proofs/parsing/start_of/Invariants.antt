use Rattle.std.proofs.Common.{◌≡◌, ◌+◌, ◌≤◌, length, drop}
use Rattle.tokens.proofs.Lists.{shown}
use Rattle.event_files.specs.Starts.{file_from}
use Rattle.event_files.proofs.parsing.start_of.Given as goal

abbrev pub invariant-loop-place : goal.invariant-loop-place
invariant-loop-place l =
    (l.place ≤ length l.lines) × (file_from (l.place + 1) (shown (drop l.place l.lines)) ≡ file_from 1 (shown l.lines))
