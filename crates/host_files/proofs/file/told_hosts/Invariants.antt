-- The hosts so far, in front of what the lines that are left tell, are what all lines tell.
use Rattle.std.proofs.Common.{◌≡◌, ◌+◌, drop, map}
use Rattle.host_files.specs.Files.{in_front, told_from}
use Rattle.host_files.specs.Lines.{shown}
use Rattle.host_files.proofs.file.told_hosts.Given as goal

abbrev pub invariant-loop-place : goal.invariant-loop-place
invariant-loop-place l =
    in_front (map shown l.hosts.items) (told_from (l.place + 1) (map (λ line. line.now) (drop l.place l.lines)))
    ≡ told_from 1 (map (λ line. line.now) l.lines)
