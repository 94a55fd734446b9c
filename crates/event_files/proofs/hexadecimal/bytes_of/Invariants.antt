use Rattle.std.proofs.Common.{◌≡◌, ◌*◌, drop}
use Rattle.event_files.specs.LineWords.{bytes_of}
use Rattle.event_files.proofs.HexLaws.{with_bytes}
use Rattle.event_files.proofs.hexadecimal.bytes_of.Given as goal

abbrev pub invariant-loop-place : goal.invariant-loop-place
invariant-loop-place l = with_bytes l.bytes.items (bytes_of (drop (2 * l.place) l.word)) ≡ bytes_of l.word
