-- The players so far, and those of the scripts that are left, are those of all.
use Rattle.std.proofs.Common.{◌≡◌, ◌++◌, ◌+◌, length}
use Rattle.script_plays.specs.Plays.{players_of}
use Rattle.script_plays.proofs.playing.all_begin.Given as goal

abbrev pub invariant-loop-script : goal.invariant-loop-script
invariant-loop-script l = record {
  players : l.players.items ++ players_of (length l.players.items) l.script-iterator.rest.items ≡
      players_of 0 l.fn.scripts.items;
  count : length l.players.items + length l.script-iterator.rest.items ≡ length l.fn.scripts.items;
}
