-- What the moves that are left give now is what all of them give from the start.
use Rattle.std.proofs.Common.{◌≡◌, drop, length}
use Rattle.script_plays.specs.Plays.{PlayState, ScheduleGives}
use Rattle.script_plays.proofs.playing.make_moves.Given as goal

abbrev pub invariant-loop-next : goal.invariant-loop-next
invariant-loop-next l = record {
  sizes : length l.players.items ≡ length l.world.engines;
  rest : (new : PlayState) →
      ScheduleGives (record { world = l.world; players = l.players.items }) (drop l.next-index l.schedule) new →
      ScheduleGives (record { world = l.initial.world; players = l.initial.players.items }) l.schedule new;
}
