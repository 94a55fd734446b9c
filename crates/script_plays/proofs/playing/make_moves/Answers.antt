use Rattle.script_plays.proofs.MoveLaws.{rest_on, sizes_on}
use Rattle.script_plays.proofs.playing.make_moves.Goals as goal

-- src/playing.rt:101:5
pub loop-next-preserved : goal.loop-next-preserved
loop-next-preserved c = record {
  sizes = sizes_on _ _ _ c.in_ok-make_move.ensures c.loop-next.invariant.sizes;
  rest = rest_on _ _ _ _ _ _ c.loop-next-test.true c.history-seen.ensures.headline c.history-seen.ensures.law
      c.in_ok-make_move.ensures c.loop-next.invariant.rest;
}
