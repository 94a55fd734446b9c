use Rattle.std.proofs.Common.{◌≡◌, ◌+◌, ◌++◌, ℕ, List, length, sym, subst, arith}
use Rattle.std.proofs.lemmas.Grind.{common_steps}
use Rattle.script_players.specs.Players.{PlayerState}
use Rattle.script_plays.proofs.MoveLaws.{begun_more, count_more}
use Rattle.script_plays.specs.Plays.{players_of}
use Rattle.script_plays.proofs.playing.all_begin.Goals as goal

-- src/playing.rt:115:5
pub loop-script-preserved : goal.loop-script-preserved
loop-script-preserved c = record {
  players =
      subst (λ (ps : List PlayerState). ps ++ players_of (length ps) c.next.new.self.rest.items ≡
      players_of 0 c.args.scripts.items) (sym c.in_ok-push.ensures.items)
      (begun_more c.loop-script.players.items c.in-Some.script c.next.new.self.rest.items
      c.loop-script.script-iterator.rest.items (players_of 0 c.args.scripts.items) c.in_ok-new.field-0 _
      (grind (arith, common_steps)) c.in_ok-new.ensures c.in-Some.ensures.steps.0 c.loop-script.invariant.players);
  count = subst (λ (ps : List PlayerState). length ps + length c.next.new.self.rest.items ≡ length c.args.scripts.items)
      (sym c.in_ok-push.ensures.items)
      (count_more c.loop-script.players.items c.in-Some.script c.next.new.self.rest.items
      c.loop-script.script-iterator.rest.items c.in_ok-new.field-0 (length c.args.scripts.items)
      c.in-Some.ensures.steps.0 c.loop-script.invariant.count);
}
