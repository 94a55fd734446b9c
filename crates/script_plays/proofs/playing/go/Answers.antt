use Rattle.std.proofs.Common.{arith}
use Rattle.std.proofs.lemmas.Grind.{common_steps}
use Rattle.script_plays.proofs.MoveLaws.{on_ok, player_goes}
use Rattle.script_plays.proofs.playing.go.Goals as goal

-- src/playing.rt:55:1
pub returns : goal.returns
returns c =
    on_ok c.go_on.result _ _
    (λ g. player_goes c.args.world.now c.go_on.new.world c.args.players.now.items c.args.rank
    c.index_mut-player.result.now c.go_on.new.self (grind (arith, common_steps)) c.index_mut-player.ensures.value g)
    c.go_on.ensures
