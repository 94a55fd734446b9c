use Rattle.std.proofs.Common.{arith}
use Rattle.std.proofs.lemmas.Grind.{common_steps}
use Rattle.script_plays.proofs.Histories.{histories_are_of_schedules}
use Rattle.script_plays.proofs.MoveLaws.{play_gives, sizes_begin}
use Rattle.script_plays.proofs.Whole.{plays_are_the_meaning}
use Rattle.script_plays.proofs.playing.play.Goals as goal

-- src/playing.rt:150:8
pub make_moves-requires : goal.make_moves-requires
make_moves-requires c =
    sizes_begin c.args.scripts.items c.in_ok-world.world c.in-Ok.players.items _ c.in_ok-world.ensures.opening
    (grind (arith, common_steps)) c.in-Ok.ensures

-- src/playing.rt:131:1
pub returns-in-Ok-make_moves-clause-history : goal.returns-in-Ok-make_moves-clause-history
returns-in-Ok-make_moves-clause-history c =
    histories_are_of_schedules c.args.scripts.items c.args.schedule.now
    (record { world = c.make_moves.new.world; players = c.make_moves.new.players.items })
    (play_gives c.args.scripts.items c.args.schedule.now c.in_ok-world.world c.in-Ok.players.items _ _
    c.in_ok-world.ensures.opening (grind (arith, common_steps)) c.in-Ok.ensures c.in-Ok-make_moves.ensures)

-- src/playing.rt:131:1
pub returns-in-Ok-make_moves-clause-one_meaning : goal.returns-in-Ok-make_moves-clause-one_meaning
returns-in-Ok-make_moves-clause-one_meaning c =
    plays_are_the_meaning c.args.scripts.items c.args.schedule.now
    (record { world = c.make_moves.new.world; players = c.make_moves.new.players.items })
    (grind (arith, common_steps)) (grind (arith, common_steps))
    (play_gives c.args.scripts.items c.args.schedule.now c.in_ok-world.world c.in-Ok.players.items _ _
    c.in_ok-world.ensures.opening (grind (arith, common_steps)) c.in-Ok.ensures c.in-Ok-make_moves.ensures)
