-- The way of a play: its first moves, and one more.
use Rattle.std.proofs.Common.{◌≡◌, ℕ, zero, suc, ◌+◌, ◌<◌, List, [], ◌∷◌, ◌++◌, length, Option, Some, None, slice_get}
use Rattle.std.proofs.Common.{refl, ap, ◌∙◌, subst, arith}
use Rattle.std.proofs.lemmas.Option.{none-some, same_Some}
use Rattle.script_files.specs.declared.script.ScriptLine.{ScriptLine}
use Rattle.script_players.specs.Players.{PlayerState}
use Rattle.event_loop.specs.declared.loop_state.RunnerState.TheVariants.{Ready}
use Rattle.script_plays.specs.Plays.{HasHeadline, MoveGives, PlayState, ScheduleGives, players_of}
use Rattle.script_plays.specs.declared.moves.Move.{Move}
use Rattle.proof_script_processes.specs.Processes.{script_at}
use Rattle.script_runner.specs.ScriptSteps.{opening}

pub headline_of : (ms : List Move) (old new : PlayState) → ScheduleGives old ms new → HasHeadline old.world
headline_of [] old new g = g.1
headline_of (m ∷ ms) old new g = g.0

pub one_more : (done : List Move) (a b : PlayState) → ScheduleGives a done b → (m : Move) (c : PlayState) →
    MoveGives b m c → HasHeadline c.world → ScheduleGives a (done ++ m ∷ []) c
one_more [] a b g m c mv run = (g.1, (c, subst (λ (x : PlayState). MoveGives x m c) g.0 mv, (refl, run)))
one_more (d ∷ done) a b g m c mv run = (g.0, (g.1.0, g.1.1, one_more done g.1.0 b g.1.2 m c mv run))

-- the player of a rank at the start
pub player_at : (k : ℕ) (scripts : List (List ScriptLine)) (r : ℕ) (p : PlayerState) →
    slice_get (players_of k scripts) r ≡ Some p →
    (record { runner = opening (script_at scripts r) (k + r) 0; state = Ready None; lines = []; refused = [] } ≡ p) ×
    (r < length scripts)
player_at k [] r p h = absurd (none-some p h)
player_at k (s ∷ scripts) zero p h = (
  ap (λ (x : ℕ). record { runner = opening s x 0; state = Ready None; lines = []; refused = [] }) (omega arith) ∙
      same_Some _ p h,
  omega arith,
)
player_at k (s ∷ scripts) (suc r) p h =
    let t = player_at (suc k) scripts r p h in (
      ap (λ (x : ℕ).
          record { runner = opening (script_at scripts r) x 0; state = Ready None; lines = []; refused = [] })
          (omega arith) ∙ t.0,
      let u : r < length scripts = t.1 in omega (arith, u),
    )
