-- A rank that plays in a world, and one that plays over the machine.
use Rattle.std.specs.Prelude.{◌≡◌, ℕ, true, false, List, [], ◌∷◌, ◌++◌, Option, Some, None}
use Rattle.engine_calls.specs.declared.call.Call.{Call}
use Rattle.engine_calls.specs.declared.reply.Completion.{Completion}
use Rattle.engine_calls.specs.declared.reply.Reply.{Reply}
use Rattle.one_meaning.specs.Courses.{Calls, Ends, Prints}
use Rattle.observation.specs.EngineCalls.{call_seen}
use Rattle.proof_one_meaning.specs.Plays.{IsAt, Player, gone_on}
use Rattle.event_loop.specs.declared.runner.RunnerStep.TheVariants as steps
use Rattle.script_runner.specs.ScriptSteps.{NextGives, ScriptState}
use Rattle.replies.specs.Copies.{reply_of}
use Rattle.script_players.specs.Players.{PlayerState}
use Rattle.event_loop.specs.declared.loop_state.RunnerState.{RunnerState}
use Rattle.event_loop.specs.declared.loop_state.RunnerState.TheVariants.{Blocked, Over, Ready}
use Rattle.proof_script_processes.specs.ProcessViews.{Follows}
use Rattle.proof_script_processes.specs.PlainRequests.{plain_call}
use Rattle.proof_script_processes.specs.ReplyViews.{IsReplyTo, told_of}
use Rattle.proof_script_processes.specs.Processes.{Running, next_in_script}

-- ready to go on, and told alike
pub record IsReadyAlike (p : PlayerState) (reply : Option Reply) (q : Player Running) : Type 0 where
  pub follows : Follows p.runner reply q.process q.told
  pub free : q.blocked ≡ false
  pub runs : q.ended ≡ false
  pub lines : q.lines ≡ p.lines

-- blocked in a call, and alike whatever that will be answered
pub record WaitsAlike (p : PlayerState) (call : Call) (q : Player Running) : Type 0 where
  pub follows : (reply : Reply) → IsReplyTo (plain_call call) reply →
      Follows p.runner (Some reply) q.process (Some (told_of reply))
  pub blocked : q.blocked ≡ true
  pub runs : q.ended ≡ false
  pub lines : q.lines ≡ p.lines

-- at an end
pub record IsOverAlike (p : PlayerState) (q : Player Running) : Type 0 where
  pub ended : q.ended ≡ true
  pub lines : q.lines ≡ p.lines

abbrev pub IsAlikeAt : RunnerState Call → PlayerState → Player Running → Type 0
IsAlikeAt (Ready reply) p q = IsReadyAlike p reply q
IsAlikeAt (Blocked call) p q = WaitsAlike p call q
IsAlikeAt (Over status line) p q = IsOverAlike p q

abbrev pub IsAlike : PlayerState → Player Running → Type 0
IsAlike p q = IsAlikeAt p.state p q

-- A line that a runner prints is one that its process prints, and they stay alike
abbrev pub LinesAreAlike : Type 0
LinesAreAlike =
    (p : PlayerState) (reply : Option Reply) (q : Player Running) (line : List ℕ) (s : ScriptState) →
    IsReadyAlike p reply q → NextGives p.runner reply (steps.Print line) s →
    IsAt next_in_script q (Prints line) ×
    IsAlike (record { runner = s; state = Ready None; lines = p.lines ++ line ∷ []; refused = p.refused })
    (gone_on next_in_script q None false (line ∷ []) false)

-- and so is an end, but where the runner ends with 6
abbrev pub EndsAreAlike : Type 0
EndsAreAlike =
    (p : PlayerState) (reply : Option Reply) (q : Player Running) (status : ℕ) (line : Option ℕ) (s : ScriptState) →
    IsReadyAlike p reply q → NextGives p.runner reply (steps.End status line) s →
    (steps.End status line ≡ steps.End 6 None → ⊥) →
    IsAt next_in_script q (Ends status) ×
    IsAlike (record { runner = s; state = Over status line; lines = p.lines; refused = p.refused })
    (gone_on next_in_script q None false [] true)

-- and a call; they stay alike where both are told the reply, or neither is, for the call is blocked
abbrev pub CallsAreAlike : Type 0
CallsAreAlike =
    (p : PlayerState) (reply : Option Reply) (q : Player Running) (call : Call) (s : ScriptState) (refused : List ℕ) →
    IsReadyAlike p reply q → NextGives p.runner reply (steps.Call call) s →
    IsAt next_in_script q (Calls (call_seen call))
    × IsAlike (record { runner = s; state = Blocked call; lines = p.lines; refused = refused })
    (gone_on next_in_script q None true [] false)
    × ((told : Reply) → IsReplyTo (plain_call call) told →
    IsAlike (record { runner = s; state = Ready (Some told); lines = p.lines; refused = refused })
    (gone_on next_in_script q (Some (told_of told)) false [] false))

-- and so they stay when a blocked call is answered
abbrev pub AnswersAreAlike : Type 0
AnswersAreAlike =
    (p : PlayerState) (call : Call) (q : Player Running) (c : Completion) → WaitsAlike p call q →
    IsAlike (record p { state = Ready (Some (reply_of c)) })
    (record {
      process = q.process;
      told = Some (told_of (reply_of c));
      blocked = false;
      lines = q.lines;
      ended =
          q.ended;
    })
