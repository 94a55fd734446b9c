-- Runners and their processes stay alike.
use Rattle.std.proofs.Common.{◌≡◌, ℕ, List, [], ◌∷◌, ◌++◌, Option, None, refl, ap, ◌∙◌, append-nil, arith}
use Rattle.engine_calls.specs.declared.call.Call.{Call}
use Rattle.engine_calls.specs.declared.reply.Completion.TheVariants as completions
use Rattle.engine_calls.specs.declared.reply.Reply.{Reply}
use Rattle.engine_calls.specs.declared.reply.Reply.TheVariants as replies
use Rattle.proof_one_meaning.specs.Plays.{Player}
use Rattle.event_loop.specs.declared.runner.RunnerStep.{RunnerStep}
use Rattle.event_loop.specs.declared.runner.RunnerStep.TheVariants as steps
use Rattle.script_runner.specs.ScriptSteps.{NextGives, ScriptState}
use Rattle.script_plays.specs.Alike.{AnswersAreAlike, CallsAreAlike, EndsAreAlike, IsReadyAlike, LinesAreAlike}
use Rattle.script_players.specs.Players.{PlayerState}
use Rattle.proof_script_processes.specs.ProcessViews.{GoesAlong}
use Rattle.proof_script_processes.specs.Processes.{Running}
use Rattle.proof_script_processes.proofs.ProcessViews.{runners_follow}

-- what a step is by: no call and no line is an end
abbrev is_end : RunnerStep → ℕ
is_end (steps.Call call) = 0
is_end (steps.Print line) = 0
is_end (steps.End status line) = 1

along : (p : PlayerState) (reply : Option Reply) (q : Player Running) (step : RunnerStep) (s : ScriptState) →
    IsReadyAlike p reply q → NextGives p.runner reply step s → (step ≡ steps.End 6 None → ⊥) →
    GoesAlong s step q.process q.told
along p reply q step s a n six = runners_follow p.runner s reply step q.process q.told a.follows n six

pub no_call : (call : Call) → steps.Call call ≡ steps.End 6 None → ⊥
no_call call e = let x : 0 ≡ 1 = ap is_end e in omega (arith, x)

pub no_line : (line : List ℕ) → steps.Print line ≡ steps.End 6 None → ⊥
no_line line e = let x : 0 ≡ 1 = ap is_end e in omega (arith, x)

pub lines_are_alike : LinesAreAlike
lines_are_alike p reply q line s a n =
    let g = along p reply q (steps.Print line) s a n (no_line line) in (
      record { running = a.runs; free = a.free; is_next = g.does },
      record {
        follows = g.untold;
        free = refl;
        runs = refl;
        lines =
            ap (λ (ls : List (List ℕ)). ls ++ line ∷ []) a.lines;
      },
    )

pub ends_are_alike : EndsAreAlike
ends_are_alike p reply q status line s a n six =
    let g = along p reply q (steps.End status line) s a n six in (
      record { running = a.runs; free = a.free; is_next = g.does },
      record { ended = refl; lines = append-nil q.lines ∙ a.lines },
    )

pub calls_are_alike : CallsAreAlike
calls_are_alike p reply q call s refused a n =
    let g = along p reply q (steps.Call call) s a n (no_call call) in (
      record { running = a.runs; free = a.free; is_next = g.does },
      record {
        follows = λ told to. g.told call told refl to;
        blocked = refl;
        runs = refl;
        lines =
            append-nil q.lines ∙ a.lines;
      },
      λ told to. record {
        follows = g.told call told refl to;
        free = refl;
        runs = refl;
        lines =
            append-nil q.lines ∙ a.lines;
      },
    )

pub answers_are_alike : AnswersAreAlike
answers_are_alike p call q (completions.Requests a) w =
    record { follows = w.follows (replies.Done a) tt; free = refl; runs = w.runs; lines = w.lines }
answers_are_alike p call q (completions.Collective a) w =
    record { follows = w.follows (replies.Left a) tt; free = refl; runs = w.runs; lines = w.lines }
