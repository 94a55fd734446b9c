-- Where a play went without limits, so did each of its beginnings.
use Rattle.std.proofs.Common.{◌≡◌, ◌≢◌, ℕ, Bool, true, false, List, [], ◌∷◌, ◌++◌, Option, Some, None, Result, Ok, Err}
use Rattle.std.proofs.Common.{◌==◌, slice_get, slice_set, refl, sym, ap, ◌∙◌, subst}
use Rattle.std.specs.List.{AllByRecursion}
use Rattle.std.proofs.lemmas.Bool.{eqb-true}
use Rattle.std.proofs.lemmas.Option.{same_Some}
use Rattle.engine_calls.specs.declared.reply.Completion.{Completion}
use Rattle.event_loop.specs.declared.runner.RunnerStep.{RunnerStep}
use Rattle.event_loop.specs.declared.runner.RunnerStep.TheVariants as steps
use Rattle.script_runner.specs.ScriptSteps.{ScriptState}
use Rattle.script_plays.specs.MeaningViews.{AreFine, HasNotSix, IsFine}
use Rattle.script_players.specs.Players.{PlayerState, number_in, told_completion, told_if}
use Rattle.script_plays.specs.Plays.{CallMoves, EventGives, GoGives, GoesBy, MoveGives, PlayState, ScheduleGives}
use Rattle.script_plays.specs.Plays.{StepMoves, with_told}
use Rattle.engine_calls.specs.declared.call.Call.{Call}
use Rattle.event_loop.specs.declared.loop_state.RunnerState.{RunnerState}
use Rattle.event_loop.specs.declared.loop_state.RunnerState.TheVariants.{Blocked, Over, Ready}
use Rattle.script_plays.specs.declared.moves.Move.{Move}
use Rattle.script_plays.specs.declared.moves.Move.TheVariants as moves
use Rattle.world.specs.declared.event.Event.{Event}
use Rattle.world.specs.declared.event.Event.TheVariants as events
use Rattle.world.specs.declared.event.Failed.{Failed}
use Rattle.world.specs.declared.event.Stepped.{Stepped}
use Rattle.script_plays.proofs.PlayerLaws.{not_at, set_other, set_there}

-- no limit among more numbers is none among fewer
pub fewer : (a b : List ℕ) → AllByRecursion (λ x. (x ≢ 13) × (x ≢ 14)) (a ++ b) →
    AllByRecursion (λ x. (x ≢ 13) × (x ≢ 14)) a
fewer [] b h = tt
fewer (x ∷ a) b h = (h.0, fewer a b h.1)

pub later : (a b : List ℕ) → AllByRecursion (λ x. (x ≢ 13) × (x ≢ 14)) (a ++ b) →
    AllByRecursion (λ x. (x ≢ 13) × (x ≢ 14)) b
later [] b h = h
later (x ∷ a) b h = later a b h.1

-- a player that was changed at its rank
pub one_back : (old : List PlayerState) (new : PlayState) (r : ℕ) (p a : PlayerState) → slice_get old r ≡ Some p →
    new.players ≡ slice_set old r a → AreFine new → (IsFine a → IsFine p) →
    (x : ℕ) (y : PlayerState) → slice_get old x ≡ Some y → IsFine y
one_back old new r p a is e fine back x y at = go (x == r) refl
  where
    go : (b : Bool) → (x == r) ≡ b → IsFine y
    go true t =
        subst IsFine (same_Some p y (sym is ∙ (ap (slice_get old) (sym (eqb-true x r t)) ∙ at)))
        (back (fine r a (ap (λ (ps : List PlayerState). slice_get ps r) e ∙ set_there old r a p is)))
    go false t = fine x y (ap (λ (ps : List PlayerState). slice_get ps x) e ∙ (set_other old r x a (not_at x r t) ∙ at))

same_back : (old new : PlayState) → new ≡ old → AreFine new → AreFine old
same_back old new e fine = subst AreFine e fine

not_six : (p : PlayerState) (reply : Option _) → p.state ≡ Ready reply → HasNotSix p.state
not_six p reply e = subst HasNotSix (sym e) tt

step_back : (old : PlayState) (r : ℕ) (p : PlayerState) (s : ScriptState) (step : RunnerStep) (new : PlayState) →
    slice_get old.players r ≡ Some p → HasNotSix p.state → StepMoves old r p s step new → AreFine new → AreFine old
step_back old r p s (steps.Print line) new is six g fine =
    one_back old.players new r p _ is (ap (λ (x : PlayState). x.players) g) fine
    (λ f. record { limit = f.limit; six = six })
step_back old r p s (steps.End status line) new is six g fine =
    one_back old.players new r p _ is (ap (λ (x : PlayState). x.players) g) fine
    (λ f. record { limit = f.limit; six = six })
step_back old r p s (steps.Call call) new is six g fine = go g.0 g.1
  where
    go : (result : Result Stepped Failed) → CallMoves old r p s call result new → AreFine old
    go (Ok added) h =
        one_back old.players new r p _ is (ap (λ (x : PlayState). x.players) h.4) fine
        (λ f. record { limit = f.limit; six = six })
    go (Err failed) h =
        one_back old.players new r p _ is (ap (λ (x : PlayState). x.players) h.4) fine
        (λ f. record { limit = fewer p.refused (number_in failed.refused) f.limit; six = six })

go_back : (old : PlayState) (r : ℕ) (o : Option PlayerState) (new : PlayState) → slice_get old.players r ≡ o →
    GoGives old r o new → AreFine new → AreFine old
go_back old r None new is g fine = same_back old new g fine
go_back old r (Some p) new is g fine = go p.state refl g
  where
    go : (state : RunnerState Call) → p.state ≡ state → GoesBy old r p state new → AreFine old
    go (Ready reply) e h = step_back old r p h.1 h.0 new is (not_six p reply e) h.3 fine
    go (Blocked call) e h = same_back old new h fine
    go (Over status line) e h = same_back old new h fine

-- what an answer leaves of a player
told_back : (p : PlayerState) (c : Completion) → IsFine (told_completion (Some c) p) → IsFine p
told_back p c f = go p.state refl f
  where
    go : (state : RunnerState Call) → p.state ≡ state → IsFine (told_if state c p) → IsFine p
    go (Blocked call) e f = record { limit = f.limit; six = subst HasNotSix (sym e) tt }
    go (Ready reply) e f = f
    go (Over status line) e f = f

event_back : (old : PlayState) (event : Event) (result : Result Stepped Failed) (new : PlayState) →
    EventGives old event result new → AreFine new → AreFine old
event_back old event (Err failed) new g fine =
    λ x y is. fine x y (ap (λ (st : PlayState). slice_get st.players x) g.2 ∙ is)
event_back old event (Ok added) new g fine =
    go (slice_get old.players g.1.gave.endpoint.rank) refl (ap (λ (x : PlayState). x.players) g.2)
  where
    go : (o : Option PlayerState) → slice_get old.players g.1.gave.endpoint.rank ≡ o →
        new.players ≡ with_told old.players g.1.gave.endpoint.rank g.1.gave.completion o → AreFine old
    go None is e = λ x y at. fine x y (ap (λ (ps : List PlayerState). slice_get ps x) e ∙ at)
    go (Some p) is e = by g.1.gave.completion e
      where
        by : (c : Option Completion) →
            new.players ≡ slice_set old.players g.1.gave.endpoint.rank (told_completion c p) → AreFine old
        by None ne = one_back old.players new g.1.gave.endpoint.rank p p is ne fine (λ f. f)
        by (Some c) ne =
            one_back old.players new g.1.gave.endpoint.rank p (told_completion (Some c) p) is ne fine (told_back p c)

-- ONE MOVE BACK
pub move_back : (old : PlayState) (m : Move) (new : PlayState) → MoveGives old m new → AreFine new → AreFine old
move_back old (moves.Go r) new g fine = go_back old r (slice_get old.players r) new refl g fine
move_back old (moves.Deliver d) new g fine = event_back old (events.Deliver d) g.0 new g.1 fine
move_back old (moves.Tick r now) new g fine = event_back old (events.Tick r now) g.0 new g.1 fine

-- ALL MOVES BACK
pub all_back : (ms : List Move) (old new : PlayState) → ScheduleGives old ms new → AreFine new → AreFine old
all_back [] old new g fine = subst AreFine g.0 fine
all_back (m ∷ ms) old new g fine = move_back old m g.1.0 g.1.1 (all_back ms g.1.0 new g.1.2 fine)
