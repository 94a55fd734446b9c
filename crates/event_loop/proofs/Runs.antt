-- Runs that go on by one more.
use Rattle.std.proofs.Common.{◌≡◌, ℕ, List, [], ◌∷◌, ◌++◌, refl, subst}
use Rattle.std.specs.Prelude.{Option, None, Ok}
use Rattle.event_loop.specs.declared.exchange.Exchange.{Exchange}
use Rattle.event_loop.specs.Drives.{Course, RoundGives, Rounds, Tells}
use Rattle.engine_calls.specs.declared.reply.Reply.{Reply}
use Rattle.engine_calls.specs.EngineState.{EngineState}
use Rattle.engine.specs.Datagrams.{DatagramGives}
use Rattle.event_loop.specs.declared.input.Input.{Input}
use Rattle.event_loop.specs.declared.runner.RunnerStep.{RunnerStep}
use Rattle.event_loop.specs.declared.runner.RunnerStep.TheVariants as steps
use Rattle.event_loop.specs.Input.{TakesIn, Word, after_all, after_one}
use Rattle.event_loop.specs.RunnerLines.{Speaks}

pub takes_more : (ws : List Word) (a b c : EngineState) (w : Word) → TakesIn a ws b → DatagramGives b w.0 w.1 c →
    TakesIn a (ws ++ w ∷ []) c
takes_more [] a b c w is gives = (c, subst (λ (x : EngineState). DatagramGives x w.0 w.1 c) is gives, refl)
takes_more (v ∷ ws) a b c w is gives = (is.0, is.1, takes_more ws is.0 b c w is.2 gives)

pub heard_more : (ws : List Word) (h : Input) (w : Word) → after_all h (ws ++ w ∷ []) ≡ after_one (after_all h ws) w.1
heard_more [] h w = refl
heard_more (v ∷ ws) h w = heard_more ws (after_one h v.1) w

pub speaks_more : {P : Type 0} (does : P → Option Reply → RunnerStep → P → Type 0) (lines : List (List ℕ)) (a : P)
    (reply : Option Reply) (line : List ℕ) (b : P) (step : RunnerStep) (c : P) →
    Speaks does a reply lines (steps.Print line) b → does b None step c →
    Speaks does a reply (lines ++ line ∷ []) step c
speaks_more does [] a reply line b step c first next = (b, first, next)
speaks_more does (l ∷ lines) a reply line b step c first next =
    (first.0, first.1, speaks_more does lines first.0 None line b step c first.2 next)

pub tells_more : {C : Type 0} (told : C → ℕ → C → Type 0) (nows : List ℕ) (a b : C) (now : ℕ) (c : C) →
    Tells told a nows b → told b now c → Tells told a (nows ++ now ∷ []) c
tells_more told [] a b now c is next = (c, subst (λ x. told x now c) is next, refl)
tells_more told (n ∷ nows) a b now c is next = (is.0, is.1, tells_more told nows is.0 b now c is.2 next)

pub rounds_more : {P T : Type 0} (does : P → Option Reply → RunnerStep → P → Type 0) (passed : T → List Exchange → T →
    Type 0) (waits : T → List ℕ) (patience : ℕ)
    (nows : List ℕ) (a b : Course P T) (now : ℕ) (c : Course P T) → Rounds does passed waits patience a nows b →
    RoundGives does passed waits patience b now (Ok None) c.engine c.runner c.state c.transport →
    Rounds does passed waits patience a (nows ++ now ∷ []) c
rounds_more does passed waits patience [] a b now c is next = (
  c,
  subst (λ x. RoundGives does passed waits patience x now (Ok None) c.engine c.runner c.state c.transport) is next,
  refl,
)
rounds_more does passed waits patience (n ∷ nows) a b now c is next =
    (is.0, is.1, rounds_more does passed waits patience nows is.0 b now c is.2 next)
