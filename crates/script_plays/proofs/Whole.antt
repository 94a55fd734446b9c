-- Plays are the one meaning.
use Rattle.std.proofs.Common.{◌≡◌, ℕ, zero, suc, ◌+◌, ◌<◌, ◌≤◌, Bool, true, false, List, [], ◌∷◌, ◌++◌, length, Option}
use Rattle.std.proofs.Common.{Some, None, Result, Ok, Err, slice_get, slice_set, refl, sym, ap, ap₂, ◌∙◌, subst}
use Rattle.std.proofs.Common.{append-nil, append_assoc, arith}
use Rattle.std.proofs.lemmas.Bool.{lt-leb}
use Rattle.std.proofs.lemmas.Option.{none-some, same_Some}
use Rattle.proof_network_bridge.specs.WorldViews.{limit_in}
use Rattle.vocabulary.specs.MessageLimits.{least}
use Rattle.vocabulary.specs.declared.message_limit.MessageLimit.{MessageLimit}
use Rattle.vocabulary.specs.declared.endpoint.Endpoint.{Endpoint}
use Rattle.engine_calls.specs.declared.call.Call.{Call}
use Rattle.engine_calls.specs.declared.reply.Completion.{Completion}
use Rattle.engine_calls.specs.declared.reply.Completion.TheVariants as completions
use Rattle.engine_calls.specs.declared.reply.Reply.{Reply}
use Rattle.one_meaning.specs.Courses.{RecordsAgree, Replied, Told, accounts}
use Rattle.perfect_groups.specs.Calls as machine
use Rattle.perfect_groups.specs.Communicators.{first_endpoint}
use Rattle.perfect_groups.specs.Events.{Completed}
use Rattle.perfect_groups.specs.Events as seen_events
use Rattle.perfect_groups.specs.Runs.{IsHistory}
use Rattle.observation.specs.Endings.{ending_is}
use Rattle.observation.specs.CoreCalls.{answer_seen}
use Rattle.observation.specs.EngineCalls.{told_call, told_completion}
use Rattle.proof_one_meaning.proofs.Beginnings.{beginnings_are_histories}
use Rattle.proof_one_meaning.specs.Plays.{Player, PlaysOn, PlaysTheMeaning, WasAnswered, players_at_start, with_player}
use Rattle.event_loop.specs.declared.runner.RunnerStep.{RunnerStep}
use Rattle.event_loop.specs.declared.runner.RunnerStep.TheVariants as steps
use Rattle.script_runner.specs.ScriptSteps.{NextGives, ScriptState, opening}
use Rattle.script_files.specs.declared.script.ScriptLine.{ScriptLine}
use Rattle.script_plays.specs.Alike.{IsAlike, IsAlikeAt, IsOverAlike, WaitsAlike}
use Rattle.script_plays.specs.MeaningViews.{AreFine}
use Rattle.replies.specs.Copies.{reply_of}
use Rattle.script_players.specs.Players.{PlayerState, is_over, state_by, told_if}
use Rattle.script_plays.specs.PlayLaws.{PlaysAreTheMeaning}
use Rattle.script_plays.specs.Plays.{CallMoves, EventGives, GoGives, GoesBy, HasHeadline, MoveGives, PlayGives}
use Rattle.script_plays.specs.Plays.{PlayState, ScheduleGives, StepMoves, play_opening, players_of, with_told}
use Rattle.event_loop.specs.declared.loop_state.RunnerState.{RunnerState}
use Rattle.event_loop.specs.declared.loop_state.RunnerState.TheVariants.{Blocked, Over, Ready}
use Rattle.script_plays.specs.declared.moves.Move.{Move}
use Rattle.script_plays.specs.declared.moves.Move.TheVariants as moves
use Rattle.proof_script_processes.specs.ReplyViews.{told_of}
use Rattle.proof_script_processes.specs.Processes.{Running, next_in_script, running_at_start, script_at}
use Rattle.proof_script_processes.specs.ScriptLaws.{AreCoveredScripts, meaning_of}
use Rattle.proof_script_processes.proofs.StepBounds.{scripts_blocked, scripts_play_their_meaning}
use Rattle.proof_script_processes.proofs.ProcessViews.{starts_follow}
use Rattle.world.specs.Headline.{event_seen, history_seen}
use Rattle.world.specs.Steps.{Gave, entry_of}
use Rattle.world.specs.WorldState.{WorldState}
use Rattle.world.specs.declared.event.Event.{Event}
use Rattle.world.specs.declared.event.Event.TheVariants as events
use Rattle.world.specs.declared.event.Failed.{Failed}
use Rattle.world.specs.declared.event.Stepped.{Stepped}
use Rattle.script_plays.proofs.Alike.{answers_are_alike}
use Rattle.script_plays.proofs.Fine.{all_back}
use Rattle.script_plays.proofs.Goes.{set_same}
use Rattle.script_plays.proofs.Histories.{worlds_have_histories}
use Rattle.script_plays.proofs.ReplyCopies.{Replies, replies_to}
use Rattle.script_plays.proofs.Join.{Joined, grow, ends, prints, ready_alike, refused, replied, still}
use Rattle.script_plays.proofs.Sizes.{limit_is, size_is}
use Rattle.script_plays.proofs.PlayerLaws.{alike_none, alike_set, answer_first, seen_more, set_there}
use Rattle.script_plays.proofs.Keeps.{call_at}
use Rattle.script_plays.proofs.Ways.{headline_of, one_more, player_at}

-- what all of this is under
pub record Premises (scripts : List (List ScriptLine)) : Type 0 where
  pub some : 0 < length scripts
  pub few : length scripts ≤ 65536
  pub covered : AreCoveredScripts scripts
  pub agrees : RecordsAgree (accounts (meaning_of (length scripts) scripts))

true_false : (b : Bool) → b ≡ true → b ≡ false → ⊥
true_false true h k = absurd (grind arith)
true_false false h k = absurd (grind arith)

over_alike : (p : PlayerState) (status : ℕ) (line : Option ℕ) (q : Player Running) → p.state ≡ Over status line →
    IsAlike p q → IsOverAlike p q
over_alike p status line q e a = subst (λ (state : RunnerState Call). IsAlikeAt state p q) e a

waits_alike : (p : PlayerState) (call : Call) (q : Player Running) → p.state ≡ Blocked call → IsAlike p q →
    WaitsAlike p call q
waits_alike p call q e a = subst (λ (state : RunnerState Call). IsAlikeAt state p q) e a

-- AN ANSWER TO A BLOCKED CALL

-- what a blocked call is answered, as the machine has it
abbrev answer_in : Completion → machine.Answer
answer_in (completions.Requests a) = machine.ByRequests (answer_seen a)
answer_in (completions.Collective o) = machine.ByCollective (ending_is o)

told_as : (e : Endpoint) (c : Completion) → told_completion e (Some c) ≡ Completed e (answer_in c) ∷ []
told_as e (completions.Requests a) = refl
told_as e (completions.Collective o) = refl

as_told : (c : Completion) → Replied (seen_events.as_reply (answer_in c)) ≡ told_of (reply_of c)
as_told (completions.Requests a) = refl
as_told (completions.Collective o) = refl

-- who is answered was blocked
waited : (scripts : List (List ScriptLine)) → Premises scripts →
    (st : PlayState) (j : Joined scripts st) (r : ℕ) (a : machine.Answer) →
    IsHistory (length scripts) least (history_seen st.world.history ++ Completed (first_endpoint r) a ∷ []) →
    (p : PlayerState) → slice_get st.players r ≡ Some p → (call : Call) × (p.state ≡ Blocked call)
waited scripts pre st j r a there p is = by p.state refl
  where
    blocked : ((j.now r).blocked ≡ true) × ((j.now r).ended ≡ false)
    blocked =
        scripts_blocked scripts (length scripts) j.moves j.now (history_seen st.world.history) pre.few pre.some
        pre.covered pre.agrees j.through r a there

    by : (state : RunnerState Call) → p.state ≡ state → (call : Call) × (p.state ≡ Blocked call)
    by (Ready reply) e =
        absurd (true_false (j.now r).blocked blocked.0 (ready_alike p reply (j.now r) e (j.alike r p is)).free)
    by (Over status line) e =
        absurd (true_false (j.now r).ended (over_alike p status line (j.now r) e (j.alike r p is)).ended blocked.1)
    by (Blocked call) e = (call, e)

-- and is told
answered : (scripts : List (List ScriptLine)) → Premises scripts →
    (st : PlayState) (j : Joined scripts st) (r : ℕ) (c : Completion) (w : WorldState) →
    history_seen w.history ≡ history_seen st.world.history ++ told_completion (first_endpoint r) (Some c) →
    IsHistory (length scripts) least (history_seen w.history) →
    (o : Option PlayerState) → slice_get st.players r ≡ o →
    Joined scripts (record { world = w; players = with_told st.players r (Some c) o })
answered scripts pre st j r c w h there = go
  where
    more : history_seen w.history ≡ history_seen st.world.history ++ Completed (first_endpoint r) (answer_in c) ∷ []
    more = h ∙ ap (λ (ys : List seen_events.Entry). history_seen st.world.history ++ ys) (told_as (first_endpoint r) c)

    q' : Player Running
    q' = record {
      process = (j.now r).process;
      told = Some (told_of (reply_of c));
      blocked = false;
      lines =
          (j.now r).lines;
      ended = (j.now r).ended;
    }

    on : PlaysOn next_in_script (length scripts) j.now (history_seen st.world.history) (with_player j.now r q')
        (history_seen w.history)
    on = WasAnswered r (answer_in c) there
        (ap (λ (t : Told). with_player j.now r
        (record {
          process = (j.now r).process;
          told = Some t;
          blocked = false;
          lines = (j.now r).lines;
          ended =
              (j.now r).ended;
        })) (sym (as_told c))) more

    go : (o : Option PlayerState) → slice_get st.players r ≡ o →
        Joined scripts (record { world = w; players = with_told st.players r (Some c) o })
    go None is =
        grow scripts st j (with_player j.now r q') w st.players on (alike_none st.players r j.now q' j.alike is)
    go (Some p) is =
        let t = waited scripts pre st j r (answer_in c) (subst (IsHistory (length scripts) least) more there) p is in
        subst (λ (state : RunnerState Call). Joined scripts
        (record { world = w; players = slice_set st.players r (told_if state c p) })) (sym t.1)
        (grow scripts st j (with_player j.now r q') w _ on
        (alike_set st.players r _ j.now q' j.alike
        (answers_are_alike p t.0 (j.now r) c (waits_alike p t.0 (j.now r) t.1 (j.alike r p is)))))

-- AN EVENT THAT IS NO CALL

delivered : (scripts : List (List ScriptLine)) → Premises scripts → (old : PlayState) →
    (j : Joined scripts old) (event : Event) → ((e : Endpoint) (x : Option Reply) → event_seen e event x ≡ []) →
    (result : Result Stepped Failed) (new : PlayState) → EventGives old event result new →
    IsHistory (length scripts) least (history_seen new.world.history) → Joined scripts new
delivered scripts pre old j event silent (Err failed) new g history =
    subst (Joined scripts) (sym g.2)
    (still scripts old j g.0 (ap (λ (w : WorldState). history_seen w.history) g.1.unchanged))
delivered scripts pre old j event silent (Ok added) new g history =
    go g.1.gave.completion refl (slice_get old.players g.1.gave.endpoint.rank) refl g.2 more
  where
    there : IsHistory (length scripts) least (history_seen g.0.history)
    there = subst (λ (y : PlayState). IsHistory (length scripts) least (history_seen y.world.history)) g.2 history

    more : history_seen g.0.history ≡ history_seen old.world.history ++
        told_completion g.1.gave.endpoint g.1.gave.completion
    more =
        ap history_seen g.1.history
        ∙ (seen_more old.world.history (entry_of event g.1.gave)
        ∙ ap (λ (ys : List seen_events.Entry). history_seen old.world.history ++
        (ys ++ told_completion g.1.gave.endpoint g.1.gave.completion)) (silent g.1.gave.endpoint g.1.gave.reply))

    go : (c : Option Completion) → g.1.gave.completion ≡ c → (o : Option PlayerState) →
        slice_get old.players g.1.gave.endpoint.rank ≡ o →
        new ≡ record { world = g.0; players = with_told old.players g.1.gave.endpoint.rank c o } →
        history_seen g.0.history ≡ history_seen old.world.history ++ told_completion g.1.gave.endpoint c →
        Joined scripts new
    go None ce None is ne h =
        subst (Joined scripts) (sym ne) (still scripts old j g.0 (h ∙ append-nil (history_seen old.world.history)))
    go None ce (Some p) is ne h =
        subst (Joined scripts)
        (sym (ne ∙ ap (λ (ps : List PlayerState). record { world = g.0; players = ps })
        (set_same old.players g.1.gave.endpoint.rank p is)))
        (still scripts old j g.0 (h ∙ append-nil (history_seen old.world.history)))
    go (Some c) ce o is ne h =
        subst (Joined scripts) (sym ne) (answered scripts pre old j g.1.gave.endpoint.rank c g.0 first there o is)
      where
        first : history_seen g.0.history ≡ history_seen old.world.history ++
            told_completion (first_endpoint g.1.gave.endpoint.rank) (Some c)
        first = h ∙ ap (λ (e : Endpoint). history_seen old.world.history ++ told_completion e (Some c))
            (answer_first (length scripts) (history_seen old.world.history) g.1.gave.endpoint c j.fresh
            (subst (IsHistory (length scripts) least) h there))

-- A CALL THAT IS TAKEN

-- a world in which the answer to a blocked call, which came in the same event, isn't noted yet
abbrev halfway : PlayState → Event → Gave → WorldState → WorldState
halfway old event gave w =
    record w { history = old.world.history ++ entry_of event (record gave { completion = None }) ∷ [] }

set_twice : (players : List PlayerState) (r : ℕ) (a b : PlayerState) → slice_set (slice_set players r a) r b ≡
    slice_set players r b
set_twice [] r a b = refl
set_twice (x ∷ xs) zero a b = refl
set_twice (x ∷ xs) (suc r) a b = ap (λ (ys : List PlayerState). x ∷ ys) (set_twice xs r a b)

taken : (scripts : List (List ScriptLine)) → Premises scripts → (old : PlayState) → HasHeadline old.world →
    (j : Joined scripts old) (r : ℕ) (p : PlayerState) (reply : Option Reply) (call : Call) (s : ScriptState)
    (added : Stepped) (new : PlayState) →
    slice_get old.players r ≡ Some p → p.state ≡ Ready reply → NextGives p.runner reply (steps.Call call) s →
    CallMoves old r p s call (Ok added) new → IsHistory (length scripts) least (history_seen new.world.history) →
    Joined scripts new
taken scripts pre old head j r p reply call s added new is e n g history = go g.1.gave.completion refl
  where
    gave : Gave
    gave = g.1.gave

    told : Replies gave.reply g.2
    told = replies_to g.1.ran.engine g.1.ran.ran.mid call gave.reply g.2 g.1.ran.ran.event g.3

    before : List seen_events.Entry
    before = history_seen old.world.history

    there : IsHistory (length scripts) least (history_seen g.0.history)
    there = subst (λ (y : PlayState). IsHistory (length scripts) least (history_seen y.world.history)) g.4 history

    first : gave.endpoint ≡ first_endpoint r
    first = call_at old.world g.0 r call added head j.fresh g.1

    calls : told_call gave.endpoint call gave.reply ≡ told_call (first_endpoint r) call (Some told.reply)
    calls = ap (λ (x : Endpoint). told_call x call gave.reply) first ∙ told.seen (first_endpoint r) call

    seen_half : (w : WorldState) (c : Option Completion) → w.history ≡ old.world.history ++
        entry_of (events.Call r call) (record gave { completion = c }) ∷ [] →
        history_seen w.history ≡ before ++
        (told_call (first_endpoint r) call (Some told.reply) ++ told_completion (first_endpoint r) c)
    seen_half w c h =
        ap history_seen h
        ∙ (seen_more old.world.history (entry_of (events.Call r call) (record gave { completion = c }))
        ∙ ap₂ (λ (xs ys : List seen_events.Entry). before ++ (xs ++ ys)) calls
        (ap (λ (x : Endpoint). told_completion x c) first))

    player : Option Reply → Option Completion → PlayerState
    player o c = record { runner = s; state = state_by call o c; lines = p.lines; refused = p.refused }

    state : WorldState → Option Reply → Option Completion → PlayState
    state w o c = record { world = w; players = slice_set old.players r (player o c) }

    go : (c : Option Completion) → gave.completion ≡ c → Joined scripts new
    go None ce =
        subst (Joined scripts) (sym (g.4 ∙ ap₂ (state g.0) told.replied ce))
        (replied scripts old j r p reply call s told.reply g.0 is e n told.taken whole there)
      where
        whole : history_seen g.0.history ≡ before ++ told_call (first_endpoint r) call (Some told.reply)
        whole =
            seen_half g.0 gave.completion g.1.history
            ∙ (ap (λ (c : Option Completion). before ++
            (told_call (first_endpoint r) call (Some told.reply) ++ told_completion (first_endpoint r) c)) ce
            ∙ ap (λ (ys : List seen_events.Entry). before ++ ys)
            (append-nil (told_call (first_endpoint r) call (Some told.reply))))
    go (Some c) ce =
        subst (Joined scripts) (sym (g.4 ∙ ap₂ (state g.0) told.replied ce))
        (subst (λ (ps : List PlayerState). Joined scripts (record { world = g.0; players = ps })) same
        (answered scripts pre mid joined r c g.0 whole there (Some now) at))
      where
        half : WorldState
        half = halfway old (events.Call r call) gave g.0

        now : PlayerState
        now = player (Some told.reply) None

        mid : PlayState
        mid = state half (Some told.reply) None

        at : slice_get mid.players r ≡ Some now
        at = set_there old.players r now p is

        seen_mid : history_seen half.history ≡ before ++ told_call (first_endpoint r) call (Some told.reply)
        seen_mid =
            seen_half half None refl ∙
            ap (λ (ys : List seen_events.Entry). before ++ ys)
            (append-nil (told_call (first_endpoint r) call (Some told.reply)))

        whole : history_seen g.0.history ≡ history_seen half.history ++ told_completion (first_endpoint r) (Some c)
        whole =
            seen_half g.0 gave.completion g.1.history
            ∙ (ap (λ (c : Option Completion). before ++
            (told_call (first_endpoint r) call (Some told.reply) ++ told_completion (first_endpoint r) c)) ce
            ∙ (sym (append_assoc before (told_call (first_endpoint r) call (Some told.reply))
            (told_completion (first_endpoint r) (Some c)))
            ∙ ap (λ (ys : List seen_events.Entry). ys ++ told_completion (first_endpoint r) (Some c)) (sym seen_mid)))

        answer_there : IsHistory (length scripts) least (history_seen half.history ++
            Completed (first_endpoint r) (answer_in c) ∷ [])
        answer_there =
            subst (IsHistory (length scripts) least)
            (whole ∙ ap (λ (ys : List seen_events.Entry). history_seen half.history ++ ys)
            (told_as (first_endpoint r) c)) there

        joined : Joined scripts mid
        joined = replied scripts old j r p reply call s told.reply half is e n told.taken seen_mid
            (beginnings_are_histories (length scripts) (history_seen half.history)
            (Completed (first_endpoint r) (answer_in c)) answer_there)

        waits : (call : Call) × (now.state ≡ Blocked call)
        waits = waited scripts pre mid joined r (answer_in c) answer_there now at

        same : slice_set mid.players r (told_if now.state c now) ≡
            slice_set old.players r (player (Some told.reply) (Some c))
        same =
            ap (λ (state : RunnerState Call). slice_set mid.players r (told_if state c now)) waits.1
            ∙ set_twice old.players r now (player (Some told.reply) (Some c))

-- A MOVE

steps_on : (scripts : List (List ScriptLine)) → Premises scripts → (done : List Move) (old : PlayState) →
    PlayGives scripts done old → HasHeadline old.world →
    (j : Joined scripts old) (r : ℕ) (p : PlayerState) (reply : Option Reply) (step : RunnerStep) (s : ScriptState)
    (new : PlayState) →
    slice_get old.players r ≡ Some p → p.state ≡ Ready reply → NextGives p.runner reply step s →
    StepMoves old r p s step new → AreFine new →
    IsHistory (length scripts) least (history_seen new.world.history) →
    Joined scripts new
steps_on scripts pre done old reached head j r p reply (steps.Print line) s new is e n g fine history =
    prints scripts old j r p reply line s new is e n g
steps_on scripts pre done old reached head j r p reply (steps.End status line) s new is e n g fine history =
    ends scripts old j r p reply status line s new is e n g fine
steps_on scripts pre done old reached head j r p reply (steps.Call call) s new is e n g fine history = go g.0 g.1
  where
    go : (result : Result Stepped Failed) → CallMoves old r p s call result new → Joined scripts new
    go (Ok added) h = taken scripts pre old head j r p reply call s added new is e n h history
    go (Err failed) h = refused scripts done old reached head j r p reply call s failed new is e n h fine

goes : (scripts : List (List ScriptLine)) → Premises scripts → (done : List Move) (old : PlayState) →
    PlayGives scripts done old → HasHeadline old.world →
    (j : Joined scripts old) (r : ℕ) (o : Option PlayerState) (new : PlayState) → slice_get old.players r ≡ o →
    GoGives old r o new → AreFine new → IsHistory (length scripts) least (history_seen new.world.history) →
    Joined scripts new
goes scripts pre done old reached head j r None new is g fine history = subst (Joined scripts) (sym g) j
goes scripts pre done old reached head j r (Some p) new is g fine history = go p.state refl g
  where
    go : (state : RunnerState Call) → p.state ≡ state → GoesBy old r p state new → Joined scripts new
    go (Ready reply) e h = steps_on scripts pre done old reached head j r p reply h.0 h.1 new is e h.2 h.3 fine history
    go (Blocked call) e h = subst (Joined scripts) (sym h) j
    go (Over status line) e h = subst (Joined scripts) (sym h) j

moved : (scripts : List (List ScriptLine)) → Premises scripts → (done : List Move) (old : PlayState) →
    PlayGives scripts done old → HasHeadline old.world → Joined scripts old → (m : Move) (new : PlayState) →
    MoveGives old m new → AreFine new →
    IsHistory (length scripts) least (history_seen new.world.history) → Joined scripts new
moved scripts pre done old reached head j (moves.Go r) new g fine history =
    goes scripts pre done old reached head j r (slice_get old.players r) new refl g fine history
moved scripts pre done old reached head j (moves.Deliver d) new g fine history =
    delivered scripts pre old j (events.Deliver d) (λ e x. refl) g.0 new g.1 history
moved scripts pre done old reached head j (moves.Tick r now) new g fine history =
    delivered scripts pre old j (events.Tick r now) (λ e x. refl) g.0 new g.1 history

-- ALL MOVES

all_moved : (scripts : List (List ScriptLine)) → Premises scripts → (ms done : List Move) (old new : PlayState) →
    PlayGives scripts done old → Joined scripts old → ScheduleGives old ms new → AreFine new → Joined scripts new
all_moved scripts pre [] done old new reached j g fine = subst (Joined scripts) (sym g.0) j
all_moved scripts pre (m ∷ ms) done old new reached j g fine =
    let head : HasHeadline g.1.0.world = headline_of ms g.1.0 new g.1.2 in
    let more : PlayGives scripts (done ++ m ∷ []) g.1.0 = one_more done (play_opening scripts) old reached m g.1.0 g.1.1 head in
    let history : IsHistory (length scripts) least (history_seen g.1.0.world.history) =
    subst (λ (l : MessageLimit). IsHistory (length scripts) l (history_seen g.1.0.world.history))
    (limit_is scripts (done ++ m ∷ []) g.1.0 more)
    (subst (λ (k : ℕ). IsHistory k (limit_in g.1.0.world.engines) (history_seen g.1.0.world.history))
    (size_is scripts (done ++ m ∷ []) g.1.0 more)
    (worlds_have_histories g.1.0.world head.run)) in
    all_moved scripts pre ms (done ++ m ∷ []) g.1.0 new more
    (moved scripts pre done old reached g.0 j m g.1.0 g.1.1 (all_back ms g.1.0 new g.1.2 fine) history) g.1.2 fine

-- THE START

begun : (scripts : List (List ScriptLine)) → Joined scripts (play_opening scripts)
begun scripts = record {
  moves = zero;
  now = players_at_start (length scripts) (running_at_start scripts);
  through =
      (refl, refl);
  alike = alike;
  fresh = tt;
}
  where
    alike : (r : ℕ) (p : PlayerState) → slice_get (players_of 0 scripts) r ≡ Some p →
        IsAlike p (players_at_start (length scripts) (running_at_start scripts) r)
    alike r p is =
        let zero_plus : r ≡ 0 + r = omega arith in
        let t = player_at 0 scripts r p is in
        subst (λ (y : PlayerState). IsAlike y (players_at_start (length scripts) (running_at_start scripts) r)) t.0
        (record {
          follows =
              subst (λ (x : ℕ). Rattle.proof_script_processes.specs.ProcessViews.Follows (opening (script_at scripts r) x 0)
              None (running_at_start scripts r) None) zero_plus (starts_follow scripts r);
          free = refl;
          runs =
              lt-leb (length scripts) r t.1;
          lines = refl;
        })

-- THE WHOLE

lines_same : (p : PlayerState) (q : Player Running) → (state : RunnerState Call) → IsAlikeAt state p q →
    q.lines ≡ p.lines
lines_same p q (Ready reply) a = a.lines
lines_same p q (Blocked call) a = a.lines
lines_same p q (Over status line) a = a.lines

ended_same : (p : PlayerState) (q : Player Running) → (state : RunnerState Call) → IsAlikeAt state p q →
    is_over state ≡ true → q.ended ≡ true
ended_same p q (Ready reply) a o = absurd (grind arith)
ended_same p q (Blocked call) a o = absurd (grind arith)
ended_same p q (Over status line) a o = a.ended

pub plays_are_the_meaning : PlaysAreTheMeaning
plays_are_the_meaning scripts schedule new some few g covered agrees fine r p is =
    let pre : Premises scripts = record { some = some; few = few; covered = covered; agrees = agrees } in
    let j : Joined scripts new = all_moved scripts pre schedule [] (play_opening scripts) new (refl, headline_of schedule (play_opening scripts) new g) (begun scripts) g fine in
    let m : PlaysTheMeaning (j.now r) (meaning_of (length scripts) scripts r) =
    scripts_play_their_meaning scripts (length scripts) j.moves j.now (history_seen new.world.history) few some covered
    agrees j.through r in
    let same : (j.now r).lines ≡ p.lines = lines_same p (j.now r) p.state (j.alike r p is) in
    record {
      lines = (m.lines.0, m.lines.1 ∙ ap (λ (ls : List (List ℕ)). ls ++ m.lines.0) same);
      whole = λ o. m.whole (ended_same p (j.now r) p.state (j.alike r p is) o) ∙ same;
    }
