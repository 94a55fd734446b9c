-- In a play each runner keeps to the requests that its rank was given.
use Rattle.std.proofs.Common.{◌≡◌, ℕ, List, [], ◌∷◌, ◌++◌, Option, Some, None, Result, Ok, Err, inl, inr}
use Rattle.std.proofs.Common.{option_and_then, slice_get, slice_set, refl, sym, ap, ◌∙◌, subst}
use Rattle.std.proofs.lemmas.Option.{same_Some}
use Rattle.engine_calls.specs.declared.call.Call.{Call}
use Rattle.engine_calls.specs.declared.reply.Completion.{Completion}
use Rattle.engine_calls.specs.declared.reply.Reply.{Reply}
use Rattle.engine_calls.specs.declared.reply.Reply.TheVariants as replies
use Rattle.perfect_groups.specs.Communicators.{first_endpoint}
use Rattle.proof_one_meaning.specs.Plays.{HasNoRestart}
use Rattle.observation.specs.Requests.{request_given}
use Rattle.event_loop.specs.declared.runner.RunnerStep.{RunnerStep}
use Rattle.event_loop.specs.declared.runner.RunnerStep.TheVariants as steps
use Rattle.requests.specs.declared.table.Request.{Request}
use Rattle.script_files.specs.declared.script.ScriptLine.{ScriptLine}
use Rattle.script_players.specs.Players.{AreAlike, PlayerState, number_in, refused_so, state_by}
use Rattle.event_loop.specs.declared.loop_state.RunnerState.{RunnerState}
use Rattle.event_loop.specs.declared.loop_state.RunnerState.TheVariants.{Blocked, Over, Ready}
use Rattle.script_plays.specs.Plays.{CallMoves, EventGives, GoGives, GoesBy, HasHeadline, MoveGives, PlayGives}
use Rattle.script_plays.specs.Plays.{PlayState, ScheduleGives, StepMoves, play_opening, players_of, with_told}
use Rattle.script_plays.specs.declared.moves.Move.{Move}
use Rattle.script_plays.specs.declared.moves.Move.TheVariants as moves
use Rattle.proof_script_processes.specs.Processes.{script_at}
use Rattle.proof_script_processes.specs.RequestChanges.{changed_call, changed_reply, changed_state, changed_step}
use Rattle.script_runner.specs.ScriptSteps.{NextGives, ScriptState, opening}
use Rattle.world.specs.GivenRequests.{NamesOwn, WasGiven}
use Rattle.world.specs.Headline.{history_seen}
use Rattle.world.specs.Steps.{CallRuns, TakesCall, Went, entry_of}
use Rattle.world.specs.WorldState.{WorldState}
use Rattle.world.specs.declared.event.HistoryEntry.{HistoryEntry}
use Rattle.world.specs.declared.event.Event.{Event}
use Rattle.world.specs.declared.event.Event.TheVariants as events
use Rattle.world.specs.declared.event.Failed.{Failed}
use Rattle.world.specs.declared.event.Stepped.{Stepped}
use Rattle.world.specs.declared.refusal.WorldRefusal as world_refusal
use Rattle.world.specs.declared.refusal.WorldRefusal.TheVariants as refusals
use Rattle.script_plays.proofs.Alike.{no_call, no_line}
use Rattle.script_plays.proofs.ReplyCopies.{Replies, replies_to}
use Rattle.script_plays.proofs.Histories.{added, histories_are_of_schedules}
use Rattle.script_plays.proofs.Own.{AreKept, IsKept, IsKeptAt, call_keeps, given_are_kept, given_last, given_later}
use Rattle.script_plays.proofs.Own.{keeping, kept_set, names_own, steps_keep, taken_keeps, told_keeps}
use Rattle.script_plays.proofs.Places.{at_first, schedule_fresh}
use Rattle.script_plays.proofs.Ways.{headline_of, one_more, player_at}

-- the endpoint at which a call was taken, and what it gave
pub call_at : (w v : WorldState) (r : ℕ) (call : Call) (more : Stepped) → HasHeadline w →
    HasNoRestart (history_seen w.history) → (went : Went w (events.Call r call) more v) →
    went.gave.endpoint ≡ first_endpoint r
call_at w v r call more head fresh went =
    let rank : r ≡ went.ran.rank = same_Some r went.ran.rank went.ran.target in
    went.ran.ran.endpoint ∙
    (at_first w head fresh went.ran.rank went.ran.engine went.ran.there ∙ ap first_endpoint (sym rank))

abbrev AllGiven : (ℕ → Request → Request) → List HistoryEntry → Type 0
AllGiven changes h = (r : ℕ) (q : Request) → WasGiven h (first_endpoint r) q → changes r q ≡ q

abbrev players_in : PlayState → List PlayerState
players_in st = st.players

-- A CALL

took : (changes : ℕ → Request → Request) (old : PlayState) (r : ℕ) (s : ScriptState) (call : Call) (more : Stepped)
    (w : WorldState) (went : Went old.world (events.Call r call) more w) (told : Option Reply) →
    AreAlike went.gave.reply told → HasHeadline old.world → HasNoRestart (history_seen old.world.history) →
    AllGiven changes w.history → changed_state (changes r) s ≡ s →
    IsKeptAt (changes r) (state_by call told went.gave.completion) s
took changes old r s call more w went told alike head fresh all k =
    let x : Replies went.gave.reply told = replies_to went.ran.engine went.ran.ran.mid call went.gave.reply told went.ran.ran.event alike in
    subst (λ (o : Option Reply). IsKeptAt (changes r) (state_by call o went.gave.completion) s) (sym x.replied)
    (taken_keeps (changes r) call x.reply went.gave.completion s k x.taken (λ q given. all r q
    (subst (λ (h : List HistoryEntry). WasGiven h (first_endpoint r) q) (sym went.history)
    (given_last old.world.history (entry_of (events.Call r call) went.gave) (first_endpoint r) q
    (record { endpoint = call_at old.world w r call more head fresh went; gave = x.given q given })))))

call_kept : (changes : ℕ → Request → Request) (old mid : PlayState) (r : ℕ) (p : PlayerState) (s : ScriptState)
    (call : Call) (result : Result Stepped Failed) → HasHeadline old.world →
    HasNoRestart (history_seen old.world.history) → AllGiven changes mid.world.history →
    CallMoves old r p s call result mid → changed_call (changes r) call ≡ call → changed_state (changes r) s ≡ s →
    AreKept changes old.players → AreKept changes mid.players
call_kept changes old mid r p s call (Ok more) head fresh all g c k kept =
    subst (AreKept changes) (sym (ap players_in g.4))
    (kept_set changes old.players r _ kept
    (took changes old r s call more g.0 g.1 g.2 g.3 head fresh
    (subst (λ (y : PlayState). AllGiven changes y.world.history) g.4 all) k))
call_kept changes old mid r p s call (Err failed) head fresh all g c k kept = go failed.refused g.3 g.4
  where
    go : (x : world_refusal.WorldRefusal) → refused_so x call g.1 →
        mid ≡ record {
          world = g.0;
          players =
              slice_set old.players r
              (record { runner = s; state = Ready (Some g.1); lines = p.lines; refused = p.refused ++ number_in x });
        } →
        AreKept changes mid.players
    go (refusals.Engine why) told e =
        subst (AreKept changes) (sym (ap players_in e))
        (kept_set changes old.players r _ kept (
          k,
          ap Some
              (subst (λ (y : Reply). changed_reply (changes r) y ≡ y) (sym told)
              (ap (λ (y : Call). replies.Refused why y) c)),
        ))
    go refusals.NoSuchRank told e = absurd told
    go refusals.NoSuchDatagram told e = absurd told
    go refusals.CarriesJob told e = absurd told

-- A RUNNER'S STEP

step_kept : (changes : ℕ → Request → Request) (old mid : PlayState) (r : ℕ) (p : PlayerState) (s : ScriptState)
    (step : RunnerStep) → HasHeadline old.world → HasNoRestart (history_seen old.world.history) →
    AllGiven changes mid.world.history → StepMoves old r p s step mid → changed_step (changes r) step ≡ step →
    changed_state (changes r) s ≡ s → AreKept changes old.players → AreKept changes mid.players
step_kept changes old mid r p s (steps.Print line) head fresh all g c k kept =
    subst (AreKept changes) (sym (ap players_in g)) (kept_set changes old.players r _ kept (k, refl))
step_kept changes old mid r p s (steps.End status line) head fresh all g c k kept =
    subst (AreKept changes) (sym (ap players_in g)) (kept_set changes old.players r _ kept tt)
step_kept changes old mid r p s (steps.Call call) head fresh all g c k kept =
    call_kept changes old mid r p s call g.0 head fresh all g.1 (call_keeps (changes r) call c) k kept

-- one that ends for want of memory
end_kept : (changes : ℕ → Request → Request) (old mid : PlayState) (r : ℕ) (p : PlayerState) (s : ScriptState)
    (step : RunnerStep) → StepMoves old r p s step mid → step ≡ steps.End 6 None → AreKept changes old.players →
    AreKept changes mid.players
end_kept changes old mid r p s (steps.End status line) g is kept =
    subst (AreKept changes) (sym (ap players_in g)) (kept_set changes old.players r _ kept tt)
end_kept changes old mid r p s (steps.Print line) g is kept = absurd (no_line line is)
end_kept changes old mid r p s (steps.Call call) g is kept = absurd (no_call call is)

go_kept : (changes : ℕ → Request → Request) (old mid : PlayState) (r : ℕ) (o : Option PlayerState) →
    slice_get old.players r ≡ o → HasHeadline old.world → HasNoRestart (history_seen old.world.history) →
    AllGiven changes mid.world.history → GoGives old r o mid → AreKept changes old.players → AreKept changes mid.players
go_kept changes old mid r None is head fresh all g kept = subst (AreKept changes) (sym (ap players_in g)) kept
go_kept changes old mid r (Some p) is head fresh all g kept = go p.state refl g
  where
    go : (state : RunnerState Call) → p.state ≡ state → GoesBy old r p state mid → AreKept changes mid.players
    go (Blocked call) e h = subst (AreKept changes) (sym (ap players_in h)) kept
    go (Over status line) e h = subst (AreKept changes) (sym (ap players_in h)) kept
    go (Ready reply) e h = by h.2
      where
        mine : IsKeptAt (changes r) (Ready reply) p.runner
        mine = subst (λ (x : RunnerState Call). IsKeptAt (changes r) x p.runner) e (kept r p is)

        by : NextGives p.runner reply h.0 h.1 → AreKept changes mid.players
        by (inl n) =
            let k = steps_keep (changes r) p.runner h.1 reply h.0 mine.0 mine.1 n in
            step_kept changes old mid r p h.1 h.0 head fresh all h.3 k.0 k.1 kept
        by (inr six) = end_kept changes old mid r p h.1 h.0 h.3 six.0 kept

-- ANOTHER EVENT

event_kept : (changes : ℕ → Request → Request) (old mid : PlayState) (event : Event) (result : Result Stepped Failed) →
    EventGives old event result mid → AreKept changes old.players → AreKept changes mid.players
event_kept changes old mid event (Err failed) g kept = subst (AreKept changes) (sym (ap players_in g.2)) kept
event_kept changes old mid event (Ok more) g kept =
    subst (AreKept changes) (sym (ap players_in g.2)) (go (slice_get old.players g.1.gave.endpoint.rank) refl)
  where
    go : (o : Option PlayerState) → slice_get old.players g.1.gave.endpoint.rank ≡ o →
        AreKept changes (with_told old.players g.1.gave.endpoint.rank g.1.gave.completion o)
    go None is = kept
    go (Some p) is =
        kept_set changes old.players g.1.gave.endpoint.rank _ kept
        (told_keeps (changes g.1.gave.endpoint.rank) g.1.gave.completion p (kept g.1.gave.endpoint.rank p is))

-- ALL MOVES

move_kept : (changes : ℕ → Request → Request) (old mid : PlayState) (m : Move) → HasHeadline old.world →
    HasNoRestart (history_seen old.world.history) → AllGiven changes mid.world.history → MoveGives old m mid →
    AreKept changes old.players → AreKept changes mid.players
move_kept changes old mid (moves.Go r) head fresh all g kept =
    go_kept changes old mid r (slice_get old.players r) refl head fresh all g kept
move_kept changes old mid (moves.Deliver d) head fresh all g kept =
    event_kept changes old mid (events.Deliver d) g.0 g.1 kept
move_kept changes old mid (moves.Tick r now) head fresh all g kept =
    event_kept changes old mid (events.Tick r now) g.0 g.1 kept

all_kept : (scripts : List (List ScriptLine)) (changes : ℕ → Request → Request) (ms done : List Move)
    (old new : PlayState) → PlayGives scripts done old → ScheduleGives old ms new → AllGiven changes new.world.history →
    AreKept changes old.players → AreKept changes new.players
all_kept scripts changes [] done old new reached g all kept = subst (AreKept changes) (sym (ap players_in g.0)) kept
all_kept scripts changes (m ∷ ms) done old new reached g all kept =
    let later = added ms g.1.0 new g.1.2 in
    let mid_given : AllGiven changes g.1.0.world.history =
    λ r q given. all r q
    (subst (λ (h : List HistoryEntry). WasGiven h (first_endpoint r) q) (sym later.1)
    (given_later g.1.0.world.history later.0 (first_endpoint r) q given))
    in
    all_kept scripts changes ms (done ++ m ∷ []) g.1.0 new
    (one_more done (play_opening scripts) old reached m g.1.0 g.1.1 (headline_of ms g.1.0 new g.1.2)) g.1.2 all
    (move_kept changes old g.1.0 m g.0
    (schedule_fresh done old.world.history (histories_are_of_schedules scripts done old reached)) mid_given g.1.1
    kept)

begin_kept : (scripts : List (List ScriptLine)) (changes : ℕ → Request → Request) →
    AreKept changes (players_of 0 scripts)
begin_kept scripts changes r p is = subst (IsKept (changes r)) (player_at 0 scripts r p is).0 (refl, refl)

-- A CALL OF A SCRIPT NAMES REQUESTS OF ITS OWN RANK ALONE
pub calls_name_own : (scripts : List (List ScriptLine)) (schedule : List Move) (st : PlayState) →
    PlayGives scripts schedule st → (r : ℕ) (p : PlayerState) (reply : Option Reply) (call : Call) (s : ScriptState) →
    slice_get st.players r ≡ Some p → p.state ≡ Ready reply → NextGives p.runner reply (steps.Call call) s →
    NamesOwn st.world.history (first_endpoint r) call
calls_name_own scripts schedule st g r p reply call s is e (inr six) = absurd (no_call call six.0)
calls_name_own scripts schedule st g r p reply call s is e (inl n) =
    names_own st.world.history (first_endpoint r) call
    (call_keeps (changes r) call (steps_keep (changes r) p.runner s reply (steps.Call call) mine.0 mine.1 n).0)
  where
    changes : ℕ → Request → Request
    changes x = keeping st.world.history (first_endpoint x)

    mine : IsKeptAt (changes r) (Ready reply) p.runner
    mine =
        subst (λ (x : RunnerState Call). IsKeptAt (changes r) x p.runner) e
        (all_kept scripts changes schedule [] (play_opening scripts) st
        (refl, headline_of schedule (play_opening scripts) st g) g
        (λ x q given. given_are_kept st.world.history (first_endpoint x) q given) (begin_kept scripts changes) r p is)
