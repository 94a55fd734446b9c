-- A play in a world is one over the machine.
use Rattle.std.proofs.Common.{◌≡◌, ℕ, suc, Bool, true, false, List, [], ◌∷◌, ◌++◌, length, Option, Some, None, Ok, Err}
use Rattle.std.proofs.Common.{slice_get, slice_set, refl, sym, ap, ap₂, ◌∙◌, subst, append-nil}
use Rattle.vocabulary.specs.MessageLimits.{least}
use Rattle.vocabulary.specs.declared.endpoint.Endpoint.{Endpoint}
use Rattle.engine_calls.specs.Calls.{IsTaken}
use Rattle.engine_calls.specs.declared.call.Call.{Call}
use Rattle.engine_calls.specs.declared.reply.Completion.{Completion}
use Rattle.engine_calls.specs.declared.reply.Reply.{Reply}
use Rattle.engine_calls.specs.declared.reply.Reply.TheVariants as replies
use Rattle.one_meaning.specs.Courses.{RecordsAgree, Told, accounts}
use Rattle.perfect_groups.specs.Calls as machine
use Rattle.perfect_groups.specs.Communicators.{first_endpoint}
use Rattle.perfect_groups.specs.Events.{Called, Completed}
use Rattle.perfect_groups.specs.Events as seen_events
use Rattle.perfect_groups.specs.Runs.{IsHistory}
use Rattle.perfect_queues.specs.Calls as queues
use Rattle.observation.specs.EngineCalls.{call_seen, told_call, told_completion}
use Rattle.proof_one_meaning.specs.Plays.{HasEnded, HasFault, HasNoRestart, IsAt, Player, Players, PlaysOn}
use Rattle.proof_one_meaning.specs.Plays.{PlaysThrough, Spoke, WasRefused, WasTaken, gone_on, is_blocking}
use Rattle.proof_one_meaning.specs.Plays.{players_at_start, told_by, with_player}
use Rattle.point_to_point_calls.specs.Refusals.{number_of_refusal}
use Rattle.event_loop.specs.declared.runner.RunnerStep.{RunnerStep}
use Rattle.event_loop.specs.declared.runner.RunnerStep.TheVariants as steps
use Rattle.script_runner.specs.ScriptSteps.{NextGives, ScriptState}
use Rattle.script_files.specs.declared.script.ScriptLine.{ScriptLine}
use Rattle.script_plays.specs.Alike.{IsAlike, IsAlikeAt, IsReadyAlike}
use Rattle.script_plays.specs.MeaningViews.{AreFine, IsFine}
use Rattle.script_players.specs.Players.{PlayerState, number_in, refused_so, state_by, state_by_reply}
use Rattle.script_plays.specs.Plays.{CallMoves, HasHeadline, PlayGives, PlayState, StepMoves}
use Rattle.script_plays.specs.declared.moves.Move.{Move}
use Rattle.event_loop.specs.declared.loop_state.RunnerState.{RunnerState}
use Rattle.event_loop.specs.declared.loop_state.RunnerState.TheVariants.{Blocked, Over, Ready}
use Rattle.proof_script_processes.specs.ReplyViews.{told_of}
use Rattle.proof_script_processes.specs.Processes.{Running, next_in_script, running_at_start}
use Rattle.world.specs.Headline.{history_seen}
use Rattle.world.specs.Steps.{entry_of}
use Rattle.world.specs.WorldState.{WorldState}
use Rattle.world.specs.declared.event.Event.TheVariants as events
use Rattle.world.specs.declared.event.Failed.{Failed}
use Rattle.world.specs.declared.event.Stepped.{Stepped}
use Rattle.world.specs.declared.refusal.WorldRefusal as world_refusal
use Rattle.world.specs.declared.refusal.WorldRefusal.TheVariants as refusals
use Rattle.script_plays.proofs.Alike.{calls_are_alike, ends_are_alike, lines_are_alike}
use Rattle.script_plays.proofs.Fine.{later}
use Rattle.script_plays.proofs.ReplyCopies.{Replies, replies_to}
use Rattle.script_plays.proofs.Rules.{refused_by_rule}
use Rattle.script_plays.proofs.PlayerLaws.{alike_set, play_fresh, seen_more, set_there, through_more}

-- a play in a world that is one over the machine so far
pub record Joined (scripts : List (List ScriptLine)) (st : PlayState) : Type 0 where
  pub moves : ℕ
  pub now : Players Running
  pub through : PlaysThrough next_in_script (length scripts) moves
      (players_at_start (length scripts) (running_at_start scripts)) [] now (history_seen st.world.history)
  pub alike : (r : ℕ) (p : PlayerState) → slice_get st.players r ≡ Some p → IsAlike p (now r)
  pub fresh : HasNoRestart (history_seen st.world.history)

pub grow : (scripts : List (List ScriptLine)) (old : PlayState) (j : Joined scripts old) (now' : Players Running)
    (w : WorldState) (players : List PlayerState) →
    PlaysOn next_in_script (length scripts) j.now (history_seen old.world.history) now' (history_seen w.history) →
    ((x : ℕ) (p : PlayerState) → slice_get players x ≡ Some p → IsAlike p (now' x)) →
    Joined scripts (record { world = w; players = players })
grow scripts old j now' w players on k =
    record {
      moves = suc j.moves;
      now = now';
      through =
          through_more next_in_script (length scripts) j.moves
          (players_at_start (length scripts) (running_at_start scripts)) [] j.now (history_seen old.world.history)
          j.through now' (history_seen w.history) on;
      alike = k;
      fresh = play_fresh next_in_script (length scripts) j.now (history_seen old.world.history) now'
          (history_seen w.history) on j.fresh;
    }

-- nothing happened that is seen
pub still : (scripts : List (List ScriptLine)) (old : PlayState) → Joined scripts old →
    (w : WorldState) → history_seen w.history ≡ history_seen old.world.history →
    Joined scripts (record { world = w; players = old.players })
still scripts old j w same =
    record {
      moves = j.moves;
      now = j.now;
      through =
          subst (λ (h : List seen_events.Entry). PlaysThrough next_in_script (length scripts) j.moves
          (players_at_start (length scripts) (running_at_start scripts)) [] j.now h) (sym same) j.through;
      alike = j.alike;
      fresh = subst HasNoRestart (sym same) j.fresh;
    }

pub ready_alike : (p : PlayerState) (reply : Option Reply) (q : Player Running) → p.state ≡ Ready reply → IsAlike p q →
    IsReadyAlike p reply q
ready_alike p reply q e a = subst (λ (state : RunnerState Call). IsAlikeAt state p q) e a

abbrev status_in : RunnerStep → ℕ
status_in (steps.End status line) = status
status_in (steps.Call call) = 0
status_in (steps.Print line) = 0

-- A RUNNER'S STEP

pub prints : (scripts : List (List ScriptLine)) (old : PlayState) (j : Joined scripts old) (r : ℕ) (p : PlayerState)
    (reply : Option Reply) (line : List ℕ) (s : ScriptState) (new : PlayState) → slice_get old.players r ≡ Some p →
    p.state ≡ Ready reply → NextGives p.runner reply (steps.Print line) s → StepMoves old r p s (steps.Print line) new →
    Joined scripts new
prints scripts old j r p reply line s new is e n g =
    let t = lines_are_alike p reply (j.now r) line s (ready_alike p reply (j.now r) e (j.alike r p is)) n in
    subst (Joined scripts) (sym g)
    (grow scripts old j (with_player j.now r (gone_on next_in_script (j.now r) None false (line ∷ []) false)) old.world
    _ (Spoke r line t.0 refl refl)
    (alike_set old.players r _ j.now (gone_on next_in_script (j.now r) None false (line ∷ []) false) j.alike t.1))

pub ends : (scripts : List (List ScriptLine)) (old : PlayState) (j : Joined scripts old) (r : ℕ) (p : PlayerState)
    (reply : Option Reply) (status : ℕ) (line : Option ℕ) (s : ScriptState) (new : PlayState) →
    slice_get old.players r ≡ Some p →
    p.state ≡ Ready reply → NextGives p.runner reply (steps.End status line) s →
    StepMoves old r p s (steps.End status line) new → AreFine new → Joined scripts new
ends scripts old j r p reply status line s new is e n g fine =
    let f : IsFine (record { runner = s; state = Over status line; lines = p.lines; refused = p.refused }) =
    fine r _ (ap (λ (x : PlayState). slice_get x.players r) g ∙ set_there old.players r _ p is) in
    let t = ends_are_alike p reply (j.now r) status line s (ready_alike p reply (j.now r) e (j.alike r p is)) n (λ six. f.six (ap status_in six)) in
    subst (Joined scripts) (sym g)
    (grow scripts old j (with_player j.now r (gone_on next_in_script (j.now r) None false [] true)) old.world _
    (HasEnded r status t.0 refl refl)
    (alike_set old.players r _ j.now (gone_on next_in_script (j.now r) None false [] true) j.alike t.1))

-- a call that is refused by a rule
pub refused : (scripts : List (List ScriptLine)) (done : List Move) (old : PlayState) → PlayGives scripts done old →
    HasHeadline old.world →
    (j : Joined scripts old) (r : ℕ) (p : PlayerState) (reply : Option Reply) (call : Call) (s : ScriptState)
    (failed : Failed) (new : PlayState) →
    slice_get old.players r ≡ Some p → p.state ≡ Ready reply → NextGives p.runner reply (steps.Call call) s →
    CallMoves old r p s call (Err failed) new → AreFine new → Joined scripts new
refused scripts done old reached head j r p reply call s failed new is e n g fine = go failed.refused refl g.3 g.4
  where
    go : (x : world_refusal.WorldRefusal) → failed.refused ≡ x → refused_so x call g.1 →
        new ≡ record {
          world = g.0;
          players =
              slice_set old.players r
              (record { runner = s; state = Ready (Some g.1); lines = p.lines; refused = p.refused ++ number_in x });
        } →
        Joined scripts new
    go (refusals.Engine why) x told ne =
        let f : IsFine (record { runner = s; state = Ready (Some g.1); lines = p.lines; refused = p.refused ++ number_of_refusal why ∷ [] }) =
        fine r _ (ap (λ (y : PlayState). slice_get y.players r) ne ∙ set_there old.players r _ p is) in
        let numbers = later p.refused (number_of_refusal why ∷ []) f.limit in
        let fault : HasFault (length scripts) (history_seen old.world.history) r (call_seen call) (number_of_refusal why) =
        refused_by_rule scripts done old reached head g.0 r call failed g.2 p reply s is e n why x numbers.0.0
        numbers.0.1 in
        let t = calls_are_alike p reply (j.now r) call s (p.refused ++ number_of_refusal why ∷ []) (ready_alike p reply (j.now r) e (j.alike r p is)) n in
        subst (Joined scripts)
        (sym (ne ∙
        ap (λ (y : Reply). record {
          world = g.0;
          players =
              slice_set old.players r
              (record {
                runner = s;
                state = Ready (Some y);
                lines = p.lines;
                refused =
                    p.refused ++ number_of_refusal why ∷ [];
              });
        }) told))
        (grow scripts old j
        (with_player j.now r
        (gone_on next_in_script (j.now r) (Some (told_of (replies.Refused why call))) false [] false)) g.0 _
        (WasRefused r (call_seen call) (number_of_refusal why) t.0 fault refl
        (ap (λ (w : WorldState). history_seen w.history) g.2.unchanged))
        (alike_set old.players r _ j.now
        (gone_on next_in_script (j.now r) (Some (told_of (replies.Refused why call))) false [] false) j.alike
        (t.2 (replies.Refused why call) refl)))
    go refusals.NoSuchRank x told ne = absurd told
    go refusals.NoSuchDatagram x told ne = absurd told
    go refusals.CarriesJob x told ne = absurd told

-- A call that is taken: its reply is seen, and told to its runner, unless it blocks. What else the event brings is left
-- out here
pub replied : (scripts : List (List ScriptLine)) (old : PlayState) (j : Joined scripts old) (r : ℕ) (p : PlayerState)
    (reply : Option Reply) (call : Call) (s : ScriptState) (told : Reply) (w : WorldState) →
    slice_get old.players r ≡ Some p → p.state ≡ Ready reply → NextGives p.runner reply (steps.Call call) s →
    IsTaken told →
    history_seen w.history ≡ history_seen old.world.history ++ told_call (first_endpoint r) call (Some told) →
    IsHistory (length scripts) least (history_seen w.history) →
    Joined scripts
    (record {
      world = w;
      players =
          slice_set old.players r
          (record { runner = s; state = state_by_reply call (Some told); lines = p.lines; refused = p.refused });
    })
replied scripts old j r p reply call s told w is e n taken more there = go told taken more
  where
    t : IsAt next_in_script (j.now r) (Rattle.one_meaning.specs.Courses.Calls (call_seen call))
        × IsAlike (record { runner = s; state = Blocked call; lines = p.lines; refused = p.refused })
        (gone_on next_in_script (j.now r) None true [] false)
        × ((told : Reply) →
        Rattle.proof_script_processes.specs.ReplyViews.IsReplyTo
        (Rattle.proof_script_processes.specs.PlainRequests.plain_call call) told →
        IsAlike (record { runner = s; state = Ready (Some told); lines = p.lines; refused = p.refused })
        (gone_on next_in_script (j.now r) (Some (told_of told)) false [] false))
    t = calls_are_alike p reply (j.now r) call s p.refused (ready_alike p reply (j.now r) e (j.alike r p is)) n

    answered : (told : Reply) (m : machine.Reply) → told_by m ≡ Some (told_of told) → is_blocking m ≡ false →
        Rattle.proof_script_processes.specs.ReplyViews.IsReplyTo
        (Rattle.proof_script_processes.specs.PlainRequests.plain_call call) told →
        history_seen w.history ≡ history_seen old.world.history ++ Called (first_endpoint r) (call_seen call) m ∷ [] →
        Joined scripts
        (record {
          world = w;
          players =
              slice_set old.players r
              (record { runner = s; state = Ready (Some told); lines = p.lines; refused = p.refused });
        })
    answered told m tm bm to h =
        grow scripts old j (with_player j.now r (gone_on next_in_script (j.now r) (Some (told_of told)) false [] false))
        w _
        (WasTaken r (call_seen call) m t.0 there
        (ap₂ (λ (x : Option Told) (b : Bool). with_player j.now r (gone_on next_in_script (j.now r) x b [] false))
        (sym tm) (sym bm)) h)
        (alike_set old.players r _ j.now (gone_on next_in_script (j.now r) (Some (told_of told)) false [] false) j.alike
        (t.2 told to))

    go : (told : Reply) → IsTaken told → history_seen w.history ≡ history_seen old.world.history ++
        told_call (first_endpoint r) call (Some told) →
        Joined scripts
        (record {
          world = w;
          players =
              slice_set old.players r
              (record { runner = s; state = state_by_reply call (Some told); lines = p.lines; refused = p.refused });
        })
    go (replies.Started q) k h = answered (replies.Started q) _ refl refl tt h
    go (replies.Done a) k h = answered (replies.Done a) _ refl refl tt h
    go replies.Pending k h = answered replies.Pending _ refl refl tt h
    go replies.Accepted k h = answered replies.Accepted _ refl refl tt h
    go (replies.Left a) k h = answered (replies.Left a) _ refl refl tt h
    go (replies.Fact f) k h = answered (replies.Fact f) _ refl refl tt h
    go (replies.Probed found) k h = answered (replies.Probed found) _ refl refl tt h
    go (replies.Matched found) k h = answered (replies.Matched found) _ refl refl tt h
    go (replies.Refused why back) k h = absurd k
    go replies.Blocked k h =
        grow scripts old j (with_player j.now r (gone_on next_in_script (j.now r) None true [] false)) w _
        (WasTaken r (call_seen call) (machine.OfRequests queues.Blocked) t.0 there refl h)
        (alike_set old.players r _ j.now (gone_on next_in_script (j.now r) None true [] false) j.alike t.1)
