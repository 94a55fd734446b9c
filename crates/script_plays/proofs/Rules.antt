-- A call of a script that is refused by a rule has the machine's fault of that number.
use Rattle.std.proofs.Common.{◌≡◌, ◌≢◌, ℕ, Bool, true, false, List, [], length, Option, Some, None, inl, inr}
use Rattle.std.proofs.Common.{if◌then◌else◌, nat_le, slice_get, refl, sym, ap, ◌∙◌, subst}
use Rattle.std.proofs.lemmas.Option.{none-some, same_Some}
use Rattle.engine_calls.specs.EngineState.{EngineState}
use Rattle.engine_calls.specs.declared.call.Call.{Call}
use Rattle.engine_calls.specs.declared.reply.Reply.{Reply}
use Rattle.perfect_groups.specs.Calls as machine
use Rattle.perfect_groups.specs.Communicators.{first_endpoint}
use Rattle.perfect_groups.specs.Machine.{machine_opening}
use Rattle.perfect_groups.specs.Runs.{IsRun, after_run, seen}
use Rattle.observation.specs.Reasons.{IsReason, MachinesFault, NoRoom}
use Rattle.observation.specs.Faults.{fault_in}
use Rattle.observation.specs.EngineCalls.{call_meant, call_seen}
use Rattle.proof_one_meaning.specs.Plays.{HasFault, HasNoRestart}
use Rattle.point_to_point_calls.specs.Refusals.{number_of_refusal}
use Rattle.point_to_point_calls.specs.declared.refusal.Refusal as lower
use Rattle.point_to_point_calls.specs.declared.refusal.Refusal.TheVariants as lowers
use Rattle.event_loop.specs.declared.runner.RunnerStep.TheVariants as steps
use Rattle.script_files.specs.declared.script.ScriptLine.{ScriptLine}
use Rattle.script_players.specs.Players.{PlayerState}
use Rattle.event_loop.specs.declared.loop_state.RunnerState.TheVariants.{Ready}
use Rattle.script_plays.specs.Plays.{HasHeadline, PlayGives, PlayState}
use Rattle.script_plays.specs.declared.moves.Move.{Move}
use Rattle.script_runner.specs.ScriptSteps.{NextGives, ScriptState}
use Rattle.proof_network_bridge.specs.WorldViews.{limit_in}
use Rattle.vocabulary.specs.MessageLimits.{least}
use Rattle.vocabulary.specs.declared.message_limit.MessageLimit.{MessageLimit}
use Rattle.vocabulary.specs.declared.endpoint.Endpoint.{Endpoint}
use Rattle.world.specs.Faults.{event_fault, first_fault}
use Rattle.world.specs.GivenRequests.{NamesOwn}
use Rattle.world.specs.Headline.{history_seen}
use Rattle.world.specs.Steps.{ByTheEngine, ByTheWorld, ForRoom, IsRefusedBy, IsWhy}
use Rattle.world.specs.WorldState.{WorldState}
use Rattle.world.specs.declared.event.Event.TheVariants as events
use Rattle.world.specs.declared.event.Failed.{Failed}
use Rattle.world.specs.declared.refusal.WorldRefusal as world_refusal
use Rattle.world.specs.declared.refusal.WorldRefusal.TheVariants as refusals
use Rattle.script_plays.proofs.Histories.{histories_are_of_schedules}
use Rattle.script_plays.proofs.Keeps.{calls_name_own}
use Rattle.script_plays.proofs.Places.{at_first, schedule_fresh}
use Rattle.script_plays.proofs.Sizes.{limit_is, size_is}
use Rattle.script_plays.proofs.Ways.{headline_of}

abbrev rank_fault : Bool → Option world_refusal.WorldRefusal
rank_fault b = first_fault (if b then Some refusals.NoSuchRank else None) None

abbrev engine_in : world_refusal.WorldRefusal → Option lower.Refusal
engine_in (refusals.Engine why) = Some why
engine_in refusals.NoSuchRank = None
engine_in refusals.NoSuchDatagram = None
engine_in refusals.CarriesJob = None

no_engine_fault : (b : Bool) (why : lower.Refusal) → rank_fault b ≡ Some (refusals.Engine why) → ⊥
no_engine_fault true why e = none-some why (ap engine_in (same_Some refusals.NoSuchRank (refusals.Engine why) e))
no_engine_fault false why e = none-some (refusals.Engine why) e

same_why : (a b : lower.Refusal) → refusals.Engine a ≡ refusals.Engine b → a ≡ b
same_why a b e = same_Some a b (ap engine_in e)

-- a reason that is no limit and no want of memory is the machine's fault
rule_of : (found : Option ℕ) (why : lower.Refusal) → IsReason found why → number_of_refusal why ≢ 13 →
    number_of_refusal why ≢ 14 → found ≡ Some (number_of_refusal why)
rule_of found why (MachinesFault is) a b = is
rule_of found why (NoRoom (inl limit) none) a b = absurd (a (ap number_of_refusal limit))
rule_of found why (NoRoom (inr memory) none) a b = absurd (b (ap number_of_refusal memory))

-- in a world
engine_rule : (w : WorldState) (head : HasHeadline w) → HasNoRestart (history_seen w.history) →
    (r : ℕ) (e : EngineState) (call back : Call) (why : lower.Refusal) → slice_get w.engines r ≡ Some e →
    NamesOwn w.history (first_endpoint r) call → limit_in w.engines ≡ least →
    Rattle.engine_calls.specs.Calls.CallGives e call
    (Rattle.engine_calls.specs.declared.reply.Reply.TheVariants.Refused why back) e →
    number_of_refusal why ≢ 13 → number_of_refusal why ≢ 14 →
    HasFault (length w.engines) (history_seen w.history) r (call_seen call) (number_of_refusal why)
engine_rule w head fresh r e call back why there own limit gives a b =
    record {
      events = head.run.run_events;
      run = subst (λ (l : MessageLimit). IsRun n (machine_opening n l) head.run.run_events) limit head.run.run;
      tells = subst (λ (l : MessageLimit). seen (machine_opening n l) head.run.run_events ≡ history_seen w.history)
          limit
          head.run.tells;
      fault_is = subst (λ (l : MessageLimit). fault_in (after_run (machine_opening n l) head.run.run_events)
          (first_endpoint r)
          (call_seen call) ≡ Some (number_of_refusal why)) limit fault_is;
    }
  where
    n : ℕ
    n = length w.engines

    first : e.sessions.place.endpoint ≡ first_endpoint r
    first = at_first w head fresh r e there

    meant : call_meant e.core call ≡ call_seen call
    meant = head.run.own_requests r e call there (subst (λ (x : Endpoint). NamesOwn w.history x call) (sym first) own)

    fault_is : fault_in (after_run (machine_opening (length w.engines) (limit_in w.engines)) head.run.run_events)
        (first_endpoint r)
        (call_seen call) ≡ Some (number_of_refusal why)
    fault_is =
        ap (fault_in (after_run (machine_opening (length w.engines) (limit_in w.engines)) head.run.run_events)
        (first_endpoint r))
        (sym meant)
        ∙ (ap (λ (x : Endpoint). fault_in
        (after_run (machine_opening (length w.engines) (limit_in w.engines)) head.run.run_events) x
        (call_meant e.core call)) (sym first)
        ∙ rule_of
        (fault_in (after_run (machine_opening (length w.engines) (limit_in w.engines)) head.run.run_events)
        e.sessions.place.endpoint
        (call_meant e.core call)) why
        (head.run.refuses r e e call back why there gives) a b)

-- IN A PLAY
pub refused_by_rule : (scripts : List (List ScriptLine)) (schedule : List Move) (st : PlayState) →
    PlayGives scripts schedule st → HasHeadline st.world → (w : WorldState) (r : ℕ) (call : Call) (failed : Failed) →
    IsRefusedBy st.world (events.Call r call) failed w → (p : PlayerState) (reply : Option Reply) (s : ScriptState) →
    slice_get st.players r ≡ Some p → p.state ≡ Ready reply → NextGives p.runner reply (steps.Call call) s →
    (why : lower.Refusal) → failed.refused ≡ refusals.Engine why → number_of_refusal why ≢ 13 →
    number_of_refusal why ≢ 14 →
    HasFault (length scripts) (history_seen st.world.history) r (call_seen call) (number_of_refusal why)
refused_by_rule scripts schedule st g head w r call failed refused p reply s is e n why x a b = go refused.why
  where
    own : NamesOwn st.world.history (first_endpoint r) call
    own = calls_name_own scripts schedule st g r p reply call s is e n

    fresh : HasNoRestart (history_seen st.world.history)
    fresh = schedule_fresh schedule st.world.history (histories_are_of_schedules scripts schedule st g)

    go : IsWhy st.world (events.Call r call) failed.refused refused.out →
        HasFault (length scripts) (history_seen st.world.history) r (call_seen call) (number_of_refusal why)
    go (ByTheWorld fault out) = absurd (no_engine_fault (nat_le (length st.world.engines) r) why (fault ∙ ap Some x))
    go (ForRoom f h m memory out) = absurd (b (ap number_of_refusal (same_why why lowers.OutOfMemory (sym x ∙ memory))))
    go (ByTheEngine refusal f by out ran) =
        let rank : r ≡ ran.rank = same_Some r ran.rank ran.target in
        let same : refusal.refused ≡ why = same_why refusal.refused why (sym by ∙ x) in
        let gives = subst (λ (y : lower.Refusal). Rattle.engine_calls.specs.Calls.CallGives ran.engine call (Rattle.engine_calls.specs.declared.reply.Reply.TheVariants.Refused y ran.ran.2.0) ran.engine) same ran.ran.2.1 in
        subst (λ (k : ℕ). HasFault k (history_seen st.world.history) r (call_seen call) (number_of_refusal why))
        (size_is scripts schedule st g)
        (engine_rule st.world head fresh r ran.engine call ran.ran.2.0 why (ap (slice_get st.world.engines) rank ∙
        ran.there) own (limit_is scripts schedule st g) gives a b)
