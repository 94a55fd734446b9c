-- Whatever the past of a running world was, it goes on with what happens.
use Rattle.std.proofs.Common.{◌≡◌, ℕ, ◌<◌, ◌≤◌, List, [], ◌∷◌, ◌++◌, length, Bool, false, Option, Some, None, refl, sym}
use Rattle.std.proofs.Common.{ap, subst, ◌∙◌, append_assoc, arith}
use Rattle.std.specs.Prelude.{Result, Ok, Err, option_map, nat_le, slice_get, if◌then◌else◌}
use Rattle.std.proofs.lemmas.Bool.{lt-leb}
use Rattle.std.proofs.lemmas.Option.{same_Some, slice_get_within}
use Rattle.engine_calls.specs.EngineState.{EngineState}
use Rattle.engine_calls.specs.declared.call.Call.{Call}
use Rattle.observation.specs.EngineCalls.{call_seen}
use Rattle.perfect_groups.specs.Events as machine
use Rattle.proof_network_bridge.specs.WorldViews.{limit_in, opening_engines}
use Rattle.vocabulary.specs.declared.message_limit.MessageLimit.{MessageLimit}
use Rattle.world.proofs.EventByEvent.{opening_has_none, step_goes_on}
use Rattle.world.proofs.Places.{sound_placed}
use Rattle.world.proofs.Ranks.{all_stay}
use Rattle.world.proofs.Refusals.{refusal_sound, refused_so}
use Rattle.world.proofs.Sound.{event_sound, opening_sound, went}
use Rattle.world.specs.EventByEvent.{AreStepsOf, IsCallOf, IsWithoutCall}
use Rattle.world.specs.Faults.{event_fault, first_fault, target_fault}
use Rattle.world.specs.Headline.{IsSound}
use Rattle.world.specs.RunningSteps.{CallGoesOn, CallRunsOn, CallSteps, Comes, GoesOnByCall, GoesOnByNext, HasComeBy}
use Rattle.world.specs.RunningSteps.{HasPast, IsPastOf, NextComes, NextGoesOn, RunningState, StepsTo, TakesCall}
use Rattle.world.specs.RunningSteps.{opening_running}
use Rattle.world.specs.Steps.{ByTheEngine, DeliveryRuns, Gave, IsRefusedBy, RanAt, Rejection, Went, emitted, entry_of}
use Rattle.world.specs.Steps.{fault_in, first_of}
use Rattle.world.specs.WorldState.{ArePlaced, IsWorld, WorldState, opening_world_of}
use Rattle.world.specs.declared.answered.Answered.{Answered}
use Rattle.world.specs.declared.answered.Came.{Came}
use Rattle.world.specs.declared.event.Event.{Event}
use Rattle.world.specs.declared.event.Event.TheVariants as events
use Rattle.world.specs.declared.event.Failed.{Failed}
use Rattle.world.specs.declared.event.Stepped.{Stepped}
use Rattle.world.specs.declared.refusal.WorldRefusal.{WorldRefusal}
use Rattle.world.specs.declared.refusal.WorldRefusal.TheVariants as refusals

-- ---- the opening

opening_past : (l : MessageLimit) (n : ℕ) → n ≤ 1024 → IsPastOf (opening_world_of l n) (opening_running l n)
opening_past l n few = record { engines = refl; came = []; datagrams = refl; sound = opening_sound l n few }

opening_has_come : (l : MessageLimit) (n : ℕ) → n ≤ 1024 → HasComeBy (opening_running l n) []
opening_has_come l n few =
    record { world = opening_world_of l n; past = opening_past l n few; run = opening_has_none l n few }

-- one that is made so
pub made_has_come : (l : MessageLimit) (n : ℕ) (engines : List EngineState) (waiting : List (ℕ × List ℕ)) → n ≤ 1024 →
    engines ≡ opening_engines l n 0 n → waiting ≡ [] → HasComeBy (record { engines = engines; waiting = waiting }) []
made_has_come l n engines waiting few es ws =
    let is : (record { engines = engines; waiting = waiting }) ≡ opening_running l n = λ t. record { engines = es t; waiting = ws t } in
    subst (λ (s : RunningState). HasComeBy s []) (sym is) (opening_has_come l n few)

pub made_has_past : (l : MessageLimit) (n : ℕ) (engines : List EngineState) (waiting : List (ℕ × List ℕ)) → n ≤ 1024 →
    engines ≡ opening_engines l n 0 n → waiting ≡ [] → HasPast (record { engines = engines; waiting = waiting })
made_has_past l n engines waiting few es ws =
    let h : HasComeBy (record { engines = engines; waiting = waiting }) [] = made_has_come l n engines waiting few es ws in
    record { world = h.world; past = h.past }

-- ---- what the world itself asks of an event

rank_is_there : (n rank : ℕ) → rank < n → nat_le n rank ≡ false
rank_is_there n rank lt = lt-leb n rank lt

no_fault : (n rank : ℕ) → rank < n → first_fault (target_fault n (Some rank)) None ≡ None
no_fault n rank lt =
    subst (λ (t : Bool). first_fault (if t then Some refusals.NoSuchRank else None) None ≡ None)
    (sym (rank_is_there n rank lt)) refl

delivery_has_no_fault : (n : ℕ) (limit : MessageLimit) (d : List (ℕ × List ℕ)) (number rank : ℕ) (bytes : List ℕ) →
    slice_get d number ≡ Some (rank, bytes) → rank < n → event_fault n limit d (events.Deliver number) ≡ None
delivery_has_no_fault n limit d number rank bytes is lt =
    subst (λ (o : Option (ℕ × List ℕ)). first_fault (target_fault n (option_map (λ (t : ℕ × List ℕ). t.0) o)) None ≡ None)
    (sym is) (no_fault n rank lt)

-- ---- a step that was taken

-- a world once this event was taken, and what that added
abbrev after_event : WorldState → (engines : List EngineState) → Event → Gave → WorldState
after_event w engines event gave = record w {
  engines = engines;
  datagrams = w.datagrams ++ gave.out;
  history = w.history ++ entry_of event gave ∷ [];
}

abbrev added_by : WorldState → Gave → Stepped
added_by w gave = record { first = length w.datagrams; count = length gave.out; place = length w.history }

taken : (w : WorldState) (new : RunningState) (event : Event) (gave : Gave) (came left : List (ℕ × List ℕ)) →
    IsSound w.engines w.datagrams w.history → fault_in w event ≡ None →
    RanAt w.datagrams event w.engines (Ok gave) new.engines → IsWorld new.engines → w.datagrams ≡ came ++ left →
    new.waiting ≡ left ++ gave.out → (s : StepsTo w event (Ok (added_by w gave)) new) ×
    (s.world.history ≡ w.history ++ entry_of event gave ∷ [])
taken w new event gave came left sound allowed ran world was now =
    let v : WorldState = after_event w new.engines event gave in
    let s : IsSound v.engines v.datagrams v.history =
    event_sound w.engines new.engines w.datagrams w.history event gave sound allowed ran world in
    let gives : Went w event (added_by w gave) v = went w v event gave (added_by w gave) sound allowed ran refl refl refl in (
      record {
        world = v;
        gives = gives;
        goes_on = step_goes_on w v event (Ok (added_by w gave)) gives s;
        past = record {
          engines = refl;
          came = came;
          datagrams = ap (λ (d : List (ℕ × List ℕ)). d ++ gave.out) was ∙ append_assoc came left gave.out
              ∙ ap (λ (d : List (ℕ × List ℕ)). came ++ d) (sym now);
          sound = s;
        };
      },
      refl,
    )

-- ---- a call

-- a call looks at no datagram
of_call : (d : List (ℕ × List ℕ)) (rank : ℕ) (call : Call) (old new : List EngineState) (result : Result Gave Rejection) →
    RanAt [] (events.Call rank call) old result new → RanAt d (events.Call rank call) old result new
of_call d rank call old new result r = record {
  rank = r.rank;
  target = r.target;
  engine = r.engine;
  there = r.there;
  next = r.next;
  ran = r.ran;
  others = r.others;
}

pub call_steps : (old new : RunningState) (rank : ℕ) (call : Call) (a : Answered) → TakesCall old rank call a new →
    IsWorld new.engines → (w : WorldState) → IsPastOf w old → CallSteps w rank call a new
call_steps old new rank call a t world w p =
    let event : Event = events.Call rank call in
    let within : t.ran.rank < length old.engines = slice_get_within old.engines t.ran.rank t.ran.engine t.ran.there in
    let lt : rank < length w.engines =
    omega (arith, within, same_Some rank t.ran.rank t.ran.target, ap length p.engines) in
    let ran : RanAt w.datagrams event w.engines (Ok t.gave) new.engines =
    subst (λ (es : List EngineState). RanAt w.datagrams event es (Ok t.gave) new.engines) (sym p.engines)
    (of_call w.datagrams rank call old.engines new.engines (Ok t.gave) t.ran) in
    let s = taken w new event t.gave p.came old.waiting p.sound (no_fault (length w.engines) rank lt) ran world p.datagrams t.waiting in
    record {
      added = added_by w t.gave;
      steps = s.0;
      entry = entry_of event t.gave;
      history = s.1;
      tells = record { event = refl; reply = sym t.reply; completion = sym t.completion };
    }

-- what a step adds to the run of the past is what the world that runs has come by
pub run_of_call : (old new : RunningState) (rank : ℕ) (call : Call) (a : Answered) → TakesCall old rank call a new →
    IsWorld new.engines → (run_events : List machine.Event) → HasComeBy old run_events →
    (more : List machine.Event) × IsCallOf (call_seen call) more × HasComeBy new (run_events ++ more)
run_of_call old new rank call a t world run_events h =
    let s = call_steps old new rank call a t world h.world h.past in
    let g = s.steps.goes_on run_events h.run in
    (g.0, g.1.1, record { world = s.steps.world; past = s.steps.past; run = g.2 })

-- whether it is taken or refused
pub call_goes_on : (old new : RunningState) (rank : ℕ) (call : Call) (answer : Result Answered WorldRefusal) →
    CallRunsOn old rank call answer new → IsWorld new.engines → CallGoesOn old rank call answer new
call_goes_on old new rank call (Ok a) t world = call_steps old new rank call a t world
call_goes_on old new rank call (Err refused) t world = t.0

pub goes_on_by_call : (old new : RunningState) (rank : ℕ) (call : Call) (answer : Result Answered WorldRefusal) →
    CallRunsOn old rank call answer new → IsWorld new.engines → GoesOnByCall old call answer new
goes_on_by_call old new rank call (Ok a) t world = run_of_call old new rank call a t world
goes_on_by_call old new rank call (Err refused) t world = t.0

-- what had a past has one
stays_past : (old new : RunningState) → new ≡ old → HasPast old → HasPast new
stays_past old new is h = subst (λ (s : RunningState). HasPast s) (sym is) h

pub past_of_call : (old new : RunningState) (rank : ℕ) (call : Call) (answer : Result Answered WorldRefusal) →
    CallRunsOn old rank call answer new → IsWorld new.engines → HasPast old → HasPast new
past_of_call old new rank call (Ok a) t world h =
    let s = call_steps old new rank call a t world h.world h.past in
    record { world = s.steps.world; past = s.steps.past }
past_of_call old new rank call (Err refused) t world h = stays_past old new t.0 h

-- ---- a datagram

-- what stands behind all that came is the next to come
next_at : (came : List (ℕ × List ℕ)) (d : ℕ × List ℕ) (rest : List (ℕ × List ℕ)) →
    slice_get (came ++ d ∷ rest) (length came) ≡ Some d
next_at [] d rest = refl
next_at (c ∷ came) d rest = next_at came d rest

-- a delivery looks at its own datagram alone
of_delivery : (d : List (ℕ × List ℕ)) (number : ℕ) (x : ℕ × List ℕ) (old new : List EngineState)
    (result : Result Gave Rejection) → slice_get d number ≡ Some x →
    RanAt (x ∷ []) (events.Deliver 0) old result new → RanAt d (events.Deliver number) old result new
of_delivery d number x old new result is r = record {
  rank = r.rank;
  target = subst (λ (o : Option (ℕ × List ℕ)). option_map (λ (t : ℕ × List ℕ). t.0) o ≡ Some r.rank) (sym is) r.target;
  engine = r.engine;
  there = r.there;
  next = r.next;
  ran = subst (λ (o : Option (ℕ × List ℕ)). DeliveryRuns o r.engine result r.next) (sym is) r.ran;
  others = r.others;
}

-- a datagram that its engine refuses
turned_away : (w : WorldState) (old new : RunningState) (event : Event) (e : Rejection) (came left : List (ℕ × List ℕ)) →
    IsSound w.engines w.datagrams w.history → fault_in w event ≡ None → w.engines ≡ old.engines →
    RanAt w.datagrams event old.engines (Err e) new.engines → w.datagrams ≡ came ++ left →
    new.waiting ≡ left ++ e.out → (answer : Result Stepped Failed) × StepsTo w event answer new
turned_away w old new event e came left sound allowed same ran was now =
    let stays : new.engines ≡ old.engines = all_stay w.datagrams event old.engines new.engines e ran in
    let own : RanAt w.datagrams event w.engines (Err e) w.engines =
    subst (λ (es : List EngineState). RanAt w.datagrams event es (Err e) es) (sym same)
    (subst (λ (es : List EngineState). RanAt w.datagrams event old.engines (Err e) es) stays ran) in
    let v : WorldState = record w { datagrams = w.datagrams ++ e.out } in
    let failed : Failed = record { refused = refusals.Engine e.refused; event = event; reset = first_of (length w.datagrams) e.out } in
    let gives : IsRefusedBy w event failed v =
    refused_so w event failed w.engines (w.datagrams ++ e.out) w.history w.datagram_room w.entry_room e.out sound refl refl refl refl refl
    (ByTheEngine e allowed refl refl own) in
    let s : IsSound v.engines v.datagrams v.history =
    refusal_sound w.engines w.datagrams w.history event e sound allowed own in (
      Err failed,
      record {
        world = v;
        gives = gives;
        goes_on = step_goes_on w v event (Err failed) gives s;
        past = record {
          engines = same ∙ sym stays;
          came = came;
          datagrams = ap (λ (d : List (ℕ × List ℕ)). d ++ e.out) was ∙ append_assoc came left e.out
              ∙ ap (λ (d : List (ℕ × List ℕ)). came ++ d) (sym now);
          sound = s;
        };
      },
    )

pub next_steps : (old new : RunningState) (c : Came) → Comes old c new → IsWorld new.engines → (w : WorldState) →
    (p : IsPastOf w old) → (answer : Result Stepped Failed) × StepsTo w (events.Deliver (length p.came)) answer new
next_steps old new c x world w p = go x.gave x.ran x.waiting
  where
    first : ℕ × List ℕ
    first = (c.rank, x.bytes)

    event : Event
    event = events.Deliver (length p.came)

    there : slice_get w.datagrams (length p.came) ≡ Some first
    there =
        subst (λ (d : List (ℕ × List ℕ)). slice_get d (length p.came) ≡ Some first)
        (sym (p.datagrams ∙ ap (λ (d : List (ℕ × List ℕ)). p.came ++ d) x.oldest)) (next_at p.came first x.rest)

    was : w.datagrams ≡ (p.came ++ first ∷ []) ++ x.rest
    was = p.datagrams ∙ ap (λ (d : List (ℕ × List ℕ)). p.came ++ d) x.oldest
        ∙ sym (append_assoc p.came (first ∷ []) x.rest)

    lt : c.rank < length w.engines
    lt =
        omega (
          arith,
          slice_get_within old.engines x.ran.rank x.ran.engine x.ran.there,
          same_Some c.rank x.ran.rank x.ran.target,
          ap length p.engines,
        )

    allowed : fault_in w event ≡ None
    allowed =
        delivery_has_no_fault (length w.engines) (limit_in w.engines) w.datagrams (length p.came) c.rank x.bytes there lt

    go : (o : Result Gave Rejection) → RanAt (first ∷ []) (events.Deliver 0) old.engines o new.engines →
        new.waiting ≡ x.rest ++ emitted o → (answer : Result Stepped Failed) × StepsTo w event answer new
    go (Ok gave) ran now =
        let own : RanAt w.datagrams event w.engines (Ok gave) new.engines =
        subst (λ (es : List EngineState). RanAt w.datagrams event es (Ok gave) new.engines) (sym p.engines)
        (of_delivery w.datagrams (length p.came) first old.engines new.engines (Ok gave) there ran) in (
          Ok (added_by w gave),
          (taken w new event gave (p.came ++ first ∷ []) x.rest p.sound allowed own world was now).0,
        )
    go (Err e) ran now =
        turned_away w old new event e (p.came ++ first ∷ []) x.rest p.sound allowed p.engines
        (of_delivery w.datagrams (length p.came) first old.engines new.engines (Err e) there ran) was now

-- a delivery that is refused adds nothing, and one that is taken has no call
without_call : (w : WorldState) (number : ℕ) (answer : Result Stepped Failed) (more : List machine.Event) →
    AreStepsOf w (events.Deliver number) answer more → IsWithoutCall more
without_call w number (Ok added) more s = s.1
without_call w number (Err failed) more s = subst (λ (vs : List machine.Event). IsWithoutCall vs) (sym s) tt

pub run_of_next : (old new : RunningState) (c : Came) → Comes old c new → IsWorld new.engines →
    (run_events : List machine.Event) → HasComeBy old run_events →
    (more : List machine.Event) × IsWithoutCall more × HasComeBy new (run_events ++ more)
run_of_next old new c x world run_events h =
    let s = next_steps old new c x world h.world h.past in
    let g = s.1.goes_on run_events h.run in (
      g.0,
      without_call h.world (length h.past.came) s.0 g.0 g.1,
      record { world = s.1.world; past = s.1.past; run = g.2 },
    )

-- whether there is one that comes
pub next_goes_on : (old new : RunningState) (answer : Result (Option Came) WorldRefusal) → NextComes old answer new →
    IsWorld new.engines → NextGoesOn old answer new
next_goes_on old new (Ok None) x world = x.1
next_goes_on old new (Ok (Some c)) x world = next_steps old new c x world
next_goes_on old new (Err refused) x world = x.0

pub goes_on_by_next : (old new : RunningState) (answer : Result (Option Came) WorldRefusal) → NextComes old answer new →
    IsWorld new.engines → GoesOnByNext old answer new
goes_on_by_next old new (Ok None) x world = x.1
goes_on_by_next old new (Ok (Some c)) x world = run_of_next old new c x world
goes_on_by_next old new (Err refused) x world = x.0

pub past_of_next : (old new : RunningState) (answer : Result (Option Came) WorldRefusal) → NextComes old answer new →
    IsWorld new.engines → HasPast old → HasPast new
past_of_next old new (Ok None) x world h = stays_past old new x.1 h
past_of_next old new (Ok (Some c)) x world h =
    let s = next_steps old new c x world h.world h.past in
    record { world = s.1.world; past = s.1.past }
past_of_next old new (Err refused) x world h = stays_past old new x.0 h

-- ---- what a world with a past is

pub past_is_world : (s : RunningState) → HasPast s → IsWorld s.engines
past_is_world s h = subst (λ (es : List EngineState). IsWorld es) h.past.engines h.past.sound.world

pub past_is_placed : (s : RunningState) → HasPast s → ArePlaced s.engines
past_is_placed s h =
    subst (λ (es : List EngineState). ArePlaced es) h.past.engines
    (sound_placed h.world.engines h.world.datagrams h.world.history h.past.sound)
