-- What is true of a world stays true.
use Rattle.std.proofs.Common.{◌≡◌, ℕ, zero, suc, ◌<◌, ◌≤◌, List, [], ◌∷◌, ◌++◌, length, Option, Some, None, refl, sym}
use Rattle.std.proofs.Common.{ap, subst, ◌∙◌, append-nil, arith}
use Rattle.std.specs.Prelude.{Ok, option_map, slice_get, slice_index_or, slice_set}
use Rattle.std.proofs.lemmas.Grind.{flat_map-append}
use Rattle.std.proofs.lemmas.List.{length-set}
use Rattle.std.proofs.lemmas.Option.{same_Some}
use Rattle.vocabulary.specs.MessageLimits.{least}
use Rattle.vocabulary.specs.declared.endpoint.Endpoint.{Endpoint}
use Rattle.vocabulary.specs.declared.message_limit.MessageLimit.{MessageLimit}
use Rattle.engine_calls.specs.EngineState.{EngineState, completion_of, emptied, opening}
use Rattle.engine_calls.specs.declared.call.Call.{Call}
use Rattle.engine_calls.specs.declared.reply.Completion.{Completion}
use Rattle.engine_calls.specs.declared.reply.Reply.{Reply}
use Rattle.perfect_groups.specs.Events as machine
use Rattle.observation.specs.EngineCalls.{told_call, told_completion}
use Rattle.proof_group_network.specs.Network.{Happening}
use Rattle.proof_network_runs.specs.Runs.{rank_of}
use Rattle.proof_network_bridge.specs.EventLaws.{next_place}
use Rattle.proof_network_bridge.specs.GoingOn.{Happened, IsFollowedBy, IsFollowedOn, LeavesFollowedOn, Stands}
use Rattle.proof_network_bridge.specs.WorldViews.{IsFollowed, limit_in, opening_engines}
use Rattle.proof_network_bridge.proofs.WorldLaws.{calls_follow_on, datagrams_follow_on, opening_follows_none}
use Rattle.proof_network_bridge.proofs.WorldLaws.{restarts_follow_on, ticks_stand}
use Rattle.proof_network_bridge.proofs.RankEvents.{by_happenings}
use Rattle.proof_network_bridge.proofs.RankEvents.{followed as followed_by}
use Rattle.world.specs.EventByEvent.{IsSoundBy}
use Rattle.world.specs.WorldState.{IsWorld, StandsIn, WorldState}
use Rattle.world.specs.Headline.{IsSound, entry_seen, history_seen}
use Rattle.world.specs.Faults.{event_fault, target_of}
use Rattle.world.specs.Steps.{CallRuns, DatagramRuns, DeliveryRuns, EventRuns, Gave, RanAt, RestartRuns, TakesBytes}
use Rattle.world.specs.Steps.{TakesCall, TakesTime, TickRuns, Went, entry_of, fault_in, nothing_of}
use Rattle.world.specs.declared.event.HistoryEntry.{HistoryEntry}
use Rattle.world.specs.declared.event.Event.{Event}
use Rattle.world.specs.declared.event.Event.TheVariants as events
use Rattle.world.specs.declared.event.Stepped.{Stepped}
use Rattle.world.specs.declared.refusal.WorldRefusal.{WorldRefusal}
use Rattle.world.proofs.Keys.{all_named}
use Rattle.world.proofs.Limits.{limit_by, limit_new, limit_on}
use Rattle.world.proofs.Places.{below_last, sound_placed}
use Rattle.world.proofs.Strays.{stray_breaks}

pub sound_same : (e e' : List EngineState) (d d' : List (ℕ × List ℕ)) (h h' : List HistoryEntry) → e' ≡ e → d' ≡ d →
    h' ≡ h → IsSound e d h → IsSound e' d' h'
sound_same e e' d d' h h' es ds hs s =
    subst (λ (x : List EngineState). IsSound x d' h') (sym es)
    (subst (λ (x : List (ℕ × List ℕ)). IsSound e x h') (sym ds)
    (subst (λ (x : List HistoryEntry). IsSound e d x) (sym hs) s))

-- ---- by which happenings

-- what holds by some happenings holds
pub is_sound : (happenings : List Happening) (engines : List EngineState) (d : List (ℕ × List ℕ))
    (h : List HistoryEntry) → IsSoundBy happenings engines d h → IsSound engines d h
is_sound happenings engines d h s =
    record {
      world = s.world;
      followed = followed_by (length engines) (limit_in engines) happenings engines d (history_seen h) s.followed;
      limited = refl;
      named = s.named;
    }

-- and what holds does so by some
pub sound_by : (engines : List EngineState) (d : List (ℕ × List ℕ)) (h : List HistoryEntry) →
    (s : IsSound engines d h) → IsSoundBy s.followed.happenings engines d h
sound_by engines d h s =
    record {
      world = s.world;
      followed = subst
          (λ (l : MessageLimit). IsFollowedBy (length engines) l s.followed.happenings engines d (history_seen h))
          s.limited
          (by_happenings (length engines) engines d (history_seen h) s.followed);
      named =
          s.named;
    }

-- ---- the opening

length_opening : (l : MessageLimit) (n a k : ℕ) → length (opening_engines l n a k) ≡ k
length_opening l n a zero = refl
length_opening l n a (suc k) = ap suc (length_opening l n (suc a) k)

-- each engine of an opening world is at its start
opening_stands : (l : MessageLimit) (m n a k i : ℕ) (d : EngineState) → i < k → n ≡ m →
    StandsIn m (slice_index_or (opening_engines l n a k) i d)
opening_stands l m n a zero i d lt is = absurd (omega arith)
opening_stands l m n a (suc k) zero d lt is =
    record { size = is; clean = record { out = refl; completion = refl; ended = refl } }
opening_stands l m n a (suc k) (suc i) d lt is = opening_stands l m n (suc a) k i d (omega arith) is

opening_is_world : (l : MessageLimit) (n : ℕ) → n ≤ 1024 → IsWorld (opening_engines l n 0 n)
opening_is_world l n few =
    let size : length (opening_engines l n 0 n) ≡ n = length_opening l n 0 n in (
      omega (arith, few, size),
      λ k d lt. opening_stands l (length (opening_engines l n 0 n)) n 0 n k d
          (omega (arith, lt, size)) (sym size),
    )

opening_followed : (l : MessageLimit) (n : ℕ) → n ≤ 1024 →
    IsFollowedBy n (limit_in (opening_engines l n 0 n)) [] (opening_engines l n 0 n) [] []
opening_followed l zero few = opening_follows_none least zero few
opening_followed l (suc m) few = opening_follows_none l (suc m) few

pub opening_sound_by : (l : MessageLimit) (n : ℕ) → n ≤ 1024 → IsSoundBy [] (opening_engines l n 0 n) [] []
opening_sound_by l n few =
    record {
      world = opening_is_world l n few;
      followed = subst
          (λ (m : ℕ). IsFollowedBy m (limit_in (opening_engines l n 0 n)) [] (opening_engines l n 0 n) [] [])
          (sym (length_opening l n 0 n)) (opening_followed l n few);
      named = λ r e there. record { past = tt; named = λ q given. absurd given };
    }

pub opening_sound : (l : MessageLimit) (n : ℕ) → n ≤ 1024 → IsSound (opening_engines l n 0 n) [] []
opening_sound l n few = is_sound [] (opening_engines l n 0 n) [] [] (opening_sound_by l n few)

-- one entry more is seen behind the others
seen_more : (h : List HistoryEntry) (e : HistoryEntry) → history_seen (h ++ e ∷ []) ≡ history_seen h ++ entry_seen e
seen_more h e = flat_map-append entry_seen h (e ∷ []) ∙
    ap (λ (x : List machine.Entry). history_seen h ++ x) (append-nil (entry_seen e))

-- the parts of what followed, put together
followed : (before : List Happening) (old new : List EngineState) (d : List (ℕ × List ℕ)) (h : List HistoryEntry)
    (rank : ℕ) (event : Event) (gave : Gave) (mid next : EngineState) (seen : List machine.Entry) →
    LeavesFollowedOn (length old) (limit_in old) before old d rank mid (history_seen h ++ seen) → next ≡ emptied mid →
    new ≡ slice_set old rank next → gave.out ≡ mid.sessions.out → seen ≡ entry_seen (entry_of event gave) →
    IsFollowedOn (length new) (limit_in old) rank before new (d ++ gave.out)
    (history_seen (h ++ entry_of event gave ∷ []))
followed before old new d h rank event gave mid next seen f state others out is =
    let engines_are : new ≡ slice_set old rank (emptied mid) = others ∙ ap (slice_set old rank) state in
    let size_is : length new ≡ length old = ap length engines_are ∙ length-set old rank (emptied mid) in
    let history_is : history_seen (h ++ entry_of event gave ∷ []) ≡ history_seen h ++ seen =
    seen_more h (entry_of event gave) ∙ ap (λ (x : List machine.Entry). history_seen h ++ x) (sym is) in
    subst (λ (x : List machine.Entry). IsFollowedOn (length new) (limit_in old) rank before new (d ++ gave.out) x)
    (sym history_is)
    (subst (λ (x : List (ℕ × List ℕ)). IsFollowedOn (length new) (limit_in old) rank before new (d ++ x)
    (history_seen h ++ seen))
    (sym out)
    (subst (λ (x : List EngineState). IsFollowedOn (length new) (limit_in old) rank before x (d ++ mid.sessions.out)
    (history_seen h ++ seen)) (sym engines_are)
    (subst (λ (m : ℕ). IsFollowedOn m (limit_in old) rank before (slice_set old rank (emptied mid))
    (d ++ mid.sessions.out) (history_seen h ++ seen)) (sym size_is) f)))

-- the same where nothing happened
followed_still : (before : List Happening) (old new : List EngineState) (d : List (ℕ × List ℕ)) (h : List HistoryEntry)
    (rank : ℕ) (event : Event) (gave : Gave) (mid next : EngineState) (seen : List machine.Entry) →
    IsFollowedBy (length old) (limit_in old) before (slice_set old rank (emptied mid)) (d ++ mid.sessions.out)
    (history_seen h ++ seen) → next ≡ emptied mid →
    new ≡ slice_set old rank next → gave.out ≡ mid.sessions.out → seen ≡ entry_seen (entry_of event gave) →
    IsFollowedBy (length new) (limit_in old) before new (d ++ gave.out) (history_seen (h ++ entry_of event gave ∷ []))
followed_still before old new d h rank event gave mid next seen f state others out is =
    let engines_are : new ≡ slice_set old rank (emptied mid) = others ∙ ap (slice_set old rank) state in
    let size_is : length new ≡ length old = ap length engines_are ∙ length-set old rank (emptied mid) in
    let history_is : history_seen (h ++ entry_of event gave ∷ []) ≡ history_seen h ++ seen =
    seen_more h (entry_of event gave) ∙ ap (λ (x : List machine.Entry). history_seen h ++ x) (sym is) in
    subst (λ (x : List machine.Entry). IsFollowedBy (length new) (limit_in old) before new (d ++ gave.out) x)
    (sym history_is)
    (subst (λ (x : List (ℕ × List ℕ)). IsFollowedBy (length new) (limit_in old) before new (d ++ x)
    (history_seen h ++ seen))
    (sym out)
    (subst (λ (x : List EngineState). IsFollowedBy (length new) (limit_in old) before x (d ++ mid.sessions.out)
    (history_seen h ++ seen)) (sym engines_are)
    (subst (λ (m : ℕ). IsFollowedBy m (limit_in old) before (slice_set old rank (emptied mid))
    (d ++ mid.sessions.out) (history_seen h ++ seen)) (sym size_is) f)))

-- what an event that the engine of a rank took leaves, by what the history says of it
abbrev pub Leaves : (limit : MessageLimit) (rank : ℕ) (before : List Happening) (new : List EngineState)
    (d : List (ℕ × List ℕ))
    (h : List HistoryEntry) → Event → Gave → Type 0
Leaves limit rank before new d h event gave =
    IsFollowedOn (length new) limit rank before new (d ++ gave.out) (history_seen (h ++ entry_of event gave ∷ []))

-- an engine of a world that was followed so far, and what stands for it afterwards
record IsEngineOf (happenings : List Happening) (old new : List EngineState) (d : List (ℕ × List ℕ))
    (h : List HistoryEntry) (rank : ℕ) (e next : EngineState) : Type 0 where
  pub before : IsFollowedBy (length old) (limit_in old) happenings old d (history_seen h)
  pub there : slice_get old rank ≡ Some e
  pub others : new ≡ slice_set old rank next

-- what is seen of an answer, at the endpoint that the engine was
completion_at : (e : EngineState) (mid : EngineState) (gave : Gave) → gave.endpoint ≡ e.sessions.place.endpoint →
    gave.completion ≡ completion_of mid →
    told_completion e.sessions.place.endpoint (completion_of mid) ≡ told_completion gave.endpoint gave.completion
completion_at e mid gave endpoint completion =
    ap (λ (o : Option Completion). told_completion e.sessions.place.endpoint o) (sym completion) ∙
    ap (λ (x : Endpoint). told_completion x gave.completion) (sym endpoint)

-- ---- a call

call_followed : (before : List Happening) (old new : List EngineState) (d : List (ℕ × List ℕ)) (h : List HistoryEntry)
    (rank r : ℕ) (call : Call) (e next : EngineState) (gave : Gave) →
    IsEngineOf before old new d h rank e next → CallRuns e call (Ok gave) next →
    Leaves (limit_in old) rank before new d h (events.Call r call) gave
call_followed before old new d h rank r call e next gave at ran = go gave.reply refl
  where
    go : (o : Option Reply) → gave.reply ≡ o → Leaves (limit_in old) rank before new d h (events.Call r call) gave
    go None is = absurd (subst (λ (o : Option Reply). TakesCall e call o ran.mid) is ran.event)
    go (Some reply) is =
        let a = subst (λ (o : Option Reply). TakesCall e call o ran.mid) is ran.event in
        followed before old new d h rank (events.Call r call) gave ran.mid next
        (told_call e.sessions.place.endpoint call (Some reply) ++
        told_completion e.sessions.place.endpoint (completion_of ran.mid))
        (calls_follow_on (length old) (limit_in old) rank before old d (history_seen h) e ran.mid call reply at.before
        at.there a.0
        a.1)
        ran.state at.others ran.out
        (ap (λ (o : Option Reply). told_call e.sessions.place.endpoint call o ++
        told_completion e.sessions.place.endpoint (completion_of ran.mid)) (sym is)
        ∙ ap (λ (es : List machine.Entry). told_call e.sessions.place.endpoint call gave.reply ++ es)
        (completion_at e ran.mid gave ran.endpoint ran.completion)
        ∙ ap (λ (x : Endpoint). told_call x call gave.reply ++ told_completion gave.endpoint gave.completion)
        (sym ran.endpoint))

-- ---- a datagram

datagram_followed : (before : List Happening) (old new : List EngineState) (d : List (ℕ × List ℕ))
    (h : List HistoryEntry) (number rank : ℕ) (bytes : List ℕ) (e next : EngineState) (gave : Gave) →
    IsEngineOf before old new d h rank e next → slice_get d number ≡ Some (rank, bytes) →
    DatagramRuns e bytes (Ok gave) next →
    Leaves (limit_in old) rank before new d h (events.Deliver number) gave
datagram_followed before old new d h number rank bytes e next gave at emitted ran = go gave.reply refl
  where
    go : (o : Option Reply) → gave.reply ≡ o → Leaves (limit_in old) rank before new d h (events.Deliver number) gave
    go (Some reply) is = absurd (subst (λ (o : Option Reply). TakesBytes e bytes o ran.mid) is ran.event)
    go None is =
        followed before old new d h rank (events.Deliver number) gave ran.mid next
        (told_completion e.sessions.place.endpoint (completion_of ran.mid))
        (datagrams_follow_on (length old) (limit_in old) rank number bytes before old d (history_seen h) e ran.mid
        at.before at.there
        emitted
        (subst (λ (o : Option Reply). TakesBytes e bytes o ran.mid) is ran.event))
        ran.state at.others ran.out (completion_at e ran.mid gave ran.endpoint ran.completion)

-- by the datagram under the number, which goes to the rank that the delivery comes to
delivery_followed : (before : List Happening) (old new : List EngineState) (d : List (ℕ × List ℕ))
    (h : List HistoryEntry) (number rank : ℕ) (e next : EngineState) (gave : Gave) →
    IsEngineOf before old new d h rank e next → target_of d (events.Deliver number) ≡ Some rank →
    DeliveryRuns (slice_get d number) e (Ok gave) next →
    Leaves (limit_in old) rank before new d h (events.Deliver number) gave
delivery_followed before old new d h number rank e next gave at target ran = go (slice_get d number) refl target ran
  where
    go : (o : Option (ℕ × List ℕ)) → slice_get d number ≡ o → option_map (λ (t : ℕ × List ℕ). t.0) o ≡ Some rank →
        DeliveryRuns o e (Ok gave) next →
        Leaves (limit_in old) rank before new d h (events.Deliver number) gave
    go None is t n = absurd n
    go (Some (to, bytes)) is t n =
        let to_is : to ≡ rank = same_Some to rank t in
        datagram_followed before old new d h number rank bytes e next gave at
        (is ∙ ap (λ (x : ℕ). Some (x, bytes)) to_is) n

-- ---- a tick

-- nothing happens at one
abbrev LeavesStill : (limit : MessageLimit) (before : List Happening) (new : List EngineState) (d : List (ℕ × List ℕ))
    (h : List HistoryEntry) →
    Event → Gave → Type 0
LeavesStill limit before new d h event gave =
    IsFollowedBy (length new) limit before new (d ++ gave.out) (history_seen (h ++ entry_of event gave ∷ []))

tick_followed : (before : List Happening) (old new : List EngineState) (d : List (ℕ × List ℕ)) (h : List HistoryEntry)
    (rank r now : ℕ) (e next : EngineState) (gave : Gave) →
    IsEngineOf before old new d h rank e next → TickRuns e now (Ok gave) next →
    LeavesStill (limit_in old) before new d h (events.Tick r now) gave
tick_followed before old new d h rank r now e next gave at ran = go gave.reply refl
  where
    go : (o : Option Reply) → gave.reply ≡ o → LeavesStill (limit_in old) before new d h (events.Tick r now) gave
    go (Some reply) is = absurd (subst (λ (o : Option Reply). TakesTime e now o ran.mid) is ran.event)
    go None is =
        followed_still before old new d h rank (events.Tick r now) gave ran.mid next
        (told_completion e.sessions.place.endpoint (completion_of ran.mid))
        (ticks_stand (length old) (limit_in old) rank now before old d (history_seen h) e ran.mid at.before at.there
        (subst (λ (o : Option Reply). TakesTime e now o ran.mid) is ran.event))
        ran.state at.others ran.out (completion_at e ran.mid gave ran.endpoint ran.completion)

-- ---- a restart

restart_followed : (before : List Happening) (old new : List EngineState) (d : List (ℕ × List ℕ))
    (h : List HistoryEntry) (rank : ℕ) (e next : EngineState) (gave : Gave) →
    IsEngineOf before old new d h rank e next → RestartRuns e (Ok gave) next →
    Leaves (limit_in old) rank before new d h (events.Restart rank) gave
restart_followed before old new d h rank e next gave at ran =
    let after : EngineState = opening (next_place e.sessions.place) in
    let engines_are : new ≡ slice_set old rank after = at.others ∙ ap (slice_set old rank) ran.1 in
    let size_is : length new ≡ length old = ap length engines_are ∙ length-set old rank after in
    let none : Gave = nothing_of e.sessions.place.endpoint in
    let done : IsFollowedOn (length old) (limit_in old) rank before (slice_set old rank after) d
    (history_seen h ++ machine.Restarted rank ∷ []) =
    restarts_follow_on (length old) (limit_in old) rank before old d (history_seen h) e at.before at.there
    (below_last (length old) old d (history_seen h) rank e
    (followed_by (length old) (limit_in old) before old d (history_seen h) at.before) at.there ran.0)
    in
    let there : IsFollowedOn (length new) (limit_in old) rank before new d
    (history_seen h ++ machine.Restarted rank ∷ []) =
    subst (λ (x : List EngineState). IsFollowedOn (length new) (limit_in old) rank before x d
    (history_seen h ++ machine.Restarted rank ∷ [])) (sym engines_are)
    (subst (λ (m : ℕ). IsFollowedOn m (limit_in old) rank before (slice_set old rank after) d
    (history_seen h ++ machine.Restarted rank ∷ [])) (sym size_is) done)
    in
    subst (λ (g : Gave). Leaves (limit_in old) rank before new d h (events.Restart rank) g) (sym ran.2)
    (subst (λ (x : List machine.Entry). IsFollowedOn (length new) (limit_in old) rank before new (d ++ []) x)
    (sym (seen_more h (entry_of (events.Restart rank) none)))
    (subst (λ (x : List (ℕ × List ℕ)). IsFollowedOn (length new) (limit_in old) rank before new x
    (history_seen h ++ machine.Restarted rank ∷ [])) (sym (append-nil d)) there))

-- ---- any event

-- the fault of an event by what a world's size and its datagrams equal
pub fault_as : (size n : ℕ) (limit most : MessageLimit) (d d' : List (ℕ × List ℕ)) (event : Event)
    (o : Option WorldRefusal) → size ≡ n →
    limit ≡ most → d ≡ d' → event_fault size limit d event ≡ o → event_fault n most d' event ≡ o
fault_as size n limit most d d' event o size_is limit_is d_is h =
    subst (λ (m : ℕ). event_fault m most d' event ≡ o) size_is
    (subst (λ (l : MessageLimit). event_fault size l d' event ≡ o) limit_is
    (subst (λ (x : List (ℕ × List ℕ)). event_fault size limit x event ≡ o) d_is h))

-- at a tick nothing happens; at any other event something may
abbrev LeavesBy : (limit : MessageLimit) (rank : ℕ) (before : List Happening) (new : List EngineState)
    (d : List (ℕ × List ℕ))
    (h : List HistoryEntry) → Event → Gave → Type 0
LeavesBy limit rank before new d h (events.Call r call) gave =
    Leaves limit rank before new d h (events.Call r call) gave
LeavesBy limit rank before new d h (events.Deliver number) gave =
    Leaves limit rank before new d h (events.Deliver number) gave
LeavesBy limit rank before new d h (events.Stray r bytes) gave =
    Leaves limit rank before new d h (events.Stray r bytes) gave
LeavesBy limit rank before new d h (events.Tick r now) gave = LeavesStill limit before new d h (events.Tick r now) gave
LeavesBy limit rank before new d h (events.Restart r) gave = Leaves limit rank before new d h (events.Restart r) gave

event_followed : (before : List Happening) (old new : List EngineState) (d : List (ℕ × List ℕ)) (h : List HistoryEntry)
    (event : Event) (rank : ℕ) (e next : EngineState) (gave : Gave) →
    IsEngineOf before old new d h rank e next → event_fault (length old) (limit_in old) d event ≡ None →
    target_of d event ≡ Some rank → EventRuns d event e (Ok gave) next →
    LeavesBy (limit_in old) rank before new d h event gave
event_followed before old new d h (events.Call r call) rank e next gave at allowed target ran =
    call_followed before old new d h rank r call e next gave at ran
event_followed before old new d h (events.Deliver number) rank e next gave at allowed target ran =
    delivery_followed before old new d h number rank e next gave at target ran
event_followed before old new d h (events.Stray r bytes) rank e next gave at allowed target ran =
    absurd (stray_breaks (length old) (limit_in old) d r bytes allowed)
event_followed before old new d h (events.Tick r now) rank e next gave at allowed target ran =
    tick_followed before old new d h rank r now e next gave at ran
event_followed before old new d h (events.Restart r) rank e next gave at allowed target ran =
    subst (λ (x : ℕ). Leaves (limit_in old) rank before new d h (events.Restart x) gave) (sym (same_Some r rank target))
    (restart_followed before old new d h rank e next gave at ran)

-- something may happen at any event but a tick
abbrev pub IsNoTick : Event → Type 0
IsNoTick (events.Call r call) = Unit {0}
IsNoTick (events.Deliver number) = Unit {0}
IsNoTick (events.Stray r bytes) = Unit {0}
IsNoTick (events.Tick r now) = ⊥
IsNoTick (events.Restart r) = Unit {0}

-- what is true of a world by some happenings is true after an event by one more, at its rank, or by none: by none after
-- a tick
pub data IsSoundOn (event : Event) (rank : ℕ) (before : List Happening) (engines : List EngineState)
    (d : List (ℕ × List ℕ)) (h : List HistoryEntry) : Type 0 where
  Still : IsSoundBy before engines d h → IsSoundOn event rank before engines d h
  Further : (x : Happening) → rank_of x ≡ rank → IsNoTick event → IsSoundBy (before ++ x ∷ []) engines d h →
      IsSoundOn event rank before engines d h

-- whatever an event leaves, it leaves the limit of messages
limits_of : (rank : ℕ) (before : List Happening) (old new : List EngineState) (d : List (ℕ × List ℕ))
    (h : List HistoryEntry) (event : Event) (gave : Gave) → length new ≡ length old →
    LeavesBy (limit_in old) rank before new d h event gave → limit_in new ≡ limit_in old
limits_of rank before old new d h event gave size l = limit_new old new size (λ e first. by event l e first)
  where
    on : (v : Event) → Leaves (limit_in old) rank before new d h v gave → (e : EngineState) →
        slice_get new 0 ≡ Some e → limit_in new ≡ limit_in old
    on v f e first =
        limit_on (length new) (limit_in old) rank before new (d ++ gave.out) (history_seen (h ++ entry_of v gave ∷ []))
        e
        f first

    by : (v : Event) → LeavesBy (limit_in old) rank before new d h v gave → (e : EngineState) →
        slice_get new 0 ≡ Some e → limit_in new ≡ limit_in old
    by (events.Call r call) f e first = on (events.Call r call) f e first
    by (events.Deliver number) f e first = on (events.Deliver number) f e first
    by (events.Stray r bytes) f e first = on (events.Stray r bytes) f e first
    by (events.Tick r now) f e first =
        limit_by (length new) (limit_in old) before new (d ++ gave.out)
        (history_seen (h ++ entry_of (events.Tick r now) gave ∷ [])) e f first
    by (events.Restart r) f e first = on (events.Restart r) f e first

pub limit_stays : (before : List Happening) (old new : List EngineState) (d : List (ℕ × List ℕ))
    (h : List HistoryEntry) (event : Event) (gave : Gave) →
    IsSoundBy before old d h → event_fault (length old) (limit_in old) d event ≡ None →
    RanAt d event old (Ok gave) new → limit_in new ≡ limit_in old
limit_stays before old new d h event gave s allowed ran =
    limits_of ran.rank before old new d h event gave (ap length ran.others ∙ length-set old ran.rank ran.next)
    (event_followed before old new d h event ran.rank ran.engine ran.next gave
    (record { before = s.followed; there = ran.there; others = ran.others }) allowed ran.target ran.ran)

pub event_sound_on : (before : List Happening) (old new : List EngineState) (d : List (ℕ × List ℕ))
    (h : List HistoryEntry) (event : Event) (gave : Gave) →
    IsSoundBy before old d h → event_fault (length old) (limit_in old) d event ≡ None →
    (ran : RanAt d event old (Ok gave) new) →
    IsWorld new → IsSoundOn event ran.rank before new (d ++ gave.out) (h ++ entry_of event gave ∷ [])
event_sound_on before old new d h event gave s allowed ran w =
    by event refl (event_followed before old new d h event ran.rank ran.engine ran.next gave
    (record { before = s.followed; there = ran.there; others = ran.others }) allowed ran.target ran.ran)
  where
    was : IsFollowed (length old) old d (history_seen h)
    was = followed_by (length old) (limit_in old) before old d (history_seen h) s.followed

    -- the limit of the new engines is that of the old ones
    with_new : (happenings : List Happening) →
        IsFollowedBy (length new) (limit_in old) happenings new (d ++ gave.out)
        (history_seen (h ++ entry_of event gave ∷ [])) →
        IsFollowedBy (length new) (limit_in new) happenings new (d ++ gave.out)
        (history_seen (h ++ entry_of event gave ∷ []))
    with_new happenings f =
        subst (λ (l : MessageLimit). IsFollowedBy (length new) l happenings new (d ++ gave.out)
        (history_seen (h ++ entry_of event gave ∷ [])))
        (sym (limit_stays before old new d h event gave s allowed ran)) f

    sound : (happenings : List Happening) →
        IsFollowedBy (length new) (limit_in new) happenings new (d ++ gave.out)
        (history_seen (h ++ entry_of event gave ∷ [])) →
        IsSoundBy happenings new (d ++ gave.out) (h ++ entry_of event gave ∷ [])
    sound happenings f = record {
      world = w;
      followed = f;
      named = all_named old new d (d ++ gave.out) h event ran.rank ran.engine ran.next gave ran.there ran.others allowed
          ran.ran was
          (followed_by (length new) (limit_in new) happenings new (d ++ gave.out)
          (history_seen (h ++ entry_of event gave ∷ [])) f)
          (sound_placed old d h (is_sound before old d h s)) s.named;
    }

    go : IsNoTick event → Leaves (limit_in old) ran.rank before new d h event gave →
        IsSoundOn event ran.rank before new (d ++ gave.out) (h ++ entry_of event gave ∷ [])
    go no_tick (Stands f) = Still (sound before (with_new before f))
    go no_tick (Happened x is f) = Further x is no_tick (sound (before ++ x ∷ []) (with_new (before ++ x ∷ []) f))

    by : (v : Event) → v ≡ event → LeavesBy (limit_in old) ran.rank before new d h v gave →
        IsSoundOn event ran.rank before new (d ++ gave.out) (h ++ entry_of event gave ∷ [])
    by (events.Call r call) is l =
        go (subst IsNoTick is tt) (subst (λ (x : Event). Leaves (limit_in old) ran.rank before new d h x gave) is l)
    by (events.Deliver number) is l =
        go (subst IsNoTick is tt) (subst (λ (x : Event). Leaves (limit_in old) ran.rank before new d h x gave) is l)
    by (events.Stray r bytes) is l =
        go (subst IsNoTick is tt) (subst (λ (x : Event). Leaves (limit_in old) ran.rank before new d h x gave) is l)
    by (events.Tick r now) is l =
        Still (sound before
        (with_new before (subst (λ (x : Event). LeavesStill (limit_in old) before new d h x gave) is l)))
    by (events.Restart r) is l =
        go (subst IsNoTick is tt) (subst (λ (x : Event). Leaves (limit_in old) ran.rank before new d h x gave) is l)

pub event_sound : (old new : List EngineState) (d : List (ℕ × List ℕ)) (h : List HistoryEntry) (event : Event)
    (gave : Gave) →
    IsSound old d h → event_fault (length old) (limit_in old) d event ≡ None → RanAt d event old (Ok gave) new →
    IsWorld new →
    IsSound new (d ++ gave.out) (h ++ entry_of event gave ∷ [])
event_sound old new d h event gave s allowed ran w =
    go (event_sound_on s.followed.happenings old new d h event gave (sound_by old d h s) allowed ran w)
  where
    go : IsSoundOn event ran.rank s.followed.happenings new (d ++ gave.out) (h ++ entry_of event gave ∷ []) →
        IsSound new (d ++ gave.out) (h ++ entry_of event gave ∷ [])
    go (Still x) = is_sound s.followed.happenings new (d ++ gave.out) (h ++ entry_of event gave ∷ []) x
    go (Further y is no_tick x) =
        is_sound (s.followed.happenings ++ y ∷ []) new (d ++ gave.out) (h ++ entry_of event gave ∷ []) x

-- ---- an event that was taken, by what it left

pub went : (old new : WorldState) (event : Event) (gave : Gave) (added : Stepped) →
    IsSound old.engines old.datagrams old.history → fault_in old event ≡ None →
    RanAt old.datagrams event old.engines (Ok gave) new.engines → new.datagrams ≡ old.datagrams ++ gave.out →
    new.history ≡ old.history ++ entry_of event gave ∷ [] →
    added ≡ record { first = length old.datagrams; count = length gave.out; place = length old.history } →
    Went old event added new
went old new event gave added sound allowed ran datagrams history answered = record {
  allowed = allowed;
  gave = gave;
  ran = ran;
  datagrams = datagrams;
  history = history;
  answered = answered;
  limit = limit_stays sound.followed.happenings old.engines new.engines old.datagrams old.history event gave
      (sound_by old.engines old.datagrams old.history sound) allowed ran;
}
