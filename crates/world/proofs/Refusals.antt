-- What a refused event leaves: a reset may have gone out, and nothing else changed.
use Rattle.std.proofs.Common.{◌≡◌, ℕ, List, [], ◌++◌, inl, inr, length, Option, Some, None, Result, refl, sym, ap, ap₂}
use Rattle.std.proofs.Common.{subst, ◌∙◌, append-nil, ◌+◌, ◌*◌, ◌≤◌, Bool, true, false, arith}
use Rattle.std.specs.Prelude.{Ok, Err, option_map, slice_get, slice_set}
use Rattle.std.proofs.lemmas.Bool.{both_ways}
use Rattle.std.proofs.lemmas.Option.{same_Some}
use Rattle.perfect_groups.specs.Events as machine
use Rattle.vocabulary.specs.declared.endpoint.Endpoint.{Endpoint}
use Rattle.rendezvous.specs.Payloads.{Whole}
use Rattle.rendezvous.specs.PayloadState.{is_due, whole_with}
use Rattle.engine.specs.Datagrams.{HeardGivesBy, HearingGives, NoticeText, OfAnnouncement, OfAnswer, OfMessage, OfPiece}
use Rattle.engine.specs.Datagrams.{PieceGivesBy, notice_in}
use Rattle.engine_calls.specs.EngineState.{EngineState, emptied, without_completion, without_out}
use Rattle.collective_steps.specs.declared.step.Ending.{Ending}
use Rattle.sessions.specs.declared.heard.Unheard.{Unheard}
use Rattle.sessions.specs.declared.refusal.SessionRefusal as lower
use Rattle.sessions.specs.Events.{TurnedAway}
use Rattle.sessions.specs.HeardBytes.{HeardText, heard_of}
use Rattle.sessions.specs.SessionsState.{SessionsState}
use Rattle.point_to_point_calls.specs.declared.refusal.Refusal.{Refusal}
use Rattle.vocabulary.specs.declared.message_limit.MessageLimit.{MessageLimit}
use Rattle.proof_network_bridge.specs.EventLaws.{RefusesDatagram}
use Rattle.proof_group_network.specs.Network.{Happening}
use Rattle.proof_network_bridge.specs.GoingOn.{IsFollowedBy}
use Rattle.proof_network_bridge.specs.WorldViews.{IsClean, limit_in}
use Rattle.proof_network_bridge.proofs.WorldLaws.{refusals_stand}
use Rattle.requests.specs.declared.answer.Answer.{Answer}
use Rattle.world.specs.Faults.{event_fault, target_of}
use Rattle.world.specs.EventByEvent.{IsSoundBy}
use Rattle.world.specs.Headline.{IsSound, history_seen}
use Rattle.world.specs.Steps.{DatagramRuns, DeliveryRuns, EventRuns, HasOwnBytes, IsCallWithData, IsRefusedBy, IsWhy, RanAt}
use Rattle.world.specs.Steps.{Rejection, fault_in, first_of, with_out}
use Rattle.world.specs.WorldState.{HasRoom, WorldState}
use Rattle.world.specs.declared.event.HistoryEntry.{HistoryEntry}
use Rattle.world.specs.declared.event.Event.{Event}
use Rattle.world.specs.declared.event.Event.TheVariants as events
use Rattle.world.specs.declared.event.Failed.{Failed}
use Rattle.world.proofs.RefusalRules.{first_fault_refuses}
use Rattle.world.proofs.Places.{sound_placed}
use Rattle.world.proofs.Sound.{is_sound, sound_by}
use Rattle.world.proofs.Strays.{alike_at_engine, stray_breaks}

-- ---- what a refused datagram leaves of an engine

-- nothing but what it emits changed
abbrev OnlyOut : (old new : EngineState) → Type 0
OnlyOut old new = new ≡ record old { sessions = record old.sessions { out = new.sessions.out } }

same_out : (old new : EngineState) → new ≡ old → OnlyOut old new
same_out old new is = subst (λ (e : EngineState). OnlyOut old e) (sym is) refl

-- so it is where only the sessions changed, in what they emit
out_alone : (old new : EngineState) (out : List (ℕ × List ℕ)) → new ≡ record old { sessions = new.sessions } →
    new.sessions ≡ record old.sessions { out = out } → OnlyOut old new
out_alone old new out alone sessions =
    alone
    ∙ ap (λ (s : SessionsState). record old { sessions = s })
    (sessions ∙
    ap (λ (o : List (ℕ × List ℕ)). record old.sessions { out = o })
    (sym (ap (λ (s : SessionsState). s.out) sessions)))

turned_keeps : (old new : EngineState) (reset : Option Endpoint) (refused e : lower.SessionRefusal) →
    new ≡ record old { sessions = new.sessions } → TurnedAway reset refused old.sessions e new.sessions →
    OnlyOut old new
turned_keeps old new None refused e alone away = out_alone old new old.sessions.out alone away.1
turned_keeps old new (Some source) refused e alone (inl away) = out_alone old new _ alone away.1
turned_keeps old new (Some source) refused e alone (inr away) = out_alone old new old.sessions.out alone away.1

-- what is heard and refused changes nothing, whether it is a message of a collective or anything else
heard_keeps : (notice : Option NoticeText) (h : HeardText) (old new : EngineState) (why : Refusal) →
    HeardGivesBy notice old h (Err why) new → OnlyOut old new
heard_keeps None h old new why g = same_out old new g.2
heard_keeps (Some (OfMessage t)) h old new why g = same_out old new g.1
heard_keeps (Some (OfAnnouncement t)) h old new why g = same_out old new g.1
heard_keeps (Some (OfAnswer t)) h old new why g = same_out old new g.1
heard_keeps (Some (OfPiece t)) h old new why g = piece (is_due old.payloads h.source.rank t.transfer t.offset t.bytes) g
  where
    whole : Option Whole
    whole = whole_with old.payloads h.source.rank t.transfer t.bytes

    piece : (due : Bool) → PieceGivesBy due whole old h t (Err why) new → OnlyOut old new
    piece true g = same_out old new g.1
    piece false g = same_out old new g.1

hearing_keeps : (heard : Result HeardText Unheard) (old new : EngineState) (why : Refusal) →
    HearingGives heard old (Err why) new → OnlyOut old new
hearing_keeps (Ok h) old new why g = heard_keeps (notice_in h.lesson old.payloads h.source.rank h.word) h old new why g
hearing_keeps (Err u) old new why g = turned_keeps old new u.reset u.refused g.0 g.2 g.3

datagram_keeps : (old new : EngineState) (bytes : List ℕ) (why : Refusal) → RefusesDatagram old bytes why new →
    OnlyOut old new
datagram_keeps old new bytes why g = hearing_keeps (heard_of old.sessions bytes) old new why g

-- the engine with this to hand out
abbrev holding : EngineState → List (ℕ × List ℕ) → EngineState
holding e out = record e { sessions = record e.sessions { out = out } }

-- out of an engine that had nothing to hand out, a refusal hands out just what it emitted for it
pub refused_gives : (old mid : EngineState) (bytes : List ℕ) (why : Refusal) (out : List (ℕ × List ℕ)) →
    old.sessions.out ≡ [] → out ≡ mid.sessions.out →
    RefusesDatagram old bytes why mid → RefusesDatagram old bytes why (with_out old out)
refused_gives old mid bytes why out none all g =
    let kept : mid ≡ holding old mid.sessions.out = datagram_keeps old mid bytes why g in
    let added : old.sessions.out ++ out ≡ mid.sessions.out = ap (λ (x : List (ℕ × List ℕ)). x ++ out) none ∙ all in
    subst (λ (e : EngineState). RefusesDatagram old bytes why e) (kept ∙ ap (holding old) (sym added)) g

-- once what it emitted is taken out, the engine is as it was
pub refused_is_old : (old mid : EngineState) (bytes : List ℕ) (why : Refusal) → old.sessions.out ≡ [] →
    RefusesDatagram old bytes why mid → without_out mid ≡ old
refused_is_old old mid bytes why none g =
    ap without_out (datagram_keeps old mid bytes why g) ∙ ap (holding old) (sym none)

-- and so it is once its answers are taken out too
emptied_is_old : (old mid : EngineState) (bytes : List ℕ) (why : Refusal) → IsClean old →
    RefusesDatagram old bytes why mid → emptied mid ≡ old
emptied_is_old old mid bytes why clean g =
    ap without_completion (refused_is_old old mid bytes why clean.out g)
    ∙ ap₂ (λ (c : Option Answer) (o : Option Ending). record old {
      core = record old.core { completion = c };
      ended =
          o;
    }) (sym clean.completion) (sym clean.ended)

-- ---- what it leaves of a world

-- a refusal with which nothing goes out
silent : (n : ℕ) (limit : MessageLimit) (before : List Happening) (engines : List EngineState) (d : List (ℕ × List ℕ))
    (h : List machine.Entry)
    (out : List (ℕ × List ℕ)) → out ≡ [] → IsFollowedBy n limit before engines d h →
    IsFollowedBy n limit before engines (d ++ out) h
silent n limit before engines d h out none f =
    subst (λ (x : List (ℕ × List ℕ)). IsFollowedBy n limit before engines x h)
    (sym (ap (λ (o : List (ℕ × List ℕ)). d ++ o) none ∙ append-nil d)) f

-- a datagram that the engine of its rank refuses
datagram_followed : (before : List Happening) (old : List EngineState) (d : List (ℕ × List ℕ)) (h : List machine.Entry)
    (number rank : ℕ) (bytes : List ℕ) (e next : EngineState) (refusal : Rejection) →
    IsFollowedBy (length old) (limit_in old) before old d h → slice_get old rank ≡ Some e →
    old ≡ slice_set old rank next →
    slice_get d number ≡ Some (rank, bytes) → DatagramRuns e bytes (Err refusal) next →
    IsFollowedBy (length old) (limit_in old) before old (d ++ refusal.out) h
datagram_followed before old d h number rank bytes e next refusal f there others emitted ran =
    let mid : EngineState = with_out e refusal.out in
    let clean : IsClean e = f.joined.clean rank e there in
    let engines_are : slice_set old rank (emptied mid) ≡ old =
    ap (slice_set old rank) (emptied_is_old e mid bytes refusal.refused clean ran.1 ∙ sym ran.0) ∙ sym others in
    let out_is : refusal.out ≡ mid.sessions.out = ap (λ (x : List (ℕ × List ℕ)). x ++ refusal.out) (sym clean.out) in
    subst (λ (x : List (ℕ × List ℕ)). IsFollowedBy (length old) (limit_in old) before old (d ++ x) h) (sym out_is)
    (subst (λ (x : List EngineState). IsFollowedBy (length old) (limit_in old) before x (d ++ mid.sessions.out) h)
    engines_are
    (refusals_stand (length old) (limit_in old) rank number bytes before old d h e mid refusal.refused f there emitted
    ran.1))

-- the datagram under a number
delivery_followed : (before : List Happening) (old : List EngineState) (d : List (ℕ × List ℕ)) (h : List machine.Entry)
    (number rank : ℕ) (e next : EngineState) (refusal : Rejection) →
    IsFollowedBy (length old) (limit_in old) before old d h → slice_get old rank ≡ Some e →
    old ≡ slice_set old rank next →
    target_of d (events.Deliver number) ≡ Some rank →
    DeliveryRuns (slice_get d number) e (Err refusal) next →
    IsFollowedBy (length old) (limit_in old) before old (d ++ refusal.out) h
delivery_followed before old d h number rank e next refusal f there others target ran =
    go (slice_get d number) refl target ran
  where
    go : (o : Option (ℕ × List ℕ)) → slice_get d number ≡ o → option_map (λ (t : ℕ × List ℕ). t.0) o ≡ Some rank →
        DeliveryRuns o e (Err refusal) next →
        IsFollowedBy (length old) (limit_in old) before old (d ++ refusal.out) h
    go None is t n = absurd n
    go (Some (to, bytes)) is t n =
        let to_is : to ≡ rank = same_Some to rank t in
        datagram_followed before old d h number rank bytes e next refusal f there others
        (is ∙ ap (λ (x : ℕ). Some (x, bytes)) to_is) n

event_followed : (before : List Happening) (old : List EngineState) (d : List (ℕ × List ℕ)) (h : List machine.Entry)
    (event : Event) (rank : ℕ) (e next : EngineState) (refusal : Rejection) →
    IsFollowedBy (length old) (limit_in old) before old d h → event_fault (length old) (limit_in old) d event ≡ None →
    slice_get old rank ≡ Some e →
    old ≡ slice_set old rank next → target_of d event ≡ Some rank →
    EventRuns d event e (Err refusal) next → IsFollowedBy (length old) (limit_in old) before old (d ++ refusal.out) h
event_followed before old d h (events.Call r call) rank e next refusal f allowed there others target ran =
    silent (length old) (limit_in old) before old d h refusal.out ran.1 f
event_followed before old d h (events.Deliver number) rank e next refusal f allowed there others target ran =
    delivery_followed before old d h number rank e next refusal f there others target ran
event_followed before old d h (events.Stray r bytes) rank e next refusal f allowed there others target ran =
    absurd (stray_breaks (length old) (limit_in old) d r bytes allowed)
event_followed before old d h (events.Tick r now) rank e next refusal f allowed there others target ran =
    silent (length old) (limit_in old) before old d h refusal.out ran.1 f
event_followed before old d h (events.Restart r) rank e next refusal f allowed there others target ran =
    silent (length old) (limit_in old) before old d h refusal.out ran.1 f

pub refusal_sound_by : (before : List Happening) (old : List EngineState) (d : List (ℕ × List ℕ))
    (h : List HistoryEntry) (event : Event) (refusal : Rejection) →
    IsSoundBy before old d h → event_fault (length old) (limit_in old) d event ≡ None →
    RanAt d event old (Err refusal) old →
    IsSoundBy before old (d ++ refusal.out) h
refusal_sound_by before old d h event refusal s allowed ran =
    record {
      world = s.world;
      followed =
          event_followed before old d (history_seen h) event ran.rank ran.engine ran.next refusal s.followed allowed
          ran.there ran.others ran.target ran.ran;
      named = s.named;
    }

pub refusal_sound : (old : List EngineState) (d : List (ℕ × List ℕ)) (h : List HistoryEntry) (event : Event)
    (refusal : Rejection) →
    IsSound old d h → event_fault (length old) (limit_in old) d event ≡ None → RanAt d event old (Err refusal) old →
    IsSound old (d ++ refusal.out) h
refusal_sound old d h event refusal s allowed ran =
    is_sound s.followed.happenings old (d ++ refusal.out) h
    (refusal_sound_by s.followed.happenings old d h event refusal (sound_by old d h s) allowed ran)

-- ---- what is told of it

-- the parts of a refusal
pub refused_so : (old : WorldState) (event : Event) (failed : Failed) (engines : List EngineState)
    (datagrams : List (ℕ × List ℕ)) (history : List HistoryEntry) (dr er : ℕ) (out : List (ℕ × List ℕ)) →
    IsSound old.engines old.datagrams old.history → engines ≡ old.engines → datagrams ≡ old.datagrams ++ out →
    history ≡ old.history →
    failed.reset ≡ first_of (length old.datagrams) out → failed.event ≡ event → IsWhy old event failed.refused out →
    IsRefusedBy old event failed (record {
      engines = engines;
      datagrams = datagrams;
      history = history;
      datagram_room =
          dr;
      entry_room = er;
    })
refused_so old event failed engines datagrams history dr er out s es ds hs reset back why =
    record {
      out = out;
      unchanged =
          ap (λ (x : List EngineState). record {
            engines = x;
            datagrams = datagrams;
            history = history;
            datagram_room =
                dr;
            entry_room = er;
          }) es
          ∙ ap (λ (x : List (ℕ × List ℕ)). record {
            engines = old.engines;
            datagrams = x;
            history =
                history;
            datagram_room = dr;
            entry_room = er;
          }) ds
          ∙ ap (λ (x : List HistoryEntry). record {
            engines = old.engines;
            datagrams = old.datagrams ++ out;
            history =
                x;
            datagram_room = dr;
            entry_room = er;
          }) hs;
      reset = reset;
      back = back;
      why = why;
      first = first_fault_refuses old event failed.refused out why;
      alike = alike_at_engine old event failed.refused out (sound_placed old.engines old.datagrams old.history s) why;
    }

-- a refusal with which nothing goes out
pub refused_plainly : (old : WorldState) (event : Event) (failed : Failed) (engines : List EngineState)
    (datagrams : List (ℕ × List ℕ)) (history : List HistoryEntry) (dr er : ℕ) →
    IsSound old.engines old.datagrams old.history → engines ≡ old.engines → datagrams ≡ old.datagrams →
    history ≡ old.history →
    failed.reset ≡ None → failed.event ≡ event → IsWhy old event failed.refused [] →
    IsRefusedBy old event failed (record {
      engines = engines;
      datagrams = datagrams;
      history = history;
      datagram_room =
          dr;
      entry_room = er;
    })
refused_plainly old event failed engines datagrams history dr er s es ds hs reset back why =
    refused_so old event failed engines datagrams history dr er [] s es (ds ∙ sym (append-nil old.datagrams)) hs reset
    back why

-- where enough room would have been found, and none was, the world had none
pub had_no_room : (old : WorldState) (size datagrams entries : ℕ) (found : Bool) → size ≡ length old.engines →
    datagrams ≡ length old.datagrams → entries ≡ length old.history →
    (datagrams + 65 * size ≤ old.datagram_room → entries + 1 ≤ old.entry_room → found ≡ true) → found ≡ false →
    HasRoom old → ⊥
had_no_room old size datagrams entries found size_is datagrams_are entries_are enough none room =
    both_ways found none
    (enough (omega (arith, size_is, datagrams_are, room.datagrams)) (omega (arith, entries_are, room.entries)))

-- of what breaks no rule of the world calls alone have data of their own: stray bytes always break one
pub copied_call : (w : WorldState) (event : Event) → fault_in w event ≡ None → HasOwnBytes event →
    IsCallWithData event
copied_call w (events.Call r call) allowed has = has
copied_call w (events.Deliver number) allowed has = has
copied_call w (events.Stray r bytes) allowed has =
    stray_breaks (length w.engines) (limit_in w.engines) w.datagrams r bytes allowed
copied_call w (events.Tick r now) allowed has = has
copied_call w (events.Restart r) allowed has = has
