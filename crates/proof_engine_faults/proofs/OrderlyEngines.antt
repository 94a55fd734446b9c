-- An engine that is orderly stays so, whatever calls and bytes it is handed.
use Rattle.std.proofs.Common.{◌≡◌, ◌≢◌, ◌<◌, ℕ, zero, suc, Bool, true, false, List, [], ◌∷◌, Option, Some, None, refl}
use Rattle.std.proofs.Common.{length, sym, ap, subst, ◌∙◌, arith, inl, inr, if◌then◌else◌, max}
use Rattle.std.specs.Prelude.{Err, Ok, Result, nat_le, nat_lt, option_map, slice_index, ◌==◌}
use Rattle.std.proofs.lemmas.Bool.{eqb-false, true≢false}
use Rattle.std.proofs.lemmas.List.{get_or-set_other, length-set}
use Rattle.std.proofs.lemmas.Option.{same_Some}
use Rattle.collective_messages.specs.declared.entry.Entry as collectives
use Rattle.rendezvous.specs.Payloads.{Whole}
use Rattle.rendezvous.specs.PayloadState as payloads
use Rattle.rendezvous.specs.PayloadState.{is_due, whole_with}
use Rattle.collectives.specs.Calls.{inside_of, with_note}
use Rattle.collectives.specs.State.{State}
use Rattle.datagram.specs.ByteMeanings.{datagram_of, datagram_within}
use Rattle.datagram.specs.Spellings.{AckBody, BodyText, DataText, DatagramText, FrameBody, OutgoingText, ResetBody}
use Rattle.datagram.specs.declared.datagram.Header.{Header}
use Rattle.datagram.specs.declared.refusal.DatagramRefusal as reading
use Rattle.engine.proofs.DatagramLaws.{unheard_leaves}
use Rattle.engine.proofs.JobPayloads.{is_read}
use Rattle.engine.specs.Datagrams.{FollowGives, FollowedBy, HasFollowed, HeardGives, HeardGivesBy, HearingGives}
use Rattle.engine.specs.Datagrams.{IsNoticed, IsPieceTaken, IsTakenInUnless, NoticeText, OfAnnouncement, OfAnswer}
use Rattle.engine.specs.Datagrams.{OfMessage, OfPiece, PieceGivesBy, TurnGives, TurnedAwayGives, acknowledged}
use Rattle.engine.specs.Datagrams.{address_of, answer_to, data_for, groups_met, lesson_in, met_by, notice_in}
use Rattle.engine.specs.Datagrams.{numbers_met, replies, says_nothing, turn_from, woken_engine}
use Rattle.engine_calls.specs.Calls.{CoreGives, EnteringGives, IsAnswered, IsEntered}
use Rattle.engine_calls.specs.EngineState.{EngineState, GroupsState, member_of, without_completion, without_out}
use Rattle.engine_calls.specs.Frames.{after_frame, step_sendings}
use Rattle.engine_calls.specs.declared.call.Call.{Call}
use Rattle.engine_calls.specs.declared.call.Call.TheVariants as calls
use Rattle.engine_calls.specs.declared.reply.Reply.{Reply}
use Rattle.engine_calls.specs.declared.reply.Reply.TheVariants as given
use Rattle.incarnation.specs.Judgements.{guard, is_other, judgement}
use Rattle.incarnation.specs.Knowledge.{Knowledge}
use Rattle.incarnation.specs.declared.judgement.Judgement.{Judgement}
use Rattle.incarnation.specs.declared.judgement.Judgement.TheVariants.{Current, Learn}
use Rattle.incarnation.specs.declared.place.Place.{Place}
use Rattle.incarnation.specs.declared.refusal.IncarnationRefusal as judging
use Rattle.incarnation.specs.declared.refusal.IncarnationRefusal.TheVariants as judgings
use Rattle.point_to_point.specs.Calls.{call_frame}
use Rattle.point_to_point.specs.CoreState.{CoreState}
use Rattle.point_to_point_calls.specs.declared.refusal.Refusal.{Refusal}
use Rattle.proof_engine_faults.proofs.GroupsOfJob.{AreOfJob, AreTold, entry_of_job, held_below, held_inside}
use Rattle.proof_engine_faults.proofs.GroupsOfJob.{message_of_job, step_own}
use Rattle.proof_engine_faults.proofs.Orderly.{new_engines_are_orderly}
use Rattle.proof_engine_faults.proofs.Rows.{IsOrdered}
use Rattle.proof_engine_faults.proofs.Tables.{goes_ordered, stays_ordered}
use Rattle.proof_engine_faults.specs.OrderlyEngines.{CallsKeepOrder, CompletionsKeepOrder, DatagramsKeepOrder}
use Rattle.proof_engine_faults.specs.OrderlyEngines.{NewEnginesStayOrderly, OutKeepsOrder, StaysOrderly, TicksKeepOrder}
use Rattle.proof_engine_faults.specs.OrderlyEngines.{WaitsKeepOrder}
use Rattle.proof_network_bridge.proofs.Halves.{Keeps, away_keeps, sends_keep}
use Rattle.proof_queue_calls.specs.Halves.{AreInWorld}
use Rattle.proof_request_keys.proofs.Cores.{GoesOn, StaysIn, as_stays, call_goes_on, same_stays, woken_stays}
use Rattle.proof_request_keys.proofs.Engines.{heard_stays, look_same, question_same}
use Rattle.sessions.specs.Events.{after_event, after_heard, taught_known}
use Rattle.sessions.specs.HeldFrames.{ready_from, turn_of, turn_of_body, turn_read}
use Rattle.sessions.specs.HeardBytes.{
  Acknowledges,
  Follows,
  Hands,
  HeardText,
  Holds,
  Nothing,
  Repeats,
  WordText,
  heard_by,
}
use Rattle.sessions.specs.HeardBytes.{heard_in, heard_of, said, unmeant}
use Rattle.sessions.specs.Peers.{with_wait}
use Rattle.sessions.specs.SessionsState.{SessionsState, knowledge}
use Rattle.sessions.specs.declared.heard.Unheard.{Unheard}
use Rattle.sessions.specs.declared.refusal.SessionRefusal.{SessionRefusal}
use Rattle.vocabulary.specs.declared.endpoint.Endpoint.{Endpoint}

-- ---- what changes leave it so

-- what each part says of it stays
record LeavesOrder (old new : EngineState) : Type 0 where
  table : IsOrdered old.core.slots old.core.serial → IsOrdered new.core.slots new.core.serial
  core_place : new.core.place ≡ old.core.place
  place : new.sessions.place ≡ old.sessions.place
  width : length new.sessions.known ≡ length old.sessions.known
  itself :
      slice_index new.sessions.known old.sessions.place.endpoint.rank ≡
      slice_index old.sessions.known old.sessions.place.endpoint.rank
  own : new.groups.collective.own ≡ old.groups.collective.own
  groups : 0 < old.sessions.place.size →
      AreOfJob old.sessions.place.size old.groups.collective old.groups.contexts →
      AreOfJob old.sessions.place.size new.groups.collective new.groups.contexts

some_rank : (r n : ℕ) → r < n → 0 < n
some_rank r n lt = omega (arith, lt)

leaves_orderly : (old new : EngineState) → LeavesOrder old new → StaysOrderly old → StaysOrderly new
leaves_orderly old new l s = record {
  orderly = record {
    below = table.below;
    apart = table.apart;
    inside = subst (λ (k : ℕ). AreInWorldAt k) (sym size_is)
        (held_inside n new.groups.collective new.groups.contexts groups.held);
    placed = l.core_place ∙ s.orderly.placed ∙ sym l.place;
    own = l.own ∙ s.orderly.own ∙ ap (λ (p : Place). p.endpoint) (sym l.place);
    width = l.width ∙ s.orderly.width ∙ ap (λ (p : Place). p.size) (sym l.core_place);
    itself = itself;
  };
  there = subst (λ (p : Place). p.endpoint.rank < p.size) (sym l.place) s.there;
  told = subst (λ (p : Place). AreTold p.size new.groups.collective.kept) (sym l.place) groups.kept;
}
  where
    n : ℕ
    n = old.sessions.place.size

    AreInWorldAt : ℕ → Type 0
    AreInWorldAt k = AreInWorld k (member_of new.groups)

    size_is : new.core.place.size ≡ n
    size_is = ap (λ (p : Place). p.size) (l.core_place ∙ s.orderly.placed)

    table : IsOrdered new.core.slots new.core.serial
    table = l.table (record { below = s.orderly.below; apart = s.orderly.apart })

    was : AreOfJob n old.groups.collective old.groups.contexts
    was = record {
      kept = s.told;
      held = held_below n old.groups.collective old.groups.contexts
          (subst (λ (p : Place). AreInWorld p.size (member_of old.groups)) s.orderly.placed s.orderly.inside);
    }

    groups : AreOfJob n new.groups.collective new.groups.contexts
    groups = l.groups (some_rank old.sessions.place.endpoint.rank n s.there) was

    itself : slice_index new.sessions.known new.core.place.endpoint.rank ≡ new.core.place.endpoint.incarnation
    itself =
        ap (λ (p : Place). slice_index new.sessions.known p.endpoint.rank) (l.core_place ∙ s.orderly.placed)
        ∙ l.itself
        ∙ ap (λ (p : Place). slice_index old.sessions.known p.endpoint.rank) (sym s.orderly.placed)
        ∙ s.orderly.itself
        ∙ ap (λ (p : Place). p.endpoint.incarnation) (sym l.core_place)

-- the same engine
same_orderly : (old new : EngineState) → new ≡ old → StaysOrderly old → StaysOrderly new
same_orderly old new same s = subst StaysOrderly (sym same) s

-- what changes nothing but the core
record KeepsRest (old new : EngineState) : Type 0 where
  groups : new.groups ≡ old.groups
  place : new.sessions.place ≡ old.sessions.place
  known : new.sessions.known ≡ old.sessions.known

by_core : (old new : EngineState) → KeepsRest old new →
    (IsOrdered old.core.slots old.core.serial → IsOrdered new.core.slots new.core.serial) →
    new.core.place ≡ old.core.place → LeavesOrder old new
by_core old new k table place = record {
  table = table;
  core_place = place;
  place = k.place;
  width = ap length k.known;
  itself = ap (λ (known : List ℕ). slice_index known old.sessions.place.endpoint.rank) k.known;
  own = ap (λ (g : GroupsState). g.collective.own) k.groups;
  groups = λ some was. subst
      (λ (g : GroupsState). AreOfJob old.sessions.place.size g.collective g.contexts) (sym k.groups) was;
}

-- ---- the sessions

-- a call leaves what is known, whatever it sends
frame_keeps : (s : SessionsState) (o : Option OutgoingText) → Keeps s (after_frame s o)
frame_keeps s None = record { place = refl; known = refl }
frame_keeps s (Some f) = record { place = refl; known = refl }

taught_width : (lesson : Bool) (known : List ℕ) (e : Endpoint) → length (taught_known lesson known e) ≡ length known
taught_width true known e = length-set known e.rank (max (slice_index known e.rank) e.incarnation)
taught_width false known e = refl

taught_other : (lesson : Bool) (known : List ℕ) (e : Endpoint) (r : ℕ) → (lesson ≡ true → e.rank ≢ r) →
    slice_index (taught_known lesson known e) r ≡ slice_index known r
taught_other true known e r other =
    get_or-set_other known e.rank r (max (slice_index known e.rank) e.incarnation) 0 (λ same. other refl (sym same))
taught_other false known e r other = refl

-- a lesson is of another rank
abbrev TeachesOther : (own : ℕ) → HeardText → Type 0
TeachesOther own h = h.lesson ≡ true → h.source.rank ≢ own

record KnowsAlike (old new : SessionsState) : Type 0 where
  place : new.place ≡ old.place
  width : length new.known ≡ length old.known
  itself : slice_index new.known old.place.endpoint.rank ≡ slice_index old.known old.place.endpoint.rank

heard_knows : (old new : SessionsState) (h : HeardText) (fs : List OutgoingText) →
    TeachesOther old.place.endpoint.rank h → new ≡ after_event old (Some h) fs → KnowsAlike old new
heard_knows old new h fs other is =
    let keeps : Keeps (after_heard old (Some h)) (after_event old (Some h) fs) =
    sends_keep (after_heard old (Some h)) fs in
    let known : new.known ≡ taught_known h.lesson old.known h.source =
    ap (λ (s : SessionsState). s.known) is ∙ keeps.known in
    record {
      place = ap (λ (s : SessionsState). s.place) is ∙ keeps.place;
      width = ap length known ∙ taught_width h.lesson old.known h.source;
      itself = ap (λ (ks : List ℕ). slice_index ks old.place.endpoint.rank) known ∙
          taught_other h.lesson old.known h.source old.place.endpoint.rank other;
    }

-- what is heard, by what it does to each part
by_hearing : (old new : EngineState) → StaysIn old.core new.core → KnowsAlike old.sessions new.sessions →
    new.groups.collective.own ≡ old.groups.collective.own →
    (0 < old.sessions.place.size → AreOfJob old.sessions.place.size old.groups.collective old.groups.contexts →
    AreOfJob old.sessions.place.size new.groups.collective new.groups.contexts) → LeavesOrder old new
by_hearing old new core sessions own groups = record {
  table = stays_ordered old.core new.core core;
  core_place = core.place;
  place = sessions.place;
  width = sessions.width;
  itself = sessions.itself;
  own = own;
  groups = groups;
}

-- ---- what is heard

-- a message of a collective is taken in
noticed_leaves : (old new : EngineState) (before : payloads.State) (h : HeardText) (w : Whole) →
    TeachesOther old.sessions.place.endpoint.rank h → StaysIn old.core new.core →
    IsNoticed old before h w new → LeavesOrder old new
noticed_leaves old new before h w other core i =
    by_hearing old new core
    (heard_knows old.sessions new.sessions h
    (step_sendings old.sessions.place (numbers_met old.core h) i.ready.step.messages) other i.sessions)
    (ap (λ (s : State). s.own) i.collective ∙ step_own (with_note (met_by old h) i.ready.note) i.ready.step.outcome)
    (λ some was. message_of_job old.sessions.place.size (met_by old h) new.groups.collective old.groups.contexts
    new.groups.contexts (address_of h.source w) i.payload i.ready some
    (is_read old.sessions.place.size w.bytes i.payload i.read).1
    (record { kept = was.kept; held = was.held }) i.is_ready i.collective i.contexts)

piece_leaves : (o : Option Whole) (old new : EngineState) (h : HeardText) (t : DataText) →
    TeachesOther old.sessions.place.endpoint.rank h → StaysIn old.core new.core →
    IsPieceTaken o old h t new → LeavesOrder old new
piece_leaves None old new h t other core g =
    by_hearing old new core
    (heard_knows old.sessions new.sessions h [] other (ap (λ (e : EngineState). e.sessions) g.1))
    (ap (λ (e : EngineState). e.groups.collective.own) g.1)
    (λ some was. subst
    (λ (x : GroupsState). AreOfJob old.sessions.place.size x.collective x.contexts)
    (sym (ap (λ (e : EngineState). e.groups) g.1)) was)
piece_leaves (Some w) old new h t other core g = noticed_leaves old new _ h w other core g

data_leaves : (due : Bool) (o : Option Whole) (old new : EngineState) (h : HeardText) (t : DataText) →
    TeachesOther old.sessions.place.endpoint.rank h → StaysIn old.core new.core →
    PieceGivesBy due o old h t (Ok tt) new → LeavesOrder old new
data_leaves true o old new h t other core g = piece_leaves o old new h t other core g
data_leaves false o old new h t other core g = absurd g

-- a lesson alone leaves what is kept and held
met_leaves : (old new : EngineState) (h : HeardText) (fs : List OutgoingText) →
    TeachesOther old.sessions.place.endpoint.rank h → StaysIn old.core new.core →
    new.sessions ≡ after_event old.sessions (Some h) fs →
    new.groups ≡ groups_met old.groups (lesson_in h) → LeavesOrder old new
met_leaves old new h fs other core sessions groups =
    by_hearing old new core (heard_knows old.sessions new.sessions h fs other sessions)
    (ap (λ (g : GroupsState). g.collective.own) groups)
    (λ some was. subst
    (λ (x : GroupsState). AreOfJob old.sessions.place.size x.collective x.contexts) (sym groups)
    (record { kept = was.kept; held = was.held }))

heard_leaves_by : (o : Option NoticeText) (old new : EngineState) (h : HeardText) →
    TeachesOther old.sessions.place.endpoint.rank h → StaysIn old.core new.core →
    HeardGivesBy o old h (Ok tt) new → LeavesOrder old new
heard_leaves_by None old new h other core g =
    met_leaves old new h (replies old.core h) other core (ap (λ (e : EngineState). e.sessions) g.1)
    (ap (λ (e : EngineState). e.groups) g.1)
heard_leaves_by (Some (OfMessage t)) old new h other core g = noticed_leaves old new _ h _ other core g
heard_leaves_by (Some (OfAnnouncement t)) old new h other core g =
    met_leaves old new h (answer_to h t ∷ []) other core (ap (λ (e : EngineState). e.sessions) g.1)
    (ap (λ (e : EngineState). e.groups) g.1)
heard_leaves_by (Some (OfAnswer t)) old new h other core g =
    by_hearing old new core
    (heard_knows old.sessions new.sessions h (data_for old.sessions.place.message_limit old.payloads h t) other
    (ap (λ (e : EngineState). e.sessions) g.1))
    (ap (λ (e : EngineState). e.groups.collective.own) g.1)
    (λ some was. subst
    (λ (x : GroupsState). AreOfJob old.sessions.place.size x.collective x.contexts)
    (sym (ap (λ (e : EngineState). e.groups) g.1)) was)
heard_leaves_by (Some (OfPiece t)) old new h other core g =
    data_leaves (is_due old.payloads h.source.rank t.transfer t.offset t.bytes)
    (whole_with old.payloads h.source.rank t.transfer t.bytes) old new h t other core g

heard_keeps : (old new : EngineState) (h : HeardText) → TeachesOther old.sessions.place.endpoint.rank h →
    HeardGives old h (Ok tt) new → StaysOrderly old → StaysOrderly new
heard_keeps old new h other g s =
    leaves_orderly old new
    (heard_leaves_by (notice_in h.lesson old.payloads h.source.rank h.word) old new h other (heard_stays old new h g) g)
    s

-- ---- what follows

-- what changes nothing but links
by_links : (old new : EngineState) → new.core ≡ old.core → new.groups ≡ old.groups →
    new.sessions.place ≡ old.sessions.place → new.sessions.known ≡ old.sessions.known → StaysOrderly old →
    StaysOrderly new
by_links old new core groups place known s =
    leaves_orderly old new
    (by_core old new (record { groups = groups; place = place; known = known })
    (stays_ordered old.core new.core (same_stays old.core new.core core))
    (ap (λ (c : CoreState). c.place) core)) s

-- a frame that was held teaches nothing
body_plain : (source : Endpoint) (b : BodyText) (h : HeardText) → turn_of_body source b ≡ Some h → h.lesson ≡ false
body_plain source (FrameBody f) h is = ap (λ (x : HeardText). x.lesson) (sym (same_Some _ h is))
body_plain source (AckBody held) h is = absurd cc
body_plain source ResetBody h is = absurd cc

read_plain : (source : Endpoint) (o : Result DatagramText reading.DatagramRefusal) (h : HeardText) →
    turn_read source o ≡ Some h → h.lesson ≡ false
read_plain source (Ok d) h is = body_plain source d.body h is
read_plain source (Err e) h is = absurd cc

turn_plain : (source : Endpoint) (bytes : List ℕ) (h : HeardText) → turn_of source bytes ≡ Some h → h.lesson ≡ false
unfolding turn_of
turn_plain source bytes h is = read_plain source (datagram_of bytes) h is

ready_plain : (source : Endpoint) (o : Option (List ℕ)) (h : HeardText) →
    option_map (turn_of source) o ≡ Some (Some h) → h.lesson ≡ false
ready_plain source None h is = absurd cc
ready_plain source (Some bytes) h is = turn_plain source bytes h (same_Some (turn_of source bytes) (Some h) is)

teaches_none : (own : ℕ) (h : HeardText) → h.lesson ≡ false → TeachesOther own h
teaches_none own h plain lesson = absurd (true≢false (sym lesson ∙ plain))

-- one turn, and then the rest
turn_keeps : (Rest : EngineState → EngineState → Type 0) →
    ((a b : EngineState) → Rest a b → StaysOrderly a → StaysOrderly b) →
    (o : Option (Option HeardText)) (at : ℕ) (source : Endpoint) (old new : EngineState) →
    turn_from old source ≡ o → TurnGives o at source Rest old new → StaysOrderly old → StaysOrderly new
turn_keeps Rest rest None at source old new is g s = same_orderly old new g s
turn_keeps Rest rest (Some None) at source old new is g s =
    by_links old new (ap (λ (e : EngineState). e.core) g) (ap (λ (e : EngineState). e.groups) g)
    (ap (λ (e : EngineState). e.sessions.place) g) (ap (λ (e : EngineState). e.sessions.known) g) s
turn_keeps Rest rest (Some (Some h)) at source old new is (inl (first, takes, more)) s =
    rest (acknowledged at source first) new more
    (by_links first (acknowledged at source first) refl refl refl refl
    (heard_keeps old first h
    (teaches_none old.sessions.place.endpoint.rank h
    (ready_plain source (ready_from old.sessions source.rank) h is)) takes s))
turn_keeps Rest rest (Some (Some h)) at source old new is (inr (inl g)) s =
    by_links old new (ap (λ (e : EngineState). e.core) g.1) (ap (λ (e : EngineState). e.groups) g.1)
    (ap (λ (e : EngineState). e.sessions.place) g.1) (ap (λ (e : EngineState). e.sessions.known) g.1) s
turn_keeps Rest rest (Some (Some h)) at source old new is (inr (inr g)) s = same_orderly old new g.1 s

follow_keeps : (turns at : ℕ) (source : Endpoint) (old new : EngineState) → FollowGives turns at source old new →
    StaysOrderly old → StaysOrderly new
follow_keeps zero at source old new g s = same_orderly old new g s
follow_keeps (suc k) at source old new g s =
    turn_keeps (FollowGives k at source) (λ a b rest. follow_keeps k at source a b rest) (turn_from old source) at
    source old new refl g s

followed_keeps : (old new : EngineState) (most at : ℕ) (source : Endpoint) → HasFollowed most at source old new →
    StaysOrderly old → StaysOrderly new
followed_keeps old new most at source f s =
    by_links f.last new (ap (λ (e : EngineState). e.core) f.same) (ap (λ (e : EngineState). e.groups) f.same)
    (ap (λ (t : SessionsState). t.place) f.arranged.same) (ap (λ (t : SessionsState). t.known) f.arranged.same)
    (follow_keeps most at source old f.last f.turns s)

word_keeps : (w : WordText) (at : ℕ) (source : Endpoint) (old new : EngineState) → FollowedBy w at source old new →
    StaysOrderly old → StaysOrderly new
word_keeps (Acknowledges n held) at source old new g s = same_orderly old new g s
word_keeps Repeats at source old new g s = same_orderly old new g s
word_keeps (Hands f) at source old new g s = followed_keeps old new 64 at source g s
word_keeps (Holds e) at source old new g s = same_orderly old new g s
word_keeps (Follows f) at source old new g s = same_orderly old new g s
word_keeps Nothing at source old new g s = same_orderly old new g s

woken_keeps : (e : EngineState) → StaysOrderly e → StaysOrderly (woken_engine e)
woken_keeps e s =
    leaves_orderly e (woken_engine e)
    (by_core e (woken_engine e) (record { groups = refl; place = refl; known = refl })
    (stays_ordered e.core (woken_engine e).core (woken_stays e.core)) (woken_stays e.core).place) s

taken_keeps : (nothing : Bool) (old new : EngineState) (h : HeardText) →
    TeachesOther old.sessions.place.endpoint.rank h → IsTakenInUnless nothing old h new → StaysOrderly old →
    StaysOrderly new
taken_keeps true old new h other same s = same_orderly old new same s
taken_keeps false old new h other i s =
    same_orderly (woken_engine i.last) new i.new_is
    (woken_keeps i.last
    (word_keeps h.word (length old.sessions.out) h.source i.first i.last i.follows
    (heard_keeps old i.first h other i.takes s)))

-- ---- datagrams

-- only another rank's lesson is learnt
guarded : {A : Type 0} (t : Bool) (why : judging.IncarnationRefusal) (o : Result A judging.IncarnationRefusal) (x : A) →
    guard t why o ≡ Ok x → (t ≡ true) × (o ≡ Ok x)
guarded true why o x is = (refl, is)
guarded false why o x is = absurd cc

other_rank : (p : Place) (r : ℕ) → is_other p r ≡ true → r ≢ p.endpoint.rank
other_rank p r is = go (r == p.endpoint.rank) refl is
  where
    go : (t : Bool) → (r == p.endpoint.rank) ≡ t → (if t then false else nat_lt r p.size) ≡ true → r ≢ p.endpoint.rank
    go true same h = absurd cc
    go false differ h = eqb-false r p.endpoint.rank differ

judged_other : (k : Knowledge) (h : Header) (x : Judgement) → judgement k h ≡ Ok x →
    h.source.rank ≢ k.place.endpoint.rank
unfolding judgement
judged_other k h x is =
    let job = guarded (h.job == k.place.job) judgings.ForeignJob _ x is in
    let target = guarded (h.target.rank == k.place.endpoint.rank) judgings.NotForMe _ x job.1 in
    let begun = guarded (nat_le h.target.incarnation k.place.endpoint.incarnation) judgings.NotForMe _ x target.1 in
    let other = guarded (is_other k.place h.source.rank) judgings.NotForMe _ x begun.1 in
    other_rank k.place h.source.rank other.0

said_by : (source : Endpoint) (lesson : Bool) (o : Result WordText SessionRefusal) (h : HeardText) →
    said source lesson o ≡ Ok h → h.source ≡ source
said_by source lesson (Ok w) h is = cc
said_by source lesson (Err e) h is = absurd cc

stale_unheard : (source : Endpoint) (b : BodyText) (h : HeardText) →
    unmeant judgings.StaleTarget source b ≡ Ok h → ⊥
stale_unheard source (AckBody held) h is = cc
stale_unheard source (FrameBody f) h is = cc
stale_unheard source ResetBody h is = cc

unheard : (e : judging.IncarnationRefusal) (source : Endpoint) (b : BodyText) (h : HeardText) →
    unmeant e source b ≡ Ok h → ⊥
unheard judgings.StaleTarget source b h is = stale_unheard source b h is
unheard judgings.Limit source b h is = cc
unheard judgings.OutOfMemory source b h is = cc
unheard judgings.ForeignJob source b h is = cc
unheard judgings.NotForMe source b h is = cc
unheard judgings.StaleSource source b h is = cc

heard_other : (s : SessionsState) (bytes : List ℕ) (h : HeardText) → heard_of s bytes ≡ Ok h →
    h.source.rank ≢ s.place.endpoint.rank
unfolding heard_of
heard_other s bytes h is = by_reading (datagram_within s.place.message_limit bytes) is
  where
    by_judging : (d : DatagramText) (o : Result Judgement judging.IncarnationRefusal) →
        judgement (knowledge s) d.header ≡ o → heard_by o s d bytes ≡ Ok h → h.source.rank ≢ s.place.endpoint.rank
    by_judging d (Ok Current) judged heard =
        subst (λ (e : Endpoint). e.rank ≢ s.place.endpoint.rank) (sym (said_by d.header.source false _ h heard))
        (judged_other (knowledge s) d.header Current judged)
    by_judging d (Ok (Learn i)) judged heard =
        subst (λ (e : Endpoint). e.rank ≢ s.place.endpoint.rank) (sym (said_by d.header.source true _ h heard))
        (judged_other (knowledge s) d.header (Learn i) judged)
    by_judging d (Err e) judged heard = absurd (unheard e d.header.source d.body h heard)

    by_reading : (o : Result DatagramText reading.DatagramRefusal) → heard_in s o bytes ≡ Ok h →
        h.source.rank ≢ s.place.endpoint.rank
    by_reading (Ok d) heard = by_judging d (judgement (knowledge s) d.header) refl heard
    by_reading (Err e) heard = absurd cc

-- a refusal changes nothing, but for a reset that goes out
turned_keeps : (u : Unheard) (old new : EngineState) (result : Result (Unit {0}) Refusal) →
    TurnedAwayGives old u result new → StaysOrderly old → StaysOrderly new
turned_keeps u old new result (e, is, same, away) s =
    let keeps : Keeps old.sessions new.sessions = away_keeps old.sessions new.sessions u.reset u.refused e away in
    by_links old new (ap (λ (x : EngineState). x.core) same) (ap (λ (x : EngineState). x.groups) same) keeps.place
    keeps.known s

hearing_keeps : (o : Result HeardText Unheard) (old new : EngineState) (bytes : List ℕ)
    (result : Result (Unit {0}) Refusal) → heard_of old.sessions bytes ≡ o → HearingGives o old result new →
    StaysOrderly old → StaysOrderly new
hearing_keeps (Ok h) old new bytes (Ok x) is g s =
    taken_keeps (says_nothing h.lesson h.word) old new h
    (λ lesson. heard_other old.sessions bytes h is) g s
hearing_keeps (Ok h) old new bytes (Err e) is g s = same_orderly old new
    (unheard_leaves (notice_in h.lesson old.payloads h.source.rank h.word) old new h e g) s
hearing_keeps (Err u) old new bytes result is g s = turned_keeps u old new result g s

pub datagrams_keep_order : DatagramsKeepOrder
datagrams_keep_order old mid bytes result s g =
    hearing_keeps (heard_of old.sessions bytes) old mid bytes result refl g s

-- ---- calls

-- a call of point to point, or on requests, is answered by the core
answered_keeps : (old new : EngineState) (call : Call) (reply : Reply) → IsAnswered old call reply new →
    StaysOrderly old → StaysOrderly new
answered_keeps old new call reply a s =
    let on : GoesOn old.core a.answer new.core = call_goes_on old.core new.core a.asked a.answer a.core in
    let sent : Keeps old.sessions (after_frame old.sessions (call_frame old.core a.asked)) =
    frame_keeps old.sessions (call_frame old.core a.asked) in
    leaves_orderly old new
    (by_core old new
    (record {
      groups = a.groups;
      place = ap (λ (t : SessionsState). t.place) a.sessions ∙ sent.place;
      known = ap (λ (t : SessionsState). t.known) a.sessions ∙ sent.known;
    })
    (goes_ordered old.core new.core a.answer on) on.place) s

core_call_keeps : (old new : EngineState) (call : Call) (reply : Reply) → CoreGives old call reply new →
    StaysOrderly old → StaysOrderly new
core_call_keeps old new call (given.Refused why back) g s = same_orderly old new g.unchanged s
core_call_keeps old new call (given.Started r) g s = answered_keeps old new call (given.Started r) g s
core_call_keeps old new call (given.Done a) g s = answered_keeps old new call (given.Done a) g s
core_call_keeps old new call given.Pending g s = answered_keeps old new call given.Pending g s
core_call_keeps old new call given.Accepted g s = answered_keeps old new call given.Accepted g s
core_call_keeps old new call (given.Probed found) g s = answered_keeps old new call (given.Probed found) g s
core_call_keeps old new call (given.Matched found) g s = answered_keeps old new call (given.Matched found) g s
core_call_keeps old new call given.Blocked g s = answered_keeps old new call given.Blocked g s
core_call_keeps old new call (given.Left o) g s = answered_keeps old new call (given.Left o) g s
core_call_keeps old new call (given.Fact f) g s = answered_keeps old new call (given.Fact f) g s

-- a collective is entered: the core counts transfers alone
entered_stays : (old new : EngineState) (comm : Option ℕ) (x : collectives.Entry) (reply : Reply) →
    IsEntered old comm x reply new → StaysIn old.core new.core
entered_stays old new comm x reply i =
    as_stays old.core _ new.core i.core (record { all = λ P all. all; serial = refl; place = refl })

entered_keeps : (old new : EngineState) (comm : Option ℕ) (x : collectives.Entry) (reply : Reply) →
    IsEntered old comm x reply new → StaysOrderly old → StaysOrderly new
entered_keeps old new comm x reply i s =
    let frames : List OutgoingText = step_sendings old.sessions.place old.core.transfers.numbers i.step.messages in
    let sent : Keeps old.sessions (after_event old.sessions None frames) = sends_keep old.sessions frames in
    leaves_orderly old new
    (record {
      table = stays_ordered old.core new.core (entered_stays old new comm x reply i);
      core_place = (entered_stays old new comm x reply i).place;
      place = ap (λ (t : SessionsState). t.place) i.sessions ∙ sent.place;
      width = ap (λ (t : SessionsState). length t.known) i.sessions ∙ ap length sent.known;
      itself =
          ap (λ (t : SessionsState). slice_index t.known old.sessions.place.endpoint.rank) i.sessions
          ∙ ap (λ (known : List ℕ). slice_index known old.sessions.place.endpoint.rank) sent.known;
      own = ap (λ (t : State). t.own) i.enters.2 ∙ step_own _ i.step.outcome;
      groups = λ some was. entry_of_job old.sessions.place.size old.groups.collective new.groups.collective
          old.groups.contexts new.groups.contexts
          (inside_of old.groups.collective old.groups.contexts i.place x) i.step some was i.enters.0 i.enters.2
          i.enters.3;
    }) s

entry_keeps : (old new : EngineState) (comm : Option ℕ) (x : collectives.Entry) (reply : Reply) →
    EnteringGives old comm x reply new → StaysOrderly old → StaysOrderly new
entry_keeps old new comm x (given.Refused why back) g s = same_orderly old new g.unchanged s
entry_keeps old new comm x (given.Started r) g s = entered_keeps old new comm x (given.Started r) g s
entry_keeps old new comm x (given.Done a) g s = entered_keeps old new comm x (given.Done a) g s
entry_keeps old new comm x given.Pending g s = entered_keeps old new comm x given.Pending g s
entry_keeps old new comm x given.Accepted g s = entered_keeps old new comm x given.Accepted g s
entry_keeps old new comm x (given.Probed found) g s = entered_keeps old new comm x (given.Probed found) g s
entry_keeps old new comm x (given.Matched found) g s = entered_keeps old new comm x (given.Matched found) g s
entry_keeps old new comm x given.Blocked g s = entered_keeps old new comm x given.Blocked g s
entry_keeps old new comm x (given.Left o) g s = entered_keeps old new comm x (given.Left o) g s
entry_keeps old new comm x (given.Fact f) g s = entered_keeps old new comm x (given.Fact f) g s

pub calls_keep_order : CallsKeepOrder
calls_keep_order old mid (calls.Isend v) reply s g = core_call_keeps old mid (calls.Isend v) reply g s
calls_keep_order old mid (calls.Irecv v) reply s g = core_call_keeps old mid (calls.Irecv v) reply g s
calls_keep_order old mid (calls.Wait r) reply s g = core_call_keeps old mid (calls.Wait r) reply g s
calls_keep_order old mid (calls.Test r) reply s g = core_call_keeps old mid (calls.Test r) reply g s
calls_keep_order old mid (calls.Waitany rs) reply s g = core_call_keeps old mid (calls.Waitany rs) reply g s
calls_keep_order old mid (calls.Waitall rs) reply s g = core_call_keeps old mid (calls.Waitall rs) reply g s
calls_keep_order old mid (calls.Cancel r) reply s g = core_call_keeps old mid (calls.Cancel r) reply g s
calls_keep_order old mid (calls.Iprobe p) reply s g = same_orderly old mid (look_same old mid p reply g) s
calls_keep_order old mid (calls.Improbe p) reply s g = core_call_keeps old mid (calls.Improbe p) reply g s
calls_keep_order old mid (calls.Mrecv r into) reply s g = core_call_keeps old mid (calls.Mrecv r into) reply g s
calls_keep_order old mid (calls.Enter comm x) reply s g = entry_keeps old mid comm x reply g s
calls_keep_order old mid (calls.Ask comm question) reply s g =
    same_orderly old mid (question_same old mid comm question reply g) s

-- ---- all else

pub ticks_keep_order : TicksKeepOrder
ticks_keep_order old mid now (Ok x) s g =
    by_links old mid (ap (λ (e : EngineState). e.core) g.1) (ap (λ (e : EngineState). e.groups) g.1)
    (ap (λ (e : EngineState). e.sessions.place) g.1) (ap (λ (e : EngineState). e.sessions.known) g.1) s
ticks_keep_order old mid now (Err e) s g = same_orderly old mid g.0 s

pub out_keeps_order : OutKeepsOrder
out_keeps_order e s = by_links e (without_out e) refl refl refl refl s

pub completions_keep_order : CompletionsKeepOrder
completions_keep_order e s =
    leaves_orderly e (without_completion e)
    (by_core e (without_completion e) (record { groups = refl; place = refl; known = refl }) (λ o. o) refl) s

pub waits_keep_order : WaitsKeepOrder
waits_keep_order e rank wait s = go (nat_lt rank e.sessions.place.size)
  where
    later : EngineState
    later = record e { sessions = record e.sessions { peers = with_wait e.sessions.peers rank wait } }

    go : (t : Bool) → StaysOrderly (if t then later else e)
    go true = by_links e later refl refl refl refl s
    go false = s

pub new_engines_stay_orderly : NewEnginesStayOrderly
new_engines_stay_orderly p inside = record { orderly = new_engines_are_orderly p inside; there = inside; told = tt }
