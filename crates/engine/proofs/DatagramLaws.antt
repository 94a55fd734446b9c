-- What is heard in a datagram: at which incarnation its source is known then, and what a refusal leaves.
use Rattle.std.proofs.Common.{◌≡◌, ◌<◌, ℕ, List, [], ◌∷◌, length, max, Option, Some, None, Result, Ok, Err, Bool, true}
use Rattle.std.proofs.Common.{false, refl, sym, ap, subst, ◌∙◌, arith, inl, inr}
use Rattle.std.proofs.lemmas.Grind.{common_steps}
use Rattle.std.proofs.lemmas.List.{get_or-set_same}
use Rattle.std.specs.Prelude.{IfErr, OnOk, slice_index}
use Rattle.vocabulary.specs.declared.endpoint.Endpoint.{Endpoint}
use Rattle.datagram.specs.declared.datagram.Header.{Header}
use Rattle.datagram.specs.declared.refusal.DatagramRefusal as reading
use Rattle.rendezvous.specs.Payloads.{Whole}
use Rattle.collective_steps.specs.declared.step.Ending.{Ending}
use Rattle.rendezvous.specs.PayloadState as payloads
use Rattle.rendezvous.specs.PayloadState.{is_due, whole_with}
use Rattle.datagram.specs.Spellings.{BodyText, DataText, EagerText, FrameBody, AckBody, ResetBody, DatagramText}
use Rattle.datagram.specs.Spellings.{OutgoingText, body_is_within}
use Rattle.datagram.specs.ByteMeanings.{datagram_of, datagram_within, guard}
use Rattle.datagram.proofs.InJob.{InJob, in_job}
use Rattle.incarnation.specs.declared.judgement.Judgement.{Judgement}
use Rattle.incarnation.specs.declared.judgement.Judgement.TheVariants.{Current, Learn}
use Rattle.incarnation.specs.declared.refusal.IncarnationRefusal as judging
use Rattle.incarnation.specs.declared.refusal.IncarnationRefusal.TheVariants as judgings
use Rattle.incarnation.specs.Judgements.{judgement}
use Rattle.point_to_point_calls.specs.declared.refusal.Refusal.{Refusal}
use Rattle.point_to_point_calls.specs.declared.refusal.Refusal.TheVariants as refusals
use Rattle.sessions.specs.declared.refusal.SessionRefusal as lower
use Rattle.sessions.specs.declared.refusal.SessionRefusal.TheVariants as lowers
use Rattle.sessions.specs.declared.heard.Unheard.{Unheard}
use Rattle.sessions.specs.Peers.{peer_at}
use Rattle.sessions.specs.SessionsState.{SessionsState, knowledge}
use Rattle.sessions.specs.HeardBytes.{
  WordText,
  HeardText,
  heard_by,
  heard_in,
  heard_of,
  said,
  session_met,
  stale,
  word_of,
}
use Rattle.sessions.specs.Events as links
use Rattle.sessions.specs.Events.{TurnedAway, after_send, after_sends, taught_known}
use Rattle.engine_calls.specs.EngineState.{EngineState, GroupsState, or_before}
use Rattle.engine_calls.specs.Refusals.{of_sessions}
use Rattle.engine.specs.Datagrams.{
  DatagramGives,
  HeardGives,
  HeardGivesBy,
  HearingGives,
  IsNoticed,
  IsTakenIn,
  IsTakenInUnless,
  NoticeGives,
  NoticeText,
  OfAnnouncement,
  OfAnswer,
  OfMessage,
  OfPiece,
  PieceGivesBy,
  RefusedDatagramLeaves,
  SourceIsKnown,
  WhyUnnoticed,
  answer_to,
  data_for,
  lesson_in,
  notice_in,
  numbers_met,
  payloads_met,
  replies,
  says_nothing,
  whole_in,
}
use Rattle.engine.specs.Parts.{MessageGives, PartsGive, PartsState, engine_in, engine_with, state_of}
use Rattle.engine.specs.declared.parts.Parts.{Parts}
use Rattle.engine_calls.specs.Frames.{step_sendings}

-- ---- at which incarnation the source is known then

-- the source is where it is known
is_current : (s : SessionsState) (h : Header) → judgement (knowledge s) h ≡ Ok Current →
    slice_index s.known h.source.rank ≡ h.source.incarnation
unfolding judgement
is_current s h current = grind (arith, common_steps, current)

-- the source is above where it is known
record IsLater (s : SessionsState) (h : Header) : Type 0 where
  there : h.source.rank < s.place.size
  above : slice_index s.known h.source.rank < h.source.incarnation

is_later : (s : SessionsState) (h : Header) (i : ℕ) → judgement (knowledge s) h ≡ Ok (Learn i) → IsLater s h
unfolding judgement
is_later s h i learn = record { there = grind (arith, common_steps, learn); above = grind (arith, common_steps, learn) }

-- once the lesson is learnt, the source is known at its incarnation
abbrev Knows : Result HeardText Unheard → SessionsState → Endpoint → Type 0
Knows (Ok h) s source = slice_index (taught_known h.lesson s.known h.source) source.rank ≡ source.incarnation
Knows (Err u) s source = Unit {0}

said_knows : (w : Result WordText lower.SessionRefusal) (s : SessionsState) (source : Endpoint) (lesson : Bool) →
    slice_index (taught_known lesson s.known source) source.rank ≡ source.incarnation →
    Knows (said source lesson w) s source
said_knows (Ok w) s source lesson is = is
said_knows (Err e) s source lesson is = tt

-- what is above was learnt
learnt : (known : List ℕ) (source : Endpoint) → source.rank < length known →
    slice_index known source.rank < source.incarnation →
    slice_index (taught_known true known source) source.rank ≡ source.incarnation
learnt known source there above =
    get_or-set_same known source.rank (max (slice_index known source.rank) source.incarnation) 0 there ∙
    omega (arith, above)

stale_knows : (body : BodyText) (s : SessionsState) (source : Endpoint) → Knows (stale source body) s source
stale_knows (AckBody held) s source = tt
stale_knows (FrameBody f) s source = tt
stale_knows ResetBody s source = tt

judged_knows : (j : Result Judgement judging.IncarnationRefusal) (s : SessionsState) (d : DatagramText)
    (bytes : List ℕ) → length s.known ≡ s.place.size →
    judgement (knowledge s) d.header ≡ j → Knows (heard_by j s d bytes) s d.header.source
judged_knows (Ok Current) s d bytes each is =
    said_knows (word_of (session_met false (peer_at s.peers d.header.source.rank)) d.header.sequence d.body bytes) s
    d.header.source false (is_current s d.header is)
judged_knows (Ok (Learn i)) s d bytes each is =
    let later : IsLater s d.header = is_later s d.header i is in
    said_knows (word_of (session_met true (peer_at s.peers d.header.source.rank)) d.header.sequence d.body bytes) s
    d.header.source true
    (learnt s.known d.header.source (omega (arith, each, later.there)) later.above)
judged_knows (Err judgings.StaleTarget) s d bytes each is = stale_knows d.body s d.header.source
judged_knows (Err judgings.Limit) s d bytes each is = tt
judged_knows (Err judgings.OutOfMemory) s d bytes each is = tt
judged_knows (Err judgings.ForeignJob) s d bytes each is = tt
judged_knows (Err judgings.NotForMe) s d bytes each is = tt
judged_knows (Err judgings.StaleSource) s d bytes each is = tt

-- frames that are sent teach nothing
known_sends : (s : SessionsState) (fs : List OutgoingText) → (after_sends s fs).known ≡ s.known
known_sends s [] = refl
known_sends s (f ∷ fs) = known_sends (after_send s f) fs

-- what was heard was carried out, with these frames
pub record IsCarried (old : SessionsState) (h : HeardText) (new : SessionsState) : Type 0 where
  pub frames : List OutgoingText
  pub carried : new ≡ links.after_event old (Some h) frames

piece_carried : (due : Bool) (w : Option Whole) (old new : EngineState) (h : HeardText) (t : DataText) (x : Unit {0}) →
    PieceGivesBy due w old h t (Ok x) new →
    IsCarried old.sessions h new.sessions
piece_carried true None old new h t x gives =
    record { frames = []; carried = ap (λ (e : EngineState). e.sessions) gives.1 }
piece_carried true (Some w) old new h t x gives =
    record {
      frames = step_sendings old.sessions.place (numbers_met old.core h) gives.ready.step.messages;
      carried =
          gives.sessions;
    }
piece_carried false w old new h t x gives = absurd gives

pub carried_by : (n : Option NoticeText) (old new : EngineState) (h : HeardText) (x : Unit {0}) →
    HeardGivesBy n old h (Ok x) new → IsCarried old.sessions h new.sessions
carried_by None old new h x gives =
    record { frames = replies old.core h; carried = ap (λ (e : EngineState). e.sessions) gives.1 }
carried_by (Some (OfMessage t)) old new h x gives =
    record {
      frames = step_sendings old.sessions.place (numbers_met old.core h) gives.ready.step.messages;
      carried =
          gives.sessions;
    }
carried_by (Some (OfAnnouncement t)) old new h x gives =
    record { frames = answer_to h t ∷ []; carried = ap (λ (e : EngineState). e.sessions) gives.1 }
carried_by (Some (OfAnswer t)) old new h x gives =
    record {
      frames = data_for old.sessions.place.message_limit old.payloads h t;
      carried = ap (λ (e : EngineState). e.sessions) gives.1;
    }
carried_by (Some (OfPiece t)) old new h x gives =
    piece_carried (is_due old.payloads h.source.rank t.transfer t.offset t.bytes)
    (whole_with old.payloads h.source.rank t.transfer t.bytes) old new h t x gives

-- what was carried out teaches what was heard, and no more
pub known_carried : (old new : SessionsState) (h : HeardText) → IsCarried old h new →
    new.known ≡ taught_known h.lesson old.known h.source
known_carried old new h goes = ap (λ (s : SessionsState). s.known) goes.carried ∙
    known_sends (links.after_heard old (Some h)) goes.frames

-- where anything is heard in what was read, it is within the job's limit
within_limit : (test : Bool) (why : reading.DatagramRefusal) (s : SessionsState) (d : DatagramText) (bytes : List ℕ)
    (h : HeardText) → heard_in s (guard test why (Ok d)) bytes ≡ Ok h →
    heard_by (judgement (knowledge s) d.header) s d bytes ≡ Ok h
within_limit true why s d bytes h is = is
within_limit false why s d bytes h is = absurd cc

-- so it is by what the bytes say
heard_by_text : (s : SessionsState) (bytes : List ℕ) (d : DatagramText) (h : HeardText) → datagram_of bytes ≡ Ok d →
    heard_of s bytes ≡ Ok h → heard_by (judgement (knowledge s) d.header) s d bytes ≡ Ok h
unfolding heard_of
heard_by_text s bytes d h is heard =
    let j : InJob s.place.message_limit bytes d = in_job s.place.message_limit bytes d is in
    within_limit (body_is_within s.place.message_limit d.body) j.0 s d bytes h
    (sym (ap (λ (r : Result DatagramText reading.DatagramRefusal). heard_in s r bytes) j.1) ∙ heard)

-- the source of what was taken in is known at the incarnation in its header
pub heard_is_known : (old new : EngineState) (bytes : List ℕ) (h : HeardText) (result : Result (Unit {0}) Refusal) →
    length old.sessions.known ≡ old.sessions.place.size → heard_of old.sessions bytes ≡ Ok h →
    OnOk result (new.sessions.known ≡ taught_known h.lesson old.sessions.known h.source) →
    OnOk result (SourceIsKnown new bytes)
heard_is_known old new bytes h (Err e) each heard known = tt
heard_is_known old new bytes h (Ok x) each heard known = λ d is.
    let by : heard_by (judgement (knowledge old.sessions) d.header) old.sessions d bytes ≡ Ok h =
    heard_by_text old.sessions bytes d h is heard in
    ap (λ (ks : List ℕ). slice_index ks d.header.source.rank) known
    ∙ subst (λ (r : Result HeardText Unheard). Knows r old.sessions d.header.source) by
    (judged_knows (judgement (knowledge old.sessions) d.header) old.sessions d bytes each refl)

-- ---- what a refusal leaves

-- it changes nothing
left_as_it_was : (r : Refusal) (old new : EngineState) → new ≡ old → RefusedDatagramLeaves (Err r) old new
left_as_it_was refusals.Count old new is = is
left_as_it_was refusals.WrongType old new is = is
left_as_it_was refusals.Tag old new is = is
left_as_it_was refusals.Communicator old new is = is
left_as_it_was refusals.Rank old new is = is
left_as_it_was refusals.Request old new is = is
left_as_it_was refusals.Root old new is = is
left_as_it_was refusals.Operation old new is = is
left_as_it_was refusals.Replaced old new is = is
left_as_it_was refusals.Limit old new is = is
left_as_it_was refusals.OutOfMemory old new is = is
left_as_it_was refusals.Short old new is = is
left_as_it_was refusals.Magic old new is = is
left_as_it_was refusals.Version old new is = is
left_as_it_was refusals.Kind old new is = is
left_as_it_was refusals.Length old new is = is
left_as_it_was refusals.ForeignJob old new is = is
left_as_it_was refusals.NotForMe old new is = is
left_as_it_was refusals.StaleSource old new is = is
left_as_it_was refusals.StaleTarget old new is =
    is ∙ ap (λ (e : EngineState). record old { sessions = record old.sessions { out = e.sessions.out } }) (sym is)
left_as_it_was refusals.BadFrame old new is = is
left_as_it_was refusals.OutOfWindow old new is = is
left_as_it_was refusals.ClockBack old new is = is

-- a reset goes out with 29 alone
abbrev ResetTells : Option Endpoint → lower.SessionRefusal → Type 0
ResetTells None e = Unit {0}
ResetTells (Some source) e = e ≡ lowers.StaleTarget

abbrev ResetsTell : Result HeardText Unheard → Type 0
ResetsTell (Ok h) = Unit {0}
ResetsTell (Err u) = ResetTells u.reset u.refused

said_tells : (w : Result WordText lower.SessionRefusal) (source : Endpoint) (lesson : Bool) →
    ResetsTell (said source lesson w)
said_tells (Ok w) source lesson = tt
said_tells (Err e) source lesson = tt

stale_tells : (body : BodyText) (source : Endpoint) → ResetsTell (stale source body)
stale_tells (AckBody held) source = refl
stale_tells (FrameBody f) source = refl
stale_tells ResetBody source = tt

judged_tells : (j : Result Judgement judging.IncarnationRefusal) (s : SessionsState) (d : DatagramText)
    (bytes : List ℕ) → ResetsTell (heard_by j s d bytes)
judged_tells (Ok Current) s d bytes =
    said_tells (word_of (session_met false (peer_at s.peers d.header.source.rank)) d.header.sequence d.body bytes)
    d.header.source false
judged_tells (Ok (Learn i)) s d bytes =
    said_tells (word_of (session_met true (peer_at s.peers d.header.source.rank)) d.header.sequence d.body bytes)
    d.header.source true
judged_tells (Err judgings.StaleTarget) s d bytes = stale_tells d.body d.header.source
judged_tells (Err judgings.Limit) s d bytes = tt
judged_tells (Err judgings.OutOfMemory) s d bytes = tt
judged_tells (Err judgings.ForeignJob) s d bytes = tt
judged_tells (Err judgings.NotForMe) s d bytes = tt
judged_tells (Err judgings.StaleSource) s d bytes = tt

read_tells : (text : Result DatagramText reading.DatagramRefusal) (s : SessionsState) (bytes : List ℕ) →
    ResetsTell (heard_in s text bytes)
read_tells (Err e) s bytes = tt
read_tells (Ok d) s bytes = judged_tells (judgement (knowledge s) d.header) s d bytes

bytes_tell : (bytes : List ℕ) (s : SessionsState) → ResetsTell (heard_of s bytes)
unfolding heard_of
bytes_tell bytes s = read_tells (datagram_within s.place.message_limit bytes) s bytes

-- nothing but the sessions changed
abbrev IsElsewhere : EngineState → EngineState → Type 0
IsElsewhere old new = new ≡ record old { sessions = new.sessions }

-- nor they
kept : (old new : EngineState) → IsElsewhere old new → new.sessions ≡ old.sessions → new ≡ old
kept old new is sessions = is ∙ ap (λ (s : SessionsState). record old { sessions = s }) sessions

-- with a reset only what goes out changed
with_reset_leaves : (old new : EngineState) (out : List (ℕ × List ℕ)) → IsElsewhere old new →
    new.sessions ≡ record old.sessions { out = out } →
    RefusedDatagramLeaves (Err refusals.StaleTarget) old new
with_reset_leaves old new out is sessions =
    is ∙ ap (λ (s : SessionsState). record old { sessions = s })
    (sessions ∙ ap (λ (s : SessionsState). record old.sessions { out = s.out }) (sym sessions))

turned_away_leaves : (old new : EngineState) (reset : Option Endpoint) (refused e : lower.SessionRefusal) →
    ResetTells reset refused →
    IsElsewhere old new → TurnedAway reset refused old.sessions e new.sessions →
    RefusedDatagramLeaves (Err (of_sessions e)) old new
turned_away_leaves old new None refused e tells is away =
    left_as_it_was (of_sessions e) old new (kept old new is away.1)
turned_away_leaves old new (Some source) refused e tells is (inl away) =
    subst (λ (r : lower.SessionRefusal). RefusedDatagramLeaves (Err (of_sessions r)) old new) (sym (away.0 ∙ tells))
    (with_reset_leaves old new _ is away.1)
turned_away_leaves old new (Some source) refused e tells is (inr away) =
    left_as_it_was (of_sessions e) old new (kept old new is away.1)

-- what is heard and refused changes nothing
piece_leaves : (due : Bool) (w : Option Whole) (old new : EngineState) (h : HeardText) (t : DataText) (e : Refusal) →
    PieceGivesBy due w old h t (Err e) new → new ≡ old
piece_leaves true w old new h t e gives = gives.1
piece_leaves false w old new h t e gives = gives.1

pub unheard_leaves : (n : Option NoticeText) (old new : EngineState) (h : HeardText) (e : Refusal) →
    HeardGivesBy n old h (Err e) new → new ≡ old
unheard_leaves None old new h e gives = gives.2
unheard_leaves (Some (OfMessage t)) old new h e gives = gives.1
unheard_leaves (Some (OfAnnouncement t)) old new h e gives = gives.1
unheard_leaves (Some (OfAnswer t)) old new h e gives = gives.1
unheard_leaves (Some (OfPiece t)) old new h e gives =
    piece_leaves (is_due old.payloads h.source.rank t.transfer t.offset t.bytes)
    (whole_with old.payloads h.source.rank t.transfer t.bytes) old new h t e gives

hearing_leaves : (heard : Result HeardText Unheard) (old new : EngineState) (result : Result (Unit {0}) Refusal) →
    ResetsTell heard →
    HearingGives heard old result new → RefusedDatagramLeaves result old new
hearing_leaves (Ok h) old new (Ok x) tells gives = tt
hearing_leaves (Ok h) old new (Err e) tells gives =
    left_as_it_was e old new (unheard_leaves (notice_in h.lesson old.payloads h.source.rank h.word) old new h e gives)
hearing_leaves (Err u) old new result tells gives =
    subst (λ (r : Result (Unit {0}) Refusal). RefusedDatagramLeaves r old new) (sym gives.1)
    (turned_away_leaves old new u.reset u.refused gives.0 tells gives.2 gives.3)

-- what a datagram gives says what its refusal leaves
pub refusal_leaves : (old new : EngineState) (bytes : List ℕ) (result : Result (Unit {0}) Refusal) →
    DatagramGives old bytes result new →
    RefusedDatagramLeaves result old new
refusal_leaves old new bytes result gives =
    hearing_leaves (heard_of old.sessions bytes) old new result (bytes_tell bytes old.sessions) gives

-- ---- what is taken in, with what follows

-- what says something is taken in
pub taken_unless : (nothing : Bool) (old : EngineState) (h : HeardText) (new : EngineState) → nothing ≡ false →
    IsTakenIn old h new → IsTakenInUnless nothing old h new
taken_unless true old h new something taken = absurd cc
taken_unless false old h new something taken = taken

pub hearing_is : (h : HeardText) (old new : EngineState) (r : Result (Unit {0}) Refusal) →
    OnOk r (IsTakenInUnless (says_nothing h.lesson h.word) old h new) →
    IfErr r (λ e. HeardGives old h (Err e) new) → HearingGives (Ok h) old r new
hearing_is h old new (Ok x) taken refused = taken
hearing_is h old new (Err e) taken refused = refused

-- ---- turning away

-- all but the sessions stays as it is
pub turned_away : (e : EngineState) (t : SessionsState) (u : Unheard) (why : lower.SessionRefusal) →
    TurnedAway u.reset u.refused e.sessions why t →
    HearingGives (Err u) e (Err (of_sessions why)) (record e { sessions = t })
turned_away e t u why away = (why, refl, refl, away)

-- ---- what the parts take in, or refuse

-- why a message isn't taken says nothing of the payloads that stand there
pub for_any : (e : EngineState) (q : payloads.State) (h : HeardText) (w : Whole) (why : Refusal) →
    WhyUnnoticed (record e { payloads = q }) h w why → WhyUnnoticed e h w why
for_any e q h w refusals.BadFrame is = is
for_any e q h w refusals.Limit is = is
for_any e q h w refusals.OutOfMemory is = is
for_any e q h w refusals.Count is = absurd is
for_any e q h w refusals.WrongType is = absurd is
for_any e q h w refusals.Tag is = absurd is
for_any e q h w refusals.Communicator is = absurd is
for_any e q h w refusals.Rank is = absurd is
for_any e q h w refusals.Request is = absurd is
for_any e q h w refusals.Root is = absurd is
for_any e q h w refusals.Operation is = absurd is
for_any e q h w refusals.Replaced is = absurd is
for_any e q h w refusals.Short is = absurd is
for_any e q h w refusals.Magic is = absurd is
for_any e q h w refusals.Version is = absurd is
for_any e q h w refusals.Kind is = absurd is
for_any e q h w refusals.Length is = absurd is
for_any e q h w refusals.ForeignJob is = absurd is
for_any e q h w refusals.NotForMe is = absurd is
for_any e q h w refusals.StaleSource is = absurd is
for_any e q h w refusals.StaleTarget is = absurd is
for_any e q h w refusals.OutOfWindow is = absurd is
for_any e q h w refusals.ClockBack is = absurd is

-- parts that hold the same are of the same engine
pub same_engine : (old new : Parts) → state_of new ≡ state_of old → (ended : Option Ending) →
    engine_with new ended ≡ engine_with old ended
same_engine old new same ended = ap (λ (s : PartsState). engine_in s ended) same

-- and they do hold the same where their groups are those of before
pub same_groups : (s : PartsState) (g : GroupsState) → g.collective ≡ s.groups.collective →
    g.contexts ≡ s.groups.contexts → record s { groups = g } ≡ s
same_groups s g collective contexts = λ i. record s {
  groups = record { collective = collective i; contexts = contexts i };
}

-- what is heard is what its notice says
pub as_heard : (n : Option NoticeText) (old new : Parts) (r : Result (Option Ending) Refusal) (h : HeardText) →
    n ≡ notice_in h.lesson old.core.payloads.state h.source.rank h.word →
    PartsGive (λ e x f. HeardGivesBy n e h x f) old r new → PartsGive (λ e x f. HeardGives e h x f) old r new
as_heard n old new (Ok ending) h is gives = λ before.
    subst (λ (m : Option NoticeText). HeardGivesBy m (engine_with old before) h (Ok tt)
    (engine_with new (or_before ending before))) is (gives before)
as_heard n old new (Err e) h is gives = λ before.
    subst (λ (m : Option NoticeText). HeardGivesBy m (engine_with old before) h (Err e) (engine_with new before)) is
    (gives before)

-- a message of a collective that stands in a frame
pub as_message : (h : HeardText) (t : EagerText) (w : Whole) (old new : Parts) (r : Result (Option Ending) Refusal) →
    w ≡ whole_in t → PartsGive (MessageGives h w) old r new → PartsGive (λ e x f. NoticeGives e h t x f) old r new
as_message h t w old new (Ok ending) is gives = λ before.
    subst (λ (v : Whole). IsNoticed (engine_with old before) (payloads_met old.core.payloads.state (lesson_in h)) h v
    (engine_with new (or_before ending before))) is (gives before)
as_message h t w old new (Err e) is gives = λ before. (
  subst (λ (v : Whole). WhyUnnoticed (engine_with old before) h v e) is (gives before).0,
  (gives before).1,
)
