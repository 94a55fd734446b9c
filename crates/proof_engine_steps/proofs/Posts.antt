-- A receive of a rank is that of its core in the network.
use Rattle.std.proofs.Common.{◌≡◌, ℕ, ◌+◌, Bool, false, List, [], ◌∷◌, ◌++◌, map, length, Option, Some, None}
use Rattle.std.proofs.Common.{if◌then◌else◌, slice_set, refl, sym, ap, ◌∙◌, subst, append-nil, ◌⊎◌, inl, inr}
use Rattle.std.specs.List.{AllByRecursion}
use Rattle.datagram.specs.Spellings.{OutgoingText}
use Rattle.vocabulary.specs.declared.endpoint.Endpoint.{Endpoint}
use Rattle.vocabulary.specs.declared.envelope.Source.{Source}
use Rattle.vocabulary.specs.declared.envelope.Source.TheVariants as sources
use Rattle.incarnation.specs.declared.place.Place.{Place}
use Rattle.datatypes.specs.Contents.{Contents}
use Rattle.perfect_queues.specs.Calls as machine
use Rattle.perfect_queues.specs.Buffers.{is_too_short}
use Rattle.perfect_queues.specs.Outcomes as ends
use Rattle.perfect_queues.specs.Receives as receives
use Rattle.perfect_queues.specs.Refusals as rules
use Rattle.match_queues.specs.declared.envelope.Announcement.{Announcement}
use Rattle.match_queues.specs.declared.envelope.Message.{Message}
use Rattle.match_queues.specs.declared.envelope.OwnSend.{OwnSend}
use Rattle.match_queues.specs.declared.envelope.PostedReceive as queued
use Rattle.match_queues.specs.State.{State, after_post, message_at, message_for}
use Rattle.rendezvous.specs.State as transfers
use Rattle.requests.specs.Outcomes.{outcome_of}
use Rattle.requests.specs.Regions.{handed_of, is_unfit_to_receive}
use Rattle.requests.specs.Table.{IsSet, after_answer, has_room, is_full, matched_progress, slot_at}
use Rattle.requests.specs.declared.outcome.Outcome.{Outcome}
use Rattle.requests.specs.declared.outcome.Outcome.TheVariants as outcomes
use Rattle.requests.specs.declared.table.TableEntry.{TableEntry}
use Rattle.requests.specs.declared.table.RequestProgress.TheVariants.{Finished, Receiving}
use Rattle.requests.specs.declared.table.Request.{Request}
use Rattle.point_to_point_calls.specs.CoreCalls as calls
use Rattle.point_to_point_calls.specs.declared.call.RoutedReceive.{RoutedReceive}
use Rattle.point_to_point_calls.specs.declared.refusal.Refusal.{Refusal}
use Rattle.point_to_point_calls.specs.declared.refusal.Refusal.TheVariants as refusals
use Rattle.point_to_point_calls.specs.Frames.{as_list}
use Rattle.match_queues.specs.declared.envelope.Body.TheVariants.{Announced}
use Rattle.vocabulary.specs.declared.message_limit.MessageLimit.{MessageLimit}
use Rattle.proof_engine_steps.proofs.Knowledge.{knows}
use Rattle.point_to_point_calls.specs.ReceiveMatches.{answer_on_post, collection_on_match, transfers_with, posted_by}
use Rattle.point_to_point_calls.specs.ReceiveMatches.{progress_on_post, status_of, transfers_on_post, waiting_by}
use Rattle.communicator_members.specs.Statuses.{status_in}
use Rattle.point_to_point.specs.CoreState.{CoreState}
use Rattle.point_to_point.specs.Messages.{own_key_sent, own_send_of}
use Rattle.point_to_point.specs.Receives.{IsPosting, IsReceiving, IsReceivingNothing, ReceivesFrom, found_by}
use Rattle.point_to_point.specs.Receives.{receive_fault, receive_frame}
use Rattle.proof_pure_network.specs.Core.{Core, Effect, view}
use Rattle.proof_pure_network.specs.Frames.{Frame}
use Rattle.proof_pure_network.specs.Claims.{ClaimsOnce}
use Rattle.proof_pure_network.specs.WaitingMessages.{Held, blank, full}
use Rattle.proof_pure_network.specs.Jobs.{Over, Unmatched, Waiting}
use Rattle.proof_pure_network.specs.Matches.{found, posted, posted_at}
use Rattle.proof_pure_network.specs.Matches as matching
use Rattle.proof_engine_view.specs.Faults.{queue_fault}
use Rattle.proof_engine_view.specs.Rows.{Row, held_of, posted_job, posted_rows}
use Rattle.observation.specs.CoreCalls.{outcome_seen, receive_seen}
use Rattle.proof_engine_view.specs.CoreViews.{IsShown}
use Rattle.proof_engine_view.specs.FrameViews.{AreSent, CanLeave, all_gone}
use Rattle.proof_engine_view.specs.Transfers.{Announcements, after_out}
use Rattle.proof_engine_view.specs.UnderWay.{AreUnderWay, IsFromLink, IsOwnOf, IsPartOf}
use Rattle.proof_engine_matching.specs.Matches.{AnnouncedAlike, AnnouncementsAgree, Finds, FindsNone, OutcomesAgree}
use Rattle.proof_engine_matching.specs.Matches.{OwnOutcomesAgree, PostsMatch}
use Rattle.proof_engine_steps.specs.Steps.{IsCalled}
use Rattle.proof_engine_steps.proofs.Announces.{collections_elsewhere}
use Rattle.proof_engine_steps.proofs.ClearToSend.{answer_leaves, answer_quiet, answer_sent}
use Rattle.proof_engine_steps.proofs.Collects.{matched_under_way, written_pushed}
use Rattle.proof_engine_steps.proofs.MatchedRows.{left_by, left_untaken, left_waits}
use Rattle.proof_engine_steps.proofs.OwnSendEnds.{found_unclaimed, own_ended}
use Rattle.proof_engine_steps.proofs.Regions.{handed_buffer}
use Rattle.proof_engine_steps.proofs.Sends.{Stays}
use Rattle.proof_engine_steps.proofs.RequestStarts.{
  core_free,
  fault_free,
  holding_of,
  holding_started,
  no_fault,
  none_leave,
}
use Rattle.proof_engine_steps.proofs.RequestStarts.{none_sent, serial_told, shown_free, started_call, two_tests}
use Rattle.proof_engine_steps.proofs.UnchangedTransfers.{
  AreQuiet,
  same_rows,
  shown_quiet,
  under_way_still,
  under_way_with,
}
use Rattle.proof_engine_steps.proofs.UnderWay.{after_grows_not, keeps_pushed, messages_keep, row_of, same_pushed}
use Rattle.proof_engine_steps.proofs.UnderWay.{untaken}
use Rattle.proof_engine_steps.proofs.BlockedRanks.{Holding}
use Rattle.proof_engine_steps.proofs.Wholes.{announced_as, by_body, found_at, own_as, post_leaves, whole}

-- WHAT A RECEIVE THAT WAS TAKEN MET

-- a region that data can be received into, a tag that is allowed, and a source that is there
pub record KeepsRules (n : ℕ) (v : RoutedReceive) : Type 0 where
  pub fit : is_unfit_to_receive (handed_of v.receive.into) ≡ false
  pub long : is_too_short (handed_of v.receive.into) ≡ false
  pub low : rules.is_tag_above v.receive.tag ≡ false
  pub inside : rules.is_source_beyond n v.route.named ≡ false

pub receive_rules : (e : CoreState) (v : RoutedReceive) → receive_fault e v ≡ None → KeepsRules e.place.size v
unfolding receive_fault
receive_rules e v fine =
    let last : Option Refusal = if is_full e.slots e.serial then Some refusals.Limit else None in
    let t = two_tests (is_unfit_to_receive (handed_of v.receive.into)) (is_too_short (handed_of v.receive.into)) refusals.WrongType refusals.Count
    (if rules.is_tag_above v.receive.tag then Some refusals.Tag else
    (if rules.is_source_beyond e.place.size v.route.named then Some refusals.Rank else last)) fine in
    let u = two_tests (rules.is_tag_above v.receive.tag) (rules.is_source_beyond e.place.size v.route.named) refusals.Tag refusals.Rank last t.2 in
    record { fit = t.0; long = t.1; low = u.0; inside = u.1 }

-- no rule of the machine is broken
pub post_fit : (p : Place) (core : Core) (v : RoutedReceive) → core.blocked ≡ None → KeepsRules p.size v →
    queue_fault p (view blank core) (machine.Irecv (receive_seen v)) ≡ None
post_fit p core v free kept =
    fault_free p core (machine.Irecv (receive_seen v)) free ∙
    no_fault false false (is_unfit_to_receive (handed_of v.receive.into)) (is_too_short (handed_of v.receive.into))
    (rules.is_tag_above v.receive.tag) (rules.is_source_beyond p.size v.route.named)
    refl refl kept.fit kept.long kept.low kept.inside

-- BOTH

-- It is posted, in both, where it doesn't name the null process; so what it found is answered
pub record IsPosted (old : CoreState) (core : Core) (v : RoutedReceive) : Type 0 where
  pub core_is : matching.receives core (receive_seen v) v.route.named ≡ posted core (receive_seen v)
  pub frame_is : receive_frame v.route.named old v ≡ answer_on_post v.receive.into (found_by old v)

-- what both have for the request, before an own send that waited for it is over
entry_begun : (old new : CoreState) (v : RoutedReceive) (q : Request) (m : Option Message) → (h : IsPosting old v q new)
    →
    message_at old.queues.unexpected (message_for (posted_by q.key v) old.queues.unexpected) ≡ m →
    IsSet old.slots h.started q.key
    (Some (record { serial = old.serial; progress = progress_on_post (waiting_by v) m }))
entry_begun old new v q m h e =
    subst (λ (x : Option Message). IsSet old.slots h.started q.key
    (Some (record { serial = old.serial; progress = progress_on_post (waiting_by v) x }))) e h.entry

-- where none waited for it
entry_of : (old new : CoreState) (v : RoutedReceive) (q : Request) (m : Option Message) → IsPosting old v q new →
    message_at old.queues.unexpected (message_for (posted_by q.key v) old.queues.unexpected) ≡ m →
    own_send_of m ≡ None →
    IsSet old.slots new.slots q.key
    (Some (record { serial = old.serial; progress = progress_on_post (waiting_by v) m }))
entry_of old new v q m h e none =
    subst (λ (slots : List (Option TableEntry)). IsSet old.slots slots q.key
    (Some (record { serial = old.serial; progress = progress_on_post (waiting_by v) m })))
    (sym (ap (λ (c : CoreState). c.slots) h.rest ∙
    (ap (λ (x : Option Message). own_key_sent (own_send_of x) h.started) e ∙
    ap (λ (k : Option ℕ). own_key_sent k h.started) none)))
    (entry_begun old new v q m h e)

-- one more request was started
serial_of : (old new : CoreState) (v : RoutedReceive) (q : Request) → IsPosting old v q new → new.serial ≡ old.serial +
    1
serial_of old new v q h = ap (λ (e : CoreState). e.serial) h.rest

-- it was posted
queues_of : (old new : CoreState) (v : RoutedReceive) (q : Request) → IsPosting old v q new →
    new.queues ≡ after_post old.queues (posted_by q.key v)
queues_of old new v q h = ap (λ (e : CoreState). e.queues) h.rest

-- its transfers are as the message that was found leaves them
transfers_of : (old new : CoreState) (v : RoutedReceive) (q : Request) (m : Option Message) → IsPosting old v q new →
    message_at old.queues.unexpected (message_for (posted_by q.key v) old.queues.unexpected) ≡ m →
    new.transfers ≡ transfers_on_post old.place.message_limit old.transfers v.receive.into q.key m
transfers_of old new v q m h e = ap (λ (c : CoreState). c.transfers) h.rest ∙
    ap (transfers_on_post old.place.message_limit old.transfers v.receive.into q.key) e

-- the frame that it gives, by the message that was found
frame_of : (old new : CoreState) (core : Core) (v : RoutedReceive) (q : Request) (m : Option Message) →
    IsPosted old core v →
    message_at old.queues.unexpected (message_for (posted_by q.key v) old.queues.unexpected) ≡ m →
    receive_frame v.route.named old v ≡ answer_on_post v.receive.into m
frame_of old new core v q m real e = real.frame_is ∙ ap (answer_on_post v.receive.into) e

-- what goes out announces nothing, stands for the core's, and can leave
pub record IsGiven (links : Announcements) (known : List ℕ) (p : Place) (f : Option OutgoingText)
    (out : List (Endpoint × Frame)) : Type 0 where
  pub quiet : AreQuiet out
  pub sends : AreSent (after_out links out) (all_gone known (as_list f)) out
  pub leaves : AllByRecursion (CanLeave p) (as_list f)

-- where nothing goes out
pub given_nothing : (links : Announcements) (known : List ℕ) (p : Place) (f : Option OutgoingText) → f ≡ None →
    IsGiven links known p f []
given_nothing links known p f none =
    record { quiet = tt; sends = none_sent (after_out links []) known f none; leaves = none_leave p f none }

-- a receive is started in both, by what the core makes of it
receive_started : (links : Announcements) (old new : CoreState) (known : List ℕ) (core : Core) (v : RoutedReceive)
    (q : Request) (after : Effect) (rows : List Row) → IsShown links old known core →
    old.blocked ≡ None → receive_fault old v ≡ None → q.serial ≡ old.serial →
    matching.receives core (receive_seen v) v.route.named ≡ after → Holding links new known after.core rows →
    after.core.blocked ≡ core.blocked → Stays old new →
    IsGiven links known old.place (receive_frame v.route.named old v) after.out →
    IsCalled links old known core (calls.Irecv v) (calls.Started q) new
receive_started links old new known core v q after rows shown free fine serial is holding same stays given =
    let core_is : core.blocked ≡ None = core_free links old known core shown free in
    started_call links old new known core (calls.Irecv v) q after (record {
      is = is;
      fit = post_fit old.place core v core_is (receive_rules old v fine);
      place = stays.place;
      completion = stays.completion;
      free = same ∙ core_is;
      shown = shown_quiet links new known after.core after.out given.quiet
          (shown_free links new known after.core rows holding (stays.blocked ∙ free) (same ∙ core_is));
      sends = given.sends;
      leaves = given.leaves;
      reply = ap (λ (n : ℕ). Some (machine.Irecv (receive_seen v), Some (machine.Started n)))
          (serial_told links old known core q shown serial);
    })

-- what a posted receive leaves of the rank
post_stays : (old new : CoreState) (v : RoutedReceive) (q : Request) → IsPosting old v q new → Stays old new
post_stays old new v q h =
    record {
      place = ap (λ (e : CoreState). e.place) h.rest;
      completion = ap (λ (e : CoreState). e.completion) h.rest;
      blocked = ap (λ (e : CoreState). e.blocked) h.rest;
    }

-- the core's receive, by the message that was found
core_posts : (links : Announcements) (core : Core) (old : CoreState) (v : RoutedReceive)
    (o : Option (List Held × Held × List Held)) → IsPosted old core v →
    core.held ≡ map (held_of links.from) old.queues.unexpected →
    found (receive_seen v) (map (held_of links.from) old.queues.unexpected) ≡ o →
    matching.receives core (receive_seen v) v.route.named ≡ posted_at core (receive_seen v) o
core_posts links core old v o real held is =
    real.core_is ∙ ap (posted_at core (receive_seen v)) (ap (found (receive_seen v)) held ∙ is)

-- no message that waits is accepted: the receive waits
post_waits : (links : Announcements) (old new : CoreState) (known : List ℕ) (core : Core) (v : RoutedReceive)
    (q : Request) → IsShown links old known core → old.blocked ≡ None → receive_fault old v ≡ None →
    IsPosted old core v → IsPosting old v q new → FindsNone links.from old.queues v q.key →
    IsCalled links old known core (calls.Irecv v) (calls.Started q) new
post_waits links old new known core v q shown free fine real h finds =
    let qs : new.queues ≡ record old.queues { posted = old.queues.posted ++ posted_by q.key v ∷ [] } = queues_of old new v q h ∙ finds.queues in
    receive_started links old new known core v q (posted_at core (receive_seen v) None)
    (shown.rows ++ row_of q.key (Waiting (receive_seen v)) ∷ []) shown free fine h.serial
    (core_posts links core old v None real shown.held finds.core)
    (holding_started links links old new known core (posted_at core (receive_seen v) None).core shown.rows q.key
    (Receiving (waiting_by v)) (Waiting (receive_seen v)) (holding_of links old known core shown) h.fresh
    (entry_of old new v q None h finds.message refl) (record { into = refl; group = refl }) refl
    (serial_of old new v q h)
    (ap (λ (s : State). s.posted) qs ∙ ap (λ (ps : List queued.PostedReceive). ps ++ posted_by q.key v ∷
    []) shown.posted)
    (shown.held ∙ ap (λ (s : State). map (held_of links.from) s.unexpected) (sym qs))
    (under_way_still links known old.place new.place shown.rows (shown.rows ++ row_of q.key (Waiting (receive_seen v)) ∷
    []) old.transfers new.transfers old.queues.unexpected new.queues.unexpected shown.under_way
    (same_pushed shown.rows q.key (Waiting (receive_seen v)) (λ i. i)) stays.place
    (transfers_of old new v q None h finds.message) (ap (λ (s : State). s.unexpected) qs))
    (after_grows_not links) tt refl stays.place)
    refl stays
    (given_nothing links known old.place (receive_frame v.route.named old v)
    (frame_of old new core v q None real finds.message))
  where
    stays : Stays old new
    stays = post_stays old new v q h

-- the messages that are left once one was found go on to be from their links, beside one more request
left_from_links : (links : Announcements) (old : CoreState) (known : List ℕ) (core : Core) (r : queued.PostedReceive)
    (one : Row) → (shown : IsShown links old known core) →
    AllByRecursion (λ (n : Message). IsFromLink links.from known old.place (shown.rows ++ one ∷ []) n n.body)
    (after_post old.queues r).unexpected
left_from_links links old known core r one shown =
    post_leaves (λ (n : Message). IsFromLink links.from known old.place (shown.rows ++ one ∷ []) n n.body) old.queues r
    (messages_keep links.from known old.place shown.rows (shown.rows ++ one ∷ []) old.queues.unexpected
    (keeps_pushed shown.rows one) shown.under_way.messages)

-- what is left of a rank and of its core where the oldest message that it accepts ended the receive
record IsEnded (links : Announcements) (old : CoreState) (core : Core) (v : RoutedReceive) (key : ℕ) (o : Outcome)
    (x : ends.Outcome) (earlier later : List Held) (e : CoreState) (left : Core) : Type 0 where
  entry : IsSet old.slots e.slots key (Some (record { serial = old.serial; progress = Finished o }))
  alike : x ≡ outcome_seen o
  jobs : left.jobs ≡ core.jobs ++ Over x ∷ []
  held : left.held ≡ earlier ++ later
  known : knows left ≡ knows core
  serial : e.serial ≡ old.serial + 1
  queues : e.queues ≡ after_post old.queues (posted_by key v)
  transfers : e.transfers ≡ old.transfers
  place : e.place ≡ old.place

-- both hold it
ended_holds : (links : Announcements) (old : CoreState) (known : List ℕ) (core : Core) (v : RoutedReceive) (key : ℕ)
    (m : Message) (o : Outcome) (x : ends.Outcome) (earlier later : List Held) (e : CoreState) (left : Core) →
    (shown : IsShown links old known core) →
    slot_at old.slots key ≡ None → Finds links.from old.queues v key m earlier later →
    IsEnded links old core v key o x earlier later e left →
    Holding links e known left (shown.rows ++ row_of key (Over x) ∷ [])
ended_holds links old known core v key m o x earlier later e left shown fresh finds h =
    holding_started links links old e known core left shown.rows key (Finished o) (Over x)
    (holding_of links old known core shown) fresh h.entry h.alike h.jobs h.serial
    (ap (λ (s : State). s.posted) h.queues ∙
    (finds.posted ∙ (shown.posted ∙ sym (append-nil (posted_rows shown.rows)))))
    (h.held ∙ sym (ap (λ (s : State). map (held_of links.from) s.unexpected) h.queues ∙ finds.unexpected))
    (under_way_still links known old.place e.place rows' rows' old.transfers e.transfers
    (after_post old.queues (posted_by key v)).unexpected e.queues.unexpected
    (under_way_with links known old.place shown.rows rows' old.transfers old.transfers old.queues.unexpected
    (after_post old.queues (posted_by key v)).unexpected shown.under_way
    (same_pushed shown.rows key (Over x) (λ i. i)) refl
    (left_from_links links old known core (posted_by key v) (row_of key (Over x)) shown))
    (same_rows rows') h.place h.transfers (ap (λ (s : State). s.unexpected) h.queues))
    (after_grows_not links) tt h.known h.place
  where
    rows' : List Row
    rows' = shown.rows ++ row_of key (Over x) ∷ []

-- the oldest message that it accepts is whole, and ends the receive
post_ends : (links : Announcements) (old new : CoreState) (known : List ℕ) (core : Core) (v : RoutedReceive)
    (q : Request)
    (m : Message) (c : Contents) (earlier later : List Held) → OutcomesAgree →
    IsShown links old known core → old.blocked ≡ None → receive_fault old v ≡ None → IsPosted old core v →
    IsPosting old v q new → Finds links.from old.queues v q.key (whole m c) earlier later →
    IsCalled links old known core (calls.Irecv v) (calls.Started q) new
post_ends links old new known core v q m c earlier later agree shown free fine real h finds =
    receive_started links old new known core v q after (shown.rows ++ row_of q.key (Over x) ∷
    []) shown free fine h.serial
    (core_posts links core old v (Some (earlier, held_of links.from (whole m c), later)) real shown.held finds.core)
    (ended_holds links old known core v q.key (whole m c) o x earlier later new after.core shown h.fresh finds (record {
      entry = entry_of old new v q (Some (whole m c)) h finds.message refl;
      alike = agree links.from (receive_seen v) (whole m c) c refl;
      jobs = refl;
      held = refl;
      known = refl;
      serial = serial_of old new v q h;
      queues = queues_of old new v q h;
      transfers = transfers_of old new v q (Some (whole m c)) h finds.message;
      place = stays.place;
    }))
    refl stays
    (given_nothing links known old.place (receive_frame v.route.named old v)
    (frame_of old new core v q (Some (whole m c)) real finds.message))
  where
    o : Outcome
    o = outcome_of (handed_of v.receive.into) (status_in v.group (status_of (whole m c))) c

    x : ends.Outcome
    x = ends.outcome (receive_seen v) (full (held_of links.from (whole m c)) c.values)

    after : Effect
    after = posted_at core (receive_seen v) (Some (earlier, held_of links.from (whole m c), later))

    stays : Stays old new
    stays = post_stays old new v q h

-- A MESSAGE OF THE RANK'S OWN THAT IS FOUND

-- the oldest message that it accepts is one of the rank's own whose send waits for its match: the receive has ended,
-- and so has the send
post_ends_own : (links : Announcements) (old new : CoreState) (known : List ℕ) (core : Core) (v : RoutedReceive)
    (q : Request) (m : Message) (own : OwnSend) (earlier later : List Held) → OwnOutcomesAgree → ClaimsOnce core →
    IsShown links old known core → old.blocked ≡ None → receive_fault old v ≡ None → IsPosted old core v →
    IsPosting old v q new → Finds links.from old.queues v q.key (own_as m own) earlier later →
    IsCalled links old known core (calls.Irecv v) (calls.Started q) new
post_ends_own links old new known core v q m own earlier later agree once shown free fine real h finds =
    receive_started links old new known core v q after (slice_set rows' own.serial (row_of own.key (Over ends.Sent)))
    shown free fine h.serial
    (core_posts links core old v (Some (earlier, held_of links.from (own_as m own), later)) real shown.held finds.core)
    (subst (λ (e : CoreState). Holding links e known after.core
    (slice_set rows' own.serial (row_of own.key (Over ends.Sent)))) (sym new_is)
    (own_ended links begun known left rows' own.serial own.key holding
    (keeps_pushed shown.rows (row_of q.key (Over x)) own.serial own.key (Unmatched old.place.endpoint) tt mine.row)
    (found_unclaimed core (receive_seen v) earlier (held_of links.from (own_as m own)) later own.serial
    own.elements.values (ap (found (receive_seen v)) shown.held ∙ finds.core) refl once)))
    refl (post_stays old new v q h)
    (given_nothing links known old.place (receive_frame v.route.named old v)
    (frame_of old new core v q (Some (own_as m own)) real finds.message))
  where
    o : Outcome
    o = outcome_of (handed_of v.receive.into) (status_in v.group (status_of (own_as m own))) own.elements

    x : ends.Outcome
    x = ends.outcome (receive_seen v) (full (held_of links.from (own_as m own)) own.elements.values)

    after : Effect
    after = posted_at core (receive_seen v) (Some (earlier, held_of links.from (own_as m own), later))

    rows' : List Row
    rows' = shown.rows ++ row_of q.key (Over x) ∷ []

    -- the rank and its core before the send is over
    begun : CoreState
    begun = record old {
      slots = h.started;
      serial = old.serial + 1;
      queues = after_post old.queues (posted_by q.key v);
      transfers = old.transfers;
    }

    left : Core
    left = record core { jobs = core.jobs ++ Over x ∷ []; held = earlier ++ later }

    new_is : new ≡ record begun { slots = after_answer h.started own.key }
    new_is = h.rest ∙ ap (λ (y : Option Message). record old {
      slots = own_key_sent (own_send_of y) h.started;
      serial = old.serial + 1;
      queues = after_post old.queues (posted_by q.key v);
      transfers = transfers_on_post old.place.message_limit old.transfers v.receive.into q.key y;
    }) finds.message

    mine : IsOwnOf old.place shown.rows (own_as m own) own
    mine = found_at (λ (n : Message). IsFromLink links.from known old.place shown.rows n n.body) old.queues.unexpected
        (message_for (posted_by q.key v) old.queues.unexpected) (own_as m own)
        shown.under_way.messages finds.message

    holding : Holding links begun known left rows'
    holding = ended_holds links old known core v q.key (own_as m own) o x earlier later begun left shown h.fresh finds
        (record {
          entry = entry_begun old new v q (Some (own_as m own)) h finds.message;
          alike = agree links.from (receive_seen v) (own_as m own) own refl;
          jobs = refl;
          held = refl;
          known = refl;
          serial = refl;
          queues = refl;
          transfers = refl;
          place = refl;
        })

-- AN ANNOUNCED MESSAGE THAT IS FOUND

-- the core, once it found the message
abbrev found_part : (links : Announcements) → Core → RoutedReceive → Message → Announcement →
    (earlier later : List Held) → Effect
found_part links core v m a earlier later =
    posted_at core (receive_seen v) (Some (earlier, held_of links.from (announced_as m a), later))

-- the rows, with the request that it leaves
abbrev found_rows : (links : Announcements) → List Row → (key : ℕ) → RoutedReceive → Message → Announcement → List Row
found_rows links rows key v m a = rows ++ row_of key (left_by links.from (receive_seen v) m a) ∷ []

-- the transfers, with what is collected if it is wanted
abbrev found_transfers : MessageLimit → transfers.State → (key : ℕ) → RoutedReceive → Message → Announcement →
    transfers.State
found_transfers limit t key v m a =
    transfers_with t (collection_on_match limit (has_room v.receive.into a.basic a.count) (announced_as m a)
    (Announced a)
    key)

-- it is from its link
found_part_of : (links : Announcements) (old : CoreState) (known : List ℕ) (core : Core) (v : RoutedReceive) (key : ℕ)
    (m : Message) (a : Announcement) (earlier later : List Held) → IsShown links old known core →
    Finds links.from old.queues v key (announced_as m a) earlier later →
    IsPartOf links.from known old.place (announced_as m a) a
found_part_of links old known core v key m a earlier later shown finds =
    found_at (λ (n : Message). IsFromLink links.from known old.place shown.rows n n.body) old.queues.unexpected
    (message_for (posted_by key v) old.queues.unexpected) (announced_as m a)
    shown.under_way.messages finds.message

-- both want it alike, and are left by it alike
found_alike : AnnouncementsAgree →
    (links : Announcements) (old : CoreState) (v : RoutedReceive) (key : ℕ) (m : Message) (a : Announcement)
    (earlier later : List Held) →
    Finds links.from old.queues v key (announced_as m a) earlier later →
    AnnouncedAlike links.from (receive_seen v) (waiting_by v) (announced_as m a) a
found_alike agree links old v key m a earlier later finds =
    agree links.from (receive_seen v) (waiting_by v) (announced_as m a) a refl (record { into = refl; group = refl })
    finds.accepts

-- what is under way then
found_under_way : (links : Announcements) (old : CoreState) (known : List ℕ) (core : Core) (v : RoutedReceive) (key : ℕ)
    (m : Message) (a : Announcement) → (shown : IsShown links old known core) →
    slot_at old.slots key ≡ None → IsPartOf links.from known old.place (announced_as m a) a →
    AnnouncedAlike links.from (receive_seen v) (waiting_by v) (announced_as m a) a →
    AreUnderWay links known old.place (found_rows links shown.rows key v m a)
    (found_transfers old.place.message_limit old.transfers key v m a)
    (after_post old.queues (posted_by key v)).unexpected
found_under_way links old known core v key m a shown fresh part alike =
    subst (λ (b : Bool). AreUnderWay links known old.place (found_rows links shown.rows key v m a)
    (transfers_with old.transfers (collection_on_match old.place.message_limit b (announced_as m a) (Announced a) key))
    (after_post old.queues (posted_by key v)).unexpected)
    alike.wanted
    (matched_under_way links known old.place shown.rows (found_rows links shown.rows key v m a) old.transfers
    old.queues.unexpected (after_post old.queues (posted_by key v)).unexpected (announced_as m a) a
    (length shown.rows) key (receive_seen v) (receives.has_room (receive_seen v) a.basic a.count) shown.under_way part
    (written_pushed shown.rows key (left_by links.from (receive_seen v) m a))
    (collections_elsewhere old.slots shown.rows links.from known key old.transfers.collections shown.table fresh
    shown.under_way.collections)
    (left_from_links links old known core (posted_by key v) (row_of key (left_by links.from (receive_seen v) m a))
    shown))

-- what both hold then
found_holds : (links : Announcements) (old new : CoreState) (known : List ℕ) (core : Core) (v : RoutedReceive)
    (q : Request) (m : Message) (a : Announcement) (earlier later : List Held) →
    (shown : IsShown links old known core) →
    IsPosting old v q new → Finds links.from old.queues v q.key (announced_as m a) earlier later →
    IsPartOf links.from known old.place (announced_as m a) a →
    AnnouncedAlike links.from (receive_seen v) (waiting_by v) (announced_as m a) a →
    Holding links new known (found_part links core v m a earlier later).core
    (found_rows links shown.rows q.key v m a)
found_holds links old new known core v q m a earlier later shown h finds part alike =
    let qs : new.queues ≡ after_post old.queues (posted_by q.key v) = queues_of old new v q h in
    let rows' : List Row = found_rows links shown.rows q.key v m a in
    let waits_not : posted_job q.key (left_by links.from (receive_seen v) m a) ≡ [] =
    left_waits q.key (receive_seen v) (held_of links.from (announced_as m a)) a.count
    (receives.has_room (receive_seen v) a.basic a.count) in
    holding_started links links old new known core (found_part links core v m a earlier later).core shown.rows q.key
    (matched_progress v.receive.into (status_in v.group (status_of (announced_as m a))) a.basic)
    (left_by links.from (receive_seen v) m a) (holding_of links old known core shown) h.fresh
    (entry_of old new v q (Some (announced_as m a)) h finds.message refl) alike.fits refl (serial_of old new v q h)
    (ap (λ (s : State). s.posted) qs ∙
    (finds.posted ∙
    (shown.posted ∙
    (sym (append-nil (posted_rows shown.rows)) ∙
    ap (λ (ps : List queued.PostedReceive). posted_rows shown.rows ++ ps) (sym waits_not)))))
    (sym (ap (λ (s : State). map (held_of links.from) s.unexpected) qs ∙ finds.unexpected))
    (under_way_still links known old.place new.place rows' rows'
    (found_transfers old.place.message_limit old.transfers q.key v m a)
    new.transfers (after_post old.queues (posted_by q.key v)).unexpected new.queues.unexpected
    (found_under_way links old known core v q.key m a shown h.fresh part alike) (same_rows rows')
    (post_stays old new v q h).place
    (transfers_of old new v q (Some (announced_as m a)) h finds.message) (ap (λ (s : State). s.unexpected) qs))
    (after_grows_not links)
    (untaken links.from known old.place rows' old.serial
    (matched_progress v.receive.into (status_in v.group (status_of (announced_as m a))) a.basic)
    (left_by links.from (receive_seen v) m a) alike.fits
    (left_untaken (receive_seen v) (held_of links.from (announced_as m a)) a.count
    (receives.has_room (receive_seen v) a.basic a.count)))
    refl (post_stays old new v q h).place

-- what is answered to its sender
found_given : (links : Announcements) (old : CoreState) (known : List ℕ) (core : Core) (v : RoutedReceive) (m : Message)
    (a : Announcement) (earlier later : List Held) → IsPartOf links.from known old.place (announced_as m a) a →
    AnnouncedAlike links.from (receive_seen v) (waiting_by v) (announced_as m a) a →
    IsGiven links known old.place (answer_on_post v.receive.into (Some (announced_as m a)))
    (found_part links core v m a earlier later).out
found_given links old known core v m a earlier later part alike =
    record {
      quiet = answer_quiet (receive_seen v) (held_of links.from (announced_as m a))
          (held_of links.from (announced_as m a)).body;
      sends = answer_sent links (after_out links (found_part links core v m a earlier later).out).to known old.place
          (receive_seen v) (announced_as m a) a (has_room v.receive.into a.basic a.count) part alike.wanted;
      leaves = answer_leaves links.from known old.place (announced_as m a) a (has_room v.receive.into a.basic a.count)
          part;
    }

-- the oldest message that it accepts was announced: it is collected from then on, or used up
post_matches : (links : Announcements) (old new : CoreState) (known : List ℕ) (core : Core) (v : RoutedReceive)
    (q : Request) (m : Message) (a : Announcement) (earlier later : List Held) → AnnouncementsAgree →
    IsShown links old known core → old.blocked ≡ None → receive_fault old v ≡ None → IsPosted old core v →
    IsPosting old v q new → Finds links.from old.queues v q.key (announced_as m a) earlier later →
    IsCalled links old known core (calls.Irecv v) (calls.Started q) new
post_matches links old new known core v q m a earlier later agree shown free fine real h finds =
    let part : IsPartOf links.from known old.place (announced_as m a) a = found_part_of links old known core v q.key m a earlier later shown finds in
    let alike : AnnouncedAlike links.from (receive_seen v) (waiting_by v) (announced_as m a) a = found_alike agree links old v q.key m a earlier later finds in
    receive_started links old new known core v q (found_part links core v m a earlier later)
    (found_rows links shown.rows q.key v m a) shown free fine h.serial
    (core_posts links core old v (Some (earlier, held_of links.from (announced_as m a), later)) real shown.held
    finds.core)
    (found_holds links old new known core v q m a earlier later shown h finds part alike) refl
    (post_stays old new v q h)
    (subst (λ (f : Option OutgoingText). IsGiven links known old.place f
    (found_part links core v m a earlier later).out)
    (sym (frame_of old new core v q (Some (announced_as m a)) real finds.message))
    (found_given links old known core v m a earlier later part alike))

-- WHATEVER IS FOUND

-- a receive that is posted, by whether a message waits that it accepts
posting_shown : PostsMatch → OutcomesAgree → OwnOutcomesAgree → AnnouncementsAgree →
    (links : Announcements) (old new : CoreState) (known : List ℕ) (core : Core) (v : RoutedReceive) (q : Request) →
    IsShown links old known core → ClaimsOnce core →
    old.blocked ≡ None → receive_fault old v ≡ None → IsPosted old core v → IsPosting old v q new →
    IsCalled links old known core (calls.Irecv v) (calls.Started q) new
posting_shown match agree own alike links old new known core v q shown once free fine real h =
    go (match links.from old.queues v q.key)
  where
    by_body_of : (m : Message) (earlier later : List Held) → Finds links.from old.queues v q.key m earlier later →
        ((c : Contents) × (m ≡ whole m c)) ⊎
        (((a : Announcement) × (m ≡ announced_as m a)) ⊎ ((o : OwnSend) × (m ≡ own_as m o))) →
        IsCalled links old known core (calls.Irecv v) (calls.Started q) new
    by_body_of m earlier later finds (inl w) =
        post_ends links old new known core v q m w.0 earlier later agree shown free fine real h
        (subst (λ (n : Message). Finds links.from old.queues v q.key n earlier later) w.1 finds)
    by_body_of m earlier later finds (inr (inl w)) =
        post_matches links old new known core v q m w.0 earlier later alike shown free fine real h
        (subst (λ (n : Message). Finds links.from old.queues v q.key n earlier later) w.1 finds)
    by_body_of m earlier later finds (inr (inr w)) =
        post_ends_own links old new known core v q m w.0 earlier later own once shown free fine real h
        (subst (λ (n : Message). Finds links.from old.queues v q.key n earlier later) w.1 finds)

    go : FindsNone links.from old.queues v q.key ⊎
        ((m : Message) × (earlier : List Held) ×
        (later : List Held) × Finds links.from old.queues v q.key m earlier later) →
        IsCalled links old known core (calls.Irecv v) (calls.Started q) new
    go (inl finds) = post_waits links old new known core v q shown free fine real h finds
    go (inr t) = by_body_of t.0 t.1 t.2 t.3 (by_body t.0)

-- a receive from the null process is over at once, and its buffer is as it was
nothing_shown : (links : Announcements) (old new : CoreState) (known : List ℕ) (core : Core) (v : RoutedReceive)
    (q : Request) → IsShown links old known core → old.blocked ≡ None →
    receive_fault old v ≡ None → v.route.named ≡ sources.Null → IsReceivingNothing old v q new →
    IsCalled links old known core (calls.Irecv v) (calls.Started q) new
nothing_shown links old new known core v q shown free fine null h =
    receive_started links old new known core v q after (shown.rows ++ row_of q.key (Over x) ∷
    []) shown free fine h.serial
    (ap (λ (s : Source). matching.receives core (receive_seen v) s) null)
    (holding_started links links old new known core after.core shown.rows q.key
    (Finished (outcomes.Received ends.null_status v.receive.into.buffer)) (Over x)
    (holding_of links old known core shown) h.fresh h.entry
    (ap (λ (b : Contents). ends.Received ends.null_status b) (handed_buffer v.receive.into)) refl
    (ap (λ (e : CoreState). e.serial) h.rest)
    (ap (λ (e : CoreState). e.queues.posted) h.rest ∙ (shown.posted ∙ sym (append-nil (posted_rows shown.rows))))
    (shown.held ∙ ap (λ (e : CoreState). map (held_of links.from) e.queues.unexpected) (sym h.rest))
    (under_way_still links known old.place new.place shown.rows (shown.rows ++ row_of q.key (Over x) ∷
    []) old.transfers new.transfers old.queues.unexpected new.queues.unexpected shown.under_way
    (same_pushed shown.rows q.key (Over x) (λ i. i)) stays.place (ap (λ (e : CoreState). e.transfers) h.rest)
    (ap (λ (e : CoreState). e.queues.unexpected) h.rest))
    (after_grows_not links) tt refl stays.place)
    refl stays
    (given_nothing links known old.place (receive_frame v.route.named old v)
    (ap (λ (s : Source). receive_frame s old v) null))
  where
    x : ends.Outcome
    x = ends.Received ends.null_status (handed_of v.receive.into).buffer

    after : Effect
    after = matching.receives core (receive_seen v) sources.Null

    stays : Stays old new
    stays = record {
      place = ap (λ (e : CoreState). e.place) h.rest;
      completion =
          ap (λ (e : CoreState). e.completion) h.rest;
      blocked = ap (λ (e : CoreState). e.blocked) h.rest;
    }

-- a receive that meets no rule, by whom it names
pub post_shown : PostsMatch → OutcomesAgree → OwnOutcomesAgree → AnnouncementsAgree →
    (links : Announcements) (old new : CoreState) (known : List ℕ) (core : Core) (v : RoutedReceive) (q : Request) →
    IsShown links old known core → ClaimsOnce core →
    old.blocked ≡ None → receive_fault old v ≡ None → IsReceiving old v q new →
    IsCalled links old known core (calls.Irecv v) (calls.Started q) new
post_shown match agree own alike links old new known core v q shown once free fine h = go v.route.named refl h
  where
    go : (s : Source) → v.route.named ≡ s → ReceivesFrom s old v q new →
        IsCalled links old known core (calls.Irecv v) (calls.Started q) new
    go sources.Any is g =
        posting_shown match agree own alike links old new known core v q shown once free fine
        (record {
          core_is = ap (λ (s : Source). matching.receives core (receive_seen v) s) is;
          frame_is =
              ap (λ (s : Source). receive_frame s old v) is;
        }) g
    go (sources.Rank r) is g =
        posting_shown match agree own alike links old new known core v q shown once free fine
        (record {
          core_is = ap (λ (s : Source). matching.receives core (receive_seen v) s) is;
          frame_is =
              ap (λ (s : Source). receive_frame s old v) is;
        }) g
    go sources.Null is g = nothing_shown links old new known core v q shown free fine is g
