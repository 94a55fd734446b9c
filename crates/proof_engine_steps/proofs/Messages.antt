-- The receive of a message that was taken out is that of the core in the network.
use Rattle.std.proofs.Common.{◌≡◌, ℕ, Bool, true, false, ◌&&◌, List, [], ◌∷◌, Option, Some, None, is_some}
use Rattle.std.proofs.Common.{if◌then◌else◌, ◌==◌, slice_get, slice_set, refl, sym, ap, ap₂, ◌∙◌, subst, ◌⊎◌, inl, inr}
use Rattle.std.proofs.lemmas.Bool.{and_from, eq-eqb, eqb-true}
use Rattle.std.proofs.lemmas.Option.{same_Some}
use Rattle.datagram.specs.Spellings.{OutgoingText}
use Rattle.vocabulary.specs.declared.endpoint.Endpoint.{Endpoint}
use Rattle.vocabulary.specs.declared.envelope.Source.TheVariants as sources
use Rattle.incarnation.specs.declared.place.Place.{Place}
use Rattle.datatypes.specs.Contents.{Contents}
use Rattle.proof_pure_network.proofs.JobLemmas.{get_set_same}
use Rattle.perfect_queues.specs.Calls as machine
use Rattle.perfect_queues.specs.Completions as completions
use Rattle.perfect_queues.specs.Completions.{Answer}
use Rattle.perfect_queues.specs.Events.{Called, Completed, Entry, Restarted, told}
use Rattle.perfect_queues.specs.Outcomes as ends
use Rattle.perfect_queues.specs.Receives as receives
use Rattle.perfect_queues.specs.Requests.{changed}
use Rattle.match_queues.specs.declared.envelope.Announcement.{Announcement}
use Rattle.match_queues.specs.declared.envelope.Body.TheVariants as bodies
use Rattle.match_queues.specs.declared.envelope.Message.{Message}
use Rattle.match_queues.specs.declared.envelope.OwnSend.{OwnSend}
use Rattle.rendezvous.specs.State as transfers
use Rattle.requests.specs.Outcomes.{outcome_of}
use Rattle.requests.specs.Regions.{handed_of}
use Rattle.requests.specs.Table as table
use Rattle.requests.specs.Table.{has_room, is_message, matched_progress, message_in, progress_at, progress_of, slot_at}
use Rattle.requests.specs.Table.{slot_received}
use Rattle.requests.specs.declared.awaited_requests.Awaited.TheVariants as awaiteds
use Rattle.requests.specs.declared.answer.Answer.TheVariants as answers
use Rattle.requests.specs.declared.outcome.Outcome.TheVariants as outcomes
use Rattle.requests.specs.declared.region.Region.{Region}
use Rattle.requests.specs.declared.table.TableEntry as entries
use Rattle.requests.specs.declared.table.RequestProgress.{RequestProgress}
use Rattle.requests.specs.declared.table.RequestProgress.TheVariants.{Finished, Receiving}
use Rattle.requests.specs.declared.table.RequestProgress.TheVariants as progresses
use Rattle.requests.specs.declared.table.Request.{Request}
use Rattle.communicator_members.specs.Statuses.{status_in}
use Rattle.point_to_point_calls.specs.CoreCalls as calls
use Rattle.point_to_point_calls.specs.declared.call.RoutedReceive.{RoutedReceive}
use Rattle.point_to_point_calls.specs.CoreCalls.{CoreReply}
use Rattle.point_to_point_calls.specs.declared.refusal.Refusal.{Refusal}
use Rattle.point_to_point_calls.specs.declared.refusal.Refusal.TheVariants as refusals
use Rattle.point_to_point_calls.specs.Frames.{as_list}
use Rattle.point_to_point_calls.specs.FrameNews.{first_of}
use Rattle.point_to_point_calls.specs.ReceiveMatches.{answer_on_post, collection_on_match, status_of, transfers_on_post}
use Rattle.point_to_point_calls.specs.ReceiveMatches.{transfers_with, waiting_by}
use Rattle.point_to_point.specs.Calls.{free_fault}
use Rattle.point_to_point.specs.CoreState.{CoreState}
use Rattle.point_to_point.specs.Messages.{Receives, message_fault, message_frame, own_key_sent, own_send_of, received}
use Rattle.point_to_point.specs.Messages.{region_rule}
use Rattle.point_to_point.specs.Completions.{Waits}
use Rattle.proof_pure_network.specs.Claims.{ClaimsOnce}
use Rattle.proof_pure_network.specs.Core.{Core, Effect, effect, view, with_jobs}
use Rattle.proof_pure_network.specs.Engine.{called, core_ready, core_settled}
use Rattle.proof_pure_network.specs.Frames.{Frame}
use Rattle.proof_pure_network.specs.WaitingMessages.{Held, blank, fits, full}
use Rattle.proof_pure_network.specs.Jobs.{Job, Over, Probed, Unmatched, matched_part}
use Rattle.proof_pure_network.specs.Matches.{answer, awaits, matched_own, taken_at}
use Rattle.proof_engine_view.specs.Faults.{queue_fault}
use Rattle.proof_engine_view.specs.Rows.{Row, held_of}
use Rattle.observation.specs.CoreCalls.{receive_seen}
use Rattle.proof_engine_view.specs.CoreViews.{IsShown}
use Rattle.proof_engine_view.specs.FrameViews.{AreSent, all_gone}
use Rattle.proof_engine_view.specs.Transfers.{Announcements, Transfer, after_out}
use Rattle.proof_engine_view.specs.UnderWay.{AreUnderWay, IsFromLink, IsTakenAt}
use Rattle.proof_engine_matching.specs.Matches.{AnnouncedAlike, AnnouncementsAgree, OutcomesAgree, OwnOutcomesAgree}
use Rattle.proof_engine_steps.specs.Steps.{IsCalled}
use Rattle.proof_engine_steps.proofs.ClearToSend.{answer_leaves, answer_quiet, answer_sent}
use Rattle.proof_engine_steps.proofs.TableRows as found
use Rattle.proof_engine_steps.proofs.MatchedRows.{left_by}
use Rattle.proof_engine_steps.proofs.CallMeanings.{IsMeant, meant_called, told_by}
use Rattle.proof_engine_steps.proofs.OwnSendEnds.{own_ended, received_unclaimed}
use Rattle.proof_engine_steps.proofs.Posts.{IsGiven, given_nothing}
use Rattle.proof_engine_steps.proofs.Regions.{handed_buffer}
use Rattle.proof_engine_steps.proofs.RowLemmas.{job_at}
use Rattle.proof_engine_steps.proofs.BlockedAnswers.{settled_free, settled_is}
use Rattle.proof_engine_steps.proofs.RequestStarts.{core_free, holding_of, shown_free}
use Rattle.proof_engine_steps.proofs.UnchangedTransfers.{shown_quiet}
use Rattle.proof_engine_steps.proofs.TakenRows.{IsUnmatched, forth_set}
use Rattle.proof_engine_steps.proofs.UnderWay.{row_of}
use Rattle.proof_engine_steps.proofs.Waits.{wait_meant}
use Rattle.proof_engine_steps.proofs.BlockedRanks.{Holding}
use Rattle.proof_engine_steps.proofs.Wholes.{announced_as, by_body, own_as, whole}
use Rattle.proof_engine_steps.proofs.ReceivedRows.{IsReceived, over_under_way, part_under_way, received_holds}
use Rattle.proof_engine_steps.proofs.ReceivedRows.{received_part, received_there, wait_free, with_progress}
use Rattle.proof_engine_steps.proofs.RefusedProbes.{message_without_fault}

-- ---- THE MESSAGE

-- The table holds a message that was taken out under the request, and so do the rows; or it did, and its sender was
-- replaced
pub record HoldsMessage (links : Announcements) (old : CoreState) (known : List ℕ) (rows : List Row) (q : Request)
    (g : Option (List ℕ)) (m : Message) : Type 0 where
  pub there : slot_at old.slots q.key ≡
      Some (record { serial = q.serial; progress = progresses.TakenOut (record { group = g; message = Some m }) })
  pub row : slice_get rows q.serial ≡ Some (row_of q.key (Probed g (Some (held_of links.from m))))
  pub from_link : IsFromLink links.from known old.place rows m m.body

pub record HoldsNone (old : CoreState) (rows : List Row) (q : Request) (g : Option (List ℕ)) : Type 0 where
  pub there : slot_at old.slots q.key ≡
      Some (record { serial = q.serial; progress = progresses.TakenOut (record { group = g; message = None }) })
  pub row : slice_get rows q.serial ≡ Some (row_of q.key (Probed g None))

-- one of both
abbrev pub HoldsEither : Announcements → CoreState → List ℕ → List Row → Request → Type 0
HoldsEither links old known rows q =
    ((g : Option (List ℕ)) × HoldsNone old rows q g) ⊎
    ((g : Option (List ℕ)) × (m : Message) × HoldsMessage links old known rows q g m)

-- so it is where the request is a message's
entry_held : (links : Announcements) (old : CoreState) (known : List ℕ) (core : Core) (q : Request)
    (group : Option (List ℕ)) (o : Option Message) → (shown : IsShown links old known core) →
    slot_at old.slots q.key ≡
    Some (record { serial = q.serial; progress = progresses.TakenOut (record { group = group; message = o }) }) →
    HoldsEither links old known shown.rows q
entry_held links old known core q group None shown at =
    let r : found.HasRow shown.rows q.serial q.key (progresses.TakenOut (record { group = group; message = None })) = found.row_of old.slots shown.rows q.serial q.key (progresses.TakenOut (record { group = group; message = None })) shown.table
    (ap (λ (s : Option entries.TableEntry). progress_of s q.serial) at ∙
    ap (λ (b : Bool). if b then Some (progresses.TakenOut (record { group = group; message = None })) else None)
    (eq-eqb q.serial q.serial refl)) in
    let h : found.HoldsMessage (record { group = group; message = None }) r.job = found.probed_of (record { group = group; message = None }) r.job r.fits in
    inl (
      group,
      record {
        there = at;
        row = r.there ∙
            (ap (λ (j : Job). Some (row_of q.key j)) h.is ∙
            ap (λ (x : Option Held). Some (row_of q.key (Probed group x))) (none_of h.message h.there));
      },
    )
  where
    none_of : (x : Option Held) → is_some x ≡ false → x ≡ None
    none_of None e = refl
    none_of (Some h) e = absurd cc
entry_held links old known core q group (Some m) shown at =
    let r : found.HasRow shown.rows q.serial q.key (progresses.TakenOut (record { group = group; message = Some m })) = found.row_of old.slots shown.rows q.serial q.key (progresses.TakenOut (record { group = group; message = Some m })) shown.table
    (ap (λ (s : Option entries.TableEntry). progress_of s q.serial) at ∙
    ap (λ (b : Bool). if b then Some (progresses.TakenOut (record { group = group; message = Some m })) else None)
    (eq-eqb q.serial q.serial refl)) in
    let t : IsTakenAt links.from known old.place shown.rows (Some (record { serial = q.serial; progress = progresses.TakenOut (record { group = group; message = Some m }) })) =
    subst (IsTakenAt links.from known old.place shown.rows) at (shown.taken q.key) in
    let same : row_of q.key r.job ≡ row_of t.key (Probed group (Some (held_of links.from m))) = same_Some (row_of q.key r.job) (row_of t.key (Probed group (Some (held_of links.from m)))) (sym r.there ∙ t.row) in
    inr (
      group,
      m,
      record {
        there = at;
        row = r.there ∙ ap (λ (j : Job). Some (row_of q.key j)) (ap (λ (x : Row). x.job) same);
        from_link = t.from_link;
      },
    )

-- a request that is a message's
message_held : (links : Announcements) (old : CoreState) (known : List ℕ) (core : Core) (q : Request) →
    (shown : IsShown links old known core) → message_fault old (Some q) ≡ None →
    HoldsEither links old known shown.rows q
message_held links old known core q shown fine =
    by_slot (slot_at old.slots q.key) refl (is_one (is_message (progress_at old.slots q.key q.serial)) fine)
  where
    is_one : (b : Bool) → (if b then None else Some refusals.Request) ≡ None → b ≡ true
    is_one true h = refl
    is_one false h = absurd cc

    by_progress : (e : entries.TableEntry) (g : RequestProgress) →
        slot_at old.slots q.key ≡ Some (record { serial = e.serial; progress = g }) → e.serial ≡ q.serial →
        is_message (Some g) ≡ true → HoldsEither links old known shown.rows q
    by_progress e (Receiving w) at s h = absurd cc
    by_progress e (progresses.Collecting w) at s h = absurd cc
    by_progress e progresses.Offering at s h = absurd cc
    by_progress e (progresses.TakenOut t) at s h =
        entry_held links old known core q t.group t.message shown
        (at ∙ ap (λ (n : ℕ). Some (record { serial = n; progress = progresses.TakenOut t })) s)
    by_progress e (Finished o) at s h = absurd cc

    by_serial : (e : entries.TableEntry) → slot_at old.slots q.key ≡ Some e → (b : Bool) → (e.serial == q.serial) ≡ b →
        is_message (if b then Some e.progress else None) ≡ true → HoldsEither links old known shown.rows q
    by_serial e at true s h = by_progress e e.progress at (eqb-true e.serial q.serial s) h
    by_serial e at false s h = absurd cc

    by_slot : (s : Option entries.TableEntry) → slot_at old.slots q.key ≡ s →
        is_message (progress_at old.slots q.key q.serial) ≡ true → HoldsEither links old known shown.rows q
    by_slot None at h = let wrong : false ≡ true = sym (ap (λ (s : Option entries.TableEntry). is_message (progress_of s q.serial)) at) ∙ h in absurd cc
    by_slot (Some e) at h =
        by_serial e at (e.serial == q.serial) refl
        (sym (ap (λ (s : Option entries.TableEntry). is_message (progress_of s q.serial)) at) ∙ h)

-- ---- THE CALL

-- what the receive makes of the rank and of its core, before the rank waits for it
record IsReceivedSo (links : Announcements) (old : CoreState) (known : List ℕ) (core : Core) (q : Request)
    (into : Region) : Type 0 where
  after : CoreState
  core_after : Core
  rows : List Row
  out : List (Endpoint × Frame)
  job : Job
  rank_is : received old q into ≡ after
  core_is : taken_at core q.serial (handed_of into) (slice_get core.jobs q.serial) ≡
      effect (awaits core_after q.serial) out
  holding : Holding links after known core_after rows
  row : slice_get rows q.serial ≡ Some (row_of q.key job)
  is : IsReceived job
  place : after.place ≡ old.place
  completion : after.completion ≡ old.completion
  blocked : after.blocked ≡ old.blocked
  core_blocked : core_after.blocked ≡ core.blocked
  given : IsGiven links known old.place (message_frame old (Some q) into) out

-- what is seen, with this call in place of the one that is seen
abbrev renamed : machine.Call → List Entry → List Entry
renamed c [] = []
renamed c (Called e d r ∷ es) = Called e c r ∷ renamed c es
renamed c (Completed e a ∷ es) = Completed e a ∷ renamed c es
renamed c (Restarted r ∷ es) = Restarted r ∷ renamed c es

-- where one call is told so, the other is
told_as : (e : Endpoint) (c d : machine.Call) (o : Option (Answer × List ℕ)) (reply : CoreReply) →
    told e (Some (c, None)) o ≡ told_by e c reply → told e (Some (d, None)) o ≡ told_by e d reply
told_as e c d o reply h = sym (by_answer o) ∙ (ap (renamed d) h ∙ by_reply reply)
  where
    by_answer : (x : Option (Answer × List ℕ)) → renamed d (told e (Some (c, None)) x) ≡ told e (Some (d, None)) x
    by_answer None = refl
    by_answer (Some t) = refl

    by_reply : (x : CoreReply) → renamed d (told_by e c x) ≡ told_by e d x
    by_reply (calls.Started q) = refl
    by_reply (calls.Done a) = refl
    by_reply calls.Pending = refl
    by_reply calls.Accepted = refl
    by_reply (calls.Matched found) = refl
    by_reply calls.Blocked = refl
    by_reply (calls.Refused why back) = refl

-- such a receive is that of the core
received_called : (links : Announcements) (old new : CoreState) (known : List ℕ) (core : Core) (q : Request)
    (into : Region) (reply : CoreReply) → IsShown links old known core → old.blocked ≡ None →
    queue_fault old.place (view blank core) (machine.Mrecv (Some q.serial) (handed_of into)) ≡ None →
    IsReceivedSo links old known core q into → Receives old (Some q) into reply new →
    IsCalled links old known core (calls.Mrecv (Some q) into) reply new
received_called links old new known core q into reply shown free fit so done =
    record {
      fit = fit;
      place = meant.place ∙ so.place;
      completion = meant.completion ∙ so.completion;
      shown = subst (λ (f : Effect). IsShown (after_out links f.out) new known (core_settled f.core)) (sym so.core_is)
          (shown_quiet links new known (core_settled (awaits so.core_after q.serial)) so.out so.given.quiet
          meant.shown);
      settled = settled_is (called old.place.endpoint core c).core;
      sends = subst
          (λ (f : Effect). AreSent (after_out links f.out) (all_gone known (as_list (message_frame old (Some q) into)))
          f.out) (sym so.core_is) so.given.sends;
      leaves = so.given.leaves;
      tells = ap (λ (f : Effect). told old.place.endpoint (Some (c, None)) (core_ready f.core)) so.core_is
          ∙ told_as old.place.endpoint (machine.Wait (completions.One (Some q.serial))) c
          (core_ready (awaits so.core_after q.serial)) reply
          (subst (λ (p : Place). told p.endpoint (Some (machine.Wait (completions.One (Some q.serial)), None))
          (core_ready (awaits so.core_after q.serial)) ≡
          told_by p.endpoint (machine.Wait (completions.One (Some q.serial))) reply)
          so.place meant.tells);
    }
  where
    c : machine.Call
    c = machine.Mrecv (Some q.serial) (handed_of into)

    -- what it waits for
    meant : IsMeant links so.after known so.core_after (machine.Wait (completions.One (Some q.serial))) reply new
    meant =
        wait_meant links so.after new known so.core_after (awaiteds.One (Some q)) reply
        (shown_free links so.after known so.core_after so.rows so.holding (so.blocked ∙ free)
        (so.core_blocked ∙ core_free links old known core shown free)) (so.blocked ∙ free)
        (wait_free so.after q
        (received_there so.after.slots so.rows q.serial q.key so.job so.holding.table so.row so.is))
        (subst (λ (x : CoreState). Waits x (awaiteds.One (Some q)) reply new) so.rank_is done)

-- ---- WHAT IS RECEIVED

-- the rank once a message with this group is received, or none
abbrev left_with : CoreState → Request → Region → Option (List ℕ) → Option Message → CoreState
left_with old q into g o = record old {
  slots = own_key_sent (own_send_of o)
      (slice_set old.slots q.key (Some (record { serial = q.serial; progress = table.progress_of_message g o into })));
  transfers = transfers_on_post old.place.message_limit old.transfers into q.key o;
}

-- what stands there, as the progress of the request
progress_held : (old : CoreState) (q : Request) (g : Option (List ℕ)) (o : Option Message) →
    slot_at old.slots q.key ≡
    Some (record { serial = q.serial; progress = progresses.TakenOut (record { group = g; message = o }) }) →
    progress_at old.slots q.key q.serial ≡ Some (progresses.TakenOut (record { group = g; message = o }))
progress_held old q g o at =
    ap (λ (s : Option entries.TableEntry). progress_of s q.serial) at ∙
    ap (λ (b : Bool). if b then Some (progresses.TakenOut (record { group = g; message = o })) else None)
    (eq-eqb q.serial q.serial refl)

received_is : (old : CoreState) (q : Request) (into : Region) (g : Option (List ℕ)) (o : Option Message) →
    slot_at old.slots q.key ≡
    Some (record { serial = q.serial; progress = progresses.TakenOut (record { group = g; message = o }) }) →
    received old q into ≡ left_with old q into g o
received_is old q into g o at =
    ap₂ (λ (p : Option RequestProgress) (s : Option entries.TableEntry). record old {
      slots = own_key_sent (own_send_of (message_in p)) (slot_received s old.slots q.key into);
      transfers = transfers_on_post old.place.message_limit old.transfers into q.key (message_in p);
    }) (progress_held old q g o at) at

-- and the frame that answers it
frame_is : (old : CoreState) (q : Request) (into : Region) (g : Option (List ℕ)) (o : Option Message) →
    slot_at old.slots q.key ≡
    Some (record { serial = q.serial; progress = progresses.TakenOut (record { group = g; message = o }) }) →
    message_frame old (Some q) into ≡ answer_on_post into o
frame_is old q into g o at =
    ap (λ (p : Option RequestProgress). answer_on_post into (message_in p)) (progress_held old q g o at)

-- what the core holds under it
job_held : (links : Announcements) (old : CoreState) (known : List ℕ) (core : Core) (q : Request) (j : Job) →
    (shown : IsShown links old known core) → slice_get shown.rows q.serial ≡ Some (row_of q.key j) →
    slice_get core.jobs q.serial ≡ Some j
job_held links old known core q j shown at = ap (λ (js : List Job). slice_get js q.serial) shown.jobs ∙
    job_at shown.rows q.serial q.key j at

-- a row that was changed
row_set : (rows : List Row) (q : Request) (j job : Job) → slice_get rows q.serial ≡ Some (row_of q.key j) →
    slice_get (slice_set rows q.serial (row_of q.key job)) q.serial ≡ Some (row_of q.key job)
row_set rows q j job at = get_set_same rows q.serial (row_of q.key j) (row_of q.key job) at

-- the receive of the message, by its own envelope
abbrev receive_by : Option (List ℕ) → Message → Region → RoutedReceive
receive_by g m into = record {
  route = record { named = sources.Rank m.sender.rank; context = m.context };
  group = g;
  receive = record { comm = None; source = sources.Rank m.sender.rank; tag = Some m.tag; into = into };
}

-- it accepts the message
accepts_own : (from : Endpoint → List Transfer) (g : Option (List ℕ)) (m : Message) (into : Region) →
    fits (receive_seen (receive_by g m into)) (held_of from m) ≡ true
accepts_own from g m into =
    and_from (m.context == m.context) ((m.sender.rank == m.sender.rank) && (m.tag == m.tag))
    (eq-eqb m.context m.context refl)
    (and_from (m.sender.rank == m.sender.rank) (m.tag == m.tag) (eq-eqb m.sender.rank m.sender.rank refl)
    (eq-eqb m.tag m.tag refl))

-- one whose sender was replaced: it ends at once, its buffer as it was
received_none : (links : Announcements) (old : CoreState) (known : List ℕ) (core : Core) (q : Request) (into : Region)
    (g : Option (List ℕ)) → (shown : IsShown links old known core) → HoldsNone old shown.rows q g →
    IsReceivedSo links old known core q into
received_none links old known core q into g shown has =
    record {
      after = with_progress old q (Finished (outcomes.Replaced (Some into.buffer))) old.transfers;
      core_after = with_jobs core (slice_set core.jobs q.serial (Over (ends.Replaced (Some (handed_of into).buffer))));
      rows = slice_set shown.rows q.serial (row_of q.key (Over (ends.Replaced (Some (handed_of into).buffer))));
      out = [];
      job = Over (ends.Replaced (Some (handed_of into).buffer));
      rank_is = received_is old q into g None has.there;
      core_is =
          ap (taken_at core q.serial (handed_of into)) (job_held links old known core q (Probed g None) shown has.row);
      holding =
          received_holds links old known core shown.rows q g None (Finished (outcomes.Replaced (Some into.buffer)))
          (Over (ends.Replaced (Some (handed_of into).buffer))) old.transfers (holding_of links old known core shown)
          has.row
          (ap (λ (b : Contents). ends.Replaced (Some b)) (handed_buffer into)) tt
          (over_under_way links known old.place shown.rows old.transfers old.queues.unexpected q.serial q.key g None
          (ends.Replaced (Some (handed_of into).buffer)) shown.under_way has.row);
      row = row_set shown.rows q (Probed g None) (Over (ends.Replaced (Some (handed_of into).buffer))) has.row;
      is = tt;
      place = refl;
      completion = refl;
      blocked = refl;
      core_blocked = refl;
      given = given_nothing links known old.place (message_frame old (Some q) into)
          (frame_is old q into g None has.there);
    }

-- one that is whole: it ends at once
received_whole : OutcomesAgree →
    (links : Announcements) (old : CoreState) (known : List ℕ) (core : Core) (q : Request) (into : Region)
    (g : Option (List ℕ)) (m : Message) (c : Contents) → (shown : IsShown links old known core) →
    HoldsMessage links old known shown.rows q g (whole m c) → IsReceivedSo links old known core q into
received_whole agree links old known core q into g m c shown has =
    record {
      after = with_progress old q x old.transfers;
      core_after = with_jobs core (slice_set core.jobs q.serial (Over y));
      rows = slice_set shown.rows q.serial (row_of q.key (Over y));
      out = [];
      job = Over y;
      rank_is = received_is old q into g (Some (whole m c)) has.there;
      core_is =
          ap (taken_at core q.serial (handed_of into))
          (job_held links old known core q (Probed g (Some h)) shown has.row);
      holding =
          received_holds links old known core shown.rows q g (Some h) x (Over y) old.transfers
          (holding_of links old known core shown) has.row (agree links.from p (whole m c) c refl) tt
          (over_under_way links known old.place shown.rows old.transfers old.queues.unexpected q.serial q.key g
          (Some h) y shown.under_way has.row);
      row = row_set shown.rows q (Probed g (Some h)) (Over y) has.row;
      is = tt;
      place = refl;
      completion = refl;
      blocked = refl;
      core_blocked = refl;
      given = given_nothing links known old.place (message_frame old (Some q) into)
          (frame_is old q into g (Some (whole m c)) has.there);
    }
  where
    h : Held
    h = held_of links.from (whole m c)

    p : receives.Receive
    p = receive_seen (receive_by g (whole m c) into)

    x : RequestProgress
    x = Finished (outcome_of (handed_of into) (status_in g (status_of (whole m c))) c)

    y : ends.Outcome
    y = ends.outcome p (full h c.values)

-- one that was announced: it is collected from then on, or it ends at once where it has no elements or isn't wanted
received_announced : AnnouncementsAgree →
    (links : Announcements) (old : CoreState) (known : List ℕ) (core : Core) (q : Request) (into : Region)
    (g : Option (List ℕ)) (m : Message) (a : Announcement) →
    (shown : IsShown links old known core) → HoldsMessage links old known shown.rows q g (announced_as m a) →
    IsReceivedSo links old known core q into
received_announced agree links old known core q into g m a shown has =
    record {
      after = with_progress old q (matched_progress into (status_in g (status_of (announced_as m a))) a.basic) left;
      core_after = with_jobs core (slice_set core.jobs q.serial job);
      rows = slice_set shown.rows q.serial (row_of q.key job);
      out = answer p h h.body;
      job = job;
      rank_is = received_is old q into g (Some (announced_as m a)) has.there;
      core_is =
          ap (taken_at core q.serial (handed_of into))
          (job_held links old known core q (Probed g (Some h)) shown has.row);
      holding =
          received_holds links old known core shown.rows q g (Some h)
          (matched_progress into (status_in g (status_of (announced_as m a))) a.basic) job left
          (holding_of links old known core shown) has.row alike.fits
          (received_part p h a.count (receives.has_room p a.basic a.count))
          (subst (λ (b : Bool). AreUnderWay links known old.place
          (slice_set shown.rows q.serial (row_of q.key (matched_part p h a.count b))) left old.queues.unexpected)
          (sym alike.wanted)
          (part_under_way links known old.place shown.rows old.slots old.transfers old.queues.unexpected q.serial q.key
          g (Some h) (announced_as m a) a p (has_room into a.basic a.count) shown.under_way shown.table has.row
          has.from_link));
      row = row_set shown.rows q (Probed g (Some h)) job has.row;
      is = received_part p h a.count (receives.has_room p a.basic a.count);
      place = refl;
      completion = refl;
      blocked = refl;
      core_blocked = refl;
      given = subst (λ (f : Option OutgoingText). IsGiven links known old.place f (answer p h h.body))
          (sym (frame_is old q into g (Some (announced_as m a)) has.there))
          (record {
            quiet = answer_quiet p h h.body;
            sends = answer_sent links (after_out links (answer p h h.body)).to known old.place p (announced_as m a) a
                (has_room into a.basic a.count) has.from_link alike.wanted;
            leaves = answer_leaves links.from known old.place (announced_as m a) a (has_room into a.basic a.count)
                has.from_link;
          });
    }
  where
    h : Held
    h = held_of links.from (announced_as m a)

    p : receives.Receive
    p = receive_seen (receive_by g (announced_as m a) into)

    job : Job
    job = left_by links.from p (announced_as m a) a

    left : transfers.State
    left = transfers_with old.transfers
        (collection_on_match old.place.message_limit (has_room into a.basic a.count) (announced_as m a)
        (bodies.Announced a) q.key)

    alike : AnnouncedAlike links.from p (waiting_by (receive_by g (announced_as m a) into)) (announced_as m a) a
    alike = agree links.from p (waiting_by (receive_by g (announced_as m a) into)) (announced_as m a) a refl
        (record { into = refl; group = refl }) (accepts_own links.from g (announced_as m a) into)

-- one of the rank's own whose send waits: both end
received_own : OwnOutcomesAgree →
    (links : Announcements) (old : CoreState) (known : List ℕ) (core : Core) (q : Request) (into : Region)
    (g : Option (List ℕ)) (m : Message) (o : OwnSend) → (shown : IsShown links old known core) →
    ClaimsOnce core → HoldsMessage links old known shown.rows q g (own_as m o) →
    IsReceivedSo links old known core q into
received_own agree links old known core q into g m o shown once has =
    record {
      after = record mid { slots = table.after_answer mid.slots o.key };
      core_after = with_jobs core_mid (changed matched_own core_mid.jobs o.serial);
      rows = slice_set rows o.serial (row_of o.key (Over ends.Sent));
      out = [];
      job = Over y;
      rank_is = received_is old q into g (Some (own_as m o)) has.there;
      core_is = ap (taken_at core q.serial (handed_of into)) at;
      holding = own_ended links mid known core_mid rows o.serial o.key
          (received_holds links old known core shown.rows q g (Some h) x (Over y) old.transfers
          (holding_of links old known core shown) has.row (agree links.from p (own_as m o) o refl) tt
          (over_under_way links known old.place shown.rows old.transfers old.queues.unexpected q.serial q.key g
          (Some h) y shown.under_way has.row))
          sends (received_unclaimed core q.serial (handed_of into) g h o.serial o.elements.values at refl once);
      row = forth_set IsReceived rows o.serial o.key (Unmatched old.place.endpoint) (Over ends.Sent) sends
          (λ i. i) q.serial q.key (Over y) tt (row_set shown.rows q (Probed g (Some h)) (Over y) has.row);
      is = tt;
      place = refl;
      completion = refl;
      blocked = refl;
      core_blocked = refl;
      given = given_nothing links known old.place (message_frame old (Some q) into)
          (frame_is old q into g (Some (own_as m o)) has.there);
    }
  where
    h : Held
    h = held_of links.from (own_as m o)

    p : receives.Receive
    p = receive_seen (receive_by g (own_as m o) into)

    x : RequestProgress
    x = Finished (outcome_of (handed_of into) (status_in g (status_of (own_as m o))) o.elements)

    y : ends.Outcome
    y = ends.outcome p (full h o.elements.values)

    at : slice_get core.jobs q.serial ≡ Some (Probed g (Some h))
    at = job_held links old known core q (Probed g (Some h)) shown has.row

    -- before the send has ended
    mid : CoreState
    mid = with_progress old q x old.transfers

    core_mid : Core
    core_mid = with_jobs core (slice_set core.jobs q.serial (Over y))

    rows : List Row
    rows = slice_set shown.rows q.serial (row_of q.key (Over y))

    sends : slice_get rows o.serial ≡ Some (row_of o.key (Unmatched old.place.endpoint))
    sends = forth_set IsUnmatched shown.rows q.serial q.key (Probed g (Some h)) (Over y) has.row (λ i. i) o.serial o.key
        (Unmatched old.place.endpoint) tt has.from_link.row

-- ---- WHATEVER IS RECEIVED

-- the receive of the null process's message ends at once, and its buffer is as it was
nothing_shown : (links : Announcements) (old new : CoreState) (known : List ℕ) (core : Core) (into : Region)
    (reply : CoreReply) → IsShown links old known core → old.blocked ≡ None →
    free_fault old (calls.Mrecv None into) ≡ None → Receives old None into reply new →
    IsCalled links old known core (calls.Mrecv None into) reply new
nothing_shown links old new known core into reply shown free fine done =
    meant_called links old new known core (calls.Mrecv None into) reply refl
    (subst (λ (x : CoreReply). IsMeant links old known core c x new) (sym done.0)
    (subst (λ (x : CoreState). IsMeant links old known core c
    (calls.Done (answers.One (outcomes.Received ends.null_status into.buffer))) x) (sym done.1)
    (record {
      fit = (message_without_fault links old known core None into shown free fine).none;
      place = refl;
      completion = refl;
      shown = subst (λ (x : Core). IsShown links old known x) (sym (settled_free core core_is)) shown;
      sends = refl;
      tells = ap
          (λ (b : Contents). Called old.place.endpoint c
          (machine.Done (completions.ForOne (ends.Received ends.null_status b))) ∷ []) (handed_buffer into);
    })))
  where
    c : machine.Call
    c = machine.Mrecv None (handed_of into)

    core_is : core.blocked ≡ None
    core_is = core_free links old known core shown free

-- by the message's body
message_received : OutcomesAgree → OwnOutcomesAgree → AnnouncementsAgree →
    (links : Announcements) (old : CoreState) (known : List ℕ) (core : Core) (q : Request) (into : Region)
    (g : Option (List ℕ)) (m : Message) →
    (shown : IsShown links old known core) → ClaimsOnce core → HoldsMessage links old known shown.rows q g m →
    IsReceivedSo links old known core q into
message_received agree own alike links old known core q into g m shown once has = go (by_body m)
  where
    go : ((c : Contents) × (m ≡ whole m c)) ⊎
        (((a : Announcement) × (m ≡ announced_as m a)) ⊎ ((o : OwnSend) × (m ≡ own_as m o))) →
        IsReceivedSo links old known core q into
    go (inl w) =
        received_whole agree links old known core q into g m w.0 shown
        (subst (HoldsMessage links old known shown.rows q g) w.1 has)
    go (inr (inl w)) =
        received_announced alike links old known core q into g m w.0 shown
        (subst (HoldsMessage links old known shown.rows q g) w.1 has)
    go (inr (inr w)) =
        received_own own links old known core q into g m w.0 shown once
        (subst (HoldsMessage links old known shown.rows q g) w.1 has)

-- the receive of a message that meets no rule
pub messages_shown : OutcomesAgree → OwnOutcomesAgree → AnnouncementsAgree →
    (links : Announcements) (old new : CoreState) (known : List ℕ) (core : Core) (q : Option Request) (into : Region)
    (reply : CoreReply) → IsShown links old known core →
    ClaimsOnce core → old.blocked ≡ None → free_fault old (calls.Mrecv q into) ≡ None → Receives old q into reply new →
    IsCalled links old known core (calls.Mrecv q into) reply new
messages_shown agree own alike links old new known core None into reply shown once free fine done =
    nothing_shown links old new known core into reply shown free fine done
messages_shown agree own alike links old new known core (Some q) into reply shown once free fine done =
    go (message_held links old known core q shown (first_none (message_fault old (Some q)) (region_rule into) fine))
  where
    -- two rules are kept
    first_none : (a b : Option Refusal) → first_of a b ≡ None → a ≡ None
    first_none None b h = refl
    first_none (Some e) b h = absurd cc

    so : IsReceivedSo links old known core q into → IsCalled links old known core (calls.Mrecv (Some q) into) reply new
    so s = received_called links old new known core q into reply shown free
        (message_without_fault links old known core (Some q) into shown free fine).none s done

    go : HoldsEither links old known shown.rows q → IsCalled links old known core (calls.Mrecv (Some q) into) reply new
    go (inl t) = so (received_none links old known core q into t.0 shown t.1)
    go (inr t) = so (message_received agree own alike links old known core q into t.0 t.1 shown once t.2)
