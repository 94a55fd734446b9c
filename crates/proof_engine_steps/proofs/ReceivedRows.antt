-- The request of a message that was taken out becomes a receive: what both hold then, and what is under way.
use Rattle.std.proofs.Common.{◌≡◌, ◌≢◌, ℕ, Bool, true, false, not, ◌||◌, List, [], ◌∷◌, Option, Some, None, is_some}
use Rattle.std.proofs.Common.{if◌then◌else◌, ◌==◌, slice_get, slice_set, refl, sym, ap, ◌∙◌, subst, ◌⊎◌, inl, inr}
use Rattle.std.specs.List.{AllByRecursion}
use Rattle.std.proofs.lemmas.Bool.{cases_eq}
use Rattle.std.proofs.lemmas.List.{length-set, set-set}
use Rattle.std.proofs.lemmas.Option.{same_Some}
use Rattle.vocabulary.specs.declared.endpoint.Endpoint.{Endpoint}
use Rattle.incarnation.specs.declared.place.Place.{Place}
use Rattle.perfect_queues.proofs.ListLemmas.{get_set_other}
use Rattle.proof_pure_network.proofs.JobLemmas.{get_set_same}
use Rattle.perfect_queues.specs.Outcomes as ends
use Rattle.perfect_queues.specs.Receives as receives
use Rattle.match_queues.specs.declared.envelope.Announcement.{Announcement}
use Rattle.match_queues.specs.declared.envelope.Body.TheVariants as bodies
use Rattle.match_queues.specs.declared.envelope.Message.{Message}
use Rattle.rendezvous.specs.Collections as rendezvous
use Rattle.rendezvous.specs.State as transfers
use Rattle.requests.specs.Table.{IsSet, as_request, progress_at, request_at, slot_at}
use Rattle.requests.specs.declared.awaited_requests.Awaited.TheVariants as awaiteds
use Rattle.requests.specs.declared.outcome.Outcome.{Outcome}
use Rattle.requests.specs.declared.table.TableEntry as entries
use Rattle.requests.specs.declared.table.Matched.{Matched}
use Rattle.requests.specs.declared.table.RequestProgress.{RequestProgress}
use Rattle.requests.specs.declared.table.RequestProgress.TheVariants.{Finished, Receiving}
use Rattle.requests.specs.declared.table.RequestProgress.TheVariants as progresses
use Rattle.requests.specs.declared.table.Request.{Request}
use Rattle.point_to_point_calls.specs.declared.refusal.Refusal.TheVariants as refusals
use Rattle.point_to_point_calls.specs.ReceiveMatches.{collection_on_match, transfers_with}
use Rattle.point_to_point.specs.CoreState.{CoreState}
use Rattle.point_to_point.specs.Completions.{wait_fault}
use Rattle.proof_pure_network.specs.Core.{Core, with_jobs}
use Rattle.proof_pure_network.specs.WaitingMessages.{Held, count_of, fits, full}
use Rattle.proof_pure_network.specs.Jobs.{Closed, Collecting, Job, Offering, Over, Probed, Unmatched, Waiting}
use Rattle.proof_pure_network.specs.Jobs.{matched_part}
use Rattle.proof_engine_view.specs.Rows.{Fits, Holds, IsMatched, IsTable, Row, held_of, posted_job}
use Rattle.observation.specs.CoreCalls.{outcome_seen}
use Rattle.proof_engine_view.specs.Transfers.{Announcements, Transfer}
use Rattle.proof_engine_view.specs.UnderWay.{AreTaken, AreUnderWay, IsCollectionOf, IsPartOf, IsTakenAt, IsTakenBy}
use Rattle.proof_engine_view.specs.UnderWay.{IsTakenIf, collection_keys}
use Rattle.proof_engine_steps.proofs.Collects.{matched_under_way, written_set}
use Rattle.proof_engine_steps.proofs.RowLemmas.{set_jobs}
use Rattle.proof_engine_steps.proofs.BlockedAnswers.{progress_collecting, progress_over}
use Rattle.proof_engine_steps.proofs.Tables.{changed_table, held_at, says_some, set_change, set_is_set}
use Rattle.proof_engine_steps.proofs.TakenRows.{IsLarge, IsUnmatched, back_set, forth_set, from_forth, messages_forth}
use Rattle.proof_engine_steps.proofs.TakenRows.{posted_still, under_way_rows}
use Rattle.proof_engine_steps.proofs.UnderWay.{IsUntaken, row_of, untaken}
use Rattle.proof_engine_steps.proofs.BlockedRanks.{Holding}
use Rattle.proof_engine_steps.proofs.Wholes.{announced_as}

-- ---- WHAT BECOMES OF IT

-- a receive that was matched, and isn't answered
abbrev pub IsReceived : Job → Type 0
IsReceived (Waiting p) = ⊥
IsReceived (Collecting p h got) = Unit {0}
IsReceived (Offering d basic values) = ⊥
IsReceived (Over x) = Unit {0}
IsReceived Closed = ⊥
IsReceived (Unmatched d) = ⊥
IsReceived (Probed g h) = ⊥

-- it isn't posted
received_posted : (key : ℕ) (j : Job) → IsReceived j → posted_job key j ≡ []
received_posted key (Waiting p) i = absurd i
received_posted key (Collecting p h got) i = refl
received_posted key (Offering d basic values) i = absurd i
received_posted key (Over x) i = refl
received_posted key Closed i = absurd i
received_posted key (Unmatched d) i = absurd i
received_posted key (Probed g h) i = absurd i

-- nor a message that was taken out
received_untaken : (j : Job) → IsReceived j → IsUntaken j
received_untaken (Waiting p) i = absurd i
received_untaken (Collecting p h got) i = tt
received_untaken (Offering d basic values) i = absurd i
received_untaken (Over x) i = tt
received_untaken Closed i = absurd i
received_untaken (Unmatched d) i = absurd i
received_untaken (Probed g h) i = absurd i

-- so is what an announced message makes of a receive
pub received_part : (p : receives.Receive) (h : Held) (n : ℕ) (wanted : Bool) → IsReceived (matched_part p h n wanted)
received_part p h n true = go (0 == count_of h.body)
  where
    go : (t : Bool) → IsReceived (if t then Over (ends.outcome p (full h [])) else Collecting p h [])
    go true = tt
    go false = tt
received_part p h n false = tt

-- it can be waited for
pub received_there : (slots : List (Option entries.TableEntry)) (rows : List Row) (k key : ℕ) (job : Job) →
    IsTable slots rows → slice_get rows k ≡ Some (row_of key job) → IsReceived job → is_some (request_at slots key k) ≡
    true
received_there slots rows k key (Waiting p) t at i = absurd i
received_there slots rows k key (Collecting p h got) t at i =
    let x : (w : Matched) × (progress_at slots key k ≡ Some (progresses.Collecting w)) × IsMatched w p h = progress_collecting slots rows k key p h got t at in
    ap (λ (o : Option RequestProgress). is_some (as_request o)) x.1
received_there slots rows k key (Offering d basic values) t at i = absurd i
received_there slots rows k key (Over x) t at i =
    let y : (o : Outcome) × (progress_at slots key k ≡ Some (Finished o)) × (x ≡ outcome_seen o) = progress_over slots rows k key x t at in
    ap (λ (o : Option RequestProgress). is_some (as_request o)) y.1
received_there slots rows k key Closed t at i = absurd i
received_there slots rows k key (Unmatched d) t at i = absurd i
received_there slots rows k key (Probed g h) t at i = absurd i

-- so no rule of a wait for it is broken
pub wait_free : (c : CoreState) (q : Request) → is_some (request_at c.slots q.key q.serial) ≡ true →
    wait_fault c (awaiteds.One (Some q)) ≡ None
wait_free c q h = ap (λ (b : Bool). if (not b || false) || false then Some refusals.Request else None) h

-- ---- BOTH, ONCE IT IS RECEIVED

-- the messages that others hold stay
others_stay : (from : Endpoint → List Transfer) (known : List ℕ) (p : Place) (rows : List Row)
    (slots : List (Option entries.TableEntry)) (k key : ℕ) (g : Option (List ℕ)) (o : Option Held) (job : Job) →
    IsTable slots rows →
    slice_get rows k ≡ Some (row_of key (Probed g o)) → AreTaken from known p rows slots → (place : ℕ) → place ≢ key →
    IsTakenAt from known p (slice_set rows k (row_of key job)) (slot_at slots place)
others_stay from known p rows slots k key g o job table at taken place apart =
    by_slot (slot_at slots place) refl (taken place)
  where
    left : List Row
    left = slice_set rows k (row_of key job)

    if_there : (serial : ℕ) (group : Option (List ℕ)) (x : Option Message) → serial ≢ k →
        IsTakenIf from known p rows serial group x → IsTakenIf from known p left serial group x
    if_there serial group None n i = tt
    if_there serial group (Some m) n i =
        record {
          key = i.key;
          row = get_set_other rows k serial (row_of key job) (λ e. n (sym e)) ∙ i.row;
          from_link =
              from_forth from known p rows left m m.body (forth_set IsUnmatched rows k key (Probed g o) job at (λ x. x))
              i.from_link;
        }

    by_progress : (serial : ℕ) (x : RequestProgress) → serial ≢ k → IsTakenBy from known p rows serial x →
        IsTakenBy from known p left serial x
    by_progress serial (Receiving w) n i = tt
    by_progress serial (progresses.Collecting w) n i = tt
    by_progress serial progresses.Offering n i = tt
    by_progress serial (progresses.TakenOut t) n i = if_there serial t.group t.message n i
    by_progress serial (Finished x) n i = tt

    by_slot : (s : Option entries.TableEntry) → slot_at slots place ≡ s → IsTakenAt from known p rows s →
        IsTakenAt from known p left s
    by_slot None e i = tt
    by_slot (Some t) e i =
        by_progress t.serial t.progress
        ((set_change slots rows k key (Probed g o) job table at (λ x. cc)).apart place t apart e) i

-- the rank once the request is that far, with these transfers
abbrev pub with_progress : CoreState → Request → RequestProgress → transfers.State → CoreState
with_progress c q x t =
    record c { slots = slice_set c.slots q.key (Some (record { serial = q.serial; progress = x })); transfers = t }

-- both hold the receive
pub received_holds : (links : Announcements) (old : CoreState) (known : List ℕ) (core : Core) (rows : List Row)
    (q : Request) (g : Option (List ℕ)) (o : Option Held) (x : RequestProgress) (job : Job) (t : transfers.State) →
    Holding links old known core rows → slice_get rows q.serial ≡ Some (row_of q.key (Probed g o)) → Fits x job →
    IsReceived job →
    AreUnderWay links known old.place (slice_set rows q.serial (row_of q.key job)) t old.queues.unexpected →
    Holding links (with_progress old q x t) known (with_jobs core (slice_set core.jobs q.serial job))
    (slice_set rows q.serial (row_of q.key job))
received_holds links old known core rows q g o x job t h at fits is under =
    record {
      jobs = ap (λ (js : List Job). slice_set js q.serial job) h.jobs ∙ sym (set_jobs rows q.serial q.key job);
      count = length-set rows q.serial (row_of q.key job) ∙ h.count;
      table = changed_table old.slots (slice_set old.slots q.key (Some after)) rows q.serial q.key (Probed g o) job
          (Some after) h.table at (λ e. cc) set (says_some q.serial x job fits);
      posted = h.posted ∙ posted_still rows q.serial q.key (Probed g o) job at refl (received_posted q.key job is);
      held = h.held;
      under_way = under;
      taken = taken;
      knowing = h.knowing;
    }
  where
    left : List Row
    left = slice_set rows q.serial (row_of q.key job)

    mine : Holds (slot_at old.slots q.key) q.serial (Probed g o)
    mine = held_at old.slots rows q.serial q.key (Probed g o) h.table at (λ e. cc)

    after : entries.TableEntry
    after = record { serial = q.serial; progress = x }

    set : IsSet old.slots (slice_set old.slots q.key (Some after)) q.key (Some after)
    set = set_is_set old.slots q.key mine.entry (Some after) mine.there

    taken : (place : ℕ) →
        IsTakenAt links.from known old.place left (slot_at (slice_set old.slots q.key (Some after)) place)
    taken place = go (cases_eq place q.key)
      where
        go : (place ≡ q.key) ⊎ (place ≢ q.key) →
            IsTakenAt links.from known old.place left (slot_at (slice_set old.slots q.key (Some after)) place)
        go (inl e) =
            subst (λ (n : ℕ). IsTakenAt links.from known old.place left
            (slot_at (slice_set old.slots q.key (Some after)) n)) (sym e)
            (subst (IsTakenAt links.from known old.place left) (sym set.changed)
            (untaken links.from known old.place left q.serial x job fits (received_untaken job is)))
        go (inr n) =
            subst (IsTakenAt links.from known old.place left) (sym (set.others place n))
            (others_stay links.from known old.place rows old.slots q.serial q.key g o job h.table at h.taken place
            n)

-- what is under way stays where it is over at once
pub over_under_way : (links : Announcements) (known : List ℕ) (p : Place) (rows : List Row) (t : transfers.State)
    (ms : List Message) (k key : ℕ) (g : Option (List ℕ)) (o : Option Held) (x : ends.Outcome) →
    AreUnderWay links known p rows t ms →
    slice_get rows k ≡ Some (row_of key (Probed g o)) →
    AreUnderWay links known p (slice_set rows k (row_of key (Over x))) t ms
over_under_way links known p rows t ms k key g o x u at =
    under_way_rows links known p rows (slice_set rows k (row_of key (Over x))) t ms ms u
    (forth_set IsLarge rows k key (Probed g o) (Over x) at (λ i. i))
    (back_set IsLarge rows k key (Probed g o) (Over x) at (λ i. i))
    (λ n y d h. u.unmatched n y d
    (back_set IsUnmatched rows k key (Probed g o) (Over x) at (λ i. i) n y (Unmatched d) tt h))
    (messages_forth links.from known p rows (slice_set rows k (row_of key (Over x))) ms
    (forth_set IsUnmatched rows k key (Probed g o) (Over x) at (λ i. i)) u.messages)

-- no message that was taken out collects
not_both : (x : RequestProgress) (g : Option (List ℕ)) (o : Option Held) (r : receives.Receive) (h : Held)
    (got : List ℕ) → Fits x (Probed g o) → Fits x (Collecting r h got) → ⊥
not_both (Receiving b) g o r h got f e = f
not_both (progresses.Collecting w) g o r h got f e = f
not_both progresses.Offering g o r h got f e = f
not_both (progresses.TakenOut t) g o r h got f e = e
not_both (Finished x) g o r h got f e = f

-- so no collection has its key
taken_apart : (from : Endpoint → List Transfer) (known : List ℕ) (rows : List Row)
    (slots : List (Option entries.TableEntry)) (k key : ℕ) (g : Option (List ℕ)) (o : Option Held)
    (cs : List rendezvous.Collecting) → IsTable slots rows →
    slice_get rows k ≡ Some (row_of key (Probed g o)) → AllByRecursion (IsCollectionOf from known rows) cs →
    AllByRecursion (λ y. y ≡ key → ⊥) (collection_keys cs)
taken_apart from known rows slots k key g o [] table row all = tt
taken_apart from known rows slots k key g o (c ∷ cs) table row all =
    (other, taken_apart from known rows slots k key g o cs table row all.1)
  where
    mine : Holds (slot_at slots key) k (Probed g o)
    mine = table.stands k (row_of key (Probed g o)) row

    other : c.request ≡ key → ⊥
    other e =
        let h : Holds (slot_at slots c.request) all.0.serial (Collecting all.0.receive all.0.message all.0.got) =
        table.stands all.0.serial (row_of c.request (Collecting all.0.receive all.0.message all.0.got)) all.0.row in
        let same : mine.entry ≡ h.entry = same_Some mine.entry h.entry (sym mine.there ∙ (sym (ap (slot_at slots) e) ∙ h.there)) in
        not_both h.entry.progress g o all.0.receive all.0.message all.0.got
        (subst (λ (t : entries.TableEntry). Fits t.progress (Probed g o)) same mine.fits) h.fits

-- what is under way once an announced one is matched with its receive
pub part_under_way : (links : Announcements) (known : List ℕ) (p : Place) (rows : List Row)
    (slots : List (Option entries.TableEntry)) (t : transfers.State) (ms : List Message) (k key : ℕ)
    (g : Option (List ℕ)) (o : Option Held) (m : Message) (a : Announcement) (r : receives.Receive)
    (wanted : Bool) → AreUnderWay links known p rows t ms → IsTable slots rows →
    slice_get rows k ≡ Some (row_of key (Probed g o)) → IsPartOf links.from known p m a →
    AreUnderWay links known p
    (slice_set rows k (row_of key (matched_part r (held_of links.from (announced_as m a)) a.count wanted)))
    (transfers_with t (collection_on_match p.message_limit wanted (announced_as m a) (bodies.Announced a) key)) ms
part_under_way links known p rows slots t ms k key g o m a r wanted u table at part =
    subst (λ (rs : List Row). AreUnderWay links known p rs
    (transfers_with t (collection_on_match p.message_limit wanted (announced_as m a) (bodies.Announced a) key)) ms)
    (set-set rows k over new)
    (matched_under_way links known p mid (slice_set mid k new) t ms ms m a k key r wanted mid_under part
    (written_set mid k key (Over ends.Sent) (matched_part r (held_of links.from (announced_as m a)) a.count wanted) here
    (λ i. i))
    (taken_apart links.from known rows slots k key g o t.collections table at u.collections)
    (messages_forth links.from known p mid (slice_set mid k new) ms
    (forth_set IsUnmatched mid k key (Over ends.Sent)
    (matched_part r (held_of links.from (announced_as m a)) a.count wanted) here (λ i. i)) mid_under.messages))
  where
    over : Row
    over = row_of key (Over ends.Sent)

    new : Row
    new = row_of key (matched_part r (held_of links.from (announced_as m a)) a.count wanted)

    -- the rows without the message
    mid : List Row
    mid = slice_set rows k over

    here : slice_get mid k ≡ Some over
    here = get_set_same rows k (row_of key (Probed g o)) over at

    mid_under : AreUnderWay links known p mid t ms
    mid_under = over_under_way links known p rows t ms k key g o ends.Sent u at
