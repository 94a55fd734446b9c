-- A message that comes: to the queues, the slots and the rows of a rank, and to its core.
use Rattle.std.proofs.Common.{ap₂, ◌≡◌, ℕ, List, [], ◌∷◌, ◌++◌, map, length, Option, Some, None, slice_get, slice_set}
use Rattle.std.proofs.Common.{refl, sym, ap, ◌∙◌, subst, ◌⊎◌, inl, inr}
use Rattle.std.proofs.lemmas.List.{length-set, map-append}
use Rattle.datatypes.specs.Contents.{Contents}
use Rattle.incarnation.specs.declared.place.Place.{Place}
use Rattle.perfect_queues.specs.Buffers.{Handed}
use Rattle.perfect_queues.specs.Outcomes as machine
use Rattle.perfect_queues.specs.Receives.{Receive}
use Rattle.vocabulary.specs.declared.envelope.Status.{Status}
use Rattle.match_queues.specs.declared.envelope.Body.TheVariants as bodies
use Rattle.match_queues.specs.declared.envelope.Message.{Message}
use Rattle.match_queues.specs.declared.queues.Arrival.{Arrival}
use Rattle.match_queues.specs.Arrivals.{arrival_of}
use Rattle.match_queues.specs.State.{State, after_arrival, receive_at, receive_for}
use Rattle.communicator_members.specs.Statuses.{status_in}
use Rattle.requests.specs.Outcomes.{outcome_of}
use Rattle.requests.specs.Table.{after_finish, after_message, entry_after, progress_after, slot_at}
use Rattle.requests.specs.declared.table.TableEntry.{TableEntry}
use Rattle.requests.specs.declared.table.RequestProgress.{RequestProgress}
use Rattle.requests.specs.declared.table.RequestProgress.TheVariants.{Receiving, Finished}
use Rattle.requests.specs.declared.table.RequestProgress.TheVariants as progresses
use Rattle.point_to_point.specs.CoreState.{CoreState}
use Rattle.point_to_point_calls.specs.ReceiveMatches.{slots_on_arrival, status_of, transfers_on_arrival}
use Rattle.point_to_point.specs.Sends as rank
use Rattle.proof_pure_network.specs.Core.{Core, Effect}
use Rattle.proof_pure_network.specs.WaitingMessages.{Held, full}
use Rattle.proof_pure_network.specs.Jobs.{Job, Over, Waiting, oldest_posted}
use Rattle.proof_pure_network.specs.Matches.{arrived, arrived_at}
use Rattle.proof_engine_view.specs.Rows.{Fits, Holds, IsTable, Row, held_of, jobs_of, posted_rows}
use Rattle.observation.specs.CoreCalls.{outcome_seen}
use Rattle.proof_engine_view.specs.Transfers.{Announcements}
use Rattle.proof_engine_view.specs.UnderWay.{AreTaken, IsFromLink}
use Rattle.proof_engine_matching.specs.Matches.{ArrivalsMatch, IsKept, IsMatchedTo, OutcomesAgree}
use Rattle.proof_engine_steps.proofs.NamedRequests.{NamedStay, named_same, named_set}
use Rattle.proof_engine_steps.proofs.RowLemmas.{set_jobs}
use Rattle.proof_engine_steps.proofs.Tables.{Says, changed_table, held_at, says_some, set_is_set}
use Rattle.proof_engine_steps.proofs.BlockedRanks.{Holding, known_still}
use Rattle.proof_engine_steps.proofs.Knowledge.{knows}
use Rattle.proof_engine_steps.proofs.UnchangedTransfers.{same_rows, under_way_with}
use Rattle.proof_engine_steps.proofs.UnderWay.{SameTransfers, keeps_same, messages_keep, same_set, taken_changed}
use Rattle.proof_engine_steps.proofs.Wholes.{arrival_keeps, arrival_leaves, whole, whole_of}

-- what a message leaves of the rows
pub record Arrives (links : Announcements) (rows : List Row) (before slots : List (Option TableEntry)) (queues : State)
    (core : Core) (after : Effect) : Type 0 where
  pub left : List Row
  pub jobs : after.core.jobs ≡ jobs_of left
  pub count : length left ≡ length rows
  pub table : IsTable slots left
  pub posted : queues.posted ≡ posted_rows left
  pub held : after.core.held ≡ map (held_of links.from) queues.unexpected
  pub blocked : after.core.blocked ≡ core.blocked
  pub known : knows after.core ≡ knows core
  pub sends : after.out ≡ []
  pub waits : NamedStay rows left
  pub same : SameTransfers rows left
  pub taken : (known : List ℕ) (p : Place) → AreTaken links.from known p rows before →
      AreTaken links.from known p left slots

-- it waits behind the others
arrives_kept : (links : Announcements) (rows : List Row) (slots : List (Option TableEntry)) (queues : State)
    (core : Core) (m : Message) →
    core.jobs ≡ jobs_of rows → IsTable slots rows → queues.posted ≡ posted_rows rows →
    core.held ≡ map (held_of links.from) queues.unexpected →
    Arrives links rows slots slots (record queues { unexpected = queues.unexpected ++ m ∷ [] }) core
    (arrived_at core (held_of links.from m) None)
arrives_kept links rows slots queues core m js table po he =
    record {
      left = rows;
      jobs = js;
      count = refl;
      table = table;
      posted = po;
      held = ap (λ (hs : List Held). hs ++ held_of links.from m ∷ []) he ∙
          sym (map-append (held_of links.from) queues.unexpected (m ∷ []));
      blocked = refl;
      known = refl;
      sends = refl;
      waits = named_same rows;
      same = same_rows rows;
      taken = λ known p taken. taken;
    }

-- what the message makes of the entry is what it makes of the job
finished_fits : (g : RequestProgress) (p : Receive) (status : Status) (c : Contents) (x : machine.Outcome) →
    Fits g (Waiting p) → x ≡ outcome_seen (outcome_of p.into (status_in p.group status) c) →
    Fits (progress_after g status c) (Over x)
finished_fits (Receiving w) p status c x f h =
    h ∙ ap₂ (λ (y : Handed) (g : Option (List ℕ)). outcome_seen (outcome_of y (status_in g status) c)) f.into f.group
finished_fits (progresses.Collecting w) p status c x f h = absurd f
finished_fits progresses.Offering p status c x f h = absurd f
finished_fits (progresses.TakenOut taken) p status c x f h = absurd f
finished_fits (Finished o) p status c x f h = absurd f

-- an entry with the serial, that fits the job, says the same
says_entry : (t : TableEntry) (k : ℕ) (j : Job) → t.serial ≡ k → Fits t.progress j → Says (Some t) k j
says_entry t k j e f = subst (λ (x : ℕ). Says (Some t) x j) e (says_some t.serial t.progress j f)

-- the receive with serial k takes it
pub arrives_matched : OutcomesAgree →
    (links : Announcements) (rows : List Row) (slots : List (Option TableEntry)) (queues : State) (core : Core)
    (m : Message) (c : Contents) (k key : ℕ) (p : Receive) →
    core.jobs ≡ jobs_of rows → IsTable slots rows → core.held ≡ map (held_of links.from) queues.unexpected →
    slice_get rows k ≡ Some (record { key = key; job = Waiting p }) →
    ((o : machine.Outcome) → queues.posted ≡ posted_rows (slice_set rows k (record { key = key; job = Over o }))) →
    Arrives links rows slots (after_finish slots key (status_of (whole m c)) c) queues core
    (arrived_at core (held_of links.from (whole m c)) (Some (k, p)))
arrives_matched agree links rows slots queues core m c k key p js table he row po =
    record {
      left = slice_set rows k over;
      jobs = ap (λ (ys : List Job). slice_set ys k (Over x)) js ∙ sym (set_jobs rows k key (Over x));
      count = length-set rows k over;
      table = subst (λ (t : List (Option TableEntry)). IsTable t (slice_set rows k over)) (sym finish)
          (changed_table slots (slice_set slots key (Some after)) rows k key (Waiting p) (Over x) (Some after) table row
          (λ e. cc)
          (set_is_set slots key mine.entry (Some after) mine.there)
          (says_entry after k (Over x) mine.serial_is
          (finished_fits mine.entry.progress p (status_of (whole m c)) c x mine.fits
          (agree links.from p (whole m c) c refl))));
      posted = po x;
      held = he;
      blocked = refl;
      known = refl;
      sends = refl;
      waits = named_set rows k key (Waiting p) (Over x) row (λ e. cc);
      same = same_set rows k key (Waiting p) (Over x) row (λ i. i) (λ i. i);
      taken = λ known place taken. subst
          (λ (t : List (Option TableEntry)). AreTaken links.from known place (slice_set rows k over) t) (sym finish)
          (taken_changed links.from known place rows slots (slice_set slots key (Some after)) k key (Waiting p)
          (Over x) after taken row (λ i. i)
          (set_is_set slots key mine.entry (Some after) mine.there)
          (finished_fits mine.entry.progress p (status_of (whole m c)) c x mine.fits
          (agree links.from p (whole m c) c refl)) tt);
    }
  where
    x : machine.Outcome
    x = machine.outcome p (full (held_of links.from (whole m c)) c.values)

    over : Row
    over = record { key = key; job = Over x }

    mine : Holds (slot_at slots key) k (Waiting p)
    mine = held_at slots rows k key (Waiting p) table row (λ e. cc)

    after : TableEntry
    after = after_message mine.entry (status_of (whole m c)) c

    finish : after_finish slots key (status_of (whole m c)) c ≡ slice_set slots key (Some after)
    finish = ap (λ (s : Option TableEntry). entry_after s slots key (status_of (whole m c)) c) mine.there

-- a whole message comes, from a link or from the rank itself
pub message_arrives : ArrivalsMatch → OutcomesAgree →
    (links : Announcements) (rows : List Row) (slots : List (Option TableEntry)) (queues : State) (core : Core)
    (m : Message) (c : Contents) →
    core.jobs ≡ jobs_of rows → IsTable slots rows → queues.posted ≡ posted_rows rows →
    core.held ≡ map (held_of links.from) queues.unexpected →
    Arrives links rows slots (slots_on_arrival slots (arrival_of queues (whole m c))) (after_arrival queues (whole m c))
    core (arrived core (held_of links.from (whole m c)))
message_arrives match agree links rows slots queues core m c js table po he =
    go (match links.from rows queues (whole m c) po)
  where
    oldest : (o : Option (ℕ × Receive)) → oldest_posted (held_of links.from (whole m c)) (jobs_of rows) ≡ o →
        arrived core (held_of links.from (whole m c)) ≡ arrived_at core (held_of links.from (whole m c)) o
    oldest o e =
        ap (arrived_at core (held_of links.from (whole m c))) (ap (oldest_posted (held_of links.from (whole m c))) js ∙
        e)

    go : IsKept links.from rows queues (whole m c) ⊎
        ((k : ℕ) × (key : ℕ) × (p : Receive) × IsMatchedTo links.from rows queues (whole m c) k key p) →
        Arrives links rows slots (slots_on_arrival slots (arrival_of queues (whole m c)))
        (after_arrival queues (whole m c)) core (arrived core (held_of links.from (whole m c)))
    go (inl kept) =
        subst (λ (f : Effect). Arrives links rows slots (slots_on_arrival slots (arrival_of queues (whole m c)))
        (after_arrival queues (whole m c)) core f) (sym (oldest None kept.core))
        (subst (λ (a : Arrival). Arrives links rows slots (slots_on_arrival slots a) (after_arrival queues (whole m c))
        core (arrived_at core (held_of links.from (whole m c)) None)) (sym kept.arrival)
        (subst (λ (s : State). Arrives links rows slots slots s core
        (arrived_at core (held_of links.from (whole m c)) None)) (sym kept.queues)
        (arrives_kept links rows slots queues core (whole m c) js table po he)))
    go (inr t) =
        let h : IsMatchedTo links.from rows queues (whole m c) t.0 t.1 t.2 = t.3 in
        subst (λ (f : Effect). Arrives links rows slots (slots_on_arrival slots (arrival_of queues (whole m c)))
        (after_arrival queues (whole m c)) core f) (sym (oldest (Some (t.0, t.2)) h.core))
        (subst (λ (a : Arrival). Arrives links rows slots (slots_on_arrival slots a) (after_arrival queues (whole m c))
        core (arrived_at core (held_of links.from (whole m c)) (Some (t.0, t.2)))) (sym h.arrival)
        (arrives_matched agree links rows slots (after_arrival queues (whole m c)) core m c t.0 t.1 t.2 js table
        (he ∙ ap (λ (ms : List Message). map (held_of links.from) ms) (sym h.unexpected)) h.row
        (λ o. h.posted (Over o) refl)))

-- what a message leaves of a rank and of its core, before a blocked call is answered
pub record IsHeldAfter (links : Announcements) (rows : List Row) (new : CoreState) (known : List ℕ) (core : Core)
    (after : Effect) : Type 0 where
  pub left : List Row
  pub holding : Holding links new known after.core left
  pub blocked : after.core.blocked ≡ core.blocked
  pub sends : after.out ≡ []
  pub waits : NamedStay rows left

-- a rank takes a message with these elements into its queues and its slots, and its core takes it too
elements_hold : ArrivalsMatch → OutcomesAgree →
    (links : Announcements) (old : CoreState) (known : List ℕ) (core : Core) (rows : List Row) (m : Message)
    (c : Contents) → Holding links old known core rows →
    IsHeldAfter links rows (rank.after_message old (whole m c)) known core
    (arrived core (held_of links.from (whole m c)))
unfolding rank.after_message
elements_hold match agree links old known core rows m c h =
    let a : Arrives links rows old.slots (slots_on_arrival old.slots (arrival_of old.queues (whole m c))) (after_arrival old.queues (whole m c)) core (arrived core (held_of links.from (whole m c))) =
    message_arrives match agree links rows old.slots old.queues core m c h.jobs h.table h.posted h.held in
    record {
      left = a.left;
      holding = record {
        jobs = a.jobs;
        count = a.count ∙ h.count;
        table = a.table;
        posted = a.posted;
        held = a.held;
        under_way =
            under_way_with links known old.place rows a.left old.transfers
            (transfers_on_arrival old.place.message_limit old.transfers old.slots
            (arrival_of old.queues (whole m c))) old.queues.unexpected
            (after_arrival old.queues (whole m c)).unexpected h.under_way a.same
            (arrival_leaves old.place.message_limit old.transfers old.slots m c
            (receive_at old.queues.posted (receive_for (whole m c) old.queues.posted)))
            (arrival_keeps (λ (x : Message). IsFromLink links.from known old.place a.left x x.body) old.queues
            (whole m c)
            (messages_keep links.from known old.place rows a.left old.queues.unexpected (keeps_same rows a.left a.same)
            h.under_way.messages) tt);
        taken = a.taken known old.place h.taken;
        knowing =
            known_still old.place old.place known (knows core) (knows (arrived core
            (held_of links.from (whole m c))).core)
            h.knowing refl a.known;
      };
      blocked = a.blocked;
      sends = a.sends;
      waits = a.waits;
    }

-- so it is with each message that is whole
pub message_holds : ArrivalsMatch → OutcomesAgree →
    (links : Announcements) (old : CoreState) (known : List ℕ) (core : Core) (rows : List Row) (m : Message)
    (c : Contents) → m.body ≡ bodies.Whole c →
    Holding links old known core rows →
    IsHeldAfter links rows (rank.after_message old m) known core (arrived core (held_of links.from m))
message_holds match agree links old known core rows m c is h =
    subst (λ (x : Message). IsHeldAfter links rows (rank.after_message old x) known core
    (arrived core (held_of links.from x))) (sym (whole_of m c is))
    (elements_hold match agree links old known core rows m c h)

-- what a message leaves as it was
pub record Keeps (old new : CoreState) : Type 0 where
  pub place : new.place ≡ old.place
  pub blocked : new.blocked ≡ old.blocked
  pub completion : new.completion ≡ old.completion

pub arrived_keeps : (c : CoreState) (m : Message) → Keeps c (rank.after_message c m)
unfolding rank.after_message
arrived_keeps c m = record { place = refl; blocked = refl; completion = refl }
