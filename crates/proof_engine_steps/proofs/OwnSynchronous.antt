-- A synchronous send of a rank to itself: its request waits for its match, and its message comes to the rank's own
-- queues, where it waits for its receive, or is matched at once.
use Rattle.std.proofs.Common.{◌≡◌, ℕ, suc, ◌+◌, ◌≤◌, ◌<◌, Bool, false, List, [], ◌∷◌, ◌++◌, map, length, Option, Some}
use Rattle.std.proofs.Common.{None, is_some, slice_get, slice_set, refl, sym, ap, ◌∙◌, subst, arith, append-nil, ◌⊎◌}
use Rattle.std.proofs.Common.{inl, inr}
use Rattle.std.specs.List.{AllByRecursion}
use Rattle.std.proofs.lemmas.Bool.{ne_eqb}
use Rattle.std.proofs.lemmas.List.{map-append}
use Rattle.std.proofs.lemmas.Option.{none-some, same_Some, slice_get_within}
use Rattle.vocabulary.specs.declared.endpoint.Endpoint.{Endpoint}
use Rattle.datatypes.specs.Contents.{Contents}
use Rattle.incarnation.specs.declared.place.Place.{Place}
use Rattle.match_queues.specs.declared.envelope.Body.{Body}
use Rattle.match_queues.specs.declared.envelope.Body.TheVariants as bodies
use Rattle.match_queues.specs.declared.envelope.Message.{Message}
use Rattle.match_queues.specs.declared.envelope.OwnSend.{OwnSend}
use Rattle.match_queues.specs.declared.queues.Arrival.{Arrival}
use Rattle.match_queues.specs.declared.queues.Arrival.TheVariants.{Kept, Matched}
use Rattle.match_queues.specs.Arrivals.{arrival_of}
use Rattle.match_queues.specs.State.{State, after_arrival}
use Rattle.requests.specs.Table.{IsSet, after_finish, slot_at}
use Rattle.requests.specs.declared.table.TableEntry.{TableEntry}
use Rattle.requests.specs.declared.table.RequestProgress.{RequestProgress}
use Rattle.requests.specs.declared.table.RequestProgress.TheVariants as progresses
use Rattle.point_to_point_calls.specs.ReceiveMatches.{status_of}
use Rattle.point_to_point.specs.CoreState.{CoreState}
use Rattle.point_to_point.specs.Sends as rank
use Rattle.perfect_queues.specs.Outcomes as ends
use Rattle.perfect_queues.specs.Receives.{Receive}
use Rattle.proof_pure_network.proofs.Counts.{count_append, count_set}
use Rattle.proof_pure_network.specs.Claims.{claims, count, is_own, is_own_body, one, taken_is}
use Rattle.proof_pure_network.specs.Core.{Core, Effect}
use Rattle.proof_pure_network.specs.Engine.{pushed_own}
use Rattle.proof_pure_network.specs.WaitingMessages.{Held, full}
use Rattle.proof_pure_network.specs.Jobs.{Closed, Collecting, Job, Offering, Over, Probed, Unmatched, Waiting}
use Rattle.proof_pure_network.specs.Jobs.{oldest_posted}
use Rattle.proof_pure_network.specs.Matches.{arrived, arrived_at}
use Rattle.proof_engine_view.specs.Rows.{Holds, IsTable, Row, body_seen, held_of, jobs_of, posted_rows}
use Rattle.proof_engine_view.specs.CoreViews.{IsShown}
use Rattle.proof_engine_view.specs.Transfers.{Announcements, Transfer}
use Rattle.proof_engine_view.specs.UnderWay.{AreTaken, IsFromLink, IsTakenAt, IsTakenBy, IsTakenIf}
use Rattle.proof_engine_matching.specs.Matches.{ArrivalsMatch, IsKept, IsMatchedTo, OutcomesAgree}
use Rattle.proof_engine_steps.proofs.AnnouncementArrivals.{arrived_so}
use Rattle.proof_engine_steps.proofs.MessageArrivals.{Arrives, IsHeldAfter, arrives_matched}
use Rattle.proof_engine_steps.proofs.NamedRequests.{named_same, named_set}
use Rattle.proof_engine_steps.proofs.OwnSendEnds.{own_ended}
use Rattle.proof_engine_steps.proofs.RowLemmas.{job_at}
use Rattle.proof_engine_steps.proofs.BlockedAnswers.{IsMessage, fits_probed}
use Rattle.proof_engine_steps.proofs.RequestStarts.{holding_of, holding_started}
use Rattle.proof_engine_steps.proofs.UnchangedTransfers.{same_rows, under_way_with}
use Rattle.proof_engine_steps.proofs.Tables.{held_at}
use Rattle.proof_engine_steps.proofs.TakenRows.{IsLarge, IsUnmatched, back_pushed, forth_pushed, last_at}
use Rattle.proof_engine_steps.proofs.TakenRows.{messages_forth, under_way_rows}
use Rattle.proof_engine_steps.proofs.UnderWay.{after_grows_not, keeps_same, messages_keep, row_of}
use Rattle.proof_engine_steps.proofs.BlockedRanks.{Holding, known_still}
use Rattle.proof_engine_steps.proofs.Knowledge.{knows}
use Rattle.proof_engine_steps.proofs.Wholes.{own_as, pushed, whole}

-- ---- A REQUEST THAT ISN'T THERE YET IS NAMED BY NO MESSAGE

-- a message names a request that is there
names_other : (from : Endpoint → List Transfer) (known : List ℕ) (p : Place) (rows : List Row) (k : ℕ) (m : Message)
    (b : Body) → length rows ≤ k → IsFromLink from known p rows m b → is_own_body k (body_seen (from m.sender) b) ≡
    false
names_other from known p rows k m (bodies.Whole c) past i = refl
names_other from known p rows k m (bodies.Announced a) past i = refl
names_other from known p rows k m (bodies.Own o) past i =
    let there : o.serial < length rows = slice_get_within rows o.serial (row_of o.key (Unmatched p.endpoint)) i.row in
    ne_eqb k o.serial (λ e. omega (arith, e, there, past))

-- so do those that wait
held_fresh : (from : Endpoint → List Transfer) (known : List ℕ) (p : Place) (rows : List Row) (k : ℕ)
    (ms : List Message) → length rows ≤ k → AllByRecursion (λ (m : Message). IsFromLink from known p rows m m.body) ms →
    count (is_own k) (map (held_of from) ms) ≡ 0
held_fresh from known p rows k [] past all = refl
held_fresh from known p rows k (m ∷ ms) past all =
    let here : one (is_own k (held_of from m)) ≡ 0 = ap one (names_other from known p rows k m m.body past all.0) in
    omega (arith, here, held_fresh from known p rows k ms past all.1)

-- the message of a row that was taken out
record IsMessageOf (from : Endpoint → List Transfer) (known : List ℕ) (p : Place) (rows : List Row)
    (h : Held) : Type 0 where
  message : Message
  is : h ≡ held_of from message
  from_link : IsFromLink from known p rows message message.body

message_of : (from : Endpoint → List Transfer) (known : List ℕ) (p : Place) (rows : List Row)
    (slots : List (Option TableEntry)) (k key : ℕ) (group : Option (List ℕ)) (h : Held) → IsTable slots rows →
    AreTaken from known p rows slots →
    slice_get rows k ≡ Some (row_of key (Probed group (Some h))) → IsMessageOf from known p rows h
message_of from known p rows slots k key group h table taken at =
    by_message found.taken.message found.alike.there
    (subst (λ (g : RequestProgress). IsTakenBy from known p rows mine.entry.serial g) found.is
    (here (slot_at slots key) mine.there (taken key)))
  where
    mine : Holds (slot_at slots key) k (Probed group (Some h))
    mine = held_at slots rows k key (Probed group (Some h)) table at (λ e. cc)

    found : IsMessage mine.entry.progress group (Some h)
    found = fits_probed mine.entry.progress group (Some h) mine.fits

    here : (o : Option TableEntry) → o ≡ Some mine.entry → IsTakenAt from known p rows o →
        IsTakenBy from known p rows mine.entry.serial mine.entry.progress
    here None x t = absurd (none-some mine.entry x)
    here (Some y) x t =
        subst (λ (z : TableEntry). IsTakenBy from known p rows z.serial z.progress) (same_Some y mine.entry x) t

    held_of_job : Job → Option Held
    held_of_job (Probed g x) = x
    held_of_job _ = None

    by_message : (o : Option Message) → is_some (Some h) ≡ is_some o →
        IsTakenIf from known p rows mine.entry.serial found.taken.group o → IsMessageOf from known p rows h
    by_message None e t = absurd cc
    by_message (Some m) e t =
        let rows_same : row_of key (Probed group (Some h)) ≡ row_of t.key (Probed found.taken.group (Some (held_of from m))) =
        same_Some (row_of key (Probed group (Some h))) (row_of t.key (Probed found.taken.group (Some (held_of from m))))
        (sym at ∙ (sym (ap (slice_get rows) mine.serial_is) ∙ t.row)) in
        record {
          message = m;
          is = same_Some h (held_of from m) (ap (λ (y : Row). held_of_job y.job) rows_same);
          from_link = t.from_link;
        }

-- where each row fails a test, none is counted
none_taken : (t : Job → Bool) (rows : List Row) → ((j : ℕ) (r : Row) → slice_get rows j ≡ Some r → t r.job ≡ false) →
    count t (jobs_of rows) ≡ 0
none_taken t [] h = refl
none_taken t (r ∷ rs) h =
    let here : one (t r.job) ≡ 0 = ap one (h 0 r refl) in
    omega (arith, here, none_taken t rs (λ j x e. h (suc j) x e))

-- and so do those that were taken out
taken_fresh : (from : Endpoint → List Transfer) (known : List ℕ) (p : Place) (rows : List Row)
    (slots : List (Option TableEntry)) (k : ℕ) → length rows ≤ k → IsTable slots rows →
    AreTaken from known p rows slots →
    count (taken_is (is_own k)) (jobs_of rows) ≡ 0
taken_fresh from known p rows slots k past table taken =
    none_taken (taken_is (is_own k)) rows (λ j r at. by_job j r.key r.job at)
  where
    by_job : (j key : ℕ) (x : Job) → slice_get rows j ≡ Some (row_of key x) → taken_is (is_own k) x ≡ false
    by_job j key (Waiting q) at = refl
    by_job j key (Collecting q h got) at = refl
    by_job j key (Offering d basic values) at = refl
    by_job j key (Over x) at = refl
    by_job j key Closed at = refl
    by_job j key (Unmatched d) at = refl
    by_job j key (Probed g None) at = refl
    by_job j key (Probed g (Some h)) at =
        let m : IsMessageOf from known p rows h = message_of from known p rows slots j key g h table taken at in
        ap (is_own k) m.is ∙ names_other from known p rows k m.message m.message.body past m.from_link

-- ---- THE REQUEST

-- the rank once the request was started
abbrev pub started_rank : CoreState → List (Option TableEntry) → CoreState
started_rank old slots = record old { slots = slots; serial = old.serial + 1 }

-- its row
abbrev pub own_row : CoreState → (key : ℕ) → Row
own_row old key = row_of key (Unmatched old.place.endpoint)

-- the request waits for its match, in both
pub own_begun : (links : Announcements) (old : CoreState) (known : List ℕ) (core : Core)
    (slots : List (Option TableEntry)) (key : ℕ) → (shown : IsShown links old known core) →
    slot_at old.slots key ≡ None →
    IsSet old.slots slots key (Some (record { serial = old.serial; progress = progresses.Offering })) →
    Holding links (started_rank old slots) known (pushed_own core old.place.endpoint)
    (shown.rows ++ own_row old key ∷ [])
own_begun links old known core slots key shown fresh set =
    holding_started links links old (started_rank old slots) known core (pushed_own core own) shown.rows key
    progresses.Offering (Unmatched own) (holding_of links old known core shown) fresh set tt refl refl
    (shown.posted ∙ sym (append-nil (posted_rows shown.rows))) shown.held
    (under_way_rows links known old.place shown.rows left old.transfers old.queues.unexpected old.queues.unexpected
    shown.under_way (forth_pushed IsLarge shown.rows (own_row old key))
    (back_pushed IsLarge shown.rows key (Unmatched own) (λ i. i))
    (λ n y d at. by_row n y d (last_at shown.rows (own_row old key) n (row_of y (Unmatched d)) at))
    (messages_forth links.from known old.place shown.rows left old.queues.unexpected
    (forth_pushed IsUnmatched shown.rows (own_row old key)) shown.under_way.messages))
    (after_grows_not links) tt refl refl
  where
    own : Endpoint
    own = old.place.endpoint

    left : List Row
    left = shown.rows ++ own_row old key ∷ []

    by_row : (n y : ℕ) (d : Endpoint) → (slice_get shown.rows n ≡ Some (row_of y (Unmatched d))) ⊎
        (own_row old key ≡ row_of y (Unmatched d)) → d ≡ own
    by_row n y d (inl e) = shown.under_way.unmatched n y d e
    by_row n y d (inr e) =
        let f : Unmatched own ≡ Unmatched d = ap (λ (r : Row). r.job) e in let is : own ≡ d = cc in sym is

-- no message names it yet
pub own_unclaimed : (links : Announcements) (old : CoreState) (known : List ℕ) (core : Core) (k : ℕ) →
    (shown : IsShown links old known core) → k ≡ old.serial → claims k (pushed_own core old.place.endpoint) ≡ 0
own_unclaimed links old known core k shown is =
    let past : length shown.rows ≤ k = omega (arith, shown.count, is) in
    let waits : count (is_own k) core.held ≡ 0 = ap (count (is_own k)) shown.held ∙ held_fresh links.from known old.place shown.rows k old.queues.unexpected past shown.under_way.messages in
    let taken : count (taken_is (is_own k)) core.jobs ≡ 0 = ap (count (taken_is (is_own k))) shown.jobs ∙ taken_fresh links.from known old.place shown.rows old.slots k past shown.table shown.taken in
    omega (arith, waits, taken, count_append (taken_is (is_own k)) core.jobs (Unmatched old.place.endpoint ∷ []))

-- ---- ITS MESSAGE

-- it waits behind the others
own_kept : (links : Announcements) (e : CoreState) (known : List ℕ) (core : Core) (rows : List Row) (m : Message)
    (o : OwnSend) → Holding links e known core rows → m.sender ≡ e.place.endpoint →
    slice_get rows o.serial ≡ Some (row_of o.key (Unmatched e.place.endpoint)) →
    IsHeldAfter links rows (arrived_so e Kept (record e.queues { unexpected = e.queues.unexpected ++ own_as m o ∷ [] }))
    known core (arrived_at core (held_of links.from (own_as m o)) None)
own_kept links e known core rows m o h sender row =
    record {
      left = rows;
      holding = record {
        jobs = h.jobs;
        count = h.count;
        table = h.table;
        posted = h.posted;
        held = ap (λ (hs : List Held). hs ++ held_of links.from (own_as m o) ∷ []) h.held ∙
            sym (map-append (held_of links.from) e.queues.unexpected (own_as m o ∷ []));
        under_way =
            under_way_with links known e.place rows rows e.transfers e.transfers e.queues.unexpected
            (e.queues.unexpected ++ own_as m o ∷ []) h.under_way (same_rows rows) refl
            (pushed (λ (n : Message). IsFromLink links.from known e.place rows n n.body) e.queues.unexpected
            (own_as m o) h.under_way.messages (record { sender = sender; row = row }));
        taken = h.taken;
        knowing = h.knowing;
      };
      blocked = refl;
      sends = refl;
      waits = named_same rows;
    }

-- the receive with serial k takes it, and the send is over
own_matched : OutcomesAgree →
    (links : Announcements) (e : CoreState) (known : List ℕ) (core : Core) (rows : List Row) (m : Message) (o : OwnSend)
    (k key : ℕ) (p : Receive) → Holding links e known core rows →
    slice_get rows o.serial ≡ Some (row_of o.key (Unmatched e.place.endpoint)) → claims o.serial core ≡ 0 →
    IsMatchedTo links.from rows e.queues (own_as m o) k key p →
    IsHeldAfter links rows
    (arrived_so e
    (Matched (record { request = key; context = p.context; source = p.source; tag = p.tag }) (own_as m o))
    (after_arrival e.queues (own_as m o))) known core
    (arrived_at core (held_of links.from (own_as m o)) (Some (k, p)))
own_matched agree links e known core rows m o k key p h row none t =
    record {
      left = slice_set a.left o.serial (row_of o.key (Over ends.Sent));
      holding = own_ended links mid known between a.left o.serial o.key holding still unclaimed;
      blocked = refl;
      sends = refl;
      waits = λ q n. named_set a.left o.serial o.key (Unmatched e.place.endpoint) (Over ends.Sent) still (λ z. cc) q
          (a.waits q n);
    }
  where
    c : Contents
    c = o.elements

    -- the rank and its core before the send is over
    mid : CoreState
    mid = record e {
      slots = after_finish e.slots key (status_of (whole m c)) c;
      queues =
          after_arrival e.queues (own_as m o);
    }

    between : Core
    between = (arrived_at core (held_of links.from (whole m c)) (Some (k, p))).core

    a : Arrives links rows e.slots (after_finish e.slots key (status_of (whole m c)) c)
        (after_arrival e.queues (own_as m o)) core (arrived_at core (held_of links.from (whole m c)) (Some (k, p)))
    a = arrives_matched agree links rows e.slots (after_arrival e.queues (own_as m o)) core m c k key p h.jobs h.table
        (h.held ∙ ap (λ (ms : List Message). map (held_of links.from) ms) (sym t.unexpected)) t.row
        (λ x. t.posted (Over x) refl)

    still : slice_get a.left o.serial ≡ Some (row_of o.key (Unmatched e.place.endpoint))
    still = a.same.forth o.serial o.key (Unmatched e.place.endpoint) tt row

    holding : Holding links mid known between a.left
    holding = record {
      jobs = a.jobs;
      count = a.count ∙ h.count;
      table = a.table;
      posted = a.posted;
      held = a.held;
      under_way =
          under_way_with links known e.place rows a.left e.transfers e.transfers e.queues.unexpected
          (after_arrival e.queues (own_as m o)).unexpected h.under_way a.same refl
          (subst (λ (ms : List Message). AllByRecursion
          (λ (n : Message). IsFromLink links.from known e.place a.left n n.body) ms) (sym t.unexpected)
          (messages_keep links.from known e.place rows a.left e.queues.unexpected (keeps_same rows a.left a.same)
          h.under_way.messages));
      taken = a.taken known e.place h.taken;
      knowing = known_still e.place e.place known (knows core) (knows between) h.knowing refl a.known;
    }

    x : ends.Outcome
    x = ends.outcome p (full (held_of links.from (whole m c)) c.values)

    unclaimed : claims o.serial between ≡ 0
    unclaimed =
        let at : slice_get core.jobs k ≡ Some (Waiting p) = ap (λ (js : List Job). slice_get js k) h.jobs ∙ job_at rows k key (Waiting p) t.row in
        let both : count (is_own o.serial) core.held + count (taken_is (is_own o.serial)) core.jobs ≡ 0 = none in
        omega (arith, both, count_set (taken_is (is_own o.serial)) core.jobs k (Waiting p) (Over x) at)

-- A rank takes the message of its own send that waits, and its core takes it too
pub own_message_holds : ArrivalsMatch → OutcomesAgree →
    (links : Announcements) (e : CoreState) (known : List ℕ) (core : Core) (rows : List Row) (m : Message)
    (o : OwnSend) → Holding links e known core rows → m.sender ≡ e.place.endpoint →
    slice_get rows o.serial ≡ Some (row_of o.key (Unmatched e.place.endpoint)) → claims o.serial core ≡ 0 →
    IsHeldAfter links rows (rank.after_message e (own_as m o)) known core
    (arrived core (held_of links.from (own_as m o)))
unfolding rank.after_message
own_message_holds match agree links e known core rows m o h sender row none =
    go (match links.from rows e.queues message h.posted)
  where
    message : Message
    message = own_as m o

    oldest : (x : Option (ℕ × Receive)) → oldest_posted (held_of links.from message) (jobs_of rows) ≡ x →
        arrived core (held_of links.from message) ≡ arrived_at core (held_of links.from message) x
    oldest x is =
        ap (arrived_at core (held_of links.from message)) (ap (oldest_posted (held_of links.from message)) h.jobs ∙ is)

    become : (became : Arrival) (queues : State) (x : Option (ℕ × Receive)) → arrival_of e.queues message ≡ became →
        after_arrival e.queues message ≡ queues → oldest_posted (held_of links.from message) (jobs_of rows) ≡ x →
        IsHeldAfter links rows (arrived_so e became queues) known core
        (arrived_at core (held_of links.from message) x) →
        IsHeldAfter links rows (arrived_so e (arrival_of e.queues message) (after_arrival e.queues message)) known core
        (arrived core (held_of links.from message))
    become became queues x ba bq bx i =
        subst (λ (f : Effect). IsHeldAfter links rows
        (arrived_so e (arrival_of e.queues message) (after_arrival e.queues message)) known core f)
        (sym (oldest x bx))
        (subst (λ (b : Arrival). IsHeldAfter links rows (arrived_so e b (after_arrival e.queues message)) known core
        (arrived_at core (held_of links.from message) x)) (sym ba)
        (subst (λ (q : State). IsHeldAfter links rows (arrived_so e became q) known core
        (arrived_at core (held_of links.from message) x)) (sym bq) i))

    go : IsKept links.from rows e.queues message ⊎
        ((k : ℕ) × (key : ℕ) × (p : Receive) × IsMatchedTo links.from rows e.queues message k key p) →
        IsHeldAfter links rows (rank.after_message e message) known core (arrived core (held_of links.from message))
    go (inl kept) =
        become Kept (record e.queues { unexpected = e.queues.unexpected ++ message ∷ [] }) None kept.arrival kept.queues
        kept.core (own_kept links e known core rows m o h sender row)
    go (inr t) =
        become (Matched (record { request = t.1; context = t.2.context; source = t.2.source; tag = t.2.tag }) message)
        (after_arrival e.queues message) (Some (t.0, t.2)) t.3.arrival refl t.3.core
        (own_matched agree links e known core rows m o t.0 t.1 t.2 h row none t.3)
