-- What is under way stays: while rows change that are no large messages, and while others announce theirs.
use Rattle.std.proofs.Common.{◌≡◌, ◌≢◌, ℕ, zero, suc, List, [], ◌∷◌, ◌++◌, length, map, Option, Some, None, slice_get}
use Rattle.std.proofs.Common.{slice_set, refl, sym, ap, ap₂, ◌∙◌, subst, append-nil, ◌⊎◌, inl, inr}
use Rattle.std.specs.List.{AllByRecursion}
use Rattle.std.proofs.lemmas.Bool.{cases_eq}
use Rattle.vocabulary.specs.declared.endpoint.Endpoint.{Endpoint}
use Rattle.incarnation.specs.declared.place.Place.{Place}
use Rattle.match_queues.specs.declared.envelope.Body.{Body}
use Rattle.match_queues.specs.declared.envelope.Body.TheVariants as bodies
use Rattle.match_queues.specs.declared.envelope.Message.{Message}
use Rattle.point_to_point.specs.CoreState.{CoreState}
use Rattle.requests.specs.declared.table.TableEntry.{TableEntry}
use Rattle.requests.specs.declared.table.RequestProgress.{RequestProgress}
use Rattle.requests.specs.declared.table.RequestProgress.TheVariants.{Receiving, Finished}
use Rattle.requests.specs.declared.table.RequestProgress.TheVariants as progresses
use Rattle.requests.specs.declared.table.Request.{Request}
use Rattle.requests.specs.Completions.{without}
use Rattle.requests.specs.Table.{IsSet, slot_at}
use Rattle.rendezvous.specs.declared.offer.Offer.{Offer}
use Rattle.rendezvous.specs.declared.transfers.Numbers.{Numbers}
use Rattle.rendezvous.specs.Collections as rendezvous
use Rattle.rendezvous.specs.State as transfers
use Rattle.proof_pure_network.specs.Core.{Core}
use Rattle.proof_pure_network.specs.WaitingMessages as held
use Rattle.proof_pure_network.specs.WaitingMessages.{Held, Part}
use Rattle.proof_pure_network.specs.Jobs.{Job, Waiting, Collecting, Offering, Over, Closed, Probed, Unmatched}
use Rattle.proof_engine_view.specs.Frames.{endpoint_of}
use Rattle.proof_engine_view.specs.Rows.{Fits, Row, body_seen, held_of}
use Rattle.proof_engine_view.specs.Transfers.{Announcements, AnnouncementsGrow, Transfer}
use Rattle.proof_engine_view.specs.CoreViews.{IsShown}
use Rattle.proof_engine_view.specs.UnderWay.{AreTaken, AreUnderWay, IsCollectionOf, IsFromLink, IsNumbered, IsOfferOf}
use Rattle.proof_engine_view.specs.UnderWay.{IsTakenAt, IsTakenBy, IsTakenIf}
use Rattle.proof_engine_view.proofs.LastingViews.{begun_at, number_more, serial_more}
use Rattle.proof_engine_steps.specs.Steps.{OthersMayAnnounce}
use Rattle.proof_engine_steps.proofs.NamedRequests.{all_follow}
use Rattle.proof_engine_steps.proofs.TakenRows.{IsLarge, back_pushed, back_set, forth_pushed, forth_set, under_way_rows}
pub use Rattle.proof_engine_steps.proofs.TakenRows.{row_of}

-- ---- THE ROWS

-- the request's message is a large one under way, or one to the rank itself that waits for its match, or one that was
-- taken out
abbrev pub IsTransfer : Job → Type 0
IsTransfer (Waiting p) = ⊥
IsTransfer (Collecting p h got) = Unit {0}
IsTransfer (Offering d basic values) = Unit {0}
IsTransfer (Over x) = ⊥
IsTransfer Closed = ⊥
IsTransfer (Unmatched d) = Unit {0}
IsTransfer (Probed g None) = ⊥
IsTransfer (Probed g (Some h)) = Unit {0}

-- the request is that of a message: one to the rank itself that waits for its match, or one that was taken out
abbrev pub IsOfMessage : Job → Type 0
IsOfMessage (Waiting p) = ⊥
IsOfMessage (Collecting p h got) = ⊥
IsOfMessage (Offering d basic values) = ⊥
IsOfMessage (Over x) = ⊥
IsOfMessage Closed = ⊥
IsOfMessage (Unmatched d) = Unit {0}
IsOfMessage (Probed g None) = ⊥
IsOfMessage (Probed g (Some h)) = Unit {0}

-- it is under way
transfer_of : (job : Job) → IsOfMessage job → IsTransfer job
transfer_of (Waiting p) i = absurd i
transfer_of (Collecting p h got) i = absurd i
transfer_of (Offering d basic values) i = absurd i
transfer_of (Over x) i = absurd i
transfer_of Closed i = absurd i
transfer_of (Unmatched d) i = tt
transfer_of (Probed g None) i = absurd i
transfer_of (Probed g (Some h)) i = tt

-- all of these stay
abbrev pub Keeps : (rows rows' : List Row) → Type 0
Keeps rows rows' = (k key : ℕ) (job : Job) → IsOfMessage job → slice_get rows k ≡ Some (row_of key job) →
    slice_get rows' k ≡ Some (row_of key job)

-- both have the same of them
pub record SameTransfers (rows rows' : List Row) : Type 0 where
  pub forth : (k key : ℕ) (job : Job) → IsTransfer job → slice_get rows k ≡ Some (row_of key job) →
      slice_get rows' k ≡ Some (row_of key job)
  pub back : (k key : ℕ) (job : Job) → IsTransfer job → slice_get rows' k ≡ Some (row_of key job) →
      slice_get rows k ≡ Some (row_of key job)

-- the same are under way
pub keeps_same : (rows rows' : List Row) → SameTransfers rows rows' → Keeps rows rows'
keeps_same rows rows' same k key job i h = same.forth k key job (transfer_of job i) h

-- a message goes on to be from its link, or of its own send
pub from_rows : (from : Endpoint → List Transfer) (known : List ℕ) (p : Place) (rows rows' : List Row) (m : Message)
    (b : Body) → Keeps rows rows' → IsFromLink from known p rows m b → IsFromLink from known p rows' m b
from_rows from known p rows rows' m (bodies.Whole c) same i = tt
from_rows from known p rows rows' m (bodies.Own o) same i =
    record { sender = i.sender; row = same o.serial o.key (Unmatched p.endpoint) tt i.row }
from_rows from known p rows rows' m (bodies.Announced a) same i = i

-- so does one that was taken out
taken_if_rows : (from : Endpoint → List Transfer) (known : List ℕ) (p : Place) (rows rows' : List Row) (serial : ℕ)
    (group : Option (List ℕ)) (o : Option Message) → Keeps rows rows' → IsTakenIf from known p rows serial group o →
    IsTakenIf from known p rows' serial group o
taken_if_rows from known p rows rows' serial group None same i = tt
taken_if_rows from known p rows rows' serial group (Some m) same i =
    record {
      key = i.key;
      row = same serial i.key (Probed group (Some (held_of from m))) tt i.row;
      from_link =
          from_rows from known p rows rows' m m.body same i.from_link;
    }

taken_by_rows : (from : Endpoint → List Transfer) (known : List ℕ) (p : Place) (rows rows' : List Row) (serial : ℕ)
    (g : RequestProgress) → Keeps rows rows' → IsTakenBy from known p rows serial g →
    IsTakenBy from known p rows' serial g
taken_by_rows from known p rows rows' serial (Receiving w) same i = tt
taken_by_rows from known p rows rows' serial (progresses.Collecting w) same i = tt
taken_by_rows from known p rows rows' serial progresses.Offering same i = tt
taken_by_rows from known p rows rows' serial (progresses.TakenOut t) same i =
    taken_if_rows from known p rows rows' serial t.group t.message same i
taken_by_rows from known p rows rows' serial (Finished o) same i = tt

taken_at_rows : (from : Endpoint → List Transfer) (known : List ℕ) (p : Place) (rows rows' : List Row)
    (o : Option TableEntry) → Keeps rows rows' → IsTakenAt from known p rows o → IsTakenAt from known p rows' o
taken_at_rows from known p rows rows' None same i = tt
taken_at_rows from known p rows rows' (Some e) same i = taken_by_rows from known p rows rows' e.serial e.progress same i

-- so are all of the table
pub taken_same : (from : Endpoint → List Transfer) (known : List ℕ) (p : Place) (rows rows' : List Row)
    (slots : List (Option TableEntry)) → Keeps rows rows' → AreTaken from known p rows slots →
    AreTaken from known p rows' slots
taken_same from known p rows rows' slots same all key =
    taken_at_rows from known p rows rows' (slot_at slots key) same (all key)

-- and where one slot changes, those of all others
pub taken_set : (from : Endpoint → List Transfer) (known : List ℕ) (p : Place) (rows : List Row)
    (slots slots' : List (Option TableEntry)) (key : ℕ) (s : Option TableEntry) → IsSet slots slots' key s →
    AreTaken from known p rows slots →
    IsTakenAt from known p rows s → AreTaken from known p rows slots'
taken_set from known p rows slots slots' key s set all here k = go (cases_eq k key)
  where
    go : (k ≡ key) ⊎ (k ≢ key) → IsTakenAt from known p rows (slot_at slots' k)
    go (inl e) =
        subst (λ (n : ℕ). IsTakenAt from known p rows (slot_at slots' n)) (sym e)
        (subst (IsTakenAt from known p rows) (sym set.changed) here)
    go (inr n) = subst (IsTakenAt from known p rows) (sym (set.others k n)) (all k)

-- a slot is set, whatever stood in it
slot_set : (P : Option TableEntry → Type 0) (slots : List (Option TableEntry)) (key : ℕ) (s : Option TableEntry) →
    ((k : ℕ) → P (slot_at slots k)) → P s → (k : ℕ) → P (slot_at (slice_set slots key s) k)
slot_set P [] key s all here k = all k
slot_set P (x ∷ xs) zero s all here zero = here
slot_set P (x ∷ xs) zero s all here (suc k) = all (suc k)
slot_set P (x ∷ xs) (suc i) s all here zero = all zero
slot_set P (x ∷ xs) (suc i) s all here (suc k) = slot_set P xs i s (λ j. all (suc j)) here k

-- requests are used up
pub taken_without : (from : Endpoint → List Transfer) (known : List ℕ) (p : Place) (rows : List Row)
    (slots : List (Option TableEntry)) (used : List Request) → AreTaken from known p rows slots →
    AreTaken from known p rows (without slots used)
taken_without from known p rows slots [] all = all
taken_without from known p rows slots (q ∷ qs) all =
    taken_without from known p rows (slice_set slots q.key None) qs
    (slot_set (IsTakenAt from known p rows) slots q.key None all tt)

-- a large message is under way
transfer_of_large : (job : Job) → IsLarge job → IsTransfer job
transfer_of_large (Waiting p) i = absurd i
transfer_of_large (Collecting p h got) i = tt
transfer_of_large (Offering d basic values) i = tt
transfer_of_large (Over x) i = absurd i
transfer_of_large Closed i = absurd i
transfer_of_large (Unmatched d) i = absurd i
transfer_of_large (Probed g h) i = absurd i

-- so the same is under way
pub under_way_same : (a : Announcements) (known : List ℕ) (p : Place) (rows rows' : List Row) (t : transfers.State)
    (ms : List Message) → SameTransfers rows rows' → AreUnderWay a known p rows t ms
    → AreUnderWay a known p rows' t ms
under_way_same a known p rows rows' t ms same u =
    under_way_rows a known p rows rows' t ms ms u (λ n y j i h. same.forth n y j (transfer_of_large j i) h)
    (λ n y j i h. same.back n y j (transfer_of_large j i) h)
    (λ k key d h. u.unmatched k key d (same.back k key (Unmatched d) tt h))
    (all_follow (λ (m : Message). IsFromLink a.from known p rows m m.body)
    (λ (m : Message). IsFromLink a.from known p rows' m m.body)
    (λ m i. from_rows a.from known p rows rows' m m.body (keeps_same rows rows' same) i) ms u.messages)

-- a request that is none of them becomes whatever
pub keeps_set : (rows : List Row) (k key : ℕ) (job job' : Job) → slice_get rows k ≡ Some (row_of key job) →
    (IsOfMessage job → ⊥) → Keeps rows (slice_set rows k (row_of key job'))
keeps_set rows k key job job' at none = forth_set IsOfMessage rows k key job job' at none

-- the request is of no message that was taken out
abbrev pub IsUntaken : Job → Type 0
IsUntaken (Waiting p) = Unit {0}
IsUntaken (Collecting p h got) = Unit {0}
IsUntaken (Offering d basic values) = Unit {0}
IsUntaken (Over x) = Unit {0}
IsUntaken Closed = Unit {0}
IsUntaken (Unmatched d) = Unit {0}
IsUntaken (Probed g h) = ⊥

-- so how far it is says nothing of one
pub untaken : (from : Endpoint → List Transfer) (known : List ℕ) (p : Place) (rows : List Row) (serial : ℕ)
    (g : RequestProgress) (job : Job) → Fits g job → IsUntaken job → IsTakenBy from known p rows serial g
untaken from known p rows serial (Receiving w) job f u = tt
untaken from known p rows serial (progresses.Collecting w) job f u = tt
untaken from known p rows serial progresses.Offering job f u = tt
untaken from known p rows serial (progresses.TakenOut t) (Waiting x) f u = absurd f
untaken from known p rows serial (progresses.TakenOut t) (Collecting x h got) f u = absurd f
untaken from known p rows serial (progresses.TakenOut t) (Offering d basic values) f u = absurd f
untaken from known p rows serial (progresses.TakenOut t) (Over x) f u = absurd f
untaken from known p rows serial (progresses.TakenOut t) Closed f u = absurd f
untaken from known p rows serial (progresses.TakenOut t) (Unmatched d) f u = absurd f
untaken from known p rows serial (progresses.TakenOut t) (Probed g h) f u = absurd u
untaken from known p rows serial (Finished o) job f u = tt

-- a request of none that becomes one of none, in its row and its slot
pub taken_changed : (from : Endpoint → List Transfer) (known : List ℕ) (p : Place) (rows : List Row)
    (slots slots' : List (Option TableEntry)) (k key : ℕ) (job job' : Job) (after : TableEntry) →
    AreTaken from known p rows slots →
    slice_get rows k ≡ Some (row_of key job) → (IsOfMessage job → ⊥) → IsSet slots slots' key (Some after) →
    Fits after.progress job' → IsUntaken job' → AreTaken from known p (slice_set rows k (row_of key job')) slots'
taken_changed from known p rows slots slots' k key job job' after taken at none set fits u =
    taken_set from known p (slice_set rows k (row_of key job')) slots slots' key (Some after) set
    (taken_same from known p rows (slice_set rows k (row_of key job')) slots (keeps_set rows k key job job' at none)
    taken)
    (untaken from known p (slice_set rows k (row_of key job')) after.serial after.progress job' fits u)

-- so all messages go on to be from their links
pub messages_keep : (from : Endpoint → List Transfer) (known : List ℕ) (p : Place) (rows rows' : List Row)
    (ms : List Message) → Keeps rows rows' →
    AllByRecursion (λ (m : Message). IsFromLink from known p rows m m.body) ms →
    AllByRecursion (λ (m : Message). IsFromLink from known p rows' m m.body) ms
messages_keep from known p rows rows' ms keeps all =
    all_follow (λ (m : Message). IsFromLink from known p rows m m.body)
    (λ (m : Message). IsFromLink from known p rows' m m.body)
    (λ m i. from_rows from known p rows rows' m m.body keeps i) ms all

-- one more request
pub keeps_pushed : (rows : List Row) (r : Row) → Keeps rows (rows ++ r ∷ [])
keeps_pushed rows r = forth_pushed IsOfMessage rows r

-- one more request that is none of them
pub same_pushed : (rows : List Row) (key : ℕ) (job : Job) →
    (IsTransfer job → ⊥) → SameTransfers rows (rows ++ row_of key job ∷ [])
same_pushed rows key job small =
    record { forth = forth_pushed IsTransfer rows (row_of key job); back = back_pushed IsTransfer rows key job small }

-- a request that is none of them and becomes none
pub same_set : (rows : List Row) (k key : ℕ) (job job' : Job) → slice_get rows k ≡ Some (row_of key job) →
    (IsTransfer job → ⊥) → (IsTransfer job' → ⊥) → SameTransfers rows (slice_set rows k (row_of key job'))
same_set rows k key job job' at small small' =
    record {
      forth = forth_set IsTransfer rows k key job job' at small;
      back =
          back_set IsTransfer rows k key job job' at small';
    }

-- ---- WHAT OTHERS ANNOUNCE

-- where nothing is announced
pub after_grows_not : (a : Announcements) → AnnouncementsGrow a a
after_grows_not a = record { to = λ d. ([], append-nil (a.to d)); from = λ s. ([], append-nil (a.from s)) }

-- an announced message goes on to be from its link
pub from_more : (old new : Announcements) (known : List ℕ) (p : Place) (rows : List Row) (m : Message) (b : Body) →
    AnnouncementsGrow old new → IsFromLink old.from known p rows m b → IsFromLink new.from known p rows m b
from_more old new known p rows m (bodies.Whole c) g i = tt
from_more old new known p rows m (bodies.Own o) g i = i
from_more old new known p rows m (bodies.Announced a) g i =
    record {
      sender = i.sender;
      there = i.there;
      apart = i.apart;
      announced =
          number_more (old.from m.sender) (new.from m.sender) a.transfer a.basic a.count (g.from m.sender) i.announced;
      width = i.width;
    }

-- and is held as it was
body_same : (old new : Announcements) (known : List ℕ) (p : Place) (rows : List Row) (m : Message) (b : Body) →
    AnnouncementsGrow old new → IsFromLink old.from known p rows m b → body_seen (new.from m.sender) b ≡
    body_seen (old.from m.sender) b
body_same old new known p rows m (bodies.Whole c) g i = refl
body_same old new known p rows m (bodies.Own o) g i = refl
body_same old new known p rows m (bodies.Announced a) g i =
    ap (λ (k : ℕ). Part k a.count)
    (serial_more (old.from m.sender) (new.from m.sender) a.transfer
    (record { serial = i.announced.serial; basic = a.basic; count = a.count }) (g.from m.sender) i.announced.there)

held_same : (old new : Announcements) (known : List ℕ) (p : Place) (rows : List Row) (ms : List Message) →
    AnnouncementsGrow old new → AllByRecursion (λ (m : Message). IsFromLink old.from known p rows m m.body) ms
    → map (held_of old.from) ms ≡ map (held_of new.from) ms
held_same old new known p rows [] g all = refl
held_same old new known p rows (m ∷ ms) g all =
    ap₂ (λ (b : held.Body) (hs : List Held). record (held_of old.from m) { body = b } ∷ hs)
    (sym (body_same old new known p rows m m.body g all.0)) (held_same old new known p rows ms g all.1)

-- so does one that was taken out
taken_if_more : (old new : Announcements) (known : List ℕ) (p : Place) (rows : List Row) (serial : ℕ)
    (group : Option (List ℕ)) (o : Option Message) → AnnouncementsGrow old new →
    IsTakenIf old.from known p rows serial group o →
    IsTakenIf new.from known p rows serial group o
taken_if_more old new known p rows serial group None g i = tt
taken_if_more old new known p rows serial group (Some m) g i =
    record {
      key = i.key;
      row = i.row ∙
          ap (λ (b : held.Body). Some (row_of i.key (Probed group (Some (record (held_of old.from m) { body = b })))))
          (sym (body_same old new known p rows m m.body g i.from_link));
      from_link = from_more old new known p rows m m.body g i.from_link;
    }

taken_by_more : (old new : Announcements) (known : List ℕ) (p : Place) (rows : List Row) (serial : ℕ)
    (x : RequestProgress) → AnnouncementsGrow old new → IsTakenBy old.from known p rows serial x →
    IsTakenBy new.from known p rows serial x
taken_by_more old new known p rows serial (Receiving w) g i = tt
taken_by_more old new known p rows serial (progresses.Collecting w) g i = tt
taken_by_more old new known p rows serial progresses.Offering g i = tt
taken_by_more old new known p rows serial (progresses.TakenOut t) g i =
    taken_if_more old new known p rows serial t.group t.message g i
taken_by_more old new known p rows serial (Finished o) g i = tt

taken_at_more : (old new : Announcements) (known : List ℕ) (p : Place) (rows : List Row) (o : Option TableEntry) →
    AnnouncementsGrow old new → IsTakenAt old.from known p rows o → IsTakenAt new.from known p rows o
taken_at_more old new known p rows None g i = tt
taken_at_more old new known p rows (Some e) g i = taken_by_more old new known p rows e.serial e.progress g i

-- so do all of the table
pub taken_more : (old new : Announcements) (known : List ℕ) (p : Place) (rows : List Row)
    (slots : List (Option TableEntry)) → AnnouncementsGrow old new → AreTaken old.from known p rows slots →
    AreTaken new.from known p rows slots
taken_more old new known p rows slots g all key = taken_at_more old new known p rows (slot_at slots key) g (all key)

-- whatever the numbers of the sessions become, where they count what is announced now
under_way_counted : (old new : Announcements) (known : List ℕ) (p : Place) (rows : List Row) (t : transfers.State)
    (ns : List Numbers) (ms : List Message) → AnnouncementsGrow old new → IsNumbered new.to known p ns
    → AreUnderWay old known p rows t ms → AreUnderWay new known p rows (record t { numbers = ns }) ms
under_way_counted old new known p rows t ns ms g numbered u =
    record {
      numbered = numbered;
      offers = all_follow (IsOfferOf old.to known rows) (IsOfferOf new.to known rows) offer t.offers u.offers;
      offered = u.offered;
      offers_apart = u.offers_apart;
      collections =
          all_follow (IsCollectionOf old.from known rows) (IsCollectionOf new.from known rows) collection t.collections
          u.collections;
      collected = u.collected;
      collections_apart = u.collections_apart;
      unmatched = u.unmatched;
      messages =
          all_follow (λ (m : Message). IsFromLink old.from known p rows m m.body)
          (λ (m : Message). IsFromLink new.from known p rows m m.body)
          (λ m i. from_more old new known p rows m m.body g i) ms u.messages;
    }
  where
    offer : (o : Offer) → IsOfferOf old.to known rows o → IsOfferOf new.to known rows o
    offer o i = record {
      serial = i.serial;
      row = i.row;
      announced = begun_at (old.to (endpoint_of known o.target)) (new.to (endpoint_of known o.target)) o.transfer
          (record { serial = i.serial; basic = o.elements.basic; count = length o.elements.values })
          (g.to (endpoint_of known o.target)) i.announced;
      within = i.within;
      limit = i.limit;
    }

    collection : (c : rendezvous.Collecting) → IsCollectionOf old.from known rows c →
        IsCollectionOf new.from known rows c
    collection c i = record {
      serial = i.serial;
      receive = i.receive;
      message = i.message;
      got = i.got;
      row = i.row;
      sender = i.sender;
      transfer = i.transfer;
      announced =
          begun_at (old.from i.message.sender) (new.from i.message.sender) c.transfer i.transfer
          (g.from i.message.sender) i.announced;
      body = i.body;
      basic = i.basic;
      basic_is = i.basic_is;
      total = i.total;
      bytes = i.bytes;
      within = i.within;
    }

-- a core goes on to hold what it held as transfers are counted
pub shown_counted : (old new : Announcements) (c : CoreState) (known : List ℕ) (core : Core) (ns : List Numbers) →
    IsShown old c known core → AnnouncementsGrow old new → IsNumbered new.to known c.place ns →
    IsShown new (record c { transfers = record c.transfers { numbers = ns } }) known core
shown_counted old new c known core ns shown g numbered =
    record {
      rows = shown.rows;
      jobs = shown.jobs;
      count = shown.count;
      table = shown.table;
      posted = shown.posted;
      held = shown.held ∙ held_same old new known c.place shown.rows c.queues.unexpected g shown.under_way.messages;
      under_way =
          under_way_counted old new known c.place shown.rows c.transfers ns c.queues.unexpected g numbered
          shown.under_way;
      taken = taken_more old new known c.place shown.rows c.slots g shown.taken;
      blocked = shown.blocked;
      limited = shown.limited;
      width = shown.width;
      known_alike = shown.known_alike;
      itself = shown.itself;
    }

-- the law of what others announce
pub others_may_announce : OthersMayAnnounce
others_may_announce old new c known core shown g to =
    shown_counted old new c known core c.transfers.numbers shown g
    (record {
      width = shown.under_way.numbered.width;
      begun = λ rank there apart. shown.under_way.numbered.begun rank there apart ∙
          ap (λ (ts : List Transfer). length ts) (sym (to (endpoint_of known rank)));
      most = shown.under_way.numbered.most;
    })
