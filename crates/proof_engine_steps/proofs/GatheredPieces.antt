-- A piece of data that is due: the collection that it goes on with, and what is under way once it is there, be it the
-- last one or not.
use Rattle.std.proofs.Common.{◌≡◌, ◌≢◌, ℕ, ◌*◌, ◌==◌, true, List, ◌++◌, length, remove, Option, Some, slice_get}
use Rattle.std.proofs.Common.{slice_set, sym, ap, ap₂, ◌∙◌, subst, ◌⊎◌, inl, inr}
use Rattle.std.specs.List.{AllByRecursion}
use Rattle.std.proofs.lemmas.Grind.{flat_map-append}
use Rattle.std.proofs.lemmas.List.{map-set}
use Rattle.std.proofs.lemmas.Option.{same_Some}
use Rattle.vocabulary.specs.BasicTypes.{size_of}
use Rattle.vocabulary.specs.declared.basic_type.BasicType.{BasicType}
use Rattle.vocabulary.specs.declared.endpoint.Endpoint.{Endpoint}
use Rattle.datatypes.specs.ContentLaws.{length-bytes_of, sizes}
use Rattle.datatypes.specs.Contents.{AreWithin, bytes_of}
use Rattle.datagram.specs.Spellings.{DataText}
use Rattle.incarnation.specs.declared.place.Place.{Place}
use Rattle.match_queues.specs.declared.envelope.Message.{Message}
use Rattle.perfect_queues.proofs.ListLemmas.{get_set_other}
use Rattle.perfect_queues.specs.Outcomes as machine
use Rattle.perfect_queues.specs.Receives.{Receive}
use Rattle.rendezvous.specs.Collections as rendezvous
use Rattle.rendezvous.specs.Collections.{is_whole, with_piece}
use Rattle.rendezvous.specs.State as transfers
use Rattle.rendezvous.specs.State.{blank, collection_for, is_due}
use Rattle.rendezvous.specs.declared.offer.Offer.{Offer}
use Rattle.requests.specs.declared.table.TableEntry.{TableEntry}
use Rattle.proof_pure_network.proofs.JobLemmas.{get_set_same}
use Rattle.proof_pure_network.specs.Announcements.{IsIn}
use Rattle.proof_pure_network.specs.Frames.{Data, Frame}
use Rattle.proof_pure_network.specs.WaitingMessages as held
use Rattle.proof_pure_network.specs.WaitingMessages.{Held, count_of}
use Rattle.proof_pure_network.specs.Jobs.{Job, Collecting, Offering, Over, Unmatched}
use Rattle.proof_engine_view.specs.Frames.{endpoint_of}
use Rattle.proof_engine_view.specs.Rows.{IsTable, Row}
use Rattle.proof_engine_view.specs.FrameViews.{IsData}
use Rattle.proof_engine_view.specs.Transfers.{Announcements, Transfer}
use Rattle.proof_engine_view.specs.UnderWay.{AreApart, AreUnderWay, IsCollectionOf, IsOfferOf, collection_keys}
use Rattle.proof_engine_view.specs.UnderWay.{offer_keys}
use Rattle.proof_engine_steps.proofs.DueData.{IsDueFor, collection_there, same_count, whole_same, within_append}
use Rattle.proof_engine_steps.proofs.ListsApart.{all_at, all_from, apart_place, apart_removed, at_set, in_map, left_in}
use Rattle.proof_engine_steps.proofs.ListsApart.{map_removed, removed_all, set_all, set_still}
use Rattle.proof_engine_steps.proofs.Tables.{one_request}
use Rattle.proof_engine_steps.proofs.UnderWay.{keeps_set, messages_keep, row_of}

-- ---- THE COLLECTION

-- a piece goes on with this collection, which is that of a row, and this is its frame in the network
pub record IsPieceOf (from : Endpoint → List Transfer) (known : List ℕ) (rows : List Row)
    (cs : List rendezvous.Collecting) (s : Endpoint) (d : DataText) (frame : Frame) : Type 0 where
  pub place : ℕ
  pub collection : rendezvous.Collecting
  pub found : collection_for s.rank d.transfer cs ≡ Some place
  pub there : slice_get cs place ≡ Some collection
  pub stands : IsCollectionOf from known rows collection
  pub values : List ℕ
  pub sender : stands.message.sender ≡ s
  pub frame_is : frame ≡ Data stands.transfer.serial (length stands.got) values
  -- both have the same once it is there
  pub bytes : collection.bytes ++ d.bytes ≡ bytes_of (size_of stands.transfer.basic) (stands.got ++ values)
  pub within : AreWithin (size_of stands.transfer.basic) (stands.got ++ values)

-- a piece that is due does
pub piece_there : (from : Endpoint → List Transfer) (known : List ℕ) (rows : List Row) (cs : List rendezvous.Collecting)
    (s : Endpoint) (d : DataText) (frame : Frame) → is_due cs s.rank d.transfer d.offset d.bytes ≡ true →
    AllByRecursion (IsCollectionOf from known rows) cs → s ≡ endpoint_of known s.rank → IsData (from s) d frame →
    IsPieceOf from known rows cs s d frame
piece_there from known rows cs s d frame due all known_so i =
    record {
      place = x.place;
      collection = x.collection;
      found = x.found;
      there = x.there;
      stands = y;
      values = i.values;
      sender = sender;
      frame_is = i.frame_is ∙ ap₂ (λ (t : Transfer) (o : ℕ). Data t.serial o i.values) same offset;
      bytes = ap (λ (bs : List ℕ). bs ++ d.bytes) y.bytes
          ∙ (ap (λ (bs : List ℕ). bytes_of size y.got ++ bs)
          (i.bytes ∙ ap (λ (t : Transfer). bytes_of (size_of t.basic) i.values) same) ∙
          sym (flat_map-append _ y.got i.values));
      within = within_append size y.got i.values y.within
          (subst (λ (t : Transfer). AreWithin (size_of t.basic) i.values) same i.within);
    }
  where
    x : IsDueFor cs s.rank d.transfer d.offset
    x = collection_there cs s.rank d.transfer d.offset d.bytes due

    y : IsCollectionOf from known rows x.collection
    y = all_at (IsCollectionOf from known rows) cs x.place x.collection all x.there

    size : ℕ
    size = size_of y.transfer.basic

    sender : y.message.sender ≡ s
    sender = y.sender ∙ (ap (endpoint_of known) x.source_is ∙ sym known_so)

    same : i.transfer ≡ y.transfer
    same = same_Some i.transfer y.transfer
        (sym i.announced ∙
        (ap (λ (e : Endpoint). slice_get (from e) d.transfer) (sym sender) ∙
        (ap (slice_get (from y.message.sender)) (sym x.transfer_is) ∙ y.announced)))

    offset : i.offset ≡ length y.got
    offset = same_count size i.offset (length y.got) (sizes y.transfer.basic).positive
        (ap (λ (t : Transfer). i.offset * size_of t.basic) (sym same) ∙
        (sym i.place ∙ (x.offset_is ∙ (ap (λ (bs : List ℕ). length bs) y.bytes ∙ length-bytes_of size y.got))))

-- the collection with the piece
abbrev pub with_it : rendezvous.Collecting → DataText → rendezvous.Collecting
with_it c d = with_piece c d.bytes

-- all bytes are there where all values are
pub whole_alike : (from : Endpoint → List Transfer) (known : List ℕ) (rows : List Row) (cs : List rendezvous.Collecting)
    (s : Endpoint) (d : DataText) (frame : Frame) (x : IsPieceOf from known rows cs s d frame) →
    is_whole (with_it x.collection d) ≡ (length (x.stands.got ++ x.values) == count_of x.stands.message.body)
whole_alike from known rows cs s d frame x =
    ap₂ (λ (n m : ℕ). n == m) (ap (λ (bs : List ℕ). length bs) x.bytes ∙
    length-bytes_of size (x.stands.got ++ x.values)) x.stands.total
    ∙ (whole_same size (length (x.stands.got ++ x.values)) x.stands.transfer.count
    (sizes x.stands.transfer.basic).positive
    ∙ ap (λ (b : held.Body). length (x.stands.got ++ x.values) == count_of b) (sym x.stands.body))
  where
    size : ℕ
    size = size_of x.stands.transfer.basic

-- ---- WHAT STAYS

-- an offer's row isn't that of a receive that collects
offer_stays : (to : Endpoint → List Transfer) (known : List ℕ) (rows : List Row) (k key : ℕ) (p : Receive) (h : Held)
    (got : List ℕ) (job : Job) → slice_get rows k ≡ Some (row_of key (Collecting p h got)) →
    (o : Offer) → IsOfferOf to known rows o → IsOfferOf to known (slice_set rows k (row_of key job)) o
offer_stays to known rows k key p h got job here o i =
    record {
      serial = i.serial;
      row = get_set_other rows k i.serial (row_of key job) (λ e. apart (sym e)) ∙ i.row;
      announced = i.announced;
      within = i.within;
      limit = i.limit;
    }
  where
    mine : Row
    mine = row_of o.request (Offering (endpoint_of known o.target) o.elements.basic o.elements.values)

    apart : i.serial ≢ k
    apart e =
        let r : mine ≡ row_of key (Collecting p h got) = same_Some mine (row_of key (Collecting p h got)) (sym i.row ∙ (ap (slice_get rows) e ∙ here)) in
        let j : Offering (endpoint_of known o.target) o.elements.basic o.elements.values ≡ Collecting p h got = ap (λ (x : Row). x.job) r in
        absurd cc

-- a collection with another row stays
collection_stays : (from : Endpoint → List Transfer) (known : List ℕ) (rows : List Row) (k : ℕ) (r : Row)
    (c : rendezvous.Collecting) → (i : IsCollectionOf from known rows c) → i.serial ≢ k →
    IsCollectionOf from known (slice_set rows k r) c
collection_stays from known rows k r c i n =
    record {
      serial = i.serial;
      receive = i.receive;
      message = i.message;
      got = i.got;
      row = get_set_other rows k i.serial r (λ e. n (sym e)) ∙ i.row;
      sender = i.sender;
      transfer = i.transfer;
      announced = i.announced;
      body = i.body;
      basic = i.basic;
      basic_is = i.basic_is;
      total = i.total;
      bytes = i.bytes;
      within = i.within;
    }

-- at another place stands a collection with another row
other_serial : (from : Endpoint → List Transfer) (known : List ℕ) (rows : List Row) (cs : List rendezvous.Collecting)
    (place j : ℕ) (c x : rendezvous.Collecting) → AreApart (collection_keys cs) → slice_get cs place ≡ Some c →
    (i : IsCollectionOf from known rows c) → j ≢ place → slice_get cs j ≡ Some x →
    (y : IsCollectionOf from known rows x) → y.serial ≢ i.serial
other_serial from known rows cs place j c x apart there i n at y e =
    n (apart_place (collection_keys cs) j place x.request apart here also)
  where
    theirs : Row
    theirs = row_of x.request (Collecting y.receive y.message y.got)

    mine : Row
    mine = row_of c.request (Collecting i.receive i.message i.got)

    keys : x.request ≡ c.request
    keys = ap (λ (r : Row). r.key) (same_Some theirs mine (sym y.row ∙ (ap (slice_get rows) e ∙ i.row)))

    here : slice_get (collection_keys cs) j ≡ Some x.request
    here = in_map (λ (z : rendezvous.Collecting). z.request) cs j x at

    also : slice_get (collection_keys cs) place ≡ Some x.request
    also = in_map (λ (z : rendezvous.Collecting). z.request) cs place c there ∙ ap (λ (k : ℕ). Some k) (sym keys)

-- ---- WHAT IS UNDER WAY AFTERWARDS

-- a piece that isn't the last
pub more_under_way : (a : Announcements) (known : List ℕ) (p : Place) (rows : List Row) (t : transfers.State)
    (ms : List Message) (s : Endpoint) (d : DataText) (frame : Frame)
    (x : IsPieceOf a.from known rows t.collections s d frame) →
    AreUnderWay a known p rows t ms →
    AreUnderWay a known p
    (slice_set rows x.stands.serial
    (row_of x.collection.request (Collecting x.stands.receive x.stands.message (x.stands.got ++ x.values))))
    (record t { collections = slice_set t.collections x.place (with_it x.collection d) }) ms
more_under_way a known p rows t ms s d frame x u =
    record {
      numbered = u.numbered;
      offers = all_from (IsOfferOf a.to known left) t.offers
          (λ i o at. offer_stays a.to known rows k key y.receive y.message y.got job y.row o
          (all_at (IsOfferOf a.to known rows) t.offers i o u.offers at));
      offered =
          λ n other e basic values at. offered n other e basic values
          (at_set rows k n new old (row_of other (Offering e basic values)) y.row at);
      offers_apart = u.offers_apart;
      collections =
          set_all (IsCollectionOf a.from known left) cs x.place (with_it x.collection d) x.collection x.there mine
          (λ j c n at. let z : IsCollectionOf a.from known rows c = all_at (IsCollectionOf a.from known rows) cs j c u.collections at in
          collection_stays a.from known rows k new c z
          (other_serial a.from known rows cs x.place j x.collection c u.collections_apart x.there y n at z));
      collected =
          λ n other r h got at. subst (λ (ks : List ℕ). IsIn other ks) (sym keys_same)
          (collected n other r h got (at_set rows k n new old (row_of other (Collecting r h got)) y.row at));
      collections_apart = subst AreApart (sym keys_same) u.collections_apart;
      unmatched = λ n other e at. unmatched n other e (at_set rows k n new old (row_of other (Unmatched e)) y.row at);
      messages =
          messages_keep a.from known p rows left ms
          (keeps_set rows k key (Collecting y.receive y.message y.got) job y.row (λ i. i)) u.messages;
    }
  where
    cs : List rendezvous.Collecting
    cs = t.collections

    y : IsCollectionOf a.from known rows x.collection
    y = x.stands

    k : ℕ
    k = x.stands.serial

    key : ℕ
    key = x.collection.request

    job : Job
    job = Collecting x.stands.receive x.stands.message (x.stands.got ++ x.values)

    old : Row
    old = row_of x.collection.request (Collecting x.stands.receive x.stands.message x.stands.got)

    new : Row
    new = row_of x.collection.request (Collecting x.stands.receive x.stands.message (x.stands.got ++ x.values))

    left : List Row
    left = slice_set rows x.stands.serial
        (row_of x.collection.request (Collecting x.stands.receive x.stands.message (x.stands.got ++ x.values)))

    mine : IsCollectionOf a.from known left (with_it x.collection d)
    mine = record {
      serial = k;
      receive = y.receive;
      message = y.message;
      got = y.got ++ x.values;
      row = get_set_same rows k old new y.row;
      sender = y.sender;
      transfer = y.transfer;
      announced = y.announced;
      body = y.body;
      basic = y.basic;
      basic_is = y.basic_is;
      total = y.total;
      bytes = x.bytes;
      within = x.within;
    }

    keys_same : collection_keys (slice_set t.collections x.place (with_it x.collection d)) ≡
        collection_keys t.collections
    keys_same = map-set (λ (c : rendezvous.Collecting). c.request) cs x.place (with_it x.collection d)
        ∙ set_still (collection_keys cs) x.place key
        (in_map (λ (c : rendezvous.Collecting). c.request) cs x.place x.collection x.there)

    offered : (n other : ℕ) (e : Endpoint) (basic : BasicType) (values : List ℕ) →
        ((n ≡ k) × (new ≡ row_of other (Offering e basic values))) ⊎
        ((n ≢ k) × (slice_get rows n ≡ Some (row_of other (Offering e basic values)))) →
        IsIn other (offer_keys t.offers)
    offered n other e basic values (inl h) = let j : Collecting y.receive y.message (y.got ++ x.values) ≡ Offering e basic values = ap (λ (r : Row). r.job) h.1 in absurd cc
    offered n other e basic values (inr h) = u.offered n other e basic values h.1

    collected : (n other : ℕ) (r : Receive) (h : Held) (got : List ℕ) →
        ((n ≡ k) × (new ≡ row_of other (Collecting r h got))) ⊎
        ((n ≢ k) × (slice_get rows n ≡ Some (row_of other (Collecting r h got)))) →
        IsIn other (collection_keys t.collections)
    collected n other r h got (inl q) = (
      x.place,
      in_map (λ (c : rendezvous.Collecting). c.request) cs x.place x.collection x.there ∙
          ap (λ (z : ℕ). Some z) (ap (λ (v : Row). v.key) q.1),
    )
    collected n other r h got (inr q) = u.collected n other r h got q.1

    unmatched : (n other : ℕ) (e : Endpoint) → ((n ≡ k) × (new ≡ row_of other (Unmatched e))) ⊎
        ((n ≢ k) × (slice_get rows n ≡ Some (row_of other (Unmatched e)))) → e ≡ p.endpoint
    unmatched n other e (inl q) = let j : job ≡ Unmatched e = ap (λ (v : Row). v.job) q.1 in absurd cc
    unmatched n other e (inr q) = u.unmatched n other e q.1

-- the last piece
pub last_under_way : (a : Announcements) (known : List ℕ) (p : Place) (slots : List (Option TableEntry))
    (rows : List Row) (t : transfers.State) (ms : List Message) (s : Endpoint) (d : DataText) (frame : Frame)
    (x : IsPieceOf a.from known rows t.collections s d frame) (o : machine.Outcome) → IsTable slots rows →
    AreUnderWay a known p rows t ms →
    AreUnderWay a known p (slice_set rows x.stands.serial (row_of x.collection.request (Over o)))
    (record t { collections = remove t.collections x.place }) ms
last_under_way a known p slots rows t ms s d frame x o table u =
    record {
      numbered = u.numbered;
      offers = all_from (IsOfferOf a.to known left) t.offers
          (λ i f at. offer_stays a.to known rows k key y.receive y.message y.got (Over o) y.row f
          (all_at (IsOfferOf a.to known rows) t.offers i f u.offers at));
      offered =
          λ n other e basic values at. offered n other e basic values
          (at_set rows k n (row_of key (Over o)) old (row_of other (Offering e basic values)) y.row at);
      offers_apart = u.offers_apart;
      collections = removed_all (IsCollectionOf a.from known left) cs x.place
          (λ j c n at. let z : IsCollectionOf a.from known rows c = all_at (IsCollectionOf a.from known rows) cs j c u.collections at in
          collection_stays a.from known rows k (row_of key (Over o)) c z
          (other_serial a.from known rows cs x.place j x.collection c u.collections_apart x.there y n at z));
      collected =
          λ n other r h got at. subst (λ (ks : List ℕ). IsIn other ks) (sym keys_left)
          (collected n other r h got
          (at_set rows k n (row_of key (Over o)) old (row_of other (Collecting r h got)) y.row at));
      collections_apart =
          subst AreApart (sym keys_left) (apart_removed (collection_keys cs) x.place u.collections_apart);
      unmatched =
          λ n other e at. unmatched n other e
          (at_set rows k n (row_of key (Over o)) old (row_of other (Unmatched e)) y.row at);
      messages =
          messages_keep a.from known p rows left ms
          (keeps_set rows k key (Collecting y.receive y.message y.got) (Over o) y.row (λ i. i)) u.messages;
    }
  where
    cs : List rendezvous.Collecting
    cs = t.collections

    y : IsCollectionOf a.from known rows x.collection
    y = x.stands

    k : ℕ
    k = x.stands.serial

    key : ℕ
    key = x.collection.request

    old : Row
    old = row_of x.collection.request (Collecting x.stands.receive x.stands.message x.stands.got)

    left : List Row
    left = slice_set rows x.stands.serial (row_of x.collection.request (Over o))

    keys_left : collection_keys (remove t.collections x.place) ≡ remove (collection_keys t.collections) x.place
    keys_left = map_removed (λ (c : rendezvous.Collecting). c.request) cs x.place

    offered : (n other : ℕ) (e : Endpoint) (basic : BasicType) (values : List ℕ) →
        ((n ≡ k) × (row_of key (Over o) ≡ row_of other (Offering e basic values))) ⊎
        ((n ≢ k) × (slice_get rows n ≡ Some (row_of other (Offering e basic values)))) →
        IsIn other (offer_keys t.offers)
    offered n other e basic values (inl h) =
        let j : Over o ≡ Offering e basic values = ap (λ (r : Row). r.job) h.1 in absurd cc
    offered n other e basic values (inr h) = u.offered n other e basic values h.1

    -- another request has another key
    apart : (n other : ℕ) (r : Receive) (h : Held) (got : List ℕ) → n ≢ k →
        slice_get rows n ≡ Some (row_of other (Collecting r h got)) → IsIn other (collection_keys t.collections) →
        IsIn other (remove (collection_keys t.collections) x.place)
    apart n other r h got ne at w = left_in (collection_keys cs) x.place w.0 other differ w.1
      where
        at_place : slice_get (collection_keys cs) x.place ≡ Some key
        at_place = in_map (λ (c : rendezvous.Collecting). c.request) cs x.place x.collection x.there

        differ : w.0 ≢ x.place
        differ e =
            let keys : other ≡ key = same_Some other key (sym w.1 ∙ (ap (slice_get (collection_keys cs)) e ∙ at_place)) in
            ne (one_request slots rows n k other (Collecting r h got) (Collecting y.receive y.message y.got) table at
            (λ z. cc) (y.row ∙ ap (λ (q : ℕ). Some (row_of q (Collecting y.receive y.message y.got))) (sym keys))
            (λ z. cc)).0

    collected : (n other : ℕ) (r : Receive) (h : Held) (got : List ℕ) →
        ((n ≡ k) × (row_of key (Over o) ≡ row_of other (Collecting r h got))) ⊎
        ((n ≢ k) × (slice_get rows n ≡ Some (row_of other (Collecting r h got)))) →
        IsIn other (remove (collection_keys t.collections) x.place)
    collected n other r h got (inl q) = let j : Over o ≡ Collecting r h got = ap (λ (v : Row). v.job) q.1 in absurd cc
    collected n other r h got (inr q) = apart n other r h got q.0 q.1 (u.collected n other r h got q.1)

    unmatched : (n other : ℕ) (e : Endpoint) → ((n ≡ k) × (row_of key (Over o) ≡ row_of other (Unmatched e))) ⊎
        ((n ≢ k) × (slice_get rows n ≡ Some (row_of other (Unmatched e)))) → e ≡ p.endpoint
    unmatched n other e (inl q) = let j : Over o ≡ Unmatched e = ap (λ (v : Row). v.job) q.1 in absurd cc
    unmatched n other e (inr q) = u.unmatched n other e q.1
