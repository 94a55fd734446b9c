-- A large message that is matched with a receive: it is collected from then on, or it is used up without its data.
use Rattle.std.proofs.Common.{◌≡◌, ◌≢◌, ℕ, Bool, true, false, List, [], ◌∷◌, ◌++◌, length, Option, Some, None}
use Rattle.std.proofs.Common.{if◌then◌else◌, ◌==◌, slice_get, slice_set, refl, sym, ap, ◌∙◌, subst, arith, ◌⊎◌, inl}
use Rattle.std.proofs.Common.{inr}
use Rattle.std.specs.List.{AllByRecursion}
use Rattle.std.proofs.Math.Nat.{one-le-pow}
use Rattle.std.proofs.lemmas.Bool.{cases_eq}
use Rattle.std.proofs.lemmas.List.{map-append}
use Rattle.std.proofs.lemmas.Option.{same_Some, slice_get_within}
use Rattle.vocabulary.specs.BasicTypes.{size_of}
use Rattle.vocabulary.specs.declared.basic_type.BasicType.{BasicType}
use Rattle.vocabulary.specs.declared.endpoint.Endpoint.{Endpoint}
use Rattle.datatypes.specs.Contents.{AreWithin}
use Rattle.incarnation.specs.declared.place.Place.{Place}
use Rattle.match_queues.specs.declared.envelope.Announcement.{Announcement}
use Rattle.match_queues.specs.declared.envelope.Message.{Message}
use Rattle.rendezvous.specs.declared.offer.Offer.{Offer}
use Rattle.rendezvous.specs.Collections as rendezvous
use Rattle.rendezvous.specs.State as transfers
use Rattle.rendezvous.specs.State.{after_collect}
use Rattle.match_queues.specs.declared.envelope.Body.TheVariants.{Announced}
use Rattle.point_to_point_calls.specs.ReceiveMatches.{collection_on_match, transfers_with, collecting}
use Rattle.perfect_queues.proofs.ListLemmas.{get_set_other}
use Rattle.perfect_queues.specs.Outcomes.{outcome}
use Rattle.perfect_queues.specs.Receives.{Receive}
use Rattle.proof_pure_network.proofs.JobLemmas.{All_append, get_set_same, push_at, push_below}
use Rattle.proof_pure_network.specs.Announcements.{IsIn}
use Rattle.proof_pure_network.specs.WaitingMessages.{Held, Part, full}
use Rattle.proof_pure_network.specs.Jobs.{Job, Collecting, Offering, Over, matched_part, Unmatched}
use Rattle.proof_engine_matching.proofs.AnnouncedLemmas.{none_alike}
use Rattle.proof_engine_view.specs.Frames.{endpoint_of}
use Rattle.proof_engine_view.specs.Rows.{Row, held_of}
use Rattle.proof_engine_view.specs.Transfers.{Announcements, Transfer, serial_of}
use Rattle.proof_engine_view.specs.UnderWay.{AreApart, AreUnderWay, IsCollectionOf, IsFromLink, IsOfferOf, IsPartOf}
use Rattle.proof_engine_view.specs.UnderWay.{collection_keys}
use Rattle.proof_engine_steps.proofs.Announces.{apart_pushed}
use Rattle.proof_engine_steps.proofs.NamedRequests.{all_follow}
use Rattle.proof_engine_steps.proofs.UnchangedTransfers.{under_way_with}
use Rattle.proof_engine_steps.proofs.Tables.{push_other}
use Rattle.proof_engine_steps.proofs.UnderWay.{IsTransfer, SameTransfers, row_of}
use Rattle.proof_engine_steps.proofs.Wholes.{announced_as}

-- ---- ONE ROW

-- The row with this serial was written, with this key and job; all other large messages of the rows stay
pub record IsWritten (rows rows' : List Row) (k key : ℕ) (job : Job) : Type 0 where
  pub here : slice_get rows' k ≡ Some (row_of key job)
  pub forth : (n y : ℕ) (j : Job) → IsTransfer j → slice_get rows n ≡ Some (row_of y j) →
      slice_get rows' n ≡ Some (row_of y j)
  pub back :
      (n y : ℕ) (j : Job) → IsTransfer j → slice_get rows' n ≡ Some (row_of y j) →
      (slice_get rows n ≡ Some (row_of y j)) ⊎ (row_of key job ≡ row_of y j)

-- a new row
pub written_pushed : (rows : List Row) (key : ℕ) (job : Job) →
    IsWritten rows (rows ++ row_of key job ∷ []) (length rows) key job
written_pushed rows key job =
    record {
      here = push_at rows new;
      forth = λ n y j i h. push_below rows new n (slice_get_within rows n (row_of y j) h) ∙ h;
      back = λ n y j i h. back n y j (cases_eq n (length rows)) h;
    }
  where
    new : Row
    new = row_of key job

    back : (n y : ℕ) (j : Job) → (n ≡ length rows) ⊎ (n ≢ length rows) → slice_get (rows ++ new ∷ []) n ≡
        Some (row_of y j) → (slice_get rows n ≡ Some (row_of y j)) ⊎ (new ≡ row_of y j)
    back n y j (inl e) h =
        inr (same_Some new (row_of y j) (sym (push_at rows new) ∙ (ap (slice_get (rows ++ new ∷ [])) (sym e) ∙ h)))
    back n y j (inr ne) h = inl (sym (push_other rows new n ne) ∙ h)

-- a row whose request waited, so its message wasn't a large one under way
pub written_set : (rows : List Row) (k key : ℕ) (job job' : Job) → slice_get rows k ≡ Some (row_of key job) →
    (IsTransfer job → ⊥) → IsWritten rows (slice_set rows k (row_of key job')) k key job'
written_set rows k key job job' at small =
    record {
      here = get_set_same rows k (row_of key job) new at;
      forth = λ n y j i h. forth n y j i (cases_eq n k) h;
      back = λ n y j i h. back n y j (cases_eq n k) h;
    }
  where
    new : Row
    new = row_of key job'

    forth : (n y : ℕ) (j : Job) → IsTransfer j → (n ≡ k) ⊎ (n ≢ k) → slice_get rows n ≡ Some (row_of y j) →
        slice_get (slice_set rows k new) n ≡ Some (row_of y j)
    forth n y j i (inl e) h =
        let r : row_of key job ≡ row_of y j = same_Some (row_of key job) (row_of y j) (sym at ∙ (ap (slice_get rows) (sym e) ∙ h)) in
        absurd (small (subst IsTransfer (sym (ap (λ (x : Row). x.job) r)) i))
    forth n y j i (inr ne) h = get_set_other rows k n new (λ e. ne (sym e)) ∙ h

    back : (n y : ℕ) (j : Job) → (n ≡ k) ⊎ (n ≢ k) → slice_get (slice_set rows k new) n ≡ Some (row_of y j) →
        (slice_get rows n ≡ Some (row_of y j)) ⊎ (new ≡ row_of y j)
    back n y j (inl e) h =
        inr (same_Some new (row_of y j) (sym (get_set_same rows k (row_of key job) new at) ∙
        (ap (slice_get (slice_set rows k new)) (sym e) ∙ h)))
    back n y j (inr ne) h = inl (sym (get_set_other rows k n new (λ e. ne (sym e))) ∙ h)

-- where what was written is none, the large messages are the same
written_same : (rows rows' : List Row) (k key : ℕ) (job : Job) → IsWritten rows rows' k key job →
    (IsTransfer job → ⊥) → SameTransfers rows rows'
written_same rows rows' k key job w small =
    record {
      forth = w.forth;
      back = λ n y j i h. go n y j i (w.back n y j i h);
    }
  where
    go : (n y : ℕ) (j : Job) → IsTransfer j → (slice_get rows n ≡ Some (row_of y j)) ⊎ (row_of key job ≡ row_of y j) →
        slice_get rows n ≡ Some (row_of y j)
    go n y j i (inl h) = h
    go n y j i (inr e) = absurd (small (subst IsTransfer (sym (ap (λ (r : Row). r.job) e)) i))

-- ---- ONE COLLECTION MORE

-- what is offered goes on to be
offer_stays : (to : Endpoint → List Transfer) (known : List ℕ) (rows rows' : List Row) (k key : ℕ) (job : Job) →
    IsWritten rows rows' k key job → (o : Offer) → IsOfferOf to known rows o → IsOfferOf to known rows' o
offer_stays to known rows rows' k key job w o x = record {
  serial = x.serial;
  row = w.forth x.serial o.request (Offering (endpoint_of known o.target) o.elements.basic o.elements.values) tt x.row;
  announced = x.announced;
  within = x.within;
  limit = x.limit;
}

-- and so does what is collected
collection_stays : (from : Endpoint → List Transfer) (known : List ℕ) (rows rows' : List Row) (k key : ℕ) (job : Job) →
    IsWritten rows rows' k key job → (c : rendezvous.Collecting) →
    IsCollectionOf from known rows c → IsCollectionOf from known rows' c
collection_stays from known rows rows' k key job w c x = record {
  serial = x.serial;
  receive = x.receive;
  message = x.message;
  got = x.got;
  row = w.forth x.serial c.request (Collecting x.receive x.message x.got) tt x.row;
  sender = x.sender;
  transfer = x.transfer;
  announced = x.announced;
  body = x.body;
  basic = x.basic;
  basic_is = x.basic_is;
  total = x.total;
  bytes = x.bytes;
  within = x.within;
}

-- a row that offers isn't the one that collects
offers_before : (rows : List Row) (key n y : ℕ) (r : Receive) (h : Held) (d : Endpoint) (basic : BasicType)
    (values : List ℕ) →
    (slice_get rows n ≡ Some (row_of y (Offering d basic values))) ⊎
    (row_of key (Collecting r h []) ≡ row_of y (Offering d basic values)) →
    slice_get rows n ≡ Some (row_of y (Offering d basic values))
offers_before rows key n y r h d basic values (inl x) = x
offers_before rows key n y r h d basic values (inr e) =
    let f : Collecting r h [] ≡ Offering d basic values = ap (λ (z : Row). z.job) e in absurd cc

-- the key of a row is among the keys, or it is the last one
key_there : (keys : List ℕ) (key y : ℕ) → IsIn y keys ⊎ (key ≡ y) → IsIn y (keys ++ key ∷ [])
key_there keys key y (inl x) = (x.0, push_below keys key x.0 (slice_get_within keys x.0 y x.1) ∙ x.1)
key_there keys key y (inr e) = subst (λ (n : ℕ). IsIn n (keys ++ key ∷ [])) e (length keys, push_at keys key)

-- the row collects the message of the collection, of which nothing has come
pub collected_with : (a : Announcements) (known : List ℕ) (p : Place) (rows rows' : List Row) (t : transfers.State)
    (ms ms' : List Message) (c : rendezvous.Collecting) (k : ℕ) (r : Receive) (h : Held) →
    AreUnderWay a known p rows t ms → IsWritten rows rows' k c.request (Collecting r h []) →
    IsCollectionOf a.from known rows' c →
    AllByRecursion (λ y. y ≡ c.request → ⊥) (collection_keys t.collections) →
    AllByRecursion (λ (m : Message). IsFromLink a.from known p rows' m m.body) ms' →
    AreUnderWay a known p rows' (after_collect t c) ms'
collected_with a known p rows rows' t ms ms' c k r h u w i apart from =
    record {
      numbered = u.numbered;
      offers = all_follow (IsOfferOf a.to known rows) (IsOfferOf a.to known rows')
          (offer_stays a.to known rows rows' k c.request (Collecting r h []) w) t.offers u.offers;
      offered =
          λ n y d basic values x. u.offered n y d basic values
          (offers_before rows c.request n y r h d basic values (w.back n y (Offering d basic values) tt x));
      offers_apart = u.offers_apart;
      collections = All_append (IsCollectionOf a.from known rows') t.collections (c ∷ [])
          (all_follow (IsCollectionOf a.from known rows) (IsCollectionOf a.from known rows')
          (collection_stays a.from known rows rows' k c.request (Collecting r h []) w) t.collections u.collections)
          (i, tt);
      collected =
          λ n y q g got x. subst (λ (ks : List ℕ). IsIn y ks) (sym keys)
          (key_there (collection_keys t.collections) c.request y
          (among n y q g got (w.back n y (Collecting q g got) tt x)));
      collections_apart =
          subst AreApart (sym keys) (apart_pushed (collection_keys t.collections) c.request u.collections_apart apart);
      unmatched = λ n y d x. unmatched n y d (w.back n y (Unmatched d) tt x);
      messages = from;
    }
  where
    keys : collection_keys (t.collections ++ c ∷ []) ≡ collection_keys t.collections ++ c.request ∷ []
    keys = map-append (λ (x : rendezvous.Collecting). x.request) t.collections (c ∷ [])

    among : (n y : ℕ) (q : Receive) (g : Held) (got : List ℕ) →
        (slice_get rows n ≡ Some (row_of y (Collecting q g got))) ⊎
        (row_of c.request (Collecting r h []) ≡ row_of y (Collecting q g got)) →
        IsIn y (collection_keys t.collections) ⊎ (c.request ≡ y)
    among n y q g got (inl x) = inl (u.collected n y q g got x)
    among n y q g got (inr e) = inr (ap (λ (z : Row). z.key) e)

    unmatched : (n y : ℕ) (d : Endpoint) → (slice_get rows n ≡ Some (row_of y (Unmatched d))) ⊎
        (row_of c.request (Collecting r h []) ≡ row_of y (Unmatched d)) → d ≡ p.endpoint
    unmatched n y d (inl x) = u.unmatched n y d x
    unmatched n y d (inr e) = let j : Collecting r h [] ≡ Unmatched d = ap (λ (z : Row). z.job) e in absurd cc

-- ---- A MATCH

-- whatever else the message has
pub part_as : (from : Endpoint → List Transfer) (known : List ℕ) (p : Place) (m : Message) (x : Announcement) →
    IsPartOf from known p m x → IsPartOf from known p (announced_as m x) x
part_as from known p m x part =
    record {
      sender = part.sender;
      there = part.there;
      apart = part.apart;
      announced = part.announced;
      width =
          part.width;
    }

-- no elements have any width
none_within : (size : ℕ) → AreWithin size []
none_within size place = one-le-pow size 256 (omega arith)

-- the collection that begins with a match is that of the receive's row
collection_is : (from : Endpoint → List Transfer) (known : List ℕ) (p : Place) (rows : List Row) (m : Message)
    (x : Announcement) (k key : ℕ) (r : Receive) →
    IsPartOf from known p m x →
    slice_get rows k ≡ Some (row_of key (Collecting r (held_of from (announced_as m x)) [])) →
    IsCollectionOf from known rows (collecting p.message_limit (announced_as m x) x key)
collection_is from known p rows m x k key r part row =
    record {
      serial = k;
      receive = r;
      message = held_of from (announced_as m x);
      got = [];
      row = row;
      sender = part.sender;
      transfer = record { serial = part.announced.serial; basic = x.basic; count = x.count };
      announced = part.announced.there;
      body = ap (λ (o : Option Transfer). Part (serial_of o) x.count) part.announced.there;
      basic = refl;
      basic_is = refl;
      total = refl;
      bytes = refl;
      within = none_within (size_of x.basic);
    }

-- What is under way once the message was matched with the receive of this row, which wants its data or not
pub matched_under_way : (a : Announcements) (known : List ℕ) (p : Place) (rows rows' : List Row) (t : transfers.State)
    (ms ms' : List Message) (m : Message) (x : Announcement) (k key : ℕ) (r : Receive)
    (wanted : Bool) → AreUnderWay a known p rows t ms → IsPartOf a.from known p m x →
    IsWritten rows rows' k key (matched_part r (held_of a.from (announced_as m x)) x.count wanted) →
    AllByRecursion (λ y. y ≡ key → ⊥) (collection_keys t.collections) →
    AllByRecursion (λ (n : Message). IsFromLink a.from known p rows' n n.body) ms' →
    AreUnderWay a known p rows'
    (transfers_with t (collection_on_match p.message_limit wanted (announced_as m x) (Announced x) key)) ms'
matched_under_way a known p rows rows' t ms ms' m x k key r true u part w apart from =
    by_test (x.count == 0) (0 == x.count) (none_alike x.count) w
  where
    h : Held
    h = held_of a.from (announced_as m x)

    -- a message of no values is over with its match
    by_test : (b c : Bool) → b ≡ c →
        IsWritten rows rows' k key (if c then Over (outcome r (full h [])) else Collecting r h []) →
        AreUnderWay a known p rows'
        (transfers_with t (if b then None else Some (collecting p.message_limit (announced_as m x) x key)))
        ms'
    by_test true true e v =
        under_way_with a known p rows rows' t t ms ms' u
        (written_same rows rows' k key (Over (outcome r (full h []))) v (λ i. i)) refl from
    by_test true false e v = absurd cc
    by_test false true e v = absurd cc
    by_test false false e v =
        collected_with a known p rows rows' t ms ms' (collecting p.message_limit (announced_as m x) x key) k r h u v
        (collection_is a.from known p rows' m x k key r part v.here) apart from
matched_under_way a known p rows rows' t ms ms' m x k key r false u part w apart from =
    under_way_with a known p rows rows' t t ms ms' u
    (written_same rows rows' k key (matched_part r (held_of a.from (announced_as m x)) x.count false) w (λ i. i))
    refl from
