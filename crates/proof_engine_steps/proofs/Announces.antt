-- What is under way stays as one more large message is announced: a send offers it under the next number of its
-- session.
use Rattle.std.proofs.Common.{◌≡◌, ◌≢◌, ℕ, zero, suc, ◌+◌, ◌*◌, ◌<◌, ◌≤◌, ◌==◌, false, List, [], ◌∷◌, ◌++◌, length}
use Rattle.std.proofs.Common.{Option, Some, None, slice_get, slice_index_or, refl, sym, ap, ◌∙◌, subst, arith, ◌⊎◌, inl}
use Rattle.std.proofs.Common.{inr}
use Rattle.std.specs.List.{AllByRecursion}
use Rattle.std.proofs.lemmas.Bool.{cases_eq, eqb-false}
use Rattle.std.proofs.lemmas.List.{get_or-set_other, get_or-set_same, length-append, length-set, map-append}
use Rattle.std.proofs.lemmas.Option.{none-some, same_Some}
use Rattle.vocabulary.specs.BasicTypes.{size_of}
use Rattle.vocabulary.specs.Limits.{greatest_limit}
use Rattle.vocabulary.specs.declared.basic_type.BasicType.{BasicType}
use Rattle.vocabulary.specs.declared.endpoint.Endpoint.{Endpoint}
use Rattle.datatypes.specs.Contents.{AreWithin, Contents}
use Rattle.incarnation.specs.declared.place.Place.{Place}
use Rattle.match_queues.specs.declared.envelope.Message.{Message}
use Rattle.perfect_queues.specs.Receives.{Receive}
use Rattle.rendezvous.specs.declared.offer.Offer.{Offer}
use Rattle.rendezvous.specs.declared.transfers.Numbers.{Numbers}
use Rattle.rendezvous.specs.Collections as rendezvous
use Rattle.rendezvous.specs.State as transfers
use Rattle.rendezvous.specs.State.{after_begin, fresh, has_none_to, is_full_to, most_transfers, next_to, with_begun}
use Rattle.requests.specs.Table.{slot_at}
use Rattle.requests.specs.declared.table.TableEntry.{TableEntry}
use Rattle.proof_pure_network.proofs.JobLemmas.{All_append, push_at}
use Rattle.proof_pure_network.proofs.LinksGrow.{in_begun, in_end}
use Rattle.proof_pure_network.specs.Announcements.{Begins, IsIn}
use Rattle.proof_pure_network.specs.Frames.{Frame, Rts}
use Rattle.proof_pure_network.specs.WaitingMessages.{Held}
use Rattle.proof_pure_network.specs.Jobs.{Collecting, Job, Offering, Unmatched}
use Rattle.proof_engine_view.specs.Frames.{endpoint_of}
use Rattle.proof_engine_view.specs.Rows.{Holds, IsTable, Row, Stands}
use Rattle.proof_engine_view.specs.Transfers.{Announcements, Transfer, after_out, announced_in, frames_to}
use Rattle.proof_engine_view.specs.UnderWay.{AreApart, AreUnderWay, IsCollectionOf, IsNumbered, IsOfferOf}
use Rattle.proof_engine_view.specs.UnderWay.{collection_keys, offer_keys}
use Rattle.proof_engine_view.proofs.LastingViews.{begun_at}
use Rattle.proof_engine_steps.proofs.Announcements.{announced_elsewhere, announced_there, transfer_of}
use Rattle.proof_engine_steps.proofs.UnderWay.{keeps_pushed, messages_keep, row_of}

-- ---- NUMBERS

-- a session in which one more transfer can begin has not the greatest number
below_last : (found : Option Numbers) → has_none_to found ≡ false → (n : Numbers) → found ≡ Some n →
    n.begun ≢ most_transfers
below_last None full n is = absurd (none-some n is)
below_last (Some m) full n is =
    eqb-false n.begun most_transfers
    (subst (λ (x : Numbers). (x.begun == most_transfers) ≡ false) (same_Some m n is) full)

-- the session with a rank that is there
number_at : (ns : List Numbers) (rank : ℕ) → rank < length ns → slice_get ns rank ≡ Some (slice_index_or ns rank fresh)
number_at [] rank inside = absurd (omega arith)
number_at (n ∷ ns) zero inside = refl
number_at (n ∷ ns) (suc rank) inside = number_at ns rank (omega arith)

-- a number below a greatest one, with one more
one_more : (n most : ℕ) → n ≤ most → n ≢ most → n + 1 ≤ most
one_more n most le ne = omega arith

-- so its next number can be one more
pub next_below : (ns : List Numbers) (rank : ℕ) → rank < length ns → is_full_to ns rank ≡ false →
    next_to ns rank ≤ most_transfers → next_to ns rank + 1 ≤ most_transfers
next_below ns rank inside free le =
    one_more (next_to ns rank) most_transfers le
    (below_last (slice_get ns rank) free (slice_index_or ns rank fresh) (number_at ns rank inside))

-- one more has begun to the rank, and none to another one
pub next_here : (ns : List Numbers) (rank : ℕ) → rank < length ns → next_to (with_begun ns rank) rank ≡
    next_to ns rank + 1
next_here ns rank inside =
    ap (λ (n : Numbers). n.begun)
    (get_or-set_same ns rank (record (slice_index_or ns rank fresh) { begun = next_to ns rank + 1 }) fresh inside)

pub next_elsewhere : (ns : List Numbers) (rank other : ℕ) → other ≢ rank → next_to (with_begun ns rank) other ≡
    next_to ns other
next_elsewhere ns rank other apart =
    ap (λ (n : Numbers). n.begun)
    (get_or-set_other ns rank other (record (slice_index_or ns rank fresh) { begun = next_to ns rank + 1 }) fresh
    apart)

-- once a transfer to it is announced and has begun, the number of each session is how many were announced
announced_number :
    (a : Announcements) (known : List ℕ) (p : Place) (ns : List Numbers) (to context tag serial : ℕ) (c : Contents) →
    IsNumbered a.to known p ns → to < p.size → (to ≡ p.endpoint.rank → ⊥) →
    (rank : ℕ) → rank < p.size → (rank ≡ p.endpoint.rank → ⊥) → (rank ≡ to) ⊎ (rank ≢ to) →
    next_to (with_begun ns to) rank ≡
    length ((after_out a ((endpoint_of known to, Rts context tag c.basic serial (length c.values)) ∷ [])).to
    (endpoint_of known rank))
announced_number a known p ns to context tag serial c n inside other rank there apart (inr ne) =
    next_elsewhere ns to rank ne
    ∙ (n.begun rank there apart
    ∙ ap (λ (ts : List Transfer). length ts)
    (sym (announced_elsewhere a (endpoint_of known to) (endpoint_of known rank)
    (Rts context tag c.basic serial (length c.values)) ne)))
announced_number a known p ns to context tag serial c n inside other rank there apart (inl e) =
    subst
    (λ (r : ℕ). next_to (with_begun ns to) r ≡
    length ((after_out a ((endpoint_of known to, Rts context tag c.basic serial (length c.values)) ∷ [])).to
    (endpoint_of known r)))
    (sym e)
    (next_here ns to (subst (λ (m : ℕ). to < m) (sym n.width) inside)
    ∙ (ap (λ (m : ℕ). m + 1) (n.begun to inside other)
    ∙ (sym (length-append (a.to (endpoint_of known to)) (transfer_of serial c ∷ []))
    ∙ ap (λ (ts : List Transfer). length ts) (sym (announced_there a (endpoint_of known to) context tag serial c)))))

-- and none is above the greatest
pub most_begun : (ns : List Numbers) (to rank : ℕ) → to < length ns → next_to ns to + 1 ≤ most_transfers →
    next_to ns rank ≤ most_transfers → (rank ≡ to) ⊎ (rank ≢ to) →
    next_to (with_begun ns to) rank ≤ most_transfers
most_begun ns to rank inside below le (inl e) =
    subst (λ (r : ℕ). next_to (with_begun ns to) r ≤ most_transfers) (sym e)
    (subst (λ (m : ℕ). m ≤ most_transfers) (sym (next_here ns to inside)) below)
most_begun ns to rank inside below le (inr ne) =
    subst (λ (m : ℕ). m ≤ most_transfers) (sym (next_elsewhere ns to rank ne)) le

-- the numbers once a transfer to another rank is announced
begun_numbered :
    (a : Announcements) (known : List ℕ) (p : Place) (ns : List Numbers) (to context tag serial : ℕ) (c : Contents) →
    IsNumbered a.to known p ns → to < p.size → (to ≡ p.endpoint.rank → ⊥) →
    is_full_to ns to ≡ false →
    IsNumbered (after_out a ((endpoint_of known to, Rts context tag c.basic serial (length c.values)) ∷ [])).to known p
    (with_begun ns to)
begun_numbered a known p ns to context tag serial c n inside other free =
    record {
      width = length-set ns to (record (slice_index_or ns to fresh) { begun = next_to ns to + 1 }) ∙ n.width;
      begun = λ rank there apart. announced_number a known p ns to context tag serial c n inside other rank there apart
          (cases_eq rank to);
      most = λ rank. most_begun ns to rank there_is (next_below ns to there_is free (n.most to)) (n.most rank)
          (cases_eq rank to);
    }
  where
    there_is : to < length ns
    there_is = subst (λ (m : ℕ). to < m) (sym n.width) inside

-- ---- KEYS

-- one more that is none of them
pub apart_pushed : (xs : List ℕ) (x : ℕ) → AreApart xs → AllByRecursion (λ (y : ℕ). y ≡ x → ⊥) xs →
    AreApart (xs ++ x ∷ [])
apart_pushed [] x apart none = (tt, tt)
apart_pushed (y ∷ ys) x apart none = (
  All_append (λ (z : ℕ). z ≡ y → ⊥) ys (x ∷ []) apart.0 ((λ e. none.0 (sym e)), tt),
  apart_pushed ys x apart.1 none.1,
)

-- a key under which nothing stands is none of a request that is under way
row_elsewhere : (slots : List (Option TableEntry)) (rows : List Row) (k key fresh_key : ℕ) (job : Job) →
    IsTable slots rows → ((slot : Option TableEntry) → Stands slot k job → Holds slot k job) →
    slice_get rows k ≡ Some (row_of key job) → slot_at slots fresh_key ≡ None → key ≡ fresh_key → ⊥
row_elsewhere slots rows k key fresh_key job table held row free e =
    let h : Holds (slot_at slots key) k job = held (slot_at slots key) (table.stands k (row_of key job) row) in
    none-some h.entry (sym (ap (slot_at slots) e ∙ free) ∙ h.there)

-- so an offer's is none
offers_elsewhere : (slots : List (Option TableEntry)) (rows : List Row) (to : Endpoint → List Transfer) (known : List ℕ)
    (key : ℕ) (offers : List Offer) → IsTable slots rows → slot_at slots key ≡ None →
    AllByRecursion (IsOfferOf to known rows) offers → AllByRecursion (λ (y : ℕ). y ≡ key → ⊥) (offer_keys offers)
offers_elsewhere slots rows to known key [] table free all = tt
offers_elsewhere slots rows to known key (o ∷ os) table free all = (
  row_elsewhere slots rows all.0.serial o.request key
      (Offering (endpoint_of known o.target) o.elements.basic o.elements.values) table (λ slot h. h) all.0.row free,
  offers_elsewhere slots rows to known key os table free all.1,
)

-- nor that of a collection
pub collections_elsewhere : (slots : List (Option TableEntry)) (rows : List Row) (from : Endpoint → List Transfer)
    (known : List ℕ) (key : ℕ) (collections : List rendezvous.Collecting) → IsTable slots rows →
    slot_at slots key ≡ None → AllByRecursion (IsCollectionOf from known rows) collections →
    AllByRecursion (λ (y : ℕ). y ≡ key → ⊥) (collection_keys collections)
collections_elsewhere slots rows from known key [] table free all = tt
collections_elsewhere slots rows from known key (c ∷ cs) table free all = (
  row_elsewhere slots rows all.0.serial c.request key (Collecting all.0.receive all.0.message all.0.got) table
      (λ slot h. h) all.0.row free,
  collections_elsewhere slots rows from known key cs table free all.1,
)

-- ---- ONE MORE ROW

-- what stands in the rows with one more behind them
pub row_before : (rows : List Row) (r : Row) (k : ℕ) (x : Row) → slice_get (rows ++ r ∷ []) k ≡ Some x →
    (slice_get rows k ≡ Some x) ⊎ (r ≡ x)
row_before [] r zero x h = inr (same_Some r x h)
row_before [] r (suc k) x h = absurd (grind arith)
row_before (y ∷ ys) r zero x h = inl h
row_before (y ∷ ys) r (suc k) x h = row_before ys r k x h

-- what is offered stays so as rows are added, and as more is announced
offers_more : (to to' : Endpoint → List Transfer) (known : List ℕ) (rows rows' : List Row) (offers : List Offer) →
    ((d : Endpoint) → Begins (to d) (to' d)) → Begins rows rows' →
    AllByRecursion (IsOfferOf to known rows) offers → AllByRecursion (IsOfferOf to' known rows') offers
offers_more to to' known rows rows' [] grow more all = tt
offers_more to to' known rows rows' (o ∷ os) grow more all = (
  record {
    serial = all.0.serial;
    row = begun_at rows rows' all.0.serial
        (row_of o.request (Offering (endpoint_of known o.target) o.elements.basic o.elements.values)) more all.0.row;
    announced = begun_at (to (endpoint_of known o.target)) (to' (endpoint_of known o.target)) o.transfer
        (record { serial = all.0.serial; basic = o.elements.basic; count = length o.elements.values })
        (grow (endpoint_of known o.target)) all.0.announced;
    within = all.0.within;
    limit = all.0.limit;
  },
  offers_more to to' known rows rows' os grow more all.1,
)

-- and what is collected as rows are added
collections_more : (from : Endpoint → List Transfer) (known : List ℕ) (rows rows' : List Row)
    (collections : List rendezvous.Collecting) → Begins rows rows' →
    AllByRecursion (IsCollectionOf from known rows) collections →
    AllByRecursion (IsCollectionOf from known rows') collections
collections_more from known rows rows' [] more all = tt
collections_more from known rows rows' (c ∷ cs) more all = (
  record {
    serial = all.0.serial;
    receive = all.0.receive;
    message = all.0.message;
    got = all.0.got;
    row = begun_at rows rows' all.0.serial (row_of c.request (Collecting all.0.receive all.0.message all.0.got)) more
        all.0.row;
    sender = all.0.sender;
    transfer = all.0.transfer;
    announced = all.0.announced;
    body = all.0.body;
    basic = all.0.basic;
    basic_is = all.0.basic_is;
    total = all.0.total;
    bytes = all.0.bytes;
    within = all.0.within;
  },
  collections_more from known rows rows' cs more all.1,
)

-- ---- A LARGE SEND

-- the offer that it makes
abbrev pub offer_of : (to number key : ℕ) → Contents → Offer
offer_of to number key c = record { target = to; transfer = number; request = key; elements = c }

-- the row of its request
abbrev pub offering_row : (key : ℕ) → Endpoint → Contents → Row
offering_row key d c = row_of key (Offering d c.basic c.values)

-- it is that of the row, under the number that follows
offer_begun : (a : Announcements) (known : List ℕ) (rows : List Row) (to number key context tag serial : ℕ)
    (c : Contents) → number ≡ length (a.to (endpoint_of known to)) → length rows ≡ serial →
    AreWithin (size_of c.basic) c.values → length c.values * size_of c.basic ≤ greatest_limit →
    IsOfferOf ((after_out a ((endpoint_of known to, Rts context tag c.basic serial (length c.values)) ∷ [])).to) known
    (rows ++ offering_row key (endpoint_of known to) c ∷ []) (offer_of to number key c)
offer_begun a known rows to number key context tag serial c is count within limit =
    record {
      serial = serial;
      row = ap (λ (k : ℕ). slice_get (rows ++ offering_row key d c ∷ []) k) (sym count) ∙
          push_at rows (offering_row key d c);
      announced = ap (λ (ts : List Transfer). slice_get ts number) (announced_there a d context tag serial c)
          ∙ (ap (λ (k : ℕ). slice_get (a.to d ++ transfer_of serial c ∷ []) k) is ∙
          push_at (a.to d) (transfer_of serial c));
      within = within;
      limit = limit;
    }
  where
    d : Endpoint
    d = endpoint_of known to

-- an offering row of the rows with one more is one of them, or the last
offered_more : (rows : List Row) (offers : List Offer) (key k key' : ℕ) (d d' : Endpoint) (c : Contents)
    (basic : BasicType) (values : List ℕ) (o : Offer) → o.request ≡ key →
    (slice_get rows k ≡ Some (row_of key' (Offering d' basic values)) → IsIn key' (offer_keys offers)) →
    (slice_get rows k ≡ Some (row_of key' (Offering d' basic values))) ⊎
    (offering_row key d c ≡ row_of key' (Offering d' basic values)) → IsIn key' (offer_keys (offers ++ o ∷ []))
offered_more rows offers key k key' d d' c basic values o is known_one (inl h) =
    in_begun (offer_keys offers) (offer_keys (offers ++ o ∷ [])) key' (
      o.request ∷
          [],
      sym (map-append (λ (x : Offer). x.request) offers (o ∷ [])),
    ) (known_one h)
offered_more rows offers key k key' d d' c basic values o is known_one (inr e) =
    subst (λ (ks : List ℕ). IsIn key' ks) (sym (map-append (λ (x : Offer). x.request) offers (o ∷ [])))
    (in_end (offer_keys offers) (o.request ∷ []) key' (0, ap (λ (n : ℕ). Some n) (is ∙ ap (λ (r : Row). r.key) e)))

-- a receive that collects is none that offers
not_collecting : (key key' : ℕ) (d : Endpoint) (c : Contents) (r : Receive) (h : Held) (got : List ℕ) →
    offering_row key d c ≡ row_of key' (Collecting r h got) → ⊥
not_collecting key key' d c r h got e =
    let job : Offering d c.basic c.values ≡ Collecting r h got = ap (λ (x : Row). x.job) e in
    absurd cc

-- What is under way once a large message of a send is announced to another rank of the job: what was, and its offer
pub begun_under_way :
    (a : Announcements) (known : List ℕ) (p : Place) (slots : List (Option TableEntry)) (rows : List Row)
    (t : transfers.State) (ms : List Message) (to key context tag serial : ℕ) (c : Contents) →
    AreUnderWay a known p rows t ms → IsTable slots rows → slot_at slots key ≡ None → length rows ≡ serial →
    to < p.size → (to ≡ p.endpoint.rank → ⊥) → is_full_to t.numbers to ≡ false →
    AreWithin (size_of c.basic) c.values → length c.values * size_of c.basic ≤ greatest_limit →
    AreUnderWay (after_out a ((endpoint_of known to, Rts context tag c.basic serial (length c.values)) ∷ [])) known p
    (rows ++ offering_row key (endpoint_of known to) c ∷ []) (after_begin t to key c) ms
begun_under_way a known p slots rows t ms to key context tag serial c u table empty count inside other free within
    limit =
    record {
      numbered = begun_numbered a known p t.numbers to context tag serial c u.numbered inside other free;
      offers = All_append (IsOfferOf a'.to known rows') t.offers (o ∷ [])
          (offers_more a.to a'.to known rows rows' t.offers (λ x. (announced_in (frames_to x out), refl))
          (offering_row key d c ∷ [], refl) u.offers) (
            offer_begun a known rows to (next_to t.numbers to) key context tag serial c
                (u.numbered.begun to inside other) count within limit,
            tt,
          );
      offered = λ k key' d' basic values h.
          offered_more rows t.offers key k key' d d' c basic values o refl (u.offered k key' d' basic values)
          (row_before rows (offering_row key d c) k (row_of key' (Offering d' basic values)) h);
      offers_apart =
          subst (λ (ks : List ℕ). AreApart ks) (sym (map-append (λ (x : Offer). x.request) t.offers (o ∷ [])))
          (apart_pushed (offer_keys t.offers) key u.offers_apart
          (offers_elsewhere slots rows a.to known key t.offers table empty u.offers));
      collections =
          collections_more a.from known rows rows' t.collections (offering_row key d c ∷ [], refl) u.collections;
      collected =
          λ k key' r h got e. collected k key' r h got
          (row_before rows (offering_row key d c) k (row_of key' (Collecting r h got)) e);
      collections_apart = u.collections_apart;
      unmatched =
          λ k key' d' h. unmatched k key' d' (row_before rows (offering_row key d c) k (row_of key' (Unmatched d')) h);
      messages = messages_keep a.from known p rows rows' ms (keeps_pushed rows (offering_row key d c)) u.messages;
    }
  where
    d : Endpoint
    d = endpoint_of known to

    out : List (Endpoint × Frame)
    out = (d, Rts context tag c.basic serial (length c.values)) ∷ []

    a' : Announcements
    a' = after_out a out

    rows' : List Row
    rows' = rows ++ offering_row key d c ∷ []

    o : Offer
    o = offer_of to (next_to t.numbers to) key c

    collected : (k key' : ℕ) (r : Receive) (h : Held) (got : List ℕ) →
        (slice_get rows k ≡ Some (row_of key' (Collecting r h got))) ⊎
        (offering_row key d c ≡ row_of key' (Collecting r h got)) →
        IsIn key' (collection_keys t.collections)
    collected k key' r h got (inl e) = u.collected k key' r h got e
    collected k key' r h got (inr e) = absurd (not_collecting key key' d c r h got e)

    unmatched : (k key' : ℕ) (d' : Endpoint) → (slice_get rows k ≡ Some (row_of key' (Unmatched d'))) ⊎
        (offering_row key d c ≡ row_of key' (Unmatched d')) → d' ≡ p.endpoint
    unmatched k key' d' (inl e) = u.unmatched k key' d' e
    unmatched k key' d' (inr e) =
        let jobs : Offering d c.basic c.values ≡ Unmatched d' = ap (λ (x : Row). x.job) e in absurd cc
