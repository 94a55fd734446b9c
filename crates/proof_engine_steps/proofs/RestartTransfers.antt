-- What is under way once a rank is learnt at a later incarnation: what was under way with it has ended, and all else
-- goes on.
use Rattle.std.proofs.Common.{◌≡◌, ◌≢◌, ℕ, zero, suc, ◌<◌, ◌≤◌, ◌==◌, ◌&&◌, ◌||◌, not, Bool, true, false, List, [], ◌∷◌}
use Rattle.std.proofs.Common.{◌++◌, map, filter, length, max, nat_lt, Option, Some, None, if◌then◌else◌, slice_get}
use Rattle.std.proofs.Common.{slice_index, slice_index_or, slice_set, refl, sym, ap, ◌∙◌, subst, arith, ◌⊎◌, inl, inr}
use Rattle.std.proofs.lemmas.Bool.{and_parts, and_from, cases_eq, eq-eqb, eqb-true, lt-ltb, ne_eqb}
use Rattle.std.proofs.lemmas.List.{get_or-set_other, get_or-set_same, length-set}
use Rattle.vocabulary.specs.Endpoints.{is_former}
use Rattle.vocabulary.specs.declared.basic_type.BasicType.{BasicType}
use Rattle.vocabulary.specs.declared.envelope.Source.{Source}
use Rattle.vocabulary.specs.declared.envelope.Source.TheVariants as sources
use Rattle.vocabulary.specs.declared.endpoint.Endpoint.{Endpoint}
use Rattle.incarnation.specs.declared.place.Place.{Place}
use Rattle.match_queues.specs.State.{keys_naming}
use Rattle.match_queues.specs.declared.envelope.Body.{Body}
use Rattle.match_queues.specs.declared.envelope.Body.TheVariants as bodies
use Rattle.match_queues.specs.declared.envelope.Message.{Message}
use Rattle.perfect_queues.specs.Outcomes as machine
use Rattle.perfect_queues.specs.Receives.{Receive, has_tag, is_from, names}
use Rattle.rendezvous.specs.Collections as rendezvous
use Rattle.rendezvous.specs.State as transfers
use Rattle.rendezvous.specs.State.{after_drop, fresh, keys_with, most_transfers, next_to}
use Rattle.rendezvous.specs.declared.offer.Offer.{Offer}
use Rattle.rendezvous.specs.declared.transfers.Numbers.{Numbers}
use Rattle.requests.specs.Table.{keys_of_messages, slot_at}
use Rattle.requests.specs.declared.table.TableEntry.{TableEntry}
use Rattle.requests.specs.declared.table.RequestProgress.{RequestProgress}
use Rattle.requests.specs.declared.table.RequestProgress.TheVariants.{Receiving, Finished}
use Rattle.requests.specs.declared.table.RequestProgress.TheVariants as progresses
use Rattle.proof_pure_network.specs.Announcements.{IsIn}
use Rattle.proof_pure_network.specs.WaitingMessages.{Held, fits}
use Rattle.proof_pure_network.specs.Jobs.{Job, Waiting, Collecting, Offering, Over, Closed, ended, Probed, Unmatched}
use Rattle.proof_engine_view.specs.Frames.{endpoint_of}
use Rattle.proof_engine_view.specs.Rows.{Fits, Holds, IsTable, Row, posted_rows}
use Rattle.proof_engine_view.specs.Transfers.{Announcements, Transfer}
use Rattle.proof_engine_view.specs.UnderWay.{AreTaken, AreUnderWay, IsCollectionOf, IsFromLink, IsNumbered, IsOfferOf}
use Rattle.proof_engine_view.specs.UnderWay.{collection_keys, offer_keys}
use Rattle.proof_engine_steps.specs.Steps.{NoneUntold}
use Rattle.proof_engine_steps.proofs.EndedRows.{IsAmong, IsNaming, among_either, among_first, among_later, ended_at}
use Rattle.proof_engine_steps.proofs.EndedRows.{ended_row, in_among, named_at, naming_among}
use Rattle.proof_engine_steps.proofs.EndingKeys.{AreEnding, IsEnding, ends_by}
use Rattle.proof_engine_steps.proofs.ListsApart.{HasIt, all_at, apart_kept, in_map, kept_all, kept_at, kept_in, of_map}
use Rattle.proof_engine_steps.proofs.Tables.{held_at, one_request}
use Rattle.proof_engine_steps.proofs.MessageKeys.{message_ends, taken_among}
use Rattle.proof_engine_steps.proofs.UnderWay.{IsTransfer, row_of}

-- ---- WHICH REQUESTS END

-- a receive that names a rank accepts messages of that rank alone
named_sender : (source : Source) (r x : ℕ) → names source r ≡ true → is_from source x ≡ true → x ≡ r
named_sender sources.Any r x n f = absurd (grind arith)
named_sender (sources.Rank y) r x n f = sym (eqb-true y x f) ∙ eqb-true y r n
named_sender sources.Null r x n f = absurd (grind arith)

-- it accepts by the sender, among others
fits_from : (p : Receive) (h : Held) → fits p h ≡ true → is_from p.source h.sender.rank ≡ true
fits_from p h e =
    (and_parts (is_from p.source h.sender.rank) (has_tag p.tag h.tag)
    (and_parts (p.context == h.context) (is_from p.source h.sender.rank && has_tag p.tag h.tag) e).1).0

-- what is collected was accepted
collected_fits : (g : RequestProgress) (p : Receive) (h : Held) (got : List ℕ) → Fits g (Collecting p h got) →
    fits p h ≡ true
collected_fits (Receiving b) p h got f = absurd f
collected_fits (progresses.Collecting w) p h got f = f.accepts
collected_fits progresses.Offering p h got f = absurd f
collected_fits (progresses.TakenOut taken) p h got f = absurd f
collected_fits (Finished o) p h got f = absurd f

row_fits : (slots : List (Option TableEntry)) (rows : List Row) (k key : ℕ) (p : Receive) (h : Held) (got : List ℕ) →
    IsTable slots rows → slice_get rows k ≡ Some (row_of key (Collecting p h got)) → fits p h ≡ true
row_fits slots rows k key p h got table at =
    let m : Holds (slot_at slots key) k (Collecting p h got) = held_at slots rows k key (Collecting p h got) table at (λ e. cc) in
    collected_fits m.entry.progress p h got m.fits

-- one of two tests
either : (a b : Bool) → (a || b) ≡ true → (a ≡ true) ⊎ (b ≡ true)
either true b h = inl refl
either false b h = inr h

second : (a b : Bool) → b ≡ true → (a || b) ≡ true
second true b h = refl
second false b h = h

-- a receive that collects ends where its message is of the rank
sender_of_ended : (r i : ℕ) (p : Receive) (h : Held) (got : List ℕ) → fits p h ≡ true →
    ends_by r i (Collecting p h got) ≡ true → h.sender.rank ≡ r
sender_of_ended r i p h got f e = go (either (names p.source r) (is_former r i h.sender) e)
  where
    go : (names p.source r ≡ true) ⊎ (is_former r i h.sender ≡ true) → h.sender.rank ≡ r
    go (inl n) = named_sender p.source r h.sender.rank n (fits_from p h f)
    go (inr n) = eqb-true h.sender.rank r (and_parts (h.sender.rank == r) (nat_lt h.sender.incarnation i) n).0

-- the rank at the incarnation at which it was known
former_known : (known : List ℕ) (r i x : ℕ) (e : Endpoint) → slice_index known r < i → e ≡ endpoint_of known x → x ≡ r →
    is_former r i e ≡ true
former_known known r i x e later is same =
    let rank : e.rank ≡ r = ap (λ (y : Endpoint). y.rank) is ∙ same in
    let at : e.incarnation ≡ slice_index known r = ap (λ (y : Endpoint). y.incarnation) is ∙ ap (slice_index known) same in
    and_from (e.rank == r) (nat_lt e.incarnation i) (eq-eqb e.rank r rank)
    (lt-ltb e.incarnation i (subst (λ (n : ℕ). n < i) (sym at) later))

-- ---- THEIR KEYS

-- the offer of a row that offers
pub record IsOffered (to : Endpoint → List Transfer) (known : List ℕ) (rows : List Row) (offers : List Offer) (key : ℕ)
    (d : Endpoint) : Type 0 where
  pub place : ℕ
  pub offer : Offer
  pub there : slice_get offers place ≡ Some offer
  pub key_is : offer.request ≡ key
  pub target_is : d ≡ endpoint_of known offer.target

offer_of : (a : Announcements) (known : List ℕ) (p : Place) (rows : List Row) (slots : List (Option TableEntry))
    (t : transfers.State) (ms : List Message) (k key : ℕ) (d : Endpoint) (basic : BasicType) (values : List ℕ) →
    IsTable slots rows → AreUnderWay a known p rows t ms →
    slice_get rows k ≡ Some (row_of key (Offering d basic values)) → IsOffered a.to known rows t.offers key d
offer_of a known p rows slots t ms k key d basic values table u at =
    let n : IsIn key (offer_keys t.offers) = u.offered k key d basic values at in
    let h : HasIt (λ (o : Offer). o.request) t.offers n.0 key = of_map (λ (o : Offer). o.request) t.offers n.0 key n.1 in
    let o : Offer = h.element in
    let y : IsOfferOf a.to known rows o = all_at (IsOfferOf a.to known rows) t.offers n.0 o u.offers h.there in
    let other : Job = Offering (endpoint_of known o.target) o.elements.basic o.elements.values in
    let mine : slice_get rows y.serial ≡ Some (row_of key other) = y.row ∙ ap (λ (x : ℕ). Some (row_of x other)) h.has in
    let same : Offering d basic values ≡ other = (one_request slots rows k y.serial key (Offering d basic values) other table at (λ e. cc) mine (λ e. cc)).1 in
    let e : d ≡ endpoint_of known o.target = cc in
    record { place = n.0; offer = o; there = h.there; key_is = h.has; target_is = e }

-- the collection of a row that collects
pub record IsCollected (known : List ℕ) (collections : List rendezvous.Collecting) (key : ℕ) (h : Held) : Type 0 where
  pub place : ℕ
  pub collection : rendezvous.Collecting
  pub there : slice_get collections place ≡ Some collection
  pub key_is : collection.request ≡ key
  pub sender_is : h.sender ≡ endpoint_of known collection.source

collection_of : (a : Announcements) (known : List ℕ) (p : Place) (rows : List Row) (slots : List (Option TableEntry))
    (t : transfers.State) (ms : List Message) (k key : ℕ) (r : Receive) (h : Held) (got : List ℕ) →
    IsTable slots rows → AreUnderWay a known p rows t ms → slice_get rows k ≡ Some (row_of key (Collecting r h got)) →
    IsCollected known t.collections key h
collection_of a known p rows slots t ms k key r h got table u at =
    let n : IsIn key (collection_keys t.collections) = u.collected k key r h got at in
    let x : HasIt (λ (c : rendezvous.Collecting). c.request) t.collections n.0 key = of_map (λ (c : rendezvous.Collecting). c.request) t.collections n.0 key n.1 in
    let c : rendezvous.Collecting = x.element in
    let y : IsCollectionOf a.from known rows c = all_at (IsCollectionOf a.from known rows) t.collections n.0 c u.collections x.there in
    let other : Job = Collecting y.receive y.message y.got in
    let mine : slice_get rows y.serial ≡ Some (row_of key other) = y.row ∙ ap (λ (m : ℕ). Some (row_of m other)) x.has in
    let same : Collecting r h got ≡ other = (one_request slots rows k y.serial key (Collecting r h got) other table at (λ e. cc) mine (λ e. cc)).1 in
    let e : h ≡ y.message = cc in
    record {
      place = n.0;
      collection = c;
      there = x.there;
      key_is = x.has;
      sender_is = ap (λ (m : Held). m.sender) e ∙
          y.sender;
    }

-- one of these stands at some place
among_in : (key : ℕ) (xs : List ℕ) → IsAmong key xs → IsIn key xs
among_in key [] h = absurd h
among_in key (x ∷ xs) (inl e) = (zero, ap Some (sym e))
among_in key (x ∷ xs) (inr a) = let r : IsIn key xs = among_in key xs a in (suc r.0, r.1)

-- an element that passes has its key there
kept_key : {A : Type 0} (f : A → ℕ) (p : A → Bool) (xs : List A) (k key : ℕ) (x : A) → slice_get xs k ≡ Some x →
    f x ≡ key → p x ≡ true → IsIn key (map f (filter p xs))
kept_key f p xs k key x h e t =
    let n : IsIn x (filter p xs) = kept_in p xs k x h t in
    subst (λ (y : ℕ). IsIn y (map f (filter p xs))) e (n.0, in_map f (filter p xs) n.0 x n.1)

-- so it is among those of the ones that pass
kept_among : {A : Type 0} (f : A → ℕ) (p : A → Bool) (xs : List A) (k key : ℕ) (x : A) → slice_get xs k ≡ Some x →
    f x ≡ key → p x ≡ true → IsAmong key (map f (filter p xs))
kept_among f p xs k key x h e t = in_among key (map f (filter p xs)) (kept_key f p xs k key x h e t)

-- an offer to the rank is that of a request that ends
offer_ends : (to : Endpoint → List Transfer) (known : List ℕ) (rows : List Row) (r i key : ℕ) (o : Offer) →
    IsOfferOf to known rows o → o.request ≡ key → (o.target == r) ≡ true → IsEnding rows r i key
offer_ends to known rows r i key o y is target =
    record {
      serial = y.serial;
      job = Offering (endpoint_of known o.target) o.elements.basic o.elements.values;
      there = y.row ∙
          ap (λ (x : ℕ). Some (row_of x (Offering (endpoint_of known o.target) o.elements.basic o.elements.values))) is;
      ends = target;
    }

-- and so is a collection from it
collection_ends : (from : Endpoint → List Transfer) (known : List ℕ) (rows : List Row) (r i key : ℕ)
    (c : rendezvous.Collecting) → IsCollectionOf from known rows c → c.request ≡ key → c.source ≡ r →
    slice_index known r < i → IsEnding rows r i key
collection_ends from known rows r i key c y is source later =
    record {
      serial = y.serial;
      job = Collecting y.receive y.message y.got;
      there = y.row ∙ ap (λ (x : ℕ). Some (row_of x (Collecting y.receive y.message y.got))) is;
      ends = second (names y.receive.source r) (is_former r i y.message.sender)
          (former_known known r i c.source y.message.sender later y.sender source);
    }

-- the keys of the requests that end are those of the receives that name the rank, and of what is under way with it
pub keys_end : (a : Announcements) (known : List ℕ) (p : Place) (rows : List Row) (slots : List (Option TableEntry))
    (t : transfers.State) (ms : List Message) (r i : ℕ) → IsTable slots rows → AreUnderWay a known p rows t ms →
    AreTaken a.from known p rows slots → (r ≡ p.endpoint.rank → ⊥) → slice_index known r < i →
    AreEnding rows r i (keys_naming r (posted_rows rows) ++ (keys_with t r ++ keys_of_messages r i slots))
keys_end a known p rows slots t ms r i table u taken apart later = record { each = each; only = only }
  where
    to_keys : List ℕ
    to_keys = map (λ (o : Offer). o.request) (filter (λ (o : Offer). o.target == r) t.offers)

    from_keys : List ℕ
    from_keys =
        map (λ (c : rendezvous.Collecting). c.request)
        (filter (λ (c : rendezvous.Collecting). c.source == r) t.collections)

    names_keys : List ℕ
    names_keys = keys_naming r (posted_rows rows)

    message_keys : List ℕ
    message_keys = keys_of_messages r i slots

    under_way : (key : ℕ) → IsAmong key (to_keys ++ from_keys) →
        IsAmong key (names_keys ++ ((to_keys ++ from_keys) ++ message_keys))
    under_way key h =
        among_later key names_keys ((to_keys ++ from_keys) ++ message_keys)
        (among_first key (to_keys ++ from_keys) message_keys h)

    each : (k key : ℕ) (job : Job) → slice_get rows k ≡ Some (row_of key job) → ends_by r i job ≡ true →
        IsAmong key (names_keys ++ ((to_keys ++ from_keys) ++ message_keys))
    each k key (Waiting q) at e =
        among_first key names_keys ((to_keys ++ from_keys) ++ message_keys) (naming_among r rows k key q at e)
    each k key (Collecting q h got) at e =
        let c : IsCollected known t.collections key h = collection_of a known p rows slots t ms k key q h got table u at in
        let s : c.collection.source ≡ r = sym (ap (λ (x : Endpoint). x.rank) c.sender_is) ∙ sender_of_ended r i q h got (row_fits slots rows k key q h got table at) e in
        under_way key (among_later key to_keys from_keys
        (kept_among (λ (x : rendezvous.Collecting). x.request) (λ (x : rendezvous.Collecting). x.source == r)
        t.collections c.place key c.collection c.there c.key_is (eq-eqb c.collection.source r s)))
    each k key (Offering d basic values) at e =
        let o : IsOffered a.to known rows t.offers key d = offer_of a known p rows slots t ms k key d basic values table u at in
        let s : o.offer.target ≡ r = sym (ap (λ (x : Endpoint). x.rank) o.target_is) ∙ eqb-true d.rank r e in
        under_way key (among_first key to_keys from_keys
        (kept_among (λ (x : Offer). x.request) (λ (x : Offer). x.target == r) t.offers o.place key o.offer o.there
        o.key_is (eq-eqb o.offer.target r s)))
    each k key (Over x) at e = absurd (grind arith)
    each k key Closed at e = absurd (grind arith)
    each k key (Unmatched d) at e =
        absurd (apart (sym (eqb-true d.rank r e) ∙ ap (λ (x : Endpoint). x.rank) (u.unmatched k key d at)))
    each k key (Probed g None) at e = absurd (grind arith)
    each k key (Probed g (Some h)) at e =
        among_later key names_keys ((to_keys ++ from_keys) ++ message_keys)
        (among_later key (to_keys ++ from_keys) message_keys
        (taken_among a.from known p rows slots r i k key g h table taken at e))

    of_names : (key : ℕ) → IsAmong key names_keys → IsEnding rows r i key
    of_names key n =
        let x : IsNaming rows r key = named_at r rows key n in
        record { serial = x.serial; job = Waiting x.receive; there = x.there; ends = x.named }

    of_offers : (key : ℕ) → IsIn key to_keys → IsEnding rows r i key
    of_offers key n =
        let h : HasIt (λ (o : Offer). o.request) (filter (λ (o : Offer). o.target == r) t.offers) n.0 key = of_map (λ (o : Offer). o.request) (filter (λ (o : Offer). o.target == r) t.offers) n.0 key n.1 in
        let w = kept_at (λ (x : Offer). x.target == r) t.offers n.0 h.element h.there in
        offer_ends a.to known rows r i key h.element
        (all_at (IsOfferOf a.to known rows) t.offers w.0 h.element u.offers w.1) h.has w.2

    of_collections : (key : ℕ) → IsIn key from_keys → IsEnding rows r i key
    of_collections key n =
        let h : HasIt (λ (c : rendezvous.Collecting). c.request) (filter (λ (c : rendezvous.Collecting). c.source == r) t.collections) n.0 key =
        of_map (λ (c : rendezvous.Collecting). c.request)
        (filter (λ (c : rendezvous.Collecting). c.source == r) t.collections) n.0 key n.1 in
        let w = kept_at (λ (x : rendezvous.Collecting). x.source == r) t.collections n.0 h.element h.there in
        collection_ends a.from known rows r i key h.element
        (all_at (IsCollectionOf a.from known rows) t.collections w.0 h.element u.collections w.1) h.has
        (eqb-true h.element.source r w.2) later

    only : (key : ℕ) → IsAmong key (names_keys ++ ((to_keys ++ from_keys) ++ message_keys)) → IsEnding rows r i key
    only key n = go (among_either key names_keys ((to_keys ++ from_keys) ++ message_keys) n)
      where
        pair : IsAmong key to_keys ⊎ IsAmong key from_keys → IsEnding rows r i key
        pair (inl x) = of_offers key (among_in key to_keys x)
        pair (inr x) = of_collections key (among_in key from_keys x)

        later_ones : IsAmong key (to_keys ++ from_keys) ⊎ IsAmong key message_keys → IsEnding rows r i key
        later_ones (inl x) = pair (among_either key to_keys from_keys x)
        later_ones (inr x) = message_ends a.from known p rows slots r i key table taken x

        go : IsAmong key names_keys ⊎ IsAmong key ((to_keys ++ from_keys) ++ message_keys) → IsEnding rows r i key
        go (inl x) = of_names key x
        go (inr x) = later_ones (among_either key (to_keys ++ from_keys) message_keys x)

-- ---- WHAT GOES ON

-- what is known of another rank stays
known_other : (known : List ℕ) (r v x : ℕ) → x ≢ r → endpoint_of (slice_set known r v) x ≡ endpoint_of known x
known_other known r v x n = ap (λ (i : ℕ). record { rank = x; incarnation = i }) (get_or-set_other known r x v 0 n)

-- a job that doesn't end stays
job_stays : (r i : ℕ) (job : Job) → ends_by r i job ≡ false → ended r i job ≡ job
job_stays r i (Waiting p) e = ap (λ (b : Bool). if b then Over (machine.Replaced (Some p.into.buffer)) else Waiting p) e
job_stays r i (Collecting p h got) e =
    ap (λ (b : Bool). if b then Over (machine.Replaced (Some p.into.buffer)) else Collecting p h got) e
job_stays r i (Offering d basic values) e =
    ap (λ (b : Bool). if b then Over (machine.Replaced None) else Offering d basic values) e
job_stays r i (Over x) e = refl
job_stays r i Closed e = refl
job_stays r i (Unmatched d) e = ap (λ (x : Bool). if x then Over (machine.Replaced None) else Unmatched d) e
job_stays r i (Probed g None) e = refl
job_stays r i (Probed g (Some h)) e = ap (λ (x : Bool). Probed g (if x then None else Some h)) e

-- its row too
pub row_stays : (rows : List Row) (r i k key : ℕ) (job : Job) → slice_get rows k ≡ Some (row_of key job) →
    ends_by r i job ≡ false → slice_get (map (ended_row r i) rows) k ≡ Some (row_of key job)
row_stays rows r i k key job at e = ended_at r i rows k (row_of key job) at ∙
    ap (λ (j : Job). Some (row_of key j)) (job_stays r i job e)

-- what is under way afterwards was so before, and doesn't end
pub record WasUnderWay (rows : List Row) (r i k key : ℕ) (job : Job) : Type 0 where
  pub there : slice_get rows k ≡ Some (row_of key job)
  pub stays : ends_by r i job ≡ false

-- what is left of a job
job_before : (r i : ℕ) (j job : Job) → IsTransfer job → ended r i j ≡ job → (j ≡ job) × (ends_by r i j ≡ false)
job_before r i (Waiting p) job t e = go (names p.source r) refl e
  where
    go : (b : Bool) → names p.source r ≡ b → (if b then Over (machine.Replaced (Some p.into.buffer)) else Waiting p) ≡
        job → (Waiting p ≡ job) × (names p.source r ≡ false)
    go true n g = absurd (subst IsTransfer (sym g) t)
    go false n g = (g, n)
job_before r i (Collecting p h got) job t e = go (names p.source r || is_former r i h.sender) refl e
  where
    go : (b : Bool) → (names p.source r || is_former r i h.sender) ≡ b →
        (if b then Over (machine.Replaced (Some p.into.buffer)) else Collecting p h got) ≡ job →
        (Collecting p h got ≡ job) × ((names p.source r || is_former r i h.sender) ≡ false)
    go true n g = absurd (subst IsTransfer (sym g) t)
    go false n g = (g, n)
job_before r i (Offering d basic values) job t e = go (d.rank == r) refl e
  where
    go : (b : Bool) → (d.rank == r) ≡ b → (if b then Over (machine.Replaced None) else Offering d basic values) ≡ job →
        (Offering d basic values ≡ job) × ((d.rank == r) ≡ false)
    go true n g = absurd (subst IsTransfer (sym g) t)
    go false n g = (g, n)
job_before r i (Over x) job t e = absurd (subst IsTransfer (sym e) t)
job_before r i Closed job t e = absurd (subst IsTransfer (sym e) t)
job_before r i (Unmatched d) job t e = go (d.rank == r) refl e
  where
    go : (b : Bool) → (d.rank == r) ≡ b → (if b then Over (machine.Replaced None) else Unmatched d) ≡ job →
        (Unmatched d ≡ job) × ((d.rank == r) ≡ false)
    go true n g = absurd (subst IsTransfer (sym g) t)
    go false n g = (g, n)
job_before r i (Probed g None) job t e = absurd (subst IsTransfer (sym e) t)
job_before r i (Probed g (Some h)) job t e = go (is_former r i h.sender) refl e
  where
    go : (b : Bool) → is_former r i h.sender ≡ b → Probed g (if b then None else Some h) ≡ job →
        (Probed g (Some h) ≡ job) × (is_former r i h.sender ≡ false)
    go true n x = absurd (subst IsTransfer (sym x) t)
    go false n x = (x, n)

row_before : (rows : List Row) (r i k key : ℕ) (job : Job) → IsTransfer job → slice_get (map (ended_row r i) rows) k ≡
    Some (row_of key job) → WasUnderWay rows r i k key job
row_before rows r i k key job t at = go (of_map (ended_row r i) rows k (row_of key job) at)
  where
    go : HasIt (ended_row r i) rows k (row_of key job) → WasUnderWay rows r i k key job
    go h =
        let e : h.element.key ≡ key = ap (λ (x : Row). x.key) h.has in
        let g = job_before r i h.element.job job t (ap (λ (x : Row). x.job) h.has) in
        record {
          there = h.there ∙
              (ap (λ (n : ℕ). Some (row_of n h.element.job)) e ∙ ap (λ (j : Job). Some (row_of key j)) g.0);
          stays = sym (ap (ends_by r i) g.0) ∙ g.1;
        }

-- not this one, then another
not_true : (b : Bool) → not b ≡ true → b ≡ false
not_true true h = absurd (grind arith)
not_true false h = refl

only_false : (b : Bool) → (b ≡ true → ⊥) → b ≡ false
only_false true n = absurd (n refl)
only_false false n = refl

true_false : (b : Bool) → b ≡ true → b ≡ false → ⊥
true_false true h g = absurd (grind arith)
true_false false h g = absurd (grind arith)

-- the greater of two numbers
greater : (a b : ℕ) → a < b → max a b ≡ b
greater a b h = omega arith

apart_ranks : (x r : ℕ) → not (x == r) ≡ true → x ≢ r
apart_ranks x r h e = let a : (x == r) ≡ false = not_true (x == r) h in let b : (x == r) ≡ true = eq-eqb x r e in absurd
    (grind arith)

-- its session starts anew, and nothing was announced in it
learned_numbers : (to : Endpoint → List Transfer) (known : List ℕ) (p : Place) (numbers : List Numbers) (r i : ℕ) →
    IsNumbered to known p numbers → to (record { rank = r; incarnation = i }) ≡ [] → length known ≡ p.size →
    r < p.size →
    slice_index known r < i →
    IsNumbered to (slice_set known r (max (slice_index known r) i)) p (slice_set numbers r fresh)
learned_numbers to known p numbers r i h none width inside later =
    record {
      width = length-set numbers r fresh ∙ h.width;
      begun = λ x there apart. begun x there apart (cases_eq x r);
      most = λ x. most x (cases_eq x r);
    }
  where
    here : slice_index_or (slice_set numbers r fresh) r fresh ≡ fresh
    here = get_or-set_same numbers r fresh fresh (subst (λ (n : ℕ). r < n) (sym h.width) inside)

    learnt : endpoint_of (slice_set known r (max (slice_index known r) i)) r ≡ record { rank = r; incarnation = i }
    learnt = ap (λ (n : ℕ). record { rank = r; incarnation = n })
        (get_or-set_same known r (max (slice_index known r) i) 0 (subst (λ (n : ℕ). r < n) (sym width) inside) ∙
        greater (slice_index known r) i later)

    first : next_to (slice_set numbers r fresh) r ≡
        length (to (endpoint_of (slice_set known r (max (slice_index known r) i)) r))
    first = ap (λ (n : Numbers). n.begun) here ∙ sym (ap (λ (ts : List Transfer). length ts) (ap to learnt ∙ none))

    begun : (x : ℕ) → x < p.size → (x ≡ p.endpoint.rank → ⊥) →
        (x ≡ r) ⊎ (x ≢ r) → next_to (slice_set numbers r fresh) x ≡
        length (to (endpoint_of (slice_set known r (max (slice_index known r) i)) x))
    begun x there apart (inl e) =
        subst (λ (y : ℕ). next_to (slice_set numbers r fresh) y ≡
        length (to (endpoint_of (slice_set known r (max (slice_index known r) i)) y))) (sym e) first
    begun x there apart (inr n) =
        ap (λ (y : Numbers). y.begun) (get_or-set_other numbers r x fresh fresh n)
        ∙ (h.begun x there apart ∙
        ap (λ (d : Endpoint). length (to d)) (sym (known_other known r (max (slice_index known r) i) x n)))

    most : (x : ℕ) → (x ≡ r) ⊎ (x ≢ r) → next_to (slice_set numbers r fresh) x ≤ most_transfers
    most x (inl e) =
        subst (λ (y : ℕ). next_to (slice_set numbers r fresh) y ≤ most_transfers) (sym e)
        (subst (λ (n : Numbers). n.begun ≤ most_transfers) (sym here) (omega arith))
    most x (inr n) =
        subst (λ (y : Numbers). y.begun ≤ most_transfers) (sym (get_or-set_other numbers r x fresh fresh n)) (h.most x)

-- an offer to another rank goes on
learned_offer : (to : Endpoint → List Transfer) (known : List ℕ) (rows : List Row) (r i v : ℕ) (o : Offer) →
    o.target ≢ r → IsOfferOf to known rows o → IsOfferOf to (slice_set known r v) (map (ended_row r i) rows) o
learned_offer to known rows r i v o n y =
    let same : endpoint_of known o.target ≡ endpoint_of (slice_set known r v) o.target = sym (known_other known r v o.target n) in
    record {
      serial = y.serial;
      row = row_stays rows r i y.serial o.request
          (Offering (endpoint_of known o.target) o.elements.basic o.elements.values) y.row (ne_eqb o.target r n)
          ∙ ap (λ (d : Endpoint). Some (row_of o.request (Offering d o.elements.basic o.elements.values))) same;
      announced = ap (λ (d : Endpoint). slice_get (to d) o.transfer) (sym same) ∙ y.announced;
      within = y.within;
      limit = y.limit;
    }

-- so does a collection from another rank
learned_collection : (from : Endpoint → List Transfer) (known : List ℕ) (slots : List (Option TableEntry))
    (rows : List Row) (r i v : ℕ) (c : rendezvous.Collecting) → IsTable slots rows → c.source ≢ r →
    IsCollectionOf from known rows c →
    IsCollectionOf from (slice_set known r v) (map (ended_row r i) rows) c
learned_collection from known slots rows r i v c table n y =
    record {
      serial = y.serial;
      receive = y.receive;
      message = y.message;
      got = y.got;
      row = row_stays rows r i y.serial c.request (Collecting y.receive y.message y.got) y.row
          (only_false (ends_by r i (Collecting y.receive y.message y.got)) apart);
      sender = y.sender ∙ sym (known_other known r v c.source n);
      transfer = y.transfer;
      announced = y.announced;
      body = y.body;
      basic = y.basic;
      basic_is = y.basic_is;
      total = y.total;
      bytes = y.bytes;
      within = y.within;
    }
  where
    apart : ends_by r i (Collecting y.receive y.message y.got) ≡ true → ⊥
    apart e =
        n (sym (ap (λ (x : Endpoint). x.rank) y.sender) ∙
        sender_of_ended r i y.receive y.message y.got
        (row_fits slots rows y.serial c.request y.receive y.message y.got table y.row) e)

-- and an announced message that waits, if it isn't of a former incarnation
pub learned_message : (from : Endpoint → List Transfer) (known : List ℕ) (p : Place) (rows : List Row) (r i v : ℕ)
    (m : Message) (b : Body) → (r ≡ p.endpoint.rank → ⊥) → slice_index known r < i → not (is_former r i m.sender) ≡
    true → IsFromLink from known p rows m b →
    IsFromLink from (slice_set known r v) p (map (ended_row r i) rows) m b
learned_message from known p rows r i v m (bodies.Whole c) apart later kept f = tt
learned_message from known p rows r i v m (bodies.Own o) apart later kept f =
    record {
      sender = f.sender;
      row =
          row_stays rows r i o.serial o.key (Unmatched p.endpoint) f.row
          (ne_eqb p.endpoint.rank r (λ e. apart (sym e)));
    }
learned_message from known p rows r i v m (bodies.Announced x) apart later kept f =
    record {
      sender = f.sender ∙ sym (known_other known r v m.sender.rank n);
      there = f.there;
      apart =
          f.apart;
      announced = f.announced;
      width = f.width;
    }
  where
    n : m.sender.rank ≢ r
    n e =
        let a : is_former r i m.sender ≡ false = not_true (is_former r i m.sender) kept in
        let b : is_former r i m.sender ≡ true = former_known known r i m.sender.rank m.sender later f.sender e in
        absurd (grind arith)

-- once rank r is learnt at incarnation i
pub learned_under_way : (a : Announcements) (known : List ℕ) (p : Place) (rows : List Row)
    (slots : List (Option TableEntry)) (t : transfers.State) (ms : List Message) (r i : ℕ) → IsTable slots rows →
    AreUnderWay a known p rows t ms →
    NoneUntold a known → length known ≡ p.size → r < p.size → (r ≡ p.endpoint.rank → ⊥) → slice_index known r < i →
    AreUnderWay a (slice_set known r (max (slice_index known r) i)) p (map (ended_row r i) rows) (after_drop t r)
    (filter (λ (m : Message). not (is_former r i m.sender)) ms)
learned_under_way a known p rows slots t ms r i table u untold width inside apart later =
    record {
      numbered =
          learned_numbers a.to known p t.numbers r i u.numbered (untold (record { rank = r; incarnation = i }) later)
          width inside later;
      offers = kept_all (IsOfferOf a.to after left) goes_to t.offers
          (λ k o at kept. learned_offer a.to known rows r i v o (apart_ranks o.target r kept)
          (all_at (IsOfferOf a.to known rows) t.offers k o u.offers at));
      offered =
          λ k key d basic values at. offered k key d basic values
          (row_before rows r i k key (Offering d basic values) tt at);
      offers_apart = apart_kept (λ (o : Offer). o.request) goes_to t.offers u.offers_apart;
      collections = kept_all (IsCollectionOf a.from after left) comes_from t.collections
          (λ k c at kept. learned_collection a.from known slots rows r i v c table (apart_ranks c.source r kept)
          (all_at (IsCollectionOf a.from known rows) t.collections k c u.collections at));
      collected = λ k key q h got at. collected k key q h got (row_before rows r i k key (Collecting q h got) tt at);
      collections_apart =
          apart_kept (λ (c : rendezvous.Collecting). c.request) comes_from t.collections u.collections_apart;
      unmatched = λ k key d at. u.unmatched k key d (row_before rows r i k key (Unmatched d) tt at).there;
      messages =
          kept_all (λ (m : Message). IsFromLink a.from after p left m m.body)
          (λ (m : Message). not (is_former r i m.sender)) ms
          (λ k m at kept. learned_message a.from known p rows r i v m m.body apart later kept
          (all_at (λ (x : Message). IsFromLink a.from known p rows x x.body) ms k m u.messages at));
    }
  where
    v : ℕ
    v = max (slice_index known r) i

    after : List ℕ
    after = slice_set known r v

    left : List Row
    left = map (ended_row r i) rows

    goes_to : Offer → Bool
    goes_to o = not (o.target == r)

    comes_from : rendezvous.Collecting → Bool
    comes_from c = not (c.source == r)

    offered : (k key : ℕ) (d : Endpoint) (basic : BasicType) (values : List ℕ) →
        WasUnderWay rows r i k key (Offering d basic values) →
        IsIn key (offer_keys (filter (λ (o : Offer). not (o.target == r)) t.offers))
    offered k key d basic values w =
        let o : IsOffered a.to known rows t.offers key d = offer_of a known p rows slots t ms k key d basic values table u w.there in
        let e : (o.offer.target == r) ≡ false = ap (λ (x : Endpoint). x.rank == r) (sym o.target_is) ∙ w.stays in
        kept_key (λ (x : Offer). x.request) (λ (x : Offer). not (x.target == r)) t.offers o.place key o.offer o.there
        o.key_is (ap not e)

    collected : (k key : ℕ) (q : Receive) (h : Held) (got : List ℕ) → WasUnderWay rows r i k key (Collecting q h got) →
        IsIn key (collection_keys (filter (λ (c : rendezvous.Collecting). not (c.source == r)) t.collections))
    collected k key q h got w =
        let c : IsCollected known t.collections key h = collection_of a known p rows slots t ms k key q h got table u w.there in
        let e : (c.collection.source == r) ≡ false = only_false (c.collection.source == r) (λ x.
        let ends : ends_by r i (Collecting q h got) ≡ true = second (names q.source r) (is_former r i h.sender) (former_known known r i c.collection.source h.sender later c.sender_is (eqb-true c.collection.source r x)) in
        absurd (true_false (ends_by r i (Collecting q h got)) ends w.stays)) in
        kept_key (λ (x : rendezvous.Collecting). x.request) (λ (x : rendezvous.Collecting). not (x.source == r))
        t.collections c.place key c.collection c.there c.key_is (ap not e)
