-- An offer that is answered: it is found by its number, and what is left under way is all but it.
use Rattle.std.proofs.Common.{◌≡◌, ◌≢◌, ℕ, zero, suc, ◌==◌, Bool, true, false, List, [], ◌∷◌, ◌++◌, Option, Some, None}
use Rattle.std.proofs.Common.{is_some, slice_get, slice_set, refl, sym, ap, ◌∙◌, subst, ◌⊎◌, inl, inr}
use Rattle.std.specs.List.{AllByRecursion}
use Rattle.std.proofs.lemmas.Bool.{and_parts, both_ways, cases_eq, eqb-true}
use Rattle.std.proofs.lemmas.Option.{same_Some}
use Rattle.vocabulary.specs.declared.basic_type.BasicType.{BasicType}
use Rattle.vocabulary.specs.declared.endpoint.Endpoint.{Endpoint}
use Rattle.datagram.specs.Spellings.{ClearText, ClearFrame}
use Rattle.incarnation.specs.declared.place.Place.{Place}
use Rattle.match_queues.specs.declared.envelope.Message.{Message}
use Rattle.rendezvous.specs.declared.offer.Offer.{Offer}
use Rattle.rendezvous.specs.Collections as rendezvous
use Rattle.rendezvous.specs.Offers.{is_to, offer_at, without_offer}
use Rattle.rendezvous.specs.State as transfers
use Rattle.rendezvous.specs.State.{after_cts, after_drop, offered}
use Rattle.rendezvous.proofs.Firsts.{first_or_none}
use Rattle.perfect_queues.proofs.ListLemmas.{get_set_other}
use Rattle.perfect_queues.specs.Outcomes as machine
use Rattle.requests.specs.declared.table.TableEntry.{TableEntry}
use Rattle.point_to_point_calls.specs.FrameNews.{bad_unless, heard_fault}
use Rattle.proof_pure_network.specs.Announcements.{IsIn}
use Rattle.proof_pure_network.specs.Jobs.{Job, Collecting, Offering, Over, Unmatched}
use Rattle.proof_pure_network.proofs.JobLemmas.{get_set_same}
use Rattle.proof_engine_view.specs.Frames.{endpoint_of}
use Rattle.proof_engine_view.specs.Rows.{IsTable, Row}
use Rattle.proof_engine_view.specs.Transfers.{Announcements, Transfer}
use Rattle.proof_engine_view.specs.UnderWay.{AreApart, AreUnderWay, IsCollectionOf, IsOfferOf, offer_keys}
use Rattle.proof_engine_steps.proofs.Tables.{one_request}
use Rattle.proof_engine_steps.proofs.UnderWay.{keeps_set, messages_keep, row_of}

-- ---- A LIST WITH ONE IN THE MIDDLE

-- what holds of each holds of that one, and of the others
pub all_parts : {A : Type 0} (P : A → Type 0) (front back : List A) (x : A) → AllByRecursion P (front ++ x ∷ back) →
    P x × AllByRecursion P (front ++ back)
all_parts P [] back x h = (h.0, h.1)
all_parts P (y ∷ ys) back x h = let r = all_parts P ys back x h.1 in (r.0, (h.0, r.1))

-- the same of their keys
keys_parts : (P : ℕ → Type 0) (front back : List Offer) (o : Offer) →
    AllByRecursion P (offer_keys (front ++ o ∷ back)) → P o.request × AllByRecursion P (offer_keys (front ++ back))
keys_parts P [] back o h = (h.0, h.1)
keys_parts P (y ∷ ys) back o h = let r = keys_parts P ys back o h.1 in (r.0, (h.0, r.1))

of_keys : (P : ℕ → Type 0) (os : List Offer) → AllByRecursion P (offer_keys os) →
    AllByRecursion (λ (o : Offer). P o.request) os
of_keys P [] h = tt
of_keys P (o ∷ os) h = (h.0, of_keys P os h.1)

-- the others have other keys, and those are apart
record AreOthers (front back : List Offer) (o : Offer) : Type 0 where
  apart : AreApart (offer_keys (front ++ back))
  others : AllByRecursion (λ (x : Offer). x.request ≡ o.request → ⊥) (front ++ back)

others_apart : (front back : List Offer) (o : Offer) → AreApart (offer_keys (front ++ o ∷ back)) →
    AreOthers front back o
others_apart [] back o h = record { apart = h.1; others = of_keys (λ (k : ℕ). k ≡ o.request → ⊥) back h.0 }
others_apart (x ∷ xs) back o h =
    let r : AreOthers xs back o = others_apart xs back o h.1 in
    let q = keys_parts (λ (k : ℕ). k ≡ x.request → ⊥) xs back o h.0 in
    record { apart = (q.1, r.apart); others = (λ (e : x.request ≡ o.request). q.0 (sym e), r.others) }

-- another key is still there
in_without : (front back : List Offer) (o : Offer) (key : ℕ) → IsIn key (offer_keys (front ++ o ∷ back)) →
    (key ≡ o.request → ⊥) → IsIn key (offer_keys (front ++ back))
in_without [] back o key (zero, h) other = absurd (other (sym (same_Some o.request key h)))
in_without [] back o key (suc n, h) other = (n, h)
in_without (x ∷ xs) back o key (zero, h) other = (0, h)
in_without (x ∷ xs) back o key (suc n, h) other = let r = in_without xs back o key (n, h) other in (suc r.0, r.1)

-- ---- THE OFFER

-- an offer that is answered, among the others
pub record IsAnswered (t : transfers.State) (rank transfer : ℕ) : Type 0 where
  pub offer : Offer
  pub front : List Offer
  pub back : List Offer
  pub found : offered t rank transfer ≡ Some offer
  pub offers : t.offers ≡ front ++ offer ∷ back
  pub left : (after_cts t rank transfer).offers ≡ front ++ back
  pub target : offer.target ≡ rank
  pub number : offer.transfer ≡ transfer

-- where something is offered, it is found
pub offer_there : (t : transfers.State) (rank transfer : ℕ) → is_some (offered t rank transfer) ≡ true →
    IsAnswered t rank transfer
offer_there t rank transfer h =
    elim (first_or_none (is_to rank transfer) t.offers) [
      | inl k ↦
          let none : offered t rank transfer ≡ None = ap (offer_at t.offers) k.0 in
          absurd (both_ways (is_some (offered t rank transfer)) (ap (λ (o : Option Offer). is_some o) none) h)
      | inr k ↦
          let is = and_parts (k.1.target == rank) (k.1.transfer == transfer) k.2.passes in
          record {
            offer = k.1;
            front = k.2.front;
            back = k.2.back;
            found = ap (offer_at t.offers) k.2.place ∙ k.2.there;
            offers = k.2.parts;
            left = ap (without_offer t.offers) k.2.place ∙ k.2.removed;
            target = eqb-true k.1.target rank is.0;
            number = eqb-true k.1.transfer transfer is.1;
          }
    ]

-- a bad frame is refused
unless_bad : (b : Bool) → bad_unless b ≡ None → b ≡ true
unless_bad true h = refl
unless_bad false h = absurd cc

-- an answer that is taken is that of an offer
pub answer_there : (t : transfers.State) (rank : ℕ) (f : ClearText) → heard_fault t rank (Some (ClearFrame f)) ≡ None →
    IsAnswered t rank f.transfer
answer_there t rank f h = offer_there t rank f.transfer (unless_bad (is_some (offered t rank f.transfer)) h)

-- ---- WHAT IS LEFT UNDER WAY

-- two rows of requests that offer have two keys
keys_differ : (slots : List (Option TableEntry)) (rows : List Row) (k n key other : ℕ) (d e : Endpoint)
    (basic kind : BasicType) (values elements : List ℕ) → IsTable slots rows →
    slice_get rows k ≡ Some (row_of key (Offering d basic values)) →
    slice_get rows n ≡ Some (row_of other (Offering e kind elements)) → n ≢ k → other ≡ key → ⊥
keys_differ slots rows k n key other d e basic kind values elements table here there ne same =
    let moved : slice_get rows n ≡ Some (row_of key (Offering e kind elements)) = subst (λ (y : ℕ). slice_get rows n ≡ Some (row_of y (Offering e kind elements))) same there in
    ne (sym (one_request slots rows k n key (Offering d basic values) (Offering e kind elements) table here
    (λ z. cc) moved (λ z. cc)).0)

-- other offers are those of the rows once this one's row is over
offers_stay : (to : Endpoint → List Transfer) (known : List ℕ) (rows : List Row) (k key : ℕ) (d : Endpoint)
    (basic : BasicType) (values : List ℕ) (job : Job) (os : List Offer) →
    slice_get rows k ≡ Some (row_of key (Offering d basic values)) → AllByRecursion (IsOfferOf to known rows) os →
    AllByRecursion (λ (o : Offer). o.request ≡ key → ⊥) os →
    AllByRecursion (IsOfferOf to known (slice_set rows k (row_of key job))) os
offers_stay to known rows k key d basic values job [] here all other = tt
offers_stay to known rows k key d basic values job (o ∷ os) here (i, is) (ne, nes) =
    (one (cases_eq i.serial k), offers_stay to known rows k key d basic values job os here is nes)
  where
    one : (i.serial ≡ k) ⊎ (i.serial ≢ k) → IsOfferOf to known (slice_set rows k (row_of key job)) o
    one (inl e) =
        let r : row_of o.request (Offering (endpoint_of known o.target) o.elements.basic o.elements.values) ≡ row_of key (Offering d basic values) =
        same_Some (row_of o.request (Offering (endpoint_of known o.target) o.elements.basic o.elements.values))
        (row_of key (Offering d basic values)) (sym i.row ∙ (ap (slice_get rows) e ∙ here)) in
        absurd (ne (ap (λ (x : Row). x.key) r))
    one (inr n) = record {
      serial = i.serial;
      row = get_set_other rows k i.serial (row_of key job) (λ e. n (sym e)) ∙ i.row;
      announced = i.announced;
      within = i.within;
      limit = i.limit;
    }

-- what is collected is what it was
collections_stay : (from : Endpoint → List Transfer) (known : List ℕ) (rows : List Row) (k key : ℕ) (d : Endpoint)
    (basic : BasicType) (values : List ℕ) (job : Job) (cs : List rendezvous.Collecting) →
    slice_get rows k ≡ Some (row_of key (Offering d basic values)) →
    AllByRecursion (IsCollectionOf from known rows) cs →
    AllByRecursion (IsCollectionOf from known (slice_set rows k (row_of key job))) cs
collections_stay from known rows k key d basic values job [] here all = tt
collections_stay from known rows k key d basic values job (c ∷ cs) here (i, is) =
    (one (cases_eq i.serial k), collections_stay from known rows k key d basic values job cs here is)
  where
    one : (i.serial ≡ k) ⊎ (i.serial ≢ k) → IsCollectionOf from known (slice_set rows k (row_of key job)) c
    one (inl e) =
        let r : row_of c.request (Collecting i.receive i.message i.got) ≡ row_of key (Offering d basic values) =
        same_Some (row_of c.request (Collecting i.receive i.message i.got)) (row_of key (Offering d basic values))
        (sym i.row ∙ (ap (slice_get rows) e ∙ here)) in
        let jobs : Collecting i.receive i.message i.got ≡ Offering d basic values = ap (λ (x : Row). x.job) r in
        absurd cc
    one (inr n) = record {
      serial = i.serial;
      receive = i.receive;
      message = i.message;
      got = i.got;
      row = get_set_other rows k i.serial (row_of key job) (λ e. n (sym e)) ∙ i.row;
      sender = i.sender;
      transfer = i.transfer;
      announced = i.announced;
      body = i.body;
      basic = i.basic;
      basic_is = i.basic_is;
      total = i.total;
      bytes = i.bytes;
      within = i.within;
    }

-- a row that is not the one that is over is as it was
row_before : (rows : List Row) (k n key : ℕ) (job over : Job) (r : Row) → slice_get rows k ≡ Some (row_of key job) →
    slice_get (slice_set rows k (row_of key over)) n ≡ Some r → (r.job ≡ over → ⊥) →
    (n ≢ k) × (slice_get rows n ≡ Some r)
row_before rows k n key job over r here h live = go (cases_eq n k)
  where
    go : (n ≡ k) ⊎ (n ≢ k) → (n ≢ k) × (slice_get rows n ≡ Some r)
    go (inl e) =
        let same : row_of key over ≡ r = same_Some (row_of key over) r (sym (get_set_same rows k (row_of key job) (row_of key over) here) ∙ (ap (slice_get (slice_set rows k (row_of key over))) (sym e) ∙ h)) in
        absurd (live (sym (ap (λ (y : Row). y.job) same)))
    go (inr ne) = (ne, sym (get_set_other rows k n (row_of key over) (λ e. ne (sym e))) ∙ h)

-- all but the offer that is answered is under way
pub answered_under_way : (a : Announcements) (known : List ℕ) (p : Place) (slots : List (Option TableEntry))
    (rows : List Row) (t : transfers.State) (ms : List Message) (rank transfer k : ℕ)
    (found : IsAnswered t rank transfer) (d : Endpoint) (basic : BasicType) (values : List ℕ) →
    AreUnderWay a known p rows t ms → IsTable slots rows →
    slice_get rows k ≡ Some (row_of found.offer.request (Offering d basic values)) →
    AreUnderWay a known p (slice_set rows k (row_of found.offer.request (Over machine.Sent)))
    (after_cts t rank transfer) ms
answered_under_way a known p slots rows t ms rank transfer k found d basic values u table here =
    record {
      numbered = u.numbered;
      offers = subst (AllByRecursion (IsOfferOf a.to known left)) (sym found.left)
          (offers_stay a.to known rows k o.request d basic values (Over machine.Sent) (found.front ++ found.back) here
          (all_parts (IsOfferOf a.to known rows) found.front found.back o
          (subst (AllByRecursion (IsOfferOf a.to known rows)) found.offers u.offers)).1 apart.others);
      offered =
          λ n key e kind elements h. offered_still n key e kind elements
          (row_before rows k n o.request (Offering d basic values) (Over machine.Sent)
          (row_of key (Offering e kind elements)) here h (λ z. cc));
      offers_apart = subst (λ (os : List Offer). AreApart (offer_keys os)) (sym found.left) apart.apart;
      collections =
          collections_stay a.from known rows k o.request d basic values (Over machine.Sent) t.collections here
          u.collections;
      collected = λ n key r h got x. u.collected n key r h got
          (row_before rows k n o.request (Offering d basic values) (Over machine.Sent) (row_of key (Collecting r h got))
          here x (λ z. cc)).1;
      collections_apart = u.collections_apart;
      unmatched =
          λ n key e h. u.unmatched n key e
          (row_before rows k n o.request (Offering d basic values) (Over machine.Sent) (row_of key (Unmatched e)) here h
          (λ z. cc)).1;
      messages =
          messages_keep a.from known p rows left ms
          (keeps_set rows k o.request (Offering d basic values) (Over machine.Sent) here (λ i. i)) u.messages;
    }
  where
    o : Offer
    o = found.offer

    left : List Row
    left = slice_set rows k (row_of found.offer.request (Over machine.Sent))

    apart : AreOthers found.front found.back found.offer
    apart = others_apart found.front found.back found.offer
        (subst (λ (os : List Offer). AreApart (offer_keys os)) found.offers u.offers_apart)

    offered_still : (n key : ℕ) (e : Endpoint) (kind : BasicType) (elements : List ℕ) →
        (n ≢ k) × (slice_get rows n ≡ Some (row_of key (Offering e kind elements))) →
        IsIn key (offer_keys (after_cts t rank transfer).offers)
    offered_still n key e kind elements (ne, there) =
        subst (λ (os : List Offer). IsIn key (offer_keys os)) (sym found.left)
        (in_without found.front found.back found.offer key
        (subst (λ (os : List Offer). IsIn key (offer_keys os)) found.offers (u.offered n key e kind elements there))
        (keys_differ slots rows k n found.offer.request key d e basic kind values elements table here there ne))
