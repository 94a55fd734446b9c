-- What is so of the key and the serial of each request of a table stays so through the table's steps: none gives a
-- request another key or another serial.
use Rattle.std.proofs.Common.{◌≡◌, ℕ, zero, suc, Bool, true, false, List, [], ◌∷◌, Option, Some, None, slice_set}
use Rattle.std.proofs.Common.{if◌then◌else◌, ◌==◌, refl, sym, subst, inl, inr}
use Rattle.std.proofs.lemmas.Bool.{cases_eq, eqb-true}
use Rattle.vocabulary.specs.declared.basic_type.BasicType.{BasicType}
use Rattle.vocabulary.specs.declared.envelope.Status.{Status}
use Rattle.datatypes.specs.Contents.{Contents}
use Rattle.match_queues.specs.declared.queues.Arrival.{Arrival}
use Rattle.match_queues.specs.declared.queues.Arrival.TheVariants.{Kept, Matched}
use Rattle.match_queues.specs.declared.envelope.Body.{Body}
use Rattle.match_queues.specs.declared.envelope.Body.TheVariants as bodies
use Rattle.requests.specs.Completions.{without}
use Rattle.requests.specs.Table.{IsSet, after_announcement, after_answer, after_cancel, after_delivery, after_finish}
use Rattle.requests.specs.Table.{after_receive, after_replaces, cancelled_by, entry_after, progress_at, progress_of}
use Rattle.requests.specs.Table.{slot_announced, slot_answered, slot_at, slot_delivered, slot_received, slot_replaced}
use Rattle.requests.specs.Table.{status_of}
use Rattle.requests.specs.declared.region.Region.{Region}
use Rattle.requests.specs.declared.table.TableEntry.{TableEntry}
use Rattle.requests.specs.declared.table.RequestProgress.{RequestProgress}
use Rattle.requests.specs.declared.table.RequestProgress.TheVariants.{Receiving, Collecting, Offering, TakenOut}
use Rattle.requests.specs.declared.table.RequestProgress.TheVariants.{Finished}
use Rattle.requests.specs.declared.table.Request.{Request}
use Rattle.point_to_point_calls.specs.FrameNews.{delivered_by, sent_by}
use Rattle.point_to_point_calls.specs.ReceiveMatches.{slots_on_arrival, slots_on_match}
use Rattle.point_to_point.specs.Messages.{own_key_sent}
use Rattle.rendezvous.specs.declared.collection.Collected.{Collected}
use Rattle.rendezvous.specs.declared.offer.Offer.{Offer}

-- something about a key and a serial is so of what stands under the key
abbrev pub At : (P : ℕ → ℕ → Type 0) → ℕ → Option TableEntry → Type 0
At P key None = Unit {0}
At P key (Some t) = P key t.serial

-- and of each key of a table
abbrev pub All : (P : ℕ → ℕ → Type 0) → List (Option TableEntry) → Type 0
All P slots = (key : ℕ) → At P key (slot_at slots key)

-- ---- one place

-- a place is set
set_stays : (P : ℕ → ℕ → Type 0) (slots : List (Option TableEntry)) (key : ℕ) (slot : Option TableEntry) → All P slots →
    At P key slot → All P (slice_set slots key slot)
set_stays P [] key slot all here k = all k
set_stays P (x ∷ xs) zero slot all here zero = here
set_stays P (x ∷ xs) zero slot all here (suc k) = all (suc k)
set_stays P (x ∷ xs) (suc i) slot all here zero = all zero
set_stays P (x ∷ xs) (suc i) slot all here (suc k) = set_stays (λ key. P (suc key)) xs i slot (λ j. all (suc j)) here k

-- a place is set, and each other one has what it had
pub start_stays : (P : ℕ → ℕ → Type 0) (old new : List (Option TableEntry)) (key : ℕ) (slot : Option TableEntry) →
    All P old → At P key slot → IsSet old new key slot → All P new
start_stays P old new key slot all here set k =
    elim (cases_eq k key) [
      | inl e ↦ subst (λ (n : ℕ). At P n (slot_at new n)) (sym e) (subst (At P key) (sym set.changed) here)
      | inr ne ↦ subst (At P k) (sym (set.others k ne)) (all k)
    ]

-- what a step makes of the entry that it finds under a key
slot_stays : (P : ℕ → ℕ → Type 0) (slots : List (Option TableEntry)) (key : ℕ) (f : Option TableEntry →
    List (Option TableEntry)) → f None ≡ slots →
    ((e : TableEntry) → P key e.serial → All P (f (Some e))) → All P slots → All P (f (slot_at slots key))
slot_stays P slots key f none some all = go (slot_at slots key) (all key)
  where
    go : (o : Option TableEntry) → At P key o → All P (f o)
    go None h = subst (All P) (sym none) all
    go (Some e) h = some e h

-- ---- the steps of the table

pub finish_stays : (P : ℕ → ℕ → Type 0) (slots : List (Option TableEntry)) (key : ℕ) (status : Status) (m : Contents) →
    All P slots → All P (after_finish slots key status m)
finish_stays P slots key status m all =
    slot_stays P slots key (λ o. entry_after o slots key status m) refl (λ e h. set_stays P slots key _ all h) all

pub announce_stays : (P : ℕ → ℕ → Type 0) (slots : List (Option TableEntry)) (key : ℕ) (status : Status)
    (basic : BasicType) → All P slots → All P (after_announcement slots key status basic)
announce_stays P slots key status basic all =
    slot_stays P slots key (λ o. slot_announced o slots key status basic) refl (λ e h. set_stays P slots key _ all h)
    all

deliver_stays : (P : ℕ → ℕ → Type 0) (slots : List (Option TableEntry)) (key : ℕ) (m : Contents) → All P slots →
    All P (after_delivery slots key m)
deliver_stays P slots key m all =
    slot_stays P slots key (λ o. slot_delivered o slots key m) refl (λ e h. set_stays P slots key _ all h) all

answer_stays : (P : ℕ → ℕ → Type 0) (slots : List (Option TableEntry)) (key : ℕ) → All P slots →
    All P (after_answer slots key)
answer_stays P slots key all =
    slot_stays P slots key (λ o. slot_answered o slots key) refl (λ e h. set_stays P slots key _ all h) all

pub receive_stays : (P : ℕ → ℕ → Type 0) (slots : List (Option TableEntry)) (key : ℕ) (into : Region) → All P slots →
    All P (after_receive slots key into)
receive_stays P slots key into all =
    slot_stays P slots key (λ o. slot_received o slots key into) refl (λ e h. set_stays P slots key _ all h) all

pub replaces_stay : (P : ℕ → ℕ → Type 0) (slots : List (Option TableEntry)) (keys : List ℕ) → All P slots →
    All P (after_replaces slots keys)
replaces_stay P slots [] all = all
replaces_stay P slots (key ∷ keys) all =
    replaces_stay P (slot_replaced (slot_at slots key) slots key) keys
    (slot_stays P slots key (λ o. slot_replaced o slots key) refl (λ e h. set_stays P slots key _ all h) all)

-- an own send ends, where one does
pub own_sent_stays : (P : ℕ → ℕ → Type 0) (slots : List (Option TableEntry)) (own : Option ℕ) → All P slots →
    All P (own_key_sent own slots)
own_sent_stays P slots None all = all
own_sent_stays P slots (Some key) all = answer_stays P slots key all

-- a send is answered, where one was offered
pub sent_stays : (P : ℕ → ℕ → Type 0) (slots : List (Option TableEntry)) (o : Option Offer) → All P slots →
    All P (sent_by slots o)
sent_stays P slots None all = all
sent_stays P slots (Some o) all = answer_stays P slots o.request all

-- a receive has all its data, where one has
pub delivered_stays : (P : ℕ → ℕ → Type 0) (slots : List (Option TableEntry)) (o : Option Collected) → All P slots →
    All P (delivered_by slots o)
delivered_stays P slots None all = all
delivered_stays P slots (Some m) all = deliver_stays P slots m.request m.elements all

-- a message came
pub match_stays : (P : ℕ → ℕ → Type 0) (slots : List (Option TableEntry)) (key : ℕ) (status : Status) (b : Body) →
    All P slots → All P (slots_on_match slots key status b)
match_stays P slots key status (bodies.Whole elements) all = finish_stays P slots key status elements all
match_stays P slots key status (bodies.Own own) all =
    answer_stays P (after_finish slots key status own.elements) own.key
    (finish_stays P slots key status own.elements all)
match_stays P slots key status (bodies.Announced a) all = announce_stays P slots key status a.basic all

pub arrival_stays : (P : ℕ → ℕ → Type 0) (slots : List (Option TableEntry)) (became : Arrival) → All P slots →
    All P (slots_on_arrival slots became)
arrival_stays P slots (Matched r m) all = match_stays P slots r.request (status_of m) m.body all
arrival_stays P slots Kept all = all

-- requests are used up
pub use_stays : (P : ℕ → ℕ → Type 0) (slots : List (Option TableEntry)) (used : List Request) → All P slots →
    All P (without slots used)
use_stays P slots [] all = all
use_stays P slots (q ∷ qs) all = use_stays P (slice_set slots q.key None) qs (set_stays P slots q.key None all tt)

-- a request that stands in the table
stands_there : (P : ℕ → ℕ → Type 0) (key serial : ℕ) (slot : Option TableEntry) (p : RequestProgress) → At P key slot →
    progress_of slot serial ≡ Some p → P key serial
stands_there P key serial None p here is = absurd cc
stands_there P key serial (Some e) p here is = go (e.serial == serial) refl is
  where
    go : (t : Bool) → (e.serial == serial) ≡ t → (if t then Some e.progress else None) ≡ Some p → P key serial
    go true same h = subst (P key) (eqb-true e.serial serial same) here
    go false same h = absurd cc

-- a receive is cancelled
pub cancel_stays : (P : ℕ → ℕ → Type 0) (slots : List (Option TableEntry)) (q : Request) → All P slots →
    All P (after_cancel slots q)
cancel_stays P slots q all = go (progress_at slots q.key q.serial) refl
  where
    go : (o : Option RequestProgress) → progress_at slots q.key q.serial ≡ o → All P (cancelled_by slots q o)
    go None is = all
    go (Some (Receiving r)) is =
        set_stays P slots q.key _ all (stands_there P q.key q.serial (slot_at slots q.key) (Receiving r) (all q.key) is)
    go (Some (Collecting w)) is = all
    go (Some Offering) is = all
    go (Some (TakenOut t)) is = all
    go (Some (Finished o)) is = all
