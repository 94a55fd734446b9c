-- A frame that a rank's core takes is of messages: no number that the core holds is a notice's.
use Rattle.std.proofs.Common.{◌≡◌, ℕ, zero, suc, ◌<◌, Bool, true, false, List, [], ◌∷◌, ◌++◌, length, Option, Some}
use Rattle.std.proofs.Common.{None, is_some, refl, sym, ap, subst, ◌∙◌, arith}
use Rattle.std.specs.Prelude.{slice_get, slice_index, take}
use Rattle.std.specs.List.{AllByRecursion}
use Rattle.std.proofs.lemmas.Bool.{and_from, eq-eqb}
use Rattle.std.proofs.lemmas.Option.{same_Some, slice_get_within}
use Rattle.datagram.specs.Spellings.{ClearFrame, DataFrame, EagerFrame, FrameText, RequestFrame}
use Rattle.datagram.specs.declared.kinds.Plane.{Plane}
use Rattle.datagram.specs.declared.kinds.Plane.TheVariants.{Collective}
use Rattle.engine_calls.specs.EngineState.{EngineState}
use Rattle.perfect_queues.proofs.EndpointLemmas.{same_refl}
use Rattle.proof_engine_steps.proofs.AnsweredOffers.{IsAnswered, offer_there}
use Rattle.proof_engine_steps.proofs.DueData.{IsDueFor, collection_there}
use Rattle.proof_engine_view.specs.Frames.{endpoint_of}
use Rattle.proof_engine_view.specs.Rows.{Row, jobs_of}
use Rattle.proof_engine_view.specs.CoreViews.{IsShown}
use Rattle.proof_engine_view.specs.FrameViews as standing
use Rattle.proof_engine_view.specs.Transfers.{Transfer}
use Rattle.proof_engine_view.specs.UnderWay.{IsCollectionOf, IsOfferOf}
use Rattle.proof_group_network.specs.SessionContents.{
  Announces,
  Answers,
  BringsPart,
  Carried,
  OfMessages,
  OfNotices,
  Sessions,
}
use Rattle.proof_group_network.specs.Network.{GroupNetwork}
use Rattle.proof_group_network.specs.SessionLaws.{IsNext}
use Rattle.endpoint_links.specs.Links.{LinksOf}
use Rattle.proof_pure_network.specs.Announcements.{IsIn, TransfersStand, transfers_of}
use Rattle.proof_pure_network.specs.Core.{Core}
use Rattle.proof_pure_network.specs.Frames.{Cts, Data, Eager, Frame, Rts}
use Rattle.proof_pure_network.specs.WaitingMessages.{is_part}
use Rattle.proof_pure_network.specs.Jobs.{Collecting, Job, is_collecting}
use Rattle.proof_session_carrying.proofs.SessionViews.{next_stands}
use Rattle.proof_session_carrying.specs.Announcements.{
  Announced,
  LargeNotice,
  all_announced,
  announcements_in,
  transfer_as,
}
use Rattle.proof_session_carrying.specs.Announcements.{transfers_as}
use Rattle.proof_session_carrying.specs.SessionViews.{Saying, StandsForCarried}
use Rattle.proof_session_carrying.specs.CarryLaws as carrying
use Rattle.proof_session_carrying.specs.EventLaws.{AreJoined}
use Rattle.point_to_point_calls.specs.FrameNews.{bad_unless, first_of, plane_fault}
use Rattle.point_to_point_calls.specs.declared.refusal.Refusal.{Refusal}
use Rattle.point_to_point.specs.Arrivals.{news_fault}
use Rattle.rendezvous.specs.State.{is_due, offered}
use Rattle.rendezvous.specs.declared.offer.Offer.{Offer}
use Rattle.vocabulary.specs.Endpoints.{is_same}
use Rattle.vocabulary.specs.declared.endpoint.Endpoint.{Endpoint}
use Rattle.vocabulary.specs.declared.message_limit.MessageLimit.{MessageLimit}
use Rattle.proof_network_bridge.proofs.HeardWords.{news}

-- ---- lists

-- what all of a list are, that is which stands in it
all_front : {A : Type 0} (P : A → Type 0) (front : List A) (x : A) (back : List A) →
    AllByRecursion P (front ++ x ∷ back) → P x
all_front P [] x back all = all.0
all_front P (y ∷ ys) x back all = all_front P ys x back all.1

all_place : {A : Type 0} (P : A → Type 0) (xs : List A) (k : ℕ) (x : A) → AllByRecursion P xs →
    slice_get xs k ≡ Some x → P x
all_place P [] k x all h = absurd (grind arith)
all_place P (y ∷ ys) zero x all h = subst P (same_Some y x h) all.0
all_place P (y ∷ ys) (suc k) x all h = all_place P ys k x all.1 h

-- what stands among the first of a list stands in it
in_all : (fs : List Frame) (i : ℕ) (k : ℕ) → IsIn k (transfers_of (take i fs)) → IsIn k (transfers_of fs)
in_all fs zero k (n, h) = absurd (grind arith)
in_all [] (suc i) k h = h
in_all (Eager c tag basic values ∷ fs) (suc i) k h = in_all fs i k h
in_all (Cts j wanted ∷ fs) (suc i) k h = in_all fs i k h
in_all (Data j offset values ∷ fs) (suc i) k h = in_all fs i k h
in_all (Rts c tag basic j count ∷ fs) (suc i) k (zero, h) = (0, h)
in_all (Rts c tag basic j count ∷ fs) (suc i) k (suc n, h) = let r = in_all fs i k (n, h) in (suc r.0, r.1)

-- a notice among announcements is a transfer with the serial that notices have
as_transfer : (serial : ℕ) (xs : List Announced) (number i : ℕ) → slice_get xs number ≡ Some (LargeNotice i) →
    slice_get (transfers_as serial xs) number ≡ Some (transfer_as serial (LargeNotice i))
as_transfer serial [] number i h = absurd (grind arith)
as_transfer serial (x ∷ xs) zero i h =
    ap (λ (a : Announced). Some (transfer_as serial a)) (same_Some x (LargeNotice i) h)
as_transfer serial (x ∷ xs) (suc number) i h = as_transfer serial xs number i h

as_many : (rows : List Row) → length (jobs_of rows) ≡ length rows
as_many [] = refl
as_many (r ∷ rs) = ap suc (as_many rs)

job_at : (rows : List Row) (k : ℕ) (r : Row) → slice_get rows k ≡ Some r → slice_get (jobs_of rows) k ≡ Some r.job
job_at [] k r h = absurd (grind arith)
job_at (x ∷ xs) zero r h = ap (λ (y : Row). Some y.job) (same_Some x r h)
job_at (x ∷ xs) (suc k) r h = job_at xs k r h

-- ---- what a core holds

-- an offer's number is no notice's
no_offer : (sessions : Sessions) (own s : Endpoint) (old : EngineState) (core : Core) →
    ((serial : ℕ) → IsShown (announcements_in serial sessions own) old.core old.sessions.known core) →
    endpoint_of old.sessions.known s.rank ≡ s →
    (number i : ℕ) → slice_get (all_announced sessions own s) number ≡ Some (LargeNotice i) →
    IsAnswered old.core.transfers s.rank number → ⊥
no_offer sessions own s old core held known number i named a =
    let serial_is : z ≡ offer.serial = ap (λ (t : Transfer). t.serial) (same_Some (transfer_as z (LargeNotice i)) _ (sym (as_transfer z (all_announced sessions own s) number i named) ∙ at_s ∙ offer.announced)) in
    let low : offer.serial < length shown.rows = slice_get_within shown.rows offer.serial _ offer.row in
    let rows_are : z ≡ length shown.rows = ap (λ (js : List Job). length js) shown.jobs ∙ as_many shown.rows in
    omega (arith, serial_is, low, rows_are)
  where
    z : ℕ
    z = length core.jobs

    shown : IsShown (announcements_in z sessions own) old.core old.sessions.known core
    shown = held z

    offer : IsOfferOf (announcements_in z sessions own).to old.sessions.known shown.rows a.offer
    offer = all_front (IsOfferOf (announcements_in z sessions own).to old.sessions.known shown.rows) a.front a.offer
        a.back
        (subst (λ (os : List Offer). AllByRecursion
        (IsOfferOf (announcements_in z sessions own).to old.sessions.known shown.rows) os) a.offers
        shown.under_way.offers)

    at_s : slice_get (transfers_as z (all_announced sessions own s)) number ≡
        slice_get ((announcements_in z sessions own).to (endpoint_of old.sessions.known a.offer.target))
        a.offer.transfer
    at_s =
        ap (λ (d : Endpoint). slice_get (transfers_as z (all_announced sessions own d)) number)
        (sym known ∙ ap (endpoint_of old.sessions.known) (sym a.target))
        ∙ ap (slice_get ((announcements_in z sessions own).to (endpoint_of old.sessions.known a.offer.target)))
        (sym a.number)

-- nor is a collection's
no_collection : (w : GroupNetwork) (sessions : Sessions) (own s : Endpoint) (old : EngineState) → TransfersStand w.net →
    ((serial : ℕ) → IsShown (announcements_in serial sessions own) old.core old.sessions.known (w.net.core own)) →
    endpoint_of old.sessions.known s.rank ≡ s → (number i offset : ℕ) →
    slice_get (all_announced sessions s own) number ≡ Some (LargeNotice i) →
    IsDueFor old.core.transfers.collections s.rank number offset → ⊥
no_collection w sessions own s old stand held known number i offset named a =
    let serial_is : z ≡ c.transfer.serial = ap (λ (t : Transfer). t.serial) (same_Some (transfer_as z (LargeNotice i)) c.transfer (sym (as_transfer z (all_announced sessions s own) number i named) ∙ at_s ∙ c.announced)) in
    let low : c.transfer.serial < z = stand.logged s own c.transfer.serial among in
    omega (arith, serial_is, low)
  where
    z : ℕ
    z = length (w.net.log s)

    shown : IsShown (announcements_in z sessions own) old.core old.sessions.known (w.net.core own)
    shown = held z

    c : IsCollectionOf (announcements_in z sessions own).from old.sessions.known shown.rows a.collection
    c = all_place (IsCollectionOf (announcements_in z sessions own).from old.sessions.known shown.rows)
        old.core.transfers.collections a.place a.collection shown.under_way.collections a.there

    from_s : c.message.sender ≡ s
    from_s = c.sender ∙ ap (endpoint_of old.sessions.known) a.source_is ∙ known

    at_s : slice_get (transfers_as z (all_announced sessions s own)) number ≡
        slice_get ((announcements_in z sessions own).from c.message.sender) a.collection.transfer
    at_s =
        ap (λ (d : Endpoint). slice_get (transfers_as z (all_announced sessions d own)) number) (sym from_s)
        ∙ ap (slice_get ((announcements_in z sessions own).from c.message.sender)) (sym a.transfer_is)

    collects : is_collecting s c.transfer.serial (Collecting c.receive c.message c.got) ≡ true
    collects = and_from (is_same c.message.sender s) (is_part c.transfer.serial c.message.body)
        (ap (λ (d : Endpoint). is_same d s) from_s ∙ same_refl s) (ap (is_part c.transfer.serial) c.body ∙
        eq-eqb c.transfer.serial c.transfer.serial refl)

    among : IsIn c.transfer.serial (transfers_of (w.net.link s own).accepted)
    among = in_all (w.net.link s own).accepted (w.net.link s own).handed c.transfer.serial
        (stand.collected s own c.transfer.serial c.serial c.receive c.message c.got
        (ap (λ (js : List Job). slice_get js c.serial) shown.jobs ∙ job_at shown.rows c.serial _ c.row) collects)

-- ---- what a core takes

-- a frame that a rank is handed stands for one of messages, which comes next
pub record IsOfMessages (sessions : Sessions) (own s : Endpoint) (b : FrameText) : Type 0 where
  pub frame : Frame
  pub there : IsNext sessions s own (OfMessages frame)
  pub stands : (serial : ℕ) →
      standing.StandsFor ((announcements_in serial sessions own).from s) ((announcements_in serial sessions own).to s) b
      frame

-- a bad frame isn't taken
taken_is : (t : Bool) → bad_unless t ≡ None → t ≡ true
taken_is true h = refl
taken_is false h = absurd cc

-- who is known at its incarnation is known as it is
pub known_as : (known : List ℕ) (s : Endpoint) → slice_index known s.rank ≡ s.incarnation → endpoint_of known s.rank ≡ s
known_as known s is = λ j. record { rank = s.rank; incarnation = is j }

-- A frame of an endpoint that is known at its incarnation, which a rank's core takes, stands for one of messages
pub is_of_messages : (u : GroupNetwork) (said : Saying) (texts : LinksOf FrameText) (sessions : Sessions)
    (own : Endpoint) (e : EngineState) → AreJoined u said texts sessions → TransfersStand u.net →
    ((serial : ℕ) → IsShown (announcements_in serial sessions own) e.core e.sessions.known (u.net.core own)) →
    (s : Endpoint) (b : FrameText) → slice_index e.sessions.known s.rank ≡ s.incarnation →
    slice_get (texts s own).accepted (texts s own).handed ≡ Some b → news_fault e.core (news s false (Some b)) ≡ None →
    IsOfMessages sessions own s b
is_of_messages u said texts sessions own e j stand held s b known next taken =
    go b next_is.carried next_is.there next_is.stands taken
  where
    out : List Announced
    out = all_announced sessions s own

    back : List Announced
    back = all_announced sessions own s

    limit : MessageLimit
    limit = u.net.message_limit

    next_is : carrying.IsNext limit out back (said s own) (sessions s own) b
    next_is = next_stands limit out back (said s own) (texts s own) (sessions s own) b (j.alike s own) next

    -- what is of collectives isn't taken
    not_collective : (p : Plane) (rest : Option Refusal) → p ≡ Collective → first_of (plane_fault p) rest ≡ None → ⊥
    not_collective p rest is h = let bad : first_of (plane_fault Collective) rest ≡ None = ap (λ (q : Plane). first_of (plane_fault q) rest) (sym is) ∙ h in absurd cc

    no_data : (number i offset : ℕ) (bytes : List ℕ) → slice_get out number ≡ Some (LargeNotice i) →
        bad_unless (is_due e.core.transfers.collections s.rank number offset bytes) ≡ None → ⊥
    no_data number i offset bytes named h =
        no_collection u sessions own s e stand held (known_as e.sessions.known s known) number i offset named
        (collection_there e.core.transfers.collections s.rank number offset bytes
        (taken_is (is_due e.core.transfers.collections s.rank number offset bytes) h))

    go : (b : FrameText) (c : Carried) → IsNext sessions s own c → StandsForCarried limit out back (said s own) b c →
        news_fault e.core (news s false (Some b)) ≡ None → IsOfMessages sessions own s b
    go b (OfMessages x) at stands taken = record { frame = x; there = at; stands = stands }
    go (EagerFrame t) (OfNotices i) at stands taken =
        absurd (not_collective t.plane None stands.2.plane (eager_fault t.plane taken))
      where
        eager_fault : (p : Plane) → plane_fault p ≡ None → first_of (plane_fault p) None ≡ None
        eager_fault p h = ap (λ (o : Option Refusal). first_of o None) h
    go (RequestFrame t) (OfNotices i) at stands taken = absurd stands.2
    go (ClearFrame t) (OfNotices i) at stands taken = absurd stands.2
    go (DataFrame t) (OfNotices i) at stands taken =
        absurd (no_data t.transfer i t.offset t.bytes stands.2.2.announced taken)
    go (EagerFrame t) (Announces i) at stands taken = absurd stands.2
    go (RequestFrame t) (Announces i) at stands taken = absurd (not_collective t.plane _ stands.2.1.plane taken)
    go (ClearFrame t) (Announces i) at stands taken = absurd stands.2
    go (DataFrame t) (Announces i) at stands taken = absurd stands.2
    go (EagerFrame t) (Answers i) at stands taken = absurd stands
    go (RequestFrame t) (Answers i) at stands taken = absurd stands
    go (ClearFrame t) (Answers i) at stands taken =
        absurd (no_offer sessions own s e (u.net.core own) held (known_as e.sessions.known s known) t.transfer i
        stands.0
        (offer_there e.core.transfers s.rank t.transfer
        (taken_is (is_some (offered e.core.transfers s.rank t.transfer)) taken)))
    go (DataFrame t) (Answers i) at stands taken = absurd stands
    go (EagerFrame t) (BringsPart i part) at stands taken = absurd stands.2
    go (RequestFrame t) (BringsPart i part) at stands taken = absurd stands.2
    go (ClearFrame t) (BringsPart i part) at stands taken = absurd stands.2
    go (DataFrame t) (BringsPart i part) at stands taken =
        absurd (no_data t.transfer i t.offset t.bytes stands.2.1.announced taken)
