-- What is under way stays where no large message is concerned: while a rank stays as it is, where requests are used up,
-- and where the frames that go out announce nothing.
use Rattle.std.proofs.Common.{◌≡◌, ℕ, zero, suc, List, [], ◌∷◌, ◌++◌, Bool, true, false, if◌then◌else◌, Some, slice_get}
use Rattle.std.proofs.Common.{refl, sym, ap, ◌∙◌, subst, append-nil}
use Rattle.std.specs.List.{AllByRecursion}
use Rattle.std.proofs.lemmas.Option.{none-some, same_Some}
use Rattle.datagram.specs.Spellings.{FrameText}
use Rattle.incarnation.specs.declared.place.Place.{Place}
use Rattle.match_queues.specs.declared.envelope.Message.{Message}
use Rattle.perfect_queues.specs.Requests.{changed}
use Rattle.point_to_point.specs.CoreState.{CoreState}
use Rattle.rendezvous.specs.State as transfers
use Rattle.requests.specs.declared.table.Request.{Request}
use Rattle.vocabulary.specs.Endpoints.{is_same}
use Rattle.vocabulary.specs.declared.endpoint.Endpoint.{Endpoint}
use Rattle.proof_pure_network.specs.Core.{Core}
use Rattle.proof_pure_network.specs.Frames.{Cts, Data, Eager, Frame, Rts}
use Rattle.proof_pure_network.specs.Jobs.{Job, Waiting, Collecting, Offering, Over, Closed, closed, Probed, Unmatched}
use Rattle.proof_engine_view.specs.Rows.{Row}
use Rattle.proof_engine_view.proofs.LastingViews.{sent_more}
use Rattle.proof_engine_view.specs.CoreViews.{IsShown}
use Rattle.proof_engine_view.specs.FrameViews.{AreSent}
use Rattle.proof_engine_view.specs.Transfers.{Announcements, AnnouncementsGrow, Transfer, after_out, announced_in}
use Rattle.proof_engine_view.specs.Transfers.{frames_to}
use Rattle.proof_engine_view.specs.UnderWay.{AreUnderWay, IsFromLink}
use Rattle.proof_engine_steps.proofs.UnderWay.{IsTransfer, SameTransfers, others_may_announce, row_of, under_way_same}
use Rattle.proof_engine_steps.proofs.ClosedRows.{closed_row, rows_without}

-- ---- the rank stays as it is

-- at the same place, with the same transfers and the same messages
pub under_way_still : (links : Announcements) (known : List ℕ) (p p' : Place) (rows rows' : List Row)
    (t t' : transfers.State) (ms ms' : List Message) → AreUnderWay links known p rows t ms → SameTransfers rows rows'
    → p' ≡ p → t' ≡ t → ms' ≡ ms → AreUnderWay links known p' rows' t' ms'
under_way_still links known p p' rows rows' t t' ms ms' u same ep et em =
    subst (λ (x : Place). AreUnderWay links known x rows' t' ms') (sym ep)
    (subst (λ (x : transfers.State). AreUnderWay links known p rows' x ms') (sym et)
    (subst (λ (x : List Message). AreUnderWay links known p rows' t x) (sym em)
    (under_way_same links known p rows rows' t ms same u)))

-- with other messages, of which each is whole or from its link
pub under_way_with : (links : Announcements) (known : List ℕ) (p : Place) (rows rows' : List Row)
    (t t' : transfers.State) (ms ms' : List Message) → AreUnderWay links known p rows t ms → SameTransfers rows rows'
    → t' ≡ t → AllByRecursion (λ (m : Message). IsFromLink links.from known p rows' m m.body) ms' →
    AreUnderWay links known p rows' t' ms'
under_way_with links known p rows rows' t t' ms ms' u same et all =
    let kept : AreUnderWay links known p rows' t ms = under_way_same links known p rows rows' t ms same u in
    subst (λ (x : transfers.State). AreUnderWay links known p rows' x ms') (sym et)
    (record {
      numbered = kept.numbered;
      offers = kept.offers;
      offered = kept.offered;
      offers_apart = kept.offers_apart;
      collections = kept.collections;
      collected = kept.collected;
      collections_apart = kept.collections_apart;
      unmatched = kept.unmatched;
      messages = all;
    })

-- the same rows have the same large messages
pub same_rows : (rows : List Row) → SameTransfers rows rows
same_rows rows = record { forth = λ k key job i h. h; back = λ k key job i h. h }

-- and so have rows that changed twice
pub same_twice : (rows rows' rows'' : List Row) → SameTransfers rows rows' → SameTransfers rows' rows'' →
    SameTransfers rows rows''
same_twice rows rows' rows'' s t =
    record {
      forth = λ k key job i h. t.forth k key job i (s.forth k key job i h);
      back = λ k key job i h. s.back k key job i (t.back k key job i h);
    }

-- ---- requests that are used up

-- a large message under way isn't closed
closed_transfer : (j : Job) → IsTransfer j → closed j ≡ j
closed_transfer (Waiting p) i = refl
closed_transfer (Collecting p h got) i = refl
closed_transfer (Offering d basic values) i = refl
closed_transfer (Over x) i = absurd i
closed_transfer Closed i = refl
closed_transfer (Unmatched d) i = refl
closed_transfer (Probed g h) i = refl

-- what is one afterwards was it before
transfer_before : (j job : Job) → IsTransfer job → closed j ≡ job → j ≡ job
transfer_before (Waiting p) job i h = h
transfer_before (Collecting p m got) job i h = h
transfer_before (Offering d basic values) job i h = h
transfer_before (Over x) job i h = absurd (subst IsTransfer (sym h) i)
transfer_before Closed job i h = h
transfer_before (Unmatched d) job i h = h
transfer_before (Probed g x) job i h = h

closed_forth : (rows : List Row) (c k key : ℕ) (job : Job) → IsTransfer job → slice_get rows k ≡ Some (row_of key job) →
    slice_get (changed closed_row rows c) k ≡ Some (row_of key job)
closed_forth [] c k key job i h = absurd (none-some (row_of key job) h)
closed_forth (r ∷ rs) zero zero key job i h =
    ap (λ (x : Row). Some (closed_row x)) (same_Some r (row_of key job) h) ∙
    ap (λ (j : Job). Some (row_of key j)) (closed_transfer job i)
closed_forth (r ∷ rs) zero (suc k) key job i h = h
closed_forth (r ∷ rs) (suc c) zero key job i h = h
closed_forth (r ∷ rs) (suc c) (suc k) key job i h = closed_forth rs c k key job i h

closed_back : (rows : List Row) (c k key : ℕ) (job : Job) → IsTransfer job → slice_get (changed closed_row rows c) k ≡
    Some (row_of key job) → slice_get rows k ≡ Some (row_of key job)
closed_back [] c k key job i h = absurd (none-some (row_of key job) h)
closed_back (r ∷ rs) zero zero key job i h =
    let e : closed_row r ≡ row_of key job = same_Some (closed_row r) (row_of key job) h in
    ap (λ (j : Job). Some (row_of r.key j)) (transfer_before r.job job i (ap (λ (x : Row). x.job) e)) ∙
    ap (λ (n : ℕ). Some (row_of n job)) (ap (λ (x : Row). x.key) e)
closed_back (r ∷ rs) zero (suc k) key job i h = h
closed_back (r ∷ rs) (suc c) zero key job i h = h
closed_back (r ∷ rs) (suc c) (suc k) key job i h = closed_back rs c k key job i h

-- a row that is closed was no large message under way
pub same_closed : (rows : List Row) (c : ℕ) → SameTransfers rows (changed closed_row rows c)
same_closed rows c = record { forth = closed_forth rows c; back = closed_back rows c }

-- so it is with all that are used up
pub same_without : (used : List Request) (rows : List Row) → SameTransfers rows (rows_without rows used)
same_without [] rows = same_rows rows
same_without (q ∷ qs) rows =
    same_twice rows (changed closed_row rows q.serial) (rows_without (changed closed_row rows q.serial) qs)
    (same_closed rows q.serial) (same_without qs (changed closed_row rows q.serial))

-- ---- frames that announce nothing

-- the frame announces no large message
abbrev pub IsQuiet : Frame → Type 0
IsQuiet (Eager c tag basic values) = Unit {0}
IsQuiet (Rts c tag basic k count) = ⊥
IsQuiet (Cts k wanted) = Unit {0}
IsQuiet (Data k offset values) = Unit {0}

-- none of them does
abbrev pub AreQuiet : List (Endpoint × Frame) → Type 0
AreQuiet out = AllByRecursion (λ (x : Endpoint × Frame). IsQuiet x.1) out

-- one in front announces nothing
quiet_front : (f : Frame) (fs : List Frame) → IsQuiet f → announced_in fs ≡ [] → announced_in (f ∷ fs) ≡ []
quiet_front (Eager c tag basic values) fs q h = h
quiet_front (Rts c tag basic k count) fs q h = absurd q
quiet_front (Cts k wanted) fs q h = h
quiet_front (Data k offset values) fs q h = h

-- so nothing is announced to anybody
pub quiet_to : (out : List (Endpoint × Frame)) (d : Endpoint) → AreQuiet out → announced_in (frames_to d out) ≡ []
quiet_to [] d q = refl
quiet_to (x ∷ xs) d q = go (is_same d x.0) (quiet_to xs d q.1)
  where
    go : (t : Bool) → announced_in (frames_to d xs) ≡ [] →
        announced_in (if t then x.1 ∷ frames_to d xs else frames_to d xs) ≡ []
    go true rest = quiet_front x.1 (frames_to d xs) q.0 rest
    go false rest = rest

-- what was announced stays so
pub quiet_same : (links : Announcements) (out : List (Endpoint × Frame)) (d : Endpoint) → AreQuiet out →
    (after_out links out).to d ≡ links.to d
quiet_same links out d q = ap (λ (ts : List Transfer). links.to d ++ ts) (quiet_to out d q) ∙ append-nil (links.to d)

-- what was announced only grows by what goes out
pub after_grows : (links : Announcements) (out : List (Endpoint × Frame)) →
    AnnouncementsGrow links (after_out links out)
after_grows links out =
    record { to = λ d. (announced_in (frames_to d out), refl); from = λ s. ([], append-nil (links.from s)) }

-- what stood for frames goes on to
pub sent_then : (links : Announcements) (out : List (Endpoint × Frame)) (texts : List (Endpoint × FrameText)) →
    AreSent links texts out → AreSent (after_out links out) texts out
sent_then links out texts sent = sent_more links (after_out links out) texts out (after_grows links out) sent

-- what is shown goes on to be shown once such frames went out
pub shown_quiet : (links : Announcements) (c : CoreState) (known : List ℕ) (core : Core)
    (out : List (Endpoint × Frame)) → AreQuiet out → IsShown links c known core →
    IsShown (after_out links out) c known core
shown_quiet links c known core out q shown =
    others_may_announce links (after_out links out) c known core shown (after_grows links out)
    (λ d. quiet_same links out d q)
