-- The table of requests once an announced message was matched with a receive, and the keys of what is collected.
use Rattle.std.proofs.Common.{◌≡◌, ℕ, Bool, true, false, List, [], ◌∷◌, Option, Some, if◌then◌else◌, ◌==◌, slice_get}
use Rattle.std.proofs.Common.{slice_set, refl, sym, ap, ◌∙◌, subst}
use Rattle.std.specs.List.{AllByRecursion}
use Rattle.std.proofs.lemmas.Option.{same_Some}
use Rattle.vocabulary.specs.declared.endpoint.Endpoint.{Endpoint}
use Rattle.incarnation.specs.declared.place.Place.{Place}
use Rattle.match_queues.specs.declared.envelope.Announcement.{Announcement}
use Rattle.match_queues.specs.declared.envelope.Message.{Message}
use Rattle.rendezvous.specs.Collections as rendezvous
use Rattle.requests.specs.Table.{after_announcement, progress_on_announcement, slot_announced, slot_at, wants_by}
use Rattle.requests.specs.Table.{wants_so}
use Rattle.requests.specs.declared.table.TableEntry.{TableEntry}
use Rattle.requests.specs.declared.table.RequestProgress.{RequestProgress}
use Rattle.requests.specs.declared.table.RequestProgress.TheVariants.{Receiving, Finished}
use Rattle.requests.specs.declared.table.RequestProgress.TheVariants as progresses
use Rattle.point_to_point_calls.specs.ReceiveMatches.{status_of}
use Rattle.perfect_queues.specs.Outcomes.{outcome}
use Rattle.perfect_queues.specs.Receives.{Receive, has_room}
use Rattle.proof_pure_network.specs.WaitingMessages.{Held, count_of, fits, full}
use Rattle.proof_pure_network.specs.Jobs.{Closed, Collecting, Job, Over, Waiting, matched_part}
use Rattle.proof_engine_view.specs.Rows.{Fits, Holds, IsTable, held_of, posted_job}
use Rattle.proof_engine_view.specs.Rows as rows
use Rattle.proof_engine_view.specs.Transfers.{Transfer}
use Rattle.proof_engine_view.specs.UnderWay.{AreTaken, IsCollectionOf, collection_keys}
use Rattle.proof_engine_matching.specs.Matches.{AnnouncedAlike, AnnouncementsAgree}
use Rattle.proof_engine_steps.proofs.Wholes.{announced_as}
use Rattle.proof_engine_steps.proofs.Tables.{Says, changed_table, says_some, set_is_set}
use Rattle.proof_engine_steps.proofs.UnderWay.{IsUntaken, row_of, taken_changed}

-- ---- KEYS

-- the slot of a collection's request holds it
collection_held : (from : Endpoint → List Transfer) (known : List ℕ) (rs : List rows.Row)
    (slots : List (Option TableEntry)) (c : rendezvous.Collecting) → IsTable slots rs →
    (i : IsCollectionOf from known rs c) →
    Holds (slot_at slots c.request) i.serial (Collecting i.receive i.message i.got)
collection_held from known rs slots c table i =
    table.stands i.serial (row_of c.request (Collecting i.receive i.message i.got)) i.row

-- a request doesn't wait and collect
not_both : (g : RequestProgress) (p r : Receive) (h : Held) (got : List ℕ) → Fits g (Waiting p) →
    Fits g (Collecting r h got) → ⊥
not_both (Receiving b) p r h got f g = g
not_both (progresses.Collecting w) p r h got f g = f
not_both progresses.Offering p r h got f g = f
not_both (progresses.TakenOut taken) p r h got f g = f
not_both (Finished o) p r h got f g = f

-- no collection has the key of a receive that waits
pub waiting_apart : (from : Endpoint → List Transfer) (known : List ℕ) (rs : List rows.Row)
    (slots : List (Option TableEntry)) (k key : ℕ) (p : Receive) (cs : List rendezvous.Collecting) → IsTable slots rs →
    slice_get rs k ≡ Some (row_of key (Waiting p)) → AllByRecursion (IsCollectionOf from known rs) cs →
    AllByRecursion (λ y. y ≡ key → ⊥) (collection_keys cs)
waiting_apart from known rs slots k key p [] table row all = tt
waiting_apart from known rs slots k key p (c ∷ cs) table row all =
    (other, waiting_apart from known rs slots k key p cs table row all.1)
  where
    mine : Holds (slot_at slots key) k (Waiting p)
    mine = table.stands k (row_of key (Waiting p)) row

    other : c.request ≡ key → ⊥
    other e =
        let h : Holds (slot_at slots c.request) all.0.serial (Collecting all.0.receive all.0.message all.0.got) = collection_held from known rs slots c table all.0 in
        let same : mine.entry ≡ h.entry = same_Some mine.entry h.entry (sym mine.there ∙ (sym (ap (slot_at slots) e) ∙ h.there)) in
        not_both h.entry.progress p all.0.receive all.0.message all.0.got
        (subst (λ (t : TableEntry). Fits t.progress (Waiting p)) same mine.fits) h.fits

-- ---- ONE REQUEST

-- a receive is left by an announced message as its core's
abbrev pub left_by : (Endpoint → List Transfer) → Receive → Message → Announcement → Job
left_by from p m x = matched_part p (held_of from (announced_as m x)) x.count (has_room p x.basic x.count)

-- the receive that waits wants the message alike, and is left by it alike
matched_alike : AnnouncementsAgree →
    (from : Endpoint → List Transfer) (g : RequestProgress) (p : Receive) (m : Message) (x : Announcement) →
    Fits g (Waiting p) →
    fits p (held_of from (announced_as m x)) ≡ true →
    (has_room p x.basic x.count ≡ wants_so g x.basic x.count) ×
    Fits (progress_on_announcement g (status_of (announced_as m x)) x.basic) (left_by from p m x)
matched_alike agree from (Receiving w) p m x f accepts =
    let alike : AnnouncedAlike from p w (announced_as m x) x = agree from p w (announced_as m x) x refl f accepts in
    (alike.wanted, alike.fits)
matched_alike agree from (progresses.Collecting w) p m x f accepts = absurd f
matched_alike agree from progresses.Offering p m x f accepts = absurd f
matched_alike agree from (progresses.TakenOut taken) p m x f accepts = absurd f
matched_alike agree from (Finished o) p m x f accepts = absurd f

-- it waits no more
pub left_waits : (key : ℕ) (p : Receive) (h : Held) (count : ℕ) (wanted : Bool) →
    posted_job key (matched_part p h count wanted) ≡ []
left_waits key p h count true = go (0 == count_of h.body)
  where
    go : (t : Bool) → posted_job key (if t then Over (outcome p (full h [])) else Collecting p h []) ≡ []
    go true = refl
    go false = refl
left_waits key p h count false = refl

-- and wasn't answered
pub left_live : (p : Receive) (h : Held) (count : ℕ) (wanted : Bool) → matched_part p h count wanted ≡ Closed → ⊥
left_live p h count true e = go (0 == count_of h.body) e
  where
    go : (t : Bool) → (if t then Over (outcome p (full h [])) else Collecting p h []) ≡ Closed → ⊥
    go true x = absurd cc
    go false x = absurd cc
left_live p h count false e = absurd cc

-- nor is it a message that was taken out
pub left_untaken : (p : Receive) (h : Held) (count : ℕ) (wanted : Bool) → IsUntaken (matched_part p h count wanted)
left_untaken p h count true = go (0 == count_of h.body)
  where
    go : (t : Bool) → IsUntaken (if t then Over (outcome p (full h [])) else Collecting p h [])
    go true = tt
    go false = tt
left_untaken p h count false = tt

-- The table once the receive with serial k was matched with an announced message, and whether the receive wants its
-- data
pub record IsMatchedAlike (from : Endpoint → List Transfer) (rs : List rows.Row) (slots : List (Option TableEntry))
    (m : Message) (x : Announcement) (k key : ℕ) (p : Receive) : Type 0 where
  pub table : IsTable (after_announcement slots key (status_of (announced_as m x)) x.basic)
      (slice_set rs k (row_of key (left_by from p m x)))
  pub wanted : has_room p x.basic x.count ≡ wants_by (slot_at slots key) x.basic x.count
  pub taken : (known : List ℕ) (place : Place) → AreTaken from known place rs slots →
      AreTaken from known place (slice_set rs k (row_of key (left_by from p m x)))
      (after_announcement slots key (status_of (announced_as m x)) x.basic)

pub matched_rows : AnnouncementsAgree →
    (from : Endpoint → List Transfer) (rs : List rows.Row) (slots : List (Option TableEntry)) (m : Message)
    (x : Announcement) (k key : ℕ) (p : Receive) →
    IsTable slots rs → slice_get rs k ≡ Some (row_of key (Waiting p)) → fits p (held_of from (announced_as m x)) ≡
    true → IsMatchedAlike from rs slots m x k key p
matched_rows agree from rs slots m x k key p table row accepts =
    record {
      table = subst (λ (s : List (Option TableEntry)). IsTable s (slice_set rs k (row_of key (left_by from p m x))))
          (sym written)
          (changed_table slots (slice_set slots key (Some after)) rs k key (Waiting p) (left_by from p m x)
          (Some after) table row (λ e. cc)
          (set_is_set slots key mine.entry (Some after) mine.there)
          (subst (λ (n : ℕ). Says (Some after) n (left_by from p m x)) mine.serial_is
          (says_some mine.entry.serial after.progress (left_by from p m x) alike.1)));
      wanted = alike.0 ∙ sym (ap (λ (s : Option TableEntry). wants_by s x.basic x.count) mine.there);
      taken = λ known place taken. subst
          (λ (s : List (Option TableEntry)). AreTaken from known place
          (slice_set rs k (row_of key (left_by from p m x))) s) (sym written)
          (taken_changed from known place rs slots (slice_set slots key (Some after)) k key (Waiting p)
          (left_by from p m x) after taken row (λ i. i)
          (set_is_set slots key mine.entry (Some after) mine.there) alike.1
          (left_untaken p (held_of from (announced_as m x)) x.count (has_room p x.basic x.count)));
    }
  where
    mine : Holds (slot_at slots key) k (Waiting p)
    mine = table.stands k (row_of key (Waiting p)) row

    alike : (has_room p x.basic x.count ≡ wants_so mine.entry.progress x.basic x.count) ×
        Fits (progress_on_announcement mine.entry.progress (status_of (announced_as m x)) x.basic) (left_by from p m x)
    alike = matched_alike agree from mine.entry.progress p m x mine.fits accepts

    after : TableEntry
    after = record mine.entry {
      progress =
          progress_on_announcement mine.entry.progress (status_of (announced_as m x)) x.basic;
    }

    written : after_announcement slots key (status_of (announced_as m x)) x.basic ≡ slice_set slots key (Some after)
    written =
        ap (λ (s : Option TableEntry). slot_announced s slots key (status_of (announced_as m x)) x.basic) mine.there
