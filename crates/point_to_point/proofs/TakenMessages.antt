-- What a core keeps of the messages that were taken out of matching, when its table of requests changes.
use Rattle.std.proofs.Common.{◌≡◌, ◌≢◌, ℕ, zero, suc, Bool, true, false, List, [], ◌∷◌, Option, Some, None, Result, Ok}
use Rattle.std.proofs.Common.{Err, if◌then◌else◌, ◌==◌, slice_set, refl, sym, subst, inl, inr}
use Rattle.std.specs.Prelude.{IfSome}
use Rattle.std.proofs.lemmas.Bool.{cases_eq}
use Rattle.vocabulary.specs.declared.basic_type.BasicType.{BasicType}
use Rattle.vocabulary.specs.declared.envelope.Status.{Status}
use Rattle.datatypes.specs.Contents.{Contents}
use Rattle.incarnation.specs.declared.place.Place.{Place}
use Rattle.match_queues.specs.State.{State}
use Rattle.match_queues.specs.declared.envelope.Body.{Body}
use Rattle.match_queues.specs.declared.envelope.Body.TheVariants.{Announced, Own, Whole}
use Rattle.match_queues.specs.declared.envelope.Message.{Message}
use Rattle.rendezvous.specs.State as transfers
use Rattle.requests.specs.Completions as completions
use Rattle.requests.specs.Completions.{Completes, CompletesBy, completion}
use Rattle.requests.specs.declared.answer.Answer.{Answer}
use Rattle.requests.specs.declared.awaited_requests.Awaited.{Awaited}
use Rattle.requests.specs.Table.{IsSet, Table, after_announcement, after_answer, after_cancel, after_delivery}
use Rattle.requests.specs.Table.{after_finish, after_receive, after_replaces, cancelled_by, entry_after, failure_of}
use Rattle.requests.specs.Table.{has_room, matched_progress, message_in, progress_after, progress_at}
use Rattle.requests.specs.Table.{progress_of_message, progress_on_announcement, progress_on_answer}
use Rattle.requests.specs.Table.{progress_on_delivery, progress_on_match, progress_on_receive, replaced_progress}
use Rattle.requests.specs.Table.{slot_announced, slot_answered, slot_at, slot_delivered, slot_received, slot_replaced}
use Rattle.requests.specs.Table.{status_of}
use Rattle.requests.specs.declared.outcome.Outcome.TheVariants as outcomes
use Rattle.requests.specs.declared.region.Region.{Region}
use Rattle.requests.specs.declared.table.TableEntry.{TableEntry}
use Rattle.requests.specs.declared.table.Posted.{Posted}
use Rattle.requests.specs.declared.table.RequestProgress.{RequestProgress}
use Rattle.requests.specs.declared.table.RequestProgress.TheVariants.{Receiving, Collecting, Offering, TakenOut}
use Rattle.requests.specs.declared.table.RequestProgress.TheVariants.{Finished}
use Rattle.requests.specs.declared.table.Request.{Request}
use Rattle.point_to_point_calls.specs.ReceiveMatches.{progress_on_post}
use Rattle.point_to_point_calls.specs.SendRules.{progress_of_send}
use Rattle.communicator_members.specs.Statuses.{status_in}
use Rattle.point_to_point.specs.CoreState.{IsAnswerable, IsAnswerableAt, IsKept}
use Rattle.point_to_point.specs.Messages.{own_key_sent}

-- ONE PLACE OF THE TABLE

-- of all messages in the table
abbrev All : (size : ℕ) → List (Option TableEntry) → Type 0
All size slots = (key : ℕ) → IsAnswerableAt size (slot_at slots key)

-- of the message that a request holds
abbrev pub Holds : (size : ℕ) → RequestProgress → Type 0
Holds size p = IfSome (message_in (Some p)) (λ m. IsAnswerable size m m.body)

-- a place is set
set_stays : (size : ℕ) (slots : List (Option TableEntry)) (key : ℕ) (slot : Option TableEntry) → All size slots →
    IsAnswerableAt size slot → All size (slice_set slots key slot)
set_stays size [] key slot all here k = all k
set_stays size (x ∷ xs) zero slot all here zero = here
set_stays size (x ∷ xs) zero slot all here (suc k) = all (suc k)
set_stays size (x ∷ xs) (suc i) slot all here zero = all zero
set_stays size (x ∷ xs) (suc i) slot all here (suc k) = set_stays size xs i slot (λ j. all (suc j)) here k

-- a place is set, and each other one has what it had
pub started : (size : ℕ) (old new : List (Option TableEntry)) (key : ℕ) (slot : Option TableEntry) → All size old →
    IsAnswerableAt size slot → IsSet old new key slot → All size new
started size old new key slot all here set k =
    elim (cases_eq k key) [
      | inl e ↦ subst (λ (n : ℕ). IsAnswerableAt size (slot_at new n)) (sym e)
          (subst (IsAnswerableAt size) (sym set.changed) here)
      | inr ne ↦ subst (IsAnswerableAt size) (sym (set.others k ne)) (all k)
    ]

-- HOW FAR A REQUEST IS

finished : (size : ℕ) (p : RequestProgress) (status : Status) (m : Contents) → Holds size p →
    Holds size (progress_after p status m)
finished size (Receiving r) status m h = tt
finished size (Collecting w) status m h = tt
finished size Offering status m h = tt
finished size (TakenOut t) status m h = h
finished size (Finished o) status m h = tt

either : (size : ℕ) (b : Bool) (x y : RequestProgress) → Holds size x → Holds size y → Holds size (if b then x else y)
either size true x y h g = h
either size false x y h g = g

matched : (size : ℕ) (r : Region) (status : Status) (basic : BasicType) → Holds size (matched_progress r status basic)
matched size r status basic =
    either size (has_room r basic status.count)
    (if status.count == 0 then Finished (outcomes.Received status r.buffer) else
    Collecting (record { into = r; status = status }))
    (Finished (outcomes.Ended (failure_of r basic) status r.buffer))
    (either size (status.count == 0) (Finished (outcomes.Received status r.buffer))
    (Collecting (record { into = r; status = status })) tt tt) tt

announced : (size : ℕ) (p : RequestProgress) (status : Status) (basic : BasicType) → Holds size p →
    Holds size (progress_on_announcement p status basic)
announced size (Receiving r) status basic h = matched size r.into (status_in r.group status) basic
announced size (Collecting w) status basic h = tt
announced size Offering status basic h = tt
announced size (TakenOut t) status basic h = h
announced size (Finished o) status basic h = tt

delivered : (size : ℕ) (p : RequestProgress) (m : Contents) → Holds size p → Holds size (progress_on_delivery p m)
delivered size (Receiving r) m h = tt
delivered size (Collecting w) m h = tt
delivered size Offering m h = tt
delivered size (TakenOut t) m h = h
delivered size (Finished o) m h = tt

answered : (size : ℕ) (p : RequestProgress) → Holds size p → Holds size (progress_on_answer p)
answered size (Receiving r) h = tt
answered size (Collecting w) h = tt
answered size Offering h = tt
answered size (TakenOut t) h = h
answered size (Finished o) h = tt

replaced : (size : ℕ) (p : RequestProgress) → Holds size p → Holds size (replaced_progress p)
replaced size (Receiving r) h = tt
replaced size (Collecting w) h = tt
replaced size Offering h = tt
replaced size (TakenOut t) h = tt
replaced size (Finished o) h = tt

matched_with : (size : ℕ) (into : Region) (status : Status) (b : Body) → Holds size (progress_on_match into status b)
matched_with size into status (Whole elements) = tt
matched_with size into status (Own own) = tt
matched_with size into status (Announced a) = matched size into status a.basic

received_so : (size : ℕ) (group : Option (List ℕ)) (m : Option Message) (into : Region) →
    Holds size (progress_of_message group m into)
received_so size group None into = tt
received_so size group (Some m) into = matched_with size into (status_in group (status_of m)) m.body

received : (size : ℕ) (p : RequestProgress) (into : Region) → Holds size p → Holds size (progress_on_receive p into)
received size (Receiving r) into h = tt
received size (Collecting w) into h = tt
received size Offering into h = tt
received size (TakenOut t) into h = received_so size t.group t.message into
received size (Finished o) into h = tt

-- a receive that is posted waits, or was matched with what it found
pub post_holds : (size : ℕ) (p : Posted) (found : Option Message) → Holds size (progress_on_post p found)
post_holds size p None = tt
post_holds size p (Some m) = matched_with size p.into (status_in p.group (status_of m)) m.body

-- a send holds no message
pub send_holds : (size : ℕ) (announced : Option ℕ) → Holds size (progress_of_send announced)
send_holds size None = tt
send_holds size (Some rank) = tt

-- THE STEPS OF THE TABLE

-- what a step makes of the entry that it finds under a key: no message, or the one that it was
slot_stays : (size : ℕ) (slots : List (Option TableEntry)) (key : ℕ) (f : Option TableEntry →
    List (Option TableEntry)) → (f None ≡ slots) →
    ((e : TableEntry) → IsAnswerableAt size (Some e) → All size (f (Some e))) → All size slots →
    All size (f (slot_at slots key))
slot_stays size slots key f none some all = go (slot_at slots key) (all key)
  where
    go : (o : Option TableEntry) → IsAnswerableAt size o → All size (f o)
    go None h = subst (All size) (sym none) all
    go (Some e) h = some e h

finish_stays : (size : ℕ) (slots : List (Option TableEntry)) (key : ℕ) (status : Status) (m : Contents) →
    All size slots → All size (after_finish slots key status m)
finish_stays size slots key status m all =
    slot_stays size slots key (λ o. entry_after o slots key status m) refl
    (λ e h. set_stays size slots key _ all (finished size e.progress status m h)) all

announce_stays : (size : ℕ) (slots : List (Option TableEntry)) (key : ℕ) (status : Status) (basic : BasicType) →
    All size slots → All size (after_announcement slots key status basic)
announce_stays size slots key status basic all =
    slot_stays size slots key (λ o. slot_announced o slots key status basic) refl
    (λ e h. set_stays size slots key _ all (announced size e.progress status basic h)) all

deliver_stays : (size : ℕ) (slots : List (Option TableEntry)) (key : ℕ) (m : Contents) → All size slots →
    All size (after_delivery slots key m)
deliver_stays size slots key m all =
    slot_stays size slots key (λ o. slot_delivered o slots key m) refl
    (λ e h. set_stays size slots key _ all (delivered size e.progress m h)) all

answer_stays : (size : ℕ) (slots : List (Option TableEntry)) (key : ℕ) → All size slots →
    All size (after_answer slots key)
answer_stays size slots key all =
    slot_stays size slots key (λ o. slot_answered o slots key) refl
    (λ e h. set_stays size slots key _ all (answered size e.progress h)) all

replace_stays : (size : ℕ) (slots : List (Option TableEntry)) (key : ℕ) → All size slots →
    All size (slot_replaced (slot_at slots key) slots key)
replace_stays size slots key all =
    slot_stays size slots key (λ o. slot_replaced o slots key) refl
    (λ e h. set_stays size slots key _ all (replaced size e.progress h)) all

replaces_stay : (size : ℕ) (slots : List (Option TableEntry)) (keys : List ℕ) → All size slots →
    All size (after_replaces slots keys)
replaces_stay size slots [] all = all
replaces_stay size slots (key ∷ keys) all =
    replaces_stay size (slot_replaced (slot_at slots key) slots key) keys (replace_stays size slots key all)

receive_stays : (size : ℕ) (slots : List (Option TableEntry)) (key : ℕ) (into : Region) → All size slots →
    All size (after_receive slots key into)
receive_stays size slots key into all =
    slot_stays size slots key (λ o. slot_received o slots key into) refl
    (λ e h. set_stays size slots key _ all (received size e.progress into h)) all

own_sent_stays : (size : ℕ) (slots : List (Option TableEntry)) (own : Option ℕ) → All size slots →
    All size (own_key_sent own slots)
own_sent_stays size slots None all = all
own_sent_stays size slots (Some key) all = answer_stays size slots key all

without_stays : (size : ℕ) (slots : List (Option TableEntry)) (used : List Request) → All size slots →
    All size (completions.without slots used)
without_stays size slots [] all = all
without_stays size slots (q ∷ qs) all =
    without_stays size (slice_set slots q.key None) qs (set_stays size slots q.key None all tt)

cancel_stays : (size : ℕ) (slots : List (Option TableEntry)) (q : Request) → All size slots →
    All size (after_cancel slots q)
cancel_stays size slots q all = go (progress_at slots q.key q.serial)
  where
    go : (o : Option RequestProgress) → All size (cancelled_by slots q o)
    go None = all
    go (Some (Receiving r)) = set_stays size slots q.key _ all tt
    go (Some (Collecting w)) = all
    go (Some Offering) = all
    go (Some (TakenOut t)) = all
    go (Some (Finished o)) = all

-- WHAT A CORE KEEPS

module _ (p : Place) (q : State) (t : transfers.State) (slots : List (Option TableEntry))
    (kept : IsKept p q t slots) where
  with_slots : (new : List (Option TableEntry)) → All p.size new → IsKept p q t new
  with_slots new all = record { width = kept.width; answerable = kept.answerable; offers = kept.offers; taken = all }

  -- a request is started
  pub kept_on_start : (new : List (Option TableEntry)) (key : ℕ) (slot : Option TableEntry) →
      IsAnswerableAt p.size slot → IsSet slots new key slot → IsKept p q t new
  kept_on_start new key slot here set = with_slots new (started p.size slots new key slot kept.taken here set)

  -- a receive gets a message
  pub kept_on_finish : (key : ℕ) (status : Status) (m : Contents) → IsKept p q t (after_finish slots key status m)
  kept_on_finish key status m = with_slots _ (finish_stays p.size slots key status m kept.taken)

  -- or an announced one
  pub kept_on_announcement : (key : ℕ) (status : Status) (basic : BasicType) →
      IsKept p q t (after_announcement slots key status basic)
  kept_on_announcement key status basic = with_slots _ (announce_stays p.size slots key status basic kept.taken)

  -- its data are all there
  pub kept_on_delivery : (key : ℕ) (m : Contents) → IsKept p q t (after_delivery slots key m)
  kept_on_delivery key m = with_slots _ (deliver_stays p.size slots key m kept.taken)

  -- a send is answered
  pub kept_on_answer : (key : ℕ) → IsKept p q t (after_answer slots key)
  kept_on_answer key = with_slots _ (answer_stays p.size slots key kept.taken)

  -- requests end, and messages that were taken out are gone
  pub kept_on_replaces : (keys : List ℕ) → IsKept p q t (after_replaces slots keys)
  kept_on_replaces keys = with_slots _ (replaces_stay p.size slots keys kept.taken)

  -- a message is received
  pub kept_on_receive : (key : ℕ) (into : Region) → IsKept p q t (after_receive slots key into)
  kept_on_receive key into = with_slots _ (receive_stays p.size slots key into kept.taken)

  -- an own send ends
  pub kept_on_own_sent : (own : Option ℕ) → IsKept p q t (own_key_sent own slots)
  kept_on_own_sent own = with_slots _ (own_sent_stays p.size slots own kept.taken)

  -- requests are used up
  pub kept_on_use : (used : List Request) → IsKept p q t (completions.without slots used)
  kept_on_use used = with_slots _ (without_stays p.size slots used kept.taken)

  -- a receive is cancelled
  pub kept_on_cancel : (r : Request) → IsKept p q t (after_cancel slots r)
  kept_on_cancel r = with_slots _ (cancel_stays p.size slots r kept.taken)

  -- a look at what a call waits for uses requests up, or changes nothing
  pub kept_on_completion : (old new : Table) (a : Awaited) (result : Result Answer Awaited) → old.slots ≡ slots →
      Completes old a result new → IsKept p q t new.slots
  kept_on_completion old new a result same completes = go (completion old.slots a) result completes
    where
      used_up : (used : List Request) → new.slots ≡ completions.without old.slots used → IsKept p q t new.slots
      used_up used e =
          subst (λ (ss : List (Option TableEntry)). IsKept p q t ss) (sym e)
          (subst (λ (ss : List (Option TableEntry)). IsKept p q t (completions.without ss used)) (sym same)
          (kept_on_use used))

      go : (o : Option (Answer × List Request)) (r : Result Answer Awaited) → CompletesBy old a o r new →
          IsKept p q t new.slots
      go (Some (answer, used)) (Ok given) h = used_up used h.1
      go (Some (answer, used)) (Err back) h = absurd h
      go None (Ok given) h = absurd h
      go None (Err back) h =
          subst (λ (x : Table). IsKept p q t x.slots) (sym h.1)
          (subst (λ (ss : List (Option TableEntry)). IsKept p q t ss) (sym same) kept)
