-- An announcement that comes: a receive that waits is matched with its message and answers it, or the message waits.
use Rattle.std.proofs.Common.{◌≡◌, ℕ, zero, suc, ◌<◌, ◌≤◌, ◌^◌, Bool, List, [], ◌∷◌, ◌++◌, map, Option, Some, None}
use Rattle.std.proofs.Common.{slice_set, refl, sym, ap, ◌∙◌, subst, arith, ◌⊎◌, inl, inr}
use Rattle.std.specs.List.{AllByRecursion}
use Rattle.std.proofs.lemmas.List.{length-set, map-append}
use Rattle.vocabulary.specs.declared.endpoint.Endpoint.{Endpoint}
use Rattle.datagram.specs.Spellings.{RequestFrame, RequestText}
use Rattle.match_queues.specs.declared.envelope.Announcement.{Announcement}
use Rattle.match_queues.specs.declared.envelope.Body.TheVariants as bodies
use Rattle.match_queues.specs.declared.envelope.Message.{Message}
use Rattle.match_queues.specs.declared.queues.Arrival.{Arrival}
use Rattle.match_queues.specs.declared.queues.Arrival.TheVariants.{Kept, Matched}
use Rattle.match_queues.specs.Arrivals.{arrival_of}
use Rattle.match_queues.specs.State.{State, after_arrival}
use Rattle.requests.specs.Table.{slot_at, wants_by}
use Rattle.incarnation.specs.declared.place.Place.{Place}
use Rattle.rendezvous.specs.declared.transfers.Numbers.{Numbers}
use Rattle.rendezvous.specs.State.{after_rts, most_transfers, next_to, with_announced}
use Rattle.point_to_point_calls.specs.Frames.{as_list}
use Rattle.point_to_point_calls.specs.FrameNews.{announced_of}
use Rattle.match_queues.specs.declared.envelope.Body.TheVariants.{Announced}
use Rattle.point_to_point_calls.specs.ReceiveMatches.{answer_on_arrival, collection_on_match, transfers_with}
use Rattle.point_to_point_calls.specs.ReceiveMatches.{slots_on_arrival, transfers_on_arrival}
use Rattle.point_to_point.specs.CoreState.{CoreState}
use Rattle.point_to_point.specs.Arrivals.{after_announcement}
use Rattle.point_to_point.specs.Sends as rank
use Rattle.perfect_queues.specs.Receives.{Receive, has_room}
use Rattle.proof_pure_network.specs.Core.{Core, Effect}
use Rattle.proof_pure_network.specs.Engine.{came}
use Rattle.proof_pure_network.specs.Frames.{Frame}
use Rattle.proof_pure_network.specs.WaitingMessages.{Held, Part}
use Rattle.proof_pure_network.specs.Jobs.{Job, Waiting, oldest_posted}
use Rattle.proof_pure_network.specs.Matches.{arrived, arrived_at}
use Rattle.proof_engine_view.specs.Rows.{Row, held_of, jobs_of}
use Rattle.proof_engine_view.specs.FrameViews.{AreSent, CanLeave, IsRequest, all_gone}
use Rattle.proof_engine_view.specs.Transfers.{Announcements, Transfer, serial_of}
use Rattle.proof_engine_view.specs.UnderWay.{AreUnderWay, IsFromLink, IsNumbered, IsPartOf}
use Rattle.proof_engine_matching.specs.Matches.{AnnouncementsAgree, ArrivalsMatch, IsKept, IsMatchedTo}
use Rattle.proof_engine_steps.proofs.ClearToSend.{answer_leaves, answer_quiet, answer_sent}
use Rattle.proof_engine_steps.proofs.Collects.{matched_under_way, part_as, written_set}
use Rattle.proof_engine_steps.proofs.MatchedRows.{IsMatchedAlike, left_by, left_live, left_waits, matched_rows}
use Rattle.proof_engine_steps.proofs.MatchedRows.{waiting_apart}
use Rattle.proof_engine_steps.proofs.NamedRequests.{NamedStay, blocked_stays, named_same, named_set}
use Rattle.proof_engine_steps.proofs.RowLemmas.{set_jobs}
use Rattle.proof_engine_steps.proofs.UnchangedTransfers.{AreQuiet, same_rows, under_way_with}
use Rattle.proof_engine_steps.proofs.FrameArrivals.{AnnouncementsAreTaken, HoldBoth, Meets}
use Rattle.proof_engine_steps.proofs.UnderWay.{keeps_set, messages_keep, row_of}
use Rattle.proof_engine_steps.proofs.BlockedRanks.{Holding}
use Rattle.proof_engine_steps.proofs.Wholes.{announced_as, pushed}

-- ---- NUMBERS

-- one more announcement of a rank leaves the numbers of those to others
next_same : (ns : List Numbers) (rank r : ℕ) → next_to (with_announced ns rank) r ≡ next_to ns r
next_same [] zero r = refl
next_same [] (suc k) r = refl
next_same (n ∷ ns) zero zero = refl
next_same (n ∷ ns) zero (suc r) = refl
next_same (n ∷ ns) (suc k) zero = refl
next_same (n ∷ ns) (suc k) (suc r) = next_same ns k r

-- so they go on to count what was announced to each
pub announced_numbers : (to : Endpoint → List Transfer) (known : List ℕ) (p : Place) (ns : List Numbers) (rank : ℕ) →
    IsNumbered to known p ns → IsNumbered to known p (with_announced ns rank)
announced_numbers to known p ns rank h =
    record {
      width = length-set ns rank _ ∙ h.width;
      begun = λ r there apart. next_same ns rank r ∙ h.begun r there apart;
      most = λ r. subst (λ (n : ℕ). n ≤ most_transfers) (sym (next_same ns rank r)) (h.most r);
    }

-- the rank counts the announcement, and holds all else as it did
counted_holds : (links : Announcements) (e : CoreState) (known : List ℕ) (core : Core) (rows : List Row) (rank : ℕ) →
    Holding links e known core rows →
    Holding links (record e { transfers = after_rts e.transfers rank }) known core rows
counted_holds links e known core rows rank h =
    record {
      jobs = h.jobs;
      count = h.count;
      table = h.table;
      posted = h.posted;
      held = h.held;
      under_way = record {
        numbered = announced_numbers links.to known e.place e.transfers.numbers rank h.under_way.numbered;
        offers = h.under_way.offers;
        offered = h.under_way.offered;
        offers_apart = h.under_way.offers_apart;
        collections = h.under_way.collections;
        collected = h.under_way.collected;
        collections_apart = h.under_way.collections_apart;
        unmatched = h.under_way.unmatched;
        messages = h.under_way.messages;
      };
      taken = h.taken;
      knowing = h.knowing;
    }

-- ---- THE MESSAGE

-- the rank, once this became of a message, and the queues are these
abbrev pub arrived_so : CoreState → Arrival → State → CoreState
arrived_so e became queues =
    record e {
      queues = queues;
      slots = slots_on_arrival e.slots became;
      transfers =
          transfers_on_arrival e.place.message_limit e.transfers e.slots became;
    }

-- What an announced message leaves of both, and what is answered
record IsAnswered (links : Announcements) (e : CoreState) (known : List ℕ) (core : Core) (rows : List Row)
    (became : Arrival) (queues : State) (after : Effect) : Type 0 where
  left : List Row
  holding : Holding links (arrived_so e became queues) known after.core left
  blocked : after.core.blocked ≡ core.blocked
  waits : NamedStay rows left
  quiet : AreQuiet after.out
  sends : AreSent links (all_gone known (as_list (answer_on_arrival e.slots became))) after.out
  leaves : AllByRecursion (CanLeave e.place) (as_list (answer_on_arrival e.slots became))

-- it waits behind the others
answered_kept : (links : Announcements) (e : CoreState) (known : List ℕ) (core : Core) (rows : List Row) (m : Message)
    (x : Announcement) → Holding links e known core rows →
    IsPartOf links.from known e.place m x →
    IsAnswered links e known core rows Kept
    (record e.queues { unexpected = e.queues.unexpected ++ announced_as m x ∷ [] })
    (arrived_at core (held_of links.from (announced_as m x)) None)
answered_kept links e known core rows m x h part =
    record {
      left = rows;
      holding = record {
        jobs = h.jobs;
        count = h.count;
        table = h.table;
        posted = h.posted;
        held = ap (λ (hs : List Held). hs ++ held_of links.from (announced_as m x) ∷ []) h.held
            ∙ sym (map-append (held_of links.from) e.queues.unexpected (announced_as m x ∷ []));
        under_way =
            under_way_with links known e.place rows rows e.transfers e.transfers e.queues.unexpected
            (e.queues.unexpected ++ announced_as m x ∷ []) h.under_way (same_rows rows) refl
            (pushed (λ (n : Message). IsFromLink links.from known e.place rows n n.body) e.queues.unexpected
            (announced_as m x) h.under_way.messages (part_as links.from known e.place m x part));
        taken = h.taken;
        knowing = h.knowing;
      };
      blocked = refl;
      waits = named_same rows;
      quiet = tt;
      sends = tt;
      leaves = tt;
    }

-- the receive with serial k is matched with it
answered_matched : AnnouncementsAgree →
    (links : Announcements) (e : CoreState) (known : List ℕ) (core : Core) (rows : List Row) (m : Message)
    (x : Announcement) (k key : ℕ) (p : Receive) →
    Holding links e known core rows → IsPartOf links.from known e.place m x →
    IsMatchedTo links.from rows e.queues (announced_as m x) k key p →
    IsAnswered links e known core rows
    (Matched (record { request = key; context = p.context; source = p.source; tag = p.tag }) (announced_as m x))
    (after_arrival e.queues (announced_as m x))
    (arrived_at core (held_of links.from (announced_as m x)) (Some (k, p)))
answered_matched agree links e known core rows m x k key p h part t =
    record {
      left = left;
      holding = record {
        jobs = ap (λ (ys : List Job). slice_set ys k job) h.jobs ∙ sym (set_jobs rows k key job);
        count = length-set rows k (row_of key job) ∙ h.count;
        table = alike.table;
        posted = t.posted job
            (left_waits key p (held_of links.from (announced_as m x)) x.count (has_room p x.basic x.count));
        held = h.held ∙ ap (λ (ms : List Message). map (held_of links.from) ms) (sym t.unexpected);
        under_way =
            subst (λ (b : Bool). AreUnderWay links known e.place left
            (transfers_with e.transfers (collection_on_match e.place.message_limit b (announced_as m x) (Announced x)
            key))
            (after_arrival e.queues (announced_as m x)).unexpected) alike.wanted
            (matched_under_way links known e.place rows left e.transfers e.queues.unexpected
            (after_arrival e.queues (announced_as m x)).unexpected m x k key p (has_room p x.basic x.count)
            h.under_way part
            (written_set rows k key (Waiting p) job t.row (λ i. i))
            (waiting_apart links.from known rows e.slots k key p e.transfers.collections h.table t.row
            h.under_way.collections)
            (subst (λ (ms : List Message). AllByRecursion
            (λ (n : Message). IsFromLink links.from known e.place left n n.body) ms) (sym t.unexpected)
            (messages_keep links.from known e.place rows left e.queues.unexpected
            (keeps_set rows k key (Waiting p) job t.row (λ i. i)) h.under_way.messages)));
        taken = alike.taken known e.place h.taken;
        knowing = h.knowing;
      };
      blocked = refl;
      waits = named_set rows k key (Waiting p) job t.row
          (left_live p (held_of links.from (announced_as m x)) x.count (has_room p x.basic x.count));
      quiet = answer_quiet p (held_of links.from (announced_as m x)) (held_of links.from (announced_as m x)).body;
      sends = answer_sent links links.to known e.place p m x (wants_by (slot_at e.slots key) x.basic x.count) part
          alike.wanted;
      leaves = answer_leaves links.from known e.place m x (wants_by (slot_at e.slots key) x.basic x.count) part;
    }
  where
    job : Job
    job = left_by links.from p m x

    left : List Row
    left = slice_set rows k (row_of key job)

    alike : IsMatchedAlike links.from rows e.slots m x k key p
    alike = matched_rows agree links.from rows e.slots m x k key p h.table t.row t.accepts

-- whatever becomes of it
message_answered : ArrivalsMatch → AnnouncementsAgree →
    (links : Announcements) (e : CoreState) (known : List ℕ) (core : Core) (rows : List Row) (m : Message)
    (x : Announcement) →
    Holding links e known core rows → IsPartOf links.from known e.place m x →
    IsAnswered links e known core rows (arrival_of e.queues (announced_as m x))
    (after_arrival e.queues (announced_as m x)) (arrived core (held_of links.from (announced_as m x)))
message_answered match agree links e known core rows m x h part =
    go (match links.from rows e.queues (announced_as m x) h.posted)
  where
    message : Message
    message = announced_as m x

    oldest : (o : Option (ℕ × Receive)) → oldest_posted (held_of links.from message) (jobs_of rows) ≡ o →
        arrived core (held_of links.from message) ≡ arrived_at core (held_of links.from message) o
    oldest o is =
        ap (arrived_at core (held_of links.from message)) (ap (oldest_posted (held_of links.from message)) h.jobs ∙ is)

    become : (became : Arrival) (queues : State) (o : Option (ℕ × Receive)) → arrival_of e.queues message ≡ became →
        after_arrival e.queues message ≡ queues →
        oldest_posted (held_of links.from message) (jobs_of rows) ≡ o →
        IsAnswered links e known core rows became queues (arrived_at core (held_of links.from message) o) →
        IsAnswered links e known core rows (arrival_of e.queues message) (after_arrival e.queues message)
        (arrived core (held_of links.from message))
    become became queues o ba bq bo i =
        subst (λ (f : Effect). IsAnswered links e known core rows (arrival_of e.queues message)
        (after_arrival e.queues message) f) (sym (oldest o bo))
        (subst (λ (b : Arrival). IsAnswered links e known core rows b (after_arrival e.queues message)
        (arrived_at core (held_of links.from message) o)) (sym ba)
        (subst (λ (q : State). IsAnswered links e known core rows became q
        (arrived_at core (held_of links.from message) o)) (sym bq) i))

    go : IsKept links.from rows e.queues message ⊎
        ((k : ℕ) × (key : ℕ) × (p : Receive) × IsMatchedTo links.from rows e.queues message k key p) →
        IsAnswered links e known core rows (arrival_of e.queues message) (after_arrival e.queues message)
        (arrived core (held_of links.from message))
    go (inl kept) =
        become Kept (record e.queues { unexpected = e.queues.unexpected ++ message ∷ [] }) None kept.arrival kept.queues
        kept.core (answered_kept links e known core rows m x h part)
    go (inr t) =
        become (Matched (record { request = t.1; context = t.2.context; source = t.2.source; tag = t.2.tag }) message)
        (after_arrival e.queues message) (Some (t.0, t.2)) t.3.arrival refl t.3.core
        (answered_matched agree links e known core rows m x t.0 t.1 t.2 h part t.3)

-- ---- THE ANNOUNCEMENT

-- what it announces
abbrev announcement_of : RequestText → Announcement
announcement_of t = record { transfer = t.transfer; basic = t.basic; count = t.count }

-- the message of which that is announced
abbrev envelope_of : Endpoint → RequestText → Message
envelope_of s t = record { sender = s; context = t.context; tag = t.tag; body = bodies.Announced (announcement_of t) }

-- a number that fits its field is one of a session's
number_of_session : (n : ℕ) → n < 2 ^ 32 → n ≤ 4294967295
number_of_session n h = omega arith

-- it is from its link
from_link : (links : Announcements) (e : CoreState) (known : List ℕ) (core : Core) (s : Endpoint) (t : RequestText)
    (frame : Frame) → Meets links e known core s (RequestFrame t) frame →
    IsPartOf links.from known e.place (envelope_of s t) (announcement_of t)
from_link links e known core s t frame meets =
    record {
      sender = meets.sender;
      there = meets.there;
      apart = meets.apart;
      announced = record { serial = meets.stands.serial; there = meets.stands.announced };
      width = number_of_session t.transfer meets.within.transfer;
    }

-- the core takes the same message
came_so : (links : Announcements) (core : Core) (s : Endpoint) (t : RequestText) (frame : Frame) →
    IsRequest (links.from s) t frame → came core s frame ≡ arrived core (held_of links.from (envelope_of s t))
came_so links core s t frame is =
    ap (came core s) is.frame_is
    ∙ ap (λ (o : Option Transfer). arrived core
    (record { sender = s; context = t.context; tag = t.tag; basic = t.basic; body = Part (serial_of o) t.count }))
    (sym is.announced)

-- each announcement is taken alike
pub announcements_are_taken : ArrivalsMatch → AnnouncementsAgree → AnnouncementsAreTaken
unfolding rank.after_message announced_of
announcements_are_taken match agree links e known core s t frame meets =
    record {
      both = subst (λ (f : Effect). HoldBoth links (after_announcement e s t) known f.core) (sym same)
          (record {
            rows = a.left;
            holding = a.holding;
            awaited =
                blocked_stays rows a.left e.blocked core.blocked after.core.blocked meets.both.awaited a.blocked
                a.waits;
          });
      place = refl;
      completion = refl;
      quiet = subst (λ (f : Effect). AreQuiet f.out) (sym same) a.quiet;
      sends = subst
          (λ (f : Effect). AreSent links
          (all_gone known (as_list (answer_on_arrival e.slots (arrival_of e.queues (envelope_of s t))))) f.out)
          (sym same) a.sends;
      leaves = a.leaves;
    }
  where
    rows : List Row
    rows = meets.both.rows

    after : Effect
    after = arrived core (held_of links.from (envelope_of s t))

    same : came core s frame ≡ after
    same = came_so links core s t frame meets.stands

    a : IsAnswered links (record e { transfers = after_rts e.transfers s.rank }) known core rows
        (arrival_of e.queues (envelope_of s t)) (after_arrival e.queues (envelope_of s t)) after
    a = message_answered match agree links (record e { transfers = after_rts e.transfers s.rank }) known core rows
        (envelope_of s t) (announcement_of t)
        (counted_holds links e known core rows s.rank meets.both.holding) (from_link links e known core s t frame meets)
