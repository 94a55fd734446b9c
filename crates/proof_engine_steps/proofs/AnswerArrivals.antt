-- An answer comes: the send is over at the rank and at its core, and its data go out if they are wanted.
use Rattle.std.proofs.Common.{◌≡◌, ℕ, ◌*◌, ◌^◌, ◌<◌, ◌≤◌, Bool, true, false, List, [], ◌∷◌, length, Option, Some}
use Rattle.std.proofs.Common.{if◌then◌else◌, slice_get, slice_set, refl, sym, ap, ◌∙◌, subst}
use Rattle.std.specs.List.{AllByRecursion}
use Rattle.std.proofs.lemmas.List.{length-set}
use Rattle.std.proofs.lemmas.Option.{same_Some}
use Rattle.vocabulary.specs.BasicTypes.{size_of}
use Rattle.vocabulary.specs.Endpoints.{is_same}
use Rattle.vocabulary.specs.Limits.{greatest_limit}
use Rattle.vocabulary.specs.declared.basic_type.BasicType.{BasicType}
use Rattle.vocabulary.specs.declared.endpoint.Endpoint.{Endpoint}
use Rattle.datatypes.specs.Contents.{AreWithin}
use Rattle.datagram.specs.Spellings.{ClearText}
use Rattle.datagram.specs.declared.kinds.Clearance.{Clearance}
use Rattle.datagram.specs.declared.kinds.Clearance.TheVariants.{Drop, Send}
use Rattle.incarnation.specs.declared.place.Place.{Place}
use Rattle.rendezvous.specs.declared.offer.Offer.{Offer}
use Rattle.perfect_queues.proofs.EndpointLemmas.{same_refl}
use Rattle.perfect_queues.specs.Outcomes as machine
use Rattle.rendezvous.specs.State.{offered}
use Rattle.requests.specs.Table.{progress_on_answer, slot_answered, slot_at}
use Rattle.requests.specs.declared.table.TableEntry.{TableEntry}
use Rattle.requests.specs.declared.table.RequestProgress.{RequestProgress}
use Rattle.point_to_point_calls.specs.FrameNews.{sent_by, wanted_frames}
use Rattle.vocabulary.specs.declared.message_limit.MessageLimit.{MessageLimit}
use Rattle.point_to_point.specs.CoreState.{CoreState}
use Rattle.point_to_point.specs.Arrivals as hearing
use Rattle.proof_pure_network.specs.Core.{Core, Effect, effect, with_jobs}
use Rattle.proof_pure_network.specs.Engine.{came}
use Rattle.proof_pure_network.specs.Frames.{Cts, Frame}
use Rattle.proof_pure_network.specs.Jobs.{Job, Offering, Over}
use Rattle.proof_pure_network.specs.Transfers.{answered, cut, data_frames, wanted_data}
use Rattle.proof_engine_view.specs.Frames.{endpoint_of}
use Rattle.proof_engine_view.specs.Rows.{Fits, Holds, IsTable, Row}
use Rattle.proof_engine_view.specs.FrameViews.{AreSent, CanLeave, IsClear, all_gone, is_wanted}
use Rattle.proof_engine_view.specs.Transfers.{Announcements, Transfer}
use Rattle.proof_engine_view.specs.UnderWay.{AreTaken, IsOfferOf}
use Rattle.proof_engine_steps.proofs.AnsweredOffers.{IsAnswered, all_parts, answer_there, answered_under_way}
use Rattle.proof_engine_steps.proofs.DataFrames.{data_leave, data_sent}
use Rattle.proof_engine_steps.proofs.NamedRequests.{blocked_stays, named_set}
use Rattle.proof_engine_steps.proofs.RowLemmas.{job_at, set_jobs}
use Rattle.proof_engine_steps.proofs.BlockedAnswers.{fits_offering}
use Rattle.proof_engine_steps.proofs.UnchangedTransfers.{AreQuiet}
use Rattle.proof_engine_steps.proofs.Tables.{Says, changed_table, held_at, says_some, set_is_set}
use Rattle.proof_engine_steps.proofs.FrameArrivals.{AnswersAreTaken, HoldBoth}
use Rattle.proof_engine_steps.proofs.TakenRows.{posted_still}
use Rattle.proof_engine_steps.proofs.UnderWay.{row_of, taken_changed}
use Rattle.proof_engine_steps.proofs.BlockedRanks.{Holding}

-- ---- THE OFFER THAT IS ANSWERED

-- the transfer that an offer of this serial is
abbrev transfer_with : (serial : ℕ) → Offer → Transfer
transfer_with serial o = record { serial = serial; basic = o.elements.basic; count = length o.elements.values }

-- what an offer to an endpoint says
abbrev offering : Endpoint → Offer → Job
offering d o = Offering d o.elements.basic o.elements.values

-- the request whose message the sender of an answer was offered, and the answer in the network
record IsAnswerTo (to : Endpoint → List Transfer) (rows : List Row) (d : Endpoint) (o : Offer) (t : ClearText)
    (frame : Frame) : Type 0 where
  serial : ℕ
  row : slice_get rows serial ≡ Some (row_of o.request (offering d o))
  announced : slice_get (to d) o.transfer ≡ Some (transfer_with serial o)
  within : AreWithin (size_of o.elements.basic) o.elements.values
  limit : length o.elements.values * size_of o.elements.basic ≤ greatest_limit
  frame_is : frame ≡ Cts serial (is_wanted t.clearance)

-- both numbers stand at one place, so the serials are one
answer_to : (to : Endpoint → List Transfer) (known : List ℕ) (rows : List Row) (s : Endpoint) (o : Offer)
    (t : ClearText) (frame : Frame) → s ≡ endpoint_of known s.rank →
    IsOfferOf to known rows o → o.target ≡ s.rank → o.transfer ≡ t.transfer → IsClear (to s) t frame →
    IsAnswerTo to rows (endpoint_of known s.rank) o t frame
answer_to to known rows s o t frame sender i target number stands =
    record {
      serial = i.serial;
      row = subst (λ (n : ℕ). slice_get rows i.serial ≡ Some (row_of o.request (offering (endpoint_of known n) o)))
          target i.row;
      announced = announced;
      within = i.within;
      limit = i.limit;
      frame_is = stands.frame_is ∙ ap (λ (x : Transfer). Cts x.serial (is_wanted t.clearance)) same;
    }
  where
    announced : slice_get (to (endpoint_of known s.rank)) o.transfer ≡ Some (transfer_with i.serial o)
    announced =
        subst (λ (n : ℕ). slice_get (to (endpoint_of known n)) o.transfer ≡ Some (transfer_with i.serial o)) target
        i.announced

    same : stands.transfer ≡ transfer_with i.serial o
    same = same_Some stands.transfer (transfer_with i.serial o)
        (sym stands.announced ∙
        (ap (λ (x : Endpoint). slice_get (to x) t.transfer) sender ∙
        (ap (slice_get (to (endpoint_of known s.rank))) (sym number) ∙ announced)))

-- ---- THE CORE

-- the send is over at the core
abbrev over_at : Core → (serial : ℕ) → Core
over_at core serial = with_jobs core (slice_set core.jobs serial (Over machine.Sent))

-- the core takes the answer
core_answers : (core : Core) (s d : Endpoint) (serial : ℕ) (basic : BasicType) (values : List ℕ) (wanted : Bool) →
    s ≡ d → slice_get core.jobs serial ≡ Some (Offering d basic values) →
    came core s (Cts serial wanted) ≡
    effect (over_at core serial) (wanted_data core.message_limit d serial basic values wanted)
core_answers core s d serial basic values wanted same job =
    let one : is_same d s ≡ true = subst (λ (x : Endpoint). is_same d x ≡ true) (sym same) (same_refl d) in
    ap (answered core s serial wanted) job
    ∙ ap (λ (b : Bool). if b
    then effect (over_at core serial) (wanted_data core.message_limit d serial basic values wanted) else
    effect core []) one

-- ---- THE RANK'S TABLE

-- a send that was offered is over
over_fits : (g : RequestProgress) (d : Endpoint) (basic : BasicType) (values : List ℕ) →
    Fits g (Offering d basic values) → Fits (progress_on_answer g) (Over machine.Sent)
over_fits g d basic values f =
    subst (λ (x : RequestProgress). Fits (progress_on_answer x) (Over machine.Sent))
    (sym (fits_offering g d basic values f)) refl

-- an entry with the serial, that fits the job, says the same
entry_says : (t : TableEntry) (k : ℕ) (j : Job) → t.serial ≡ k → Fits t.progress j → Says (Some t) k j
entry_says t k j e f = subst (λ (x : ℕ). Says (Some t) x j) e (says_some t.serial t.progress j f)

-- its slot and its row change
over_table : (slots : List (Option TableEntry)) (rows : List Row) (k : ℕ) (d : Endpoint) (o : Offer) →
    IsTable slots rows → slice_get rows k ≡ Some (row_of o.request (offering d o)) →
    IsTable (sent_by slots (Some o)) (slice_set rows k (row_of o.request (Over machine.Sent)))
over_table slots rows k d o table here =
    subst (λ (x : List (Option TableEntry)). IsTable x (slice_set rows k (row_of o.request (Over machine.Sent))))
    (sym written)
    (changed_table slots (slice_set slots o.request (Some after)) rows k o.request (offering d o) (Over machine.Sent)
    (Some after) table here (λ e. cc)
    (set_is_set slots o.request mine.entry (Some after) mine.there)
    (entry_says after k (Over machine.Sent) mine.serial_is
    (over_fits mine.entry.progress d o.elements.basic o.elements.values mine.fits)))
  where
    mine : Holds (slot_at slots o.request) k (offering d o)
    mine = held_at slots rows k o.request (offering d o) table here (λ e. cc)

    after : TableEntry
    after = record mine.entry { progress = progress_on_answer mine.entry.progress }

    written : sent_by slots (Some o) ≡ slice_set slots o.request (Some after)
    written = ap (λ (x : Option TableEntry). slot_answered x slots o.request) mine.there

-- it is no message that was taken out, neither before nor after
over_taken : (from : Endpoint → List Transfer) (known : List ℕ) (place : Place) (slots : List (Option TableEntry))
    (rows : List Row) (k : ℕ) (d : Endpoint) (o : Offer) → IsTable slots rows →
    slice_get rows k ≡ Some (row_of o.request (offering d o)) →
    AreTaken from known place rows slots →
    AreTaken from known place (slice_set rows k (row_of o.request (Over machine.Sent))) (sent_by slots (Some o))
over_taken from known place slots rows k d o table here taken =
    subst (λ (x : List (Option TableEntry)). AreTaken from known place
    (slice_set rows k (row_of o.request (Over machine.Sent))) x) (sym written)
    (taken_changed from known place rows slots (slice_set slots o.request (Some after)) k o.request (offering d o)
    (Over machine.Sent) after taken here (λ i. i)
    (set_is_set slots o.request mine.entry (Some after) mine.there)
    (over_fits mine.entry.progress d o.elements.basic o.elements.values mine.fits) tt)
  where
    mine : Holds (slot_at slots o.request) k (offering d o)
    mine = held_at slots rows k o.request (offering d o) table here (λ e. cc)

    after : TableEntry
    after = record mine.entry { progress = progress_on_answer mine.entry.progress }

    written : sent_by slots (Some o) ≡ slice_set slots o.request (Some after)
    written = ap (λ (x : Option TableEntry). slot_answered x slots o.request) mine.there

-- ---- WHAT GOES OUT

-- data announce nothing
quiet_data : (d : Endpoint) (k : ℕ) (ps : List (ℕ × List ℕ)) → AreQuiet (data_frames d k ps)
quiet_data d k [] = tt
quiet_data d k ((o, values) ∷ ps) = (tt, quiet_data d k ps)

quiet_wanted : (limit : MessageLimit) (d : Endpoint) (k : ℕ) (basic : BasicType) (values : List ℕ) (wanted : Bool) →
    AreQuiet (wanted_data limit d k basic values wanted)
quiet_wanted limit d k basic values true = quiet_data d k (cut limit basic values)
quiet_wanted limit d k basic values false = tt

-- where the data are wanted, they go out on both sides; else nothing does
wanted_sent : (limit : MessageLimit) (a : Announcements) (known : List ℕ) (rank serial : ℕ) (o : Offer)
    (clearance : Clearance) →
    slice_get (a.to (endpoint_of known rank)) o.transfer ≡ Some (transfer_with serial o) →
    AreWithin (size_of o.elements.basic) o.elements.values →
    AreSent a (all_gone known (wanted_frames limit rank clearance (Some o)))
    (wanted_data limit (endpoint_of known rank) serial o.elements.basic o.elements.values (is_wanted clearance))
wanted_sent limit a known rank serial o Drop there within = tt
wanted_sent limit a known rank serial o Send there within =
    data_sent limit a known rank o.transfer (transfer_with serial o) o.elements.values there within

wanted_leave : (p : Place) (rank : ℕ) (o : Offer) (clearance : Clearance) → rank < p.size →
    (rank ≡ p.endpoint.rank → ⊥) → o.transfer < 2 ^ 32 →
    length o.elements.values * size_of o.elements.basic ≤ greatest_limit →
    AllByRecursion (CanLeave p) (wanted_frames p.message_limit rank clearance (Some o))
wanted_leave p rank o Drop there apart width limit = tt
wanted_leave p rank o Send there apart width limit =
    data_leave p rank o.transfer o.elements.basic o.elements.values there apart width limit

-- ---- BOTH

-- both hold that the send is over
over_held : (links : Announcements) (e : CoreState) (known : List ℕ) (core : Core) (rows : List Row)
    (rank transfer serial : ℕ) (d : Endpoint) (found : IsAnswered e.transfers rank transfer) →
    Holding links e known core rows →
    slice_get rows serial ≡ Some (row_of found.offer.request (offering d found.offer)) →
    Holding links (hearing.after_answer e rank transfer) known (over_at core serial)
    (slice_set rows serial (row_of found.offer.request (Over machine.Sent)))
over_held links e known core rows rank transfer serial d found h row =
    record {
      jobs = ap (λ (js : List Job). slice_set js serial (Over machine.Sent)) h.jobs ∙
          sym (set_jobs rows serial o.request (Over machine.Sent));
      count = length-set rows serial (row_of o.request (Over machine.Sent)) ∙ h.count;
      table = subst
          (λ (x : Option Offer). IsTable (sent_by e.slots x)
          (slice_set rows serial (row_of o.request (Over machine.Sent)))) (sym found.found)
          (over_table e.slots rows serial d o h.table row);
      posted = h.posted ∙ posted_still rows serial o.request (offering d o) (Over machine.Sent) row refl refl;
      held = h.held;
      under_way =
          answered_under_way links known e.place e.slots rows e.transfers e.queues.unexpected rank transfer serial found
          d o.elements.basic o.elements.values h.under_way h.table row;
      taken = subst
          (λ (x : Option Offer). AreTaken links.from known e.place
          (slice_set rows serial (row_of o.request (Over machine.Sent))) (sent_by e.slots x)) (sym found.found)
          (over_taken links.from known e.place e.slots rows serial d o h.table row h.taken);
      knowing = h.knowing;
    }
  where
    o : Offer
    o = found.offer

-- each answer is taken by both
pub answers_are_taken : AnswersAreTaken
answers_are_taken links e known core s t frame m =
    record {
      both = subst (λ (x : Effect). HoldBoth links (hearing.after_answer e s.rank t.transfer) known x.core)
          (sym core_is) (record {
            rows = slice_set m.both.rows answer.serial (row_of o.request (Over machine.Sent));
            holding =
                over_held links e known core m.both.rows s.rank t.transfer answer.serial d found m.both.holding
                answer.row;
            awaited =
                blocked_stays m.both.rows (slice_set m.both.rows answer.serial (row_of o.request (Over machine.Sent)))
                e.blocked core.blocked core.blocked m.both.awaited refl
                (named_set m.both.rows answer.serial o.request (offering d o) (Over machine.Sent) answer.row (λ z. cc));
          });
      place = refl;
      completion = refl;
      quiet = subst (λ (x : Effect). AreQuiet x.out) (sym core_is)
          (quiet_wanted e.place.message_limit d answer.serial o.elements.basic o.elements.values
          (is_wanted t.clearance));
      sends = subst
          (λ (x : Effect). AreSent links
          (all_gone known (wanted_frames e.place.message_limit s.rank t.clearance
          (offered e.transfers s.rank t.transfer))) x.out)
          (sym core_is)
          (subst (λ (x : Option Offer). AreSent links
          (all_gone known (wanted_frames e.place.message_limit s.rank t.clearance x))
          (wanted_data e.place.message_limit d answer.serial o.elements.basic o.elements.values
          (is_wanted t.clearance)))
          (sym found.found)
          (wanted_sent e.place.message_limit links known s.rank answer.serial o t.clearance answer.announced answer.within));
      leaves = subst (λ (x : Option Offer). AllByRecursion (CanLeave e.place)
          (wanted_frames e.place.message_limit s.rank t.clearance x))
          (sym found.found)
          (wanted_leave e.place s.rank o t.clearance m.there m.apart
          (subst (λ (n : ℕ). n < 2 ^ 32) (sym found.number) m.within.transfer) answer.limit);
    }
  where
    found : IsAnswered e.transfers s.rank t.transfer
    found = answer_there e.transfers s.rank t m.taken

    o : Offer
    o = found.offer

    d : Endpoint
    d = endpoint_of known s.rank

    answer : IsAnswerTo links.to m.both.rows (endpoint_of known s.rank) found.offer t frame
    answer = answer_to links.to known m.both.rows s found.offer t frame m.sender
        (all_parts (IsOfferOf links.to known m.both.rows) found.front found.back found.offer
        (subst (AllByRecursion (IsOfferOf links.to known m.both.rows)) found.offers m.both.holding.under_way.offers)).0
        found.target found.number m.stands

    core_is : came core s frame ≡
        effect (over_at core answer.serial)
        (wanted_data e.place.message_limit d answer.serial o.elements.basic o.elements.values (is_wanted t.clearance))
    core_is = ap (came core s) answer.frame_is
        ∙ core_answers core s d answer.serial o.elements.basic o.elements.values (is_wanted t.clearance) m.sender
        (ap (λ (js : List Job). slice_get js answer.serial) m.both.holding.jobs ∙
        job_at m.both.rows answer.serial o.request (offering d o) answer.row)
        ∙ ap (λ (l : MessageLimit). effect (over_at core answer.serial)
        (wanted_data l d answer.serial o.elements.basic o.elements.values (is_wanted t.clearance)))
        m.both.holding.knowing.limited
