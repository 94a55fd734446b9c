-- A piece of data comes: at the rank and at its core the receive that collects has it, and is over with the last one.
use Rattle.std.proofs.Common.{◌≡◌, ℕ, ◌==◌, Bool, true, false, List, [], ◌++◌, length, remove, Option, Some, None}
use Rattle.std.proofs.Common.{if◌then◌else◌, slice_get, slice_index_or, slice_set, refl, sym, ap, ap₂, ◌∙◌, subst}
use Rattle.std.proofs.lemmas.Bool.{and_from, eq-eqb, eqb-true}
use Rattle.std.proofs.lemmas.List.{length-set}
use Rattle.std.proofs.lemmas.Option.{get_or_from_slice_get}
use Rattle.vocabulary.specs.BasicTypes.{size_of}
use Rattle.vocabulary.specs.Endpoints.{is_same}
use Rattle.vocabulary.specs.declared.basic_type.BasicType.{BasicType}
use Rattle.vocabulary.specs.declared.endpoint.Endpoint.{Endpoint}
use Rattle.incarnation.specs.declared.place.Place.{Place}
use Rattle.vocabulary.specs.declared.envelope.Status.{Status}
use Rattle.datatypes.specs.ContentLaws.{sizes, values_of-bytes_of}
use Rattle.datatypes.specs.Contents.{Contents, values_of}
use Rattle.datagram.specs.Spellings.{DataText}
use Rattle.match_queues.specs.declared.envelope.Body.TheVariants as bodies
use Rattle.match_queues.specs.declared.envelope.Message.{Message}
use Rattle.perfect_queues.proofs.EndpointLemmas.{same_refl}
use Rattle.perfect_queues.specs.Buffers.{Handed}
use Rattle.perfect_queues.specs.Outcomes as machine
use Rattle.perfect_queues.specs.Receives.{Receive}
use Rattle.point_to_point_calls.specs.FrameNews.{bad_unless, delivered_by}
use Rattle.point_to_point.specs.CoreState.{CoreState}
use Rattle.point_to_point.specs.Arrivals.{after_piece}
use Rattle.rendezvous.specs.WholeMessages.{collected_of}
use Rattle.rendezvous.specs.Collections as rendezvous
use Rattle.rendezvous.specs.Collections.{is_whole}
use Rattle.rendezvous.specs.State as transfers
use Rattle.rendezvous.specs.State.{blank, given_at, handed_out, is_due, put_back, with_data_at}
use Rattle.rendezvous.specs.declared.collection.Collected.{Collected}
use Rattle.requests.specs.Outcomes.{outcome_of}
use Rattle.requests.specs.Table.{after_delivery, progress_on_delivery, slot_at, slot_delivered}
use Rattle.requests.specs.declared.table.TableEntry.{TableEntry}
use Rattle.requests.specs.declared.table.RequestProgress.{RequestProgress}
use Rattle.requests.specs.declared.table.RequestProgress.TheVariants.{Receiving, Finished}
use Rattle.requests.specs.declared.table.RequestProgress.TheVariants as progresses
use Rattle.proof_pure_network.specs.Core.{Core, Effect, effect, with_jobs}
use Rattle.proof_pure_network.specs.Engine.{came}
use Rattle.proof_pure_network.specs.Frames.{Frame}
use Rattle.proof_pure_network.specs.WaitingMessages.{Held, count_of, full, is_part}
use Rattle.proof_pure_network.specs.Jobs.{Job, Collecting, Over, collecting, is_collecting, with_more}
use Rattle.proof_pure_network.specs.Transfers.{collected}
use Rattle.proof_engine_matching.specs.Matches.{OutcomesAgree}
use Rattle.proof_engine_view.specs.Rows.{Fits, Holds, IsTable, Row, jobs_of, posted_job}
use Rattle.observation.specs.CoreCalls.{outcome_seen}
use Rattle.proof_engine_view.specs.FrameViews.{AreSent}
use Rattle.proof_engine_view.specs.Transfers.{Announcements, Transfer}
use Rattle.proof_engine_view.specs.UnderWay.{AreTaken, AreUnderWay, IsCollectionOf}
use Rattle.proof_engine_steps.specs.Steps.{CollectsOnce}
use Rattle.proof_engine_steps.proofs.DueData.{collecting_there}
use Rattle.proof_engine_steps.proofs.GatheredPieces.{IsPieceOf, last_under_way, more_under_way, piece_there}
use Rattle.proof_engine_steps.proofs.GatheredPieces.{whole_alike, with_it}
use Rattle.proof_engine_steps.proofs.NamedRequests.{blocked_stays, named_set}
use Rattle.proof_engine_steps.proofs.RowLemmas.{job_at, set_jobs}
use Rattle.proof_engine_steps.proofs.UnchangedTransfers.{AreQuiet}
use Rattle.proof_engine_steps.proofs.Tables.{Says, changed_table, held_at, says_some, set_is_set}
use Rattle.proof_engine_steps.proofs.FrameArrivals.{HoldBoth, PiecesAreTaken}
use Rattle.proof_engine_steps.proofs.TakenRows.{posted_still}
use Rattle.proof_engine_steps.proofs.UnderWay.{keeps_set, row_of, taken_changed, taken_same}
use Rattle.proof_engine_steps.proofs.BlockedRanks.{Holding}

-- ---- THE CORE

-- the core once the job with this serial is this one
abbrev core_with : Core → (serial : ℕ) → Job → Core
core_with core serial job = with_jobs core (slice_set core.jobs serial job)

-- a receive that has these values takes the next ones
next_taken : (core : Core) (k : ℕ) (p : Receive) (h : Held) (got values : List ℕ) →
    collected core (length got) values (Some (k, Collecting p h got)) ≡ core_with core k (with_more p h (got ++ values))
next_taken core k p h got values =
    ap (λ (b : Bool). if b then core_with core k (with_more p h (got ++ values)) else core)
    (eq-eqb (length got) (length got) refl)

-- the receive that collects takes the piece, and no other does
core_gathers : (from : Endpoint → List Transfer) (known : List ℕ) (rows : List Row) (cs : List rendezvous.Collecting)
    (s : Endpoint) (t : DataText) (frame : Frame) (x : IsPieceOf from known rows cs s t frame) (core : Core) →
    core.jobs ≡ jobs_of rows → CollectsOnce core →
    came core s frame ≡
    effect (core_with core x.stands.serial (with_more x.stands.receive x.stands.message (x.stands.got ++ x.values)))
    []
core_gathers from known rows cs s t frame x core js once =
    ap (came core s) x.frame_is
    ∙ ap (λ (c : Core). effect c []) (ap (collected core (length y.got) x.values) found ∙
    next_taken core y.serial y.receive y.message y.got x.values)
  where
    y : IsCollectionOf from known rows x.collection
    y = x.stands

    k : ℕ
    k = x.stands.transfer.serial

    job : Job
    job = Collecting x.stands.receive x.stands.message x.stands.got

    there : slice_get core.jobs x.stands.serial ≡ Some (Collecting x.stands.receive x.stands.message x.stands.got)
    there = ap (λ (ys : List Job). slice_get ys y.serial) js ∙ job_at rows y.serial x.collection.request job y.row

    collects : is_collecting s k job ≡ true
    collects =
        and_from (is_same y.message.sender s) (is_part k y.message.body)
        (subst (λ (e : Endpoint). is_same e s ≡ true) (sym x.sender) (same_refl s))
        (ap (is_part k) y.body ∙ eq-eqb k k refl)

    found : collecting s k core.jobs ≡ Some (x.stands.serial, Collecting x.stands.receive x.stands.message x.stands.got)
    found = collecting_there s k core.jobs y.serial job there collects
        (λ j z at c. once s k y.serial j job z there collects at c)

-- ---- THE RANK

-- what is left of the transfers, by whether the piece is the last
abbrev left_by : Bool → transfers.State → (place : ℕ) → rendezvous.Collecting → transfers.State
left_by true t place c = record t { collections = remove t.collections place }
left_by false t place c = record t { collections = slice_set t.collections place c }

-- what is handed out
abbrev given_by : Bool → rendezvous.Collecting → Option Collected
given_by true c = Some (collected_of c)
given_by false c = None

-- the rank once the piece is there
abbrev rank_with : Bool → CoreState → (place : ℕ) → rendezvous.Collecting → CoreState
rank_with b e place c =
    record e { slots = delivered_by e.slots (given_by b c); transfers = left_by b e.transfers place c }

put_is : (b : Bool) (t : transfers.State) (place : ℕ) (c : rendezvous.Collecting) → is_whole c ≡ b →
    record t { collections = put_back t.collections place c } ≡ left_by b t place c
put_is true t place c h =
    ap (λ (w : Bool). record t {
      collections = if w then remove t.collections place else
          slice_set t.collections place c;
    }) h
put_is false t place c h =
    ap (λ (w : Bool). record t {
      collections = if w then remove t.collections place else
          slice_set t.collections place c;
    }) h

handed_is : (b : Bool) (c : rendezvous.Collecting) → is_whole c ≡ b → handed_out c ≡ given_by b c
handed_is true c h = ap (λ (w : Bool). if w then Some (collected_of c) else None) h
handed_is false c h = ap (λ (w : Bool). if w then Some (collected_of c) else None) h

-- the piece makes this of the rank
rank_gathers : (e : CoreState) (from : Endpoint → List Transfer) (known : List ℕ) (rows : List Row) (s : Endpoint)
    (t : DataText) (frame : Frame) (x : IsPieceOf from known rows e.transfers.collections s t frame) (b : Bool) →
    is_whole (with_it x.collection t) ≡ b → after_piece e s.rank t.transfer t.bytes ≡
    rank_with b e x.place (with_it x.collection t)
rank_gathers e from known rows s t frame x b whole =
    ap₂ (λ (o : Option Collected) (r : transfers.State). record e { slots = delivered_by e.slots o; transfers = r })
    (ap (λ (o : Option ℕ). given_at cs o t.bytes) x.found ∙
    (ap (λ (c : rendezvous.Collecting). handed_out (with_it c t)) here ∙
    handed_is b (with_it x.collection t) whole))
    (ap (λ (o : Option ℕ). record e.transfers { collections = with_data_at cs o t.bytes }) x.found
    ∙ (ap (λ (c : rendezvous.Collecting). record e.transfers { collections = put_back cs x.place (with_it c t) }) here ∙
    put_is b e.transfers x.place (with_it x.collection t) whole))
  where
    cs : List rendezvous.Collecting
    cs = e.transfers.collections

    here : slice_index_or e.transfers.collections x.place blank ≡ x.collection
    here = get_or_from_slice_get cs x.place x.collection blank x.there

-- ---- A REQUEST THAT CHANGES AND ISN'T POSTED

-- what its entry says, once that fits its job
entry_says : (t : TableEntry) (k : ℕ) (j : Job) → t.serial ≡ k → Fits t.progress j → Says (Some t) k j
entry_says t k j e f = subst (λ (n : ℕ). Says (Some t) n j) e (says_some t.serial t.progress j f)

-- both hold it
changed_both : (links : Announcements) (e : CoreState) (known : List ℕ) (core : Core) (rows : List Row)
    (slots : List (Option TableEntry)) (t : transfers.State) (k key : ℕ) (job job' : Job) →
    Holding links e known core rows →
    slice_get rows k ≡ Some (row_of key job) → posted_job key job ≡ [] → posted_job key job' ≡ [] →
    IsTable slots (slice_set rows k (row_of key job')) →
    AreUnderWay links known e.place (slice_set rows k (row_of key job')) t e.queues.unexpected →
    AreTaken links.from known e.place (slice_set rows k (row_of key job')) slots →
    Holding links (record e { slots = slots; transfers = t }) known (core_with core k job')
    (slice_set rows k (row_of key job'))
changed_both links e known core rows slots t k key job job' h at a b table under_way taken =
    record {
      jobs = ap (λ (js : List Job). slice_set js k job') h.jobs ∙ sym (set_jobs rows k key job');
      count = length-set rows k (row_of key job') ∙ h.count;
      table = table;
      posted = h.posted ∙ posted_still rows k key job job' at a b;
      held = h.held;
      under_way = under_way;
      taken = taken;
      knowing = h.knowing;
    }

-- ---- ONE MORE PIECE

-- how far the request is says nothing of the values that it has
fits_more : (g : RequestProgress) (p : Receive) (h : Held) (got more : List ℕ) → Fits g (Collecting p h got) →
    Fits g (Collecting p h more)
fits_more (Receiving r) p h got more f = absurd f
fits_more (progresses.Collecting w) p h got more f = f
fits_more progresses.Offering p h got more f = absurd f
fits_more (progresses.TakenOut taken) p h got more f = absurd f
fits_more (Finished o) p h got more f = absurd f

-- so its slot stays
more_table : (slots : List (Option TableEntry)) (rows : List Row) (k key : ℕ) (p : Receive) (h : Held)
    (got more : List ℕ) → IsTable slots rows → slice_get rows k ≡ Some (row_of key (Collecting p h got)) →
    IsTable slots (slice_set rows k (row_of key (Collecting p h more)))
more_table slots rows k key p h got more table at =
    changed_table slots slots rows k key (Collecting p h got) (Collecting p h more) (Some mine.entry) table at (λ z. cc)
    (record { changed = mine.there; others = λ other n. refl })
    (entry_says mine.entry k (Collecting p h more) mine.serial_is
    (fits_more mine.entry.progress p h got more mine.fits))
  where
    mine : Holds (slot_at slots key) k (Collecting p h got)
    mine = held_at slots rows k key (Collecting p h got) table at (λ z. cc)

-- ---- THE LAST PIECE

-- the receive ends with the elements as its core's does
delivered_fits : OutcomesAgree → (g : RequestProgress) (p : Receive) (h : Held) (got : List ℕ) (c : Contents) →
    Fits g (Collecting p h got) → c.basic ≡ h.basic → length c.values ≡ count_of h.body →
    Fits (progress_on_delivery g c) (Over (machine.outcome p (full h c.values)))
delivered_fits agree (Receiving r) p h got c f basic count = absurd f
delivered_fits agree (progresses.Collecting w) p h got c f basic count =
    ap (λ (b : BasicType). machine.outcome p
    (record { sender = h.sender; context = h.context; tag = h.tag; basic = b; values = c.values; request = None }))
    (sym basic)
    ∙ (agree (λ e. []) p m c refl
    ∙ ap₂ (λ (y : Handed) (s : Status). outcome_seen (outcome_of y s c)) f.into
    (ap (λ (n : ℕ). machine.status_by p h.sender.rank h.tag n) count ∙ sym f.status))
  where
    m : Message
    m = record { sender = h.sender; context = h.context; tag = h.tag; body = bodies.Whole c }
delivered_fits agree progresses.Offering p h got c f basic count = absurd f
delivered_fits agree (progresses.TakenOut taken) p h got c f basic count = absurd f
delivered_fits agree (Finished o) p h got c f basic count = absurd f

-- in its slot too
last_table : OutcomesAgree →
    (slots : List (Option TableEntry)) (rows : List Row) (k key : ℕ) (p : Receive) (h : Held) (got : List ℕ)
    (c : Contents) → IsTable slots rows → slice_get rows k ≡ Some (row_of key (Collecting p h got)) →
    c.basic ≡ h.basic → length c.values ≡ count_of h.body →
    IsTable (after_delivery slots key c)
    (slice_set rows k (row_of key (Over (machine.outcome p (full h c.values)))))
last_table agree slots rows k key p h got c table at basic count =
    subst (λ (t : List (Option TableEntry)). IsTable t (slice_set rows k (row_of key over))) (sym written)
    (changed_table slots (slice_set slots key (Some after)) rows k key (Collecting p h got) over (Some after) table at
    (λ z. cc) (set_is_set slots key mine.entry (Some after) mine.there)
    (entry_says after k over mine.serial_is (delivered_fits agree mine.entry.progress p h got c mine.fits basic count)))
  where
    over : Job
    over = Over (machine.outcome p (full h c.values))

    mine : Holds (slot_at slots key) k (Collecting p h got)
    mine = held_at slots rows k key (Collecting p h got) table at (λ z. cc)

    after : TableEntry
    after = record mine.entry { progress = progress_on_delivery mine.entry.progress c }

    written : after_delivery slots key c ≡ slice_set slots key (Some after)
    written = ap (λ (o : Option TableEntry). slot_delivered o slots key c) mine.there

-- and it is no message that was taken out, neither before nor after
last_taken : OutcomesAgree →
    (from : Endpoint → List Transfer) (known : List ℕ) (place : Place) (slots : List (Option TableEntry))
    (rows : List Row) (k key : ℕ) (p : Receive) (h : Held) (got : List ℕ) (c : Contents) → IsTable slots rows →
    slice_get rows k ≡ Some (row_of key (Collecting p h got)) → c.basic ≡ h.basic → length c.values ≡ count_of h.body →
    AreTaken from known place rows slots →
    AreTaken from known place (slice_set rows k (row_of key (Over (machine.outcome p (full h c.values)))))
    (after_delivery slots key c)
last_taken agree from known place slots rows k key p h got c table at basic count taken =
    subst (λ (t : List (Option TableEntry)). AreTaken from known place (slice_set rows k (row_of key over)) t)
    (sym written)
    (taken_changed from known place rows slots (slice_set slots key (Some after)) k key (Collecting p h got) over after
    taken at (λ i. i) (set_is_set slots key mine.entry (Some after) mine.there)
    (delivered_fits agree mine.entry.progress p h got c mine.fits basic count) tt)
  where
    over : Job
    over = Over (machine.outcome p (full h c.values))

    mine : Holds (slot_at slots key) k (Collecting p h got)
    mine = held_at slots rows k key (Collecting p h got) table at (λ z. cc)

    after : TableEntry
    after = record mine.entry { progress = progress_on_delivery mine.entry.progress c }

    written : after_delivery slots key c ≡ slice_set slots key (Some after)
    written = ap (λ (o : Option TableEntry). slot_delivered o slots key c) mine.there

-- what is handed out are the values that the core has
handed_values : (from : Endpoint → List Transfer) (known : List ℕ) (rows : List Row) (cs : List rendezvous.Collecting)
    (s : Endpoint) (t : DataText) (frame : Frame) (x : IsPieceOf from known rows cs s t frame) →
    (collected_of (with_it x.collection t)).elements ≡
    record { basic = x.collection.basic; values = x.stands.got ++ x.values }
handed_values from known rows cs s t frame x =
    ap (λ (vs : List ℕ). record { basic = x.collection.basic; values = vs })
    (ap (λ (b : BasicType). values_of (size_of b) (x.collection.bytes ++ t.bytes)) x.stands.basic_is
    ∙ (ap (values_of size) x.bytes ∙
    values_of-bytes_of size (x.stands.got ++ x.values) (sizes x.stands.transfer.basic).positive x.within))
  where
    size : ℕ
    size = size_of x.stands.transfer.basic

-- ---- BOTH

-- the request once the piece is there, by whether that is the last
abbrev job_by : Bool → Receive → Held → List ℕ → Job
job_by true p h got = Over (machine.outcome p (full h got))
job_by false p h got = Collecting p h got

more_is : (b : Bool) (p : Receive) (h : Held) (got : List ℕ) → (length got == count_of h.body) ≡ b →
    with_more p h got ≡ job_by b p h got
more_is true p h got e = ap (λ (w : Bool). if w then Over (machine.outcome p (full h got)) else Collecting p h got) e
more_is false p h got e = ap (λ (w : Bool). if w then Over (machine.outcome p (full h got)) else Collecting p h got) e

-- both hold the same then
gathered : OutcomesAgree →
    (links : Announcements) (e : CoreState) (known : List ℕ) (core : Core) (s : Endpoint) (t : DataText) (frame : Frame)
    (h : HoldBoth links e known core) (x : IsPieceOf links.from known h.rows e.transfers.collections s t frame)
    (b : Bool) → (length (x.stands.got ++ x.values) == count_of x.stands.message.body) ≡ b →
    HoldBoth links (rank_with b e x.place (with_it x.collection t)) known
    (core_with core x.stands.serial (job_by b x.stands.receive x.stands.message (x.stands.got ++ x.values)))
gathered agree links e known core s t frame h x false whole =
    record {
      rows = slice_set h.rows y.serial (row_of key (Collecting y.receive y.message (y.got ++ x.values)));
      holding =
          changed_both links e known core h.rows e.slots (left_by false e.transfers x.place (with_it x.collection t))
          y.serial key (Collecting y.receive y.message y.got) (Collecting y.receive y.message (y.got ++ x.values))
          h.holding
          y.row refl refl
          (more_table e.slots h.rows y.serial key y.receive y.message y.got (y.got ++ x.values) h.holding.table
          y.row)
          (more_under_way links known e.place h.rows e.transfers e.queues.unexpected s t frame x h.holding.under_way)
          (taken_same links.from known e.place h.rows
          (slice_set h.rows y.serial (row_of key (Collecting y.receive y.message (y.got ++ x.values)))) e.slots
          (keeps_set h.rows y.serial key (Collecting y.receive y.message y.got)
          (Collecting y.receive y.message (y.got ++ x.values)) y.row (λ i. i)) h.holding.taken);
      awaited =
          blocked_stays h.rows
          (slice_set h.rows y.serial (row_of key (Collecting y.receive y.message (y.got ++ x.values)))) e.blocked
          core.blocked core.blocked h.awaited refl
          (named_set h.rows y.serial key (Collecting y.receive y.message y.got)
          (Collecting y.receive y.message (y.got ++ x.values)) y.row (λ z. cc));
    }
  where
    y : IsCollectionOf links.from known h.rows x.collection
    y = x.stands

    key : ℕ
    key = x.collection.request
gathered agree links e known core s t frame h x true whole =
    record {
      rows = slice_set h.rows y.serial (row_of key over);
      holding =
          changed_both links e known core h.rows
          (after_delivery e.slots key (collected_of (with_it x.collection t)).elements)
          (left_by true e.transfers x.place (with_it x.collection t)) y.serial key
          (Collecting y.receive y.message y.got) over h.holding y.row refl refl table
          (last_under_way links known e.place e.slots h.rows e.transfers e.queues.unexpected s t frame x
          (machine.outcome y.receive (full y.message (y.got ++ x.values))) h.holding.table h.holding.under_way)
          taken;
      awaited =
          blocked_stays h.rows (slice_set h.rows y.serial (row_of key over)) e.blocked core.blocked core.blocked
          h.awaited refl (named_set h.rows y.serial key (Collecting y.receive y.message y.got) over y.row (λ z. cc));
    }
  where
    y : IsCollectionOf links.from known h.rows x.collection
    y = x.stands

    key : ℕ
    key = x.collection.request

    over : Job
    over = Over (machine.outcome x.stands.receive (full x.stands.message (x.stands.got ++ x.values)))

    elements : Contents
    elements = record { basic = x.collection.basic; values = x.stands.got ++ x.values }

    table : IsTable (after_delivery e.slots x.collection.request (collected_of (with_it x.collection t)).elements)
        (slice_set h.rows x.stands.serial (row_of x.collection.request over))
    table = subst
        (λ (c : Contents). IsTable (after_delivery e.slots key c) (slice_set h.rows y.serial (row_of key over)))
        (sym (handed_values links.from known h.rows e.transfers.collections s t frame x))
        (last_table agree e.slots h.rows y.serial key y.receive y.message y.got elements h.holding.table y.row
        (y.basic_is ∙ sym y.basic) (eqb-true (length (y.got ++ x.values)) (count_of y.message.body) whole))

    taken : AreTaken links.from known e.place (slice_set h.rows x.stands.serial (row_of x.collection.request over))
        (after_delivery e.slots x.collection.request (collected_of (with_it x.collection t)).elements)
    taken = subst (λ (c : Contents). AreTaken links.from known e.place (slice_set h.rows y.serial (row_of key over))
        (after_delivery e.slots key c))
        (sym (handed_values links.from known h.rows e.transfers.collections s t frame x))
        (last_taken agree links.from known e.place e.slots h.rows y.serial key y.receive y.message y.got elements
        h.holding.table y.row (y.basic_is ∙ sym y.basic)
        (eqb-true (length (y.got ++ x.values)) (count_of y.message.body) whole) h.holding.taken)

-- a piece that is taken is due
due_is : (b : Bool) → bad_unless b ≡ None → b ≡ true
due_is true h = refl
due_is false h = absurd cc

-- each piece of data is taken by both
pub pieces_are_taken : OutcomesAgree → PiecesAreTaken
pieces_are_taken agree links e known core s t frame m =
    record {
      both = subst (λ (c : Core). HoldBoth links (after_piece e s.rank t.transfer t.bytes) known c)
          (sym (ap (λ (f : Effect). f.core) core_is))
          (subst (λ (c : CoreState). HoldBoth links c known
          (core_with core x.stands.serial (with_more x.stands.receive x.stands.message got))) (sym rank_is)
          (subst (λ (j : Job). HoldBoth links (rank_with whole e x.place (with_it x.collection t)) known
          (core_with core x.stands.serial j)) (sym (more_is whole x.stands.receive x.stands.message got refl))
          (gathered agree links e known core s t frame m.both x whole refl)));
      place = refl;
      completion = refl;
      quiet = subst (λ (f : Effect). AreQuiet f.out) (sym core_is) tt;
      sends = subst (λ (f : Effect). AreSent links [] f.out) (sym core_is) tt;
      leaves = tt;
    }
  where
    x : IsPieceOf links.from known m.both.rows e.transfers.collections s t frame
    x = piece_there links.from known m.both.rows e.transfers.collections s t frame
        (due_is (is_due e.transfers.collections s.rank t.transfer t.offset t.bytes) m.taken)
        m.both.holding.under_way.collections m.sender m.stands

    got : List ℕ
    got = x.stands.got ++ x.values

    whole : Bool
    whole = length got == count_of x.stands.message.body

    core_is : came core s frame ≡
        effect (core_with core x.stands.serial (with_more x.stands.receive x.stands.message got)) []
    core_is =
        core_gathers links.from known m.both.rows e.transfers.collections s t frame x core m.both.holding.jobs m.once

    rank_is : after_piece e s.rank t.transfer t.bytes ≡ rank_with whole e x.place (with_it x.collection t)
    rank_is =
        rank_gathers e links.from known m.both.rows s t frame x whole
        (whole_alike links.from known m.both.rows e.transfers.collections s t frame x)
