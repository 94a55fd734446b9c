-- A send to the rank itself that waits for its match: it is over once its message was matched, and no other message
-- names it.
use Rattle.std.proofs.Common.{◌≡◌, ◌≢◌, ℕ, zero, suc, ◌+◌, ◌≤◌, Bool, true, false, List, [], ◌∷◌, ◌++◌, map, Option}
use Rattle.std.proofs.Common.{Some, None, slice_get, slice_set, refl, sym, ap, ◌∙◌, subst, arith}
use Rattle.std.specs.List.{AllByRecursion}
use Rattle.std.proofs.lemmas.Bool.{eq-eqb}
use Rattle.std.proofs.lemmas.List.{length-set}
use Rattle.std.proofs.lemmas.Option.{none-some, same_Some}
use Rattle.vocabulary.specs.declared.endpoint.Endpoint.{Endpoint}
use Rattle.incarnation.specs.declared.place.Place.{Place}
use Rattle.match_queues.specs.declared.envelope.Body.{Body}
use Rattle.match_queues.specs.declared.envelope.Body.TheVariants as bodies
use Rattle.match_queues.specs.declared.envelope.Message.{Message}
use Rattle.perfect_queues.specs.Buffers.{Handed}
use Rattle.perfect_queues.specs.Outcomes as ends
use Rattle.perfect_queues.specs.Receives.{Receive}
use Rattle.perfect_queues.specs.Requests.{changed}
use Rattle.perfect_queues.proofs.ListLemmas.{get_set_other}
use Rattle.requests.specs.Table.{after_answer, progress_on_answer, slot_answered, slot_at}
use Rattle.requests.specs.declared.outcome.Outcome.TheVariants as outcomes
use Rattle.requests.specs.declared.table.TableEntry.{TableEntry}
use Rattle.requests.specs.declared.table.RequestProgress.{RequestProgress}
use Rattle.requests.specs.declared.table.RequestProgress.TheVariants.{Finished, Receiving}
use Rattle.requests.specs.declared.table.RequestProgress.TheVariants as progresses
use Rattle.point_to_point.specs.CoreState.{CoreState}
use Rattle.proof_pure_network.proofs.Counts.{count_set, matched_taken, own_count, posted_some}
use Rattle.proof_pure_network.specs.Claims.{ClaimsOnce, claims, count, is_own, is_own_body, one, taken_is}
use Rattle.proof_pure_network.specs.Core.{Core, with_jobs}
use Rattle.proof_pure_network.specs.WaitingMessages.{Held, Own}
use Rattle.proof_pure_network.specs.WaitingMessages as held
use Rattle.proof_pure_network.specs.Jobs.{Job, Over, Probed, Unmatched, matched_job}
use Rattle.proof_pure_network.specs.Matches.{found, matched_own, own_over, receive_for}
use Rattle.proof_engine_view.specs.Rows.{Holds, IsTable, Row, body_seen, held_of, jobs_of}
use Rattle.proof_engine_view.specs.Transfers.{Announcements, Transfer}
use Rattle.proof_engine_view.specs.UnderWay.{AreTaken, IsFromLink, IsTakenAt, IsTakenBy, IsTakenIf}
use Rattle.proof_engine_steps.proofs.RowLemmas.{job_at, set_jobs}
use Rattle.proof_engine_steps.proofs.BlockedAnswers.{fits_unmatched}
use Rattle.proof_engine_steps.proofs.Tables.{changed_table, held_at, says_some, set_is_set, Says}
use Rattle.proof_engine_steps.proofs.TakenRows.{IsLarge, IsProbed, IsUnmatched, back_set, forth_set, posted_still}
use Rattle.proof_engine_steps.proofs.TakenRows.{under_way_rows}
use Rattle.proof_engine_steps.proofs.UnderWay.{row_of, taken_set}
use Rattle.proof_engine_steps.proofs.BlockedRanks.{Holding}
use Rattle.proof_engine_steps.proofs.Wholes.{at_place}

-- ---- COUNTS

-- where none passes a test, each fails it
none_counted : {A : Type 0} (t : A → Bool) (xs : List A) → count t xs ≡ 0 → AllByRecursion (λ x. t x ≡ false) xs
none_counted t [] h = tt
none_counted t (x ∷ xs) h = (go (t x) h, none_counted t xs (omega (arith, h)))
  where
    go : (b : Bool) → one b + count t xs ≡ 0 → b ≡ false
    go true e = absurd (omega (arith, e))
    go false e = refl

-- where none of a core's messages names a request, none that waits does, nor one that was taken out
waits_unclaimed : (k : ℕ) (core : Core) → claims k core ≡ 0 → AllByRecursion (λ h. is_own k h ≡ false) core.held
waits_unclaimed k core h =
    let both : count (is_own k) core.held + count (taken_is (is_own k)) core.jobs ≡ 0 = h in
    none_counted (is_own k) core.held (omega (arith, both))

taken_unclaimed : (k : ℕ) (core : Core) → claims k core ≡ 0 →
    AllByRecursion (λ j. taken_is (is_own k) j ≡ false) core.jobs
taken_unclaimed k core h =
    let both : count (is_own k) core.held + count (taken_is (is_own k)) core.jobs ≡ 0 = h in
    none_counted (taken_is (is_own k)) core.jobs (omega (arith, both))

-- a message that names a request counts
claims_one : (k : ℕ) (h : Held) (values : List ℕ) → h.body ≡ Own k values → one (is_own k h) ≡ 1
claims_one k h values e = ap (λ (b : held.Body). one (is_own_body k b)) e ∙ ap one (eq-eqb k k refl)

-- once a receive that was posted took the message that names it, none does
pub found_unclaimed : (core : Core) (p : Receive) (earlier : List Held) (h : Held) (later : List Held) (k : ℕ)
    (values : List ℕ) → found p core.held ≡ Some (earlier, h, later) → h.body ≡ Own k values → ClaimsOnce core →
    claims k (record core { jobs = core.jobs ++ matched_job p h h.body ∷ []; held = earlier ++ later }) ≡ 0
found_unclaimed core p earlier h later k values e own once =
    let after : count (is_own k) (earlier ++ later) + count (taken_is (is_own k)) (own_over h.body (core.jobs ++ matched_job p h h.body ∷ [])) + one (is_own k h) ≡ claims k core =
    posted_some (is_own k) core p (earlier, h, later) e in
    let same : count (taken_is (is_own k)) (own_over h.body (core.jobs ++ matched_job p h h.body ∷ [])) ≡ count (taken_is (is_own k)) (core.jobs ++ matched_job p h h.body ∷ []) =
    own_count (is_own k) h.body (core.jobs ++ matched_job p h h.body ∷ []) in
    omega (arith, after, same, claims_one k h values own, once k)

-- nor once the message was received that names it and was taken out
pub received_unclaimed : (core : Core) (k : ℕ) (into : Handed) (g : Option (List ℕ)) (h : Held) (j : ℕ)
    (values : List ℕ) → slice_get core.jobs k ≡ Some (Probed g (Some h)) → h.body ≡ Own j values → ClaimsOnce core →
    claims j (with_jobs core (slice_set core.jobs k (matched_job (receive_for g h into) h h.body))) ≡ 0
received_unclaimed core k into g h j values at own once =
    let after : count (taken_is (is_own j)) (slice_set core.jobs k (matched_job (receive_for g h into) h h.body)) + one (is_own j h)
    ≡ count (taken_is (is_own j)) core.jobs + one (taken_is (is_own j) (matched_job (receive_for g h into) h h.body)) =
    count_set (taken_is (is_own j)) core.jobs k (Probed g (Some h)) (matched_job (receive_for g h into) h h.body) at in
    let all : count (is_own j) core.held + count (taken_is (is_own j)) core.jobs ≤ 1 = once j in
    omega (arith, after, all, matched_taken (is_own j) (receive_for g h into) h h.body, claims_one j h values own)

-- ---- THE JOB

-- it is over
pub matched_unmatched : (js : List Job) (k : ℕ) (d : Endpoint) → slice_get js k ≡ Some (Unmatched d) →
    changed matched_own js k ≡ slice_set js k (Over ends.Sent)
matched_unmatched [] k d h = absurd (none-some (Unmatched d) h)
matched_unmatched (j ∷ js) zero d h = ap (λ (y : Job). matched_own y ∷ js) (same_Some j (Unmatched d) h)
matched_unmatched (j ∷ js) (suc k) d h = ap (λ (ys : List Job). j ∷ ys) (matched_unmatched js k d h)

-- ---- MESSAGES

-- one that doesn't name it goes on to be from its link, or of its own send
from_unclaimed : (from : Endpoint → List Transfer) (known : List ℕ) (p : Place) (rows : List Row) (k : ℕ) (new : Row)
    (m : Message) (b : Body) → is_own_body k (body_seen (from m.sender) b) ≡ false → IsFromLink from known p rows m b →
    IsFromLink from known p (slice_set rows k new) m b
from_unclaimed from known p rows k new m (bodies.Whole c) other i = tt
from_unclaimed from known p rows k new m (bodies.Own o) other i =
    record { sender = i.sender; row = get_set_other rows k o.serial new apart ∙ i.row }
  where
    apart : k ≢ o.serial
    apart e = let wrong : true ≡ false = sym (eq-eqb k o.serial e) ∙ other in absurd cc
from_unclaimed from known p rows k new m (bodies.Announced a) other i = i

-- so do all that wait
messages_unclaimed : (from : Endpoint → List Transfer) (known : List ℕ) (p : Place) (rows : List Row) (k : ℕ)
    (new : Row) (ms : List Message) → AllByRecursion (λ h. is_own k h ≡ false) (map (held_of from) ms) →
    AllByRecursion (λ (m : Message). IsFromLink from known p rows m m.body) ms →
    AllByRecursion (λ (m : Message). IsFromLink from known p (slice_set rows k new) m m.body) ms
messages_unclaimed from known p rows k new [] other all = tt
messages_unclaimed from known p rows k new (m ∷ ms) other all = (
  from_unclaimed from known p rows k new m m.body other.0 all.0,
  messages_unclaimed from known p rows k new ms other.1 all.1,
)

-- and all that were taken out
slots_unclaimed : (from : Endpoint → List Transfer) (known : List ℕ) (p : Place) (rows : List Row)
    (slots : List (Option TableEntry)) (k key : ℕ) (d : Endpoint) → slice_get rows k ≡ Some (row_of key (Unmatched d)) →
    AllByRecursion (λ j. taken_is (is_own k) j ≡ false) (jobs_of rows) → AreTaken from known p rows slots →
    AreTaken from known p (slice_set rows k (row_of key (Over ends.Sent))) slots
slots_unclaimed from known p rows slots k key d at other taken place = by_slot (slot_at slots place) (taken place)
  where
    left : List Row
    left = slice_set rows k (row_of key (Over ends.Sent))

    if_there : (serial : ℕ) (group : Option (List ℕ)) (o : Option Message) →
        IsTakenIf from known p rows serial group o → IsTakenIf from known p left serial group o
    if_there serial group None i = tt
    if_there serial group (Some m) i =
        record {
          key = i.key;
          row = forth_set IsProbed rows k key (Unmatched d) (Over ends.Sent) at (λ x. x) serial i.key
              (Probed group (Some (held_of from m))) tt i.row;
          from_link = from_unclaimed from known p rows k (row_of key (Over ends.Sent)) m m.body
              (at_place (λ j. taken_is (is_own k) j ≡ false) (jobs_of rows) serial
              (Probed group (Some (held_of from m))) other
              (job_at rows serial i.key (Probed group (Some (held_of from m))) i.row)) i.from_link;
        }

    by_progress : (serial : ℕ) (g : RequestProgress) → IsTakenBy from known p rows serial g →
        IsTakenBy from known p left serial g
    by_progress serial (Receiving w) i = tt
    by_progress serial (progresses.Collecting w) i = tt
    by_progress serial progresses.Offering i = tt
    by_progress serial (progresses.TakenOut t) i = if_there serial t.group t.message i
    by_progress serial (Finished o) i = tt

    by_slot : (o : Option TableEntry) → IsTakenAt from known p rows o → IsTakenAt from known p left o
    by_slot None i = tt
    by_slot (Some e) i = by_progress e.serial e.progress i

-- ---- BOTH

-- Once no message names it, the send is over in both
pub own_ended : (links : Announcements) (e : CoreState) (known : List ℕ) (core : Core) (rows : List Row) (k key : ℕ) →
    Holding links e known core rows → slice_get rows k ≡ Some (row_of key (Unmatched e.place.endpoint)) →
    claims k core ≡ 0 →
    Holding links (record e { slots = after_answer e.slots key }) known
    (with_jobs core (changed matched_own core.jobs k)) (slice_set rows k (row_of key (Over ends.Sent)))
own_ended links e known core rows k key h at none =
    record {
      jobs = matched_unmatched core.jobs k d job ∙
          (ap (λ (js : List Job). slice_set js k (Over ends.Sent)) h.jobs ∙ sym (set_jobs rows k key (Over ends.Sent)));
      count = length-set rows k over ∙ h.count;
      table = subst (λ (s : List (Option TableEntry)). IsTable s left) (sym written)
          (changed_table e.slots (slice_set e.slots key (Some after)) rows k key (Unmatched d) (Over ends.Sent)
          (Some after) h.table at (λ x. cc)
          (set_is_set e.slots key mine.entry (Some after) mine.there)
          (subst (λ (n : ℕ). Says (Some after) n (Over ends.Sent)) mine.serial_is
          (says_some mine.entry.serial (Finished outcomes.Sent) (Over ends.Sent) refl)));
      posted = h.posted ∙ posted_still rows k key (Unmatched d) (Over ends.Sent) at refl refl;
      held = h.held;
      under_way =
          under_way_rows links known e.place rows left e.transfers e.queues.unexpected e.queues.unexpected h.under_way
          (forth_set IsLarge rows k key (Unmatched d) (Over ends.Sent) at (λ x. x))
          (back_set IsLarge rows k key (Unmatched d) (Over ends.Sent) at (λ x. x))
          (λ n y x is. h.under_way.unmatched n y x
          (back_set IsUnmatched rows k key (Unmatched d) (Over ends.Sent) at (λ i. i) n y (Unmatched x) tt is))
          (messages_unclaimed links.from known e.place rows k over e.queues.unexpected
          (subst (AllByRecursion (λ x. is_own k x ≡ false)) h.held (waits_unclaimed k core none))
          h.under_way.messages);
      taken = subst (AreTaken links.from known e.place left) (sym written)
          (taken_set links.from known e.place left e.slots (slice_set e.slots key (Some after)) key (Some after)
          (set_is_set e.slots key mine.entry (Some after) mine.there)
          (slots_unclaimed links.from known e.place rows e.slots k key d at
          (subst (AllByRecursion (λ j. taken_is (is_own k) j ≡ false)) h.jobs (taken_unclaimed k core none))
          h.taken) tt);
      knowing = h.knowing;
    }
  where
    d : Endpoint
    d = e.place.endpoint

    over : Row
    over = row_of key (Over ends.Sent)

    left : List Row
    left = slice_set rows k over

    job : slice_get core.jobs k ≡ Some (Unmatched d)
    job = ap (λ (js : List Job). slice_get js k) h.jobs ∙ job_at rows k key (Unmatched d) at

    mine : Holds (slot_at e.slots key) k (Unmatched d)
    mine = held_at e.slots rows k key (Unmatched d) h.table at (λ x. cc)

    after : TableEntry
    after = record mine.entry { progress = Finished outcomes.Sent }

    written : after_answer e.slots key ≡ slice_set e.slots key (Some after)
    written = ap (λ (s : Option TableEntry). slot_answered s e.slots key) mine.there
        ∙ ap (λ (g : RequestProgress). slice_set e.slots key
        (Some (record mine.entry { progress = progress_on_answer g })))
        (fits_unmatched mine.entry.progress d mine.fits)
