-- What an engine does with a probe, and with a message that was taken out, is steps of the machine on what has arrived.
use Rattle.std.proofs.Common.{◌≡◌, ℕ, zero, suc, ◌<◌, Bool, true, false, List, [], ◌∷◌, ◌++◌, map}
use Rattle.std.proofs.Common.{length, Option, Some, None, if◌then◌else◌, ◌==◌, slice_get, slice_set, filter}
use Rattle.std.proofs.Common.{option_map, refl, sym, ap, ap₂, ◌∙◌, subst, arith}
use Rattle.std.specs.List.{AllByRecursion}
use Rattle.std.proofs.lemmas.Bool.{eqb-true, and_parts}
use Rattle.std.proofs.lemmas.List.{set-set, map-append, map-set, length-map}
use Rattle.std.proofs.lemmas.Option.{same_Some, slice_get-map}
use Rattle.vocabulary.specs.Endpoints.{is_same}
use Rattle.perfect_queues.specs.Buffers.{Handed}
use Rattle.perfect_queues.specs.Calls.{after_mrecv, probe_begun, search_begun}
use Rattle.perfect_queues.specs.Completions.{Looks, Saw, Searches, Took}
use Rattle.perfect_queues.specs.Messages.{Message}
use Rattle.perfect_queues.specs.Outcomes.{Outcome, Replaced, outcome, status_by, status_of}
use Rattle.perfect_queues.specs.Receives.{Probe, Receive, accepts, such_receive}
use Rattle.perfect_queues.specs.Requests.{Finished, Matched, Posted, Request, TakenOut, changed, received_into}
use Rattle.perfect_queues.specs.State.{Local}
use Rattle.perfect_queues.specs.Steps.{Finish, MayFind, See}
use Rattle.perfect_queues.specs.Steps.{TakeOut, after_steps}
use Rattle.vocabulary.specs.declared.endpoint.Endpoint.{Endpoint}
use Rattle.vocabulary.specs.declared.envelope.Source.{Source}
use Rattle.vocabulary.specs.declared.envelope.Source.TheVariants.{Any, Null, Rank}
use Rattle.vocabulary.specs.declared.envelope.Status.{Status}
use Rattle.perfect_queues.proofs.EndpointLemmas.{same_eq}
use Rattle.proof_pure_network.specs.Core.{Core, NoneFits, is_of, view, with_jobs}
use Rattle.proof_pure_network.specs.Frames.{Values}
use Rattle.proof_pure_network.specs.WaitingMessages.{
  Body,
  Held,
  Own,
  Part,
  Whole,
  body_request,
  body_values,
  count_of,
  fill,
  fits,
}
use Rattle.proof_pure_network.specs.WaitingMessages.{full, is_part}
use Rattle.proof_pure_network.specs.Jobs.{Closed, Collecting, Job, Offering, Over, Probed, Unmatched, Waiting}
use Rattle.proof_pure_network.specs.Jobs.{collecting, is_collecting, matched_job}
use Rattle.proof_pure_network.specs.Jobs.{request_of, with_more}
use Rattle.proof_pure_network.specs.Matches.{awaits, found, found_status, looked_at, looks}
use Rattle.proof_pure_network.specs.Matches.{receive_for, searched_at}
use Rattle.proof_pure_network.specs.Matches.{searches, taken_at}
use Rattle.proof_pure_network.specs.Transfers.{collected}
use Rattle.proof_pure_network.proofs.Counts.{OwnCore}
use Rattle.proof_pure_network.proofs.Counts.{taken_some}
use Rattle.proof_pure_network.proofs.HonestJobs.{honest_set, matched_honest}
use Rattle.proof_pure_network.proofs.HonestValues.{Begin, HonestJobs, IsHonestHeld, IsInParts, IsPiece}
use Rattle.proof_pure_network.proofs.HonestValues.{all_there, begin_more}
use Rattle.proof_pure_network.proofs.JobLemmas.{All_filter, All_right, get_set_same, posted_job}
use Rattle.proof_pure_network.proofs.JobLemmas.{request_at}
use Rattle.proof_pure_network.proofs.Oldest.{First, some_found}
use Rattle.proof_pure_network.proofs.EngineSteps.{Steps, same_local, none_steps, finish_steps, none_fit_map}
use Rattle.proof_pure_network.proofs.EngineSteps.{found_last, less_here, stands_here}

-- PROBES

-- what was found is what a probe may find
found_may : (V : Values) (core : Core) (l : Local) (q : Probe) (t : List Held × Held × List Held) →
    l.requests ≡ map (request_of V) core.jobs →
    ((s : Endpoint) (c : ℕ) → l.queue s c ≡ (view V core).queue s c) → NoneFits core →
    First (such_receive q) core.held t →
    MayFind l q (filter (is_of t.1.sender t.1.context) (map (fill V) t.0)) (fill V t.1)
    (filter (is_of t.1.sender t.1.context) (map (fill V) t.2))
found_may V core l q t rs qs quiet f =
    record {
      stands = qs t.1.sender t.1.context ∙ stands_here V t.0 t.2 t.1 core.held f.parts;
      accepted = f.accepted;
      no_receive = λ j p h. none j p (subst (λ (xs : List Request). slice_get xs j ≡ Some (Posted p)) rs h);
      no_earlier_message =
          All_filter (λ b. accepts (such_receive q) b ≡ false) (is_of t.1.sender t.1.context) (map (fill V) t.0)
          (none_fit_map V (such_receive q) t.0 f.earlier);
    }
  where
    none : (j : ℕ) (p : Receive) → slice_get (map (request_of V) core.jobs) j ≡ Some (Posted p) → fits p t.1 ≡ false
    none j p h =
        let a : AllByRecursion (λ b. fits p b ≡ false) core.held = quiet j p (posted_job V core.jobs j p h) in
        let b : AllByRecursion (λ b. fits p b ≡ false) (t.0 ++ t.1 ∷ t.2) = subst (λ (ms : List Held). AllByRecursion (λ b. fits p b ≡ false) ms) f.parts a in
        (All_right (λ b. fits p b ≡ false) t.0 (t.1 ∷ t.2) b).0

-- its status is that of the message
found_is : (V : Values) (q : Probe) (h : Held) → IsHonestHeld V h →
    found_status q h ≡ status_of (such_receive q) (fill V h)
found_is V q h counted = ap (λ (n : ℕ). status_by (such_receive q) h.sender.rank h.tag n) counted

one_held : (V : Values) (q : Receive) (core : Core) (t : List Held × Held × List Held) → First q core.held t →
    AllByRecursion (IsHonestHeld V) core.held → IsHonestHeld V t.1
one_held V q core t f honest =
    (All_right (IsHonestHeld V) t.0 (t.1 ∷ t.2)
    (subst (λ (hs : List Held). AllByRecursion (IsHonestHeld V) hs) f.parts honest)).0

looked_steps : (V : Values) (e : Endpoint) (core : Core) (q : Probe) → AllByRecursion (IsHonestHeld V) core.held →
    NoneFits core →
    Steps e (record (view V core) { blocked = Some (Looks q) })
    (view V (looked_at core q (found (such_receive q) core.held)))
looked_steps V e core q honest quiet = go (found (such_receive q) core.held) refl
  where
    from : Local
    from = record (view V core) { blocked = Some (Looks q) }

    go : (o : Option (List Held × Held × List Held)) → found (such_receive q) core.held ≡ o →
        Steps e from (view V (looked_at core q o))
    go None x = none_steps e from (view V (looked_at core q None)) refl
    go (Some t) x =
        let f : First (such_receive q) core.held t = some_found (such_receive q) core.held t x in
        let a : List Message = filter (is_of t.1.sender t.1.context) (map (fill V) t.0) in
        let b : List Message = filter (is_of t.1.sender t.1.context) (map (fill V) t.2) in
        record {
          steps = See q a (fill V t.1) b ∷ [];
          allowed = ((refl, found_may V core from q t refl (λ s c. refl) quiet f), tt);
          own = (tt, tt);
          reach = same_local (view V (looked_at core q (Some t))) (after_steps from (See q a (fill V t.1) b ∷ [])) refl
              (ap (λ (s : Status). Some (Saw s)) (found_is V q t.1 (one_held V (such_receive q) core t f honest)))
              (refl, refl)
              (λ s c. refl);
        }

pub look_steps : (V : Values) (e : Endpoint) (core : Core) (q : Probe) (src : Source) →
    AllByRecursion (IsHonestHeld V) core.held → NoneFits core →
    Steps e (record (view V core) { blocked = Some (probe_begun src q) }) (view V (looks core q src))
look_steps V e core q Null honest quiet =
    none_steps e (record (view V core) { blocked = Some (probe_begun Null q) }) (view V (looks core q Null)) refl
look_steps V e core q Any honest quiet = looked_steps V e core q honest quiet
look_steps V e core q (Rank r) honest quiet = looked_steps V e core q honest quiet

searched_steps : (V : Values) (e : Endpoint) (core : Core) (q : Probe) → AllByRecursion (IsHonestHeld V) core.held →
    NoneFits core →
    Steps e (record (view V core) { blocked = Some (Searches q) })
    (view V (searched_at core q (found (such_receive q) core.held)))
searched_steps V e core q honest quiet = go (found (such_receive q) core.held) refl
  where
    from : Local
    from = record (view V core) { blocked = Some (Searches q) }

    go : (o : Option (List Held × Held × List Held)) → found (such_receive q) core.held ≡ o →
        Steps e from (view V (searched_at core q o))
    go None x = none_steps e from (view V (searched_at core q None)) refl
    go (Some t) x =
        let f : First (such_receive q) core.held t = some_found (such_receive q) core.held t x in
        let a : List Message = filter (is_of t.1.sender t.1.context) (map (fill V) t.0) in
        let b : List Message = filter (is_of t.1.sender t.1.context) (map (fill V) t.2) in
        record {
          steps = TakeOut q a (fill V t.1) b ∷ [];
          allowed = ((refl, found_may V core from q t refl (λ s c. refl) quiet f), tt);
          own = (tt, tt);
          reach = same_local (view V (searched_at core q (Some t))) (after_steps from (TakeOut q a (fill V t.1) b ∷ []))
              (map-append (request_of V) core.jobs (Probed q.group (Some t.1) ∷ []))
              (ap₂ (λ (n : ℕ) (s : Status). Some (Took (Some n) s)) (sym (length-map core.jobs (request_of V)))
              (found_is V q t.1 (one_held V (such_receive q) core t f honest))) (refl, refl)
              (λ s c. less_here V t.0 t.2 t.1 core.held f.parts s c);
        }

pub search_steps : (V : Values) (e : Endpoint) (core : Core) (q : Probe) (src : Source) →
    AllByRecursion (IsHonestHeld V) core.held → NoneFits core →
    Steps e (record (view V core) { blocked = Some (search_begun src q) }) (view V (searches core q src))
search_steps V e core q Null honest quiet =
    none_steps e (record (view V core) { blocked = Some (search_begun Null q) }) (view V (searches core q Null)) refl
search_steps V e core q Any honest quiet = searched_steps V e core q honest quiet
search_steps V e core q (Rank r) honest quiet = searched_steps V e core q honest quiet

-- THE RECEIVE OF A MESSAGE THAT WAS TAKEN OUT

-- a request that this changes is set so
changed_at : (f : Request → Request) (rs : List Request) (k : ℕ) (x : Request) → slice_get rs k ≡ Some x →
    changed f rs k ≡ slice_set rs k (f x)
changed_at f [] k x h = absurd (grind arith)
changed_at f (y ∷ ys) zero x h = let e : y ≡ x = grind arith in ap (λ z. f z ∷ ys) e
changed_at f (y ∷ ys) (suc k) x h = ap (λ (zs : List Request). y ∷ zs) (changed_at f ys k x h)

-- and one that it leaves stays
changed_not : (f : Request → Request) (rs : List Request) (k : ℕ) →
    ((x : Request) → slice_get rs k ≡ Some x → f x ≡ x) → changed f rs k ≡ rs
changed_not f [] k h = refl
changed_not f (y ∷ ys) zero h = ap (λ z. z ∷ ys) (h y refl)
changed_not f (y ∷ ys) (suc k) h = ap (λ (zs : List Request). y ∷ zs) (changed_not f ys k h)

pub taken_steps : (V : Values) (e : Endpoint) (core : Core) (k : ℕ) (into : Handed) (o : Option Job) →
    slice_get core.jobs k ≡ o → HonestJobs V e core.jobs → OwnCore e core →
    Steps e (after_mrecv (view V core) (Some k) into) (view V (taken_at core k into o).core)
taken_steps V e core k into o x jobs own = go o x
  where
    rs : List Request
    rs = map (request_of V) core.jobs

    from : Local
    from = after_mrecv (view V core) (Some k) into

    request : (j : Job) → slice_get core.jobs k ≡ Some j → slice_get rs k ≡ Some (request_of V j)
    request j h = request_at V core.jobs k j h

    still : (j : Job) → slice_get core.jobs k ≡ Some j → received_into into (request_of V j) ≡ request_of V j →
        Steps e from (view V (awaits core k))
    still j h f =
        none_steps e from (view V (awaits core k))
        (same_local (view V (awaits core k)) from
        (sym (changed_not (received_into into) rs k
        (λ y g. let same : request_of V j ≡ y = same_Some (request_of V j) y (sym (request j h) ∙ g) in subst
        (λ (z : Request). received_into into z ≡ z) same f)))
        refl (refl, refl) (λ s c. refl))

    go : (o : Option Job) → slice_get core.jobs k ≡ o → Steps e from (view V (taken_at core k into o).core)
    go None h =
        none_steps e from (view V (awaits core k))
        (same_local (view V (awaits core k)) from
        (sym (changed_not (received_into into) rs k (λ y g. absurd (let n : None ≡ Some y = sym (slice_get-map (request_of V) core.jobs k ∙ ap (λ (z : Option Job). option_map (request_of V) z) h) ∙ g in grind arith))))
        refl (refl, refl) (λ s c. refl))
    go (Some (Waiting p)) h = still (Waiting p) h refl
    go (Some (Collecting p u got)) h = still (Collecting p u got) h refl
    go (Some (Offering d basic values)) h = still (Offering d basic values) h refl
    go (Some (Over u)) h = still (Over u) h refl
    go (Some Closed) h = still Closed h refl
    go (Some (Unmatched d)) h = still (Unmatched d) h refl
    go (Some (Probed g None)) h =
        none_steps e from (view V (taken_at core k into (Some (Probed g None))).core)
        (same_local (view V (taken_at core k into (Some (Probed g None))).core) from
        (map-set (request_of V) core.jobs k (Over (Replaced (Some into.buffer))) ∙
        sym (changed_at (received_into into) rs k (TakenOut g None) (request (Probed g None) h)))
        refl (refl, refl) (λ s c. refl))
    go (Some (Probed g (Some u))) h =
        finish_steps V e from k p u u.body (slice_set core.jobs k (matched_job p u u.body))
        (taken_at core k into (Some (Probed g (Some u)))).core counted
        (honest_set V e core.jobs k (matched_job p u u.body) (matched_honest V e k p u u.body counted) jobs)
        (found_last e core (taken_at core k into (Some (Probed g (Some u)))).core u u.body own
        (λ f. taken_some f core k into g u h))
        (ap (λ (xs : List Request). slice_get xs k) matched ∙
        get_set_same rs k (TakenOut g (Some (fill V u))) (Matched p (fill V u)) (request (Probed g (Some u)) h))
        (map-set (request_of V) core.jobs k (matched_job p u u.body) ∙
        (sym (set-set rs k (Matched p (fill V u)) (request_of V (matched_job p u u.body))) ∙
        ap (λ (xs : List Request). slice_set xs k (request_of V (matched_job p u u.body))) (sym matched)))
        refl refl (refl, refl) (λ s c. refl)
      where
        p : Receive
        p = receive_for g u into

        counted : IsHonestHeld V u
        counted = jobs k (Probed g (Some u)) h

        matched : changed (received_into into) rs k ≡ slice_set rs k (Matched p (fill V u))
        matched = changed_at (received_into into) rs k (TakenOut g (Some (fill V u))) (request (Probed g (Some u)) h)

-- the receive that collects the data of a transfer
pub record Collects (s : Endpoint) (k : ℕ) (js : List Job) (t : ℕ × Job) : Type 0 where
  pub stands : slice_get js t.0 ≡ Some t.1
  pub collects : is_collecting s k t.1 ≡ true

pub is_part_of : (k : ℕ) (b : Body) → is_part k b ≡ true → body_request b ≡ Some k
is_part_of k (Whole values) h = absurd (grind arith)
is_part_of k (Own j values) h = absurd (grind arith)
is_part_of k (Part j n) h = ap Some (sym (eqb-true k j h))

pub part_values : (V : Values) (s : Endpoint) (k : ℕ) (b : Body) → is_part k b ≡ true → body_values V s b ≡ V s k
part_values V s k (Whole values) h = absurd (grind arith)
part_values V s k (Own j values) h = absurd (grind arith)
part_values V s k (Part j n) h = ap (V s) (sym (eqb-true k j h))

pub collecting_parts : (s : Endpoint) (k : ℕ) (p : Receive) (h : Held) (got : List ℕ) →
    is_collecting s k (Collecting p h got) ≡ true → (h.sender ≡ s) × (is_part k h.body ≡ true)
collecting_parts s k p h got e =
    let q = and_parts (is_same h.sender s) (is_part k h.body) e in (same_eq h.sender s q.0, q.1)

pub some_collecting : (s : Endpoint) (k : ℕ) (js : List Job) (t : ℕ × Job) → collecting s k js ≡ Some t →
    Collects s k js t
some_collecting s k [] t h = absurd (grind arith)
some_collecting s k (r ∷ rs) t h =
    go (is_collecting s k r) refl (collecting s k rs) refl (λ v e. some_collecting s k rs v e)
  where
    go : (b : Bool) → is_collecting s k r ≡ b → (u : Option (ℕ × Job)) → collecting s k rs ≡ u →
        ((v : ℕ × Job) → collecting s k rs ≡ Some v → Collects s k rs v) → Collects s k (r ∷ rs) t
    go true a u b ih =
        let n : Some (0, r) ≡ Some t = rw a at h in
        subst (λ (v : ℕ × Job). Collects s k (r ∷ rs) v) (same_Some (0, r) t n) (record { stands = refl; collects = a })
    go false a None b ih = let n : None ≡ Some t = rw (a, b) at h in absurd (grind arith)
    go false a (Some v) b ih =
        let n : Some (suc v.0, v.1) ≡ Some t = rw (a, b) at h in
        let w : Collects s k rs v = ih v b in
        subst (λ (v : ℕ × Job). Collects s k (r ∷ rs) v) (same_Some (suc v.0, v.1) t n)
        (record { stands = w.stands; collects = w.collects })

pub full_outcome : (V : Values) (p : Receive) (h : Held) (got : List ℕ) → got ≡ body_values V h.sender h.body →
    outcome p (full h got) ≡ outcome p (fill V h)
full_outcome V p h got e =
    ap (λ (vs : List ℕ). outcome p
    (record { sender = h.sender; context = h.context; tag = h.tag; basic = h.basic; values = vs; request = None })) e

pub collect_steps : (V : Values) (e : Endpoint) (core : Core) (s : Endpoint) (k o : ℕ) (values : List ℕ) →
    IsPiece (V s k) o values → HonestJobs V e core.jobs →
    Steps e (view V core) (view V (collected core o values (collecting s k core.jobs)))
collect_steps V e core s k o values piece honest = go (collecting s k core.jobs) refl
  where
    still : Steps e (view V core) (view V core)
    still = none_steps e (view V core) (view V core) refl

    go : (t : Option (ℕ × Job)) → collecting s k core.jobs ≡ t →
        Steps e (view V core) (view V (collected core o values t))
    go None x = still
    go (Some (j, Waiting p)) x = still
    go (Some (j, Offering d basic vs)) x = still
    go (Some (j, Over u)) x = still
    go (Some (j, Closed)) x = still
    go (Some (j, Unmatched d0)) x = still
    go (Some (j, Probed g0 o0)) x = still
    go (Some (j, Collecting p h got)) x = at (length got == o) refl
      where
        c : Collects s k core.jobs (j, Collecting p h got)
        c = some_collecting s k core.jobs (j, Collecting p h got) x

        q : (h.sender ≡ s) × (is_part k h.body ≡ true)
        q = collecting_parts s k p h got c.collects

        hj : IsHonestHeld V h × Begin (body_values V h.sender h.body) got × IsInParts h.body ×
            (length got < count_of h.body)
        hj = honest j (Collecting p h got) c.stands

        whole : body_values V h.sender h.body ≡ V s k
        whole = part_values V h.sender k h.body q.1 ∙ ap (λ (y : Endpoint). V y k) q.0

        more : length got ≡ o → Begin (body_values V h.sender h.body) (got ++ values)
        more l = begin_more (body_values V h.sender h.body) got values o hj.1
            (subst (λ (w : List ℕ). IsPiece w o values) (sym whole) piece) l

        stands : slice_get (map (request_of V) core.jobs) j ≡ Some (Matched p (fill V h))
        stands = request_at V core.jobs j (Collecting p h got) c.stands

        last : (b : Bool) → (length (got ++ values) == count_of h.body) ≡ b → length got ≡ o →
            Steps e (view V core)
            (view V (with_jobs core
            (slice_set core.jobs j (if b then Over (outcome p (full h (got ++ values))) else
            Collecting p h (got ++ values)))))
        last true y l = record {
          steps = Finish j p (fill V h) ∷ [];
          allowed = (stands, tt);
          own = (tt, tt);
          reach = same_local
              (view V (with_jobs core (slice_set core.jobs j (Over (outcome p (full h (got ++ values)))))))
              (after_steps (view V core) (Finish j p (fill V h) ∷ []))
              (map-set (request_of V) core.jobs j (Over (outcome p (full h (got ++ values)))) ∙
              ap (λ (u : Outcome). slice_set (map (request_of V) core.jobs) j (Finished u))
              (full_outcome V p h (got ++ values)
              (all_there (body_values V h.sender h.body) (got ++ values) (more l)
              (eqb-true (length (got ++ values)) (count_of h.body) y ∙ hj.0)))) refl (refl, refl) (λ a b. refl);
        }
        last false y l =
            none_steps e (view V core)
            (view V (with_jobs core (slice_set core.jobs j (Collecting p h (got ++ values)))))
            (same_local (view V (with_jobs core (slice_set core.jobs j (Collecting p h (got ++ values))))) (view V core)
            (map-set (request_of V) core.jobs j (Collecting p h (got ++ values)) ∙
            set_here (map (request_of V) core.jobs) j (Matched p (fill V h)) stands) refl (refl, refl) (λ a b. refl))
          where
            set_here : (rs : List Request) (i : ℕ) (r : Request) → slice_get rs i ≡ Some r → slice_set rs i r ≡ rs
            set_here [] i r h = refl
            set_here (y ∷ rs) zero r h = ap (λ (z : Request). z ∷ rs) (sym (same_Some y r h))
            set_here (y ∷ rs) (suc i) r h = ap (λ (zs : List Request). y ∷ zs) (set_here rs i r h)

        at : (b : Bool) →
            (length got == o) ≡ b →
            Steps e (view V core)
            (view V (if b then with_jobs core (slice_set core.jobs j (with_more p h (got ++ values))) else core))
        at false y = still
        at true y = last (length (got ++ values) == count_of h.body) refl (eqb-true (length got) o y)
