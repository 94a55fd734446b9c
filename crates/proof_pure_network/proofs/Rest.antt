-- In a quiet network the machine is at rest.
use Rattle.std.proofs.Common.{◌≡◌, ℕ, zero, suc, ◌+◌, ◌<◌, ◌≤◌, ◌≢◌, Bool, true, false, List, [], ◌∷◌, ◌++◌, length}
use Rattle.std.proofs.Common.{drop, Option, Some, None, cond, if◌then◌else◌, ◌==◌, slice_get, get_or, map, filter, refl}
use Rattle.std.proofs.Common.{sym, ap, ◌∙◌, subst, arith, append-nil, option_map, nat_lt, ◌⊎◌, ⊎_elim, inl, inr}
use Rattle.std.specs.List.{AllByRecursion}
use Rattle.std.proofs.lemmas.Bool.{eq-eqb, eqb-true, and_parts, and_from, ltb-true, ltb-false, le-ltb}
use Rattle.std.proofs.lemmas.Option.{slice_get-map}
use Rattle.vocabulary.specs.Endpoints.{is_same}
use Rattle.perfect_queues.specs.Messages.{Message}
use Rattle.perfect_queues.specs.Quiet.{AreCurrent, IsAtRest, NothingFits, ProbesFindAll, ReceivesAreFinished}
use Rattle.perfect_queues.specs.Quiet.{SendsAreFinished}
use Rattle.perfect_queues.specs.Receives.{Receive, accepts, such_receive}
use Rattle.perfect_queues.specs.Requests.{Matched, Posted, Request, Sending, TakenOut}
use Rattle.perfect_queues.specs.Runs.{after_run}
use Rattle.perfect_queues.specs.State.{State, opening}
use Rattle.perfect_queues.specs.Steps.{IsMatched}
use Rattle.proof_pure_network.specs.Matches.{found}
use Rattle.proof_pure_network.proofs.Counts.{IsMine, IsMineBody, OwnCore, all_of, claims, is_own, is_own_body, taken_is}
use Rattle.proof_pure_network.proofs.Oldest.{none_found}
use Rattle.vocabulary.specs.declared.basic_type.BasicType.{BasicType}
use Rattle.vocabulary.specs.declared.endpoint.Endpoint.{Endpoint}
use Rattle.perfect_queues.proofs.EndpointLemmas.{same_eq, same_refl}
use Rattle.proof_pure_network.specs.Core.{is_of, view}
use Rattle.proof_pure_network.specs.Frames.{Frame, Values}
use Rattle.proof_pure_network.specs.WaitingMessages.{
  Body,
  Held,
  Own,
  Part,
  Whole,
  body_request,
  count_of,
  fill,
  is_part,
}
use Rattle.proof_pure_network.specs.Jobs.{Closed, Collecting, Job, Offering, Over, Probed, Unmatched, Waiting}
use Rattle.proof_pure_network.specs.Jobs.{is_collecting, request_of}
use Rattle.proof_pure_network.specs.Links.{in_flight}
use Rattle.proof_pure_network.specs.Network.{Happening, IsQuiet, IsRunOfMachine, Network, new_network, run}
use Rattle.proof_pure_network.proofs.EngineSteps.{none_fit_map}
use Rattle.proof_pure_network.proofs.EventInvariant.{fault_blank}
use Rattle.proof_pure_network.proofs.Flow.{GoOn, count_at, flow, is_yes, promise, yes_count}
use Rattle.proof_pure_network.proofs.FlowLaws.{Flowing}
use Rattle.proof_pure_network.proofs.HonestValues.{IsHonestJob, IsInParts}
use Rattle.proof_pure_network.proofs.Invariants.{Due, Flows, Kept, Sane, Spoken, views}
use Rattle.proof_pure_network.proofs.Joins.{Joined}
use Rattle.proof_pure_network.proofs.JobLemmas.{All_filter, posted_job}
use Rattle.proof_pure_network.proofs.Links.{among, coming}
use Rattle.proof_pure_network.proofs.Pairs.{token}
use Rattle.proof_pure_network.proofs.RunInvariant.{new_kept, run_kept}
use Rattle.proof_pure_network.proofs.Simulation.{Sim, fault_same, is_stale}
use Rattle.proof_pure_network.proofs.Tokens.{count, is_cts, is_part_from, is_rts, one, parts, same_sym}
use Rattle.vocabulary.specs.declared.message_limit.MessageLimit.{MessageLimit}

-- a request that the machine has as sending is a job that offers, or a send to the endpoint itself that waits
pub job_sending : (V : Values) (o : Option Job) (d : Endpoint) → option_map (request_of V) o ≡ Some (Sending d) →
    ((basic : BasicType) × (values : List ℕ) × (o ≡ Some (Offering d basic values))) ⊎ (o ≡ Some (Unmatched d))
job_sending V None d h = absurd (grind arith)
job_sending V (Some (Waiting p)) d h = absurd (grind arith)
job_sending V (Some (Collecting p g got)) d h = absurd (grind arith)
job_sending V (Some (Offering x basic values)) d h =
    let e : x ≡ d = grind arith in inl (basic, values, ap (λ (y : Endpoint). Some (Offering y basic values)) e)
job_sending V (Some (Over o)) d h = absurd (grind arith)
job_sending V (Some Closed) d h = absurd (grind arith)
job_sending V (Some (Unmatched x)) d h =
    let e : x ≡ d = grind arith in inr (ap (λ (y : Endpoint). Some (Unmatched y)) e)
job_sending V (Some (Probed g o)) d h = absurd (grind arith)

-- a request that the machine has as matched is a job that collects
pub job_matched : (V : Values) (o : Option Job) (p : Receive) (m : Message) →
    option_map (request_of V) o ≡ Some (Matched p m) →
    (h : Held) × (got : List ℕ) × (o ≡ Some (Collecting p h got)) × (fill V h ≡ m)
job_matched V None p m e = absurd (grind arith)
job_matched V (Some (Waiting q)) p m e = absurd (grind arith)
job_matched V (Some (Collecting q h got)) p m e =
    let a : q ≡ p = grind arith in
    let b : fill V h ≡ m = cc in
    (h, got, ap (λ (x : Receive). Some (Collecting x h got)) a, b)
job_matched V (Some (Offering x basic values)) p m e = absurd (grind arith)
job_matched V (Some (Over o)) p m e = absurd (grind arith)
job_matched V (Some Closed) p m e = absurd (grind arith)
job_matched V (Some (Unmatched d0)) p m e = absurd (grind arith)
job_matched V (Some (Probed g0 o0)) p m e = absurd (grind arith)

-- what comes in parts is of some transfer
pub transfer_of : (b : Body) → IsInParts b → (k : ℕ) × (is_part k b ≡ true)
transfer_of (Whole values) i = absurd i
transfer_of (Part k n) i = (k, eq-eqb k k refl)
transfer_of (Own k values) i = absurd i

-- what passes such a test is a message of request k of endpoint s
abbrev IsOf : Endpoint → ℕ → (Held → Bool) → Type 0
IsOf s k t = (h : Held) → t h ≡ true → (h.sender ≡ s) × (body_request h.body ≡ Some k)

part_is_of : (s : Endpoint) (k : ℕ) → IsOf s k (is_part_from s k)
part_is_of s k h t =
    let p = and_parts (is_same h.sender s) (is_part k h.body) t in (same_eq h.sender s p.0, request h.body p.1)
  where
    request : (b : Body) → is_part k b ≡ true → body_request b ≡ Some k
    request (Whole values) e = absurd (grind arith)
    request (Part j n) e = ap Some (sym (eqb-true k j e))
    request (Own j values) e = absurd (grind arith)

-- such a message that is held stands in a queue
pub held_stands : (V : Values) (s : Endpoint) (k : ℕ) (t : Held → Bool) (hs : List Held) →
    ((h : Held) → t h ≡ true → (h.sender ≡ s) × (body_request h.body ≡ Some k)) →
    ((c : ℕ) → AllByRecursion (λ m. m.request ≢ Some k) (filter (is_of s c) (map (fill V) hs))) → count t hs ≡ 0
held_stands V s k t [] is all = refl
held_stands V s k t (h ∷ hs) is all =
    go (t h) refl (held_stands V s k t hs is (λ c. rest c (is_of s c (fill V h)) (all c)))
  where
    rest : (c : ℕ) (b : Bool) →
        AllByRecursion (λ m. m.request ≢ Some k)
        (cond b (fill V h ∷ filter (is_of s c) (map (fill V) hs)) (filter (is_of s c) (map (fill V) hs))) →
        AllByRecursion (λ m. m.request ≢ Some k) (filter (is_of s c) (map (fill V) hs))
    rest c true a = a.1
    rest c false a = a

    go : (b : Bool) → t h ≡ b → count t hs ≡ 0 → one (t h) + count t hs ≡ 0
    go false e z = let o : one (t h) ≡ 0 = ap one e in omega (arith, o, z)
    go true e z =
        let p = is h e in
        let q : is_of s h.context (fill V h) ≡ true = and_from (is_same s h.sender) (h.context == h.context) (subst (λ (x : Endpoint). is_same s x ≡ true) (sym p.0) (same_refl s)) (eq-eqb h.context h.context refl) in
        let a : AllByRecursion (λ m. m.request ≢ Some k) (cond (is_of s h.context (fill V h)) (fill V h ∷ filter (is_of s h.context) (map (fill V) hs)) (filter (is_of s h.context) (map (fill V) hs))) = all h.context in
        let b : AllByRecursion (λ m. m.request ≢ Some k) (fill V h ∷ filter (is_of s h.context) (map (fill V) hs)) = subst (λ (t : Bool). AllByRecursion (λ m. m.request ≢ Some k) (cond t (fill V h ∷ filter (is_of s h.context) (map (fill V) hs)) (filter (is_of s h.context) (map (fill V) hs)))) q a in
        absurd (b.0 p.1)

-- and one that was taken out is one of the requests
taken_stands : (V : Values) (s : Endpoint) (k : ℕ) (t : Held → Bool) (js : List Job) →
    ((g : Option (List ℕ)) (h : Held) (j : ℕ) → slice_get js j ≡ Some (Probed g (Some h)) → t h ≡ true →
    (h.sender ≡ s) × (body_request h.body ≡ Some k)) →
    ((j : ℕ) (g : Option (List ℕ)) (m : Message) → slice_get (map (request_of V) js) j ≡ Some (TakenOut g (Some m)) →
    m.sender ≡ s → m.request ≢ Some k) → count (taken_is t) js ≡ 0
taken_stands V s k t [] is none = refl
taken_stands V s k t (Waiting p ∷ js) is none =
    omega (arith, taken_stands V s k t js (λ g h j x. is g h (suc j) x) (λ j g m x. none (suc j) g m x))
taken_stands V s k t (Collecting p u got ∷ js) is none =
    omega (arith, taken_stands V s k t js (λ g h j x. is g h (suc j) x) (λ j g m x. none (suc j) g m x))
taken_stands V s k t (Offering d basic values ∷ js) is none =
    omega (arith, taken_stands V s k t js (λ g h j x. is g h (suc j) x) (λ j g m x. none (suc j) g m x))
taken_stands V s k t (Over o ∷ js) is none =
    omega (arith, taken_stands V s k t js (λ g h j x. is g h (suc j) x) (λ j g m x. none (suc j) g m x))
taken_stands V s k t (Closed ∷ js) is none =
    omega (arith, taken_stands V s k t js (λ g h j x. is g h (suc j) x) (λ j g m x. none (suc j) g m x))
taken_stands V s k t (Unmatched d ∷ js) is none =
    omega (arith, taken_stands V s k t js (λ g h j x. is g h (suc j) x) (λ j g m x. none (suc j) g m x))
taken_stands V s k t (Probed f None ∷ js) is none =
    omega (arith, taken_stands V s k t js (λ g h j x. is g h (suc j) x) (λ j g m x. none (suc j) g m x))
taken_stands V s k t (Probed f (Some u) ∷ js) is none =
    go (t u) refl (taken_stands V s k t js (λ g h j x. is g h (suc j) x) (λ j g m x. none (suc j) g m x))
  where
    go : (b : Bool) → t u ≡ b → count (taken_is t) js ≡ 0 → one (t u) + count (taken_is t) js ≡ 0
    go false e z = let o : one (t u) ≡ 0 = ap one e in omega (arith, o, z)
    go true e z = let p = is f u 0 refl e in absurd (none 0 f (fill V u) refl p.0 p.1)

-- a message of the endpoint's own
own_is : (k : ℕ) (h : Held) → is_own k h ≡ true → body_request h.body ≡ Some k
own_is k h t = go h.body t
  where
    go : (b : Body) → is_own_body k b ≡ true → body_request b ≡ Some k
    go (Whole values) e = absurd (grind arith)
    go (Part j n) e = absurd (grind arith)
    go (Own j values) e = ap Some (sym (eqb-true k j e))

mine_is : (s : Endpoint) (k : ℕ) (h : Held) → IsMine s h → is_own k h ≡ true → h.sender ≡ s
mine_is s k h m t = go h.body m t
  where
    go : (b : Body) → IsMineBody s h.sender b → is_own_body k b ≡ true → h.sender ≡ s
    go (Whole values) m e = absurd (grind arith)
    go (Part j n) m e = absurd (grind arith)
    go (Own j values) m e = m

-- what a test by the endpoint's own finds, where all of these are
own_held : (V : Values) (s : Endpoint) (k : ℕ) (hs : List Held) → AllByRecursion (IsMine s) hs →
    ((c : ℕ) → AllByRecursion (λ m. m.request ≢ Some k) (filter (is_of s c) (map (fill V) hs))) →
    count (is_own k) hs ≡ 0
own_held V s k [] mine all = refl
own_held V s k (h ∷ hs) mine all =
    go (is_own k h) refl (own_held V s k hs mine.1 (λ c. rest c (is_of s c (fill V h)) (all c)))
  where
    rest : (c : ℕ) (b : Bool) →
        AllByRecursion (λ m. m.request ≢ Some k)
        (cond b (fill V h ∷ filter (is_of s c) (map (fill V) hs)) (filter (is_of s c) (map (fill V) hs))) →
        AllByRecursion (λ m. m.request ≢ Some k) (filter (is_of s c) (map (fill V) hs))
    rest c true a = a.1
    rest c false a = a

    go : (b : Bool) → is_own k h ≡ b → count (is_own k) hs ≡ 0 → one (is_own k h) + count (is_own k) hs ≡ 0
    go false e z = let o : one (is_own k h) ≡ 0 = ap one e in omega (arith, o, z)
    go true e z =
        let from : h.sender ≡ s = mine_is s k h mine.0 e in
        let q : is_of s h.context (fill V h) ≡ true = and_from (is_same s h.sender) (h.context == h.context) (subst (λ (x : Endpoint). is_same s x ≡ true) (sym from) (same_refl s)) (eq-eqb h.context h.context refl) in
        let a : AllByRecursion (λ m. m.request ≢ Some k) (cond (is_of s h.context (fill V h)) (fill V h ∷ filter (is_of s h.context) (map (fill V) hs)) (filter (is_of s h.context) (map (fill V) hs))) = all h.context in
        let b : AllByRecursion (λ m. m.request ≢ Some k) (fill V h ∷ filter (is_of s h.context) (map (fill V) hs)) = subst (λ (t : Bool). AllByRecursion (λ m. m.request ≢ Some k) (cond t (fill V h ∷ filter (is_of s h.context) (map (fill V) hs)) (filter (is_of s h.context) (map (fill V) hs)))) q a in
        absurd (b.0 (own_is k h e))

-- what holds of a network and the state that it is joined to
pub record Resting (V : Values) (w : Network) (st : State) : Type 0 where
  pub sane : Sane V w
  pub spoken : Spoken w
  pub due : Due w
  pub flows : Flows V w
  pub joined : Joined V st (views V w) w.link w.current

-- what is so where nothing is under way between two current endpoints
record Resting2 (V : Values) (w : Network) (st : State) (e s : Endpoint) : Type 0 where
  pub ee : e.incarnation ≡ w.current e.rank
  pub ss : s.incarnation ≡ w.current s.rank
  pub kk : (w.core e).known s.rank ≡ s.incarnation
  pub idle_in : in_flight (w.link s e) ≡ []
  pub queue : (c : ℕ) → (st.at e).queue s c ≡ filter (is_of s c) (map (fill V) (w.core e).held)

rest_between : (V : Values) (w : Network) (st : State) (k : Resting V w st) → IsQuiet w →
    (e s : Endpoint) → AreCurrent st e s → Resting2 V w st e s
rest_between V w st k idle e s are = record { ee = ee; ss = ss; kk = kk; idle_in = idle_in; queue = queue }
  where
    sim : Sim (st.at e) (view V (w.core e)) (coming V (λ y. w.link y e))
    sim = k.joined.each e

    cur : st.current ≡ w.current
    cur = k.joined.now

    ee : e.incarnation ≡ w.current e.rank
    ee = are.receiver_is ∙ ap (λ (f : ℕ → ℕ). f e.rank) cur

    ss : s.incarnation ≡ w.current s.rank
    ss = are.sender_is ∙ ap (λ (f : ℕ → ℕ). f s.rank) cur

    kk : (w.core e).known s.rank ≡ s.incarnation
    kk = ap (λ (f : ℕ → ℕ). f s.rank) (sym sim.known) ∙ are.is_known

    idle_in : in_flight (w.link s e) ≡ []
    idle_in = go (nat_lt ((w.core s).known e.rank) e.incarnation) refl
      where
        nothing : (i : ℕ) → drop {A = Frame} i [] ≡ []
        nothing zero = refl
        nothing (suc i) = refl

        go : (t : Bool) → nat_lt ((w.core s).known e.rank) e.incarnation ≡ t → in_flight (w.link s e) ≡ []
        go true h =
            ap (drop (w.link s e).handed) (k.spoken.untold s e (ltb-true ((w.core s).known e.rank) e.incarnation h)) ∙
            nothing (w.link s e).handed
        go false h =
            let le : e.incarnation ≤ (w.core s).known e.rank = ltb-false ((w.core s).known e.rank) e.incarnation h in
            let ge : (w.core s).known e.rank ≤ w.current e.rank = k.sane.known s (omega (arith, ss)) e.rank in
            idle s e ss ee kk (omega (arith, le, ge, ee))

    queue : (c : ℕ) → (st.at e).queue s c ≡ filter (is_of s c) (map (fill V) (w.core e).held)
    queue c = sim.queue s c ∙
        (ap (λ (ms : List Message). filter (is_of s c) (map (fill V) (w.core e).held) ++ ms)
        (either (is_stale (w.core e).known s)) ∙ append-nil (filter (is_of s c) (map (fill V) (w.core e).held)))
      where
        either : (t : Bool) → (if t then [] else coming V (λ y. w.link y e) s c) ≡ []
        either true = refl
        either false = ap (among V s c) idle_in

-- a probe finds nothing only where nothing is there
pub quiet_finds : (V : Values) (w : Network) (st : State) (k : Resting V w st) → IsQuiet w →
    ProbesFindAll st (λ e q. found (such_receive q) (w.core e).held ≡ None)
quiet_finds V w st k idle e s are q none c =
    let r = rest_between V w st k idle e s are in
    subst (λ (ms : List Message). AllByRecursion (λ m. accepts (such_receive q) m ≡ false) ms) (sym (r.queue c))
    (All_filter (λ m. accepts (such_receive q) m ≡ false) (is_of s c) (map (fill V) (w.core e).held)
    (none_fit_map V (such_receive q) (w.core e).held (none_found (such_receive q) (w.core e).held none)))

pub quiet_rest : (V : Values) (w : Network) (st : State) (k : Resting V w st) → IsQuiet w → IsAtRest st
quiet_rest V w st k idle e s are =
    record { nothing_fits = fits; receives_are_finished = received; sends_are_finished = finished }
  where
    r2 : Resting2 V w st e s
    r2 = rest_between V w st k idle e s are

    ee : e.incarnation ≡ w.current e.rank
    ee = r2.ee

    ss : s.incarnation ≡ w.current s.rank
    ss = r2.ss

    kk : (w.core e).known s.rank ≡ s.incarnation
    kk = r2.kk

    idle_in : in_flight (w.link s e) ≡ []
    idle_in = r2.idle_in

    queue : (c : ℕ) → (st.at e).queue s c ≡ filter (is_of s c) (map (fill V) (w.core e).held)
    queue c = r2.queue c

    sim : Sim (st.at e) (view V (w.core e)) (coming V (λ y. w.link y e))
    sim = k.joined.each e

    fits : NothingFits st e s
    fits j p h c =
        let posted' : slice_get (w.core e).jobs j ≡ Some (Waiting p) = posted_job V (w.core e).jobs j p (subst (λ (rs : List Request). slice_get rs j ≡ Some (Posted p)) sim.requests h) in
        subst (λ (ms : List Message). AllByRecursion (λ m. accepts p m ≡ false) ms) (sym (queue c))
        (All_filter (λ m. accepts p m ≡ false) (is_of s c) (map (fill V) (w.core e).held)
        (none_fit_map V p (w.core e).held (k.sane.none_fits e j p posted')))

    received : ReceivesAreFinished st e s
    received i p m h from = go (is_same s e) refl
      where
        of : slice_get (map (request_of V) (w.core e).jobs) i ≡ Some (Matched p m)
        of = subst (λ (rs : List Request). slice_get rs i ≡ Some (Matched p m)) sim.requests h

        o : (u : Held) × (got : List ℕ) × (slice_get (w.core e).jobs i ≡ Some (Collecting p u got)) × (fill V u ≡ m)
        o = job_matched V (slice_get (w.core e).jobs i) p m (sym (slice_get-map (request_of V) (w.core e).jobs i) ∙ of)

        honest : IsHonestJob V e i (Collecting p o.0 o.1)
        honest = (k.sane.cores e).jobs i (Collecting p o.0 o.1) o.2

        t : (k' : ℕ) × (is_part k' o.0.body ≡ true)
        t = transfer_of o.0.body honest.2

        is_from : o.0.sender ≡ s
        is_from = ap (λ (x : Message). x.sender) o.3 ∙ from

        collects_it : is_collecting s t.0 (Collecting p o.0 o.1) ≡ true
        collects_it =
            and_from (is_same o.0.sender s) (is_part t.0 o.0.body)
            (subst (λ (x : Endpoint). is_same x s ≡ true) (sym is_from) (same_refl s)) t.1

        go : (b : Bool) → is_same s e ≡ b → ⊥
        go true q =
            let se : s ≡ e = same_eq s e q in
            let c : is_collecting e t.0 (Collecting p o.0 o.1) ≡ true = subst (λ (x : Endpoint). is_collecting x t.0 (Collecting p o.0 o.1) ≡ true) se collects_it in
            omega (
              arith,
              count_at (is_collecting e t.0) (w.core e).jobs i (Collecting p o.0 o.1) o.2 c,
              k.flows.own e t.0,
            )
        go false q = at (count (is_yes t.0) (in_flight (w.link e s))) refl
          where
            F : Flowing V s e t.0 (w.core s) (w.core e) (in_flight (w.link s e)) (in_flight (w.link e s))
            F = k.flows.pairs s e q t.0

            no_follower : (w.core s).known e.rank ≤ e.incarnation
            no_follower =
                let le : (w.core s).known e.rank ≤ w.current e.rank = k.sane.known s (omega (arith, ss)) e.rank in omega
                (arith, le, ee)

            -- nothing is under way from s
            left : GoOn (length o.1) (count_of o.0.body)
                (promise (count (is_yes t.0) (in_flight (w.link e s))) (V s t.0))
            left = subst
                (λ (fs : List Frame). GoOn (length o.1) (count_of o.0.body)
                (flow t.0 fs ++ promise (count (is_yes t.0) (in_flight (w.link e s))) (V s t.0))) idle_in
                (F.goes_on i p o.0 o.1 o.2 collects_it no_follower)

            at : (y : ℕ) → count (is_yes t.0) (in_flight (w.link e s)) ≡ y → ⊥
            at zero r =
                let ends : length o.1 ≡ count_of o.0.body = subst (λ (y : ℕ). GoOn (length o.1) (count_of o.0.body) (promise y (V s t.0))) r left in
                let short : length o.1 < count_of o.0.body = honest.3 in
                omega (arith, ends, short)
            at (suc y) r =
                let open_send = F.offered (omega (arith, r, yes_count t.0 (in_flight (w.link e s)))) no_follower in
                let knows = (k.due.named s t.0 e open_send.0 open_send.1 open_send.2).0 in
                let none : count (is_yes t.0) (in_flight (w.link e s)) ≡ 0 = ap (count (is_yes t.0)) (idle e s ee ss knows kk) in
                omega (arith, r, none)

    -- no message of request i of s is pending here, or taken out
    gone : (i : ℕ) (t : Held → Bool) → IsMatched st s i e →
        ((h : Held) → t h ≡ true → (h.sender ≡ s) × (body_request h.body ≡ Some i)) → all_of t (w.core e) ≡ 0
    gone i t matched is =
        let a : count t (w.core e).held ≡ 0 = held_stands V s i t (w.core e).held is (λ c. subst (λ (ms : List Message). AllByRecursion (λ m. m.request ≢ Some i) ms) (queue c) (matched.not_pending c)) in
        let b : count (taken_is t) (w.core e).jobs ≡ 0 = taken_stands V s i t (w.core e).jobs (λ g h j x. is h) (λ j g m x. matched.not_taken_out j g m (ap (λ (rs : List Request). slice_get rs j) sim.requests ∙ x)) in
        omega (arith, a, b)

    finished : SendsAreFinished st e s
    finished i h matched =
        ⊎_elim to_other to_self
        (job_sending V (slice_get (w.core s).jobs i) e (sym (slice_get-map (request_of V) (w.core s).jobs i) ∙ of))
      where
        of : slice_get (map (request_of V) (w.core s).jobs) i ≡ Some (Sending e)
        of = subst (λ (rs : List Request). slice_get rs i ≡ Some (Sending e)) (k.joined.each s).requests h

        to_other : (basic : BasicType) × (values : List ℕ) ×
            (slice_get (w.core s).jobs i ≡ Some (Offering e basic values)) → ⊥
        to_other o =
            let nm = k.due.named s i e o.0 o.1 o.2 in
            let live : is_stale (w.core e).known s ≡ false = le-ltb s.incarnation ((w.core e).known s.rank) (omega (arith, kk)) in
            let t : 1 ≤ token w.core w.link s e i = k.due.offered s e (same_sym s e ∙ nm.1) i o.0 o.1 live o.2 in
            let r : count (is_rts i) (in_flight (w.link s e)) ≡ 0 = ap (count (is_rts i)) idle_in in
            let c : count (is_cts i) (in_flight (w.link e s)) ≡ 0 = ap (count (is_cts i)) (idle e s ee ss nm.0 kk) in
            let p : parts s i (w.core e) ≡ 0 = gone i (is_part_from s i) matched (part_is_of s i) in
            omega (arith, t, r, c, p)

        to_self : slice_get (w.core s).jobs i ≡ Some (Unmatched e) → ⊥
        to_self o =
            let es : e ≡ s = (k.sane.cores s).jobs i (Unmatched e) o in
            let one_waits : claims i (w.core s) ≡ 1 = (k.sane.own s).waits i e o in
            let own : OwnCore s (w.core s) = k.sane.own s in
            let q : (c : ℕ) → AllByRecursion (λ m. m.request ≢ Some i) (filter (is_of s c) (map (fill V) (w.core s).held)) =
            λ c. subst
            (λ (x : Endpoint). AllByRecursion (λ m. m.request ≢ Some i)
            (filter (is_of s c) (map (fill V) (w.core x).held))) es
            (subst (λ (ms : List Message). AllByRecursion (λ m. m.request ≢ Some i) ms) (queue c)
            (matched.not_pending c)) in
            let none : (j : ℕ) (g : Option (List ℕ)) (m : Message) → slice_get (map (request_of V) (w.core s).jobs) j ≡ Some (TakenOut g (Some m)) → m.sender ≡ s → m.request ≢ Some i =
            λ j g m x. matched.not_taken_out j g m (ap (λ (rs : List Request). slice_get rs j) sim.requests ∙
            subst (λ (y : Endpoint). slice_get (map (request_of V) (w.core y).jobs) j ≡ Some (TakenOut g (Some m)))
            (sym es) x) in
            let a : count (is_own i) (w.core s).held ≡ 0 = own_held V s i (w.core s).held own.mine q in
            let b : count (taken_is (is_own i)) (w.core s).jobs ≡ 0 = taken_stands V s i (is_own i) (w.core s).jobs (λ g h j x t. (mine_is s i h (own.taken j g h x) t, own_is i h t)) none in
            omega (arith, one_waits, a, b)

pub quiet_find : (n : ℕ) (V : Values) (w : Network) (k : Kept n V w) → IsQuiet w →
    ProbesFindAll (after_run (opening w.message_limit) k.seen.events)
    (λ e q. found (such_receive q) (w.core e).held ≡ None)
quiet_find n V w k =
    quiet_finds V w (after_run (opening w.message_limit) k.seen.events)
    (record { sane = k.sane; spoken = k.spoken; due = k.due; flows = k.flows; joined = k.seen.joined })

pub quiet_kept : (n : ℕ) (V : Values) (w : Network) (k : Kept n V w) → IsQuiet w →
    IsAtRest (after_run (opening w.message_limit) k.seen.events)
quiet_kept n V w k =
    quiet_rest V w (after_run (opening w.message_limit) k.seen.events)
    (record { sane = k.sane; spoken = k.spoken; due = k.due; flows = k.flows; joined = k.seen.joined })

pub is_run : (n : ℕ) (limit : MessageLimit) (hs : List Happening) → IsRunOfMachine n (run n hs (new_network limit))
is_run n limit hs =
    let V : Values = λ s i. get_or ((run n hs (new_network limit)).log s) i [] in
    let k : Kept n V (run n hs (new_network limit)) = run_kept n V hs (new_network limit) (λ s i lt. refl) (new_kept n limit V) in
    record {
      events = k.seen.events;
      run = k.seen.run;
      tells = k.seen.tells;
      current = λ r. ap (λ (f : ℕ → ℕ). f r) k.seen.joined.now;
      knows = λ e x. ap (λ (f : ℕ → ℕ). f x) (k.seen.joined.each e).known;
      faults = λ e c. fault_same _ _ _ n c (k.seen.joined.each e) ∙
          fault_blank V n ((run n hs (new_network limit)).core e) c;
      quiet = quiet_kept n V (run n hs (new_network limit)) k;
      finds = quiet_find n V (run n hs (new_network limit)) k;
    }
