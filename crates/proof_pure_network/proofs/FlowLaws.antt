-- One transfer between two endpoints: what is under way and what its sender will send go on from what its receiver has.
use Rattle.std.proofs.Common.{◌≡◌, ℕ, zero, suc, ◌+◌, ◌≤◌, Bool, true, false, ◌&&◌, List, [], ◌∷◌, ◌++◌, length, Option}
use Rattle.std.proofs.Common.{Some, None, if◌then◌else◌, ◌==◌, slice_get, slice_set, refl, sym, ap, ◌∙◌, subst, arith}
use Rattle.std.proofs.Common.{append-nil, ⊎_elim, inl}
use Rattle.std.proofs.lemmas.Bool.{eq-eqb, eqb-true}
use Rattle.std.proofs.lemmas.List.{length-append}
use Rattle.std.proofs.lemmas.Option.{same_Some, slice_get_within}
use Rattle.vocabulary.specs.Endpoints.{is_same}
use Rattle.perfect_queues.specs.Outcomes.{outcome}
use Rattle.perfect_queues.specs.Receives.{Receive}
use Rattle.vocabulary.specs.declared.basic_type.BasicType.{BasicType}
use Rattle.vocabulary.specs.declared.endpoint.Endpoint.{Endpoint}
use Rattle.perfect_queues.proofs.EndpointLemmas.{same_refl}
use Rattle.perfect_queues.proofs.ListLemmas.{get_set}
use Rattle.proof_pure_network.specs.Core.{Core, with_jobs}
use Rattle.proof_pure_network.specs.Engine.{sends}
use Rattle.proof_pure_network.specs.Frames.{Cts, Data, Frame, Values}
use Rattle.proof_pure_network.specs.WaitingMessages.{Body, Held, Own, Part, Whole, count_of, full, is_part}
use Rattle.proof_pure_network.specs.Jobs.{Closed, Collecting, Job, Offering, Over, Probed, Unmatched, Waiting}
use Rattle.proof_pure_network.specs.Jobs.{collecting, is_collecting, with_more}
use Rattle.proof_pure_network.specs.Transfers.{answered, collected, cut, piece_values}
use Rattle.proof_pure_network.proofs.Due.{Offers}
use Rattle.proof_pure_network.proofs.ProbeSteps.{Collects, collecting_parts, part_values, some_collecting}
use Rattle.proof_pure_network.proofs.Flow.{GoOn, count_at, count_fewer, count_once, flow, flow_append, in_pieces}
use Rattle.proof_pure_network.proofs.Flow.{is_yes, lengths, piece_of, promise, promise_some, yes_count}
use Rattle.proof_pure_network.proofs.FlowCore.{CollectsSince, collected_collects, collects}
use Rattle.proof_pure_network.proofs.FlowSends.{answered_flow}
use Rattle.proof_pure_network.proofs.Honest.{set_split}
use Rattle.proof_pure_network.proofs.HonestValues.{HonestJobs, IsHonestJob}
use Rattle.proof_pure_network.proofs.JobLemmas.{Fewer}
use Rattle.proof_pure_network.proofs.Tokens.{IsNext, answers, collected_parts, count, count_append, envelopes}
use Rattle.proof_pure_network.proofs.Tokens.{frames_to, is_cts, is_rts, one, parts}

-- its envelope is under way or held, or the answer to it is under way
abbrev pub tok : (s : Endpoint) (k : ℕ) (to : Core) (fs gs : List Frame) → ℕ
tok s k to fs gs = count (is_rts k) fs + parts s k to + count (is_cts k) gs

-- Transfer k of s to d, where fs are under way from s to d, and gs from d to s
pub record Flowing (V : Values) (s d : Endpoint) (k : ℕ) (from to : Core) (fs gs : List Frame) : Type 0 where
  -- its message is under way, held or collected, and only once
  pub once : collects s k to + parts s k to + count (is_rts k) fs ≤ 1
  pub fresh : length from.jobs ≤ k → (collects s k to ≡ 0) × (flow k fs ≡ [])
  -- no data come before the answer
  pub none : 1 ≤ tok s k to fs gs → flow k fs ≡ []
  -- until the answer comes, the send is open, unless a follower of d was learnt
  pub offered : 1 ≤ tok s k to fs gs → from.known d.rank ≤ d.incarnation →
      (basic : BasicType) × (values : List ℕ) × Offers from k d basic values
  pub goes_on : (j : ℕ) (p : Receive) (h : Held) (got : List ℕ) → slice_get to.jobs j ≡ Some (Collecting p h got) →
      is_collecting s k (Collecting p h got) ≡ true → from.known d.rank ≤ d.incarnation →
      GoOn (length got) (count_of h.body) (flow k fs ++ promise (count (is_yes k) gs) (V s k))

pub flowing_at : (V : Values) (s d : Endpoint) (k : ℕ) (from to : Core) (fs fs' gs gs' : List Frame) → fs ≡ fs' →
    gs ≡ gs' → Flowing V s d k from to fs gs → Flowing V s d k from to fs' gs'
flowing_at V s d k from to fs fs' gs gs' a b f =
    subst (λ (x : List Frame). Flowing V s d k from to x gs') a
    (subst (λ (x : List Frame). Flowing V s d k from to fs x) b f)

-- the count of a message that is collected is that of its values
counted : (V : Values) (e s : Endpoint) (k j : ℕ) (p : Receive) (u : Held) (got : List ℕ) →
    IsHonestJob V e j (Collecting p u got) → is_collecting s k (Collecting p u got) ≡ true →
    count_of u.body ≡ length (V s k)
counted V e s k j p u got honest i =
    let q = collecting_parts s k p u got i in
    honest.0 ∙ ap length (part_values V u.sender k u.body q.1 ∙ ap (λ (x : Endpoint). V x k) q.0)

-- THE RECEIVER'S SIDE

pub to_more : (V : Values) (s d : Endpoint) (k : ℕ) (from to to' : Core) (fs fs' gs : List Frame)
    (out : List (Endpoint × Frame)) → Flowing V s d k from to fs gs → HonestJobs V d to'.jobs →
    (length from.jobs ≤ k → tok s k to fs gs ≡ 0) →
    collects s k to' + parts s k to' + count (is_rts k) fs' ≤ collects s k to + parts s k to + count (is_rts k) fs →
    count (is_rts k) fs' + parts s k to' + answers s k out ≤ count (is_rts k) fs + parts s k to →
    flow k fs' ≡ flow k fs →
    ((j : ℕ) (p : Receive) (u : Held) (got : List ℕ) → slice_get to'.jobs j ≡ Some (Collecting p u got) →
    is_collecting s k (Collecting p u got) ≡ true → CollectsSince s k to j p u got out) →
    Flowing V s d k from to' fs' (gs ++ frames_to s out)
to_more V s d k from to to' fs fs' gs out F honest z c t fl since =
    record {
      once = (let o : collects s k to + parts s k to + count (is_rts k) fs ≤ 1 = F.once in omega (arith, o, c));
      fresh = λ l.
          (let q = F.fresh l in let n : tok s k to fs gs ≡ 0 = z l in let q0 : collects s k to ≡ 0 = q.0 in
          (omega (arith, q0, n, c), fl ∙ q.1));
      none = λ h. fl ∙ F.none (omega (arith, h, t, cts));
      offered = λ h g. F.offered (omega (arith, h, t, cts)) g;
      goes_on = goes;
    }
  where
    cts : count (is_cts k) (gs ++ frames_to s out) ≡ count (is_cts k) gs + answers s k out
    cts = count_append (is_cts k) gs (frames_to s out)

    wants : count (is_yes k) (gs ++ frames_to s out) ≡ count (is_yes k) gs + count (is_yes k) (frames_to s out)
    wants = count_append (is_yes k) gs (frames_to s out)

    goes : (j : ℕ) (p : Receive) (h : Held) (got : List ℕ) → slice_get to'.jobs j ≡ Some (Collecting p h got) →
        is_collecting s k (Collecting p h got) ≡ true → from.known d.rank ≤ d.incarnation →
        GoOn (length got) (count_of h.body) (flow k fs' ++ promise (count (is_yes k) (gs ++ frames_to s out)) (V s k))
    goes j p u got x i g =
        subst (λ (ps : List (ℕ × ℕ)). GoOn (length got) (count_of u.body)
        (ps ++ promise (count (is_yes k) (gs ++ frames_to s out)) (V s k))) (sym fl)
        (subst (λ (n : ℕ). GoOn (length got) (count_of u.body) (flow k fs ++ promise n (V s k))) (sym wants)
        (⊎_elim old new' (since j p u got x i)))
      where
        old : slice_get to.jobs j ≡ Some (Collecting p u got) →
            GoOn (length got) (count_of u.body)
            (flow k fs ++ promise (count (is_yes k) gs + count (is_yes k) (frames_to s out)) (V s k))
        old a = go (count (is_yes k) (frames_to s out)) refl
          where
            go : (n : ℕ) → count (is_yes k) (frames_to s out) ≡ n →
                GoOn (length got) (count_of u.body) (flow k fs ++ promise (count (is_yes k) gs + n) (V s k))
            go zero e =
                let m : count (is_yes k) gs ≡ count (is_yes k) gs + 0 = omega arith in
                subst (λ (n : ℕ). GoOn (length got) (count_of u.body) (flow k fs ++ promise n (V s k))) m
                (F.goes_on j p u got a i g)
            go (suc n) e =
                let one_more : 1 ≤ collects s k to = count_at (is_collecting s k) to.jobs j (Collecting p u got) a i in
                let o : collects s k to + parts s k to + count (is_rts k) fs ≤ 1 = F.once in
                absurd (omega (arith, e, yes_count k (frames_to s out), one_more, o, t))

        new' : (got ≡ []) × (1 ≤ count (is_yes k) (frames_to s out)) →
            GoOn (length got) (count_of u.body)
            (flow k fs ++ promise (count (is_yes k) gs + count (is_yes k) (frames_to s out)) (V s k))
        new' a =
            let some : 1 ≤ count (is_yes k) (frames_to s out) = a.1 in
            let nothing : flow k fs ≡ [] = F.none (omega (arith, some, yes_count k (frames_to s out), t)) in
            let pr : promise (count (is_yes k) gs + count (is_yes k) (frames_to s out)) (V s k) ≡ (0, length (V s k)) ∷ [] = promise_some (count (is_yes k) gs + count (is_yes k) (frames_to s out)) (V s k) (omega (arith, some)) in
            let n : length (V s k) ≡ count_of u.body = sym (counted V d s k j p u got (honest j (Collecting p u got) x) i) in
            subst (λ (ps : List (ℕ × ℕ)). GoOn (length got) (count_of u.body)
            (ps ++ promise (count (is_yes k) gs + count (is_yes k) (frames_to s out)) (V s k))) (sym nothing)
            (subst (λ (ps : List (ℕ × ℕ)). GoOn (length got) (count_of u.body) ps) (sym pr)
            (subst (λ (l : List ℕ). GoOn (length l) (count_of u.body) ((0, length (V s k)) ∷ [])) (sym a.0) (
              refl,
              (let z : length {A = ℕ} [] + length (V s k) ≡ length (V s k) = omega arith in z ∙ n),
            )))

-- where nothing goes out
pub to_less : (V : Values) (s d : Endpoint) (k : ℕ) (from to to' : Core) (fs gs : List Frame) →
    Flowing V s d k from to fs gs → HonestJobs V d to'.jobs → (length from.jobs ≤ k → tok s k to fs gs ≡ 0) →
    Fewer to.jobs to'.jobs → parts s k to' ≤ parts s k to → Flowing V s d k from to' fs gs
to_less V s d k from to to' fs gs F honest z fewer le =
    flowing_at V s d k from to' fs fs (gs ++ []) gs refl (append-nil gs)
    (to_more V s d k from to to' fs fs gs [] F honest z (omega (arith, le, count_fewer s k to.jobs to'.jobs fewer))
    (omega (arith, le)) refl (λ j p u got x i. inl (fewer j (Collecting p u got) tt x)))

-- DATA COME

pub nil_right : {A : Type 0} (xs ys : List A) → xs ++ ys ≡ [] → ys ≡ []
nil_right [] ys h = h
nil_right (x ∷ xs) ys h = absurd (grind arith)

none_collecting : (s : Endpoint) (k : ℕ) (js : List Job) (j : ℕ) (x : Job) → collecting s k js ≡ None →
    slice_get js j ≡ Some x → is_collecting s k x ≡ true → ⊥
none_collecting s k [] j x h g i = absurd (grind arith)
none_collecting s k (y ∷ js) j x h g i =
    go (is_collecting s k y) refl (collecting s k js) refl j g (λ e n y'. none_collecting s k js n x e y' i)
  where
    go : (t : Bool) → is_collecting s k y ≡ t → (o : Option (ℕ × Job)) → collecting s k js ≡ o →
        (n : ℕ) → slice_get (y ∷ js) n ≡ Some x → (collecting s k js ≡ None → (m : ℕ) → slice_get js m ≡ Some x → ⊥) → ⊥
    go true p o q n g ih = let e : Some (0, y) ≡ None = rw p at h in grind arith
    go false p (Some v) q n g ih = let e : Some (suc v.0, v.1) ≡ None = rw (p, q) at h in grind arith
    go false p None q zero g ih =
        let e : y ≡ x = same_Some y x g in
        let n : is_collecting s k y ≡ true = subst (λ (z : Job). is_collecting s k z ≡ true) (sym e) i in
        absurd (let m : false ≡ true = sym p ∙ n in grind arith)
    go false p None q (suc m) g ih = ih q m g

more_is : (p0 : Receive) (h0 : Held) (all : List ℕ) (p : Receive) (u : Held) (got : List ℕ) →
    with_more p0 h0 all ≡ Collecting p u got → (h0 ≡ u) × (all ≡ got)
more_is p0 h0 all p u got e = go (length all == count_of h0.body) e
  where
    go : (t : Bool) → (if t then Over (outcome p0 (full h0 all)) else Collecting p0 h0 all) ≡ Collecting p u got →
        (h0 ≡ u) × (all ≡ got)
    go true x = absurd (grind arith)
    go false x = let a : h0 ≡ u = cc in let b : all ≡ got = cc in (a, b)

-- the piece that is next is taken
pub to_data_same : (V : Values) (s d : Endpoint) (k o : ℕ) (values : List ℕ) (from to : Core) (fs gs : List Frame) →
    Flowing V s d k from to (Data k o values ∷ fs) gs →
    Flowing V s d k from (collected to o values (collecting s k to.jobs)) fs gs
to_data_same V s d k o values from to fs gs F =
    record {
      once = (let x : collects s k to + parts s k to + count (is_rts k) (Data k o values ∷ fs) ≤ 1 = F.once in omega
          (arith, x, less, held));
      fresh = λ l.
          (let q = F.fresh l in let q0 : collects s k to ≡ 0 = q.0 in (
            omega (arith, q0, less),
            nil_right (piece_of k (Data k o values)) (flow k fs) q.1,
          ));
      none = λ h. nil_right (piece_of k (Data k o values)) (flow k fs) (F.none (omega (arith, h, held)));
      offered = λ h g. F.offered (omega (arith, h, held)) g;
      goes_on = λ j p u got x i g. go j p u got i g (collecting s k to.jobs) refl x;
    }
  where
    less : collects s k (collected to o values (collecting s k to.jobs)) ≤ collects s k to
    less = collected_collects s k to s k o values

    held : parts s k (collected to o values (collecting s k to.jobs)) ≡ parts s k to
    held = collected_parts s k to s k o values (collecting s k to.jobs) refl

    rest : List (ℕ × ℕ)
    rest = flow k fs ++ promise (count (is_yes k) gs) (V s k)

    go : (j : ℕ) (p : Receive) (u : Held) (got : List ℕ) → is_collecting s k (Collecting p u got) ≡ true →
        from.known d.rank ≤ d.incarnation → (t : Option (ℕ × Job)) → collecting s k to.jobs ≡ t →
        slice_get (collected to o values t).jobs j ≡ Some (Collecting p u got) →
        GoOn (length got) (count_of u.body) (flow k fs ++ promise (count (is_yes k) gs) (V s k))
    go j p u got i g None e x = absurd (none_collecting s k to.jobs j (Collecting p u got) e x i)
    go j p u got i g (Some (n, Waiting q)) e x =
        absurd (let c : false ≡ true = (some_collecting s k to.jobs (n, Waiting q) e).collects in grind arith)
    go j p u got i g (Some (n, Offering y basic vs)) e x =
        absurd (let c : false ≡ true = (some_collecting s k to.jobs (n, Offering y basic vs) e).collects in grind arith)
    go j p u got i g (Some (n, Over q)) e x =
        absurd (let c : false ≡ true = (some_collecting s k to.jobs (n, Over q) e).collects in grind arith)
    go j p u got i g (Some (n, Closed)) e x =
        absurd (let c : false ≡ true = (some_collecting s k to.jobs (n, Closed) e).collects in grind arith)
    go j p u got i g (Some (n, Unmatched d0)) e x =
        absurd (let c : false ≡ true = (some_collecting s k to.jobs (n, Unmatched d0) e).collects in grind arith)
    go j p u got i g (Some (n, Probed g0 o0)) e x =
        absurd (let c : false ≡ true = (some_collecting s k to.jobs (n, Probed g0 o0) e).collects in grind arith)
    go j p u got i g (Some (n, Collecting q h had)) e x = at (length had == o) refl x
      where
        c : Collects s k to.jobs (n, Collecting q h had)
        c = some_collecting s k to.jobs (n, Collecting q h had) e

        before : GoOn (length had) (count_of h.body) (((if k == k then (o, length values) ∷ [] else []) ++ flow k fs) ++
            promise (count (is_yes k) gs) (V s k))
        before = F.goes_on n q h had c.stands c.collects g

        next : (o ≡ length had) × GoOn (length had + length values) (count_of h.body) rest
        next = subst
            (λ (t : Bool). GoOn (length had) (count_of h.body)
            (((if t then (o, length values) ∷ [] else []) ++ flow k fs) ++ promise (count (is_yes k) gs) (V s k)))
            (eq-eqb k k refl) before

        ends : with_more q h (had ++ values) ≡ Collecting p u got → GoOn (length got) (count_of u.body) rest
        ends w =
            let m = more_is q h (had ++ values) p u got w in
            let l : length had + length values ≡ length got = sym (length-append had values) ∙ ap length m.1 in
            subst (λ (v : Held). GoOn (length got) (count_of v.body) rest) m.0
            (subst (λ (y : ℕ). GoOn y (count_of h.body) rest) l next.1)

        at : (t : Bool) →
            (length had == o) ≡ t →
            slice_get (if t then with_jobs to (slice_set to.jobs n (with_more q h (had ++ values))) else to).jobs j ≡
            Some (Collecting p u got) → GoOn (length got) (count_of u.body) rest
        at false r x =
            absurd (let b : (length had == o) ≡ true = eq-eqb (length had) o (sym next.0) in
            let m : false ≡ true = sym r ∙ b in grind arith)
        at true r x =
            ⊎_elim both (λ a. ends a.1) (set_split to.jobs n (with_more q h (had ++ values)) j (Collecting p u got) x)
          where
            both : slice_get to.jobs j ≡ Some (Collecting p u got) → GoOn (length got) (count_of u.body) rest
            both a =
                let f : collects s k to + parts s k to + count (is_rts k) (Data k o values ∷ fs) ≤ 1 = F.once in
                let jn : j ≡ n = count_once (is_collecting s k) to.jobs j n (Collecting p u got) (Collecting q h had) (omega (arith, f)) a c.stands i c.collects in
                let y : slice_get (slice_set to.jobs n (with_more q h (had ++ values))) n ≡ Some (with_more q h (had ++ values)) = get_set to.jobs n (with_more q h (had ++ values)) (slice_get_within to.jobs n (Collecting q h had) c.stands) in
                ends (same_Some (with_more q h (had ++ values)) (Collecting p u got) (sym y ∙
                (ap (slice_get (slice_set to.jobs n (with_more q h (had ++ values)))) (sym jn) ∙ x)))

part_same : (k i : ℕ) (b : Body) → is_part k b ≡ true → is_part i b ≡ true → k ≡ i
part_same k i (Whole values) p q = absurd (grind arith)
part_same k i (Own j values) p q = absurd (grind arith)
part_same k i (Part j n) p q = eqb-true k j p ∙ sym (eqb-true i j q)

-- data of another transfer, or of another endpoint, change nothing of it
pub data_beside : (s : Endpoint) (k : ℕ) (to : Core) (a : Endpoint) (i o : ℕ) (values : List ℕ) →
    ((is_same a s && (k == i)) ≡ false) → (j : ℕ) (p : Receive) (u : Held) (got : List ℕ) →
    slice_get (collected to o values (collecting a i to.jobs)).jobs j ≡ Some (Collecting p u got) →
    is_collecting s k (Collecting p u got) ≡ true → slice_get to.jobs j ≡ Some (Collecting p u got)
data_beside s k to a i o values ne j p u got x c = go (collecting a i to.jobs) refl x
  where
    go : (t : Option (ℕ × Job)) → collecting a i to.jobs ≡ t → slice_get (collected to o values t).jobs j ≡
        Some (Collecting p u got) → slice_get to.jobs j ≡ Some (Collecting p u got)
    go None e x = x
    go (Some (n, Waiting q)) e x = x
    go (Some (n, Offering y basic vs)) e x = x
    go (Some (n, Over q)) e x = x
    go (Some (n, Closed)) e x = x
    go (Some (n, Unmatched d0)) e x = x
    go (Some (n, Probed g0 o0)) e x = x
    go (Some (n, Collecting q h had)) e x = at (length had == o) x
      where
        r : Collects a i to.jobs (n, Collecting q h had)
        r = some_collecting a i to.jobs (n, Collecting q h had) e

        other : with_more q h (had ++ values) ≡ Collecting p u got → ⊥
        other w =
            let m = more_is q h (had ++ values) p u got w in
            let mine = collecting_parts s k p u got c in
            let theirs = collecting_parts a i q h had r.collects in
            let sa : a ≡ s = sym theirs.0 ∙ (ap (λ (v : Held). v.sender) m.0 ∙ mine.0) in
            let ki : k ≡ i = part_same k i u.body mine.1 (subst (λ (v : Held). is_part i v.body ≡ true) m.0 theirs.1) in
            let y : is_same a s ≡ true = subst (λ (z : Endpoint). is_same a z ≡ true) sa (same_refl a) in
            let b : (is_same a s && (k == i)) ≡ true = rw (y, eq-eqb k i ki) refl in
            let n : true ≡ false = sym b ∙ ne in grind arith

        at : (t : Bool) →
            slice_get (if t then with_jobs to (slice_set to.jobs n (with_more q h (had ++ values))) else to).jobs j ≡
            Some (Collecting p u got) → slice_get to.jobs j ≡ Some (Collecting p u got)
        at false x = x
        at true x =
            ⊎_elim (λ b. b) (λ b. absurd (other b.1))
            (set_split to.jobs n (with_more q h (had ++ values)) j (Collecting p u got) x)

-- THE SENDER'S SIDE

pub from_more : (V : Values) (s d : Endpoint) (k : ℕ) (from from' to : Core) (fs gs gs' : List Frame)
    (out : List (Endpoint × Frame)) → Flowing V s d k from to fs gs → (length from.jobs ≤ k → tok s k to fs gs ≡ 0) →
    length from.jobs ≤ length from'.jobs → IsNext (envelopes d k out) k (length from.jobs) (length from'.jobs) →
    flow k (frames_to d out) ≡ [] → count (is_cts k) gs' ≡ count (is_cts k) gs →
    count (is_yes k) gs' ≡ count (is_yes k) gs →
    from.known d.rank ≤ from'.known d.rank →
    ((basic : BasicType) (values : List ℕ) → from'.known d.rank ≤ d.incarnation → Offers from k d basic values →
    Offers from' k d basic values) →
    (1 ≤ envelopes d k out → (basic : BasicType) × (values : List ℕ) × Offers from' k d basic values) →
    Flowing V s d k from' to (fs ++ frames_to d out) gs'
from_more V s d k from from' to fs gs gs' out F z len next fl cts wants knows keeps sends =
    record {
      once = (let o : collects s k to + parts s k to + count (is_rts k) fs ≤ 1 = F.once in ⊎_elim
          (λ a. omega (arith, o, a, rts))
          (λ a. (let l : length from.jobs ≤ k = at_last a.1 in let q0 : collects s k to ≡ 0 = (F.fresh l).0 in omega
          (arith, q0, z l, a.0, rts))) next);
      fresh = λ l. (let q = F.fresh (omega (arith, l, len)) in (q.0, same_flow ∙ q.1));
      none = λ h. same_flow ∙
          ⊎_elim (λ a. F.none (omega (arith, h, a, rts, cts))) (λ a. (F.fresh (at_last a.1)).1) next;
      offered =
          λ h g. ⊎_elim
          (λ a. (let o = F.offered (omega (arith, h, a, rts, cts)) (omega (arith, g, knows)) in
          (o.0, o.1, keeps o.0 o.1 g o.2))) (λ a. sends (let b : envelopes d k out ≡ 1 = a.0 in omega (arith, b))) next;
      goes_on =
          λ j p u got x i g. subst
          (λ (ps : List (ℕ × ℕ)). GoOn (length got) (count_of u.body) (ps ++ promise (count (is_yes k) gs') (V s k)))
          (sym same_flow)
          (subst (λ (n : ℕ). GoOn (length got) (count_of u.body) (flow k fs ++ promise n (V s k))) (sym wants)
          (F.goes_on j p u got x i (omega (arith, g, knows))));
    }
  where
    at_last : k ≡ length from.jobs → length from.jobs ≤ k
    at_last e = omega (arith, e)

    rts : count (is_rts k) (fs ++ frames_to d out) ≡ count (is_rts k) fs + envelopes d k out
    rts = count_append (is_rts k) fs (frames_to d out)

    same_flow : flow k (fs ++ frames_to d out) ≡ flow k fs
    same_flow = flow_append k fs (frames_to d out) ∙
        (ap (λ (ps : List (ℕ × ℕ)). flow k fs ++ ps) fl ∙ append-nil (flow k fs))

-- the answer comes, and the data that it wants go out
pub from_answered : (V : Values) (s d : Endpoint) (k : ℕ) (w : Bool) (from to : Core) (fs gs : List Frame) →
    Flowing V s d k from to fs (Cts k w ∷ gs) → HonestJobs V s from.jobs → tok s k to fs (Cts k w ∷ gs) ≤ 1 →
    (length from.jobs ≤ k → tok s k to fs (Cts k w ∷ gs) ≡ 0) →
    (answered from d k w (slice_get from.jobs k)).core.known ≡ from.known →
    length (answered from d k w (slice_get from.jobs k)).core.jobs ≡ length from.jobs →
    envelopes d k (answered from d k w (slice_get from.jobs k)).out ≡ 0 →
    Flowing V s d k (answered from d k w (slice_get from.jobs k)).core to
    (fs ++ frames_to d (answered from d k w (slice_get from.jobs k)).out) gs
from_answered V s d k w from to fs gs F honest at_most z known len env =
    record {
      once = (let o : collects s k to + parts s k to + count (is_rts k) fs ≤ 1 = F.once in omega (arith, o, rts, env));
      fresh = λ l. absurd (omega (arith, z (omega (arith, l, len)), mine));
      none = λ h. absurd (omega (arith, h, at_most, mine, rts, env));
      offered = λ h g. absurd (omega (arith, h, at_most, mine, rts, env));
      goes_on = goes;
    }
  where
    out : List (Endpoint × Frame)
    out = (answered from d k w (slice_get from.jobs k)).out

    mine : one (k == k) ≡ 1
    mine = ap one (eq-eqb k k refl)

    rts : count (is_rts k) (fs ++ frames_to d out) ≡ count (is_rts k) fs + envelopes d k out
    rts = count_append (is_rts k) fs (frames_to d out)

    no_yes : count (is_yes k) gs ≡ 0
    no_yes = omega (arith, yes_count k gs, at_most, mine)

    goes : (j : ℕ) (p : Receive) (h : Held) (got : List ℕ) → slice_get to.jobs j ≡ Some (Collecting p h got) →
        is_collecting s k (Collecting p h got) ≡ true →
        (answered from d k w (slice_get from.jobs k)).core.known d.rank ≤ d.incarnation →
        GoOn (length got) (count_of h.body) (flow k (fs ++ frames_to d out) ++ promise (count (is_yes k) gs) (V s k))
    goes j p u got x i g = same w (answered_flow d k from o.0 o.1 w o.2) (F.goes_on j p u got x i g')
      where
        g' : from.known d.rank ≤ d.incarnation
        g' = subst (λ (f : ℕ → ℕ). f d.rank ≤ d.incarnation) known g

        o : (basic : BasicType) × (values : List ℕ) × Offers from k d basic values
        o = F.offered (omega (arith, mine)) g'

        is : o.1 ≡ V s k
        is = honest k (Offering d o.0 o.1) o.2

        same : (t : Bool) → flow k (frames_to d out) ≡ (if t then lengths (cut from.message_limit o.0 o.1) else []) →
            GoOn (length got) (count_of u.body)
            (flow k fs ++ promise (one ((k == k) && t) + count (is_yes k) gs) (V s k)) →
            GoOn (length got) (count_of u.body) (flow k (fs ++ frames_to d out) ++
            promise (count (is_yes k) gs) (V s k))
        same true e old =
            let n : one ((k == k) && true) ≡ 1 = ap (λ (b : Bool). one (b && true)) (eq-eqb k k refl) in
            let pr : promise (one ((k == k) && true) + count (is_yes k) gs) (V s k) ≡ (0, length (V s k)) ∷ [] = promise_some (one ((k == k) && true) + count (is_yes k) gs) (V s k) (omega (arith, n)) in
            let em : promise (count (is_yes k) gs) (V s k) ≡ [] = ap (λ (m : ℕ). promise m (V s k)) no_yes in
            let fl : flow k (frames_to d out) ≡ lengths (cut from.message_limit o.0 (V s k)) = e ∙ ap (λ (vs : List ℕ). lengths (cut from.message_limit o.0 vs)) is in
            let now : flow k (fs ++ frames_to d out) ++ promise (count (is_yes k) gs) (V s k) ≡ flow k fs ++ lengths (cut from.message_limit o.0 (V s k)) =
            ap (λ (ps : List (ℕ × ℕ)). flow k (fs ++ frames_to d out) ++ ps) em
            ∙ (append-nil (flow k (fs ++ frames_to d out)) ∙
            (flow_append k fs (frames_to d out) ∙ ap (λ (ps : List (ℕ × ℕ)). flow k fs ++ ps) fl)) in
            subst (λ (ps : List (ℕ × ℕ)). GoOn (length got) (count_of u.body) ps) (sym now)
            (in_pieces (length (V s k)) (piece_values from.message_limit o.0) (V s k) (length got) (count_of u.body) (flow k fs)
            (subst (λ (ps : List (ℕ × ℕ)). GoOn (length got) (count_of u.body) (flow k fs ++ ps)) pr old))
        same false e old =
            let m : one ((k == k) && false) ≡ 0 = ap (λ (b : Bool). one (b && false)) (eq-eqb k k refl) in
            let n : one ((k == k) && false) + count (is_yes k) gs ≡ count (is_yes k) gs = omega (arith, m) in
            let now : flow k (fs ++ frames_to d out) ++ promise (count (is_yes k) gs) (V s k) ≡ flow k fs ++ promise (one ((k == k) && false) + count (is_yes k) gs) (V s k) =
            ap (λ (ps : List (ℕ × ℕ)). ps ++ promise (count (is_yes k) gs) (V s k))
            (flow_append k fs (frames_to d out) ∙
            (ap (λ (ps : List (ℕ × ℕ)). flow k fs ++ ps) e ∙ append-nil (flow k fs)))
            ∙ ap (λ (m : ℕ). flow k fs ++ promise m (V s k)) (sym n) in
            subst (λ (ps : List (ℕ × ℕ)). GoOn (length got) (count_of u.body) ps) (sym now) old
