-- Each event keeps what holds of the data of transfers.
use Rattle.std.proofs.Common.{◌≡◌, ℕ, ◌+◌, ◌≤◌, Bool, true, false, ◌&&◌, List, [], ◌∷◌, ◌++◌, length, Some, ◌==◌}
use Rattle.std.proofs.Common.{slice_get, refl, sym, ap, ◌∙◌, subst, arith, append-nil, inl}
use Rattle.std.proofs.lemmas.Bool.{eqb-true, and_parts}
use Rattle.perfect_queues.specs.Calls.{Call}
use Rattle.vocabulary.specs.Endpoints.{is_same}
use Rattle.perfect_queues.specs.Events.{Entry}
use Rattle.perfect_queues.specs.Receives.{Receive}
use Rattle.vocabulary.specs.declared.basic_type.BasicType.{BasicType}
use Rattle.vocabulary.specs.declared.endpoint.Endpoint.{Endpoint}
use Rattle.perfect_queues.proofs.EndpointLemmas.{same_eq, same_refl}
use Rattle.proof_pure_network.specs.Core.{Core}
use Rattle.proof_pure_network.specs.Engine.{called, came, core_settled, met}
use Rattle.proof_pure_network.specs.Frames.{Cts, Data, Eager, Frame, Rts, Values}
use Rattle.proof_pure_network.specs.WaitingMessages.{Held}
use Rattle.proof_pure_network.specs.Jobs.{Collecting, collecting, is_collecting}
use Rattle.proof_pure_network.specs.Links.{Link, accept_all, handed_on, in_flight}
use Rattle.proof_pure_network.specs.Network.{Network, call_at, hand_at, hear_at, logged, with_core, with_log}
use Rattle.proof_pure_network.specs.Transfers.{collected}
use Rattle.proof_pure_network.proofs.Due.{Offers, apart_left, taken_count}
use Rattle.proof_pure_network.proofs.Flow.{count_fewer, flow, is_yes, yes_one}
use Rattle.proof_pure_network.proofs.FlowCore.{CollectsSince, called_collects, called_since, came_collects, came_since}
use Rattle.proof_pure_network.proofs.FlowCore.{collects, met_fewer}
use Rattle.proof_pure_network.proofs.FlowSends.{answered_flow_other, called_flow, called_keeps, called_sends, came_flow}
use Rattle.proof_pure_network.proofs.FlowSends.{came_keeps, met_keeps, settled_keeps}
use Rattle.proof_pure_network.proofs.FlowLaws.{Flowing, data_beside, flowing_at, from_answered, from_more, to_data_same}
use Rattle.proof_pure_network.proofs.FlowLaws.{to_less, to_more, tok}
use Rattle.proof_pure_network.proofs.HonestValues.{HonestJobs}
use Rattle.proof_pure_network.proofs.Invariants.{Due, Flows, Sane, each_core}
use Rattle.proof_pure_network.proofs.JobLemmas.{Fewer, fewer_settled, settled_known}
use Rattle.proof_pure_network.proofs.Knowledge.{called_known, came_known}
use Rattle.proof_pure_network.proofs.Pairs.{core_else, core_here, each_pair, hand_else, hand_first, hand_fits}
use Rattle.proof_pure_network.proofs.Simulation.{beside}
use Rattle.proof_pure_network.proofs.Tokens.{Fits, brings, called_envelopes, called_length, called_parts}
use Rattle.proof_pure_network.proofs.Tokens.{came_envelopes, came_length, came_parts, count, envelopes, flight_out}
use Rattle.proof_pure_network.proofs.Tokens.{frames_to, is_cts, is_rts, link_else, met_length, met_parts, one}
use Rattle.proof_pure_network.proofs.Tokens.{one_false, parts, same_sym, settled_length, settled_parts}
use Rattle.proof_pure_network.proofs.Tellings.{met_grows}

-- where an event at e changes its core and the links
pub changed_flows : (V : Values) (w : Network) (e : Endpoint) (core' : Core) (links' : Endpoint → Endpoint → Link) →
    Flows V w →
    ((s : Endpoint) → is_same s e ≡ false →
    (k : ℕ) → Flowing V s e k (w.core s) core' (in_flight (links' s e)) (in_flight (links' e s))) →
    ((d : Endpoint) → is_same d e ≡ false →
    (k : ℕ) → Flowing V e d k core' (w.core d) (in_flight (links' e d)) (in_flight (links' d e))) →
    ((x y : Endpoint) → is_same x e ≡ false → is_same y e ≡ false → in_flight (links' x y) ≡ in_flight (w.link x y)) →
    ((k : ℕ) → collects e k core' + parts e k core' ≤ collects e k (w.core e) + parts e k (w.core e)) →
    (history : List Entry) (logs : Endpoint → List (List ℕ)) →
    Flows V (record {
      core = with_core w.core e core';
      link = links';
      current = w.current;
      history = history;
      log =
          logs;
      message_limit = w.message_limit;
    })
changed_flows V w e core' links' flows to_e from_e aside own history logs =
    record {
      pairs = each_pair e (λ s d. (k : ℕ) →
          Flowing V s d k (core2 s) (core2 d) (in_flight (links' s d)) (in_flight (links' d s)))
          (λ s h k. subst (λ (c : Core). Flowing V s e k c (core2 e) (in_flight (links' s e)) (in_flight (links' e s)))
          (sym (core_else w.core e core' s h))
          (subst (λ (c : Core). Flowing V s e k (w.core s) c (in_flight (links' s e)) (in_flight (links' e s)))
          (sym (core_here w.core e core')) (to_e s h k)))
          (λ d h k. subst (λ (c : Core). Flowing V e d k (core2 e) c (in_flight (links' e d)) (in_flight (links' d e)))
          (sym (core_else w.core e core' d h))
          (subst (λ (c : Core). Flowing V e d k c (w.core d) (in_flight (links' e d)) (in_flight (links' d e)))
          (sym (core_here w.core e core')) (from_e d h k)))
          (λ s d hs hd apart k. subst
          (λ (c : Core). Flowing V s d k c (core2 d) (in_flight (links' s d)) (in_flight (links' d s)))
          (sym (core_else w.core e core' s hs))
          (subst (λ (c : Core). Flowing V s d k (w.core s) c (in_flight (links' s d)) (in_flight (links' d s)))
          (sym (core_else w.core e core' d hd))
          (flowing_at V s d k (w.core s) (w.core d) (in_flight (w.link s d)) (in_flight (links' s d))
          (in_flight (w.link d s)) (in_flight (links' d s)) (sym (aside s d hs hd)) (sym (aside d s hd hs))
          (flows.pairs s d apart k))));
      own = each_core (λ x c. (k : ℕ) → collects x k c + parts x k c ≡ 0) w.core e core' flows.own
          (λ k. (let z : collects e k (w.core e) + parts e k (w.core e) ≡ 0 = flows.own e k in omega
          (arith, z, own k)));
    }
  where
    core2 : Endpoint → Core
    core2 = with_core w.core e core'

pub call_flows : (V : Values) (w : Network) (e : Endpoint) (c : Call) → Sane V w →
    HonestJobs V e (called e (w.core e) c).core.jobs → Flows V w → Flows V (call_at w e c)
call_flows V w e c sane honest flows =
    changed_flows V w e core' (accept_all w.link e out) flows to_e from_e
    (λ x y hx hy. ap in_flight (link_else w.link e x y out hx)) (λ k. called_collects e k e (w.core e) c) w.history
    (with_log w.log e (logged (w.core e) c))
  where
    core' : Core
    core' = (called e (w.core e) c).core

    out : List (Endpoint × Frame)
    out = (called e (w.core e) c).out

    to_e : (s : Endpoint) → is_same s e ≡ false →
        (k : ℕ) →
        Flowing V s e k (w.core s) core' (in_flight (accept_all w.link e out s e))
        (in_flight (accept_all w.link e out e s))
    to_e s h k =
        flowing_at V s e k (w.core s) core' (in_flight (w.link s e)) (in_flight (accept_all w.link e out s e))
        (in_flight (w.link e s) ++ frames_to s out) (in_flight (accept_all w.link e out e s))
        (sym (ap in_flight (link_else w.link e s e out h))) (sym (flight_out w.link e s out sane.fits))
        (to_more V s e k (w.core s) (w.core e) core' (in_flight (w.link s e)) (in_flight (w.link s e))
        (in_flight (w.link e s)) out (flows.pairs s e h k) honest (λ l. sane.fresh s e h k l)
        (omega (arith, called_collects s k e (w.core e) c)) (omega (arith, called_parts s k e (w.core e) c)) refl
        (λ j p u got x i. called_since s k e (w.core e) c j p u got x i))

    from_e : (d : Endpoint) → is_same d e ≡ false →
        (k : ℕ) →
        Flowing V e d k core' (w.core d) (in_flight (accept_all w.link e out e d))
        (in_flight (accept_all w.link e out d e))
    from_e d h k =
        flowing_at V e d k core' (w.core d) (in_flight (w.link e d) ++ frames_to d out)
        (in_flight (accept_all w.link e out e d)) (in_flight (w.link d e)) (in_flight (accept_all w.link e out d e))
        (sym (flight_out w.link e d out sane.fits)) (sym (ap in_flight (link_else w.link e d e out h)))
        (from_more V e d k (w.core e) core' (w.core d) (in_flight (w.link e d)) (in_flight (w.link d e))
        (in_flight (w.link d e)) out (flows.pairs e d apart k) (λ l. sane.fresh e d apart k l)
        (omega (arith, called_length e (w.core e) c)) (called_envelopes d k e (w.core e) c)
        (called_flow d k e (w.core e) c) refl refl
        (let q : core'.known d.rank ≡ (w.core e).known d.rank = ap (λ (f : ℕ → ℕ). f d.rank) (called_known e (w.core e) c) in omega (arith, q))
        (λ basic values g o. called_keeps e (w.core e) c k d basic values o) (λ x. called_sends d k e (w.core e) c x))
      where
        apart : is_same e d ≡ false
        apart = same_sym e d ∙ h

-- where the links are as they were
still_flows : (V : Values) (w : Network) (e : Endpoint) (core' : Core) → Sane V w → HonestJobs V e core'.jobs →
    Fewer (w.core e).jobs core'.jobs → ((s : Endpoint) (k : ℕ) → parts s k core' ≤ parts s k (w.core e)) →
    length core'.jobs ≡ length (w.core e).jobs →
    ((r : ℕ) → (w.core e).known r ≤ core'.known r) →
    ((d : Endpoint) (k : ℕ) (basic : BasicType) (values : List ℕ) → core'.known d.rank ≤ d.incarnation →
    Offers (w.core e) k d basic values → Offers core' k d basic values) → (history : List Entry) → Flows V w →
    Flows V (record w { core = with_core w.core e core'; history = history })
still_flows V w e core' sane honest fewer less len knows keeps history flows =
    changed_flows V w e core' w.link flows
    (λ s h k. to_less V s e k (w.core s) (w.core e) core' (in_flight (w.link s e)) (in_flight (w.link e s))
    (flows.pairs s e h k) honest (λ l. sane.fresh s e h k l) fewer (less s k))
    (λ d h k.
    (let apart : is_same e d ≡ false = same_sym e d ∙ h in
    flowing_at V e d k core' (w.core d) (in_flight (w.link e d) ++ []) (in_flight (w.link e d)) (in_flight (w.link d e))
    (in_flight (w.link d e)) (append-nil (in_flight (w.link e d))) refl
    (from_more V e d k (w.core e) core' (w.core d) (in_flight (w.link e d)) (in_flight (w.link d e))
    (in_flight (w.link d e)) [] (flows.pairs e d apart k) (λ l. sane.fresh e d apart k l)
    (omega (arith, len)) (inl refl) refl refl refl (knows d.rank) (λ basic values g o. keeps d k basic values g o)
    (λ x. absurd (omega (arith, x))))))
    (λ x y hx hy. refl) (λ k. omega (arith, less e k, count_fewer e k (w.core e).jobs core'.jobs fewer)) history w.log

pub hear_flows : (V : Values) (w : Network) (e a : Endpoint) → Sane V w → Due w →
    HonestJobs V e (met (w.core e) a).jobs → Flows V w → Flows V (hear_at w e a)
hear_flows V w e a sane due honest flows =
    still_flows V w e (met (w.core e) a) sane honest (met_fewer (w.core e) a) (λ s k. met_parts s k (w.core e) a)
    (met_length (w.core e) a) (met_grows (w.core e) a)
    (λ d k basic values g o. met_keeps (w.core e) a k d basic values (due.named e k d basic values o).0 g o) w.history
    flows

pub settle_flows : (V : Values) (w : Network) (e : Endpoint) (history : List Entry) → Sane V w →
    HonestJobs V e (core_settled (w.core e)).jobs → Flows V w →
    Flows V (record w { core = with_core w.core e (core_settled (w.core e)); history = history })
settle_flows V w e history sane honest flows =
    still_flows V w e (core_settled (w.core e)) sane honest (fewer_settled (w.core e))
    (λ s k. (let p : parts s k (core_settled (w.core e)) ≡ parts s k (w.core e) = settled_parts s k (w.core e) in omega
    (arith, p))) (settled_length (w.core e))
    (λ r. (let q : (core_settled (w.core e)).known r ≡ (w.core e).known r = ap (λ (f : ℕ → ℕ). f r) (settled_known (w.core e)) in omega (arith, q)))
    (λ d k basic values g o. settled_keeps (w.core e) k d basic values o) history flows

-- A FRAME IS HANDED UP

-- data of this transfer are apart
abbrev IsBeside : Endpoint → ℕ → Endpoint → Frame → Type 0
IsBeside s k a (Eager c tag basic values) = Unit {0}
IsBeside s k a (Rts c tag basic i n) = Unit {0}
IsBeside s k a (Cts i w) = Unit {0}
IsBeside s k a (Data i o values) = (is_same a s && (k == i)) ≡ false

came_since_beside : (s : Endpoint) (k : ℕ) (core : Core) (a : Endpoint) (f : Frame) → IsBeside s k a f →
    (j : ℕ) (p : Receive) (u : Held) (got : List ℕ) → slice_get (came core a f).core.jobs j ≡
    Some (Collecting p u got) → is_collecting s k (Collecting p u got) ≡ true →
    CollectsSince s k core j p u got (came core a f).out
came_since_beside s k core a (Eager c tag basic values) b j p u got x i =
    came_since s k core a (Eager c tag basic values) j p u got tt x i
came_since_beside s k core a (Rts c tag basic t n) b j p u got x i =
    came_since s k core a (Rts c tag basic t n) j p u got tt x i
came_since_beside s k core a (Cts t w) b j p u got x i = came_since s k core a (Cts t w) j p u got tt x i
came_since_beside s k core a (Data t o values) b j p u got x i = inl (data_beside s k core a t o values b j p u got x i)

came_to : (V : Values) (s d : Endpoint) (k : ℕ) (from to : Core) (a : Endpoint) (f : Frame) (fs0 fs1 gs : List Frame) →
    Flowing V s d k from to fs0 gs → HonestJobs V d (came to a f).core.jobs →
    (length from.jobs ≤ k → tok s k to fs0 gs ≡ 0) →
    count (is_rts k) fs0 ≡ one (is_same a s && is_rts k f) + count (is_rts k) fs1 → flow k fs1 ≡ flow k fs0 →
    IsBeside s k a f → Flowing V s d k from (came to a f).core fs1 (gs ++ frames_to s (came to a f).out)
came_to V s d k from to a f fs0 fs1 gs F honest z r fl beside =
    to_more V s d k from to (came to a f).core fs0 fs1 gs (came to a f).out F honest z
    (omega (arith, r, came_collects s k to a f)) (omega (arith, r, came_parts s k to a f)) fl
    (came_since_beside s k to a f beside)

-- the first frame on its way from s
came_first : (V : Values) (s d : Endpoint) (k : ℕ) (from to : Core) (f : Frame) (fs gs : List Frame) →
    Flowing V s d k from to (f ∷ fs) gs → HonestJobs V d (came to s f).core.jobs →
    (length from.jobs ≤ k → tok s k to (f ∷ fs) gs ≡ 0) →
    Flowing V s d k from (came to s f).core fs (gs ++ frames_to s (came to s f).out)
came_first V s d k from to (Eager c tag basic values) fs gs F honest z =
    came_to V s d k from to s (Eager c tag basic values) (Eager c tag basic values ∷ fs) fs gs F honest z
    (omega (arith, one_false (is_same s s))) refl tt
came_first V s d k from to (Rts c tag basic i n) fs gs F honest z =
    (let b : one (is_same s s && (k == i)) ≡ one (k == i) = ap (λ (t : Bool). one (t && (k == i))) (same_refl s) in
    came_to V s d k from to s (Rts c tag basic i n) (Rts c tag basic i n ∷ fs) fs gs F honest z
    (omega (arith, b)) refl tt)
came_first V s d k from to (Cts i w) fs gs F honest z =
    came_to V s d k from to s (Cts i w) (Cts i w ∷ fs) fs gs F honest z (omega (arith, one_false (is_same s s))) refl tt
came_first V s d k from to (Data i o values) fs gs F honest z = go (k == i) refl
  where
    go : (t : Bool) → (k == i) ≡ t → Flowing V s d k from (came to s (Data i o values)).core fs (gs ++ [])
    go true q =
        let ki : k ≡ i = eqb-true k i q in
        let F' : Flowing V s d k from to (Data k o values ∷ fs) gs = subst (λ (n : ℕ). Flowing V s d k from to (Data n o values ∷ fs) gs) (sym ki) F in
        subst (λ (n : ℕ). Flowing V s d k from (collected to o values (collecting s n to.jobs)) fs (gs ++ [])) ki
        (flowing_at V s d k from (collected to o values (collecting s k to.jobs)) fs fs gs (gs ++ []) refl
        (sym (append-nil gs)) (to_data_same V s d k o values from to fs gs F'))
    go false q =
        let other : (is_same s s && (k == i)) ≡ false = rw q (and_false (is_same s s)) in
        came_to V s d k from to s (Data i o values) (Data i o values ∷ fs) fs gs F honest z
        (omega (arith, one_false (is_same s s))) (rw q refl) other
      where
        and_false : (t : Bool) → (t && false) ≡ false
        and_false true = refl
        and_false false = refl

-- a frame of another endpoint
beside_of : (s : Endpoint) (k : ℕ) (a : Endpoint) (f : Frame) → is_same a s ≡ false → IsBeside s k a f
beside_of s k a (Eager c tag basic values) h = tt
beside_of s k a (Rts c tag basic i n) h = tt
beside_of s k a (Cts i w) h = tt
beside_of s k a (Data i o values) h = rw h refl

-- what the sender of another transfer sends
came_flow_other : (d : Endpoint) (k : ℕ) (core : Core) (a : Endpoint) (f : Frame) →
    (is_same a d && is_cts k f) ≡ false → flow k (frames_to d (came core a f).out) ≡ []
came_flow_other d k core a (Eager c tag basic values) h = came_flow d k core a (Eager c tag basic values) tt
came_flow_other d k core a (Rts c tag basic i n) h = came_flow d k core a (Rts c tag basic i n) tt
came_flow_other d k core a (Cts i w) h = answered_flow_other d k core a i w (slice_get core.jobs i) h
came_flow_other d k core a (Data i o values) h = came_flow d k core a (Data i o values) tt

no_yes : (t : Bool) (k : ℕ) (f : Frame) → (t && is_cts k f) ≡ false → one (t && is_yes k f) ≡ 0
no_yes false k f h = refl
no_yes true k f h = let c : one (is_cts k f) ≡ 0 = ap one h in omega (arith, c, yes_one k f)

cts_is : (k : ℕ) (f : Frame) → is_cts k f ≡ true → (w : Bool) × (f ≡ Cts k w)
cts_is k (Eager c tag basic values) h = absurd (grind arith)
cts_is k (Rts c tag basic i n) h = absurd (grind arith)
cts_is k (Cts i w) h = (w, ap (λ (n : ℕ). Cts n w) (sym (eqb-true k i h)))
cts_is k (Data i o values) h = absurd (grind arith)

pub hand_flows : (V : Values) (w : Network) (e a : Endpoint) (f : Frame) → is_same a e ≡ false →
    slice_get (w.link a e).accepted (w.link a e).handed ≡ Some f → Sane V w →
    HonestJobs V e (came (w.core e) a f).core.jobs → Flows V w → Flows V (hand_at w e a (Some f))
hand_flows V w e a f apart next sane honest flows =
    changed_flows V w e core' (accept_all links1 e out) flows to_e from_e aside own w.history w.log
  where
    core' : Core
    core' = (came (w.core e) a f).core

    out : List (Endpoint × Frame)
    out = (came (w.core e) a f).out

    links1 : Endpoint → Endpoint → Link
    links1 = handed_on w.link a e

    fits1 : Fits links1
    fits1 = hand_fits w.link a e f next sane.fits

    own : (k : ℕ) → collects e k core' + parts e k core' ≤ collects e k (w.core e) + parts e k (w.core e)
    own k = let b : brings e k a f ≡ 0 = ap (λ (t : Bool). one (t && is_rts k f)) apart in omega
        (arith, b, came_collects e k (w.core e) a f)

    aside : (x y : Endpoint) → is_same x e ≡ false → is_same y e ≡ false → in_flight (accept_all links1 e out x y) ≡
        in_flight (w.link x y)
    aside x y hx hy = ap in_flight (link_else links1 e x y out hx ∙ hand_else w.link a e x y (go (is_same x a)))
      where
        go : (t : Bool) → (t && is_same y e) ≡ false
        go true = hy
        go false = refl

    -- the link from e is handed nothing up
    back : (x : Endpoint) → links1 e x ≡ w.link e x
    back x = hand_else w.link a e e x (apart_left e a x e (same_sym e a ∙ apart))

    to_e : (s : Endpoint) → is_same s e ≡ false →
        (k : ℕ) →
        Flowing V s e k (w.core s) core' (in_flight (accept_all links1 e out s e))
        (in_flight (accept_all links1 e out e s))
    to_e s h k =
        flowing_at V s e k (w.core s) core' (in_flight (links1 s e)) (in_flight (accept_all links1 e out s e))
        (in_flight (w.link e s) ++ frames_to s out) (in_flight (accept_all links1 e out e s))
        (sym (ap in_flight (link_else links1 e s e out h)))
        (sym (flight_out links1 e s out fits1 ∙ ap (λ (l : Link). in_flight l ++ frames_to s out) (back s)))
        (go (is_same a s) refl)
      where
        go : (t : Bool) → is_same a s ≡ t →
            Flowing V s e k (w.core s) core' (in_flight (links1 s e)) (in_flight (w.link e s) ++ frames_to s out)
        go false q =
            let same_link : in_flight (w.link s e) ≡ in_flight (links1 s e) = sym (ap in_flight (hand_else w.link a e s e (apart_left s a e e (same_sym s a ∙ q)))) in
            let F : Flowing V s e k (w.core s) (w.core e) (in_flight (links1 s e)) (in_flight (w.link e s)) = flowing_at V s e k (w.core s) (w.core e) (in_flight (w.link s e)) (in_flight (links1 s e)) (in_flight (w.link e s)) (in_flight (w.link e s)) same_link refl (flows.pairs s e h k) in
            let b : one (is_same a s && is_rts k f) ≡ 0 = ap (λ (t : Bool). one (t && is_rts k f)) q in
            came_to V s e k (w.core s) (w.core e) a f (in_flight (links1 s e)) (in_flight (links1 s e))
            (in_flight (w.link e s)) F honest
            (λ l. subst (λ (fs : List Frame). tok s k (w.core e) fs (in_flight (w.link e s)) ≡ 0) same_link
            (sane.fresh s e h k l)) (omega (arith, b)) refl (beside_of s k a f q)
        go true q =
            let sa : a ≡ s = same_eq a s q in
            let first : in_flight (w.link s e) ≡ f ∷ in_flight (links1 s e) = subst (λ (x : Endpoint). in_flight (w.link x e) ≡ f ∷ in_flight (links1 x e)) sa (hand_first w.link a e f next) in
            let F : Flowing V s e k (w.core s) (w.core e) (f ∷ in_flight (links1 s e)) (in_flight (w.link e s)) = flowing_at V s e k (w.core s) (w.core e) (in_flight (w.link s e)) (f ∷ in_flight (links1 s e)) (in_flight (w.link e s)) (in_flight (w.link e s)) first refl (flows.pairs s e h k) in
            let z : length (w.core s).jobs ≤ k → tok s k (w.core e) (f ∷ in_flight (links1 s e)) (in_flight (w.link e s)) ≡ 0 = λ l. subst (λ (fs : List Frame). tok s k (w.core e) fs (in_flight (w.link e s)) ≡ 0) first (sane.fresh s e h k l) in
            let honest' : HonestJobs V e (came (w.core e) s f).core.jobs = subst (λ (x : Endpoint). HonestJobs V e (came (w.core e) x f).core.jobs) sa honest in
            subst (λ (x : Endpoint). Flowing V s e k (w.core s) (came (w.core e) x f).core (in_flight (links1 s e))
            (in_flight (w.link e s) ++ frames_to s (came (w.core e) x f).out)) (sym sa)
            (came_first V s e k (w.core s) (w.core e) f (in_flight (links1 s e)) (in_flight (w.link e s)) F honest' z)

    from_e : (d : Endpoint) → is_same d e ≡ false →
        (k : ℕ) →
        Flowing V e d k core' (w.core d) (in_flight (accept_all links1 e out e d))
        (in_flight (accept_all links1 e out d e))
    from_e d h k =
        flowing_at V e d k core' (w.core d) (in_flight (w.link e d) ++ frames_to d out)
        (in_flight (accept_all links1 e out e d)) (in_flight (links1 d e)) (in_flight (accept_all links1 e out d e))
        (sym (flight_out links1 e d out fits1 ∙ ap (λ (l : Link). in_flight l ++ frames_to d out) (back d)))
        (sym (ap in_flight (link_else links1 e d e out h)))
        (go (is_same a d && is_cts k f) refl)
      where
        other : is_same e d ≡ false
        other = same_sym e d ∙ h

        known : (came (w.core e) a f).core.known ≡ (w.core e).known
        known = came_known (w.core e) a f

        go : (t : Bool) → (is_same a d && is_cts k f) ≡ t →
            Flowing V e d k core' (w.core d) (in_flight (w.link e d) ++ frames_to d out) (in_flight (links1 d e))
        go false q =
            let c0 : one (is_same a d && is_cts k f) ≡ 0 = ap one q in
            let env : envelopes d k out ≡ 0 = came_envelopes d k (w.core e) a f in
            from_more V e d k (w.core e) core' (w.core d) (in_flight (w.link e d)) (in_flight (w.link d e))
            (in_flight (links1 d e)) out (flows.pairs e d other k) (λ l. sane.fresh e d other k l)
            (omega (arith, came_length (w.core e) a f)) (inl env) (came_flow_other d k (w.core e) a f q)
            (omega (arith, taken_count (is_cts k) w.link a e d f next, c0))
            (omega (arith, taken_count (is_yes k) w.link a e d f next, no_yes (is_same a d) k f q))
            (let r : core'.known d.rank ≡ (w.core e).known d.rank = ap (λ (g : ℕ → ℕ). g d.rank) known in omega
            (arith, r))
            (λ basic values g o. came_keeps (w.core e) a f k d basic values q o) (λ x. absurd (omega (arith, x, env)))
        go true q = answer (cts_is k f p.1)
          where
            p : (is_same a d ≡ true) × (is_cts k f ≡ true)
            p = and_parts (is_same a d) (is_cts k f) q

            ad : a ≡ d
            ad = same_eq a d p.0

            answer : (x : Bool) × (f ≡ Cts k x) →
                Flowing V e d k core' (w.core d) (in_flight (w.link e d) ++ frames_to d out) (in_flight (links1 d e))
            answer x =
                let first : in_flight (w.link d e) ≡ Cts k x.0 ∷ in_flight (links1 d e) =
                subst (λ (y : Endpoint). in_flight (w.link y e) ≡ Cts k x.0 ∷ in_flight (links1 y e)) ad
                (subst (λ (g : Frame). in_flight (w.link a e) ≡ g ∷ in_flight (links1 a e)) x.1
                (hand_first w.link a e f next)) in
                let F : Flowing V e d k (w.core e) (w.core d) (in_flight (w.link e d)) (Cts k x.0 ∷ in_flight (links1 d e)) =
                flowing_at V e d k (w.core e) (w.core d) (in_flight (w.link e d)) (in_flight (w.link e d))
                (in_flight (w.link d e)) (Cts k x.0 ∷ in_flight (links1 d e)) refl first
                (flows.pairs e d other k) in
                let once : tok e k (w.core d) (in_flight (w.link e d)) (Cts k x.0 ∷ in_flight (links1 d e)) ≤ 1 = subst (λ (gs : List Frame). tok e k (w.core d) (in_flight (w.link e d)) gs ≤ 1) first (sane.once e d other k) in
                let z : length (w.core e).jobs ≤ k → tok e k (w.core d) (in_flight (w.link e d)) (Cts k x.0 ∷ in_flight (links1 d e)) ≡ 0 = λ l. subst (λ (gs : List Frame). tok e k (w.core d) (in_flight (w.link e d)) gs ≡ 0) first (sane.fresh e d other k l) in
                subst (λ (y : Endpoint). Flowing V e d k (came (w.core e) y f).core (w.core d)
                (in_flight (w.link e d) ++ frames_to d (came (w.core e) y f).out) (in_flight (links1 d e))) (sym ad)
                (subst (λ (g : Frame). Flowing V e d k (came (w.core e) d g).core (w.core d) (in_flight (w.link e d) ++
                frames_to d (came (w.core e) d g).out) (in_flight (links1 d e))) (sym x.1)
                (from_answered V e d k x.0 (w.core e) (w.core d) (in_flight (w.link e d)) (in_flight (links1 d e)) F
                (sane.cores e).jobs once z
                (came_known (w.core e) d (Cts k x.0)) (came_length (w.core e) d (Cts k x.0))
                (came_envelopes d k (w.core e) d (Cts k x.0))))
