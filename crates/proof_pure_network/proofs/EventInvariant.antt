-- A word, the settling and a restart keep what holds, and so does a whole event.
use Rattle.std.proofs.Common.{◌≡◌, ℕ, zero, suc, ◌+◌, ◌≤◌, ◌<◌, ◌≢◌, Bool, true, false, ◌&&◌, List, [], ◌∷◌, ◌++◌}
use Rattle.std.proofs.Common.{length, Option, Some, None, cond, if◌then◌else◌, ◌==◌, slice_get, map, filter, refl, sym}
use Rattle.std.proofs.Common.{ap, ap₂, ◌∙◌, subst, arith, le_trans, option_map, nat_lt, is_none}
use Rattle.std.specs.List.{AllByRecursion}
use mathlib.Core.Path.{fun_ext}
use Rattle.std.proofs.lemmas.Bool.{eq-eqb, eqb-true, and_parts, and_from, ltb-true, ltb-false, le-ltb}
use Rattle.std.proofs.lemmas.List.{length-map}
use Rattle.std.proofs.lemmas.Option.{slice_get-map}
use Rattle.perfect_queues.specs.Calls.{Call, Cancel, Improbe, Iprobe, Irecv, Isend, Mrecv, Reply, Started, Test, Wait}
use Rattle.perfect_queues.specs.Calls.{after_settling, immediate_reply, ready_answer, test_reply}
use Rattle.perfect_queues.specs.Completions.{Answer, One, completion}
use Rattle.vocabulary.specs.Endpoints.{is_same}
use Rattle.perfect_queues.specs.Events.{Entry, Restarted, call_and_reply, call_fault, start, told}
use Rattle.perfect_queues.specs.Messages.{Message}
use Rattle.perfect_queues.specs.Outcomes.{Outcome}
use Rattle.perfect_queues.specs.Refusals.{Standing, fault, fault_by, is_held, standing}
use Rattle.perfect_queues.specs.Requests.{Request, TakenOut}
use Rattle.perfect_queues.specs.Runs.{after_run}
use Rattle.perfect_queues.specs.State.{Local, State, knows_at_first, opening, with_local, with_number}
use Rattle.perfect_queues.specs.Steps.{steps_at}
use Rattle.vocabulary.specs.declared.endpoint.Endpoint.{Endpoint}
use Rattle.proof_pure_network.specs.Contract.{Came}
use Rattle.proof_pure_network.specs.Core.{Core, NoneFits, is_of, new_core, view}
use Rattle.proof_pure_network.specs.Engine.{called, came, core_ready, core_settled, met}
use Rattle.proof_pure_network.specs.Frames.{Cts, Data, Eager, Frame, Rts, Values}
use Rattle.proof_pure_network.specs.WaitingMessages.{Body, Held, Own, Part, Whole, blank, body_request, fill, is_part}
use Rattle.proof_pure_network.specs.Jobs.{Closed, Collecting, Job, Offering, Over, Probed, Unmatched, Waiting}
use Rattle.proof_pure_network.specs.Jobs.{request_of}
use Rattle.proof_pure_network.specs.Links.{Link, accept_all, handed_on, in_flight}
use Rattle.proof_pure_network.specs.Network.{Network, ask, call_at, hand_at, hand_some, hear_at, settle_at, with_core}
use Rattle.proof_pure_network.specs.Network.{word}
use Rattle.proof_pure_network.proofs.CallInvariant.{call_logged, call_sane, call_spelled, heard_at}
use Rattle.proof_pure_network.proofs.DueSends.{call_due, hand_due, hear_due, settle_due}
use Rattle.proof_pure_network.proofs.Counts.{IsMine, IsMineBody, OwnCore, taken_is}
use Rattle.proof_pure_network.proofs.EngineSteps.{count_none, probed_job}
use Rattle.proof_pure_network.proofs.Own.{came_own, met_own, settled_own}
use Rattle.perfect_queues.proofs.EndpointLemmas.{same_eq, same_refl}
use Rattle.vocabulary.specs.Endpoints.{is_former}
use Rattle.proof_pure_network.proofs.EngineWork.{call_work, came_work, hear_work, view_settled}
use Rattle.proof_pure_network.proofs.FlowInvariant.{call_flows, hand_flows, hear_flows, settle_flows}
use Rattle.proof_pure_network.proofs.Honest.{HonestOut, IsLogged, called_honest, came_honest, came_out, met_honest}
use Rattle.proof_pure_network.proofs.Honest.{settled_honest}
use Rattle.proof_pure_network.proofs.HonestValues.{HonestCore, IsHonest}
use Rattle.proof_pure_network.proofs.Invariants.{AllHonest, Doing, Extends, Kept, KnownBelow, NoneFrom, Sane}
use Rattle.proof_pure_network.proofs.Invariants.{accept_honest, accept_none, all_at, each_core, hand_all, hand_none}
use Rattle.proof_pure_network.proofs.Invariants.{views, views_with}
use Rattle.proof_pure_network.proofs.JobLemmas.{All_append, finished_same, ready_core, settled_known}
use Rattle.proof_pure_network.proofs.Joins.{Answers, Follows, Joined, Midway, Seen, ask_works, hand_works, hear_works}
use Rattle.proof_pure_network.proofs.Joins.{restart_follows, seen_more, settle_follows, word_starts}
use Rattle.proof_pure_network.proofs.Knowledge.{came_known, met_below, met_live}
use Rattle.proof_pure_network.proofs.Links.{among, coming}
use Rattle.proof_pure_network.proofs.NoneFits.{came_quiet, met_quiet, settled_quiet}
use Rattle.proof_pure_network.proofs.Pairs.{core_here, each_pair, hand_first, hand_fits, token, token_bring, token_else}
use Rattle.proof_pure_network.proofs.Pairs.{token_from, token_hand, token_here}
use Rattle.proof_pure_network.proofs.Simulation.{is_stale, yet}
use Rattle.proof_pure_network.proofs.SpeakerInvariant.{call_spoken, hand_spoken, hear_spoken, settle_spoken}
use Rattle.proof_pure_network.proofs.Tokens.{Fits, accept_all_fits, answers, brings, came_envelopes, came_length}
use Rattle.proof_pure_network.proofs.Tokens.{came_parts, count, envelopes, is_cts, is_part_from, is_rts, met_length}
use Rattle.proof_pure_network.proofs.Tokens.{met_parts, one, parts, same_sym, settled_length, settled_parts}
use Rattle.proof_pure_network.proofs.Tellings.{IsKnown, met_knows}

pub call_doing : (n : ℕ) (V : Values) (w : Network) (e : Endpoint) (c : Call) → e.incarnation ≡ w.current e.rank →
    Extends V (call_at w e c) → Kept n V w → Doing n V w (call_at w e c) e (Some c)
call_doing n V w e c now x k =
    let is : IsLogged V e (w.core e) c = call_logged V w e c k.sane x in
    record {
      sane = call_sane V w e c now is k.sane;
      due = call_due V w e c k.sane k.due;
      flows = call_flows V w e c k.sane (called_honest V e (w.core e) c is (k.sane.cores e)).jobs k.flows;
      spoken = call_spoken w e c k.spoken;
      before = k.seen;
      mid = subst
          (λ (locals : Endpoint → Local). Midway V (after_run (opening w.message_limit) k.seen.events) e (Some c) locals
          (accept_all w.link e (called e (w.core e) c).out) w.current)
          (sym (views_with V w.core e (called e (w.core e) c).core))
          (ask_works V (after_run (opening w.message_limit) k.seen.events) (views V w) w.link w.current e c
          (view V (called e (w.core e) c).core) (called e (w.core e) c).out k.seen.joined
          (heard_at V w e now k.sane) (call_spelled V e (w.core e) c is)
          (call_work V e (w.core e) c (k.sane.cores e) (k.sane.own e) (k.sane.none_fits e)));
    }

-- an event keeps what holds of the world where its parts do
pub changed_sane : (V : Values) (w : Network) (e : Endpoint) (core' : Core) (links1 : Endpoint → Endpoint → Link)
    (out : List (Endpoint × Frame)) (bring : Endpoint → ℕ → ℕ) → e.incarnation ≡ w.current e.rank → Sane V w →
    NoneFits core' → KnownBelow w.current core' → HonestCore V e core' → OwnCore e core' →
    length core'.jobs ≡ length (w.core e).jobs →
    NoneFrom w.current links1 → Fits links1 → AllHonest V links1 → HonestOut V e out →
    ((d : Endpoint) (k : ℕ) → envelopes d k out ≡ 0) →
    ((s : Endpoint) (k : ℕ) → parts s k core' + answers s k out ≤ parts s k (w.core e) + bring s k) →
    ((s d : Endpoint) (k : ℕ) → token w.core links1 s d k ≤ token w.core w.link s d k) →
    ((s : Endpoint) (k : ℕ) → token w.core links1 s e k + bring s k ≤ token w.core w.link s e k) →
    Sane V (record {
      core = with_core w.core e core';
      link = accept_all links1 e out;
      current = w.current;
      history =
          w.history;
      log = w.log;
      message_limit = w.message_limit;
    })
changed_sane V w e core' links1 out bring now sane quiet below honest mine same_length none fits frames honest_out
    no_rts parts_le less brought =
    record {
      none_fits = each_core (λ x core. NoneFits core) w.core e core' sane.none_fits quiet;
      known = each_core (λ x core. x.incarnation ≤ w.current x.rank → KnownBelow w.current core) w.core e core'
          sane.known (λ le. below);
      unborn = each_core (λ x core. w.current x.rank < x.incarnation → core ≡ new_core w.message_limit x) w.core e
          core' sane.unborn
          (λ late. absurd (omega arith));
      unsent = accept_none w.current links1 e out now none;
      logs = each_core (λ x core. length (w.log x) ≡ length core.jobs) w.core e core' sane.logs
          (sane.logs e ∙ sym same_length);
      fits = accept_all_fits links1 e out fits;
      cores = each_core (λ x core. HonestCore V x core) w.core e core' sane.cores honest;
      own = each_core (λ x core. OwnCore x core) w.core e core' sane.own mine;
      frames = accept_honest (IsHonest V) links1 e out frames honest_out;
      once = λ s d apart k. le_trans (le s d apart k) (sane.once s d apart k);
      fresh = λ s d apart k l. fresh s d apart k l;
    }
  where
    core2 : Endpoint → Core
    core2 = with_core w.core e core'

    le : (s d : Endpoint) → is_same s d ≡ false →
        (k : ℕ) → token core2 (accept_all links1 e out) s d k ≤ token w.core w.link s d k
    le = each_pair e (λ s d. (k : ℕ) → token core2 (accept_all links1 e out) s d k ≤ token w.core w.link s d k)
        (λ s h k.
        (let b : token w.core links1 s e k + bring s k ≤ token w.core w.link s e k = brought s k in omega
        (arith, token_here w.core links1 e core' out s k (bring s k) fits h (parts_le s k), b)))
        (λ d h k.
        (let b : token w.core links1 e d k ≤ token w.core w.link e d k = less e d k in omega
        (arith, token_from w.core links1 e core' out d k fits h, no_rts d k, b)))
        (λ s d hs hd apart k.
        (let b : token w.core links1 s d k ≤ token w.core w.link s d k = less s d k in omega
        (arith, token_else w.core links1 e core' out s d k hs hd, b)))

    longer : (s : Endpoint) → length (core2 s).jobs ≡ length (w.core s).jobs
    longer = each_core (λ x core. length core.jobs ≡ length (w.core x).jobs) w.core e core' (λ x. refl) same_length

    fresh : (s d : Endpoint) → is_same s d ≡ false → (k : ℕ) → length (core2 s).jobs ≤ k →
        token core2 (accept_all links1 e out) s d k ≡ 0
    fresh s d apart k l =
        let o : token w.core w.link s d k ≡ 0 = sane.fresh s d apart k (omega (arith, longer s)) in
        let p : token core2 (accept_all links1 e out) s d k ≤ token w.core w.link s d k = le s d apart k in omega arith

-- no endpoint that was there is a follower of a current one
not_former : (e a : Endpoint) (cur : ℕ) → (a.rank ≡ e.rank → e.incarnation ≡ cur) → a.incarnation ≤ cur →
    is_former a.rank a.incarnation e ≡ false
not_former e a cur now le = go (e.rank == a.rank) refl
  where
    go : (t : Bool) → (e.rank == a.rank) ≡ t → (t && nat_lt e.incarnation a.incarnation) ≡ false
    go false h = refl
    go true h = let n : e.incarnation ≡ cur = now (sym (eqb-true e.rank a.rank h)) in le-ltb e.incarnation a.incarnation
        (omega arith)

pub hear_sane : (V : Values) (w : Network) (e a : Endpoint) → e.incarnation ≡ w.current e.rank →
    a.incarnation ≤ w.current a.rank → Sane V w → Sane V (hear_at w e a)
hear_sane V w e a now below sane =
    changed_sane V w e (met (w.core e) a) w.link [] (λ s k. 0) now sane (met_quiet (w.core e) a (sane.none_fits e))
    (met_below w.current (w.core e) a below (sane.known e (omega arith)))
    (met_honest V e (w.core e) a (sane.cores e))
    (met_own e (w.core e) a (not_former e a (w.current a.rank) (λ same. now ∙ ap w.current (sym same)) below)
    (sane.own e)) (met_length (w.core e) a)
    sane.unsent sane.fits sane.frames tt (λ d k. refl)
    (λ s k. (let m : parts s k (met (w.core e) a) ≤ parts s k (w.core e) = met_parts s k (w.core e) a in omega
    arith)) (λ s d k. omega arith) (λ s k. omega arith)

pub hand_sane : (V : Values) (w : Network) (e a : Endpoint) (f : Frame) → e.incarnation ≡ w.current e.rank →
    is_same a e ≡ false → slice_get (w.link a e).accepted (w.link a e).handed ≡ Some f → Sane V w →
    Sane V (hand_at w e a (Some f))
hand_sane V w e a f now apart next sane =
    changed_sane V w e (came (w.core e) a f).core (handed_on w.link a e) (came (w.core e) a f).out
    (λ s k. brings s k a f) now sane (came_quiet (w.core e) a f (sane.none_fits e))
    (λ r. subst (λ (g : ℕ → ℕ). g r ≤ w.current r) (sym (came_known (w.core e) a f)) (sane.known e (omega arith) r))
    (came_honest V e (w.core e) a f honest (sane.cores e)) (came_own e (w.core e) a f apart (sane.own e))
    (came_length (w.core e) a f)
    (hand_none w.current w.link a e sane.unsent) (hand_fits w.link a e f next sane.fits)
    (hand_all (IsHonest V) w.link a e sane.frames) (came_out V e (w.core e) a f (sane.cores e))
    (λ d k. came_envelopes d k (w.core e) a f)
    (λ s k. (let p : parts s k (came (w.core e) a f).core + answers s k (came (w.core e) a f).out ≡ parts s k (w.core e) + brings s k a f = came_parts s k (w.core e) a f in omega arith))
    (λ s d k. token_hand w.core w.link a e s d k f next) (λ s k. token_bring w.core w.link a e s k f next)
  where
    honest : IsHonest V a f
    honest = all_at (IsHonest V a) (w.link a e).accepted (w.link a e).handed f (sane.frames a e) next

pub hear_doing : (n : ℕ) (V : Values) (w0 w : Network) (e a : Endpoint) (call : Option Call) →
    e.incarnation ≡ w.current e.rank → a.incarnation ≤ w.current a.rank → Doing n V w0 w e call →
    Doing n V w0 (hear_at w e a) e call
hear_doing n V w0 w e a call now below d =
    record {
      sane = hear_sane V w e a now below d.sane;
      due = hear_due V w e a d.sane d.due;
      flows = hear_flows V w e a d.sane d.due (met_honest V e (w.core e) a (d.sane.cores e)).jobs d.flows;
      spoken = hear_spoken w e a d.spoken;
      before = d.before;
      mid = subst
          (λ (locals : Endpoint → Local). Midway V (after_run (opening w.message_limit) d.before.events) e call locals
          w.link w.current)
          (sym (views_with V w.core e (met (w.core e) a)))
          (hear_works V (after_run (opening w.message_limit) d.before.events) call (views V w) w.link w.current a e
          (view V (met (w.core e) a)) [] d.mid below (hear_work V e (w.core e) a));
    }

-- where no envelope of transfer k is, no message of it stands
-- a message that e holds of another endpoint s is of its request k only if it is the envelope of that transfer
isnt_of : (e s : Endpoint) (k : ℕ) (x : Held) → is_same e s ≡ false → IsMine e x → one (is_part_from s k x) ≡ 0 →
    x.sender ≡ s → body_request x.body ≡ Some k → ⊥
isnt_of e s k x apart mine none from r = go x.body refl mine r
  where
    go : (b : Body) → x.body ≡ b → IsMineBody e x.sender b → body_request b ≡ Some k → ⊥
    go (Whole values) q m r = absurd (grind arith)
    go (Own j values) q m r =
        let z : e ≡ s = sym m ∙ from in
        let t : is_same e s ≡ true = subst (λ (y : Endpoint). is_same e y ≡ true) z (same_refl e) in absurd
        (grind arith)
    go (Part j n) q m r =
        let kj : j ≡ k = grind arith in
        let u : is_same x.sender s ≡ true = subst (λ (y : Endpoint). is_same y s ≡ true) (sym from) (same_refl s) in
        let t : is_part_from s k x ≡ true = and_from (is_same x.sender s) (is_part k x.body) u (ap (is_part k) q ∙ eq-eqb k j (sym kj)) in
        let o : one (is_part_from s k x) ≡ 1 = ap one t in
        omega arith

pub no_held : (V : Values) (e s : Endpoint) (c k : ℕ) (hs : List Held) → is_same e s ≡ false →
    AllByRecursion (IsMine e) hs → count (is_part_from s k) hs ≡ 0 →
    AllByRecursion (λ m. m.request ≢ Some k) (filter (is_of s c) (map (fill V) hs))
no_held V e s c k [] apart mine h = tt
no_held V e s c k (x ∷ hs) apart mine h =
    go (is_of s c (fill V x)) refl (no_held V e s c k hs apart mine.1 (omega arith))
  where
    none : one (is_part_from s k x) ≡ 0
    none = omega arith

    go : (t : Bool) → is_of s c (fill V x) ≡ t →
        AllByRecursion (λ m. m.request ≢ Some k) (filter (is_of s c) (map (fill V) hs)) →
        AllByRecursion (λ m. m.request ≢ Some k)
        (cond t (fill V x ∷ filter (is_of s c) (map (fill V) hs)) (filter (is_of s c) (map (fill V) hs)))
    go false u rest = rest
    go true u rest = (
      λ r. isnt_of e s k x apart mine.0 none
          (sym (same_eq s x.sender (and_parts (is_same s x.sender) (c == x.context) u).0)) r,
      rest,
    )

-- nor is one that was taken out
pub no_taken : (V : Values) (e s : Endpoint) (k : ℕ) (core : Core) → is_same e s ≡ false →
    count (taken_is (is_part_from s k)) core.jobs ≡ 0 → OwnCore e core →
    (n : ℕ) (g : Option (List ℕ)) (m : Message) → slice_get (map (request_of V) core.jobs) n ≡
    Some (TakenOut g (Some m)) → m.sender ≡ s → m.request ≢ Some k
no_taken V e s k core apart none own n g m h from =
    let u = probed_job V (slice_get core.jobs n) g m (sym (slice_get-map (request_of V) core.jobs n) ∙ h) in
    let z : one (is_part_from s k u.0) ≡ 0 = count_none (taken_is (is_part_from s k)) core.jobs n (Probed g (Some u.0)) none u.1 in
    λ r. isnt_of e s k u.0 apart (own.taken n g u.0 u.1) z (ap (λ (y : Message). y.sender) u.2 ∙ from)
    (ap (λ (y : Message). y.request) u.2 ∙ r)

pub no_flying : (V : Values) (s : Endpoint) (c k : ℕ) (fs : List Frame) → count (is_rts k) fs ≡ 0 →
    AllByRecursion (λ m. m.request ≢ Some k) (among V s c fs)
no_flying V s c k [] h = tt
no_flying V s c k (Cts j w ∷ fs) h = no_flying V s c k fs (omega arith)
no_flying V s c k (Data j o values ∷ fs) h = no_flying V s c k fs (omega arith)
no_flying V s c k (Eager x tag basic values ∷ fs) h = go (c == x) (no_flying V s c k fs (omega arith))
  where
    go : (t : Bool) → AllByRecursion (λ m. m.request ≢ Some k) (among V s c fs) →
        AllByRecursion (λ m. m.request ≢ Some k)
        (cond t (record { sender = s; context = x; tag = tag; basic = basic; values = values; request = None } ∷
        among V s c fs) (among V s c fs))
    go false rest = rest
    go true rest = ((λ r. absurd (grind arith)), rest)
no_flying V s c k (Rts x tag basic j n ∷ fs) h = go (c == x) (no_flying V s c k fs (omega arith))
  where
    none : one (k == j) ≡ 0
    none = omega arith

    go : (t : Bool) → AllByRecursion (λ m. m.request ≢ Some k) (among V s c fs) →
        AllByRecursion (λ m. m.request ≢ Some k)
        (cond t (record { sender = s; context = x; tag = tag; basic = basic; values = V s j; request = Some j } ∷
        among V s c fs) (among V s c fs))
    go false rest = rest
    go true rest = ((λ r. bad r), rest)
      where
        bad : Some j ≡ Some k → ⊥
        bad r =
            let kj : j ≡ k = grind arith in
            let o : one (k == j) ≡ 1 = ap one (eq-eqb k j (sym kj)) in
            omega arith

pub yet_all : (P : Message → Type 0) (known : ℕ → ℕ) (rest : Endpoint → ℕ → List Message) (s : Endpoint) (c : ℕ) →
    AllByRecursion P (rest s c) → AllByRecursion P (yet known rest s c)
yet_all P known rest s c a = go (is_stale known s)
  where
    go : (t : Bool) → AllByRecursion P (if t then [] else rest s c)
    go true = tt
    go false = a

-- so an answer comes only to a send whose message was matched
pub answers_hold : (V : Values) (w : Network) (s : State) (a e : Endpoint) (f : Frame) → is_same a e ≡ false →
    slice_get (w.link a e).accepted (w.link a e).handed ≡ Some f → Sane V w → Joined V s (views V w) w.link w.current →
    Answers s e (Came a f)
answers_hold V w s a e f apart next sane j x k b is =
    let fk : f ≡ Cts k b = cc in
    let ax : a ≡ x = cc in
    let ax' : is_same x e ≡ false = subst (λ (y : Endpoint). is_same y e ≡ false) ax apart in
    let t : token w.core w.link e x k ≤ 1 = sane.once e x (same_sym e x ∙ ax') k in
    let nx : slice_get (w.link x e).accepted (w.link x e).handed ≡ Some (Cts k b) = subst (λ (y : Endpoint). slice_get (w.link y e).accepted (w.link y e).handed ≡ Some (Cts k b)) ax (next ∙ ap (λ (g : Frame). Some g) fk) in
    let fl : count (is_cts k) (in_flight (w.link x e)) ≡ one (k == k) + count (is_cts k) (in_flight (handed_on w.link x e x e)) = ap (count (is_cts k)) (hand_first w.link x e (Cts k b) nx) in
    let kk : one (k == k) ≡ 1 = ap one (eq-eqb k k refl) in
    let r0 : count (is_rts k) (in_flight (w.link e x)) ≡ 0 = omega (arith, t, fl, kk) in
    let p0 : parts e k (w.core x) ≡ 0 = omega (arith, t, fl, kk) in
    let h0 : count (is_part_from e k) (w.core x).held ≡ 0 = omega (arith, p0) in
    let j0 : count (taken_is (is_part_from e k)) (w.core x).jobs ≡ 0 = omega (arith, p0) in (
      ax',
      record {
        not_taken_out =
            λ n g m h from. no_taken V x e k (w.core x) ax' j0 (sane.own x) n g m
            (ap (λ (rs : List Request). slice_get rs n) (sym (j.each x).requests) ∙ h) from;
        not_pending =
            λ c. subst (λ (ms : List Message). AllByRecursion (λ m. m.request ≢ Some k) ms) (sym ((j.each x).queue e c))
            (All_append (λ m. m.request ≢ Some k) (filter (is_of e c) (map (fill V) (w.core x).held))
            (yet (w.core x).known (coming V (λ y. w.link y x)) e c)
            (no_held V x e c k (w.core x).held ax' (sane.own x).mine h0)
            (yet_all (λ m. m.request ≢ Some k) (w.core x).known (coming V (λ y. w.link y x)) e c
            (no_flying V e c k (in_flight (w.link e x)) r0)));
      },
    )

pub hand_doing : (n : ℕ) (V : Values) (w0 w : Network) (e a : Endpoint) (call : Option Call) (f : Frame) →
    e.incarnation ≡ w.current e.rank → is_same a e ≡ false → is_stale (w.core e).known a ≡ false →
    IsKnown (w.core e).known a → slice_get (w.link a e).accepted (w.link a e).handed ≡ Some f → Doing n V w0 w e call →
    Doing n V w0 (hand_at w e a (Some f)) e call
hand_doing n V w0 w e a call f now apart live heard next d =
    record {
      sane = hand_sane V w e a f now apart next d.sane;
      due = hand_due V w e a f apart next d.sane d.due;
      flows = hand_flows V w e a f apart next d.sane
          (came_honest V e (w.core e) a f
          (all_at (IsHonest V a) (w.link a e).accepted (w.link a e).handed f (d.sane.frames a e) next)
          (d.sane.cores e)).jobs d.flows;
      spoken = hand_spoken w e a f heard d.spoken;
      before = d.before;
      mid = subst
          (λ (locals : Endpoint → Local). Midway V st e call locals
          (accept_all (handed_on w.link a e) e (came (w.core e) a f).out) w.current)
          (sym (views_with V w.core e (came (w.core e) a f).core))
          (hand_works V st call (views V w) w.link w.current a e f (view V (came (w.core e) a f).core)
          (came (w.core e) a f).out d.mid live next
          (answers_hold V w (steps_at (start st e call) e d.mid.steps) a e f apart next d.sane d.mid.joined)
          (came_work V e (w.core e) a f
          (all_at (IsHonest V a) (w.link a e).accepted (w.link a e).handed f (d.sane.frames a e) next)
          (d.sane.cores e) (d.sane.none_fits e)));
    }
  where
    st : State
    st = after_run (opening w.message_limit) d.before.events

-- as many frames as the link has
pub hand_some_doing : (n : ℕ) (V : Values) (w0 : Network) (frames : ℕ) (w : Network) (e a : Endpoint)
    (call : Option Call) → e.incarnation ≡ w.current e.rank → is_same a e ≡ false →
    is_stale (w.core e).known a ≡ false → IsKnown (w.core e).known a → Doing n V w0 w e call →
    Doing n V w0 (hand_some w e a frames) e call
hand_some_doing n V w0 zero w e a call now apart live heard d = d
hand_some_doing n V w0 (suc frames) w e a call now apart live heard d =
    go (slice_get (w.link a e).accepted (w.link a e).handed) refl
    (λ w1 n1 l1 h1 d1. hand_some_doing n V w0 frames w1 e a call n1 apart l1 h1 d1)
  where
    go : (o : Option Frame) → slice_get (w.link a e).accepted (w.link a e).handed ≡ o →
        ((w1 : Network) → e.incarnation ≡ w1.current e.rank → is_stale (w1.core e).known a ≡ false →
        IsKnown (w1.core e).known a → Doing n V w0 w1 e call → Doing n V w0 (hand_some w1 e a frames) e call) →
        Doing n V w0 (hand_some (hand_at w e a o) e a frames) e call
    go None h ih = ih w now live heard d
    go (Some f) h ih =
        ih (hand_at w e a (Some f)) now (still (λ g. is_stale g a ≡ false) live) (still (λ g. IsKnown g a) heard)
        (hand_doing n V w0 w e a call f now apart live heard h d)
      where
        still : (P : (ℕ → ℕ) → Type 0) → P (w.core e).known → P (with_core w.core e (came (w.core e) a f).core e).known
        still P x =
            subst (λ (core : Core). P core.known) (sym (core_here w.core e (came (w.core e) a f).core))
            (subst P (sym (came_known (w.core e) a f)) x)

pub settle_sane : (V : Values) (w : Network) (e : Endpoint) (history : List Entry) → e.incarnation ≡ w.current e.rank →
    Sane V w → Sane V (record w { core = with_core w.core e (core_settled (w.core e)); history = history })
settle_sane V w e history now sane =
    record {
      none_fits = s.none_fits;
      known = s.known;
      unborn = s.unborn;
      unsent = s.unsent;
      logs = s.logs;
      fits =
          s.fits;
      cores = s.cores;
      own = s.own;
      frames = s.frames;
      once = s.once;
      fresh = s.fresh;
    }
  where
    s : Sane V (record {
      core = with_core w.core e (core_settled (w.core e));
      link = w.link;
      current =
          w.current;
      history = w.history;
      log = w.log;
      message_limit = w.message_limit;
    })
    s = changed_sane V w e (core_settled (w.core e)) w.link [] (λ s k. 0) now sane
        (settled_quiet (w.core e) (sane.none_fits e))
        (λ r. subst (λ (g : ℕ → ℕ). g r ≤ w.current r) (sym (settled_known (w.core e))) (sane.known e (omega arith) r))
        (settled_honest V e (w.core e) (sane.cores e)) (settled_own e (w.core e) (sane.own e))
        (settled_length (w.core e)) sane.unsent sane.fits sane.frames tt (λ d k. refl)
        (λ x k. (let p : parts x k (core_settled (w.core e)) ≡ parts x k (w.core e) = settled_parts x k (w.core e) in
        omega arith)) (λ x d k. omega arith) (λ x k. omega arith)

pub outcome_standing : (V : Values) (o : Option Job) → standing (option_map (request_of V) o) ≡
    standing (option_map (request_of blank) o)
outcome_standing V None = refl
outcome_standing V (Some (Waiting p)) = refl
outcome_standing V (Some (Collecting p h got)) = refl
outcome_standing V (Some (Offering d basic values)) = refl
outcome_standing V (Some (Over o)) = refl
outcome_standing V (Some Closed) = refl
outcome_standing V (Some (Unmatched d0)) = refl
outcome_standing V (Some (Probed g0 o0)) = refl

abbrev pub standings : Values → List Job → ℕ → Standing
standings V js k = standing (slice_get (map (request_of V) js) k)

pub standing_same : (V : Values) (js : List Job) → standings V js ≡ standings blank js
standing_same V js =
    fun_ext (λ k. ap standing (slice_get-map (request_of V) js k) ∙
    (outcome_standing V (slice_get js k) ∙ ap standing (sym (slice_get-map (request_of blank) js k))))

pub fault_blank : (V : Values) (n : ℕ) (core : Core) (c : Call) → fault n (view V core) c ≡ fault n (view blank core) c
fault_blank V n core c =
    ap (λ (f : ℕ → Standing). fault_by n core.message_limit (is_held core.blocked) f c) (standing_same V core.jobs)

pub asked_blank : (V : Values) (core : Core) (c : Call) → immediate_reply (view V core) c ≡
    immediate_reply (view blank core) c
asked_blank V core (Isend mode c to tag from) =
    ap (λ (k : ℕ). Some (Started k)) (length-map core.jobs (request_of V) ∙
    sym (length-map core.jobs (request_of blank)))
asked_blank V core (Irecv p) =
    ap (λ (k : ℕ). Some (Started k)) (length-map core.jobs (request_of V) ∙
    sym (length-map core.jobs (request_of blank)))
asked_blank V core (Wait a) = refl
asked_blank V core (Test r) =
    ap (λ (f : ℕ → Option Outcome). Some (test_reply (completion f (One r)))) (finished_same V core.jobs ∙
    sym (finished_same blank core.jobs))
asked_blank V core (Cancel r) = refl
asked_blank V core (Iprobe q) = refl
asked_blank V core (Improbe q) = refl
asked_blank V core (Mrecv k into) = refl

pub asked_view : (V : Values) (core : Core) (call : Option Call) → call_and_reply (view V core) call ≡
    call_and_reply (view blank core) call
asked_view V core None = refl
asked_view V core (Some c) = ap (λ (r : Option Reply). Some (c, r)) (asked_blank V core c)

pub settle_kept : (n : ℕ) (V : Values) (w0 w : Network) (e : Endpoint) (call : Option Call) → Doing n V w0 w e call →
    e.rank < n → w.current ≡ w0.current → e.incarnation ≡ w.current e.rank → call_fault n (view V (w0.core e)) call ≡
    None → Kept n V (settle_at w e (call_and_reply (view blank (w0.core e)) call))
settle_kept n V w0 w e call d lt cur now fit =
    record {
      sane = settle_sane V w e
          (w.history ++ told e (call_and_reply (view blank (w0.core e)) call) (core_ready (w.core e))) now d.sane;
      due = settle_due V w e
          (w.history ++ told e (call_and_reply (view blank (w0.core e)) call) (core_ready (w.core e))) d.sane d.due;
      flows = settle_flows V w e
          (w.history ++ told e (call_and_reply (view blank (w0.core e)) call) (core_ready (w.core e))) d.sane
          (settled_honest V e (w.core e) (d.sane.cores e)).jobs d.flows;
      spoken = settle_spoken w e
          (w.history ++ told e (call_and_reply (view blank (w0.core e)) call) (core_ready (w.core e))) d.spoken;
      seen = subst
          (λ (locals : Endpoint → Local). Seen V n w.message_limit
          (w.history ++ told e (call_and_reply (view blank (w0.core e)) call) (core_ready (w.core e))) locals w.link
          w.current) (sym (views_with V w.core e (core_settled (w.core e))))
          (seen_more V n w.message_limit w.history (views V w0)
          (with_local (views V w) e (view V (core_settled (w.core e)))) w0.link
          w.link w0.current w.current
          (told e (call_and_reply (view blank (w0.core e)) call) (core_ready (w.core e))) d.before
          (subst (λ (l : Local). Follows V n st (with_local (views V w) e l) w.link w.current
          (told e (call_and_reply (view blank (w0.core e)) call) (core_ready (w.core e))))
          (sym (view_settled V (w.core e)))
          (subst (λ (es : List Entry). Follows V n st (with_local (views V w) e (after_settling (view V (w.core e))))
          w.link w.current es) same_told
          (settle_follows V n st call (views V w) (views V w0) w0.link w.link w.current e joined d.mid lt now fit))));
    }
  where
    st : State
    st = after_run (opening w.message_limit) d.before.events

    joined : Joined V st (views V w0) w0.link w.current
    joined = subst (λ (u : ℕ → ℕ). Joined V st (views V w0) w0.link u) (sym cur) d.before.joined

    same_told : told e (call_and_reply (view V (w0.core e)) call) (ready_answer (view V (w.core e))) ≡
        told e (call_and_reply (view blank (w0.core e)) call) (core_ready (w.core e))
    same_told =
        ap₂ (λ (x : Option (Call × Option Reply)) (y : Option (Answer × List ℕ)). told e x y)
        (asked_view V (w0.core e) call) (ready_core V (w.core e))

pub none_of : (o : Option ℕ) → is_none o ≡ true → o ≡ None
none_of None h = refl
none_of (Some x) h = absurd (grind arith)

pub ask_kept : (n : ℕ) (V : Values) (w : Network) (e : Endpoint) (c : Call) → e.rank < n →
    e.incarnation ≡ w.current e.rank → fault n (view blank (w.core e)) c ≡ None → Extends V (ask w e c) → Kept n V w →
    Kept n V (ask w e c)
ask_kept n V w e c lt now fit x k =
    settle_kept n V w (call_at w e c) e (Some c) (call_doing n V w e c now x k) lt refl now
    (fault_blank V n (w.core e) c ∙ fit)

pub hand_some_current : (frames : ℕ) (w : Network) (e a : Endpoint) → (hand_some w e a frames).current ≡ w.current
hand_some_current zero w e a = refl
hand_some_current (suc frames) w e a =
    go (slice_get (w.link a e).accepted (w.link a e).handed) (λ w1. hand_some_current frames w1 e a)
  where
    go : (o : Option Frame) → ((w1 : Network) → (hand_some w1 e a frames).current ≡ w1.current) →
        (hand_some (hand_at w e a o) e a frames).current ≡ w.current
    go None ih = ih w
    go (Some f) ih = ih (hand_at w e a (Some f))

pub word_kept : (n : ℕ) (V : Values) (w : Network) (e a : Endpoint) (frames : ℕ) → e.rank < n →
    e.incarnation ≡ w.current e.rank → is_same a e ≡ false → a.incarnation ≤ w.current a.rank →
    is_stale (w.core e).known a ≡ false → Kept n V w → Kept n V (word w e a frames)
word_kept n V w e a frames lt now apart below live k =
    settle_kept n V w (hand_some (hear_at w e a) e a frames) e None
    (hand_some_doing n V w frames (hear_at w e a) e a None now apart
    (subst (λ (core : Core). is_stale core.known a ≡ false) (sym (core_here w.core e (met (w.core e) a)))
    (met_live (w.core e) a live))
    (subst (λ (core : Core). IsKnown core.known a) (sym (core_here w.core e (met (w.core e) a)))
    (met_knows (w.core e) a))
    (hear_doing n V w w e a None now below
    (record {
      sane = k.sane;
      due = k.due;
      flows = k.flows;
      spoken = k.spoken;
      before = k.seen;
      mid =
          word_starts V (after_run (opening w.message_limit) k.seen.events) (views V w) w.link w.current e
          k.seen.joined;
    })))
    lt (hand_some_current frames (hear_at w e a) e a)
    (now ∙ ap (λ (u : ℕ → ℕ). u e.rank) (sym (hand_some_current frames (hear_at w e a) e a))) refl

pub current_more : (cur : ℕ → ℕ) (r x : ℕ) → cur x ≤ with_number cur r (suc (cur r)) x
current_more cur r x = go (x == r) refl
  where
    go : (t : Bool) → (x == r) ≡ t → cur x ≤ (if x == r then suc (cur r) else cur x)
    go true h = let e : x ≡ r = eqb-true x r h in let c : cur x ≡ cur r = ap cur e in rw h (omega arith)
    go false h = rw h (omega arith)

pub restart_kept : (n : ℕ) (V : Values) (w : Network) (r : ℕ) → r < n → w.current r < 65535 → Kept n V w →
    Kept n V (record w {
      current = with_number w.current r (suc (w.current r));
      history = w.history ++ Restarted r ∷
          [];
    })
restart_kept n V w r lt few k =
    record {
      seen = seen_more V n w.message_limit w.history (views V w) (views V w) w.link w.link w.current cur
          (Restarted r ∷ []) k.seen
          (restart_follows V n (after_run (opening w.message_limit) k.seen.events) (views V w) w.link w.current r
          k.seen.joined lt few);
      sane = record {
        none_fits = k.sane.none_fits;
        known = λ x le q. known x q le (nat_lt (w.current x.rank) x.incarnation) refl;
        unborn = λ x late. k.sane.unborn x (le_trans (more' x.rank) late);
        unsent = λ x d late. k.sane.unsent x d (le_trans (more' x.rank) late);
        logs = k.sane.logs;
        fits = k.sane.fits;
        cores = k.sane.cores;
        own = k.sane.own;
        frames = k.sane.frames;
        once = k.sane.once;
        fresh = k.sane.fresh;
      };
      due = record { named = k.due.named; offered = k.due.offered };
      flows = record { pairs = k.flows.pairs; own = k.flows.own };
      spoken = record { held = k.spoken.held; own = k.spoken.own; untold = k.spoken.untold };
    }
  where
    cur : ℕ → ℕ
    cur = with_number w.current r (suc (w.current r))

    more : (x : ℕ) → w.current x ≤ cur x
    more x = current_more w.current r x

    more' : (x : ℕ) → suc (w.current x) ≤ suc (cur x)
    more' x = let m : w.current x ≤ cur x = more x in omega arith

    born : (x : Endpoint) (q : ℕ) → x.incarnation ≤ cur x.rank → knows_at_first x q ≤ cur q
    born x q le = go (q == x.rank) refl
      where
        go : (t : Bool) → (q == x.rank) ≡ t → (if q == x.rank then x.incarnation else 0) ≤ cur q
        go true h =
            let e : q ≡ x.rank = eqb-true q x.rank h in rw h (subst (λ (y : ℕ). x.incarnation ≤ cur y) (sym e) le)
        go false h = rw h (omega arith)

    known : (x : Endpoint) (q : ℕ) → x.incarnation ≤ cur x.rank → (t : Bool) → nat_lt (w.current x.rank) x.incarnation ≡
        t → (w.core x).known q ≤ cur q
    known x q le false h = le_trans (k.sane.known x (ltb-false (w.current x.rank) x.incarnation h) q) (more q)
    known x q le true h =
        let e : w.core x ≡ new_core w.message_limit x = k.sane.unborn x (ltb-true (w.current x.rank) x.incarnation h) in
        subst (λ (core : Core). core.known q ≤ cur q) (sym e) (born x q le)
