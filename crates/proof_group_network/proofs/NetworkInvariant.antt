-- What holds of every network with communicators and collectives.
use Rattle.std.proofs.Common.{◌≡◌, inl, inr, ℕ, suc, ◌≤◌, ◌<◌, Bool, true, false, ◌&&◌, not, List, []}
use Rattle.std.proofs.Common.{◌∷◌, ◌++◌, length, Option, Some, None, if◌then◌else◌, ◌==◌, slice_get, get_or, nat_le}
use Rattle.std.proofs.Common.{nat_lt, is_none, refl, sym, ap, ◌∙◌, subst, arith, le_trans}
use Rattle.std.proofs.lemmas.Bool.{and_parts, ltb-true, ltb-false, leb-true, eqb-true}
use Rattle.perfect_queues.specs.Calls as queues
use Rattle.perfect_groups.specs.Calls.{Call, entry_of, queue_call}
use Rattle.perfect_groups.specs.Collectives.{Part}
use Rattle.perfect_groups.specs.Communicators.{Communicator}
use Rattle.perfect_groups.specs.Events.{Restart, Restarted}
use Rattle.perfect_groups.specs.Faults.{fault}
use Rattle.perfect_groups.specs.Machine.{machine_opening}
use Rattle.perfect_groups.specs.Membership.{Present}
use Rattle.perfect_groups.specs.Runs.{after_run}
use Rattle.perfect_groups.specs.Soundness.{IsReal, Sound}
use Rattle.perfect_queues.specs.Messages.{Message}
use Rattle.perfect_queues.specs.State.{knows_at_first, with_number}
use Rattle.proof_group_network.proofs.GroupInvariant.{Honest}
use Rattle.proof_group_network.proofs.NetworkMoves.{group_fault_blank, group_seen_more}
use Rattle.proof_group_network.proofs.NetworkMoves.{mid_word}
use Rattle.proof_group_network.specs.Network.{Ask, GroupNetwork, Happening, Restarts, Word, ask}
use Rattle.proof_group_network.specs.Network.{call_queues, enter_at, groups_in, happens, has_serials}
use Rattle.proof_group_network.specs.Network.{hear_word, is_heard_at, is_taken, new_group_network, note_at}
use Rattle.proof_group_network.specs.Network.{note_some, run, take_call, word}
use Rattle.proof_group_network.specs.Notices.{Notice}
use Rattle.vocabulary.specs.Endpoints.{is_same}
use Rattle.vocabulary.specs.declared.endpoint.Endpoint.{Endpoint}
use Rattle.proof_pure_network.specs.Core.{Core, new_core, view}
use Rattle.proof_pure_network.specs.Engine.{met}
use Rattle.proof_pure_network.specs.Frames.{Values}
use Rattle.proof_pure_network.specs.WaitingMessages.{blank}
use Rattle.proof_pure_network.specs.Network.{Network, hand_some, hear_at, here, logged}
use Rattle.proof_pure_network.proofs.CallInvariant.{extends_before}
use Rattle.proof_pure_network.proofs.EventInvariant.{current_more, hand_some_current}
use Rattle.proof_pure_network.proofs.EventInvariant.{none_of}
use Rattle.proof_pure_network.proofs.Invariants.{Extends, Sane, views}
use Rattle.proof_pure_network.proofs.Knowledge.{met_live}
use Rattle.proof_pure_network.proofs.Pairs.{core_here}
use Rattle.proof_pure_network.proofs.RunInvariant.{apart_of, hand_some_limit, hand_some_log, new_kept, not_true}
use Rattle.proof_pure_network.proofs.Simulation.{is_stale}
use Rattle.proof_pure_network.proofs.Tellings.{IsKnown, met_knows}
use Rattle.proof_group_network.proofs.UnderWay.{NetworkKept, NetworkDoing, note_some_doing, hear_doing_with_groups}
use Rattle.proof_group_network.proofs.UnderWay.{with_net, hand_some_with_groups, call_doing_with_groups}
use Rattle.proof_group_network.proofs.UnderWay.{settle_kept_with_groups}
use Rattle.vocabulary.specs.declared.message_limit.MessageLimit.{MessageLimit}

-- HAPPENINGS

pub real_of : (n : ℕ) (cur : ℕ → ℕ) (e : Endpoint) → n ≤ 65536 → ((r : ℕ) → cur r ≤ 65535) → e.rank < n →
    e.incarnation ≡ cur e.rank → IsReal e
real_of n cur e le lasting lt now =
    (omega arith, (let l : cur e.rank ≤ 65535 = lasting e.rank in omega (arith, l, now)))

-- a call leaves incarnations as they are
call_queues_current : (w : Network) (e : Endpoint) (o : Option queues.Call) → (call_queues w e o).current ≡ w.current
call_queues_current w e None = refl
call_queues_current w e (Some c) = refl

-- nor the limit of messages
call_queues_limit : (w : Network) (e : Endpoint) (o : Option queues.Call) →
    (call_queues w e o).message_limit ≡ w.message_limit
call_queues_limit w e None = refl
call_queues_limit w e (Some c) = refl

enter_net : (w : GroupNetwork) (e : Endpoint) (o : Option (Communicator × Part)) → (enter_at w e o).net ≡ w.net
enter_net w e None = refl
enter_net w e (Some t) = refl

call_net : (w : GroupNetwork) (e : Endpoint) (c : Call) →
    (take_call w e c).net ≡ call_queues w.net e (queue_call (w.member e).membership c)
call_net w e c =
    enter_net (record w { net = call_queues w.net e (queue_call (w.member e).membership c) }) e
    (entry_of (w.member e).membership c)

call_limit : (w : GroupNetwork) (e : Endpoint) (c : Call) → (take_call w e c).net.message_limit ≡ w.net.message_limit
call_limit w e c = ap (λ (y : Network). y.message_limit) (call_net w e c) ∙
    call_queues_limit w.net e (queue_call (w.member e).membership c)

pub ask_kept_with_groups : (n : ℕ) (V : Values) (w : GroupNetwork) (e : Endpoint) (c : Call) → n ≤ 65536 → e.rank < n →
    e.incarnation ≡ w.net.current e.rank → fault e (view blank (w.net.core e)) (w.member e).membership c ≡ None →
    has_serials e (w.member e) (entry_of (w.member e).membership c) ≡ true → Extends V (ask w e c).net →
    NetworkKept n V w → NetworkKept n V (ask w e c)
ask_kept_with_groups n V w e c le lt now fit fits x k =
    settle_kept_with_groups n V w (take_call w e c) e (Some c) real
    (call_doing_with_groups n V w e c le real now fits before k) lt same (call_limit w e c) k.lasting
    (now ∙ ap (λ (u : ℕ → ℕ). u e.rank) (sym same))
    (group_fault_blank V (w.net.core e) e (w.member e).membership c ∙ fit)
  where
    real : IsReal e
    real = real_of n w.net.current e le k.lasting lt now

    same : (take_call w e c).net.current ≡ w.net.current
    same = ap (λ (y : Network). y.current) (call_net w e c) ∙
        call_queues_current w.net e (queue_call (w.member e).membership c)

    before : Extends V (call_queues w.net e (queue_call (w.member e).membership c))
    before = subst (λ (log : Endpoint → List (List ℕ)). (s : Endpoint) (k : ℕ) → k < length (log s) →
        V s k ≡ get_or (log s) k []) (ap (λ (y : Network). y.log) (call_net w e c)) x

pub note_some_net : (more : List ℕ) (w : GroupNetwork) (e a : Endpoint) → (note_some w e a more).net ≡ w.net
note_some_net [] w e a = refl
note_some_net (i ∷ more) w e a = go (slice_get (w.notices a e).accepted i) (λ w1. note_some_net more w1 e a)
  where
    go : (o : Option Notice) → ((w1 : GroupNetwork) → (note_some w1 e a more).net ≡ w1.net) →
        (note_some (note_at w e a i o) e a more).net ≡ w.net
    go None ih = ih w
    go (Some x) ih = ih (note_at w e a i (Some x))

-- a word before it is settled
pub word_doing : (n : ℕ) (V : Values) (w : GroupNetwork) (e a : Endpoint) (frames : ℕ) (notices : List ℕ) → n ≤ 65536 →
    e.rank < n → e.incarnation ≡ w.net.current e.rank → is_same a e ≡ false → a.incarnation ≤ w.net.current a.rank →
    is_stale (w.net.core e).known a ≡ false → NetworkKept n V w →
    NetworkDoing n V w (note_some (with_net (hear_word w e a) (hand_some (hear_word w e a).net e a frames)) e a notices)
    e None
word_doing n V w e a frames notices le lt now apart below live k =
    note_some_doing n V w notices (with_net w1 (hand_some w1.net e a frames)) e a None le real
    (hand_some_with_groups n V w frames w1 e a None now apart
    (subst (λ (core : Core). is_stale core.known a ≡ false) (sym (core_here w.net.core e (met (w.net.core e) a)))
    (met_live (w.net.core e) a live))
    (subst (λ (core : Core). IsKnown core.known a) (sym (core_here w.net.core e (met (w.net.core e) a)))
    (met_knows (w.net.core e) a))
    (hear_doing_with_groups n V w w e a None now below real d0))
  where
    real : IsReal e
    real = real_of n w.net.current e le k.lasting lt now

    w1 : GroupNetwork
    w1 = hear_word w e a

    d0 : NetworkDoing n V w w e None
    d0 = record {
      sane = k.sane;
      spoken = k.spoken;
      due = k.due;
      flows = k.flows;
      honest = k.honest;
      before =
          k.seen;
      mid =
          mid_word V (after_run (machine_opening n w.net.message_limit) k.seen.events) e (views V w.net) w.net.link
          w.net.current
          (groups_in w) k.seen.joined k.seen.groups_are;
    }

-- it leaves incarnations as they are
pub word_current : (w : GroupNetwork) (e a : Endpoint) (frames : ℕ) (notices : List ℕ) →
    (note_some (with_net (hear_word w e a) (hand_some (hear_word w e a).net e a frames)) e a notices).net.current ≡
    w.net.current
word_current w e a frames notices =
    ap (λ (y : Network). y.current)
    (note_some_net notices (with_net (hear_word w e a) (hand_some (hear_word w e a).net e a frames)) e a) ∙
    hand_some_current frames (hear_word w e a).net e a

word_limit : (w : GroupNetwork) (e a : Endpoint) (frames : ℕ) (notices : List ℕ) →
    (note_some (with_net (hear_word w e a) (hand_some (hear_word w e a).net e a frames)) e a
    notices).net.message_limit ≡
    w.net.message_limit
word_limit w e a frames notices =
    ap (λ (y : Network). y.message_limit)
    (note_some_net notices (with_net (hear_word w e a) (hand_some (hear_word w e a).net e a frames)) e a) ∙
    hand_some_limit frames (hear_word w e a).net e a

pub word_kept_with_groups : (n : ℕ) (V : Values) (w : GroupNetwork) (e a : Endpoint) (frames : ℕ) (notices : List ℕ) →
    n ≤ 65536 → e.rank < n → e.incarnation ≡ w.net.current e.rank → is_same a e ≡ false →
    a.incarnation ≤ w.net.current a.rank → is_stale (w.net.core e).known a ≡ false → NetworkKept n V w →
    NetworkKept n V (word w e a frames notices)
word_kept_with_groups n V w e a frames notices le lt now apart below live k =
    settle_kept_with_groups n V w
    (note_some (with_net (hear_word w e a) (hand_some (hear_word w e a).net e a frames)) e a notices) e None
    (real_of n w.net.current e le k.lasting lt now)
    (word_doing n V w e a frames notices le lt now apart below live k)
    lt same (word_limit w e a frames notices) k.lasting (now ∙ ap (λ (u : ℕ → ℕ). u e.rank) (sym same)) refl
  where
    same : (note_some (with_net (hear_word w e a) (hand_some (hear_word w e a).net e a frames)) e a notices).net.current
        ≡ w.net.current
    same = word_current w e a frames notices

-- a restart
pub restart_sane : (V : Values) (w : Network) (r : ℕ) → Sane V w →
    Sane V (record w { current = with_number w.current r (suc (w.current r)) })
restart_sane V w r k =
    record {
      none_fits = k.none_fits;
      known = λ x le q. known x q le (nat_lt (w.current x.rank) x.incarnation) refl;
      unborn = λ x late. k.unborn x (le_trans (more' x.rank) late);
      unsent = λ x d late. k.unsent x d (le_trans (more' x.rank) late);
      logs = k.logs;
      fits = k.fits;
      cores = k.cores;
      own = k.own;
      frames = k.frames;
      once = k.once;
      fresh = k.fresh;
    }
  where
    cur : ℕ → ℕ
    cur = with_number w.current r (suc (w.current r))

    more : (x : ℕ) → w.current x ≤ cur x
    more x = current_more w.current r x

    more' : (x : ℕ) → suc (w.current x) ≤ suc (cur x)
    more' x = let m : w.current x ≤ cur x = more x in omega arith

    born : (x : Endpoint) (q : ℕ) → x.incarnation ≤ cur x.rank → knows_at_first x q ≤ cur q
    born x q le = go (q == x.rank) refl
      where
        go : (t : Bool) → (q == x.rank) ≡ t → (if q == x.rank then x.incarnation else 0) ≤ cur q
        go true h =
            let e : q ≡ x.rank = eqb-true q x.rank h in rw h (subst (λ (y : ℕ). x.incarnation ≤ cur y) (sym e) le)
        go false h = rw h (omega arith)

    known : (x : Endpoint) (q : ℕ) → x.incarnation ≤ cur x.rank → (t : Bool) → nat_lt (w.current x.rank) x.incarnation ≡
        t → (w.core x).known q ≤ cur q
    known x q le false h = le_trans (k.known x (ltb-false (w.current x.rank) x.incarnation h) q) (more q)
    known x q le true h =
        let e : w.core x ≡ new_core w.message_limit x = k.unborn x (ltb-true (w.current x.rank) x.incarnation h) in
        subst (λ (core : Core). core.known q ≤ cur q) (sym e) (born x q le)

lasting_more : (cur : ℕ → ℕ) (r : ℕ) → cur r < 65535 → ((x : ℕ) → cur x ≤ 65535) →
    (x : ℕ) → with_number cur r (suc (cur r)) x ≤ 65535
lasting_more cur r few all x = go (x == r)
  where
    go : (t : Bool) → (if t then suc (cur r) else cur x) ≤ 65535
    go true = omega arith
    go false = all x

pub restart_kept_with_groups : (n : ℕ) (V : Values) (w : GroupNetwork) (r : ℕ) → r < n → w.net.current r < 65535 →
    NetworkKept n V w →
    NetworkKept n V
    (record w {
      net = record w.net { current = with_number w.net.current r (suc (w.net.current r)) };
      history =
          w.history ++ Restarted r ∷ [];
    })
restart_kept_with_groups n V w r lt few k =
    record {
      sane = restart_sane V w.net r k.sane;
      spoken = record { held = k.spoken.held; own = k.spoken.own; untold = k.spoken.untold };
      due = record { named = k.due.named; offered = k.due.offered };
      flows = record { pairs = k.flows.pairs; own = k.flows.own };
      honest = k.honest;
      lasting = lasting_more w.net.current r few k.lasting;
      seen = group_seen_more V n w.net.message_limit w.history (views V w.net) (views V w.net) w.net.link w.net.link
          w.net.current
          (with_number w.net.current r (suc (w.net.current r))) (groups_in w) (groups_in w) (Restarted r ∷ []) k.seen
          (record {
            event = Restart r;
            allowed = (lt, subst (λ (u : ℕ → ℕ). u r < 65535) (sym k.seen.joined.now) few);
            tells = refl;
            joined = record {
              each = k.seen.joined.each;
              fit = k.seen.joined.fit;
              now =
                  ap (λ (u : ℕ → ℕ). with_number u r (suc (u r))) k.seen.joined.now;
            };
            groups_are = k.seen.groups_are;
          });
    }

pub happens_kept_with_groups : (n : ℕ) (V : Values) (w : GroupNetwork) (h : Happening) → n ≤ 65536 →
    Extends V (happens n w h).net → NetworkKept n V w → NetworkKept n V (happens n w h)
happens_kept_with_groups n V w (Ask r c) le x k = go (is_taken n w (here w.net r) c) refl x
  where
    go : (t : Bool) → is_taken n w (here w.net r) c ≡ t → Extends V (if t then ask w (here w.net r) c else w).net →
        NetworkKept n V (if t then ask w (here w.net r) c else w)
    go false h x = k
    go true h x =
        let p = and_parts (nat_lt r n) (is_none (fault (here w.net r) (view blank (w.net.core (here w.net r))) (w.member (here w.net r)).membership c) && has_serials (here w.net r) (w.member (here w.net r)) (entry_of (w.member (here w.net r)).membership c)) h in
        let q = and_parts (is_none (fault (here w.net r) (view blank (w.net.core (here w.net r))) (w.member (here w.net r)).membership c)) (has_serials (here w.net r) (w.member (here w.net r)) (entry_of (w.member (here w.net r)).membership c)) p.1 in
        ask_kept_with_groups n V w (here w.net r) c le (ltb-true r n p.0) refl
        (none_of (fault (here w.net r) (view blank (w.net.core (here w.net r))) (w.member (here w.net r)).membership
        c) q.0) q.1 x k
happens_kept_with_groups n V w (Word s r frames notices) le x k =
    go (nat_lt r n && is_heard_at w.net s (here w.net r)) refl
  where
    go : (t : Bool) → (nat_lt r n && is_heard_at w.net s (here w.net r)) ≡ t →
        NetworkKept n V (if t then word w (here w.net r) s frames notices else w)
    go false h = k
    go true h =
        let p = and_parts (nat_lt r n) (is_heard_at w.net s (here w.net r)) h in
        let q = and_parts (not (s.rank == r)) (nat_le s.incarnation (w.net.current s.rank) && not (nat_lt s.incarnation ((w.net.core (here w.net r)).known s.rank))) p.1 in
        let u = and_parts (nat_le s.incarnation (w.net.current s.rank)) (not (nat_lt s.incarnation ((w.net.core (here w.net r)).known s.rank))) q.1 in
        word_kept_with_groups n V w (here w.net r) s frames notices le (ltb-true r n p.0) refl
        (apart_of s r (w.net.current r) q.0) (leb-true s.incarnation (w.net.current s.rank) u.0)
        (not_true (nat_lt s.incarnation ((w.net.core (here w.net r)).known s.rank)) u.1) k
happens_kept_with_groups n V w (Restarts r) le x k = go (nat_lt r n && nat_lt (w.net.current r) 65535) refl
  where
    go : (t : Bool) → (nat_lt r n && nat_lt (w.net.current r) 65535) ≡ t →
        NetworkKept n V
        (if t then record w {
          net = record w.net { current = with_number w.net.current r (suc (w.net.current r)) };
          history = w.history ++ Restarted r ∷ [];
        } else w)
    go false h = k
    go true h = let p = and_parts (nat_lt r n) (nat_lt (w.net.current r) 65535) h in restart_kept_with_groups n V w r
        (ltb-true r n p.0) (ltb-true (w.net.current r) 65535 p.1) k

-- THE LIMIT OF MESSAGES STAYS

happens_limit : (n : ℕ) (w : GroupNetwork) (h : Happening) → (happens n w h).net.message_limit ≡ w.net.message_limit
happens_limit n w (Ask r c) = go (is_taken n w (here w.net r) c)
  where
    go : (t : Bool) → (if t then ask w (here w.net r) c else w).net.message_limit ≡ w.net.message_limit
    go true = call_limit w (here w.net r) c
    go false = refl
happens_limit n w (Word s r frames notices) = go (nat_lt r n && is_heard_at w.net s (here w.net r))
  where
    go : (t : Bool) → (if t then word w (here w.net r) s frames notices else w).net.message_limit ≡ w.net.message_limit
    go true = word_limit w (here w.net r) s frames notices
    go false = refl
happens_limit n w (Restarts r) = go (nat_lt r n && nat_lt (w.net.current r) 65535)
  where
    go : (t : Bool) →
        (if t then record w {
          net = record w.net { current = with_number w.net.current r (suc (w.net.current r)) };
          history = w.history ++ Restarted r ∷ [];
        } else w).net.message_limit ≡ w.net.message_limit
    go true = refl
    go false = refl

pub run_limit_with_groups : (n : ℕ) (hs : List Happening) (w : GroupNetwork) →
    (run n hs w).net.message_limit ≡ w.net.message_limit
run_limit_with_groups n [] w = refl
run_limit_with_groups n (h ∷ hs) w = run_limit_with_groups n hs (happens n w h) ∙ happens_limit n w h

-- WHAT IS LOGGED STAYS

abbrev Logs : Values → (Endpoint → List (List ℕ)) → Type 0
Logs V log = (s : Endpoint) (k : ℕ) → k < length (log s) → V s k ≡ get_or (log s) k []

queues_extend : (V : Values) (w : Network) (e : Endpoint) (o : Option queues.Call) → Extends V (call_queues w e o) →
    Extends V w
queues_extend V w e None x = x
queues_extend V w e (Some c) x = extends_before V w e (logged (w.core e) c) x

pub happens_extends_with_groups : (n : ℕ) (V : Values) (w : GroupNetwork) (h : Happening) →
    Extends V (happens n w h).net → Extends V w.net
happens_extends_with_groups n V w (Ask r c) = go (is_taken n w (here w.net r) c)
  where
    go : (t : Bool) → Extends V (if t then ask w (here w.net r) c else w).net → Extends V w.net
    go true x =
        queues_extend V w.net (here w.net r) (queue_call (w.member (here w.net r)).membership c)
        (subst (λ (log : Endpoint → List (List ℕ)). Logs V log)
        (ap (λ (y : Network). y.log) (call_net w (here w.net r) c)) x)
    go false x = x
happens_extends_with_groups n V w (Word s r frames notices) = go (nat_lt r n && is_heard_at w.net s (here w.net r))
  where
    e : Endpoint
    e = here w.net r

    go : (t : Bool) → Extends V (if t then word w e s frames notices else w).net → Extends V w.net
    go true x =
        subst (λ (log : Endpoint → List (List ℕ)). Logs V log)
        (ap (λ (y : Network). y.log)
        (note_some_net notices (with_net (hear_word w e s) (hand_some (hear_word w e s).net e s frames)) e s) ∙
        hand_some_log frames (hear_at w.net e s) e s) x
    go false x = x
happens_extends_with_groups n V w (Restarts r) = go (nat_lt r n && nat_lt (w.net.current r) 65535)
  where
    go : (t : Bool) →
        Extends V
        (if t then record w {
          net = record w.net { current = with_number w.net.current r (suc (w.net.current r)) };
          history = w.history ++ Restarted r ∷ [];
        } else w).net → Extends V w.net
    go true x = x
    go false x = x

pub run_extends_with_groups : (n : ℕ) (V : Values) (hs : List Happening) (w : GroupNetwork) →
    Extends V (run n hs w).net → Extends V w.net
run_extends_with_groups n V [] w x = x
run_extends_with_groups n V (h ∷ hs) w x =
    happens_extends_with_groups n V w h (run_extends_with_groups n V hs (happens n w h) x)

pub run_kept_with_groups : (n : ℕ) (V : Values) (hs : List Happening) (w : GroupNetwork) → n ≤ 65536 →
    Extends V (run n hs w).net → NetworkKept n V w → NetworkKept n V (run n hs w)
run_kept_with_groups n V [] w le x k = k
run_kept_with_groups n V (h ∷ hs) w le x k =
    run_kept_with_groups n V hs (happens n w h) le x
    (happens_kept_with_groups n V w h le (run_extends_with_groups n V hs (happens n w h) x) k)

-- THE START

new_sound : (n : ℕ) (limit : MessageLimit) → Sound n (groups_in (new_group_network n limit))
new_sound n limit =
    record {
      held = λ x r. (inl refl, (inr (inl (x, r, refl)), tt));
      drawn = λ c k cs h. absurd (none_some_made cs h);
      apart = λ c k c' k' cs cs' a b h h' x y e. absurd (none_some_made cs h);
      serials = λ e. omega arith;
      two = λ e. omega arith;
    }
  where
    none_some_made : (cs : List Communicator) → ◌≡◌ {A = Option (List Communicator)} None (Some cs) → ⊥
    none_some_made cs h = absurd (grind arith)

new_honest : (n : ℕ) (limit : MessageLimit) →
    Honest n (groups_in (new_group_network n limit)) (λ x. []) (λ s d. record { accepted = []; handed = λ i. false })
new_honest n limit =
    record {
      sound = new_sound n limit;
      inside = λ x c k p h. absurd (none_present h);
      below = λ c k x p h. absurd (none_part h);
      first_made = λ x c k p h mk f. absurd (none_present h);
      made_by = λ c k cs h. absurd (none_made h);
      apart = λ c k cs h. absurd (none_made h);
      told = λ s d. tt;
      notes = λ x. tt;
    }
  where
    none_present : {y : Present} → ◌≡◌ {A = Option Present} None (Some y) → ⊥
    none_present h = absurd (grind arith)

    none_part : {y : Part} → ◌≡◌ {A = Option Part} None (Some y) → ⊥
    none_part h = absurd (grind arith)

    none_made : {y : List Communicator} → ◌≡◌ {A = Option (List Communicator)} None (Some y) → ⊥
    none_made h = absurd (grind arith)

pub new_kept_with_groups : (n : ℕ) (limit : MessageLimit) (V : Values) → NetworkKept n V (new_group_network n limit)
new_kept_with_groups n limit V =
    record {
      sane = (new_kept n limit V).sane;
      spoken = (new_kept n limit V).spoken;
      due = (new_kept n limit V).due;
      flows = (new_kept n limit V).flows;
      honest = new_honest n limit;
      lasting = λ r. omega arith;
      seen = record {
        events = [];
        run = tt;
        tells = refl;
        joined =
            record {
              each =
                  λ x. record {
                    requests = refl;
                    blocked = refl;
                    known = refl;
                    message_limit = refl;
                    queue =
                        λ s c. nothing (is_stale (new_core limit x).known s);
                  };
              fit =
                  record { own = λ y c. refl; fits = λ y z. omega arith };
              now = refl;
            };
        groups_are = refl;
      };
    }
  where
    nothing : (t : Bool) → ◌≡◌ {A = List Message} [] ([] ++ (if t then [] else []))
    nothing true = refl
    nothing false = refl
