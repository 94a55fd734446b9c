-- What holds of every network holds after every list of happenings.
use Rattle.std.proofs.Common.{◌≡◌, ℕ, zero, suc, ◌≤◌, ◌<◌, Bool, true, false, ◌&&◌, not, List, [], ◌∷◌, ◌++◌, length}
use Rattle.std.proofs.Common.{Option, Some, None, if◌then◌else◌, ◌==◌, slice_get, get_or, refl, subst, arith, nat_le}
use Rattle.std.proofs.Common.{nat_lt, is_none, ◌∙◌}
use Rattle.std.proofs.lemmas.Bool.{eq-eqb, and_parts, ltb-true, leb-true}
use Rattle.vocabulary.specs.Endpoints.{is_same, last_incarnation}
use Rattle.perfect_queues.specs.Events.{Restarted}
use Rattle.perfect_queues.specs.Messages.{Message}
use Rattle.perfect_queues.specs.Refusals.{fault}
use Rattle.perfect_queues.specs.State.{knows_at_first, with_number}
use Rattle.vocabulary.specs.declared.endpoint.Endpoint.{Endpoint}
use Rattle.proof_pure_network.specs.Core.{new_core, view}
use Rattle.proof_pure_network.specs.Frames.{Frame, Values}
use Rattle.proof_pure_network.specs.WaitingMessages.{blank}
use Rattle.proof_pure_network.specs.Network.{Ask, Happening, Idle, Network, Restarts, Word, ask, hand_at, hand_some}
use Rattle.proof_pure_network.specs.Network.{happens, hear_at, here, is_heard, logged, new_network, run, word}
use Rattle.proof_pure_network.proofs.CallInvariant.{extends_before}
use Rattle.proof_pure_network.proofs.EventInvariant.{ask_kept, none_of, restart_kept, word_kept}
use Rattle.proof_pure_network.proofs.Invariants.{Extends, Kept}
use Rattle.proof_pure_network.proofs.Simulation.{is_stale}
use Rattle.vocabulary.specs.declared.message_limit.MessageLimit.{MessageLimit}

pub apart_of : (a : Endpoint) (r i : ℕ) → not (a.rank == r) ≡ true → is_same a (record { rank = r; incarnation = i }) ≡
    false
apart_of a r i h = go (a.rank == r) refl
  where
    go : (t : Bool) → (a.rank == r) ≡ t → is_same a (record { rank = r; incarnation = i }) ≡ false
    go true p = let n : not true ≡ true = rw p at h in absurd (grind arith)
    go false p = rw p refl

pub not_true : (t : Bool) → not t ≡ true → t ≡ false
not_true true h = absurd (grind arith)
not_true false h = refl

pub happens_kept : (n : ℕ) (V : Values) (w : Network) (h : Happening) → Extends V (happens n w h) → Kept n V w →
    Kept n V (happens n w h)
happens_kept n V w (Ask r c) x k = go (nat_lt r n && is_none (fault n (view blank (w.core (here w r))) c)) refl x
  where
    go : (t : Bool) → (nat_lt r n && is_none (fault n (view blank (w.core (here w r))) c)) ≡ t →
        Extends V (if t then ask w (here w r) c else w) → Kept n V (if t then ask w (here w r) c else w)
    go false h x = k
    go true h x =
        let p = and_parts (nat_lt r n) (is_none (fault n (view blank (w.core (here w r))) c)) h in
        ask_kept n V w (here w r) c (ltb-true r n p.0) refl (none_of (fault n (view blank (w.core (here w r))) c) p.1) x
        k
happens_kept n V w (Word s r frames) x k = go (nat_lt r n && is_heard w s r) refl
  where
    go : (t : Bool) → (nat_lt r n && is_heard w s r) ≡ t → Kept n V (if t then word w (here w r) s frames else w)
    go false h = k
    go true h =
        let p = and_parts (nat_lt r n) (is_heard w s r) h in
        let q = and_parts (not (s.rank == r)) (nat_le s.incarnation (w.current s.rank) && not (nat_lt s.incarnation ((w.core (here w r)).known s.rank))) p.1 in
        let u = and_parts (nat_le s.incarnation (w.current s.rank)) (not (nat_lt s.incarnation ((w.core (here w r)).known s.rank))) q.1 in
        word_kept n V w (here w r) s frames (ltb-true r n p.0) refl (apart_of s r (w.current r) q.0)
        (leb-true s.incarnation (w.current s.rank) u.0)
        (not_true (nat_lt s.incarnation ((w.core (here w r)).known s.rank)) u.1) k
happens_kept n V w (Restarts r) x k = go (nat_lt r n && nat_lt (w.current r) 65535) refl
  where
    go : (t : Bool) → (nat_lt r n && nat_lt (w.current r) 65535) ≡ t →
        Kept n V (if t then record w {
          current = with_number w.current r (suc (w.current r));
          history =
              w.history ++ Restarted r ∷ [];
        } else w)
    go false h = k
    go true h = let p = and_parts (nat_lt r n) (nat_lt (w.current r) 65535) h in restart_kept n V w r (ltb-true r n p.0)
        (ltb-true (w.current r) 65535 p.1) k
happens_kept n V w Idle x k = k

-- what is logged stays
pub hand_some_log : (frames : ℕ) (w : Network) (e a : Endpoint) → (hand_some w e a frames).log ≡ w.log
hand_some_log zero w e a = refl
hand_some_log (suc frames) w e a =
    go (slice_get (w.link a e).accepted (w.link a e).handed) (λ w1. hand_some_log frames w1 e a)
  where
    go : (o : Option Frame) → ((w1 : Network) → (hand_some w1 e a frames).log ≡ w1.log) →
        (hand_some (hand_at w e a o) e a frames).log ≡ w.log
    go None ih = ih w
    go (Some f) ih = ih (hand_at w e a (Some f))

abbrev pub ExtendsLog : Values → (Endpoint → List (List ℕ)) → Type 0
ExtendsLog V log = (s : Endpoint) (k : ℕ) → k < length (log s) → V s k ≡ get_or (log s) k []

pub happens_extends : (n : ℕ) (V : Values) (w : Network) (h : Happening) → Extends V (happens n w h) → Extends V w
happens_extends n V w (Ask r c) = go (nat_lt r n && is_none (fault n (view blank (w.core (here w r))) c))
  where
    go : (t : Bool) → Extends V (if t then ask w (here w r) c else w) → Extends V w
    go true x = extends_before V w (here w r) (logged (w.core (here w r)) c) x
    go false x = x
happens_extends n V w (Word s r frames) = go (nat_lt r n && is_heard w s r)
  where
    go : (t : Bool) → Extends V (if t then word w (here w r) s frames else w) → Extends V w
    go true x =
        subst (λ (log : Endpoint → List (List ℕ)). ExtendsLog V log)
        (hand_some_log frames (hear_at w (here w r) s) (here w r) s) x
    go false x = x
happens_extends n V w (Restarts r) = go (nat_lt r n && nat_lt (w.current r) 65535)
  where
    go : (t : Bool) →
        Extends V (if t then record w {
          current = with_number w.current r (suc (w.current r));
          history =
              w.history ++ Restarted r ∷ [];
        } else w) → Extends V w
    go true x = x
    go false x = x
happens_extends n V w Idle = λ x. x

pub run_extends : (n : ℕ) (V : Values) (hs : List Happening) (w : Network) → Extends V (run n hs w) → Extends V w
run_extends n V [] w x = x
run_extends n V (h ∷ hs) w x = happens_extends n V w h (run_extends n V hs (happens n w h) x)

pub run_kept : (n : ℕ) (V : Values) (hs : List Happening) (w : Network) → Extends V (run n hs w) → Kept n V w →
    Kept n V (run n hs w)
run_kept n V [] w x k = k
run_kept n V (h ∷ hs) w x k =
    run_kept n V hs (happens n w h) x (happens_kept n V w h (run_extends n V hs (happens n w h) x) k)

pub new_kept : (n : ℕ) (limit : MessageLimit) (V : Values) → Kept n V (new_network limit)
new_kept n limit V =
    record {
      sane = record {
        none_fits = λ x j q e. tt;
        known = known;
        unborn = λ x late. refl;
        unsent = λ x d late. refl;
        logs = λ x. refl;
        fits = λ x y. omega arith;
        cores = λ x. record { held = tt; jobs = λ k j h. absurd (grind arith) };
        own = λ x. record {
          mine = tt;
          taken = λ i g h y. absurd (grind arith);
          once = λ k. omega arith;
          fresh =
              λ k le. omega arith;
          waits = λ k d h. absurd (grind arith);
          apart = λ k. omega arith;
        };
        frames = λ s d. tt;
        once = λ s d apart k. omega arith;
        fresh = λ s d apart k l. omega arith;
      };
      due = record {
        named = λ x k d basic values h. absurd (grind arith);
        offered =
            λ s d apart k basic values live h. absurd (grind arith);
      };
      flows = record {
        pairs = λ s d apart k. record {
          once = omega arith;
          fresh = λ l. (refl, refl);
          none = λ h. refl;
          offered =
              λ h g. absurd (omega arith);
          goes_on = λ j p u got x i g. absurd (grind arith);
        };
        own = λ x k. omega arith;
      };
      spoken = record {
        held = λ x. record { waiting = tt; taken = λ i f h y. absurd (grind arith) };
        own =
            own;
        untold = λ s d late. refl;
      };
      seen = record {
        events = [];
        run = tt;
        tells = refl;
        joined =
            record {
              each =
                  λ x. record {
                    requests = refl;
                    blocked = refl;
                    known = refl;
                    message_limit = refl;
                    queue =
                        λ s c. nothing (is_stale (new_core limit x).known s);
                  };
              fit =
                  record { own = λ y c. refl; fits = λ y z. omega arith };
              now = refl;
            };
      };
    }
  where
    own : (x : Endpoint) → x.incarnation ≤ knows_at_first x x.rank
    own x = rw (eq-eqb x.rank x.rank refl) (omega arith)

    nothing : (t : Bool) → ◌≡◌ {A = List Message} [] ([] ++ (if t then [] else []))
    nothing true = refl
    nothing false = refl

    known : (x : Endpoint) → x.incarnation ≤ 0 → (r : ℕ) → knows_at_first x r ≤ 0
    known x le r = go (r == x.rank)
      where
        go : (t : Bool) → (if t then x.incarnation else 0) ≤ 0
        go true = le
        go false = omega arith

-- ---- the limit of messages stays

hand_limit : (w : Network) (e s : Endpoint) (f : Option Frame) → (hand_at w e s f).message_limit ≡ w.message_limit
hand_limit w e s None = refl
hand_limit w e s (Some f) = refl

pub hand_some_limit : (frames : ℕ) (w : Network) (e s : Endpoint) →
    (hand_some w e s frames).message_limit ≡ w.message_limit
hand_some_limit zero w e s = refl
hand_some_limit (suc frames) w e s =
    hand_some_limit frames (hand_at w e s (slice_get (w.link s e).accepted (w.link s e).handed)) e s
    ∙ hand_limit w e s (slice_get (w.link s e).accepted (w.link s e).handed)

happens_limit : (n : ℕ) (w : Network) (h : Happening) → (happens n w h).message_limit ≡ w.message_limit
happens_limit n w (Ask r c) = go (nat_lt r n && is_none (fault n (view blank (w.core (here w r))) c))
  where
    go : (t : Bool) → (if t then ask w (here w r) c else w).message_limit ≡ w.message_limit
    go true = refl
    go false = refl
happens_limit n w (Word s r frames) = go (nat_lt r n && is_heard w s r)
  where
    go : (t : Bool) → (if t then word w (here w r) s frames else w).message_limit ≡ w.message_limit
    go true = hand_some_limit frames (hear_at w (here w r) s) (here w r) s
    go false = refl
happens_limit n w (Restarts r) = go (nat_lt r n && nat_lt (w.current r) last_incarnation)
  where
    go : (t : Bool) →
        (if t
        then record w { current = with_number w.current r (suc (w.current r)); history = w.history ++ Restarted r ∷ [] }
        else w).message_limit ≡ w.message_limit
    go true = refl
    go false = refl
happens_limit n w Idle = refl

pub run_limit : (n : ℕ) (hs : List Happening) (w : Network) → (run n hs w).message_limit ≡ w.message_limit
run_limit n [] w = refl
run_limit n (h ∷ hs) w = run_limit n hs (happens n w h) ∙ happens_limit n w h
