-- Nothing goes to an endpoint that the sender does not know.
use Rattle.std.proofs.Common.{◌≡◌, ℕ, ◌≤◌, ◌<◌, List, [], Some, sym, subst, arith, le_trans}
use Rattle.perfect_queues.specs.Calls.{Call}
use Rattle.perfect_queues.specs.Events.{Entry, told}
use Rattle.vocabulary.specs.declared.endpoint.Endpoint.{Endpoint}
use Rattle.proof_pure_network.specs.Core.{Core}
use Rattle.proof_pure_network.specs.Engine.{called, came, core_settled, met}
use Rattle.proof_pure_network.specs.Frames.{Frame}
use Rattle.proof_pure_network.specs.Links.{Link, accept_all, handed_on}
use Rattle.proof_pure_network.specs.Network.{Network, call_at, hand_at, hear_at, logged, with_core, with_log}
use Rattle.proof_pure_network.proofs.Invariants.{Spoken, each_core}
use Rattle.proof_pure_network.proofs.JobLemmas.{fewer_settled, settled_held, settled_known}
use Rattle.proof_pure_network.proofs.Knowledge.{called_known, came_known}
use Rattle.proof_pure_network.proofs.Pairs.{core_here}
use Rattle.proof_pure_network.proofs.Tellings.{CoreKnown, IsKnown, Speaks, Told, Untold, accept_untold, called_speaks}
use Rattle.proof_pure_network.proofs.Tellings.{came_speaks, hand_untold, met_grows, met_held, same_known}

pub changed_spoken : (w : Network) (e : Endpoint) (core' : Core) (links1 : Endpoint → Endpoint → Link)
    (out : List (Endpoint × Frame)) → Spoken w → ((r : ℕ) → (w.core e).known r ≤ core'.known r) →
    CoreKnown core'.known core' → Told core'.known out → Untold (λ x. (w.core x).known) links1 →
    (logs : Endpoint → List (List ℕ)) (history : List Entry) →
    Spoken (record {
      core = with_core w.core e core';
      link = accept_all links1 e out;
      current = w.current;
      history =
          history;
      log = logs;
      message_limit = w.message_limit;
    })
changed_spoken w e core' links1 out sp grows held told untold logs history =
    record {
      held = each_core (λ x core. CoreKnown core.known core) w.core e core' sp.held held;
      own = each_core (λ x core. IsKnown core.known x) w.core e core' sp.own (le_trans (sp.own e) (grows e.rank));
      untold = accept_untold known' links1 e out
          (subst (λ (c : Core). Told c.known out) (sym (core_here w.core e core')) told)
          (λ s d late. untold s d (earlier s d late));
    }
  where
    known' : Endpoint → ℕ → ℕ
    known' x = (with_core w.core e core' x).known

    more : (s : Endpoint) (r : ℕ) → (w.core s).known r ≤ known' s r
    more s r = each_core (λ x core. (w.core x).known r ≤ core.known r) w.core e core' (λ x. omega arith) (grows r) s

    earlier : (s d : Endpoint) → known' s d.rank < d.incarnation → (w.core s).known d.rank < d.incarnation
    earlier s d late = let m : (w.core s).known d.rank ≤ known' s d.rank = more s d.rank in omega arith

pub same_grows : (core core' : Core) → core'.known ≡ core.known → (r : ℕ) → core.known r ≤ core'.known r
same_grows core core' e r = subst (λ (g : ℕ → ℕ). core.known r ≤ g r) (sym e) (omega arith)

pub call_spoken : (w : Network) (e : Endpoint) (c : Call) → Spoken w → Spoken (call_at w e c)
call_spoken w e c sp =
    let x : Speaks (w.core e).known (called e (w.core e) c) = called_speaks e (w.core e) c (sp.own e) (sp.held e) in
    let k : (called e (w.core e) c).core.known ≡ (w.core e).known = called_known e (w.core e) c in
    changed_spoken w e (called e (w.core e) c).core w.link (called e (w.core e) c).out sp
    (same_grows (w.core e) (called e (w.core e) c).core k)
    (subst (λ (g : ℕ → ℕ). CoreKnown g (called e (w.core e) c).core) (sym k) x.held)
    (subst (λ (g : ℕ → ℕ). Told g (called e (w.core e) c).out) (sym k) x.told) sp.untold
    (with_log w.log e (logged (w.core e) c)) w.history

pub hear_spoken : (w : Network) (e a : Endpoint) → Spoken w → Spoken (hear_at w e a)
hear_spoken w e a sp =
    changed_spoken w e (met (w.core e) a) w.link [] sp (met_grows (w.core e) a) (met_held (w.core e) a (sp.held e)) tt
    sp.untold w.log w.history

pub hand_spoken : (w : Network) (e a : Endpoint) (f : Frame) → IsKnown (w.core e).known a → Spoken w →
    Spoken (hand_at w e a (Some f))
hand_spoken w e a f h sp =
    let x : Speaks (w.core e).known (came (w.core e) a f) = came_speaks (w.core e) a f h (sp.held e) in
    let k : (came (w.core e) a f).core.known ≡ (w.core e).known = came_known (w.core e) a f in
    changed_spoken w e (came (w.core e) a f).core (handed_on w.link a e) (came (w.core e) a f).out sp
    (same_grows (w.core e) (came (w.core e) a f).core k)
    (subst (λ (g : ℕ → ℕ). CoreKnown g (came (w.core e) a f).core) (sym k) x.held)
    (subst (λ (g : ℕ → ℕ). Told g (came (w.core e) a f).out) (sym k) x.told)
    (hand_untold (λ x. (w.core x).known) w.link a e sp.untold) w.log w.history

pub settle_spoken : (w : Network) (e : Endpoint) (history : List Entry) → Spoken w →
    Spoken (record w { core = with_core w.core e (core_settled (w.core e)); history = history })
settle_spoken w e history sp =
    changed_spoken w e (core_settled (w.core e)) w.link [] sp
    (same_grows (w.core e) (core_settled (w.core e)) (settled_known (w.core e)))
    (subst (λ (g : ℕ → ℕ). CoreKnown g (core_settled (w.core e))) (sym (settled_known (w.core e)))
    (same_known (w.core e).known (w.core e) (core_settled (w.core e)) (settled_held (w.core e))
    (fewer_settled (w.core e)) (sp.held e))) tt sp.untold w.log history
