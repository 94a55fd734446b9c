-- One event of the machine for one happening, at the happening's own endpoint.
use Rattle.std.proofs.Common.{◌≡◌, ℕ, ◌<◌, List, Option, Some, None, refl, sym, ap, ap₂, ◌∙◌, subst}
use Rattle.perfect_groups.specs.Calls.{Answer, Call, Reply, reply_at_once}
use Rattle.perfect_groups.specs.Events.{At, Entry, Event, IsEvent, after_event, answered_present, call_and_reply}
use Rattle.perfect_groups.specs.Events.{call_fault, ended_with, entries, machine_start, ready_by, told_of}
use Rattle.perfect_groups.specs.Faults.{fault}
use Rattle.perfect_groups.specs.Machine.{Machine, after_moves}
use Rattle.perfect_groups.specs.Membership.{Ending, Groups, with_member}
use Rattle.perfect_queues.specs.Calls.{after_settling, ready_answer}
use Rattle.perfect_queues.specs.Completions as completions
use Rattle.perfect_queues.specs.Messages.{Message}
use Rattle.perfect_queues.specs.State.{Local, with_local}
use Rattle.proof_group_network.proofs.GroupEvents.{settled_groups}
use Rattle.proof_group_network.proofs.NetworkMoves.{NetworkMidway, group_fault_same, replies_same}
use Rattle.proof_group_network.specs.Network.{GroupNetwork, groups_in, settle_event}
use Rattle.proof_pure_network.proofs.EventInvariant.{asked_blank}
use Rattle.proof_pure_network.proofs.EngineWork.{view_settled}
use Rattle.proof_pure_network.proofs.Invariants.{views, views_with}
use Rattle.proof_pure_network.proofs.JobLemmas.{ready_core}
use Rattle.proof_pure_network.proofs.Joins.{Joined}
use Rattle.proof_pure_network.proofs.Links.{coming, put_more}
use Rattle.proof_pure_network.proofs.Simulation.{at_once_same, ready_same, settled_more}
use Rattle.proof_pure_network.specs.Core.{view}
use Rattle.proof_pure_network.specs.Engine.{core_ready, core_settled}
use Rattle.proof_pure_network.specs.Frames.{Values}
use Rattle.proof_pure_network.specs.WaitingMessages.{blank}
use Rattle.proof_pure_network.specs.Links.{Link}
use Rattle.vocabulary.specs.declared.endpoint.Endpoint.{Endpoint}

-- this event of the machine may happen, is seen so, and leads to a state that is joined to this
pub record Follows (V : Values) (n : ℕ) (s : Machine) (event : Event) (locals : Endpoint → Local) (links : Endpoint →
    Endpoint → Link) (cur : ℕ → ℕ) (g : Groups) (told : List Entry) : Type 0 where
  pub allowed : IsEvent n s event
  pub tells : entries s event ≡ told
  pub joined : Joined V (after_event s event).queues locals links cur
  pub groups_are : (after_event s event).groups ≡ g

-- the settling ends the event
settle_follows : (V : Values) (n : ℕ) (s : Machine) (call : Option Call) (locals old : Endpoint → Local)
    (links links' : Endpoint → Endpoint → Link) (cur : ℕ → ℕ) (g0 g : Groups) (e : Endpoint) →
    Joined V s.queues old links cur → s.groups ≡ g0 → (m : NetworkMidway V s e call locals links' cur g) → e.rank < n →
    e.incarnation ≡ cur e.rank → call_fault e (old e) (g0.of e) call ≡ None →
    Follows V n s (At e call m.moves) (with_local locals e (after_settling (locals e))) links' cur
    (record g { of = with_member g.of e (record (g.of e) { present = answered_present (g.of e).present }) })
    (told_of e (call_and_reply e (old e) (g0.of e) call)
    (ready_by (ended_with (g.of e).present) (ready_answer (locals e))))
settle_follows V n s call locals old links links' cur g0 g e j gs m lt now fit =
    record {
      allowed =
          record {
            inside = lt;
            current = now ∙ ap (λ (u : ℕ → ℕ). u e.rank) (sym j.now);
            fit =
                fault_is call ∙ fit;
            moves = m.taken;
          };
      tells = ap₂ (λ (x : Option (Call × Option Reply)) (y : Option Answer). told_of e x y) (asked_is call)
          (ap₂ (λ (x : Option Ending) (y : Option (completions.Answer × List ℕ)). ready_by x y)
          (ap (λ (z : Groups). ended_with (z.of e).present) m.groups_are)
          (ready_same (s1.queues.at e) (locals e) rest (m.joined.each e)));
      joined = record {
        each =
            λ x. put_more V s1.queues.at locals links' e (after_settling (s1.queues.at e)) (after_settling (locals e))
            m.joined.each (settled_more (s1.queues.at e) (locals e) rest (m.joined.each e)) x;
        fit = m.joined.fit;
        now =
            m.joined.now;
      };
      groups_are =
          ap (λ (z : Groups). record z {
            of =
                with_member z.of e (record (z.of e) { present = answered_present (z.of e).present });
          }) m.groups_are;
    }
  where
    s1 : Machine
    s1 = after_moves (machine_start s e call) e m.moves

    rest : Endpoint → ℕ → List Message
    rest = coming V (λ y. links' y e)

    before : Endpoint → ℕ → List Message
    before = coming V (λ y. links y e)

    fault_is : (c : Option Call) → call_fault e (s.queues.at e) (s.groups.of e) c ≡ call_fault e (old e) (g0.of e) c
    fault_is None = refl
    fault_is (Some c) = ap (λ (z : Groups). fault e (s.queues.at e) (z.of e) c) gs ∙
        group_fault_same (s.queues.at e) (old e) before e (g0.of e) c (j.each e)

    asked_is : (c : Option Call) → call_and_reply e (s.queues.at e) (s.groups.of e) c ≡
        call_and_reply e (old e) (g0.of e) c
    asked_is None = refl
    asked_is (Some c) =
        ap (λ (r : Option Reply). Some (c, r)) (ap (λ (z : Groups). reply_at_once e (s.queues.at e) (z.of e) c) gs ∙
        replies_same e (s.queues.at e) (old e) (g0.of e) c
        (λ x. at_once_same (s.queues.at e) (old e) before x (j.each e)))

-- an event at an endpoint, once it is settled in the network
pub event_follows : (n : ℕ) (V : Values) (s : Machine) (w0 w : GroupNetwork) (e : Endpoint) (call : Option Call) →
    Joined V s.queues (views V w0.net) w0.net.link w.net.current → s.groups ≡ groups_in w0 →
    (m : NetworkMidway V s e call (views V w.net) w.net.link w.net.current (groups_in w)) → e.rank < n →
    e.incarnation ≡ w.net.current e.rank → call_fault e (view V (w0.net.core e)) (w0.member e).membership call ≡
    None →
    Follows V n s (At e call m.moves)
    (views V (settle_event w e (call_and_reply e (view blank (w0.net.core e)) (w0.member e).membership call)).net)
    w.net.link w.net.current
    (groups_in (settle_event w e (call_and_reply e (view blank (w0.net.core e)) (w0.member e).membership call)))
    (told_of e (call_and_reply e (view blank (w0.net.core e)) (w0.member e).membership call)
    (ready_by (ended_with (w.member e).membership.present) (core_ready (w.net.core e))))
event_follows n V s w0 w e call joined gs m lt now fit =
    subst (λ (locals : Endpoint → Local). Follows V n s event locals w.net.link w.net.current (groups_in w') told')
    (sym (views_with V w.net.core e (core_settled (w.net.core e))))
    (subst (λ (l : Local). Follows V n s event (with_local (views V w.net) e l) w.net.link w.net.current
    (groups_in w') told') (sym (view_settled V (w.net.core e)))
    (subst (λ (g : Groups). Follows V n s event (with_local (views V w.net) e (after_settling (view V (w.net.core e))))
    w.net.link w.net.current g told') (settled_groups w.member w.entered w.made e)
    (subst (λ (es : List Entry). Follows V n s event
    (with_local (views V w.net) e (after_settling (view V (w.net.core e)))) w.net.link w.net.current settled es)
    same_told
    (settle_follows V n s call (views V w.net) (views V w0.net) w0.net.link w.net.link w.net.current (groups_in w0)
    (groups_in w) e joined gs m lt now fit))))
  where
    event : Event
    event = At e call m.moves

    w' : GroupNetwork
    w' = settle_event w e (call_and_reply e (view blank (w0.net.core e)) (w0.member e).membership call)

    settled : Groups
    settled =
        record (groups_in w) {
          of =
              with_member (λ x. (w.member x).membership) e
              (record (w.member e).membership { present = answered_present (w.member e).membership.present });
        }

    told' : List Entry
    told' = told_of e (call_and_reply e (view blank (w0.net.core e)) (w0.member e).membership call)
        (ready_by (ended_with (w.member e).membership.present) (core_ready (w.net.core e)))

    asked_is : (c : Option Call) → call_and_reply e (view V (w0.net.core e)) (w0.member e).membership c ≡
        call_and_reply e (view blank (w0.net.core e)) (w0.member e).membership c
    asked_is None = refl
    asked_is (Some c) =
        ap (λ (r : Option Reply). Some (c, r))
        (replies_same e (view V (w0.net.core e)) (view blank (w0.net.core e)) (w0.member e).membership c
        (λ y. asked_blank V (w0.net.core e) y))

    same_told : told_of e (call_and_reply e (view V (w0.net.core e)) (w0.member e).membership call)
        (ready_by (ended_with (w.member e).membership.present) (ready_answer (view V (w.net.core e)))) ≡ told'
    same_told =
        ap₂ (λ (x : Option (Call × Option Reply)) (y : Option (completions.Answer × List ℕ)). told_of e x
        (ready_by (ended_with (w.member e).membership.present) y)) (asked_is call) (ready_core V (w.net.core e))
