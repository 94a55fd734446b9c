-- A run whose end is joined to a network ends in the state that the network stands for.
use Rattle.std.proofs.Common.{◌≡◌, ℕ, List}
use mathlib.Core.Path.{fun_ext}
use Rattle.perfect_groups.specs.Events.{Entry}
use Rattle.perfect_groups.specs.Machine.{Machine, machine_opening}
use Rattle.perfect_groups.specs.Runs.{after_run}
use Rattle.perfect_queues.specs.State.{State}
use Rattle.proof_group_network.proofs.NetworkMoves.{NetworkSeen}
use Rattle.proof_group_network.specs.Network.{GroupNetwork, groups_in}
use Rattle.proof_pure_network.proofs.Invariants.{views}
use Rattle.proof_pure_network.proofs.Joins.{Joined}
use Rattle.proof_pure_network.proofs.Links.{coming}
use Rattle.proof_pure_network.proofs.Simulation.{Sim}
use Rattle.proof_pure_network.specs.Frames.{Values}
use Rattle.vocabulary.specs.declared.endpoint.Endpoint.{Endpoint}
use Rattle.proof_network_runs.specs.Runs.{local_by, machine_by}
use Rattle.vocabulary.specs.declared.message_limit.MessageLimit.{MessageLimit}

-- an endpoint's part is what arrived, and behind it what is to come
local_is : (V : Values) (w : GroupNetwork) (q : State) (x : Endpoint) →
    Joined V q (views V w.net) w.net.link w.net.current → q.at x ≡ local_by V w.net x
local_is V w q x j =
    let sim : Sim (q.at x) (views V w.net x) (coming V (λ y. w.net.link y x)) = j.each x in
    let queues : (q.at x).queue ≡ (local_by V w.net x).queue = fun_ext (λ s. fun_ext (λ c. sim.queue s c)) in
    λ t.
    record {
      requests = sim.requests t;
      blocked = sim.blocked t;
      known = sim.known t;
      message_limit = sim.message_limit t;
      queue = queues t;
    }

-- the whole state is the network's
pub joined_is : (V : Values) (w : GroupNetwork) (m : Machine) →
    Joined V m.queues (views V w.net) w.net.link w.net.current → m.groups ≡ groups_in w → m ≡ machine_by V w
joined_is V w m j groups =
    let at : m.queues.at ≡ local_by V w.net = fun_ext (λ x. local_is V w m.queues x j) in
    λ t. record { queues = record { at = at t; current = j.now t }; groups = groups t }

-- so a run that is seen of a network ends there
pub seen_ends : (V : Values) (n : ℕ) (limit : MessageLimit) (history : List Entry) (w : GroupNetwork) →
    (s : NetworkSeen V n limit history (views V w.net) w.net.link w.net.current (groups_in w)) →
    after_run (machine_opening n limit) s.events ≡ machine_by V w
seen_ends V n limit history w s = joined_is V w (after_run (machine_opening n limit) s.events) s.joined s.groups_are
