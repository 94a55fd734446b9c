-- Which run of the machine of queues and groups goes with which happenings of the pure network.
use Rattle.std.specs.Prelude.{◌≡◌, ℕ, ◌≤◌, List, [], ◌∷◌, ◌++◌, if◌then◌else◌, ◌==◌, filter, filter_map, get_or, nat_lt}
use Rattle.std.specs.List.{AllByRecursion}
use Rattle.perfect_groups.specs.Communicators.{Communicator}
use Rattle.perfect_groups.specs.Events.{At, Event, Restart}
use Rattle.perfect_groups.specs.Machine.{Machine, machine_opening}
use Rattle.perfect_groups.specs.Runs.{IsRun, after_run, seen}
use Rattle.perfect_groups.specs.Soundness.{IsAmong, IsReal}
use Rattle.perfect_queues.specs.Messages.{Message}
use Rattle.perfect_queues.specs.State.{Local}
use Rattle.proof_group_network.specs.Network.{Ask, GroupNetwork, Happening, IsRunOfGroups, Restarts, Word, groups_in}
use Rattle.proof_group_network.specs.Network.{new_group_network, run}
use Rattle.proof_pure_network.specs.Core.{view}
use Rattle.proof_pure_network.specs.Frames.{Values, message}
use Rattle.proof_pure_network.specs.Links.{in_flight}
use Rattle.proof_pure_network.specs.Network.{Network, here}
use Rattle.vocabulary.specs.declared.endpoint.Endpoint.{Endpoint}
use Rattle.vocabulary.specs.declared.message_limit.MessageLimit.{MessageLimit}

-- the network of n ranks, in a job with this limit of messages and frames, after these happenings
abbrev pub after : (n : ℕ) (limit : MessageLimit) → List Happening → GroupNetwork
after n limit happenings = run n happenings (new_group_network n limit)

-- WHAT A NETWORK IS TO THE MACHINE

-- what the large messages hold: what their senders' requests sent
abbrev pub values_in : Network → Values
values_in w s k = get_or (w.log s) k []

-- the messages from s to x in a context that are under way: none that x wouldn't take any more
abbrev pub under_way : Values → Network → (x s : Endpoint) → (context : ℕ) → List Message
under_way V w x s c =
    if nat_lt s.incarnation ((w.core x).known s.rank) then [] else
    filter (λ m. c == m.context) (filter_map (message V s) (in_flight (w.link s x)))

-- an endpoint's part: what its core holds, and in each queue behind what came what is under way
abbrev pub local_by : Values → Network → Endpoint → Local
local_by V w x =
    record {
      requests = (view V (w.core x)).requests;
      blocked = (w.core x).blocked;
      known = (w.core x).known;
      message_limit = (w.core x).message_limit;
      queue = λ s c. (view V (w.core x)).queue s c ++ under_way V w x s c;
    }

-- the state of the machine that a network stands for, where large messages hold these
abbrev pub machine_by : Values → GroupNetwork → Machine
machine_by V w = record { queues = record { at = local_by V w.net; current = w.net.current }; groups = groups_in w }

-- and where they hold what was sent
abbrev pub machine_in : GroupNetwork → Machine
machine_in w = machine_by (values_in w.net) w

-- RUNS THAT GO WITH HAPPENINGS

-- a run of the machine of n ranks goes with these happenings: as much is seen of both, and it leads to what their
-- network stands for
pub record GoesWith (n : ℕ) (limit : MessageLimit) (happenings : List Happening) (events : List Event) : Type 0 where
  pub allowed : IsRun n (machine_opening n limit) events
  pub tells : seen (machine_opening n limit) events ≡ (after n limit happenings).history
  pub ends : after_run (machine_opening n limit) events ≡ machine_in (after n limit happenings)

-- with nothing that happened goes the run of no event
abbrev pub NoneIsARun : Type 0
NoneIsARun = (n : ℕ) (limit : MessageLimit) → GoesWith n limit [] []

-- the rank at which something happens
abbrev pub rank_of : Happening → ℕ
rank_of (Ask r c) = r
rank_of (Word s r frames notices) = r
rank_of (Restarts r) = r

-- an event of the machine is at an endpoint, or starts its rank anew
abbrev pub IsAt : Endpoint → Event → Type 0
IsAt e (At x call moves) = x ≡ e
IsAt e (Restart r) = r ≡ e.rank

-- no event, or one
abbrev pub IsOneAtMost : List Event → Type 0
IsOneAtMost [] = Unit {0}
IsOneAtMost (v ∷ []) = Unit {0}
IsOneAtMost (v ∷ (u ∷ vs)) = ⊥

-- A run goes on, by one event at most, at this endpoint
pub record GoesOnWith (n : ℕ) (limit : MessageLimit) (happenings : List Happening) (events : List Event) (e : Endpoint) : Type 0 where
  pub more : List Event
  pub own : AllByRecursion (IsAt e) more
  pub one : IsOneAtMost more
  pub goes : GoesWith n limit happenings (events ++ more)

-- whatever run goes with some happenings, it goes on with one more, by one event at most, at the endpoint that was at
-- its rank
abbrev pub HappeningsGoOn : Type 0
HappeningsGoOn =
    (n : ℕ) (limit : MessageLimit) (happenings : List Happening) (h : Happening) (events : List Event) → n ≤ 65536 →
    GoesWith n limit happenings events →
    GoesOnWith n limit (happenings ++ h ∷ []) events (here (after n limit happenings).net (rank_of h))

-- some run goes with these happenings
pub record HasARun (n : ℕ) (limit : MessageLimit) (happenings : List Happening) : Type 0 where
  pub events : List Event
  pub goes : GoesWith n limit happenings events

-- so it is of all
abbrev pub EachHasARun : Type 0
EachHasARun = (n : ℕ) (limit : MessageLimit) (happenings : List Happening) → n ≤ 65536 → HasARun n limit happenings

-- what is shown of a network by this run
pub record IsShownBy (n : ℕ) (limit : MessageLimit) (w : GroupNetwork) (events : List Event) : Type 0 where
  pub shown : IsRunOfGroups n limit w
  pub by : shown.events ≡ events

-- each run that goes with happenings shows of their network what some run does
abbrev pub RunsShowAll : Type 0
RunsShowAll =
    (n : ℕ) (limit : MessageLimit) (happenings : List Happening) (events : List Event) → n ≤ 65536 → GoesWith n limit happenings events →
    IsShownBy n limit (after n limit happenings) events

-- one group for each context: of two runs that go with happenings, of which one goes on from the other, whoever holds a
-- communicator at the end of the one, and whoever holds one at the end of the other, where their contexts are one they
-- are one
abbrev pub OneGroupAlongRuns : Type 0
OneGroupAlongRuns =
    (n : ℕ) (limit : MessageLimit) (happenings later : List Happening) (events more : List Event) (x y : Endpoint) (a b : Communicator) →
    n ≤ 65536 →
    GoesWith n limit happenings events → GoesWith n limit later (events ++ more) → IsReal x → IsReal y →
    IsAmong a ((after n limit happenings).member x).membership.held →
    IsAmong b ((after n limit later).member y).membership.held →
    a.context ≡ b.context → a ≡ b
