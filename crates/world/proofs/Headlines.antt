-- A world that follows the pure network with communicators is seen as a run of the machine of queues and groups.
use Rattle.std.proofs.Common.{ℕ, length, subst}
use Rattle.vocabulary.specs.declared.message_limit.MessageLimit.{MessageLimit}
use Rattle.proof_network_bridge.proofs.WorldLaws.{following_is_run}
use Rattle.proof_network_bridge.specs.EventLaws.{IsSeenOfMachine}
use Rattle.proof_network_bridge.specs.WorldViews.{limit_in, network_after}
use Rattle.world.proofs.Keys.{means_what_is_seen}
use Rattle.world.specs.Headline.{IsRunOfMachine, IsSound, SessionsAreTrue, history_seen}
use Rattle.world.specs.WorldState.{WorldState}

pub is_run_of_machine : (w : WorldState) → IsSound w.engines w.datagrams w.history → IsRunOfMachine w
is_run_of_machine w s =
    let m : IsSeenOfMachine (length w.engines) (limit_in w.engines) w.engines (history_seen w.history) =
    subst (λ (l : MessageLimit). IsSeenOfMachine (length w.engines) l w.engines (history_seen w.history)) s.limited
    (following_is_run (length w.engines) w.engines w.datagrams (history_seen w.history) s.followed) in
    record {
      run_events = m.events;
      run = m.run;
      tells = m.tells;
      now = m.now;
      knows = m.knows;
      refuses = m.refuses;
      own_requests = λ r e call there own. means_what_is_seen w.history e call (s.named r e there) own;
      takes = m.takes;
      holds = m.holds;
      one_group = m.one_group;
      quiet = m.quiet;
      finds = m.finds;
      leaves = m.leaves;
    }

-- the law of a session, of all sessions
pub sessions_are_true : (w : WorldState) → IsSound w.engines w.datagrams w.history → SessionsAreTrue w
sessions_are_true w s =
    record {
      links = s.followed.joined.texts;
      current = (network_after (length w.engines) s.followed.limit s.followed.happenings).net.current;
      truth = s.followed.joined.links;
    }
