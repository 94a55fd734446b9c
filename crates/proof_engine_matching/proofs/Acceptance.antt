-- The queues' test of a message is that of the machine.
use Rattle.std.proofs.Common.{◌≡◌, ℕ, List, Bool, true, false, ◌&&◌, ◌==◌, refl}
use Rattle.perfect_queues.specs.Receives as machine
use Rattle.match_queues.specs.Accepts as queues
use Rattle.match_queues.specs.declared.envelope.PostedReceive as posted
use Rattle.match_queues.specs.declared.envelope.Message.{Message}
use Rattle.proof_pure_network.specs.WaitingMessages.{fits}
use Rattle.proof_engine_view.specs.Rows.{held_of}
use Rattle.vocabulary.specs.declared.endpoint.Endpoint.{Endpoint}
use Rattle.proof_engine_view.specs.Transfers.{Transfer}

-- the record that stands in the queue for a receive
abbrev pub posted_record : (key : ℕ) → machine.Receive → posted.PostedReceive
posted_record key p = record { request = key; context = p.context; source = p.source; tag = p.tag }

-- both sides need all three
and_nested : (a b c : Bool) → ((a && b) && c) ≡ (a && (b && c))
and_nested true b c = refl
and_nested false b c = refl

-- a receive in the queue accepts the messages that the receive itself does
pub same_test : (from : Endpoint → List Transfer) (key : ℕ) (p : machine.Receive) (m : Message) →
    queues.accepts (posted_record key p) m ≡ fits p (held_of from m)
same_test from key p m =
    and_nested (p.context == m.context) (machine.is_from p.source m.sender.rank) (machine.has_tag p.tag m.tag)
