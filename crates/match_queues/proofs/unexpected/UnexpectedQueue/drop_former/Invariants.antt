-- The places so far are without the messages of former incarnations.
use Rattle.std.proofs.Common.{◌≡◌}
use Rattle.vocabulary.specs.Endpoints.{is_former}
use Rattle.match_queues.specs.Slots.{cleaned}
use Rattle.match_queues.specs.declared.envelope.Message.{Message}
use Rattle.match_queues.proofs.unexpected.UnexpectedQueue.drop_former.Given as goal

abbrev pub invariant-loop-place : goal.invariant-loop-place
invariant-loop-place l = record {
  slots : l.self.slots ≡
      cleaned (λ (m : Message). is_former l.rank l.incarnation m.sender) l.place l.initial.self.slots;
  room : l.self.room ≡ l.initial.self.room;
}
