-- The places so far are without the receives that name the rank.
use Rattle.std.proofs.Common.{◌≡◌}
use Rattle.perfect_queues.specs.Receives.{names}
use Rattle.match_queues.specs.Slots.{cleaned}
use Rattle.match_queues.specs.declared.envelope.PostedReceive.{PostedReceive}
use Rattle.match_queues.proofs.posted.PostedQueue.drop_naming.Given as goal

abbrev pub invariant-loop-place : goal.invariant-loop-place
invariant-loop-place l = record {
  slots : l.self.slots ≡ cleaned (λ (r : PostedReceive). names r.source l.rank) l.place l.initial.self.slots;
  room : l.self.room ≡ l.initial.self.room;
}
