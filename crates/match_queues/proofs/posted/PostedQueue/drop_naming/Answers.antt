use Rattle.std.proofs.Common.{◌≡◌, ◌<◌, ◌∙◌, ℕ, length, ap, arith, refl}
use Rattle.perfect_queues.specs.Receives.{names}
use Rattle.match_queues.specs.declared.envelope.PostedReceive.{PostedReceive}
use Rattle.match_queues.specs.Slots.{somes, cleaned}
use Rattle.match_queues.proofs.SlotLemmas.{cleaned-length, cleaned_next, cleaned-all}
use Rattle.match_queues.proofs.posted.PostedQueue.drop_naming.Goals as goal

pub drop_at-requires : goal.drop_at-requires
drop_at-requires c =
    let long : length c.loop-place.self.slots ≡ length c.args.self.now.slots = ap length c.loop-place.invariant.slots ∙ cleaned-length (λ (r : PostedReceive). names r.source c.args.rank) c.loop-place.place c.args.self.now.slots in
    omega (arith, long, c.len-place-end.ensures, c.loop-place-test.true)

pub loop-place-preserved : goal.loop-place-preserved
loop-place-preserved c =
    let lt : c.loop-place.place < length c.args.self.now.slots = omega (arith, c.len-place-end.ensures, c.loop-place-test.true) in
    record {
      slots = c.drop_at.ensures.slots ∙
          cleaned_next (λ (r : PostedReceive). names r.source c.args.rank) c.loop-place.place c.args.self.now.slots
          c.loop-place.self.slots _ c.loop-place.invariant.slots lt refl;
      room = c.drop_at.ensures.room ∙ c.loop-place.invariant.room;
    }

pub returns-clause-kept : goal.returns-clause-kept
returns-clause-kept c =
    let all : c.loop-place.place ≡ length c.args.self.now.slots = omega (arith, c.len-place-end.ensures, c.loop-place-test.false, c.loop-place.auto.place-end) in
    ap somes c.loop-place.invariant.slots ∙
    ap (λ (n : ℕ). somes (cleaned (λ (r : PostedReceive). names r.source c.args.rank) n c.args.self.now.slots)) all
    ∙ cleaned-all (λ (r : PostedReceive). names r.source c.args.rank) c.args.self.now.slots
