use Rattle.std.proofs.Common.{◌≡◌, drop}
use Rattle.rendezvous.specs.PayloadNumbers.{AreLeft, counted}
use Rattle.rendezvous.proofs.payload_transfers.begin_each.Given as goal

abbrev pub invariant-loop-payload : goal.invariant-loop-payload
invariant-loop-payload l = record {
  begun : counted l.numbers.items (drop l.payload-index l.payloads) ≡ counted l.fn.numbers.items l.payloads;
  left : AreLeft l.numbers.items (drop l.payload-index l.payloads);
}
