use Rattle.std.proofs.Common.{◌≡◌, ◌+◌, [], length}
use Rattle.outgoing_datagrams.specs.HandedDatagrams.{HandsOn, KeepsFrom}
use Rattle.outgoing_datagrams.proofs.sending.Sending.pass_all.Given as goal

abbrev pub invariant-loop : goal.invariant-loop
invariant-loop l =
    HandsOn l.fn.self.kept l.fn.self.waiting [] l.self.kept l.self.waiting
    × (l.self.time ≡ l.fn.self.time)
    × (length l.self.waiting + l.counter ≡ l.end)
    × (l.fn.self.waiting ≡ [] → l.self ≡ l.fn.self)
    × KeepsFrom l.fn.self l.fn.self.waiting l.self l.self.waiting
