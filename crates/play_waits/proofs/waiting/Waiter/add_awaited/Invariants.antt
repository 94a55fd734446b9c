use Rattle.std.proofs.Common.{◌≡◌, ◌++◌, filter, drop}
use Rattle.play_waits.specs.AwaitedMembers.{is_awaited}
use Rattle.play_waits.proofs.waiting.Waiter.add_awaited.Given as goal

-- those so far and those of the rest are those of all
abbrev pub invariant-loop-member : goal.invariant-loop-member
invariant-loop-member l =
    l.waiting.whom.items ++ filter (is_awaited l.entered l.self.communicators.now.entered.items)
    (drop l.member-index l.members) ≡
    l.fn.waiting.whom.items ++ filter (is_awaited l.entered l.self.communicators.now.entered.items) l.members
