use Rattle.one_meaning.proofs.Examples.{copies_are_apart, deadlock_waits, later_message_is_received_by_tag}
use Rattle.one_meaning.proofs.Examples.{messages_are_received_in_order, ping_pong_ends, refusals_are_told}
use Rattle.one_meaning.proofs.Examples.{sums_are_printed}
use Rattle.one_meaning.proofs.laws.examples_come_out.Goals as goal

pub returns-clause-ping_pong : goal.returns-clause-ping_pong
returns-clause-ping_pong c = ping_pong_ends

pub returns-clause-by_tags : goal.returns-clause-by_tags
returns-clause-by_tags c = later_message_is_received_by_tag

pub returns-clause-in_order : goal.returns-clause-in_order
returns-clause-in_order c = messages_are_received_in_order

pub returns-clause-on_copies : goal.returns-clause-on_copies
returns-clause-on_copies c = copies_are_apart

pub returns-clause-refused : goal.returns-clause-refused
returns-clause-refused c = refusals_are_told

pub returns-clause-sums : goal.returns-clause-sums
returns-clause-sums c = sums_are_printed

pub returns-clause-deadlock : goal.returns-clause-deadlock
returns-clause-deadlock c = deadlock_waits
