use Rattle.std.proofs.Common.{arith}
use Rattle.derived_types.proofs.TransferLaws.{count_whole, count_none}
use Rattle.derived_types.proofs.layout.copies_in.Goals as goal

pub returns-then-elements-entries-eq0-clause-whole : goal.returns-then-elements-entries-eq0-clause-whole
returns-then-elements-entries-eq0-clause-whole c =
    count_whole c.args.elements c.args.entries c.if-elements-entries-eq0.true

pub returns-else-elements-entries-eq0-clause-undefined : goal.returns-else-elements-entries-eq0-clause-undefined
returns-else-elements-entries-eq0-clause-undefined c =
    let f = c.if-entries-eq0.false in
    count_none c.args.elements c.args.entries (omega arith) c.if-elements-entries-eq0.false
