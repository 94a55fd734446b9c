use Rattle.std.proofs.Common.{rules}
use Rattle.script_calls.proofs.Standings.{entry_more}
use Rattle.script_calls.proofs.table.entries_are_alike.Goals as goal

pub loop-place-preserved : goal.loop-place-preserved
loop-place-preserved g c =
    entry_more c.as_slice-these.result c.as_slice-those.result c.loop-place.place c.in-Some-Some.name.now
    c.in-Some-Some.other_name.now c.in-Some-Some.value.now c.in-Some-Some.other_value.now c.loop-place.invariant
    (search rules) (search rules) (search rules) (search rules)
