use Rattle.std.proofs.Common.{◌≤◌, arith}
use Rattle.point_to_point_calls.proofs.SendLaws.{few_elements}
use Rattle.point_to_point_calls.proofs.sends.request_frame.Goals as goal

pub returns-clause-fits : goal.returns-clause-fits
returns-clause-fits c = record { tag = c.requires.tag_is; plane = tt }

pub overflow_cast-result : goal.overflow_cast-result
overflow_cast-result c =
    let few = few_elements c.args.tag c.args.elements.now c.requires in
    let counted : c.len.result ≤ 2147483647 = rw c.len.ensures few in
    omega (arith, counted)
