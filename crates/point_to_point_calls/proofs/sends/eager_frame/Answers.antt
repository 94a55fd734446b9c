use Rattle.std.proofs.Common.{◌≡◌, ◌≤◌, ◌*◌, length, ap, ◌∙◌, arith}
use Rattle.vocabulary.specs.BasicTypes.{size_of}
use Rattle.datatypes.specs.ContentLaws.{length-bytes_of}
use Rattle.point_to_point_calls.proofs.SendLaws.{few_elements}
use Rattle.point_to_point_calls.proofs.sends.eager_frame.Goals as goal

pub returns-clause-fits : goal.returns-clause-fits
returns-clause-fits c =
    let bytes = ap length c.short_bytes.ensures.bytes in
    let size : length c.short_bytes.result.now ≡ length c.args.elements.now.values * size_of c.args.elements.now.basic = bytes ∙ length-bytes_of (size_of c.args.elements.now.basic) c.args.elements.now.values in
    let few : length c.args.elements.now.values * size_of c.args.elements.now.basic ≤ 61440 = c.requires.small in
    rw (c.basic.ensures, c.len.ensures)
    (record { tag = c.requires.sendable.tag_is; size = size; limit = omega (arith, size, few); plane = tt })

pub overflow_cast-result : goal.overflow_cast-result
overflow_cast-result c =
    let few = few_elements c.args.tag c.args.elements.now c.requires.sendable in
    let counted : c.len.result ≤ 2147483647 = rw c.len.ensures few in
    omega (arith, counted)
