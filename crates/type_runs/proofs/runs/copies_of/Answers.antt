use Rattle.std.proofs.Common.{◌≡◌, length, arith}
use Rattle.type_runs.proofs.RunLaws.{only_one}
use Rattle.type_runs.proofs.runs.copies_of.Goals as goal

pub returns-in-Some : goal.returns-in-Some
returns-in-Some c = λ bodies bytes a nz named size.
    let one : length c.args.runs.now ≡ 1 = omega (arith, c.in-len1.len_at_least, c.in-len1.len_below) in
    c.in-Some.ensures bodies bytes (only_one bodies c.args.runs.now _ bytes one a)
