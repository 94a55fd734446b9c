use Rattle.numerals.proofs.Numerals.{is_text, parsed}
use Rattle.numerals.proofs.number.numeral_value.Goals as goal

pub returns-in-Ok : goal.returns-in-Ok
returns-in-Ok c =
    rw c.ok.ensures.value
    (parsed c.args.word.now c.in-Ok.text.now c.parse.result c.requires c.in-Ok.ensures.cases.0 c.parse.ensures.value.0)

pub returns-in-Err : goal.returns-in-Err
returns-in-Err c = absurd (c.in-Err.ensures.cases.0 (is_text c.args.word.now c.requires))
