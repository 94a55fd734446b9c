use Rattle.std.proofs.Common.{Some, sym, ap, ◌∙◌}
use Rattle.std.proofs.lemmas.List.{nil_from_length}
use Rattle.tokens.specs.Grammar.{Word}
use Rattle.statements.specs.LineWords.{last}
use Rattle.statements.proofs.LayoutLaws.{last_again, no_last}
use Rattle.statements.proofs.layout_reading.last.Goals as goal

pub returns-in-Some : goal.returns-in-Some
returns-in-Some c =
    ap last c.in-Some.ensures.cases.0 ∙ last_again c.in-Some.front.now c.in-Some.word.now
    ∙ ap (λ (word : Word). Some (c.in-Some.front.now, word)) (sym c.as_bytes.ensures)

pub returns-in-None : goal.returns-in-None
returns-in-None c = ap last (nil_from_length c.args.words.now c.in-None.ensures.cases) ∙ no_last
