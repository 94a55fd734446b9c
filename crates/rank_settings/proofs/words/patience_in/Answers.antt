use Rattle.std.proofs.Common.{codes, sym, ap, ◌∙◌}
use Rattle.clap.specs.Words.{found_of}
use Rattle.clap.proofs.WalkLemmas.{first_value-rows}
use Rattle.rank_settings.specs.Settings.{patience_of}
use Rattle.rank_settings.proofs.words.patience_in.Goals as goal

pub returns-in-Some-number_between : goal.returns-in-Some-number_between
returns-in-Some-number_between c =
    let given = sym (first_value-rows (found_of c.args.matches.now) (codes "patience")) ∙ sym c.in-Some.ensures in
    ap patience_of given ∙ sym (rw c.as_bytes.ensures.value at c.in-Some-number_between.ensures.exact)

pub returns-in-None : goal.returns-in-None
returns-in-None c =
    let given = sym (first_value-rows (found_of c.args.matches.now) (codes "patience")) ∙ sym c.in-None.ensures in
    ap patience_of given

pub returns-in-None-number_between : goal.returns-in-None-number_between
returns-in-None-number_between c =
    let given = sym (first_value-rows (found_of c.args.matches.now) (codes "patience")) ∙ sym c.in-Some.ensures in
    ap patience_of given ∙ sym (rw c.as_bytes.ensures.value at c.in-None-number_between.ensures.exact)
