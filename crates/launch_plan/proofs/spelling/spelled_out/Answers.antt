use Rattle.std.proofs.Common.{◌≡◌, subst, sym, ℕ, List, Option}
use Rattle.std.specs.Option.{option_copied}
use Rattle.std.proofs.lemmas.Result.{IfOk-weaker}
use Rattle.launch_plan.specs.Launches.{Launch}
use Rattle.launch_plan.specs.Grammar.{AskFor}
use Rattle.launch_plan.specs.WordLists.{spelled_out}
use Rattle.launch_plan.proofs.SpellingLaws.{spelled_same}
use Rattle.launch_plan.proofs.spelling.spelled_out.Goals as goal

pub returns-clause-same : goal.returns-clause-same
returns-clause-same c =
    let words = c.args.words.now in
    let config = option_copied c.args.config in
    IfOk-weaker c.spelled_by.result (λ all. all ≡ spelled_out words config)
    (λ all. (other : Option (List ℕ)) (launch : Launch) → AskFor words config launch → AskFor all other launch)
    (λ all e other launch ask. subst (λ w. AskFor w other launch) (sym e) (spelled_same words config other launch ask))
    c.spelled_by.ensures
