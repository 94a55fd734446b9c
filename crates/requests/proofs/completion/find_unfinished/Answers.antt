-- A request is unfinished in one of the parts, or in none.
use Rattle.std.proofs.Common.{sym, ◌∙◌}
use Rattle.requests.proofs.SearchLaws.{in_second, in_parts}
use Rattle.requests.proofs.completion.find_unfinished.Goals as goal

pub returns-in-Some : goal.returns-in-Some
returns-in-Some c =
    in_second c.args.table.now.slots c.in-Some.place c.args.requests.now _ _ c.split_at.ensures.by_index.0
    (sym c.first_unfinished.ensures ∙ c.in-Some.is)

pub returns-in-None : goal.returns-in-None
returns-in-None c =
    in_parts c.args.table.now.slots c.args.requests.now _ _ c.first_unfinished-in-None.result
    c.split_at.ensures.by_index.0 (sym c.first_unfinished.ensures ∙ c.in-None.is) c.first_unfinished-in-None.ensures
