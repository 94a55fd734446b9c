use Rattle.std.proofs.Common.{sym, ◌∙◌, tests, rules}
use Rattle.std.proofs.lemmas.Iterator.Consumers.{YieldsList-end}
use Rattle.std.proofs.lemmas.Iterator.Adapters.{YieldsList-from_vec}
use Rattle.script_files.proofs.ScriptSteps.{all_taken, shown_as_is}
use Rattle.script_files.proofs.script.lines_among.Goals as goal

pub returns : goal.returns
returns c =
    let t = YieldsList-end (YieldsList-from_vec {s = c.into_iter-line-iterator.result} c.args.lines.items (search (rules, tests)) (search (rules, tests))) c.loop-line.yielded c.loop-line.line-iterator c.loop-line.yielded_by c.next.result c.next.new.self c.in-None.is c.next.ensures.steps in
    all_taken c.args.rank c.args.incarnation c.loop-line.yielded c.args.lines.items c.loop-line.here c.loop-line.found
    c.loop-line.invariant (sym (shown_as_is c.loop-line.yielded) ∙ t.0)
