use Rattle.std.proofs.Common.{rules, tests, ◌≡◌, ◌++◌, ◌∷◌, ◌+◌, drop, length, IfErr}
use Rattle.std.proofs.lemmas.Iterator.Adapters.{YieldsList-from_vec}
use Rattle.std.proofs.lemmas.Iterator.Consumers.{YieldsList-so_far, YieldsList-turn}
use Rattle.simulation.proofs.CourseLaws.{lines_split, lines_stop}
use Rattle.simulation.proofs.PrintLaws.{err_same}
use Rattle.simulation.proofs.running.Simulation.run_all.Goals as goal

-- src/running.rt:229:13
pub returns-in_err-run-clause-err : goal.returns-in_err-run-clause-err
returns-in_err-run-clause-err g c =
    let road = YieldsList-from_vec {s = c.into_iter-line-iterator.result} c.args.lines.items (search (rules, tests))
    (search (rules, tests)) in
    let far = YieldsList-so_far road c.loop-line.yielded c.loop-line.line-iterator c.loop-line.yielded_by in
    let turn = YieldsList-turn road c.loop-line.yielded c.loop-line.line-iterator c.loop-line.yielded_by c.next.result
    c.next.new.self c.in-Some.line c.in-Some.is c.next.ensures.steps in
    let all : c.args.lines.items ≡ c.loop-line.yielded ++ c.in-Some.line ∷
    drop (length c.loop-line.yielded + 1) c.args.lines.items =
    lines_split c.args.lines.items c.loop-line.yielded c.in-Some.line far turn.0 turn.1 in
    err_same c.from_residual.result c.in_err-run.field-0.0 _ (search rules)
    (lines_stop c.in_err-run.field-0.0 c.run.new.self.lack c.args.self.now.scene c.loop-line.self.scene
    c.args.lines.items c.loop-line.yielded (drop (length c.loop-line.yielded + 1) c.args.lines.items) c.in-Some.line
    (g.W.Write.contents c.args.out.now) (g.W.Write.contents c.loop-line.out) (g.W.Write.contents c.run.new.out) all
    c.loop-line.invariant c.in_err-run.ensures.err)
