use Rattle.std.proofs.Common.{IfErr, IfOk}
use Rattle.std.proofs.lemmas.Result.{IfOk-weaker}
use Rattle.simulation.proofs.PrintLaws.{err_more}
use Rattle.simulation.proofs.StopLaws.{act_line_breaks, act_line_first}
use Rattle.simulation.proofs.TableLaws.{act_line}
use Rattle.simulation.proofs.rank_table.act_in.Goals as goal

-- src/rank_table.rt:87:9
pub returns-in_default-clause-err : goal.returns-in_default-clause-err
returns-in_default-clause-err g c = act_line_first c.args.table.now.size c.args.rank c.args.action c.args.world.now
    c.args.table.now.ranks.entries (g.W.Write.contents c.args.out.now)

-- src/rank_table.rt:70:1
pub returns-clause-ok : goal.returns-clause-ok
returns-clause-ok g c = IfOk-weaker c.act_at.result _ _
    (λ done r. act_line c.args.table.now.size c.args.rank c.args.action c.args.world.now c.act_at.new.world
    c.args.table.now.ranks.entries c.begin.new.ranks.entries c.act_at.new.ranks.entries done
    (g.W.Write.contents c.args.out.now) (g.W.Write.contents c.act_at.new.out) c.in-Ok.ensures.same
    (r c.args.table.now.size))
    c.act_at.ensures.ok

-- src/rank_table.rt:70:1
pub returns-clause-err : goal.returns-clause-err
returns-clause-err g c = err_more c.act_at.result _ _
    (λ e breaks. act_line_breaks e c.args.table.now.size c.args.rank c.args.action c.args.world.now
    c.args.table.now.ranks.entries
    c.begin.new.ranks.entries (g.W.Write.contents c.args.out.now) (g.W.Write.contents c.act_at.new.out)
    c.in-Ok.ensures.same (breaks c.args.table.now.size)) c.act_at.ensures.err
