use Rattle.std.proofs.Common.{rules, ◌≡◌, OnOk, Some, refl}
use Rattle.std.specs.BTreeMap.{WritesThrough, get}
use Rattle.std.specs.Ordering.{nat_cmp}
use Rattle.std.proofs.lemmas.Result.{IfOk-weaker}
use Rattle.simulation.specs.RankAnswers.{entry_in}
use Rattle.simulation.specs.declared.error.SimulateError.TheVariants as errors
use Rattle.simulation.proofs.StopLaws.{complete_first}
use Rattle.simulation.proofs.TableLaws.{completed_some}
use Rattle.simulation.proofs.rank_table.complete.Goals as goal

-- src/rank_table.rt:118:17
pub returns-in_default-hear_completion-clause-err : goal.returns-in_default-hear_completion-clause-err
returns-in_default-hear_completion-clause-err g c = λ size.
    complete_first errors.OutOfMemory size c.args.world.now c.args.ranks.now.entries
    (entry_in c.args.world.now c.args.stepped) c.in-Some.entry.now c.in-Some-completion.completion
    (g.W.Write.contents c.args.out.now) c.in-Some.ensures c.in-Some-completion.is refl

-- src/rank_table.rt:95:1
pub returns-in-Ok-clause-ok : goal.returns-in-Ok-clause-ok
returns-in-Ok-clause-ok g c =
    let named : get nat_cmp c.args.ranks.now c.in-Some.entry.now.endpoint.rank ≡ Some c.in-Some-get_mut.names.now =
    search rules in
    let writes : WritesThrough nat_cmp (nat_cmp c.in-Some.entry.now.endpoint.rank) c.args.ranks.now
    c.call_following.new.names (c.get_mut.follows.lender c.call_following.new.names) =
    search rules in
    IfOk-weaker c.call_following.result _ _
    (λ done r size. completed_some size c.args.world.now c.call_following.new.world c.args.ranks.now
    (c.get_mut.follows.lender c.call_following.new.names) (entry_in c.args.world.now c.args.stepped)
    c.in-Some.entry.now c.in-Some-completion.completion c.in-Some-get_mut.names.now c.hear_completion.new.self
    c.call_following.new.names c.in-Ok.heard c.next_of.result (g.W.Write.contents c.args.out.now)
    (g.W.Write.contents c.call_following.new.out) c.in-Some.ensures c.in-Some-completion.is named writes c.in-Ok.ensures
    c.next_of.ensures r) c.call_following.ensures.ok
