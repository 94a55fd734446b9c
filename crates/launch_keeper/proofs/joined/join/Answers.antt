use Rattle.std.proofs.Common.{◌≡◌, map, subst, sym}
use Rattle.std.proofs.lemmas.Result.{IfOk-weaker}
use Rattle.launch_keeper.specs.JoinedOutput.{IsJoined, join_outputs}
use Rattle.launch_keeper.proofs.JoinLaws.{is_joined}
use Rattle.launch_keeper.proofs.joined.join.Goals as goal

pub returns-clause-lines : goal.returns-clause-lines
returns-clause-lines c =
    let outputs = map (λ output. output.items) c.args.outputs.now in
    IfOk-weaker c.join_outputs.result (λ text. text.items ≡ join_outputs 0 outputs)
    (λ text. IsJoined 0 outputs text.items) (λ text e. subst (IsJoined 0 outputs) (sym e) (is_joined 0 outputs))
    c.join_outputs.ensures
