use Rattle.proof_script_processes.proofs.ReplyViews.{replies_are_heard}
use Rattle.proof_script_processes.proofs.laws.replies_are_heard.Goals as goal

pub returns : goal.returns
returns c = replies_are_heard
