use Rattle.std.proofs.Common.{ap, ◌∙◌}
use Rattle.launch_keeper.specs.Roles.{kept_of}
use Rattle.launch_keeper.proofs.RoleLaws.{kept_again, is_kept}
use Rattle.launch_keeper.proofs.role.kept_rank.Goals as goal

pub returns-clause-found : goal.returns-clause-found
returns-clause-found c = is_kept c.args.words.now c.kept_of.result c.kept_of.ensures

pub returns-clause-only : goal.returns-clause-only
returns-clause-only c = λ rank rest few is. c.kept_of.ensures ∙ ap kept_of is ∙ kept_again rank rest few
