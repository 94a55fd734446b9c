use Rattle.std.proofs.Common.{rules, ap, subst, ◌∙◌, List, ℕ, map}
use Rattle.process_commands.specs.Commands.{Sets}
use Rattle.rank_environment.specs.Variables.{Setting, variable_text}
use Rattle.run_plan.specs.Commands.{settings_at}
use Rattle.run_plan.proofs.CommandLaws.{is_rank_command}
use Rattle.run_plan.proofs.commands.rank_command.Goals as goal

pub returns : goal.returns
returns c =
    is_rank_command c.args.start.now c.args.launched.now c.args.words.now c.args.has_patience c.in_ok-command.command
    c.set_all.new.command c.set_variables.new.command (search rules) c.in_ok-command.ensures.variables
    c.in_ok-set_all.ensures.call
    (subst (λ (p : List ℕ). Sets c.in_ok-command.command (settings_at c.args.words.now p) c.set_all.new.command)
    (c.deref.ensures.value ∙ c.in_ok-setting_places.ensures) c.in_ok-set_all.ensures.set)
    c.in_ok-set_variables.ensures.call
    (subst (λ (s : List Setting). Sets c.set_all.new.command s c.set_variables.new.command)
    (ap (map variable_text) c.deref-2.ensures.value ∙ c.in_ok-variables.ensures) c.in_ok-set_variables.ensures.set)
