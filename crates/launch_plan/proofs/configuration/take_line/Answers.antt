use Rattle.std.proofs.Common.{List, [], ◌∷◌, ◌++◌, ap, ◌∙◌}
use Rattle.std.specs.Prelude.{filter}
use Rattle.launch_keeper.specs.Words.{Word}
use Rattle.launch_plan.specs.Configuration.{is_nonempty}
use Rattle.launch_plan.proofs.ConfigurationLaws.{take_skipped, take_on, take_end}
use Rattle.launch_plan.proofs.configuration.take_line.Goals as goal

pub returns-then-is_skipped : goal.returns-then-is_skipped
returns-then-is_skipped c =
    λ rest. take_skipped c.args.lines.now.items c.args.begun c.args.words.now c.args.line.now rest
    c.if-is_skipped.ensures

pub returns-in_ok-push_words-in-Some : goal.returns-in_ok-push_words-in-Some
returns-in_ok-push_words-in-Some c =
    λ rest. take_on c.args.lines.now.items c.args.begun c.args.words.now c.push_words.new.words c.args.line.now
    c.in-Some.front.now rest c.if-is_skipped.ensures c.in-Some.ensures.0 c.in-Some.ensures.1
    c.in_ok-push_words-in-Some.ensures

pub returns-in_ok-end_line-in-None : goal.returns-in_ok-end_line-in-None
returns-in_ok-end_line-in-None c =
    λ rest. take_end c.args.lines.now.items c.end_line.new.lines.items c.args.begun c.args.words.now
    c.push_words-in-None.new.words c.replace.new.dest c.args.line.now rest c.if-is_skipped.ensures c.in-None.ensures
    c.in_ok-push_words-in-None.ensures
    (c.in_ok-end_line-in-None.ensures ∙
    ap (λ (w : List Word). c.args.lines.now.items ++ filter is_nonempty (w ∷ [])) c.replace.ensures.value)
    (c.replace.ensures.after ∙ c.new.ensures)
