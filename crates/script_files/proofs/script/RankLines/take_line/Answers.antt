use Rattle.script_files.proofs.ScriptSteps.{on_line, does_line}
use Rattle.script_files.proofs.script.RankLines.take_line.Goals as goal

pub returns-in-On : goal.returns-in-On
returns-in-On c =
    λ rest. on_line c.args.rank c.args.incarnation c.args.here c.includes.result c.args.self.now c.args.line
    c.in-On.audience rest c.in-On.is c.includes.ensures

pub returns-in_ok-keep-in-Does : goal.returns-in_ok-keep-in-Does
returns-in_ok-keep-in-Does c =
    λ rest. does_line c.args.rank c.args.incarnation c.args.here c.args.self.now c.keep.new.self c.args.line
    c.in-Does.statement rest c.in-Does.is c.in_ok-keep-in-Does.ensures
