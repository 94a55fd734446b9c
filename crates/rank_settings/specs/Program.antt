-- The options of the rank program.
use Rattle.std.specs.Prelude.{Bool, true, false, Some, codes}
use Rattle.clap.specs.Words.{App, Rule, Text, new_app, new_rule, with_rule}
use Rattle.clap.specs.declared.builder.action.ArgAction.TheVariants.{Set}

-- `--name VALUE`
abbrev pub option_rule : Text → Bool → Rule
option_rule name is_required = record (new_rule name) { long = Some name; required = is_required; action = Some Set }

-- `rank_main --rank r --size n --inc i --job j --port p [--patience ms] [--hosts A,B,..] FILE`, the options in any order
abbrev pub rank_program : App
rank_program =
    let rank = with_rule (new_app (codes "rank_main")) (option_rule (codes "rank") true) in
    let size = with_rule rank (option_rule (codes "size") true) in
    let inc = with_rule size (option_rule (codes "inc") true) in
    let job = with_rule inc (option_rule (codes "job") true) in
    let port = with_rule job (option_rule (codes "port") true) in
    let patience = with_rule port (option_rule (codes "patience") false) in
    let hosts = with_rule patience (option_rule (codes "hosts") false) in
    with_rule hosts (record (new_rule (codes "FILE")) { required = true })
