use Rattle.std.proofs.Common.{rules, ◌≡◌, ◌∙◌, ap, ap₂, codes, true}
use Rattle.std.proofs.lemmas.Result.{IfOk-weaker}
use Rattle.clap.specs.Words.{App, Rule, new_rule, rule_of, with_rule}
use Rattle.rank_settings.proofs.program.rank_program.Goals as goal

next : (a b c : App) (r : Rule) → b ≡ with_rule a r → a ≡ c → b ≡ with_rule c r
next a b c r is before = is ∙ ap (λ (x : App). with_rule x r) before

pub returns : goal.returns
returns c =
    let named = c.new-program.ensures.app in
    let rank = next _ _ _ _ c.in_ok-program.ensures named in
    let size = next _ _ _ _ c.in_ok-program-2.ensures rank in
    let inc = next _ _ _ _ c.in_ok-program-3.ensures size in
    let job = next _ _ _ _ c.in_ok-program-4.ensures inc in
    let port = next _ _ _ _ c.in_ok-program-5.ensures job in
    let patience = next _ _ _ _ c.in_ok-program-6.ensures port in
    let hosts = next _ _ _ _ c.in_ok-program-7.ensures patience in
    let file_is : rule_of c.required.result ≡ record (new_rule (codes "FILE")) { required = true } = search rules in
    IfOk-weaker c.arg.result _ _ (λ m h. h.shape (search rules) ∙ ap₂ with_rule hosts file_is) c.arg.ensures
