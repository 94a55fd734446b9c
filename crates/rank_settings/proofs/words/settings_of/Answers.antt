use Rattle.std.proofs.Common.{◌≡◌, ◌∙◌, ap, refl, sym, map, subst}
use Rattle.rank_settings.specs.Settings.{AnswersBy, refusal_of}
use Rattle.clap.specs.Words.{App, HasKind, fault_of, found_of, is_simple, is_simple_and_free, kind_of, matches_of}
use Rattle.clap.specs.Words.{rows_of}
use Rattle.rank_settings.specs.Program.{rank_program}
use Rattle.rank_settings.proofs.ProgramLaws.{is_free_program, is_simple_program}
use Rattle.rank_settings.proofs.SettingsLaws.{refused, taken}
use Rattle.rank_settings.proofs.words.settings_of.Goals as goal

pub returns-in-Ok : goal.returns-in-Ok
returns-in-Ok g c =
    let words = map g.S.AsStr.text c.args.words.now in
    let is_rank = c.in_ok-program.ensures in
    let found = c.in-Ok.ensures.matches (ap is_simple is_rank ∙ is_simple_program) in
    let rows : rows_of (found_of c.in-Ok.matches) ≡ matches_of rank_program words = found.0 ∙ ap (λ (a : App). matches_of a words) is_rank in
    let none = ap (λ (a : App). fault_of a words) (sym is_rank) ∙ c.in-Ok.ensures.kinds (ap is_simple_and_free is_rank ∙ is_free_program) in
    taken (fault_of rank_program words) (matches_of rank_program words) (rows_of (found_of c.in-Ok.matches))
    c.found_settings.result none rows c.found_settings.ensures

pub returns-in-Err : goal.returns-in-Err
returns-in-Err g c =
    let words = map g.S.AsStr.text c.args.words.now in
    let is_rank = c.in_ok-program.ensures in
    let has = c.in-Err.ensures.kinds (ap is_simple_and_free is_rank ∙ is_free_program) in
    subst (AnswersBy (fault_of rank_program words) (matches_of rank_program words)) (sym c.refused_with.ensures)
    (refused (fault_of rank_program words) (matches_of rank_program words) (kind_of c.in-Err.error)
    (refusal_of (kind_of c.in-Err.error)) refl
    (subst (λ (a : App). HasKind (fault_of a words) c.in-Err.error) is_rank has))
