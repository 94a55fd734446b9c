-- Variables that are set one behind the other.
use Rattle.std.proofs.Common.{◌≡◌, ℕ, ◌+◌, ◌<◌, ◌≤◌, Bool, List, [], ◌∷◌, ◌++◌, length, get_or, drop, Option, Some, None, refl, sym, ap, ◌∙◌}
use Rattle.std.specs.Prelude.{bytes_eq, if◌then◌else◌}
use Rattle.std.specs.Process.{command_args, command_program, command_var, SameProgramAndArgs}
use Rattle.std.specs.declared.process.command.Command.{Command}
use Rattle.std.proofs.lemmas.List.{at_drop_more}
use Rattle.launch_keeper.specs.Words.{Word}
use Rattle.rank_environment.specs.Variables.{Setting}
use Rattle.process_commands.specs.Commands.{IsCommandOf, said_after, Sets, SaysNothing}
use Rattle.launch_decisions.specs.declared.start.Start.{Start}
use Rattle.launch_decisions.specs.Starts.{place_of}
use Rattle.rank_environment.specs.Variables.{variables_of}
use Rattle.run_plan.specs.Sets.{program_words}
use Rattle.run_plan.specs.Commands.{setting_at, settings_at, settings_of, IsRankCommand}

pub said_both : (said : Option (Option (List ℕ))) (name : List ℕ) (a b : List Setting) →
    said_after said name (a ++ b) ≡ said_after (said_after said name a) name b
said_both said name [] b = refl
said_both said name (setting ∷ a) b = said_both (if bytes_eq setting.0 name then Some (Some setting.1) else said) name a b

-- these and then those
pub sets_both : {A : Type 0} (old middle new : Command A) (a b : List Setting) → Sets old a middle → Sets middle b new →
    Sets old (a ++ b) new
sets_both old middle new a b first then_b name =
    then_b name ∙ ap (λ (s : Option (Option (List ℕ))). said_after s name b) (first name) ∙
    sym (said_both (command_var old name) name a b)

-- behind a command that says nothing
pub set_both : {A : Type 0} (old middle new : Command A) (a b : List Setting) → SaysNothing old → Sets old a middle →
    Sets middle b new → (name : List ℕ) → command_var new name ≡ said_after None name (a ++ b)
set_both old middle new a b nothing first then_b name =
    sets_both old middle new a b first then_b name ∙
    ap (λ (s : Option (Option (List ℕ))). said_after s name (a ++ b)) (nothing name)

-- what is left to be set, one place less
pub left_more : (words : List Word) (places : List ℕ) (i place : ℕ) → i < length places → place ≡ get_or places i place →
    settings_at words (drop i places) ≡ setting_at words place ++ settings_at words (drop (i + 1) places)
left_more words places i place lt is =
    at_drop_more (settings_at words) places i place lt ∙
    ap (λ (p : ℕ). setting_at words p ++ settings_at words (drop (i + 1) places)) (sym is)

same_words : {A : Type 0} (words : List Word) (old new : Command A) → SameProgramAndArgs old new → IsCommandOf words old →
    IsCommandOf words new
same_words words old new same is =
    is ∙ ap (λ (p : Word). p ∷ command_args old) (sym same.0) ∙ ap (λ (a : List Word). command_program new ∷ a) (sym same.1)

-- a command of a start's own words that sets first the variables of mpirun's words, and then those of its place
pub is_rank_command : {A : Type 0} (start : Start) (launched words : List Word) (has : Bool) (first middle last : Command A) →
    IsCommandOf (program_words launched has) first → SaysNothing first → SameProgramAndArgs first middle →
    Sets first (settings_of words) middle → SameProgramAndArgs middle last →
    Sets middle (variables_of (place_of start)) last → IsRankCommand start launched words has last
is_rank_command start launched words has first middle last is nothing same_1 sets_1 same_2 sets_2 = record {
  words_are =
      same_words (program_words launched has) middle last same_2
      (same_words (program_words launched has) first middle same_1 is);
  variables_are =
      set_both first middle last (settings_of words) (variables_of (place_of start)) nothing sets_1 sets_2;
}
