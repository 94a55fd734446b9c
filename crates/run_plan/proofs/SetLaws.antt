-- The words of a start without those that tell its place.
use Rattle.std.proofs.Common.{◌≡◌, ℕ, ◌+◌, Bool, true, false, List, ◌∷◌, ◌++◌, length, drop, Option, Some, None, refl, ap, ◌∙◌, arith}
use Rattle.std.specs.Prelude.{codes, is_some, min}
use Rattle.launch_keeper.specs.Words.{Word}
use Rattle.launch_plan.specs.declared.process_set.ProcessSet.{ProcessSet}
use Rattle.launch_plan.specs.Launches.{Launch, rank_count, option_words, optional_words, words_of_process}
use Rattle.run_plan.specs.Sets.{program_words}

ten : (program a b c d e f g h i j : Word) (rest : List Word) →
    program_words (program ∷ a ∷ b ∷ c ∷ d ∷ e ∷ f ∷ g ∷ h ∷ i ∷ j ∷ rest) false ≡ program ∷ rest
ten program a b c d e f g h i j rest =
    let n : min (length (a ∷ b ∷ c ∷ d ∷ e ∷ f ∷ g ∷ h ∷ i ∷ j ∷ rest)) 10 ≡ 10 = omega arith in
    ap (λ (k : ℕ). program ∷ drop k (a ∷ b ∷ c ∷ d ∷ e ∷ f ∷ g ∷ h ∷ i ∷ j ∷ rest)) n

twelve : (program a b c d e f g h i j k l : Word) (rest : List Word) →
    program_words (program ∷ a ∷ b ∷ c ∷ d ∷ e ∷ f ∷ g ∷ h ∷ i ∷ j ∷ k ∷ l ∷ rest) true ≡ program ∷ rest
twelve program a b c d e f g h i j k l rest =
    let n : min (length (a ∷ b ∷ c ∷ d ∷ e ∷ f ∷ g ∷ h ∷ i ∷ j ∷ k ∷ l ∷ rest)) 12 ≡ 12 = omega arith in
    ap (λ (m : ℕ). program ∷ drop m (a ∷ b ∷ c ∷ d ∷ e ∷ f ∷ g ∷ h ∷ i ∷ j ∷ k ∷ l ∷ rest)) n

own_by : (r s i j p : ℕ) (patience : Option ℕ) (has : Bool) (process : ProcessSet) → is_some patience ≡ has →
    program_words (process.program ∷ option_words (codes "--rank") r
    ++ option_words (codes "--size") s
    ++ option_words (codes "--inc") i
    ++ option_words (codes "--job") j
    ++ option_words (codes "--port") p
    ++ optional_words (codes "--patience") patience
    ++ process.arguments) has ≡ process.program ∷ process.arguments
own_by r s i j p None true process e = absurd cc
own_by r s i j p None false process e = ten process.program _ _ _ _ _ _ _ _ _ _ process.arguments
own_by r s i j p (Some n) true process e = twelve process.program _ _ _ _ _ _ _ _ _ _ _ _ process.arguments
own_by r s i j p (Some n) false process e = absurd cc

pub own_words : (launch : Launch) (rank incarnation : ℕ) (process : ProcessSet) (has : Bool) (words all : List Word) →
    all ≡ program_words words has → is_some launch.patience ≡ has →
    words ≡ words_of_process launch rank incarnation process → all ≡ process.program ∷ process.arguments
own_words launch rank incarnation process has words all exact patience is =
    exact ∙ ap (λ (w : List Word). program_words w has) is ∙
    own_by rank (rank_count launch.sets) incarnation launch.job (launch.base_port + rank) launch.patience has process
    patience
