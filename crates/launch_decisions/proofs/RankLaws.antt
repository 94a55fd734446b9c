-- The commands of ranks, one more at a time.
use Rattle.std.proofs.Common.{◌≡◌, ℕ, zero, suc, ◌+◌, List, [], ◌∷◌, ◌++◌, map, ap, sym, ◌∙◌, arith}
use Rattle.std.specs.List.{range_with_len}
use Rattle.std.specs.declared.process.command.Command.{Command}
use Rattle.std.proofs.lemmas.List.{map-append}
use Rattle.launch_keeper.specs.Roles.{keeper_words}
use Rattle.launch_keeper.specs.Words.{Word}
use Rattle.process_commands.specs.Commands.{IsCommandOf}
use Rattle.launch_decisions.specs.Starts.{started_words, ArePrograms}

range_suc : (a n : ℕ) → range_with_len a (suc n) ≡ range_with_len a n ++ (a + n) ∷ []
range_suc a zero = ap (λ (x : ℕ). x ∷ []) (omega arith)
range_suc a (suc n) =
    ap (λ (t : List ℕ). a ∷ t) (range_suc (a + 1) n ∙ ap (λ (x : ℕ). range_with_len (a + 1) n ++ x ∷ []) (omega arith))

range_more : (n : ℕ) → range_with_len 0 (n + 1) ≡ range_with_len 0 n ++ n ∷ []
range_more n = let e : n + 1 ≡ suc n = omega arith in ap (λ (k : ℕ). range_with_len 0 k) e ∙
    (range_suc 0 n ∙ ap (λ (x : ℕ). range_with_len 0 n ++ x ∷ []) (omega arith))

words_more : (f : ℕ → List Word) (n : ℕ) → map f (range_with_len 0 (n + 1)) ≡ map f (range_with_len 0 n) ++ f n ∷ []
words_more f n = ap (λ (l : List ℕ). map f l) (range_more n) ∙ map-append f (range_with_len 0 n) (n ∷ [])

-- with the command of the next rank there is one more
pub programs_more : {A : Type 0} (itself : List ℕ) (words : List Word) (size : ℕ) (commands : List (Command A))
    (command : Command A) → ArePrograms itself words size commands →
    IsCommandOf (itself ∷ keeper_words size words) command →
    ArePrograms itself words (size + 1) (commands ++ command ∷ [])
programs_more {A} itself words size commands command are is =
    map-append (started_words {A = A}) commands (command ∷ [])
    ∙ ap (λ (l : List (List Word)). l ++ started_words command ∷ []) are
    ∙ ap (λ (w : List Word). map (λ rank. itself ∷ keeper_words rank words) (range_with_len 0 size) ++ w ∷ []) (sym is)
    ∙ sym (words_more (λ rank. itself ∷ keeper_words rank words) size)
