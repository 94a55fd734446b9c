-- What the launcher's words ask for beside a launch.
use Rattle.std.specs.Prelude.{◌≡◌, ◌≢◌, ◌⊎◌, ℕ, Bool, true, false, List, [], ◌∷◌, codes}
use Rattle.std.specs.Str.{bytes_eq}
use Rattle.launch_keeper.specs.Words.{Word}
use Rattle.launch_decisions.specs.declared.request.LaunchRequest.{LaunchRequest}

-- the word that stands in front of a launch that a failure ends
abbrev pub is_abort : Word → Bool
is_abort word = bytes_eq word (codes "-abort")

-- whether the words begin with it
abbrev pub aborts : List Word → Bool
aborts [] = false
aborts (word ∷ words) = is_abort word

-- the words behind `-abort`, where it stands in front of them, or else all words
abbrev pub IsRequest : List Word → LaunchRequest → Type 0
IsRequest words request =
    (request.aborts ≡ aborts words)
    × (((request.aborts ≡ true) × (words ≡ codes "-abort" ∷ request.words.now))
    ⊎ ((request.aborts ≡ false) × (words ≡ request.words.now)))
