-- The grammar of texts: what the lines of a text say, and which of them is the first faulty one. It speaks of any kind
-- of item, by a relation: the words of the line of this number say this item.
use Rattle.std.specs.Prelude.{◌≡◌, ◌⊎◌, ℕ, ◌+◌, ◌≤◌, List, [], ◌∷◌, ◌++◌, slice_index}
use Rattle.std.specs.List.{AllByRecursion}
use Rattle.tokens.specs.Grammar.{Word}
use Rattle.tokens.specs.Lines.{tokens_of}

-- from space to `~`
abbrev pub IsText : List ℕ → Type 0
IsText line = AllByRecursion (λ byte. (32 ≤ byte) × (byte ≤ 126)) line

-- no words, or a first word that begins with `#`
abbrev pub IsSkipped : List Word → Type 0
IsSkipped [] = Unit {0}
IsSkipped (word ∷ words) = slice_index word 0 ≡ 35

-- a line of text that isn't skipped
abbrev pub IsMeant : List ℕ → Type 0
IsMeant line = IsText line × (IsSkipped (tokens_of line) → ⊥)

-- the line of this number says nothing, since it is skipped, or the one item that its words say
abbrev pub LineSays : {A : Type 0} → (ℕ → List Word → A → Type 0) → ℕ → List ℕ → List A → Type 0
LineSays Says number line [] = IsText line × IsSkipped (tokens_of line)
LineSays Says number line (item ∷ []) = IsMeant line × Says number (tokens_of line) item
LineSays Says number line (item ∷ more ∷ others) = ⊥

-- the lines from this number on say these items, one after the other
abbrev pub LinesSay : {A : Type 0} → (ℕ → List Word → A → Type 0) → ℕ → List (List ℕ) → List A → Type 0
LinesSay Says number [] said = said ≡ []
LinesSay {A} Says number (line ∷ lines) said =
    (front rest : List A) × LineSays Says number line front × LinesSay Says (number + 1) lines rest ×
    (said ≡ front ++ rest)

-- the line of this number says nothing that is in the language
abbrev pub IsFaulty : {A : Type 0} → (ℕ → List Word → A → Type 0) → ℕ → List ℕ → Type 0
IsFaulty {A} Says number line = (said : List A) → LineSays Says number line said → ⊥

-- the lines before this one say something, and this one is faulty
abbrev pub IsFirstFault : {A : Type 0} → (ℕ → List Word → A → Type 0) → ℕ → List (List ℕ) → ℕ → Type 0
IsFirstFault Says number [] faulty = ⊥
IsFirstFault {A} Says number (line ∷ lines) faulty =
    ((faulty ≡ number) × IsFaulty Says number line) ⊎
    ((front : List A) × LineSays Says number line front × IsFirstFault Says (number + 1) lines faulty)
