-- What is written, line by line.
use Rattle.std.specs.Prelude.{◌≡◌, ℕ, List, [], ◌∷◌, ◌++◌, Option}
use Rattle.std.specs.List.{flat_map}
use Rattle.std.specs.Io.KnownBytes.{Appends}
use Rattle.simulation.specs.declared.error.SimulateError.{SimulateError}
use Rattle.simulation.specs.declared.error.SimulateError.TheVariants as errors

-- these lines as they are written, each with its end
abbrev pub text_of : List (List ℕ) → List ℕ
text_of lines = flat_map (λ line. line ++ 10 ∷ []) lines

-- what a writer holds, where that is known, has grown by just these lines
abbrev pub Prints : (old new : Option (List ℕ)) → List (List ℕ) → Type 0
Prints old new lines = Appends old new (text_of lines)

-- it has grown by the first of these lines, by some of them or by all
abbrev pub PrintsBeginning : (old new : Option (List ℕ)) → List (List ℕ) → Type 0
PrintsBeginning old new lines = (first rest : List (List ℕ)) × (lines ≡ first ++ rest) × Prints old new first

-- Printing these lines was cut off: for want of memory behind one of them. Where the output failed, what it took isn't
-- known
abbrev pub CutsOff : SimulateError → (old new : Option (List ℕ)) → List (List ℕ) → Type 0
CutsOff (errors.Line line) old new lines = ⊥
CutsOff errors.OutOfMemory old new lines = PrintsBeginning old new lines
CutsOff errors.Output old new lines = Unit {0}
