-- Reading one set of words from left to right, with the first fault that is met.
use Rattle.std.specs.Prelude.{ℕ, List, [], ◌∷◌, Result, Ok, Err, if◌then◌else◌}
use Rattle.std.specs.List.{list_any, slice_split}
use Rattle.launch_plan.specs.declared.refusal.LaunchRefusal.{LaunchRefusal}
use Rattle.launch_plan.specs.declared.refusal.LaunchRefusal.TheVariants as refusals
use Rattle.launch_plan.specs.declared.symbol.Symbol.{Symbol}
use Rattle.launch_plan.specs.declared.symbol.Symbol.TheVariants as symbols
use Rattle.launch_plan.specs.declared.process_set.ProcessSet.{ProcessSet}
use Rattle.numerals.specs.Numbers.{number_between}
use Rattle.launch_keeper.specs.Words.{Word}
use Rattle.launch_plan.specs.Symbols.{is_separator, symbol_of}
use Rattle.launch_plan.specs.Results.{◌>>=◌, required}

-- a program and its arguments, among which no `:` stands
abbrev pub program_with : ℕ → Word → List Word → Result ProcessSet LaunchRefusal
program_with count program arguments =
    if list_any is_separator arguments then Err refusals.WrongOption
    else Ok (record { count = count; program = program; arguments = arguments })

-- what stands where the program is due, and the words after it
abbrev pub where_program : Symbol → ℕ → Word → List Word → Result ProcessSet LaunchRefusal
where_program symbols.Program count word rest = program_with count word rest
where_program symbols.LeftOut count word rest = Err refusals.LeftOut
where_program symbols.Count count word rest = Err refusals.WrongOption
where_program symbols.File count word rest = Err refusals.WrongOption
where_program symbols.Unknown count word rest = Err refusals.WrongOption
where_program symbols.Separator count word rest = Err refusals.WrongOption
where_program (symbols.Own option) count word rest = Err refusals.WrongOption

-- the words after a count
unfoldable pub program_of : ℕ → List Word → Result ProcessSet LaunchRefusal
program_of count [] = Err refusals.NoProgram
program_of count (word ∷ rest) = where_program (symbol_of word) count word rest

-- the words after `-n`
unfoldable pub counted : List Word → Result ProcessSet LaunchRefusal
counted [] = Err refusals.WrongValue
counted (value ∷ rest) = required (number_between value 1 1024) refusals.WrongValue >>= λ count. program_of count rest

-- what stands where a set begins, and the words after it
abbrev pub where_set : Symbol → List Word → Result ProcessSet LaunchRefusal
where_set symbols.Count rest = counted rest
where_set symbols.LeftOut rest = Err refusals.LeftOut
where_set symbols.Program rest = Err refusals.NoCount
where_set symbols.File rest = Err refusals.WrongOption
where_set symbols.Unknown rest = Err refusals.WrongOption
where_set symbols.Separator rest = Err refusals.WrongOption
where_set (symbols.Own option) rest = Err refusals.WrongOption

-- the words of one set
unfoldable pub set_of : List Word → Result ProcessSet LaunchRefusal
set_of [] = Err refusals.NoSet
set_of (word ∷ rest) = where_set (symbol_of word) rest

-- each of these lists of words as a set
unfoldable pub each_set : List (List Word) → Result (List ProcessSet) LaunchRefusal
each_set [] = Ok []
each_set (words ∷ others) = do
  set ← set_of words
  sets ← each_set others
  Ok (set ∷ sets)

-- the words of the sets, which stand apart by `:`
abbrev pub sets_of : List Word → Result (List ProcessSet) LaunchRefusal
sets_of words = each_set (slice_split is_separator words)
