-- The grammar of the launcher's words, and what they ask for.
use Rattle.std.specs.Prelude.{◌≡◌, ◌≢◌, ◌⊎◌, ℕ, ◌≤◌, List, [], ◌∷◌, ◌++◌, slice_index, codes, Option, Some, None}
use Rattle.std.specs.List.{AllByRecursion}
use Rattle.std.specs.Fmt.{decimal}
use Rattle.launch_plan.specs.declared.symbol.OwnOption.{OwnOption}
use Rattle.launch_plan.specs.declared.symbol.OwnOption.TheVariants.{Job, BasePort, Restart, Patience}
use Rattle.launch_plan.specs.declared.given_options.GivenOptions.{GivenOptions}
use Rattle.launch_plan.specs.declared.process_set.ProcessSet.{ProcessSet}
use Rattle.launch_keeper.specs.Words.{Word}
use Rattle.launch_plan.specs.Symbols.{least_of, greatest_of}
use Rattle.launch_plan.specs.Options.{nothing_given, given_of, with_number}
use Rattle.launch_plan.specs.Configuration.{lines_of}
use Rattle.launch_plan.specs.Launches.{Launch, launch_with, IsWithinLimits}

-- ---- sets

-- the word between two sets
abbrev pub colon : Word
colon = codes ":"

-- a program neither begins with `-` nor is `:`
pub record IsProgram (word : Word) : Type 0 where
  pub plain : slice_index word 0 ≢ 45
  pub apart : word ≢ colon

-- `-n`, the number of processes, the program and its arguments are the words of this set
pub record IsSet (words : List Word) (set : ProcessSet) : Type 0 where
  pub spelled : words ≡ codes "-n" ∷ decimal set.count ∷ set.program ∷ set.arguments
  pub least : 1 ≤ set.count
  pub most : set.count ≤ 1024
  pub program : IsProgram set.program
  pub arguments : AllByRecursion (λ word. word ≢ colon) set.arguments

-- one set or more, which stand apart by `:`
abbrev pub AreSets : List Word → List ProcessSet → Type 0
AreSets words [] = ⊥
AreSets words (set ∷ []) = IsSet words set
AreSets words (set ∷ next ∷ sets) =
    (first : List Word) × (rest : List Word) × (words ≡ first ++ colon ∷ rest) × IsSet first set ×
    AreSets rest (next ∷ sets)

-- a set a line
abbrev pub AreLineSets : List (List Word) → List ProcessSet → Type 0
AreLineSets [] [] = Unit {0}
AreLineSets [] (set ∷ sets) = ⊥
AreLineSets (line ∷ lines) [] = ⊥
AreLineSets (line ∷ lines) (set ∷ sets) = IsSet line set × AreLineSets lines sets

-- the configuration file has a line of words for each of these sets, of which there is one at least
pub record IsFile (bytes : List ℕ) (sets : List ProcessSet) : Type 0 where
  pub some : sets ≢ []
  pub each : AreLineSets (lines_of bytes) sets

-- ---- own options

-- the word of an own option
abbrev pub name_of : OwnOption → Word
name_of Job = codes "-job"
name_of BasePort = codes "-baseport"
name_of Restart = codes "-restart"
name_of Patience = codes "-patience"

-- the two words give this number to the option
pub record IsOption (option : OwnOption) (number : ℕ) (name value : Word) : Type 0 where
  pub name_is : name ≡ name_of option
  pub spelled : value ≡ decimal number
  pub least : least_of option ≤ number
  pub greatest : number ≤ greatest_of option

-- from what was given before these words lead to what is given after them, each option at most once
abbrev pub AreOptions : GivenOptions → List Word → GivenOptions → Type 0
AreOptions before [] after = before ≡ after
AreOptions before (name ∷ []) after = ⊥
AreOptions before (name ∷ value ∷ words) after =
    (option : OwnOption) × (number : ℕ) × IsOption option number name value × (given_of option before ≡ None) ×
    AreOptions (with_number option before number) words after

-- the word in front of the configuration file's name (MPI 3.1, 8.8)
abbrev pub file_option : Word
file_option = codes "-configfile"

-- the words reach this file's name
pub record ReachesFile (words : List Word) (name : Word) : Type 0 where
  pub own : List Word
  pub rest : List Word
  pub given : GivenOptions
  pub spelled : words ≡ own ++ file_option ∷ name ∷ rest
  pub options : AreOptions nothing_given own given

-- ---- all the words

-- behind the own options stand the sets, or the name of a file that has them
abbrev pub Names : List Word → Option (List ℕ) → List ProcessSet → Type 0
Names words config sets =
    AreSets words sets ⊎
    ((name : Word) × (bytes : List ℕ) × (words ≡ file_option ∷ name ∷ []) × (config ≡ Some bytes) ×
    IsFile bytes sets)

-- these words, and what the configuration file holds, ask for this launch
pub record AskFor (words : List Word) (config : Option (List ℕ)) (launch : Launch) : Type 0 where
  pub own : List Word
  pub rest : List Word
  pub given : GivenOptions
  pub spelled : words ≡ own ++ rest
  pub options : AreOptions nothing_given own given
  pub sets : Names rest config launch.sets
  pub values : launch ≡ launch_with given launch.sets
  pub limits : IsWithinLimits launch
