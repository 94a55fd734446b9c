-- Reading all the words from left to right, with the first fault that is met.
use Rattle.std.specs.Prelude.{ℕ, List, [], ◌∷◌, Option, Some, None, Result, Ok, Err}
use Rattle.launch_plan.specs.declared.refusal.LaunchRefusal.{LaunchRefusal}
use Rattle.launch_plan.specs.declared.refusal.LaunchRefusal.TheVariants as refusals
use Rattle.launch_plan.specs.declared.process_set.ProcessSet.{ProcessSet}
use Rattle.launch_keeper.specs.Words.{Word}
use Rattle.launch_plan.specs.Results.{◌>>=◌}
use Rattle.launch_plan.specs.Options.{Opening, nothing_given, opening_of}
use Rattle.launch_plan.specs.Sets.{sets_of}
use Rattle.launch_plan.specs.Configuration.{sets_of_file}
use Rattle.launch_plan.specs.Launches.{Launch, launch_with, limited}

-- nothing may stand behind the configuration file's name
abbrev pub if_ended : List Word → List ProcessSet → Result (List ProcessSet) LaunchRefusal
if_ended [] sets = Ok sets
if_ended (word ∷ words) sets = Err refusals.WrongOption

-- the sets from the file that is named, which no word may follow, or else from the words
abbrev pub sets_where : Option Word → List Word → Option (List ℕ) → Result (List ProcessSet) LaunchRefusal
sets_where None rest config = sets_of rest
sets_where (Some name) rest config = sets_of_file config >>= if_ended rest

-- the sets behind the own options, from the words or from the configuration file
unfoldable pub sets_behind : Opening → Option (List ℕ) → Result (List ProcessSet) LaunchRefusal
sets_behind opening config = sets_where opening.file opening.rest config

-- All the words, and what the configuration file holds that they name, if it can be read. The limits
-- are judged last.
unfoldable pub launch_of : List Word → Option (List ℕ) → Result Launch LaunchRefusal
launch_of words config = do
  opening ← opening_of nothing_given words
  sets ← sets_behind opening config
  limited (launch_with opening.given sets)
