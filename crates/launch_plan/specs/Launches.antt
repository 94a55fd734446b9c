-- What the words ask for: which processes, as which ranks, with which words.
use Rattle.std.specs.Prelude.{ℕ, ◌+◌, ◌≤◌, List, [], ◌∷◌, ◌++◌, replicate, sum_by, unwrap_or, codes, slice_get}
use Rattle.std.specs.Prelude.{option_map, Option, Some, None, Result, Ok, Err, Bool, ◌&&◌, nat_le, if◌then◌else◌}
use Rattle.std.specs.List.{flat_map}
use Rattle.std.specs.Fmt.{decimal}
use Rattle.launch_plan.specs.declared.refusal.LaunchRefusal.{LaunchRefusal}
use Rattle.launch_plan.specs.declared.refusal.LaunchRefusal.TheVariants as refusals
use Rattle.launch_plan.specs.declared.given_options.GivenOptions.{GivenOptions}
use Rattle.launch_plan.specs.declared.process_set.ProcessSet.{ProcessSet}
use Rattle.launch_keeper.specs.Words.{Word}

-- what is launched: the values of the own options, and the sets in their order
pub record Launch : Type 0 where
  pub job : ℕ
  pub base_port : ℕ
  pub restarts : ℕ
  pub patience : Option ℕ
  pub sets : List ProcessSet

-- the processes, through the sets in their order
abbrev pub processes : List ProcessSet → List ProcessSet
processes sets = flat_map (λ set. replicate set.count set) sets

-- how many processes there are
abbrev pub rank_count : List ProcessSet → ℕ
rank_count sets = sum_by (λ set. set.count) sets

-- an option and its number
abbrev pub option_words : Word → ℕ → List Word
option_words name number = name ∷ decimal number ∷ []

-- an option that is left out where its number wasn't given
abbrev pub optional_words : Word → Option ℕ → List Word
optional_words name None = []
optional_words name (Some number) = option_words name number

-- the program of a process, what it is told of its place, and its own arguments
abbrev pub words_of_process : Launch → ℕ → ℕ → ProcessSet → List Word
words_of_process launch rank incarnation process =
    process.program ∷ option_words (codes "--rank") rank
    ++ option_words (codes "--size") (rank_count launch.sets)
    ++ option_words (codes "--inc") incarnation
    ++ option_words (codes "--job") launch.job
    ++ option_words (codes "--port") (launch.base_port + rank)
    ++ optional_words (codes "--patience") launch.patience
    ++ process.arguments

-- the words of a rank, which is the rank-th process through the sets, from 0
abbrev pub words_of_rank : Launch → ℕ → ℕ → Option (List Word)
words_of_rank launch rank incarnation =
    option_map (words_of_process launch rank incarnation) (slice_get (processes launch.sets) rank)

-- the launch of these sets, with the defaults of the options that were not given
abbrev pub launch_with : GivenOptions → List ProcessSet → Launch
launch_with given sets = record {
  job = unwrap_or given.job 1;
  base_port = unwrap_or given.base_port 47000;
  restarts = unwrap_or given.restarts 0;
  patience = given.patience;
  sets = sets;
}

-- at most 1,024 ranks, and no port above 65,535
pub record IsWithinLimits (launch : Launch) : Type 0 where
  pub ranks : rank_count launch.sets ≤ 1024
  pub ports : launch.base_port + rank_count launch.sets ≤ 65536

-- whether a launch has at most 1,024 ranks and no port above 65,535
abbrev pub is_within_limits : Launch → Bool
is_within_limits launch = nat_le (rank_count launch.sets) 1024 &&
    nat_le (launch.base_port + rank_count launch.sets) 65536

-- the launch, if it is within the limits
unfoldable pub limited : Launch → Result Launch LaunchRefusal
limited launch = if is_within_limits launch then Ok launch else Err refusals.OverLimit
